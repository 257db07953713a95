-- The searches of the ranks: of a pivot in a column, and of a zero on the diagonal.
use Rattle.std.specs.Prelude.{◌≡◌, ℕ, ◌+◌, ◌<◌, ◌≤◌, ◌==◌, if◌then◌else◌, Option, Some, None}
use Rattle.blacs_grid.specs.Places.{rank_at}
use Rattle.rank_machine.specs.declared.slot.SlotKind.TheVariants.{Data}
use Rattle.rank_machine.specs.declared.slot.Slot.{Slot}
use Rattle.rank_machine.specs.declared.slot.Piece.{Piece}
use Rattle.rank_machine.specs.declared.kernel.Kernel.TheVariants as k
use Rattle.rank_machine.specs.declared.layout.Layout.{Layout}
use Rattle.rank_machine.specs.Setting.{Setting, group_count, layout}
use Rattle.rank_machine.specs.Effect.{Memory, none_number, first_number, slot_of, made_by}
use Rattle.rank_machine.specs.CodeLaw.{slot_at}
use Rattle.elimination.specs.Strips.{Hold}
use Rattle.phase_laws.specs.Columns.{rows_of, strips_in, columns_of}

-- the number that stands for a row that was found, or for none
abbrev pub number_found : Option ℕ → ℕ
number_found None = none_number
number_found (Some r) = r + 1

-- v is the least of the numbers f 0, .., f (n - 1), as any combine by the smaller of two gives it
pub record IsLeastOf (n : ℕ) (f : ℕ → ℕ) (v : ℕ) : Type 0 where
  pub below : (k : ℕ) → k < n → v ≤ f k
  pub among : (k : ℕ) × (k < n) × (f k ≡ v)

-- the ranks of each process column hold the words a of a matrix: `mem` gives what they hold, by process column and row
pub record HoldMatrix (d : Layout) (line : ℕ) (a : ℕ → ℕ → ℕ) (mem : ℕ → ℕ → Memory) : Type 0 where
  pub strips : (group col : ℕ) → group < group_count d → col < d.grid.q → Hold (rows_of d) d.desc.nb (λ i c. a i (columns_of d group c col)) (strips_in (mem col) (slot_at Data line group))

-- the number that `diag` makes in the slot `to` on the rank at a process row and column: that of the first zero, from 1, among the first n words of the diagonal that lie on it, or none. The matrix is that of the slot of `from`
abbrev pub zero_found : Setting → Slot → Piece → (ℕ → ℕ → Memory) → ℕ → ℕ → ℕ → ℕ
zero_found s to from mem n row col = first_number (Some (made_by s (rank_at (layout s (slot_of from).id).grid row col) (mem col row) (k.Diag to from n)))

-- the number that stands for INFO: none where it is 0
abbrev pub info_number : ℕ → ℕ
info_number info = if info == 0 then none_number else info
