-- Strips that hold words, as the ranks of a process column hold them.
use Rattle.std.specs.Prelude.{◌≡◌, ◌<◌, ℕ, true}
use Rattle.rank_machine.specs.declared.slot.SlotKind.TheVariants.{Work}
use Rattle.rank_machine.specs.declared.slot.Slot.{Slot}
use Rattle.rank_machine.specs.declared.layout.Layout.{Layout}
use Rattle.rank_machine.specs.Effect.{is_words}
use Rattle.rank_machine.specs.CodeLaw.{slot_at}
use Rattle.elimination.specs.Strips.{Hold}
use Rattle.phase_laws.specs.Columns.{rows_of, strips_in}
use Rattle.round_laws.specs.Holdings.{Holding}

abbrev pub work : ℕ → Slot
work n = slot_at Work n 0

-- in a slot the ranks of a process column hold strips of a matrix that lies by d, which they may change; the strips hold the words, by global row and by
-- the strip's column
pub record HoldsWords (d : Layout) (slot : Slot) (words : ℕ → ℕ → ℕ) (at : ℕ → Holding) : Type 0 where
  pub there : (row : ℕ) → row < d.grid.p → is_words ((at row).tiles slot) ≡ true
  pub free : (row : ℕ) → row < d.grid.p → (at row).free slot ≡ true
  pub hold : Hold (rows_of d) d.desc.nb words (strips_in (λ row. (at row).tiles) slot)
