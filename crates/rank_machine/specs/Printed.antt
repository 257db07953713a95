-- What the committed takes say of each line.
use Rattle.std.specs.Prelude.{◌≡◌, ◌/◌, ◌%◌, ◌<◌, ◌&&◌, ◌==◌, ◌∷◌, if◌then◌else◌, ℕ, Bool, Option, Some, None, List, []}
use Rattle.run_data.specs.Matrix.{Matrix, cols, entry}
use Rattle.array_desc.specs.Maps.{owner, local}
use Rattle.blacs_grid.specs.Places.{rank_at}
use Rattle.rank_machine.specs.declared.slot.SlotKind.{SlotKind}
use Rattle.rank_machine.specs.declared.slot.SlotKind.TheVariants.{Data, Pivots, Work}
use Rattle.rank_machine.specs.declared.slot.Slot.{Slot}
use Rattle.rank_machine.specs.declared.slot.Tile.{Tile}
use Rattle.rank_machine.specs.declared.slot.Tile.TheVariants.{Words, Index}
use Rattle.rank_machine.specs.declared.layout.Layout.{Layout}
use Rattle.rank_machine.specs.Setting.{Setting, layout}
use Rattle.rank_machine.specs.State.{same_kind, same_slot, Took, or_else}
use Rattle.rank_machine.specs.Effect.{none_number}

-- the tile of the last take that passes a test
abbrev pub last_take : List Took → (Took → Bool) → Option Tile
last_take [] test = None
last_take (t ∷ ts) test = or_else (last_take ts test) (if test t then t.tile else None)

-- the tile of the line's last take from a slot of a rank, and from any slot of a kind
abbrev pub taken_from : List Took → ℕ → ℕ → Slot → Option Tile
taken_from taken line rank slot = last_take taken (λ t. ((t.line == line) && (t.rank == rank)) && same_slot t.slot slot)

abbrev pub taken_of : List Took → ℕ → SlotKind → Option Tile
taken_of taken line kind = last_take taken (λ t. (t.line == line) && same_kind t.slot.kind kind)

-- the tile that holds an entry, rows and columns from 0, and its place there
abbrev pub tile_of : List Took → ℕ → ℕ → Layout → ℕ → ℕ → Option Tile
tile_of taken line what d i j =
    taken_from taken line (rank_at d.grid (owner i d.desc.mb d.desc.rsrc d.grid.p) (owner j d.desc.nb d.desc.csrc d.grid.q)) (record { kind = Data; id = what; group = (j / d.desc.nb) / d.grid.q })

-- the matrix that a print line gives of the matrix that a line made
pub record IsPrinted (s : Setting) (taken : List Took) (line what : ℕ) (m : Matrix) : Type 0 where
  pub rows : m.rows ≡ (layout s what).desc.m
  pub columns : cols m ≡ (layout s what).desc.n
  pub entries : (i j : ℕ) → i < m.rows → j < cols m → (t : Matrix) × (tile_of taken line what (layout s what) i j ≡ Some (Words t)) × (local i (layout s what).desc.mb (layout s what).grid.p < t.rows) × (j % (layout s what).desc.nb < cols t) × (entry m i j ≡ entry t (local i (layout s what).desc.mb (layout s what).grid.p) (j % (layout s what).desc.nb))

-- the list that a pivots line gives of a list
abbrev pub AreNumbers : List Took → ℕ → ℕ → List ℕ → Type 0
AreNumbers taken line what numbers = last_take taken (λ t. (t.line == line) && (same_kind t.slot.kind Pivots && (t.slot.id == what))) ≡ Some (Index numbers)

-- INFO is the number of the line's last take from a Work slot, or 0 where that means none
abbrev pub IsInfo : List Took → ℕ → ℕ → Type 0
IsInfo taken line info = (n : ℕ) × (taken_of taken line Work ≡ Some (Index (n ∷ []))) × (info ≡ (if n == none_number then 0 else n))
