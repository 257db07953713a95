-- The slots that a rank holds, each with its tile, what was saved of it, and whether it is fresh.
use Rattle.std.specs.Prelude.{◌≡◌, ◌+◌, ◌&&◌, ◌||◌, ◌==◌, ℕ, suc, Bool, true, false, not, nat_lt, if◌then◌else◌, Option, Some, None, List, [], ◌∷◌, All}
use Rattle.run_data.specs.Matrix.{Matrix, IsShaped, AreWords}
use Rattle.rank_machine.specs.declared.slot.Slot.{Slot}
use Rattle.rank_machine.specs.declared.slot.Tile.{Tile}
use Rattle.rank_machine.specs.declared.slot.Tile.TheVariants.{Words, Index}
use Rattle.rank_machine.specs.State.{kind_number, same_kind, same_slot}
use Rattle.rank_machine.specs.Held.{size_of}
use Rattle.rank_slots.specs.declared.cells.Cell.{Cell}

-- the first cell of a slot
abbrev pub cell_in : List Cell → Slot → Option Cell
cell_in [] slot = None
cell_in (x ∷ xs) slot = if same_slot slot x.slot then Some x else cell_in xs slot

abbrev pub tile_of : Option Cell → Option Tile
tile_of None = None
tile_of (Some x) = Some x.tile

abbrev pub saved_of : Option Cell → Option Tile
saved_of None = None
saved_of (Some x) = x.saved

abbrev pub fresh_of : Option Cell → Bool
fresh_of None = false
fresh_of (Some x) = x.fresh

-- what a slot holds, what was saved of it, and whether it is fresh
abbrev pub tiles_in : List Cell → Slot → Option Tile
tiles_in xs slot = tile_of (cell_in xs slot)

abbrev pub saved_in : List Cell → Slot → Option Tile
saved_in xs slot = saved_of (cell_in xs slot)

abbrev pub fresh_in : List Cell → Slot → Bool
fresh_in xs slot = fresh_of (cell_in xs slot)

-- whether a slot comes before another: by their kinds, then by line or number, then by group
abbrev pub is_before : Slot → Slot → Bool
is_before a b = nat_lt (kind_number a.kind) (kind_number b.kind) || (same_kind a.kind b.kind && (nat_lt a.id b.id || ((a.id == b.id) && nat_lt a.group b.group)))

-- each cell's slot comes before those of the later ones
abbrev pub AreOrdered : List Cell → Type 0
AreOrdered [] = Unit {0}
AreOrdered (x ∷ xs) = All (λ (y : Cell). is_before x.slot y.slot ≡ true) xs × AreOrdered xs

-- how many cells come before a slot
abbrev pub place_in : List Cell → Slot → ℕ
place_in [] slot = 0
place_in (x ∷ xs) slot = if is_before x.slot slot then suc (place_in xs slot) else 0

-- a cell takes the place of its slot's own, or goes before the first whose slot comes later
abbrev pub with_cell : List Cell → Cell → List Cell
with_cell [] c = c ∷ []
with_cell (x ∷ xs) c = if same_slot c.slot x.slot then c ∷ xs else if is_before c.slot x.slot then c ∷ x ∷ xs else x ∷ with_cell xs c

-- a slot's cell with another tile; a new one is fresh
abbrev pub cell_with : Option Cell → Slot → Tile → Cell
cell_with None slot t = record { slot = slot; tile = t; saved = None; fresh = true }
cell_with (Some x) slot t = record { slot = slot; tile = t; saved = x.saved; fresh = x.fresh }

-- the slot gets a tile
abbrev pub with_tile_in : List Cell → Slot → Tile → List Cell
with_tile_in xs slot t = with_cell xs (cell_with (cell_in xs slot) slot t)

-- the tile of a slot that is there is saved
abbrev pub with_saved_cell : List Cell → Option Cell → List Cell
with_saved_cell xs None = xs
with_saved_cell xs (Some x) = with_cell xs (record { slot = x.slot; tile = x.tile; saved = Some x.tile; fresh = x.fresh })

abbrev pub with_saved_in : List Cell → Slot → List Cell
with_saved_in xs slot = with_saved_cell xs (cell_in xs slot)

-- a cell with nothing saved, and fresh if its slot does not pass a test
abbrev pub judged : (Slot → Bool) → Cell → Cell
judged test x = record { slot = x.slot; tile = x.tile; saved = None; fresh = not (test x.slot) }

-- the cells of the slots that pass a test, with nothing saved and none fresh
abbrev pub kept_in : (Slot → Bool) → List Cell → List Cell
kept_in test [] = []
kept_in test (x ∷ xs) = if test x.slot then record { slot = x.slot; tile = x.tile; saved = None; fresh = false } ∷ kept_in test xs else kept_in test xs

-- how many words cells hold, with what was saved
abbrev pub words_of_cells : List Cell → ℕ
words_of_cells [] = 0
words_of_cells (x ∷ xs) = (size_of (Some x.tile) + size_of x.saved) + words_of_cells xs

abbrev pub empty_tile : Tile
empty_tile = Index []

-- words that are residues, in columns of one length
pub record IsMatrixOf (p : ℕ) (m : Matrix) : Type 0 where
  pub shaped : IsShaped m
  pub words : AreWords p m

abbrev pub IsTileOf : ℕ → Tile → Type 0
IsTileOf p (Words m) = IsMatrixOf p m
IsTileOf p (Index ns) = Unit {0}

abbrev pub IsSomeTileOf : ℕ → Option Tile → Type 0
IsSomeTileOf p None = Unit {0}
IsSomeTileOf p (Some t) = IsTileOf p t

pub record IsCellOf (p : ℕ) (x : Cell) : Type 0 where
  pub tile : IsTileOf p x.tile
  pub saved : IsSomeTileOf p x.saved

-- all words of a rank are residues
abbrev pub AreCellsOf : ℕ → List Cell → Type 0
AreCellsOf p xs = All (IsCellOf p) xs

-- what is held, with another tile in one slot
abbrev pub with_slot : (Slot → Option Tile) → Slot → Tile → Slot → Option Tile
with_slot holding slot t x = if same_slot x slot then Some t else holding x
