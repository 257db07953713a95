-- What the cells of a rank fall back to.
use Rattle.std.specs.Prelude.{◌||◌, Bool, false, not, None, is_some, unwrap_or, if◌then◌else◌, List, [], ◌∷◌}
use Rattle.rank_slots.specs.declared.cells.Cell.{Cell}

-- a cell that stays: it is not fresh, or was saved
abbrev pub stays : Cell → Bool
stays x = not x.fresh || is_some x.saved

-- a cell with what was saved of it
abbrev pub undone : Cell → Cell
undone x = record { slot = x.slot; tile = unwrap_or x.saved x.tile; saved = None; fresh = false }

-- what was saved goes back, and what is fresh goes
abbrev pub undone_in : List Cell → List Cell
undone_in [] = []
undone_in (x ∷ xs) = if stays x then undone x ∷ undone_in xs else undone_in xs
