-- When the ranks of a grid hold a group of a matrix.
use Rattle.std.specs.Prelude.{◌≡◌, ◌<◌, ℕ, Some}
use Rattle.run_data.specs.Matrix.{Matrix}
use Rattle.blacs_grid.specs.Places.{rank_at}
use Rattle.rank_machine.specs.declared.slot.SlotKind.TheVariants.{Data}
use Rattle.rank_machine.specs.declared.slot.Tile.TheVariants.{Words}
use Rattle.rank_machine.specs.declared.layout.Layout.{Layout}
use Rattle.rank_machine.specs.Setting.{strip_of}
use Rattle.rank_machine.specs.State.{State}
use Rattle.rank_machine.specs.CodeLaw.{slot_at}

-- each data rank of the grid holds its strip of a group of the matrix, in the slot of a line
abbrev pub HoldsGroup : State → Layout → ℕ → Matrix → ℕ → Type 0
HoldsGroup st d line m group =
    (row col : ℕ) → row < d.grid.p → col < d.grid.q → st.tiles (rank_at d.grid row col) (slot_at Data line group) ≡ Some (Words (strip_of d m (rank_at d.grid row col) group))
