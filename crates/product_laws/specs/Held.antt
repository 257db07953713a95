-- When the ranks of a grid hold a whole matrix, group by group.
use Rattle.std.specs.Prelude.{ℕ, ◌<◌}
use Rattle.run_data.specs.Matrix.{Matrix}
use Rattle.rank_machine.specs.declared.layout.Layout.{Layout}
use Rattle.rank_machine.specs.Setting.{group_count}
use Rattle.rank_machine.specs.State.{State}
use Rattle.dist_matrix.specs.Strips.{HasShape}
use Rattle.phase_frames.specs.Groups.{HoldsGroup}

-- the data ranks hold the strips of a matrix in the slots of a line
abbrev pub HoldsGroups : State → Layout → ℕ → Matrix → Type 0
HoldsGroups st d line m = (group : ℕ) → group < group_count d → HoldsGroup st d line m group

-- they hold those of some matrix of the layout's shape
pub record HoldsSome (st : State) (d : Layout) (line : ℕ) : Type 0 where
  pub matrix : Matrix
  pub shape : HasShape d matrix
  pub groups : HoldsGroups st d line matrix
