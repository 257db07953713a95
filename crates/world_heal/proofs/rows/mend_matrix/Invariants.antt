use Rattle.std.proofs.Common.{◌*◌}
use Rattle.rank_machine.specs.Setting.{layout}
use Rattle.block_world.specs.World.{setting_in}
use Rattle.world_heal.specs.Mended.{HasMended, AreRowsHealed}
use Rattle.world_heal.proofs.RowSteps.{row_most}
use Rattle.world_heal.proofs.rows.mend_matrix.Given as goal

abbrev pub invariant-loop-row : goal.invariant-loop-row
invariant-loop-row g l = HasMended (l.row * row_most (layout (setting_in l.initial.world) l.line)) (AreRowsHealed l.line l.row) l.initial.world l.world
