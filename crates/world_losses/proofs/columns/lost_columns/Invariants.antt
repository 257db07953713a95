use Rattle.std.proofs.Common.{◌≡◌}
use Rattle.block_world.specs.World.{state_of}
use Rattle.world_losses.proofs.Rows.{columns_before}
use Rattle.world_losses.proofs.columns.lost_columns.Given as goal

abbrev pub invariant-loop-col : goal.invariant-loop-col
invariant-loop-col g l = l.lost.items ≡ columns_before (state_of l.world) l.grid l.row l.col
