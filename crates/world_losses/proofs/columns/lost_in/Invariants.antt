use Rattle.std.proofs.Common.{◌≡◌, ◌≤◌}
use Rattle.block_world.specs.World.{state_of}
use Rattle.world_losses.proofs.Rows.{lost_before}
use Rattle.world_losses.proofs.columns.lost_in.Given as goal

abbrev pub invariant-loop-col : goal.invariant-loop-col
invariant-loop-col g l = (l.lost ≡ lost_before (state_of l.world) l.grid l.row l.col) × (l.lost ≤ l.col)
