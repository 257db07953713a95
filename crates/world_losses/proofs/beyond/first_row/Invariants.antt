use Rattle.std.proofs.Common.{◌≡◌, ◌<◌, ℕ, false}
use Rattle.block_world.specs.World.{state_of}
use Rattle.world_losses.specs.Judged.{is_over}
use Rattle.world_losses.proofs.beyond.first_row.Given as goal

abbrev pub invariant-loop-row : goal.invariant-loop-row
invariant-loop-row g l = (other : ℕ) → other < l.row → is_over (state_of l.world) l.grid l.live other ≡ false
