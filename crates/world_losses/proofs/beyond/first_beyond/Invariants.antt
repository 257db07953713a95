use Rattle.std.proofs.Common.{◌≡◌, ◌<◌, ℕ, false}
use Rattle.rank_machine.specs.Losses.{is_beyond_at}
use Rattle.block_world.specs.World.{setting_in, state_of}
use Rattle.world_losses.proofs.beyond.first_beyond.Given as goal

abbrev pub invariant-loop-number : goal.invariant-loop-number
invariant-loop-number g l = (k other : ℕ) → k < l.number → is_beyond_at (setting_in l.world) (state_of l.world) k other ≡ false
