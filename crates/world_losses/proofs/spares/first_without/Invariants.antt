use Rattle.std.proofs.Common.{◌≡◌, ◌<◌, ◌≤◌, ◌+◌, ℕ, false}
use Rattle.rank_machine.specs.Losses.{lost_now}
use Rattle.block_world.specs.World.{state_of}
use Rattle.world_losses.specs.Judged.{lacks_of}
use Rattle.world_losses.proofs.spares.first_without.Given as goal

abbrev pub invariant-loop-rank : goal.invariant-loop-rank
invariant-loop-rank g l =
    (l.used ≡ (state_of l.world).spawned + lost_now (state_of l.world) l.rank)
    × (l.used ≤ 4294967296 + l.rank)
    × ((rank : ℕ) → rank < l.rank → lacks_of (state_of l.world) l.spares rank ≡ false)
