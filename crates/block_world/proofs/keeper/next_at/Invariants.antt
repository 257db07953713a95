use Rattle.std.proofs.Common.{take}
use Rattle.block_world.specs.Kept.{IsNextAt}
use Rattle.block_world.proofs.keeper.next_at.Given as goal

-- the least number so far
abbrev pub invariant-loop-loss : goal.invariant-loop-loss
invariant-loop-loss l = IsNextAt (take l.loss-index l.losses) l.from l.next
