use Rattle.std.proofs.Common.{◌≡◌}
use Rattle.block_world.specs.Ranks.{empty_ranks}
use Rattle.block_world.proofs.ranks.memories_of.Given as goal

abbrev pub invariant-loop-rank : goal.invariant-loop-rank
invariant-loop-rank g l = l.mems.items ≡ empty_ranks l.table l.rank
