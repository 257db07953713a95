use Rattle.std.proofs.Common.{◌≡◌}
use Rattle.block_world.specs.Ranks.{cut_to}
use Rattle.block_world.proofs.ranks.cut.Given as goal

abbrev pub invariant-loop-other : goal.invariant-loop-other
invariant-loop-other l = l.links ≡ cut_to l.rank l.other l.fn.links
