use Rattle.std.proofs.Common.{◌≡◌, ◌++◌, map, take, drop}
use Rattle.block_world.specs.Ranks.{lowered}
use Rattle.block_world.proofs.ranks.lower_all.Given as goal

-- the flags up to here are down
abbrev pub invariant-loop-flag : goal.invariant-loop-flag
invariant-loop-flag l = l.lost ≡ map lowered (take l.flag-index l.fn.lost) ++ drop l.flag-index l.fn.lost
