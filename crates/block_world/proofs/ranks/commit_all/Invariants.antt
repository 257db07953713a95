use Rattle.std.proofs.Common.{◌≡◌, ◌++◌, map, take, drop}
use Rattle.block_world.specs.Ranks.{committed}
use Rattle.block_world.proofs.ranks.commit_all.Given as goal

-- the ranks up to here have let go what is not live
abbrev pub invariant-loop-mem : goal.invariant-loop-mem
invariant-loop-mem g l = l.mems ≡ map (committed l.mark) (take l.mem-index l.fn.mems) ++ drop l.mem-index l.fn.mems
