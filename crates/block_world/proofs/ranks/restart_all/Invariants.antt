use Rattle.std.proofs.Common.{◌≡◌, ◌++◌, map, take, drop}
use Rattle.block_world.specs.Ranks.{restarted}
use Rattle.block_world.proofs.ranks.restart_all.Given as goal

-- the ranks up to here have started again
abbrev pub invariant-loop-mem : goal.invariant-loop-mem
invariant-loop-mem g l = l.mems ≡ map restarted (take l.mem-index l.fn.mems) ++ drop l.mem-index l.fn.mems
