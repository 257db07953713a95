use Rattle.std.proofs.Common.{◌≡◌, ◌++◌, map, take, drop, All}
use Rattle.rank_slots.specs.Cells.{AreOrdered}
use Rattle.rank_slots.specs.Rank.{Rank}
use Rattle.rank_slots.specs.Lost.{restored}
use Rattle.block_world.proofs.ranks.restore_all.Given as goal

-- the ranks up to here have fallen back
abbrev pub invariant-loop-mem : goal.invariant-loop-mem
invariant-loop-mem g l = record {
  ordered : All (λ (m : Rank). AreOrdered m.cells) (take l.mem-index l.fn.mems);
  restored : l.mems ≡ map restored (take l.mem-index l.fn.mems) ++ drop l.mem-index l.fn.mems;
}
