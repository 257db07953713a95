use Rattle.world_heal.proofs.Spawning.{IsSpawning}
use Rattle.world_heal.proofs.spawns.spawn_all.Given as goal

abbrev pub invariant-loop-rank : goal.invariant-loop-rank
invariant-loop-rank g l = IsSpawning l.rank l.initial.world l.world
