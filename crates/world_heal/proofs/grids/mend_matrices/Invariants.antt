use Rattle.recovery_counts.specs.Counted.{matrices_so_far}
use Rattle.block_world.specs.World.{setting_in}
use Rattle.world_heal.specs.Ways.{rest_of}
use Rattle.world_heal.specs.Mended.{HasMended, AreMatricesHealed}
use Rattle.world_heal.proofs.grids.mend_matrices.Given as goal

abbrev pub invariant-loop-i : goal.invariant-loop-i
invariant-loop-i g l = HasMended (matrices_so_far (setting_in l.initial.world) (rest_of l.initial.world).mark l.number l.i) (AreMatricesHealed l.number l.i) l.initial.world l.world
