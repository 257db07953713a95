use Rattle.recovery_counts.specs.Counted.{grids_so_far}
use Rattle.block_world.specs.World.{setting_in}
use Rattle.world_heal.specs.Ways.{rest_of}
use Rattle.world_heal.specs.Mended.{HasMended, AreGridsHealed}
use Rattle.world_heal.proofs.grids.mend_all.Given as goal

abbrev pub invariant-loop-number : goal.invariant-loop-number
invariant-loop-number g l = HasMended (grids_so_far (setting_in l.initial.world) (rest_of l.initial.world).mark l.number) (AreGridsHealed l.number) l.initial.world l.world
