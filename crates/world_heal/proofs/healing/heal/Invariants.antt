use Rattle.run_laws.specs.Due.{ahead}
use Rattle.block_world.specs.World.{setting_in}
use Rattle.world_heal.proofs.Endings.{BeginsIn}
use Rattle.world_heal.proofs.healing.heal.Given as goal

abbrev pub invariant-loop-drove : goal.invariant-loop-drove
invariant-loop-drove g l = BeginsIn l.initial.world l.world

abbrev pub decreases-loop-drove : goal.decreases-loop-drove
decreases-loop-drove g l = ahead (setting_in l.initial.world) l.world.journal
