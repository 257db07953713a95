-- What is known once a phase of a line of several was driven.
use Rattle.std.specs.Prelude.{List, Option}
use Rattle.run_data.specs.declared.command.Command.{Command}
use Rattle.run_data.specs.Script.{commands_of}
use Rattle.script_bounds.specs.Bounds.{phase_steps, recovery_steps}
use Rattle.block_world.specs.World.{WorldView}
use Rattle.phases.specs.Plans.{Plan, Progress}
use Rattle.world_heal.specs.Costs.{KeepsGoing, KeepsShort, KeepsHealing, KeepsHolding}
use Rattle.loss_recovery.specs.Driven.{IsDriven, CostsAtMost}

-- it was driven to its commit, in the bounds of the script
pub record HasDrivenPart (script : List (Option Command)) (plan : Plan) (progress : Progress) (old new : WorldView) : Type 0 where
  pub driven : IsDriven plan progress old new
  pub goes : KeepsGoing old new
  pub short : KeepsShort (phase_steps (commands_of script)) old new
  pub heals : KeepsHealing (recovery_steps (commands_of script)) old new
  pub held : KeepsHolding old new
  pub costs : CostsAtMost (phase_steps (commands_of script)) (recovery_steps (commands_of script)) old new plan.most_records
