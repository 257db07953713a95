-- What is known once the phase of a line was driven.
use Rattle.std.specs.Prelude.{◌≡◌, ℕ, ◌≤◌, suc, List, Option, Some}
use Rattle.run_data.specs.declared.command.Command.{Command}
use Rattle.run_data.specs.declared.command.Command.TheVariants as c
use Rattle.run_data.specs.Script.{commands_of, command_at}
use Rattle.rank_machine.specs.State.{end_mark}
use Rattle.script_bounds.specs.Bounds.{records_in, phase_steps, recovery_steps}
use Rattle.block_world.specs.World.{WorldView, setting_in, state_of}
use Rattle.phases.specs.Plans.{Plan, Progress}
use Rattle.world_heal.specs.Costs.{KeepsGoing, KeepsShort, KeepsHealing, KeepsHolding}
use Rattle.loss_recovery.specs.Driven.{IsDriven, CostsAtMost}

-- the line has a `matrix` command, or a `drop` command
abbrev pub MakesMatrix : Option Command → Type 0
MakesMatrix (Some (c.Matrix name grid m n mb nb rsrc csrc file)) = Unit {0}
MakesMatrix _ = ⊥

abbrev pub DropsName : Option Command → Type 0
DropsName (Some (c.Discard name)) = Unit {0}
DropsName _ = ⊥

-- a phase that is the whole of the next line: it may be driven, its commit ends the line, and it takes no more records than the bound counts for the line
pub record IsWholeLine (script : List (Option Command)) (done : ℕ) (plan : Plan) (w : WorldView) : Type 0 where
  pub command : Command
  pub there : command_at (commands_of script) (suc done) ≡ Some command
  pub may : plan.MayDrive (setting_in w) (state_of w)
  pub mark : plan.mark ≡ end_mark (suc done)
  pub few : plan.most_records ≤ records_in (commands_of script) (suc done) command

-- it was driven, in the bounds of the script
pub record HasDriven (script : List (Option Command)) (plan : Plan) (progress : Progress) (old new : WorldView) : Type 0 where
  pub driven : IsDriven plan progress old new
  pub goes : KeepsGoing old new
  pub short : KeepsShort (phase_steps (commands_of script)) old new
  pub heals : KeepsHealing (recovery_steps (commands_of script)) old new
  pub held : KeepsHolding old new
  pub costs : CostsAtMost (phase_steps (commands_of script)) (recovery_steps (commands_of script)) old new plan.most_records
