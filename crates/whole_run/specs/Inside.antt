-- What holds inside the run of a line, and what a run that is cut short there has to leave as it was.
use Rattle.std.specs.Prelude.{◌≡◌, ◌≤◌, ◌+◌, ◌*◌, ℕ, true, false, nat_le, List, Option}
use Rattle.run_data.specs.declared.command.Command.{Command}
use Rattle.run_data.specs.Script.{commands_of}
use Rattle.rank_machine.specs.declared.mark.Mark.{Mark}
use Rattle.rank_machine.specs.Setting.{is_job}
use Rattle.rank_machine.specs.Scripts.{Matrices, file_of}
use Rattle.script_bounds.specs.Bounds.{plain_bound, losses, phase_steps, recovery_steps}
use Rattle.block_world.specs.World.{WorldView, setting_in, state_of}
use Rattle.run_laws.specs.Traces.{spent}
use Rattle.loss_recovery.specs.Driven.{IsAtRest, CostsAtMost}
use Rattle.world_heal.specs.Costs.{KeepsGoing, KeepsShort, KeepsHealing, KeepsHolding}
use Rattle.world_heal.specs.Outcomes.{IsCutAt}
use Rattle.world_heal.specs.declared.healing.Drove.{Drove}
use Rattle.world_heal.specs.declared.healing.Drove.TheVariants as d
use Rattle.whole_run.specs.PrintedFrom.{ArePrinted}
use Rattle.serial_model.specs.Serial.{up_to, text_to}
use Rattle.rank_machine.specs.Losses.{last_ended}
use Rattle.whole_run.specs.Until.{bound_until, AllEndUntil}
use Rattle.whole_run.specs.Between.{IsInBounds, cost}
use Rattle.whole_run.specs.WholeRun.{Ending, done, beyond, no_spare}

-- After a commit inside the line that follows these, or before its first: exactly these lines have ended, and what they printed is there; the line itself has used so many records
pub record IsInside (script : List (Option Command)) (files : Matrices) (line used : ℕ) (w : WorldView) (out : List ℕ) : Type 0 where
  pub script_is : w.script ≡ script
  pub files_are : w.files ≡ files
  pub rest : IsAtRest w
  pub last : nat_le (last_ended w.journal) line ≡ true
  pub ended : (at : ℕ) → is_job (setting_in w) at ≡ true → nat_le at line ≡ true → nat_le at (last_ended w.journal) ≡ true
  pub printed : ArePrinted (setting_in w) (commands_of script) (state_of w).committed (up_to line (commands_of script)) out
  pub text : out ≡ text_to (file_of files) (commands_of script) line
  pub bounds : IsInBounds (setting_in w) (phase_steps (commands_of script)) (recovery_steps (commands_of script)) w.journal
  pub few : spent (cost (commands_of script)) (setting_in w) w.journal ≤ (bound_until line (commands_of script) + used) + losses (commands_of script) * cost (commands_of script)
  pub fits : bound_until line (commands_of script) + used ≤ plain_bound (commands_of script)

-- After a commit inside the line that follows these, or before its first; and each line before has its commit that ends it
pub record IsPartly (script : List (Option Command)) (files : Matrices) (line used : ℕ) (w : WorldView) (out : List ℕ) : Type 0 where
  pub inside : IsInside script files line used w out
  pub ends : AllEndUntil (setting_in w) line w.journal

-- the mark of a commit inside a line that factors nothing
abbrev pub part_mark : ℕ → Mark
part_mark line = record { line = line; ended = false; closed = 0; opened = false; merged = 0 }

-- the bounds of a script are kept, and the losses that fell have paid for what was added
pub record KeepsBounds (script : List (Option Command)) (old new : WorldView) : Type 0 where
  pub goes : KeepsGoing old new
  pub short : KeepsShort (phase_steps (commands_of script)) old new
  pub heals : KeepsHealing (recovery_steps (commands_of script)) old new
  pub held : KeepsHolding old new
  pub costs : CostsAtMost (phase_steps (commands_of script)) (recovery_steps (commands_of script)) old new 0

-- how a run ends that a call has cut short
abbrev pub ending_at : Drove → Ending
ending_at d.Done = done
ending_at (d.Beyond grid row) = beyond grid row
ending_at (d.NoSpare rank) = no_spare rank

-- The run of the line that follows these was cut short: after its last commit, or before its first, it stood inside the line, and since then losses fell that it does not survive
pub record IsStopped (script : List (Option Command)) (files : Matrices) (line : ℕ) (w : WorldView) (out : List ℕ) (drove : Drove) : Type 0 where
  pub last : WorldView
  pub used : ℕ
  pub inside : IsInside script files line used last out
  pub cut : IsCutAt last w drove
  pub keeps : KeepsBounds script last w
