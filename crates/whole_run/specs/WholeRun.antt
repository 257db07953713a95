-- What a run of a script and its files is, to its end or to where it was cut short.
use Rattle.std.specs.Prelude.{◌≡◌, ◌≤◌, ℕ, Bool, true, false, List, length, Option, Some, None}
use Rattle.run_data.specs.declared.command.Command.{Command}
use Rattle.run_data.specs.Script.{commands_of}
use Rattle.rank_machine.specs.declared.record.Rec.{Rec}
use Rattle.rank_machine.specs.Setting.{Setting}
use Rattle.rank_machine.specs.Scripts.{Matrices, file_of, setting_of}
use Rattle.rank_machine.specs.Effect.{state_after}
use Rattle.rank_machine.specs.Losses.{IsJournal, IsBeyond, LacksSpare}
use Rattle.rank_machine.specs.JournalText.{journal_text}
use Rattle.script_bounds.specs.Bounds.{bound, phase_steps, recovery_steps}
use Rattle.run_laws.specs.Due.{numbered}
use Rattle.run_laws.specs.Cuts.{IsWithin}
use Rattle.whole_run.specs.PrintedFrom.{ArePrinted}
use Rattle.serial_model.specs.Serial.{up_to, text_to}
use Rattle.rank_machine.specs.Losses.{last_ended}
use Rattle.whole_run.specs.Until.{AllEndUntil}
use Rattle.whole_run.specs.Between.{IsInBounds}
use Rattle.loss_bursts.specs.Bursts.{AreSurvivable, HasSparesOf}

-- how a run ends
pub data Ending : Type 0 where
  -- every line has ended
  done : Ending
  -- the process row of a grid lost too many ranks
  beyond : ℕ → ℕ → Ending
  -- a rank got no spare
  no_spare : ℕ → Ending

abbrev pub is_cut : Ending → Bool
is_cut done = false
is_cut (beyond grid row) = true
is_cut (no_spare rank) = true

-- every line has its commit that ends it; or the last state is beyond repair, at its first place; or it is not, and the first lost rank without a spare is told
abbrev pub EndsAs : Setting → Ending → List Rec → Type 0
EndsAs s done journal = (line : ℕ) → AllEndUntil s line journal
EndsAs s (beyond grid row) journal = IsBeyond s (state_after s journal) grid row
EndsAs s (no_spare rank) journal = IsWithin s (state_after s journal) × LacksSpare s (state_after s journal) rank

-- A run: a legal journal with the losses where the script puts them, which no record leaves from where it is beyond repair, and in which each healed
-- commit leaves what the commit before it, or the opening, had left; from whose committed takes the printed text was made, which is that of the serial
-- run of the lines that have ended; in its bounds
pub record IsRunOf (script : List (Option Command)) (files : Matrices) (ending : Ending) (out journal : List ℕ) : Type 0 where
  pub records : List Rec
  pub legal : IsJournal (setting_of script files) (is_cut ending) records
  pub ends : EndsAs (setting_of script files) ending records
  pub printed : ArePrinted (setting_of script files) (commands_of script) (state_after (setting_of script files) records).committed (up_to (last_ended records) (commands_of script)) out
  pub serial : out ≡ text_to (file_of files) (commands_of script) (last_ended records)
  pub in_bounds : IsInBounds (setting_of script files) (phase_steps (commands_of script)) (recovery_steps (commands_of script)) records
  pub few : numbered records ≤ bound (commands_of script)
  pub written : journal ≡ journal_text records

-- a script whose losses leave time between them, and which has spares for all of them, goes to its end
abbrev pub Completes : List (Option Command) → Matrices → Ending → Type 0
Completes script files ending =
    AreSurvivable (setting_of script files) (recovery_steps (commands_of script)) → HasSparesOf (setting_of script files).spares (length (setting_of script files).losses) → ending ≡ done
