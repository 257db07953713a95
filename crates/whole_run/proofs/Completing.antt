-- A run whose losses leave time between them goes to its end.
use Rattle.std.proofs.Common.{◌≡◌, ℕ, true, List, Option, refl}
use Rattle.run_data.specs.declared.command.Command.{Command}
use Rattle.run_data.specs.Script.{commands_of}
use Rattle.rank_machine.specs.Scripts.{Matrices, setting_of}
use Rattle.script_bounds.specs.Bounds.{recovery_steps}
use Rattle.loss_bursts.proofs.NeverCut.{never-beyond, never-lacks}
use Rattle.whole_run.specs.WholeRun.{Ending, done, beyond, no_spare, IsRunOf, Completes}

-- a run is done where its losses are survivable and there are spares for all of them
pub completes : (script : List (Option Command)) (files : Matrices) (ending : Ending) (out journal : List ℕ) → IsRunOf script files ending out journal → Completes script files ending
completes script files done out journal h can enough = refl
completes script files (beyond grid row) out journal h can enough =
    absurd (never-beyond (setting_of script files) (recovery_steps (commands_of script)) true h.records grid row h.legal.due h.in_bounds.goes.may h.in_bounds.heals can h.ends.here)
completes script files (no_spare rank) out journal h can enough =
    absurd (never-lacks (setting_of script files) true h.records rank (setting_of script files).spares h.legal.legal h.legal.due enough h.ends.1)
