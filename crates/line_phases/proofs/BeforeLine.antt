-- Before a line: what is known of the state there, and that the line's end comes next.
use Rattle.std.proofs.Common.{◌≡◌, nat_le, ℕ, suc, true, List, Option, sym, subst, ◌∙◌, IsTrue}
use Rattle.run_data.specs.declared.command.Command.{Command}
use Rattle.run_data.specs.Script.{commands_of}
use Rattle.rank_machine.specs.Setting.{is_job}
use Rattle.rank_machine.specs.Scripts.{Matrices, file_of, setting_of}
use Rattle.rank_machine.specs.State.{State, end_mark}
use Rattle.rank_machine.specs.Effect.{has_ended, current}
use Rattle.rank_machine.specs.Marks.{follows}
use Rattle.block_world.specs.World.{WorldView, setting_in, state_of}
use Rattle.run_laws.specs.LastCommit.{IsRest}
use Rattle.run_laws.proofs.Scripts.{script_rising}
use Rattle.line_laws.proofs.NextLine.{current-next}
use Rattle.line_phases.proofs.NextJob.{below_next, next-follows}
use Rattle.whole_run.specs.Until.{values_at}
use Rattle.whole_run.specs.Between.{StandsFor, HasRun}
use Rattle.whole_run.proofs.Ending.{setting_is}

-- ---- a state between two lines
pub record IsBefore (script : List (Option Command)) (files : Matrices) (line : ℕ) (st : State) : Type 0 where
  pub rest : IsRest (setting_of script files) st
  pub done : (at : ℕ) → is_job (setting_of script files) at ≡ true → has_ended st.mark at ≡ nat_le at line
  pub stands : StandsFor (setting_of script files) (commands_of script) st (values_at (file_of files) (commands_of script) line)

pub is-before : (script : List (Option Command)) (files : Matrices) (line : ℕ) (w : WorldView) (out : List ℕ) → HasRun script files line w out → IsBefore script files line (state_of w)
is-before script files line w out h =
    let same : setting_in w ≡ setting_of script files = setting_is w script files h.script_is h.files_are in
    record {
      rest = subst (λ s. IsRest s (state_of w)) same h.rest.rest;
      done = λ at job. h.done at (subst (λ s. is_job s at ≡ true) (sym same) job);
      stands = subst (λ s. StandsFor s (commands_of script) (state_of w) (values_at (file_of files) (commands_of script) line)) same h.stands;
    }

-- ---- where the next line makes records, it is the current one, and its end comes next
module _ (script : List (Option Command)) (files : Matrices) (line : ℕ) (st : State) (before : IsBefore script files line st) (job : is_job (setting_of script files) (suc line) ≡ true) where
  pub line-current : current (setting_of script files) st.mark ≡ suc line
  line-current = current-next (setting_of script files).jobs 0 st.mark (suc line) (script_rising script files) job (λ at own. before.done at own ∙ below_next at line)

  pub next-mark : IsTrue (follows (setting_of script files) st.mark (end_mark (suc line)))
  next-mark = next-follows script files line st.mark job before.done
