-- A line that drops something: its phase is a commit alone.
use Rattle.std.proofs.Common.{◌≡◌, ℕ, suc, true, false, is_some, List, [], Option, Some, None, refl, sym, ap, subst, ◌∙◌, arith, IsTrue}
use Rattle.std.specs.Prelude.{◌<◌, if◌then◌else◌}
use Rattle.std.proofs.lemmas.List.Elements.{All-nil}
use Rattle.std.proofs.lemmas.Bool.{le-leb}
use Rattle.run_data.specs.declared.command.Command.{Command}
use Rattle.run_data.specs.declared.command.Command.TheVariants as c
use Rattle.run_data.specs.Script.{commands_of, command_at, maker, modulus_of}
use Rattle.rank_machine.specs.declared.mark.Mark.{Mark}
use Rattle.rank_machine.specs.Setting.{Setting, Job, is_matrix, factored}
use Rattle.rank_machine.specs.Scripts.{Matrices, file_of, setting_of}
use Rattle.rank_machine.specs.State.{Took, end_mark}
use Rattle.rank_machine.specs.Effect.{has_ended, is_live, is_dropped}
use Rattle.rank_machine.specs.CodeLaw.{CodeLaw}
use Rattle.rank_machine.specs.Marks.{follows}
use Rattle.script_bounds.specs.Accepted.{KeepsRules}
use Rattle.script_bounds.specs.Bounds.{phase_steps, recovery_steps}
use Rattle.serial_model.specs.Serial.{Values}
use Rattle.line_laws.specs.Lines.{values_after}
use Rattle.block_world.specs.World.{WorldView, setting_in, state_of}
use Rattle.run_laws.specs.LastCommit.{IsScripted}
use Rattle.run_laws.proofs.Scripts.{script_rising}
use Rattle.phases.specs.Plans.{Progress}
use Rattle.plain_phases.specs.Ending.{MayEnd, end_plan}
use Rattle.loss_recovery.specs.Driven.{IsDriven, CostsAtMost}
use Rattle.world_heal.specs.Costs.{KeepsGoing, KeepsShort, KeepsHealing, KeepsHolding}
use Rattle.line_laws.proofs.NextLine.{law-next}
use Rattle.whole_run.specs.Until.{values_at}
use Rattle.whole_run.specs.Between.{StandsFor, HasRun}
use Rattle.whole_run.proofs.Ending.{setting_is}
use Rattle.whole_run.proofs.Later.{AreLater}
use Rattle.whole_run.proofs.LineEnds.{EndsLine}
use Rattle.whole_run.proofs.Partly.{ended_at}
use Rattle.line_phases.proofs.NextJob.{job-is, line-follows}
use Rattle.line_phases.proofs.StillStands.{KeepsTiles, value-same, other-drop, matrix-stands, list-stands, no-matrix, no-list, stands-whole}

module _ (script : List (Option Command)) (files : Matrices) (line : ℕ) (w : WorldView) (out : List ℕ) (name : List ℕ)
    (kept : KeepsRules script) (scripted : IsScripted (setting_of script files)) (h : HasRun script files line w out) (e : command_at (commands_of script) (suc line) ≡ Some (c.Discard name)) where
  abbrev s : Setting
  s = setting_of script files

  abbrev mark : Mark
  mark = end_mark (suc line)

  same : setting_in w ≡ s
  same = setting_is w script files h.script_is h.files_are

  next : IsTrue (follows s (state_of w).mark mark)
  next = line-follows script files line w out (c.Discard name) h e refl

  makes_none : is_matrix s (suc line) ≡ false
  makes_none = ap (λ (j : Job). is_some j.makes) (job-is script files (suc line) (c.Discard name) e)

  factors_none : factored s (suc line) ≡ 0
  factors_none = ap (λ (j : Job). j.factors) (job-is script files (suc line) (c.Discard name) e)

  -- its phase may be driven
  pub drop-may : MayEnd s (state_of w) mark
  drop-may = record { follows_last = next; law = law-next s (state_of w) (suc line) scripted (script_rising script files) next (subst (λ t. CodeLaw t (state_of w) (state_of w).mark) same h.rest.rest.law) makes_none factors_none }

  module _ (new : WorldView) (progress : Progress) (driven : IsDriven (end_plan mark) progress w new) where
    abbrev before_it : Values
    before_it = values_at (file_of files) (commands_of script) line

    abbrev after_it : Values
    after_it = values_after (modulus_of (commands_of script)) (file_of files) (suc line) (c.Discard name) before_it

    keeps : (at : ℕ) → KeepsTiles s mark (state_of w) (state_of new) at
    keeps at rank slot is live = (λ i. driven.effect.1 i rank slot) ∙ ap (λ b. if b then (state_of w).tiles rank slot else None) (subst (λ t. is_live t mark rank slot ≡ true) (sym same) live)

    ended : has_ended mark (suc line) ≡ true
    ended = ended_at (suc line) (suc line) ∙ le-leb (suc line) (suc line) (omega arith)

    -- what is live afterwards has another name
    means : (at : ℕ) (other : List ℕ) → is_dropped s mark at ≡ false → maker (commands_of script) (suc line) other ≡ Some at → after_it other ≡ before_it other
    means at other undropped made = value-same before_it name None other (other-drop script files mark at name other kept e ended undropped made)

    before : StandsFor s (commands_of script) (state_of w) before_it
    before = subst (λ t. StandsFor t (commands_of script) (state_of w) before_it) same h.stands

    stands : StandsFor s (commands_of script) (state_of new) after_it
    stands = stands-whole s (commands_of script) mark (state_of new) after_it driven.mark (record {
      own_matrix = λ other live named. absurd (no-matrix s mark (suc line) makes_none live);
      own_list = λ other live named. absurd (no-list s mark (suc line) factors_none live);
      other_matrices = λ at other apart live named. matrix-stands script files kept mark (state_of w) (state_of new) before_it after_it before next at other apart (keeps at) (means at other) live named;
      other_lists = λ at other apart live named. list-stands script files kept mark (state_of w) (state_of new) before_it after_it before next at other apart (keeps at) (means at other) scripted live named;
    })

    -- and once it has been driven the line has ended
    pub drop-ends : KeepsGoing w new → KeepsShort (phase_steps (commands_of script)) w new → KeepsHealing (recovery_steps (commands_of script)) w new → KeepsHolding w new
        → CostsAtMost (phase_steps (commands_of script)) (recovery_steps (commands_of script)) w new 1 → EndsLine script files line w new (c.Discard name) []
    drop-ends goes short heals held costs = record {
      command = e;
      plan = end_plan mark;
      progress = progress;
      mark = refl;
      driven = driven;
      few = omega arith;
      goes = goes;
      short = short;
      heals = heals;
      held = held;
      costs = costs;
      later = subst (λ t. AreLater line t) (sym driven.effect.0) (All-nil (λ (t : Took). line < t.line));
      stands = stands;
      says = refl;
      text_is = refl;
    }
