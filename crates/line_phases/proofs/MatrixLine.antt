-- A `matrix` line: where it comes next its phase may be driven, and that phase's commit ends the line.
use Rattle.std.proofs.Common.{◌≡◌, ◌≢◌, ◌<◌, ◌≤◌, ℕ, suc, true, false, List, [], Option, Some, is_some, refl, sym, ap, subst, ◌∙◌, arith, IsTrue}
use Rattle.std.proofs.lemmas.Option.{same_Some}
use Rattle.std.proofs.lemmas.List.Elements.{All-nil}
use Rattle.field_core.specs.Residue.{inverse}
use Rattle.run_data.specs.Matrix.{IsShaped}
use Rattle.run_data.specs.declared.command.Command.{Command}
use Rattle.run_data.specs.declared.command.Command.TheVariants as c
use Rattle.run_data.specs.Script.{commands_of, command_at, name_made, maker, modulus_of}
use Rattle.rank_machine.specs.Setting.{Setting, Job, layout, is_matrix}
use Rattle.rank_machine.specs.Scripts.{Matrices, file_of, setting_of}
use Rattle.rank_machine.specs.State.{State, Took, end_mark}
use Rattle.rank_machine.specs.Effect.{is_dropped}
use Rattle.rank_machine.specs.Marks.{follows}
use Rattle.serial_model.specs.Serial.{Values, whole, with_matrix}
use Rattle.script_lines.specs.Sound.{IsSound}
use Rattle.dist_matrix.specs.Strips.{HasShape}
use Rattle.script_bounds.specs.Accepted.{KeepsRules}
use Rattle.script_bounds.specs.Bounds.{records_in, phase_steps, recovery_steps}
use Rattle.script_laws.proofs.GridLines.{matrix-lies}
use Rattle.block_world.specs.World.{WorldView, setting_in, state_of}
use Rattle.run_laws.specs.LastCommit.{IsScripted}
use Rattle.run_laws.proofs.Scripts.{script_rising}
use Rattle.phases.specs.Plans.{Progress}
use Rattle.loss_recovery.specs.Driven.{IsDriven, CostsAtMost}
use Rattle.world_heal.specs.Costs.{KeepsGoing, KeepsShort, KeepsHealing, KeepsHolding}
use Rattle.feed_laws.specs.Feeding.{feed_task, feed_plan, feed_records, MayFeed, HasFed}
use Rattle.whole_run.specs.Until.{values_at}
use Rattle.whole_run.specs.Between.{StandsForMatrix, Names, StandsFor, HasRun}
use Rattle.whole_run.proofs.Ending.{setting_is}
use Rattle.whole_run.proofs.Later.{AreLater}
use Rattle.whole_run.proofs.LineEnds.{EndsLine}
use Rattle.loss_recovery.proofs.Scripted.{IsScripted-sound}
use Rattle.line_phases.proofs.NextJob.{job-is, no-line_zero, line-follows, none-dropped}
use Rattle.line_phases.proofs.StillStands.{KeepsTiles, value-same, value-here, other-name, matrix-stands, list-stands, no-list, stands-whole}
use Rattle.line_phases.proofs.MatrixLayout.{feeds-few}

-- ---- the line makes a matrix
makes_one : (script : List (Option Command)) (files : Matrices) (line : ℕ) (name grid : List ℕ) (m n mb nb rsrc csrc : ℕ) (file : List ℕ) → command_at (commands_of script) line ≡ Some (c.Matrix name grid m n mb nb rsrc csrc file)
    → is_matrix (setting_of script files) line ≡ true
makes_one script files line name grid m n mb nb rsrc csrc file e = ap (λ (j : Job). is_some j.makes) (job-is script files line (c.Matrix name grid m n mb nb rsrc csrc file) e)

may_in : (script : List (Option Command)) (files : Matrices) (line : ℕ) (st : State) (name grid : List ℕ) (m n mb nb rsrc csrc : ℕ) (file : List ℕ) → KeepsRules script → IsSound (modulus_of (commands_of script)) (setting_of script files)
    → command_at (commands_of script) (suc line) ≡ Some (c.Matrix name grid m n mb nb rsrc csrc file) → IsTrue (follows (setting_of script files) st.mark (end_mark (suc line)))
    → HasShape (layout (setting_of script files) (suc line)) (file_of files (suc line))
    → MayFeed (setting_of script files) st (feed_task (inverse (modulus_of (commands_of script))) (file_of files (suc line)) (layout (setting_of script files) (suc line)) (suc line))
may_in script files line st name grid m n mb nb rsrc csrc file kept sound e next shape =
    let s : Setting = setting_of script files in
    let made : is_matrix s (suc line) ≡ true = makes_one script files (suc line) name grid m n mb nb rsrc csrc file e in
    let is = job-is script files (suc line) (c.Matrix name grid m n mb nb rsrc csrc file) e in
    record {
      follows_last = next;
      matrix = made;
      lies = refl;
      file = refl;
      inverses = refl;
      some_words = omega (arith, sound.large);
      some_messages = omega (arith, sound.some_messages);
      feedable = record { laid_out = sound.layouts (suc line) made; whole = shape };
      of = (matrix-lies script files (modulus_of (commands_of script)) (suc line) kept sound made).of_run;
      plain = ap (λ (j : Job). j.factors) is;
      goes = ap (λ (j : Job). j.path) is;
      undropped = none-dropped script files (end_mark (suc line)) kept (omega arith);
      scripted = IsScripted-sound (modulus_of (commands_of script)) s sound (no-line_zero script files);
      rising = script_rising script files;
    }

-- where a `matrix` line comes next, and its file has the line's shape, its matrix may be fed
pub matrix-may : (script : List (Option Command)) (files : Matrices) (line : ℕ) (w : WorldView) (out : List ℕ) (name grid : List ℕ) (m n mb nb rsrc csrc : ℕ) (file : List ℕ) → HasRun script files line w out → KeepsRules script
    → IsSound (modulus_of (commands_of script)) (setting_of script files) → command_at (commands_of script) (suc line) ≡ Some (c.Matrix name grid m n mb nb rsrc csrc file) → HasShape (layout (setting_in w) (suc line)) (file_of files (suc line))
    → MayFeed (setting_in w) (state_of w) (feed_task (inverse (modulus_of (commands_of script))) (file_of files (suc line)) (layout (setting_in w) (suc line)) (suc line))
matrix-may script files line w out name grid m n mb nb rsrc csrc file h kept sound e shape =
    let same : setting_in w ≡ setting_of script files = setting_is w script files h.script_is h.files_are in
    subst (λ s. MayFeed s (state_of w) (feed_task (inverse (modulus_of (commands_of script))) (file_of files (suc line)) (layout s (suc line)) (suc line))) (sym same)
    (may_in script files line (state_of w) name grid m n mb nb rsrc csrc file kept sound e (line-follows script files line w out (c.Matrix name grid m n mb nb rsrc csrc file) h e refl)
    (subst (λ s. HasShape (layout s (suc line)) (file_of files (suc line))) same shape))

-- ---- what stands after it
module _ (script : List (Option Command)) (files : Matrices) (kept : KeepsRules script) (scripted_so : IsScripted (setting_of script files)) (line : ℕ) (name grid : List ℕ) (m n mb nb rsrc csrc : ℕ) (file : List ℕ)
    (there : command_at (commands_of script) (suc line) ≡ Some (c.Matrix name grid m n mb nb rsrc csrc file)) (old new : State) (values : Values) (takes : List Took)
    (shaped : IsShaped (file_of files (suc line))) (shape : HasShape (layout (setting_of script files) (suc line)) (file_of files (suc line)))
    (fed : HasFed (setting_of script files) old (feed_task (inverse (modulus_of (commands_of script))) (file_of files (suc line)) (layout (setting_of script files) (suc line)) (suc line)) takes new) where
  -- the name of the line's own command
  own_name : (other : List ℕ) → Names (commands_of script) (suc line) other → name ≡ other
  own_name other named = same_Some name other (ap name_made (same_Some (c.Matrix name grid m n mb nb rsrc csrc file) named.0 (sym there ∙ named.1)) ∙ named.2)

  own_stands : (other : List ℕ) → Names (commands_of script) (suc line) other → StandsForMatrix (setting_of script files) new (suc line) other (with_matrix values name (file_of files (suc line)))
  own_stands other named = record {
    matrix = file_of files (suc line);
    means = value-here values name (Some (whole (file_of files (suc line)))) other (own_name other named);
    shaped = shaped;
    shape = shape;
    held = fed.strips;
  }

  others_keep : (at : ℕ) → at ≢ suc line → KeepsTiles (setting_of script files) (end_mark (suc line)) old new at
  others_keep at other rank slot of live = fed.rest rank slot (λ is. other (sym of ∙ is)) live

  others_mean : (at : ℕ) (other : List ℕ) → is_dropped (setting_of script files) (end_mark (suc line)) at ≡ false → maker (commands_of script) (suc line) other ≡ Some at → with_matrix values name (file_of files (suc line)) other ≡ values other
  others_mean at other undropped means =
      value-same values name (Some (whole (file_of files (suc line)))) other (other-name script (suc line) at (c.Matrix name grid m n mb nb rsrc csrc file) name other kept there refl means)

  fed_stands : StandsFor (setting_of script files) (commands_of script) old values → IsTrue (follows (setting_of script files) old.mark (end_mark (suc line))) → new.mark ≡ end_mark (suc line)
      → StandsFor (setting_of script files) (commands_of script) new (with_matrix values name (file_of files (suc line)))
  fed_stands stands next mark =
      let s : Setting = setting_of script files in
      let after_it : Values = with_matrix values name (file_of files (suc line)) in
      stands-whole s (commands_of script) (end_mark (suc line)) new after_it mark
      (record {
        own_matrix = λ other live named. own_stands other named;
        own_list = λ other live named. absurd (no-list s (end_mark (suc line)) (suc line) (ap (λ (j : Job). j.factors) (job-is script files (suc line) (c.Matrix name grid m n mb nb rsrc csrc file) there)) live);
        other_matrices = λ at other apart live named. matrix-stands script files kept (end_mark (suc line)) old new values after_it stands next at other apart (others_keep at apart) (others_mean at other) live named;
        other_lists = λ at other apart live named. list-stands script files kept (end_mark (suc line)) old new values after_it stands next at other apart (others_keep at apart) (others_mean at other) scripted_so live named;
      })

-- the commit of a phase that fed the matrix ends the line
pub matrix-ends : (script : List (Option Command)) (files : Matrices) (line : ℕ) (old new : WorldView) (out : List ℕ) (progress : Progress) (name grid : List ℕ) (m n mb nb rsrc csrc : ℕ) (file : List ℕ)
    → HasRun script files line old out → KeepsRules script → IsSound (modulus_of (commands_of script)) (setting_of script files) → command_at (commands_of script) (suc line) ≡ Some (c.Matrix name grid m n mb nb rsrc csrc file)
    → IsShaped (file_of files (suc line)) → HasShape (layout (setting_in old) (suc line)) (file_of files (suc line))
    → IsDriven (feed_plan (feed_task (inverse (modulus_of (commands_of script))) (file_of files (suc line)) (layout (setting_in old) (suc line)) (suc line))) progress old new
    → KeepsGoing old new → KeepsShort (phase_steps (commands_of script)) old new → KeepsHealing (recovery_steps (commands_of script)) old new → KeepsHolding old new
    → CostsAtMost (phase_steps (commands_of script)) (recovery_steps (commands_of script)) old new (feed_records (layout (setting_in old) (suc line)))
    → EndsLine script files line old new (c.Matrix name grid m n mb nb rsrc csrc file) []
matrix-ends script files line old new out progress name grid m n mb nb rsrc csrc file h kept sound e shaped shape driven goes short heals held costs =
    let cs = commands_of script in
    let same : setting_in old ≡ setting_of script files = setting_is old script files h.script_is h.files_are in
    let next : IsTrue (follows (setting_of script files) (state_of old).mark (end_mark (suc line))) = line-follows script files line old out (c.Matrix name grid m n mb nb rsrc csrc file) h e refl in
    let fed : HasFed (setting_of script files) (state_of old) (feed_task (inverse (modulus_of (commands_of script))) (file_of files (suc line)) (layout (setting_of script files) (suc line)) (suc line)) progress.takes (state_of new) =
    subst (λ s. HasFed s (state_of old) (feed_task (inverse (modulus_of (commands_of script))) (file_of files (suc line)) (layout s (suc line)) (suc line)) progress.takes (state_of new)) same driven.effect in
    record {
      command = e;
      plan = feed_plan (feed_task (inverse (modulus_of (commands_of script))) (file_of files (suc line)) (layout (setting_in old) (suc line)) (suc line));
      progress = progress;
      mark = refl;
      driven = driven;
      few = (let most : feed_records (layout (setting_in old) (suc line)) ≤ records_in cs (suc line) (c.Matrix name grid m n mb nb rsrc csrc file) =
          subst (λ s. feed_records (layout s (suc line)) ≤ records_in cs (suc line) (c.Matrix name grid m n mb nb rsrc csrc file)) (sym same) (feeds-few script files (suc line) name grid m n mb nb rsrc csrc file kept e) in
          omega (arith, most));
      goes = goes;
      short = short;
      heals = heals;
      held = held;
      costs = costs;
      later = subst (λ ts. AreLater line ts) (sym fed.takes_none) (All-nil (λ (t : Took). line < t.line));
      stands = fed_stands script files kept (IsScripted-sound (modulus_of (commands_of script)) (setting_of script files) sound (no-line_zero script files)) line name grid m n mb nb rsrc csrc file e (state_of old) (state_of new)
          (values_at (file_of files) cs line) progress.takes shaped (subst (λ s. HasShape (layout s (suc line)) (file_of files (suc line))) same shape) fed
          (subst (λ s. StandsFor s cs (state_of old) (values_at (file_of files) cs line)) same h.stands) next driven.mark;
      says = refl;
      text_is = refl;
    }
