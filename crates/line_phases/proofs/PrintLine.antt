-- A print line takes each strip of a live matrix, and leaves what there is.
use Rattle.std.proofs.Common.{◌≡◌, ◌+◌, ◌<◌, ◌≤◌, ◌==◌, nat_lt, ℕ, suc, true, false, List, ◌++◌, Option, Some, None, is_some, length, refl, sym, ap, subst, ◌∙◌, arith, IsTrue}
use Rattle.std.specs.Prelude.{if◌then◌else◌}
use Rattle.std.proofs.lemmas.Bool.{and_from, lt-ltb, le-leb, leb-true, eq-eqb}
use Rattle.run_data.specs.declared.command.Command.{Command}
use Rattle.run_data.specs.declared.command.Command.TheVariants as c
use Rattle.run_data.specs.Script.{commands_of, command_at, modulus_of}
use Rattle.blacs_grid.specs.declared.Scope.TheVariants as scope
use Rattle.blacs_grid.specs.Places.{members, member, is_data_rank}
use Rattle.blacs_grid.proofs.PlaceLaws.{is_data_rank-member}
use Rattle.blacs_grid.proofs.ScopeLaws.{is_in_scope-member}
use Rattle.rank_machine.specs.declared.slot.Slot.{Slot}
use Rattle.rank_machine.specs.declared.slot.SlotKind.TheVariants.{Data}
use Rattle.rank_machine.specs.declared.slot.Tile.TheVariants.{Words}
use Rattle.rank_machine.specs.declared.record.Rec.TheVariants as r
use Rattle.rank_machine.specs.declared.layout.Layout.{Layout}
use Rattle.rank_machine.specs.Setting.{Job, ranks, job, layout, group_count, strip_of}
use Rattle.rank_machine.specs.Scripts.{Matrices, file_of, line_meant, setting_of}
use Rattle.rank_machine.specs.State.{State, Took, end_mark}
use Rattle.rank_machine.specs.Effect.{current, is_live_matrix, after}
use Rattle.rank_machine.specs.CodeLaw.{slot_at}
use Rattle.rank_machine.specs.Legal.{IsTake}
use Rattle.rank_machine.specs.Marks.{follows}
use Rattle.rank_machine.specs.Printed.{IsPrinted}
use Rattle.serial_model.specs.Serial.{value_text}
use Rattle.line_laws.specs.Lines.{text_added}
use Rattle.dist_matrix.proofs.StripLaws.{IsPrinted-strips}
use Rattle.script_lines.specs.Layouts.{IsLayout}
use Rattle.script_lines.specs.Sound.{IsSound}
use Rattle.script_bounds.specs.Accepted.{KeepsRules}
use Rattle.script_bounds.specs.Bounds.{records_in, phase_steps, recovery_steps}
use Rattle.script_laws.specs.Lies.{LiesOnGrid}
use Rattle.script_laws.proofs.GridLines.{matrix-lies}
use Rattle.block_world.specs.World.{WorldView, setting_in, state_of}
use Rattle.run_laws.proofs.Scripts.{script_rising}
use Rattle.phases.specs.Plans.{Progress}
use Rattle.plain_phases.specs.Taking.{take_task, takes_of, MayTake, take_plan}
use Rattle.loss_recovery.specs.Driven.{IsDriven, CostsAtMost}
use Rattle.world_heal.specs.Costs.{KeepsGoing, KeepsShort, KeepsHealing, KeepsHolding}
use Rattle.whole_run.specs.PrintedFrom.{IsMatrixText}
use Rattle.line_laws.proofs.NextLine.{law-next}
use Rattle.whole_run.specs.Until.{values_at}
use Rattle.whole_run.specs.Between.{StandsFor, StandsForMatrix, HasRun}
use Rattle.whole_run.proofs.Ending.{setting_is}
use Rattle.whole_run.proofs.LineEnds.{EndsLine}
use Rattle.whole_run.proofs.Later.{AreLater}
use Rattle.loss_recovery.proofs.Scripted.{IsScripted-sound}
use Rattle.line_phases.proofs.NextJob.{no-line_zero}
use Rattle.line_phases.proofs.BeforeLine.{IsBefore, is-before, line-current, next-mark}
use Rattle.line_phases.specs.Printing.{print_slots}
use Rattle.line_phases.proofs.StillStands.{KeepsTiles, matrix-stands, list-stands, no-matrix, no-list, stands-whole}
use Rattle.line_phases.proofs.PrintSlots.{slots-all, slots-contain}
use Rattle.line_phases.proofs.PrintedName.{print-job, print-is_job, print-no_matrix, print-factors_none, printed-before, printed-some, printed-is_matrix, printed-is_job, printed-names, printed-live, print-count}
use Rattle.line_phases.proofs.PrintTakes.{takable-from, takes-later, strip-taken}

module _ (script : List (Option Command)) (files : Matrices) (line : ℕ) (name : List ℕ) (kept : KeepsRules script) (sound : IsSound (modulus_of (commands_of script)) (setting_of script files)) (e : command_at (commands_of script) (suc line) ≡ Some (c.Print name)) where
  module _ (st : State) (at_line : IsBefore script files line st) where
    -- the line is the current one, and its end comes next
    is_current : current (setting_of script files) st.mark ≡ suc line
    is_current = line-current script files line st at_line (print-is_job script files (suc line) name e)

    follows_last : IsTrue (follows (setting_of script files) st.mark (end_mark (suc line)))
    follows_last = next-mark script files line st at_line (print-is_job script files (suc line) name e)

    -- the matrix that it prints is live, and stands for what the name means
    what_live : is_live_matrix (setting_of script files) st.mark (line_meant (commands_of script) (suc line) 1) ≡ true
    what_live =
        let what = line_meant (commands_of script) (suc line) 1 in
        let before : what < suc line = printed-before script files (suc line) name e kept in
        printed-live script files (suc line) name e kept st.mark
        (at_line.done what (printed-is_job script files (suc line) name e kept) ∙ le-leb what line (omega (arith, before)))
        (λ at job over. let le = leb-true at line (sym (at_line.done at job) ∙ over) in omega (arith, le))

    what_stands : StandsForMatrix (setting_of script files) st (line_meant (commands_of script) (suc line) 1) name (values_at (file_of files) (commands_of script) line)
    what_stands = at_line.stands.matrices (line_meant (commands_of script) (suc line) 1) name what_live (printed-names script files (suc line) name e kept)

    what_layout : IsLayout (layout (setting_of script files) (line_meant (commands_of script) (suc line) 1))
    what_layout = sound.layouts (line_meant (commands_of script) (suc line) 1) (printed-is_matrix script files (suc line) name e kept)

    -- each of its strips may be taken
    may_take_one : (group i : ℕ) → group < group_count (layout (setting_of script files) (line_meant (commands_of script) (suc line) 1)) → i < members (layout (setting_of script files) (line_meant (commands_of script) (suc line) 1)).grid scope.All
        → IsTake (setting_of script files) st (member (layout (setting_of script files) (line_meant (commands_of script) (suc line) 1)).grid scope.All i) (slot_at Data (line_meant (commands_of script) (suc line) 1) group)
    may_take_one group i group_in i_in =
        let s = setting_of script files in
        let what = line_meant (commands_of script) (suc line) 1 in
        let d : Layout = layout s what in
        let rank : ℕ = member d.grid scope.All i in
        let member_is : IsTrue (is_data_rank d.grid rank) = is_in_scope-member d.grid scope.All i what_layout.grid tt i_in in
        let lies : LiesOnGrid s what = matrix-lies script files (modulus_of (commands_of script)) what kept sound (printed-is_matrix script files (suc line) name e kept) in
        let prints : (job s (current s st.mark)).prints ≡ what = ap (λ k. (job s k).prints) is_current ∙ ap (λ (j : Job). j.prints) (print-job script files (suc line) name e) in
        record {
          live = at_line.rest.live rank ∙ lt-ltb rank (ranks s) (lies.of_run.ranks rank (is_data_rank-member d.grid rank member_is));
          held = ap is_some (what_stands.held rank group (record { data_rank = member_is; group_in = group_in }));
          allowed = and_from (nat_lt 0 what) ((job s (current s st.mark)).prints == what) (lt-ltb 0 what (printed-some script files (suc line) name e kept)) (eq-eqb (job s (current s st.mark)).prints what prints);
        }

    may_take_all : MayTake (setting_of script files) st (take_task (print_slots (setting_of script files) (line_meant (commands_of script) (suc line) 1)) (end_mark (suc line)))
    may_take_all =
        let s = setting_of script files in
        let what = line_meant (commands_of script) (suc line) 1 in
        record {
          follows_last = follows_last;
          law = law-next s st (suc line) (IsScripted-sound (modulus_of (commands_of script)) s sound (no-line_zero script files)) (script_rising script files) follows_last at_line.rest.law (print-no_matrix script files (suc line) name e) (print-factors_none script files (suc line) name e);
          takable = takable-from s st (print_slots s what) (slots-all (λ p. IsTake s st p.0 p.1) what (layout s what) may_take_one);
        }

    -- ---- what its takes say
    is_printed : (before : List Took) → IsPrinted (setting_of script files) (before ++ takes_of (suc line) st (print_slots (setting_of script files) (line_meant (commands_of script) (suc line) 1))) (suc line) (line_meant (commands_of script) (suc line) 1) what_stands.matrix
    is_printed before =
        let s = setting_of script files in
        let what = line_meant (commands_of script) (suc line) 1 in
        IsPrinted-strips s (before ++ takes_of (suc line) st (print_slots s what)) (suc line) what what_stands.matrix what_layout what_stands.shape
        (λ rank group names. strip-taken before (suc line) st (print_slots s what) rank what group (Words (strip_of (layout s what) what_stands.matrix rank group))
        (slots-contain what (layout s what) group rank what_layout.grid names.data_rank names.group_in) (what_stands.held rank group names))

    pub print-says : (before : List Took) → IsMatrixText (setting_of script files) (before ++ takes_of (suc line) st (print_slots (setting_of script files) (line_meant (commands_of script) (suc line) 1))) (suc line) name (text_added (commands_of script) (suc line) (c.Print name) (values_at (file_of files) (commands_of script) line))
    print-says before =
        let s = setting_of script files in
        let what = line_meant (commands_of script) (suc line) 1 in
        record {
          matrix = what_stands.matrix;
          printed = subst (λ k. IsPrinted s (before ++ takes_of (suc line) st (print_slots s what)) (suc line) k what_stands.matrix) (sym (ap (λ (j : Job). j.prints) (print-job script files (suc line) name e))) (is_printed before);
          text_is = ap (value_text name) what_stands.means;
        }

    pub print-stands : (new : State) → new.mark ≡ end_mark (suc line) → new.tiles ≡ (after (setting_of script files) st (r.Commit (end_mark (suc line)) false)).tiles
        → StandsFor (setting_of script files) (commands_of script) new (values_at (file_of files) (commands_of script) line)
    print-stands new mark tiles =
        let s = setting_of script files in
        let ns = commands_of script in
        let values = values_at (file_of files) ns line in
        let keeps : (at : ℕ) → KeepsTiles s (end_mark (suc line)) st new at =
        λ at rank slot is live. ap (λ (t : ℕ → Slot → _). t rank slot) tiles ∙ ap (λ b. if b then st.tiles rank slot else None) live in
        stands-whole s ns (end_mark (suc line)) new values mark (record {
          own_matrix = λ other live names. absurd (no-matrix s (end_mark (suc line)) (suc line) (print-no_matrix script files (suc line) name e) live);
          own_list = λ other live names. absurd (no-list s (end_mark (suc line)) (suc line) (print-factors_none script files (suc line) name e) live);
          other_matrices = λ at other ne live names. matrix-stands script files kept (end_mark (suc line)) st new values values at_line.stands follows_last at other ne (keeps at) (λ undropped made. refl) live names;
          other_lists = λ at other ne live names. list-stands script files kept (end_mark (suc line)) st new values values at_line.stands follows_last at other ne (keeps at) (λ undropped made. refl) (IsScripted-sound (modulus_of (commands_of script)) s sound (no-line_zero script files)) live names;
        })

  -- ---- before and after a print line
  pub print-may : (w : WorldView) (out : List ℕ) → HasRun script files line w out
      → MayTake (setting_in w) (state_of w) (take_task (print_slots (setting_in w) (line_meant (commands_of script) (suc line) 1)) (end_mark (suc line)))
  print-may w out h =
      subst (λ s. MayTake s (state_of w) (take_task (print_slots s (line_meant (commands_of script) (suc line) 1)) (end_mark (suc line)))) (sym (setting_is w script files h.script_is h.files_are))
      (may_take_all (state_of w) (is-before script files line w out h))

  -- its takes and its commit are as many records as the bound counts
  pub print-few : (w : WorldView) (out : List ℕ) → HasRun script files line w out → length (print_slots (setting_in w) (line_meant (commands_of script) (suc line) 1)) + 1 ≤ records_in (commands_of script) (suc line) (c.Print name)
  print-few w out h =
      let same = ap (λ s. length (print_slots s (line_meant (commands_of script) (suc line) 1)) + 1) (setting_is w script files h.script_is h.files_are) ∙ print-count script files (suc line) name e kept in
      omega (arith, same)

  pub print-ends : (old new : WorldView) (out : List ℕ) (progress : Progress) → HasRun script files line old out
      → IsDriven (take_plan (take_task (print_slots (setting_in old) (line_meant (commands_of script) (suc line) 1)) (end_mark (suc line)))) progress old new
      → KeepsGoing old new → KeepsShort (phase_steps (commands_of script)) old new → KeepsHealing (recovery_steps (commands_of script)) old new → KeepsHolding old new
      → CostsAtMost (phase_steps (commands_of script)) (recovery_steps (commands_of script)) old new (length (print_slots (setting_in old) (line_meant (commands_of script) (suc line) 1)) + 1)
      → EndsLine script files line old new (c.Print name) (text_added (commands_of script) (suc line) (c.Print name) (values_at (file_of files) (commands_of script) line))
  print-ends old new out progress h driven goes short heals held costs =
      let s = setting_of script files in
      let ns = commands_of script in
      let what = line_meant ns (suc line) 1 in
      let same : setting_in old ≡ s = setting_is old script files h.script_is h.files_are in
      let at_line : IsBefore script files line (state_of old) = is-before script files line old out h in
      let takes : progress.takes ≡ takes_of (suc line) (state_of old) (print_slots s what) = driven.effect.0 ∙ ap (λ x. takes_of (suc line) (state_of old) (print_slots x what)) same in
      let tiles : (state_of new).tiles ≡ (after s (state_of old) (r.Commit (end_mark (suc line)) false)).tiles = driven.effect.1 ∙ ap (λ x. (after x (state_of old) (r.Commit (end_mark (suc line)) false)).tiles) same in
      record {
        command = e;
        plan = take_plan (take_task (print_slots (setting_in old) what) (end_mark (suc line)));
        progress = progress;
        mark = refl;
        driven = driven;
        few = omega (arith, print-few old out h);
        goes = goes;
        short = short;
        heals = heals;
        held = held;
        costs = costs;
        later = subst (λ ts. AreLater line ts) (sym takes) (takes-later line (suc line) (state_of old) (print_slots s what) (omega arith));
        stands = print-stands (state_of old) at_line (state_of new) driven.mark tiles;
        says = subst (λ ts. IsMatrixText s ((state_of old).committed ++ ts) (suc line) name (text_added ns (suc line) (c.Print name) (values_at (file_of files) ns line))) (sym takes) (print-says (state_of old) at_line (state_of old).committed);
        text_is = refl;
      }
