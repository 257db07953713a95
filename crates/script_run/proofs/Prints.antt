-- A print line that is driven: what it asks, which strips it takes, and what holds after it.
use Rattle.std.proofs.Common.{◌≡◌, ◌+◌, ◌<◌, ◌≤◌, ℕ, suc, true, List, [], ◌∷◌, ◌++◌, map, Option, Some, refl, sym, ap, subst, ◌∙◌, arith}
use Rattle.std.specs.List.{All}
use Rattle.std.specs.Str.{IsUtf8}
use Rattle.std.proofs.lemmas.Bool.{le-leb, leb-true}
use Rattle.std.proofs.lemmas.Option.{same_Some}
use Rattle.std.proofs.lemmas.List.Elements.{All-head, All-tail}
use Rattle.blacs_grid.specs.declared.Scope.TheVariants as scope
use Rattle.blacs_grid.specs.Places.{member}
use Rattle.blacs_grid.proofs.ScopeLaws.{is_in_scope-member}
use Rattle.run_data.specs.Matrix.{Matrix}
use Rattle.run_data.specs.declared.command.Command.{Command}
use Rattle.run_data.specs.declared.command.Command.TheVariants as c
use Rattle.run_data.specs.Script.{commands_of, command_at, modulus_of}
use Rattle.rank_machine.specs.declared.slot.Slot.{Slot}
use Rattle.rank_machine.specs.declared.slot.Tile.TheVariants.{Words}
use Rattle.rank_machine.specs.declared.layout.Layout.{Layout}
use Rattle.rank_machine.specs.Setting.{layout, strip_of, is_job}
use Rattle.rank_machine.specs.Scripts.{Matrices, file_of, line_meant, setting_of}
use Rattle.rank_machine.specs.State.{State, Took, end_mark}
use Rattle.rank_machine.specs.Effect.{is_live_matrix}
use Rattle.serial_model.specs.Serial.{value_text}
use Rattle.serial_model.specs.Text.{matrix_text}
use Rattle.script_words.specs.Limits.{line_limit}
use Rattle.script_lines.specs.Layouts.{IsLayout}
use Rattle.script_lines.specs.Sound.{IsSound}
use Rattle.script_bounds.specs.Accepted.{KeepsRules}
use Rattle.script_bounds.specs.Bounds.{records_in}
use Rattle.block_world.specs.World.{WorldView, setting_in, state_of}
use Rattle.world_heal.specs.declared.healing.Drove.{Drove}
use Rattle.world_heal.specs.declared.healing.Drove.TheVariants.{Done}
use Rattle.world_heal.specs.Outcomes.{IfDrove}
use Rattle.phases.specs.Plans.{Progress}
use Rattle.plain_phases.specs.Taking.{TakeTask, take_task, takes_of, took_from, take_plan}
use Rattle.plain_phases.specs.declared.taking.Got.{Got}
use Rattle.whole_run.specs.Until.{values_at}
use Rattle.dist_matrix.specs.Strips.{HasShape}
use Rattle.whole_run.specs.Between.{HoldsMatrix, StandsForMatrix, HasRun}
use Rattle.whole_run.specs.Inside.{IsStopped}
use Rattle.whole_run.proofs.Shorter.{job-last}
use Rattle.whole_run.proofs.Ending.{setting_is}
use Rattle.whole_run.proofs.LineEnds.{line-ends}
use Rattle.line_phases.specs.Printing.{strip_slots, print_slots}
use Rattle.line_phases.proofs.PrintSlots.{slots-all}
use Rattle.line_phases.proofs.PrintedName.{print-is_job, printed-before, printed-is_job, printed-names, printed-live}
use Rattle.line_phases.proofs.PrintLine.{print-may, print-few, print-ends}
use Rattle.script_run.specs.Strips.{strip_got, AreStrips}
use Rattle.script_run.specs.Driving.{IsWholeLine, HasDriven}
use Rattle.script_run.specs.Runnable.{IsRunnable}
use Rattle.script_run.proofs.Named.{print-named}
use Rattle.script_run.proofs.AcceptedSound.{accepted-sound}

-- ---- what was taken from slots that hold strips
abbrev HoldsStrip : Layout → Matrix → State → ℕ × Slot → Type 0
HoldsStrip d m st p = st.tiles p.0 p.1 ≡ Some (Words (strip_of d m p.0 p.1.group))

got_is : (line : ℕ) (d : Layout) (m : Matrix) (st : State) (p : ℕ × Slot) (g : Got) → HoldsStrip d m st p → took_from line g ≡ record { line = line; rank = p.0; slot = p.1; tile = st.tiles p.0 p.1 } → g ≡ strip_got d m p
got_is line d m st p g held e =
    let tile : g.tile ≡ Words (strip_of d m p.0 p.1.group) = same_Some g.tile (Words (strip_of d m p.0 p.1.group)) (ap (λ (t : Took). t.tile) e ∙ held) in
    λ i. record { rank = (e i).rank; slot = (e i).slot; tile = tile i }

got_are : (line : ℕ) (d : Layout) (m : Matrix) (st : State) (ps : List (ℕ × Slot)) (got : List Got) → All (HoldsStrip d m st) ps → map (took_from line) got ≡ takes_of line st ps → got ≡ map (strip_got d m) ps
got_are line d m st [] [] held e = refl
got_are line d m st [] (g ∷ gs) held e = absurd cc
got_are line d m st (p ∷ ps) [] held e = absurd cc
got_are line d m st (p ∷ ps) (g ∷ gs) held e =
    let one : g ≡ strip_got d m p = got_is line d m st p g (All-head (HoldsStrip d m st) p ps held) cc in
    let more : gs ≡ map (strip_got d m) ps = got_are line d m st ps gs (All-tail (HoldsStrip d m st) p ps held) cc in
    λ i. one i ∷ more i

module _ (script : List (Option Command)) (files : Matrices) (line : ℕ) (name : List ℕ) (ready : IsRunnable script files) (e : command_at (commands_of script) (suc line) ≡ Some (c.Print name)) (w : WorldView) (out : List ℕ) (h : HasRun script files line w out) where
  kept : KeepsRules script
  kept = ready.accepted.lines

  sound : IsSound (modulus_of (commands_of script)) (setting_of script files)
  sound = accepted-sound script files ready

  same : setting_in w ≡ setting_of script files
  same = setting_is w script files h.script_is h.files_are

  -- its takes are the whole of the line
  print_line : (task : TakeTask) → task ≡ take_task (print_slots (setting_in w) (line_meant (commands_of script) (suc line) 1)) (end_mark (suc line)) → IsWholeLine script line (take_plan task) w
  print_line task is = record {
    command = c.Print name;
    there = e;
    may = subst (λ t. (take_plan t).MayDrive (setting_in w) (state_of w)) (sym is) (print-may script files line name kept sound e w out h);
    mark = ap (λ (t : TakeTask). t.mark) is;
    few = subst (λ (t : TakeTask). (take_plan t).most_records ≤ records_in (commands_of script) (suc line) (c.Print name)) (sym is) (print-few script files line name kept sound e w out h);
  }

  -- the matrix that it prints stands for what the name means
  live : is_live_matrix (setting_in w) (state_of w).mark (line_meant (commands_of script) (suc line) 1) ≡ true
  live =
      let what = line_meant (commands_of script) (suc line) 1 in
      let before : what < suc line = printed-before script files (suc line) name e kept in
      let job : is_job (setting_in w) what ≡ true = subst (λ s. is_job s what ≡ true) (sym same) (printed-is_job script files (suc line) name e kept) in
      subst (λ s. is_live_matrix s (state_of w).mark what ≡ true) (sym same)
      (printed-live script files (suc line) name e kept (state_of w).mark
      (h.done what job ∙ le-leb what line (omega (arith, before)))
      (λ at own over. let le = leb-true at line (sym (h.done at (subst (λ s. is_job s at ≡ true) (sym same) own)) ∙ over) in omega (arith, le)))

  stands_for : StandsForMatrix (setting_in w) (state_of w) (line_meant (commands_of script) (suc line) 1) name (values_at (file_of files) (commands_of script) line)
  stands_for = h.stands.matrices (line_meant (commands_of script) (suc line) 1) name live (printed-names script files (suc line) name e kept)

  -- what it took are the strips of that matrix
  strips_taken : (d : Layout) → IsLayout d → d ≡ layout (setting_in w) (line_meant (commands_of script) (suc line) 1) → (got : List Got)
      → map (took_from (suc line)) got ≡ takes_of (suc line) (state_of w) (print_slots (setting_in w) (line_meant (commands_of script) (suc line) 1))
      → AreStrips d (line_meant (commands_of script) (suc line) 1) stands_for.matrix got
  strips_taken d is lies got takes =
      let what = line_meant (commands_of script) (suc line) 1 in
      let m : Matrix = stands_for.matrix in
      let held : All (HoldsStrip d m (state_of w)) (strip_slots what d) =
      slots-all (HoldsStrip d m (state_of w)) what d
      (λ group i group_in i_in.
      let rank : ℕ = member d.grid scope.All i in
      subst (λ l. HoldsMatrix (state_of w) what l m) (sym lies) stands_for.held rank group (record { data_rank = is_in_scope-member d.grid scope.All i is.grid tt i_in; group_in = group_in })) in
      record {
        shaped = stands_for.shaped;
        shape = subst (λ l. HasShape l m) (sym lies) stands_for.shape;
        are = got_are (suc line) d m (state_of w) (strip_slots what d) got held (takes ∙ ap (λ l. takes_of (suc line) (state_of w) (strip_slots what l)) (sym lies));
      }

  -- after it the line has ended, and its text was added
  has_run : (progress : Progress) (new : WorldView) → HasDriven script (take_plan (take_task (print_slots (setting_in w) (line_meant (commands_of script) (suc line) 1)) (end_mark (suc line)))) progress w new
      → (more : List ℕ) → more ≡ out ++ matrix_text name stands_for.matrix → HasRun script files (suc line) new more
  has_run progress new g more text =
      subst (HasRun script files (suc line) new) (ap (λ v. out ++ value_text name v) stands_for.means ∙ sym text)
      (line-ends script files line w new out (c.Print name) _ h
      (print-ends script files line name kept sound e w new out progress h g.driven g.goes g.short g.heals g.held g.costs))

-- ---- the takes of the line after these, of the matrix that it means
module _ (script : List (Option Command)) (files : Matrices) (line : ℕ) (name : List ℕ) (ready : IsRunnable script files) (e : command_at (commands_of script) (line + 1) ≡ Some (c.Print name)) where
  next : suc line ≡ line + 1
  next = omega arith

  here : command_at (commands_of script) (suc line) ≡ Some (c.Print name)
  here = ap (command_at (commands_of script)) next ∙ e

  -- its number is small
  pub print-low : line + 1 ≤ line_limit
  print-low = omega (arith, job-last script files (suc line) (print-is_job script files (suc line) name here), ready.accepted.lines.few)

  -- its name is text
  pub print-text : IsUtf8 name
  print-text = print-named script (suc line) name ready.accepted.lines here

  module _ (w : WorldView) (out : List ℕ) (h : HasRun script files line w out) where
    -- the matrix that the name means
    pub printed-matrix : Matrix
    printed-matrix = (stands_for script files line name ready here w out h).matrix

    module _ (what : ℕ) (means : what ≡ line_meant (commands_of script) (line + 1) 1) (d : Layout) (is : IsLayout d) (lies : d ≡ layout (setting_in w) what) (task : TakeTask) (task_is : task ≡ take_task (strip_slots what d) (end_mark (line + 1))) where
      meant : what ≡ line_meant (commands_of script) (suc line) 1
      meant = means ∙ ap (λ k. line_meant (commands_of script) k 1) (sym next)

      as_printed : task ≡ take_task (print_slots (setting_in w) (line_meant (commands_of script) (suc line) 1)) (end_mark (suc line))
      as_printed = task_is ∙ (ap (λ l. take_task (strip_slots what l) (end_mark (line + 1))) lies ∙ (λ i. take_task (print_slots (setting_in w) (meant i)) (end_mark (sym next i))))

      -- they are the whole of the line
      pub print-line : IsWholeLine script line (take_plan task) w
      print-line = print_line script files line name ready here w out h task as_printed

      -- ---- where they were driven to the end of the line
      module _ (now : TakeTask) (same_task : now ≡ task) (progress : Progress) (new : WorldView) (said : List ℕ) (drove : Drove) (is_done : drove ≡ Done)
          (drives : IfDrove (HasDriven script (take_plan task) progress w new) (IsStopped script files line new said) drove) (got : List Got) (takes : progress.takes ≡ map (took_from now.mark.line) got) where
        driven : HasDriven script (take_plan task) progress w new
        driven = subst (IfDrove (HasDriven script (take_plan task) progress w new) (IsStopped script files line new said)) is_done drives

        -- what was taken are the strips of the matrix
        pub print-strips : AreStrips d what printed-matrix got
        unfolding printed-matrix
        print-strips =
            let taken : map (took_from (suc line)) got ≡ takes_of (suc line) (state_of w) (print_slots (setting_in w) (line_meant (commands_of script) (suc line) 1)) =
            ap (λ (t : TakeTask). map (took_from t.mark.line) got) (sym (same_task ∙ as_printed))
            ∙ (sym takes ∙ (driven.driven.effect.0 ∙ ap (λ (t : TakeTask). takes_of t.mark.line (state_of w) t.slots) as_printed)) in
            subst (λ k. AreStrips d k printed-matrix got) (sym meant) (strips_taken script files line name ready here w out h d is (lies ∙ ap (layout (setting_in w)) meant) got taken)

        -- the line has run where the text of the matrix that they make was added
        pub print-run : (whole : Matrix) → ((m : Matrix) → AreStrips d what m got → whole ≡ m) → (more : List ℕ) → more ≡ out ++ matrix_text name whole → HasRun script files (line + 1) new more
        unfolding printed-matrix
        print-run whole whole_is more text =
            subst (λ k. HasRun script files k new more) next
            (has_run script files line name ready here w out h progress new (subst (λ t. HasDriven script (take_plan t) progress w new) as_printed driven) more (text ∙ ap (λ m. out ++ matrix_text name m) (whole_is printed-matrix print-strips)))
