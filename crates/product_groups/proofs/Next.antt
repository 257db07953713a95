-- From one group of a product to the next one, by a phase that commits as a part of the line.
use Rattle.std.proofs.Common.{◌≡◌, ◌≢◌, ◌≤◌, ◌<◌, ◌+◌, ◌*◌, ◌∙◌, ℕ, suc, true, List, Option, Some, refl, sym, ap, subst, ⊎_elim, arith, IsTrue}
use Rattle.std.proofs.lemmas.List.Elements.{All-nil}
use Rattle.std.proofs.lemmas.Bool.{cases_eq}
use Rattle.std.proofs.lemmas.Nat.{mul-le}
use Rattle.run_data.specs.Matrix.{Matrix}
use Rattle.run_data.specs.declared.command.Command.{Command}
use Rattle.run_data.specs.Script.{commands_of, command_at}
use Rattle.rank_machine.specs.declared.mark.Mark.{Mark}
use Rattle.rank_machine.specs.Setting.{Setting, group_count}
use Rattle.rank_machine.specs.Scripts.{Matrices, file_of, setting_of}
use Rattle.rank_machine.specs.State.{State, Took, end_mark}
use Rattle.rank_machine.specs.Effect.{is_live_matrix, is_live_list}
use Rattle.rank_machine.specs.Marks.{follows}
use Rattle.script_bounds.specs.Bounds.{records_in, plain_bound, phase_steps, recovery_steps}
use Rattle.serial_model.specs.Solves.{product_of}
use Rattle.serial_model.specs.Serial.{Values}
use Rattle.block_world.specs.World.{WorldView, setting_in, state_of}
use Rattle.run_laws.specs.Due.{IsRunning}
use Rattle.phases.specs.Plans.{Progress}
use Rattle.loss_recovery.specs.Driven.{IsDriven, CostsAtMost}
use Rattle.world_heal.specs.Costs.{KeepsGoing, KeepsShort, KeepsHealing, KeepsHolding}
use Rattle.phase_frames.specs.Groups.{HoldsGroup}
use Rattle.product_rounds.specs.declared.rounds.GroupProduct.{GroupProduct}
use Rattle.product_laws.specs.Held.{HoldsGroups}
use Rattle.product_laws.specs.Multiplying.{layout_a, layout_b, layout_c, product_task, product_plan, product_records, HaveShapes, HasMultiplied}
use Rattle.whole_run.specs.Until.{values_at, bound_until}
use Rattle.whole_run.specs.Between.{StandsForMatrix, StandsForList, Names}
use Rattle.whole_run.specs.Inside.{IsPartly, part_mark}
use Rattle.whole_run.proofs.Later.{AreLater}
use Rattle.whole_run.proofs.Partly.{line-fits, partly-next}
use Rattle.whole_run.proofs.Parts.{part-again, part-end}
use Rattle.line_phases.proofs.StillStands.{matrix-stays, list-stays, no-list}
use Rattle.product_groups.specs.Groups.{at_group, MayMultiplyLine, HasGroups}
use Rattle.product_groups.proofs.After.{count-b, keeps-line, keeps-matrix, keeps-group, makes-group}

-- ---- what holds of the state between two groups, under the last mark
pub record StandBetween (script : List (Option Command)) (done : ℕ) (x : GroupProduct) (a b c : Matrix) (group : ℕ) (values : Values) (s : Setting) (mark : Mark) (st : State) : Type 0 where
  pub part : IsTrue (follows s mark (part_mark (suc done)))
  pub ends : IsTrue (follows s mark (end_mark (suc done)))
  pub matrices_same : (at : ℕ) → is_live_matrix s mark at ≡ is_live_matrix s (part_mark (suc done)) at
  pub lists_same : (at : ℕ) → is_live_list s mark at ≡ is_live_list s (part_mark (suc done)) at
  pub holds_a : HoldsGroups st (layout_a x) x.line_a a
  pub holds_b : HoldsGroups st (layout_b x) x.line_b b
  pub made : (g : ℕ) → g < group → HoldsGroup st (layout_c x) x.line_c (product_of s.modulus x.alpha a b x.beta c) g
  pub rest : (g : ℕ) → group ≤ g → g < group_count (layout_c x) → HoldsGroup st (layout_c x) x.line_c c g
  pub others : (at : ℕ) (name : List ℕ) → at ≢ x.line_c → is_live_matrix s mark at ≡ true → Names (commands_of script) at name → StandsForMatrix s st at name values
  pub lists : (at : ℕ) (name : List ℕ) → is_live_list s mark at ≡ true → Names (commands_of script) at name → StandsForList s st at name values

-- with what holds of the run it is all that holds between two groups
pub groups-from : (script : List (Option Command)) (files : Matrices) (done : ℕ) (x : GroupProduct) (a b c : Matrix) (group : ℕ) (w : WorldView) (out : List ℕ) → IsPartly script files done (group * product_records x) w out
    → StandBetween script done x a b c group (values_at (file_of files) (commands_of script) done) (setting_in w) (state_of w).mark (state_of w) → HasGroups script files done x a b c group w out
groups-from script files done x a b c group w out partly h = record {
  partly = partly;
  part = h.part;
  ends = h.ends;
  matrices_same = h.matrices_same;
  lists_same = h.lists_same;
  holds_a = h.holds_a;
  holds_b = h.holds_b;
  made = h.made;
  rest = h.rest;
  others = h.others;
  lists = h.lists;
}

-- ---- in the state after a phase for one group, whose commit left the mark of a part of the line
module _ (script : List (Option Command)) (done : ℕ) (x : GroupProduct) (a b c : Matrix) (group : ℕ) (values : Values) (s : Setting) (mark : Mark) (old new : State) (takes : List Took)
    (h : StandBetween script done x a b c group values s mark old) (effect : HasMultiplied s old (product_task (at_group x group) (part_mark (suc done))) takes new)
    (lt : group < group_count (layout_c x)) (asks : MayMultiplyLine s x (suc done)) (shapes : HaveShapes x a b c) where
  abbrev part : Mark
  part = part_mark (suc done)

  one_more : (g : ℕ) → g < suc group → HoldsGroup new (layout_c x) x.line_c (product_of s.modulus x.alpha a b x.beta c) g
  one_more g before =
      ⊎_elim
      (λ (same : g ≡ group).
      subst (λ k. HoldsGroup new (layout_c x) x.line_c (product_of s.modulus x.alpha a b x.beta c) k) (sym same)
      (makes-group s old x group part takes new effect a b c h.holds_a (h.holds_b group (subst (λ n. group < n) (sym (count-b s x (suc done) asks)) lt)) (h.rest group (omega arith) lt) shapes))
      (λ (other : g ≢ group).
      keeps-group s old x group part takes new effect x.line_c (layout_c x) (product_of s.modulus x.alpha a b x.beta c) g asks.lies_c asks.live_c (omega (arith, lt, before)) other (h.made g (less g group before other)))
      (cases_eq g group)
    where
      less : (g n : ℕ) → g < suc n → g ≢ n → g < n
      less g n lt ne = grind arith

  -- so it holds for one group more, under that mark
  pub stand-next : StandBetween script done x a b c (suc group) values s part new
  stand-next = record {
    part = part-again s (suc done) asks.rising asks.there asks.plain;
    ends = part-end s (suc done) asks.rising asks.there;
    matrices_same = λ at. refl;
    lists_same = λ at. refl;
    holds_a = λ g inside. keeps-matrix s old x group part takes new effect x.line_a (layout_a x) a g asks.lies_a asks.live_a inside (λ same. asks.apart_a (sym same)) (h.holds_a g inside);
    holds_b = λ g inside. keeps-matrix s old x group part takes new effect x.line_b (layout_b x) b g asks.lies_b asks.live_b inside (λ same. asks.apart_b (sym same)) (h.holds_b g inside);
    made = one_more;
    rest = λ g le inside. keeps-group s old x group part takes new effect x.line_c (layout_c x) c g asks.lies_c asks.live_c inside (λ same. omega (arith, same, le)) (h.rest g (omega (arith, le)) inside);
    others = λ at name other live named. matrix-stays s part old new at name values values live (keeps-line s old x group part takes new effect at other) refl (h.others at name other (h.matrices_same at ∙ live) named);
    lists = λ at name live named.
        list-stays s part old new at name values values asks.scripted live
        (keeps-line s old x group part takes new effect at (λ same. no-list s part x.line_c asks.plain_c (subst (λ k. is_live_list s part k ≡ true) same live))) refl
        (h.lists at name (h.lists_same at ∙ live) named);
  }

-- ---- from group to group
-- one group more
pub times_more : (g n : ℕ) → g * n + n ≡ suc g * n
times_more g n = omega arith

-- as many records as all groups have are in the bound of the script, so those up to a group are
pub groups-fit : (script : List (Option Command)) (done group count n : ℕ) (command : Command) → command_at (commands_of script) (suc done) ≡ Some command → group < count
    → count * n ≤ records_in (commands_of script) (suc done) command → bound_until done (commands_of script) + (group * n + n) ≤ plain_bound (commands_of script)
groups-fit script done group count n command there lt few =
    let one : n ≤ n = omega arith in
    let le : suc group * n ≤ count * n = mul-le (suc group) n count n (omega (arith, lt)) one in
    line-fits script done (group * n + n) command there (omega (arith, times_more group n, le, few))

-- the settings of two worlds of one script are the same
pub setting-stays : (old new : WorldView) → new.script ≡ old.script → new.files ≡ old.files → setting_in new ≡ setting_in old
setting-stays old new script files = ap (λ x. setting_of x new.files) script ∙ ap (setting_of old.script) files

-- and it is a part of that
pub stand-in : (script : List (Option Command)) (files : Matrices) (done : ℕ) (x : GroupProduct) (a b c : Matrix) (group : ℕ) (w : WorldView) (out : List ℕ) → HasGroups script files done x a b c group w out
    → StandBetween script done x a b c group (values_at (file_of files) (commands_of script) done) (setting_in w) (state_of w).mark (state_of w)
stand-in script files done x a b c group w out h = record {
  part = h.part;
  ends = h.ends;
  matrices_same = h.matrices_same;
  lists_same = h.lists_same;
  holds_a = h.holds_a;
  holds_b = h.holds_b;
  made = h.made;
  rest = h.rest;
  others = h.others;
  lists = h.lists;
}

-- the phase of a group, which commits as a part of the line, leads to the next group
pub groups-next : (script : List (Option Command)) (files : Matrices) (done : ℕ) (x : GroupProduct) (a b c : Matrix) (group : ℕ) (old new : WorldView) (out : List ℕ) (progress : Progress) → HasGroups script files done x a b c group old out
    → IsDriven (product_plan (product_task (at_group x group) (part_mark (suc done)))) progress old new → group < group_count (layout_c x) → MayMultiplyLine (setting_in old) x (suc done) → HaveShapes x a b c
    → IsRunning (setting_in old) old.journal → IsRunning (setting_in new) new.journal → bound_until done (commands_of script) + (group * product_records x + product_records x) ≤ plain_bound (commands_of script)
    → CostsAtMost (phase_steps (commands_of script)) (recovery_steps (commands_of script)) old new (product_records x)
    → KeepsGoing old new → KeepsShort (phase_steps (commands_of script)) old new → KeepsHealing (recovery_steps (commands_of script)) old new → KeepsHolding old new
    → HasGroups script files done x a b c (suc group) new out
groups-next script files done x a b c group old new out progress h driven lt asks shapes was_running running fits costs goes short heals held =
    let values : Values = values_at (file_of files) (commands_of script) done in
    let same : setting_in new ≡ setting_in old = setting-stays old new driven.later.script driven.later.files in
    let late : AreLater done progress.takes = subst (λ ts. AreLater done ts) (sym driven.effect.takes_none) (All-nil (λ (t : Took). done < t.line)) in
    let on : suc done ≡ done + 1 = omega arith in
    let partly : IsPartly script files done (group * product_records x + product_records x) new out =
    partly-next script files done (group * product_records x) old new out (product_plan (product_task (at_group x group) (part_mark (suc done)))) progress h.partly driven on refl late was_running running fits costs goes short heals held in
    let stands : StandBetween script done x a b c (suc group) values (setting_in old) (part_mark (suc done)) (state_of new) =
    stand-next script done x a b c group values (setting_in old) (state_of old).mark (state_of old) (state_of new) progress.takes (stand-in script files done x a b c group old out h) driven.effect lt asks shapes in
    groups-from script files done x a b c (suc group) new out (subst (λ k. IsPartly script files done k new out) (times_more group (product_records x)) partly)
    (subst (λ s. StandBetween script done x a b c (suc group) values s (state_of new).mark (state_of new)) (sym same)
    (subst (λ m. StandBetween script done x a b c (suc group) values (setting_in old) m (state_of new)) (sym driven.mark) stands))
