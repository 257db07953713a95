-- The last group of a product: its phase's commit ends the line, and C is the product.
use Rattle.std.proofs.Common.{◌≡◌, ◌≢◌, ◌≤◌, ◌<◌, ◌+◌, ◌*◌, ◌%◌, ◌∙◌, ℕ, suc, true, List, [], Option, Some, refl, sym, ap, subst, ⊎_elim, arith}
use Rattle.std.proofs.lemmas.List.{append-nil}
use Rattle.std.proofs.lemmas.List.Elements.{All-nil}
use Rattle.std.proofs.lemmas.Bool.{cases_eq}
use Rattle.std.proofs.lemmas.Option.{same_Some}
use Rattle.run_data.specs.Matrix.{Matrix, cols, entry, IsShaped}
use Rattle.run_data.proofs.Matrices.{rows-tabulate, cols-tabulate, IsShaped-tabulate}
use Rattle.run_data.specs.declared.command.Command.{Command}
use Rattle.run_data.specs.declared.command.Command.TheVariants as c
use Rattle.run_data.specs.Script.{commands_of, command_at, name_made, maker, modulus_of}
use Rattle.field_core.specs.Sums.{sum_to}
use Rattle.rank_machine.specs.declared.mark.Mark.{Mark}
use Rattle.rank_machine.specs.declared.layout.Layout.{Layout}
use Rattle.rank_machine.specs.Setting.{Setting, group_count}
use Rattle.rank_machine.specs.Scripts.{Matrices, file_of, setting_of}
use Rattle.rank_machine.specs.State.{State, Took, end_mark}
use Rattle.rank_machine.specs.Effect.{is_live_matrix, is_live_list}
use Rattle.script_bounds.specs.Accepted.{KeepsRules}
use Rattle.script_bounds.specs.Bounds.{records_in, phase_steps, recovery_steps}
use Rattle.serial_model.specs.Solves.{product_of}
use Rattle.serial_model.specs.Serial.{Values, whole, matrix_in, with_matrix}
use Rattle.line_laws.specs.Lines.{values_after}
use Rattle.block_world.specs.World.{WorldView, setting_in, state_of}
use Rattle.phases.specs.Plans.{Progress}
use Rattle.loss_recovery.specs.Driven.{IsDriven, CostsAtMost}
use Rattle.world_heal.specs.Costs.{KeepsGoing, KeepsShort, KeepsHealing, KeepsHolding}
use Rattle.dist_matrix.specs.Strips.{HasShape}
use Rattle.product_rounds.specs.declared.rounds.GroupProduct.{GroupProduct}
use Rattle.phase_frames.specs.Groups.{HoldsGroup}
use Rattle.product_laws.specs.Held.{HoldsGroups}
use Rattle.product_laws.specs.Multiplying.{layout_c, product_task, product_plan, product_records, HaveShapes, HasMultiplied}
use Rattle.whole_run.specs.Until.{values_at}
use Rattle.whole_run.specs.Between.{HoldsMatrix, StandsForMatrix, StandsForList, Names, StandsFor, HasRun}
use Rattle.whole_run.proofs.Ending.{setting_is}
use Rattle.whole_run.proofs.Later.{AreLater}
use Rattle.whole_run.proofs.Partly.{EndsLineAfter, partly-ends}
use Rattle.whole_run.proofs.Parts.{end-matrix, end-list}
use Rattle.line_phases.proofs.StillStands.{value-same, value-here, matrix-stays, list-stays, matrix-means, list-means, no-matrix, no-list, stands-whole}
use Rattle.product_groups.specs.Groups.{at_group, MayMultiplyLine, IsOperand, HasGroups}
use Rattle.product_groups.proofs.May.{layout-c, other-line, stays-c}
use Rattle.product_groups.proofs.After.{count-b, keeps-line, keeps-group, makes-group}
use Rattle.product_groups.proofs.Holding.{matrix-held}
use Rattle.product_groups.proofs.Next.{StandBetween, stand-in, times_more}

-- ---- the product has C's shape
abbrev word_of : ℕ → ℕ → Matrix → Matrix → ℕ → Matrix → ℕ → ℕ → ℕ
word_of p alpha a b beta m i j = (alpha * sum_to (cols a) (λ k. entry a i k * entry b k j) + beta * entry m i j) % p

product_shape : (d : Layout) (p alpha : ℕ) (a b : Matrix) (beta : ℕ) (m : Matrix) → HasShape d m → HasShape d (product_of p alpha a b beta m)
product_shape d p alpha a b beta m shape = record {
  rows = rows-tabulate m.rows (cols m) (word_of p alpha a b beta m) ∙ shape.rows;
  columns = cols-tabulate m.rows (cols m) (word_of p alpha a b beta m) ∙ shape.columns;
}

product_shaped : (p alpha : ℕ) (a b : Matrix) (beta : ℕ) (m : Matrix) → IsShaped (product_of p alpha a b beta m)
product_shaped p alpha a b beta m = IsShaped-tabulate m.rows (cols m) (word_of p alpha a b beta m)

-- a line makes one name
one_name : (script : List (Option Command)) (line : ℕ) (name other : List ℕ) → Names (commands_of script) line name → Names (commands_of script) line other → name ≡ other
one_name script line name other first second = same_Some name other (sym first.2 ∙ (ap name_made (same_Some first.0 second.0 (sym first.1 ∙ second.1)) ∙ second.2))

-- ---- the state after the last phase
module _ (script : List (Option Command)) (files : Matrices) (kept : KeepsRules script) (done : ℕ) (x : GroupProduct) (a b m : Matrix) (group : ℕ) (values : Values) (mark : Mark) (old new : State) (takes : List Took)
    (h : StandBetween script done x a b m group values (setting_of script files) mark old) (effect : HasMultiplied (setting_of script files) old (product_task (at_group x group) (end_mark (suc done))) takes new)
    (last : suc group ≡ group_count (layout_c x)) (asks : MayMultiplyLine (setting_of script files) x (suc done)) (shapes : HaveShapes x a b m) (nc : List ℕ) (named_c : Names (commands_of script) x.line_c nc) where
  abbrev s : Setting
  s = setting_of script files

  abbrev ending : Mark
  ending = end_mark (suc done)

  abbrev product : Matrix
  product = product_of s.modulus x.alpha a b x.beta m

  abbrev after_it : Values
  after_it = with_matrix values nc product

  group_in : group < group_count (layout_c x)
  group_in = omega (arith, last)

  all_groups : HoldsGroups new (layout_c x) x.line_c product
  all_groups g inside =
      ⊎_elim
      (λ (same : g ≡ group).
      subst (λ k. HoldsGroup new (layout_c x) x.line_c product k) (sym same)
      (makes-group s old x group ending takes new effect a b m h.holds_a (h.holds_b group (subst (λ n. group < n) (sym (count-b s x (suc done) asks)) group_in)) (h.rest group (omega arith) group_in) shapes))
      (λ (other : g ≢ group). keeps-group s old x group ending takes new effect x.line_c (layout_c x) product g asks.lies_c (stays-c s x (suc done) asks) inside other (h.made g (less g group (subst (λ n. g < n) (sym last) inside) other)))
      (cases_eq g group)
    where
      less : (g n : ℕ) → g < suc n → g ≢ n → g < n
      less g n lt ne = grind arith

  stands_c : (name : List ℕ) → Names (commands_of script) x.line_c name → StandsForMatrix s new x.line_c name after_it
  stands_c name named = record {
    matrix = product;
    means = value-here values nc (Some (whole product)) name (one_name script x.line_c nc name named_c named);
    shaped = product_shaped s.modulus x.alpha a b x.beta m;
    shape = subst (λ (d : Layout). HasShape d product) (sym asks.lies_c) (product_shape (layout_c x) s.modulus x.alpha a b x.beta m shapes.c);
    held = subst (λ (d : Layout). HoldsMatrix new x.line_c d product) (sym asks.lies_c) (matrix-held new x.line_c (layout_c x) product (layout-c s x (suc done) asks) all_groups);
  }

  -- what is live and is not C has another name
  other_name : (at : ℕ) (name : List ℕ) → maker (commands_of script) (suc done) name ≡ Some at → at ≢ x.line_c → nc ≡ name → ⊥
  other_name at name means other same =
      let c_means : maker (commands_of script) (suc done) nc ≡ Some x.line_c =
      matrix-means script files kept ending x.line_c nc (stays-c s x (suc done) asks) named_c (other-line s x (suc done) x.line_c ending asks (stays-c s x (suc done) asks)) in
      other (same_Some at x.line_c (sym means ∙ (ap (maker (commands_of script) (suc done)) (sym same) ∙ c_means)))

  stands_other : (at : ℕ) (name : List ℕ) → at ≢ suc done → at ≢ x.line_c → is_live_matrix s ending at ≡ true → Names (commands_of script) at name → StandsForMatrix s new at name after_it
  stands_other at name apart other live named =
      matrix-stays s ending old new at name values after_it live (keeps-line s old x group ending takes new effect at other)
      (value-same values nc (Some (whole product)) name (other_name at name (matrix-means script files kept ending at name live named apart) other))
      (h.others at name other (h.matrices_same at ∙ (sym (end-matrix s (suc done) asks.rising asks.drops_none at apart) ∙ live)) named)

  stands_list : (at : ℕ) (name : List ℕ) → at ≢ suc done → is_live_list s ending at ≡ true → Names (commands_of script) at name → StandsForList s new at name after_it
  stands_list at name apart live named =
      let other : at ≢ x.line_c = λ same. no-list s ending x.line_c asks.plain_c (subst (λ k. is_live_list s ending k ≡ true) same live) in
      list-stays s ending old new at name values after_it asks.scripted live (keeps-line s old x group ending takes new effect at other)
      (value-same values nc (Some (whole product)) name (other_name at name (list-means script files kept ending at name live named apart) other))
      (h.lists at name (h.lists_same at ∙ (sym (end-list s (suc done) asks.rising asks.drops_none at) ∙ live)) named)

  -- so all that is live is what it is in the serial run after the line
  pub stand-end : new.mark ≡ ending → StandsFor s (commands_of script) new after_it
  stand-end is = stands-whole s (commands_of script) ending new after_it is (record {
    own_matrix = λ name live named. absurd (no-matrix s ending (suc done) asks.no_matrix live);
    own_list = λ name live named. absurd (no-list s ending (suc done) asks.plain live);
    other_matrices = λ at name apart live named.
        ⊎_elim
        (λ (same : at ≡ x.line_c). subst (λ k. StandsForMatrix s new k name after_it) (sym same) (stands_c name (subst (λ k. Names (commands_of script) k name) same named)))
        (λ (other : at ≢ x.line_c). stands_other at name apart other live named)
        (cases_eq at x.line_c);
    other_lists = λ at name apart live named. stands_list at name apart live named;
  })

-- ---- the line has ended
-- the phase of the last group, whose commit ends the line, leads to the next line
pub groups-end : (script : List (Option Command)) (files : Matrices) (done : ℕ) (x : GroupProduct) (a b m : Matrix) (group : ℕ) (old new : WorldView) (out : List ℕ) (progress : Progress)
    (transa transb : List ℕ) (rows columns inner : ℕ) (na : List ℕ) (ia ja : ℕ) (nb : List ℕ) (ib jb : ℕ) (nc : List ℕ) (ic jc : ℕ) → HasGroups script files done x a b m group old out → KeepsRules script
    → command_at (commands_of script) (suc done) ≡ Some (c.Pgemm transa transb rows columns inner x.alpha na ia ja nb ib jb x.beta nc ic jc)
    → IsOperand script files done x.line_a na a → IsOperand script files done x.line_b nb b → IsOperand script files done x.line_c nc m
    → IsDriven (product_plan (product_task (at_group x group) (end_mark (suc done)))) progress old new → suc group ≡ group_count (layout_c x) → MayMultiplyLine (setting_in old) x (suc done) → HaveShapes x a b m
    → suc group * product_records x ≤ records_in (commands_of script) (suc done) (c.Pgemm transa transb rows columns inner x.alpha na ia ja nb ib jb x.beta nc ic jc)
    → CostsAtMost (phase_steps (commands_of script)) (recovery_steps (commands_of script)) old new (product_records x)
    → KeepsGoing old new → KeepsShort (phase_steps (commands_of script)) old new → KeepsHealing (recovery_steps (commands_of script)) old new → KeepsHolding old new
    → HasRun script files (suc done) new out
groups-end script files done x a b m group old new out progress transa transb rows columns inner na ia ja nb ib jb nc ic jc h kept there is_a is_b is_c driven last asks shapes fits costs goes short heals held =
    let cs = commands_of script in
    let command : Command = c.Pgemm transa transb rows columns inner x.alpha na ia ja nb ib jb x.beta nc ic jc in
    let values : Values = values_at (file_of files) cs done in
    let s : Setting = setting_of script files in
    let product : Matrix = product_of s.modulus x.alpha a b x.beta m in
    let was : setting_in old ≡ s = setting_is old script files h.partly.inside.script_is h.partly.inside.files_are in
    let between : StandBetween script done x a b m group values s (state_of old).mark (state_of old) =
    subst (λ t. StandBetween script done x a b m group values t (state_of old).mark (state_of old)) was (stand-in script files done x a b m group old out h) in
    let effect : HasMultiplied s (state_of old) (product_task (at_group x group) (end_mark (suc done))) progress.takes (state_of new) =
    subst (λ t. HasMultiplied t (state_of old) (product_task (at_group x group) (end_mark (suc done))) progress.takes (state_of new)) was driven.effect in
    let stands : StandsFor s cs (state_of new) (with_matrix values nc product) =
    stand-end script files kept done x a b m group values (state_of old).mark (state_of old) (state_of new) progress.takes between effect last (subst (λ t. MayMultiplyLine t x (suc done)) was asks) shapes nc is_c.named driven.mark in
    let after_is : with_matrix values nc product ≡ values_after (modulus_of cs) (file_of files) (suc done) command values =
    λ i. with_matrix values nc (product_of (modulus_of cs) x.alpha (matrix_in (sym is_a.means i)) (matrix_in (sym is_b.means i)) x.beta (matrix_in (sym is_c.means i))) in
    let few : group * product_records x + product_records x ≤ records_in cs (suc done) command = omega (arith, times_more group (product_records x), fits) in
    let ended : EndsLineAfter script files done (group * product_records x) old new command [] = record {
      command = there;
      plan = product_plan (product_task (at_group x group) (end_mark (suc done)));
      progress = progress;
      mark = refl;
      driven = driven;
      few = few;
      goes = goes;
      short = short;
      heals = heals;
      held = held;
      costs = costs;
      later = subst (λ ts. AreLater done ts) (sym effect.takes_none) (All-nil (λ (t : Took). done < t.line));
      stands = subst (λ v. StandsFor s cs (state_of new) v) after_is stands;
      says = refl;
      text_is = refl;
    } in
    subst (λ t. HasRun script files (suc done) new t) (append-nil out) (partly-ends script files done (group * product_records x) old new out command [] h.partly ended)
