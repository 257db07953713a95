-- What the words that ranks hold are measured by, where the last mark is the first one, or ends its line.
use Rattle.std.proofs.Common.{◌≡◌, ◌<◌, ◌≤◌, ◌==◌, ◌&&◌, ℕ, true, false, not, nat_lt, List, Option, length, sym, ap, subst, ◌∙◌, ⊎_elim, arith}
use Rattle.std.specs.Prelude.{nat_le, min}
use Rattle.std.proofs.lemmas.Bool.{and_parts, and_from, or_left, or_right, leb-true, lt-ltb, eq-eqb, true≢false, cases_Bool, cases_eq}
use Rattle.run_data.specs.declared.command.Command.{Command}
use Rattle.rank_machine.specs.declared.mark.Mark.{Mark}
use Rattle.rank_machine.specs.Setting.{Setting, layout, factored}
use Rattle.rank_machine.specs.Scripts.{Matrices, setting_of}
use Rattle.rank_machine.specs.State.{State, end_mark}
use Rattle.rank_machine.specs.Effect.{has_ended, is_dropped, is_live_list}
use Rattle.rank_machine.specs.CodeLaw.{pivots_of}
use Rattle.script_bounds.specs.Accepted.{KeepsRules}
use Rattle.script_lines.specs.Sound.{IsSound}
use Rattle.script_laws.proofs.GridLines.{matrix-lies}
use Rattle.block_world.specs.World.{WorldView, setting_in, state_of}
use Rattle.run_laws.specs.LastCommit.{IsRest}
use Rattle.run_laws.proofs.Scripts.{script_rising}
use Rattle.run_laws.proofs.Journals.{state-rest}
use Rattle.phases.specs.Plans.{Plan, Progress}
use Rattle.phase_words.specs.Resting.{IsMeasured}
use Rattle.world_heal.specs.Ways.{rest_of}
use Rattle.loss_recovery.specs.Driven.{IsDriven}
use Rattle.line_laws.proofs.NextLine.{above, job-of_list}
use Rattle.whole_run.specs.Between.{HasRun}
use Rattle.whole_run.proofs.Ending.{setting_is}

-- where a mark has an end, each line up to its own has ended
ended_under : (mark : Mark) (line : ℕ) → mark.ended ≡ true → line ≤ mark.line → has_ended mark line ≡ true
ended_under mark line end le =
    ⊎_elim
    (λ (e : line ≡ mark.line). or_right (nat_lt line mark.line) ((line == mark.line) && mark.ended) (and_from (line == mark.line) mark.ended (eq-eqb line mark.line e) end))
    (λ (e : line ≡ mark.line → ⊥). or_left (nat_lt line mark.line) ((line == mark.line) && mark.ended) (lt-ltb line mark.line (less line mark.line le e)))
    (cases_eq line mark.line)
  where
    less : (a b : ℕ) → a ≤ b → (a ≡ b → ⊥) → a < b
    less a b le ne = grind arith

no_line : (line : ℕ) → nat_lt 0 line ≡ false → line ≡ 0
no_line line e =
    ⊎_elim
    (λ (z : line ≡ 0). z)
    (λ (some : line ≡ 0 → ⊥). absurd (true≢false (sym (lt-ltb 0 line (positive line some)) ∙ e)))
    (cases_eq line 0)
  where
    positive : (n : ℕ) → (n ≡ 0 → ⊥) → 0 < n
    positive n some = grind arith

module _ (script : List (Option Command)) (files : Matrices) where
  -- no line 0 factors anything
  none_first : (line : ℕ) → line ≡ 0 → nat_lt 0 (factored (setting_of script files) line) ≡ true → ⊥
  none_first line zero_is factors = omega (arith, zero_is, above (setting_of script files).jobs 0 line (script_rising script files) (job-of_list (setting_of script files) line factors))

  few_numbers : (st : State) → IsRest (setting_of script files) st → st.mark.ended ≡ nat_lt 0 st.mark.line → (line : ℕ) → is_live_list (setting_of script files) st.mark line ≡ true
      → length (pivots_of st line (layout (setting_of script files) (factored (setting_of script files) line))) ≤ min (layout (setting_of script files) (factored (setting_of script files) line)).desc.m (layout (setting_of script files) (factored (setting_of script files) line)).desc.n
  few_numbers st rest begun line live =
      let s : Setting = setting_of script files in
      let parts = and_parts (nat_lt 0 (factored s line)) (nat_le line st.mark.line) (and_parts (nat_lt 0 (factored s line) && nat_le line st.mark.line) (not (is_dropped s st.mark line)) live).0 in
      let up_to_it : line ≤ st.mark.line = leb-true line st.mark.line parts.1 in
      ⊎_elim
      (λ (end : st.mark.ended ≡ true). no_more _ _ ((rest.law.lists line live).whole (ended_under st.mark line end up_to_it)))
      (λ (part : st.mark.ended ≡ false).
      let first : st.mark.line ≡ 0 = no_line st.mark.line (sym begun ∙ part) in
      absurd (none_first line (omega (arith, up_to_it, first)) parts.0))
      (cases_Bool st.mark.ended)
    where
      no_more : (a b : ℕ) → a ≡ b → a ≤ b
      no_more a b e = omega (arith, e)

  -- what a commit left that ends its line, or the opening, is measured
  pub rest-measured : (p : ℕ) (st : State) → KeepsRules script → IsSound p (setting_of script files) → IsRest (setting_of script files) st → st.mark.ended ≡ nat_lt 0 st.mark.line → IsMeasured (setting_of script files) st
  rest-measured p st kept sound rest begun = record {
    laid_out = sound.layouts;
    own_grid = λ line rank made member. (matrix-lies script files p line kept sound made).of_run.own rank member;
    factors_live = λ part factors. absurd (none_first st.mark.line (no_line st.mark.line (sym begun ∙ part)) (lt-ltb 0 (factored (setting_of script files) st.mark.line) factors));
    lists = few_numbers st rest begun;
  }

-- between two lines what the last commit left is measured
pub before-measured : (script : List (Option Command)) (files : Matrices) (p line : ℕ) (w : WorldView) (out : List ℕ) → KeepsRules script → IsSound p (setting_of script files) → HasRun script files line w out
    → IsMeasured (setting_in w) (rest_of w)
before-measured script files p line w out kept sound h =
    let same : setting_in w ≡ setting_of script files = setting_is w script files h.script_is h.files_are in
    let now : IsMeasured (setting_of script files) (state_of w) = rest-measured script files p (state_of w) kept sound (subst (λ s. IsRest s (state_of w)) same h.rest.rest) h.none_begun in
    subst (λ st. IsMeasured (setting_in w) st) (state-rest (setting_in w) w.journal h.rest.last) (subst (λ s. IsMeasured s (state_of w)) (sym same) now)

-- and so is what the commit of a phase left that ends a line
pub after-measured : (script : List (Option Command)) (files : Matrices) (p line : ℕ) (old new : WorldView) (plan : Plan) (progress : Progress) → KeepsRules script → IsSound p (setting_of script files)
    → old.script ≡ script → old.files ≡ files → 0 < line → plan.mark ≡ end_mark line → IsDriven plan progress old new → IsMeasured (setting_in old) (state_of new)
after-measured script files p line old new plan progress kept sound script_is files_are some mark driven =
    let was : setting_in old ≡ setting_of script files = setting_is old script files script_is files_are in
    let now : setting_in new ≡ setting_of script files = setting_is new script files (driven.later.script ∙ script_is) (driven.later.files ∙ files_are) in
    let at : (state_of new).mark ≡ end_mark line = driven.mark ∙ mark in
    let begun : (state_of new).mark.ended ≡ nat_lt 0 (state_of new).mark.line = ap (λ (m : Mark). m.ended) at ∙ sym (ap (λ (m : Mark). nat_lt 0 m.line) at ∙ lt-ltb 0 line some) in
    subst (λ s. IsMeasured s (state_of new)) (sym was) (rest-measured script files p (state_of new) kept sound (subst (λ s. IsRest s (state_of new)) now driven.rest.rest) begun)
