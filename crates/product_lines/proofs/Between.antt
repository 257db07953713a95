-- Between two groups of a `pgemm` line, and after a group's commit: the words that ranks hold are measured; and from the clauses of `drive` to what the phase of a group did.
use Rattle.std.proofs.Common.{◌≡◌, ◌<◌, ◌≤◌, ◌==◌, ◌&&◌, nat_lt, ℕ, Bool, true, false, not, Result, Ok, Err, List, Option, length, sym, ap, subst, ◌∙◌, arith}
use Rattle.std.specs.Prelude.{nat_le, min, IfOk, OnOk}
use Rattle.std.proofs.lemmas.Bool.{and_parts, or_left, lt-ltb, ltb-true, leb-true}
use Rattle.run_data.specs.declared.command.Command.{Command}
use Rattle.run_data.specs.Script.{commands_of}
use Rattle.rank_machine.specs.declared.mark.Mark.{Mark}
use Rattle.rank_machine.specs.Setting.{Setting, layout, factored}
use Rattle.rank_machine.specs.Scripts.{Matrices, setting_of}
use Rattle.rank_machine.specs.State.{State}
use Rattle.rank_machine.specs.Effect.{has_ended, is_dropped, is_live_list}
use Rattle.rank_machine.specs.CodeLaw.{CodeLaw, pivots_of}
use Rattle.script_bounds.specs.Accepted.{KeepsRules}
use Rattle.script_bounds.specs.Bounds.{phase_steps, recovery_steps}
use Rattle.script_lines.specs.Sound.{IsSound}
use Rattle.script_laws.proofs.GridLines.{matrix-lies}
use Rattle.block_world.specs.World.{WorldView, setting_in, state_of}
use Rattle.run_laws.specs.Due.{IsRunning}
use Rattle.run_laws.specs.Traces.{recovery_under}
use Rattle.run_laws.proofs.Journals.{state-rest}
use Rattle.phases.specs.Plans.{Plan, Progress}
use Rattle.phase_words.specs.Resting.{IsMeasured}
use Rattle.world_heal.specs.Ways.{rest_of}
use Rattle.world_heal.specs.Costs.{KeepsGoing, KeepsShort, HoldsWords}
use Rattle.world_heal.specs.Outcomes.{IfDrove, IsCutAt}
use Rattle.world_heal.specs.declared.healing.Drove.{Drove}
use Rattle.world_heal.specs.declared.healing.Drove.TheVariants as d
use Rattle.loss_recovery.specs.Driven.{CostsAtMost, RecoversInTime, HoldsDriven, cost_of, IsAtRest, IsDriven}
use Rattle.whole_run.specs.Inside.{IsPartly, IsStopped, part_mark}
use Rattle.whole_run.proofs.Ending.{setting_is}
use Rattle.whole_run.proofs.Keeping.{recovery-inside, drive-stopped}
use Rattle.whole_run.proofs.Measured.{after-measured}
use Rattle.product_lines.specs.Lines.{product_mark}
use Rattle.product_lines.specs.Driving.{HasDrivenPart}

-- ---- measured
-- inside a line that factors nothing, a live list is one of a line that has ended
list_ended : (s : Setting) (mark : Mark) (line at : ℕ) → mark ≡ part_mark line → factored s line ≡ 0 → is_live_list s mark at ≡ true → has_ended mark at ≡ true
list_ended s mark line at is plain live =
    let first = and_parts (nat_lt 0 (factored s at) && nat_le at mark.line) (not (is_dropped s mark at)) live in
    let parts = and_parts (nat_lt 0 (factored s at)) (nat_le at mark.line) first.0 in
    let some : 0 < factored s at = ltb-true 0 (factored s at) parts.0 in
    let here : mark.line ≡ line = ap (λ (m : Mark). m.line) is in
    let before : at < mark.line = less at mark.line (leb-true at mark.line parts.1) (λ same. none (factored s at) some (ap (factored s) (same ∙ here) ∙ plain)) in
    or_left (nat_lt at mark.line) ((at == mark.line) && mark.ended) (lt-ltb at mark.line before)
  where
    less : (a b : ℕ) → a ≤ b → (a ≡ b → ⊥) → a < b
    less a b le ne = grind arith

    none : (n : ℕ) → 0 < n → n ≡ 0 → ⊥
    none n some zero_is = omega (arith, some, zero_is)

-- so no list is longer than it becomes
part_lists : (s : Setting) (st : State) (line : ℕ) → CodeLaw s st st.mark → st.mark ≡ part_mark line → factored s line ≡ 0 → (at : ℕ) → is_live_list s st.mark at ≡ true
    → length (pivots_of st at (layout s (factored s at))) ≤ min (layout s (factored s at)).desc.m (layout s (factored s at)).desc.n
part_lists s st line law is plain at live = no_more _ _ ((law.lists at live).whole (list_ended s st.mark line at is plain live))
  where
    no_more : (a b : ℕ) → a ≡ b → a ≤ b
    no_more a b e = omega (arith, e)

-- inside a line that factors nothing, the state is measured
pub part-measured : (script : List (Option Command)) (files : Matrices) (p line : ℕ) (st : State) → KeepsRules script → IsSound p (setting_of script files) → CodeLaw (setting_of script files) st st.mark
    → st.mark ≡ part_mark line → factored (setting_of script files) line ≡ 0 → IsMeasured (setting_of script files) st
part-measured script files p line st kept sound law is plain = record {
  laid_out = sound.layouts;
  own_grid = λ at rank made member. (matrix-lies script files p at kept sound made).of_run.own rank member;
  factors_live = λ part factors. absurd (omega (arith, factors, ap (λ (m : Mark). factored (setting_of script files) m.line) is, plain));
  lists = part_lists (setting_of script files) st line law is plain;
}

-- what a world at rest inside such a line holds is measured
pub rest-part_measured : (script : List (Option Command)) (files : Matrices) (p line : ℕ) (w : WorldView) → KeepsRules script → IsSound p (setting_of script files) → w.script ≡ script → w.files ≡ files → IsAtRest w
    → (state_of w).mark ≡ part_mark line → factored (setting_of script files) line ≡ 0 → IsMeasured (setting_in w) (rest_of w)
rest-part_measured script files p line w kept sound script_is files_are rest is plain =
    let same : setting_in w ≡ setting_of script files = setting_is w script files script_is files_are in
    let now : IsMeasured (setting_of script files) (state_of w) = part-measured script files p line (state_of w) kept sound (subst (λ s. CodeLaw s (state_of w) (state_of w).mark) same rest.rest.law) is plain in
    subst (λ st. IsMeasured (setting_in w) st) (state-rest (setting_in w) w.journal rest.last) (subst (λ s. IsMeasured s (state_of w)) (sym same) now)

-- and so is what the commit of a group's phase left, whether it ends the line or not
pub commit-measured : (script : List (Option Command)) (files : Matrices) (p line : ℕ) (ended : Bool) (old new : WorldView) (plan : Plan) (progress : Progress) → KeepsRules script → IsSound p (setting_of script files)
    → old.script ≡ script → old.files ≡ files → 0 < line → factored (setting_of script files) line ≡ 0 → plan.mark ≡ product_mark line ended → IsDriven plan progress old new → IsMeasured (setting_in old) (state_of new)
commit-measured script files p line true old new plan progress kept sound script_is files_are some plain mark driven =
    after-measured script files p line old new plan progress kept sound script_is files_are some mark driven
commit-measured script files p line false old new plan progress kept sound script_is files_are some plain mark driven =
    let was : setting_in old ≡ setting_of script files = setting_is old script files script_is files_are in
    let now : setting_in new ≡ setting_of script files = setting_is new script files (driven.later.script ∙ script_is) (driven.later.files ∙ files_are) in
    subst (λ s. IsMeasured s (state_of new)) (sym was)
    (part-measured script files p line (state_of new) kept sound (subst (λ s. CodeLaw s (state_of new) (state_of new).mark) now driven.rest.rest.law) (driven.mark ∙ mark) plain)

-- ---- what `drive` did to a phase inside a line of several
module _ (script : List (Option Command)) (files : Matrices) (done used : ℕ) (old new : WorldView) (out : List ℕ) (plan : Plan) (progress : Progress)
    (kept : KeepsRules script) (before : IsPartly script files done used old out) (few : plan.most_records ≤ phase_steps (commands_of script))
    (was : IsMeasured (setting_in old) (rest_of old)) (becomes : IsDriven plan progress old new → IsMeasured (setting_in old) (state_of new)) (running : IsRunning (setting_in old) old.journal) where
  recovery : recovery_under (setting_in old) (state_of old).mark ≤ recovery_steps (commands_of script)
  recovery = recovery-inside script files done used old out kept before.inside running

  abbrev Costs : Drove → Type 0
  Costs drove = (most recovery : ℕ) → plan.most_records ≤ most → recovery_under (setting_in old) (state_of old).mark ≤ recovery → CostsAtMost most recovery old new (cost_of plan drove)

  was_driven : IsDriven plan progress old new → Costs d.Done → RecoversInTime old new → KeepsGoing old new → ((most : ℕ) → plan.most_records ≤ most → KeepsShort most old new) → HoldsDriven old new
      → HasDrivenPart script plan progress old new
  was_driven driven costs in_time goes short holds = record {
    driven = driven;
    goes = goes;
    short = short (phase_steps (commands_of script)) few;
    heals = in_time (recovery_steps (commands_of script)) recovery;
    held = holds (becomes driven) was;
    costs = costs (phase_steps (commands_of script)) (recovery_steps (commands_of script)) few recovery;
  }

  was_cut : (drove : Drove) → IsCutAt old new drove → Costs drove → RecoversInTime old new → KeepsGoing old new → ((most : ℕ) → plan.most_records ≤ most → KeepsShort most old new) → HoldsWords old new
      → IsStopped script files done new out drove
  was_cut drove cut costs in_time goes short holds = drive-stopped script files done used old new out drove plan kept before.inside running few cut costs in_time goes short (holds was)

  -- with all its clauses
  pub group-drive : {E : Type 0} (result : Result Drove E) → IfOk result (IfDrove (IsDriven plan progress old new) (IsCutAt old new)) → IfOk result Costs → OnOk result (RecoversInTime old new) → OnOk result (KeepsGoing old new)
      → OnOk result ((most : ℕ) → plan.most_records ≤ most → KeepsShort most old new) → IfOk result (IfDrove (HoldsDriven old new) (λ cut. HoldsWords old new))
      → IfOk result (IfDrove (HasDrivenPart script plan progress old new) (IsStopped script files done new out))
  group-drive (Err e) driven costs in_time goes short holds = tt
  group-drive (Ok d.Done) driven costs in_time goes short holds = was_driven driven costs in_time goes short holds
  group-drive (Ok (d.Beyond grid row)) driven costs in_time goes short holds = was_cut (d.Beyond grid row) driven costs in_time goes short holds
  group-drive (Ok (d.NoSpare rank)) driven costs in_time goes short holds = was_cut (d.NoSpare rank) driven costs in_time goes short holds
