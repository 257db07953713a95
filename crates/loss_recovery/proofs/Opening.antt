-- A world that has just been opened is at rest.
use Rattle.std.proofs.Common.{◌≡◌, ◌==◌, ◌&&◌, nat_lt, ℕ, false, [], refl, sym, ap, ◌∙◌, subst, arith}
use Rattle.std.proofs.lemmas.Bool.{and_parts, and_right, or_from, false_from_ne_true, ltb-true, true≢false}
use Rattle.rank_machine.specs.Setting.{Setting, is_matrix}
use Rattle.rank_machine.specs.State.{opened, first_mark}
use Rattle.rank_machine.specs.Effect.{state_after, has_ended, is_live_list}
use Rattle.run_laws.specs.LastCommit.{since, IsRest}
use Rattle.block_world.specs.World.{WorldView, setting_in}
use Rattle.loss_recovery.specs.Driven.{IsAtRest}

none_ended : (line : ℕ) → has_ended first_mark line ≡ false
none_ended line = or_from (nat_lt line 0) ((line == 0) && false) (false_from_ne_true (nat_lt line 0) (λ h. omega (arith, ltb-true line 0 h))) (and_right (line == 0) false refl)

pub rest_opened : (s : Setting) → ((line : ℕ) → is_live_list s first_mark line ≡ false) → IsRest s (opened s)
rest_opened s bare = record {
  live = λ rank. refl;
  lost = λ rank. refl;
  saved = λ rank slot. refl;
  fresh = λ rank slot. refl;
  links = λ from to. refl;
  taken = refl;
  nothing_else = λ rank slot h. refl;
  law = record {
    matrices = λ line live. absurd (true≢false (sym (and_parts (is_matrix s line) (has_ended first_mark line) (and_parts (is_matrix s line && has_ended first_mark line) _ live).0).1 ∙ none_ended line));
    lists = λ line live. absurd (true≢false (sym live ∙ bare line));
  };
}

pub at_rest_opened : (w : WorldView) → w.journal ≡ [] → ((line : ℕ) → is_live_list (setting_in w) first_mark line ≡ false) → IsAtRest w
at_rest_opened w e bare = record { last = ap since e; rest = subst (λ j. IsRest (setting_in w) (state_after (setting_in w) j)) (sym e) (rest_opened (setting_in w) bare) }
