-- The numbers of the lines one after another: their sum and their greatest.
use Rattle.std.proofs.Common.{◌≡◌, ℕ, suc, ◌+◌, ◌*◌, ◌<◌, ◌≤◌, max, List, [], ◌∷◌, length, get_or, drop, Option, Some, None, refl, sym, ap, ◌∙◌, arith}
use Rattle.std.specs.List.{sum_by}
use Rattle.std.proofs.Math.Seq.{drop-cons}
use Rattle.std.proofs.lemmas.List.Sums.{sum_by-cons}
use Rattle.script_words.proofs.Cuts.{drop_whole}
use Rattle.run_data.specs.declared.command.Command.{Command}
use Rattle.run_data.specs.Script.{Numbered, commands_from, commands_of}
use Rattle.script_rules.specs.Rules.{total_after, total, ranks_made, ranks_of}
use Rattle.script_bounds.specs.Bounds.{greatest}

-- the commands from a place on
abbrev pub commands_after : List (Option Command) → ℕ → List Numbered
commands_after lines i = commands_from (suc i) (drop i lines)

-- those of the line at a place, and the others
first_line : (lines : List (Option Command)) (i : ℕ) (o : Option Command) → i < length lines → o ≡ get_or lines i o → commands_after lines i ≡ commands_from (suc i) (o ∷ drop (suc i) lines)
first_line lines i o lt e = ap (λ (ls : List (Option Command)). commands_from (suc i) ls) (drop-cons lines i o lt ∙ ap (λ x. x ∷ drop (suc i) lines) (sym e))

pub after-some : (lines : List (Option Command)) (i : ℕ) (o : Option Command) (c : Command) → i < length lines → o ≡ get_or lines i o → o ≡ Some c →
    commands_after lines i ≡ record { line = suc i; command = c } ∷ commands_after lines (i + 1)
after-some lines i o c lt e s =
    let k : suc i ≡ i + 1 = omega arith in
    first_line lines i o lt e ∙ ap (λ x. commands_from (suc i) (x ∷ drop (suc i) lines)) s ∙ ap (λ j. record { line = suc i; command = c } ∷ commands_after lines j) k

pub after-none : (lines : List (Option Command)) (i : ℕ) (o : Option Command) → i < length lines → o ≡ get_or lines i o → o ≡ None → commands_after lines i ≡ commands_after lines (i + 1)
after-none lines i o lt e s =
    let k : suc i ≡ i + 1 = omega arith in
    first_line lines i o lt e ∙ ap (λ x. commands_from (suc i) (x ∷ drop (suc i) lines)) s ∙ ap (commands_after lines) k

after-end : (lines : List (Option Command)) (i : ℕ) → i ≡ length lines → commands_after lines i ≡ []
after-end lines i e = ap (λ (ls : List (Option Command)). commands_from (suc i) ls) (drop_whole lines i e)

-- ---- sums

-- a sum over the lines before a place, each at most `limit`, beside that of the whole script
pub record IsSummed (f : Numbered → ℕ) (lines : List (Option Command)) (limit i sum total : ℕ) : Type 0 where
  pub all : sum + sum_by f (commands_after lines i) ≡ total
  pub few : sum ≤ limit * i

pub summed_start : (f : Numbered → ℕ) (script lines : List (Option Command)) (limit : ℕ) → lines ≡ script → IsSummed f lines limit 0 0 (sum_by f (commands_of script))
summed_start f script lines limit e =
    let whole : sum_by f (commands_after lines 0) ≡ sum_by f (commands_of script) = ap (λ (ls : List (Option Command)). sum_by f (commands_of ls)) e in
    record { all = omega (arith, whole); few = omega arith }

pub summed_some : (f : Numbered → ℕ) (lines : List (Option Command)) (limit i sum more r total : ℕ) (o : Option Command) (c : Command) → i < length lines → o ≡ get_or lines i o → o ≡ Some c →
    r ≡ f (record { line = suc i; command = c }) → r ≤ limit → more ≡ sum + r → IsSummed f lines limit i sum total → IsSummed f lines limit (i + 1) more total
summed_some f lines limit i sum more r total o c lt e s v few m h =
    let n : Numbered = record { line = suc i; command = c } in
    let first : sum_by f (commands_after lines i) ≡ f n + sum_by f (commands_after lines (i + 1)) = ap (sum_by f) (after-some lines i o c lt e s) ∙ sum_by-cons f n (commands_after lines (i + 1)) in
    record { all = omega (arith, first, h.all, v, m); few = omega (arith, few, m, h.few) }

pub summed_none : (f : Numbered → ℕ) (lines : List (Option Command)) (limit i sum more total : ℕ) (o : Option Command) → i < length lines → o ≡ get_or lines i o → o ≡ None →
    more ≡ sum → IsSummed f lines limit i sum total → IsSummed f lines limit (i + 1) more total
summed_none f lines limit i sum more total o lt e s m h =
    let first : sum_by f (commands_after lines i) ≡ sum_by f (commands_after lines (i + 1)) = ap (sum_by f) (after-none lines i o lt e s) in
    record { all = omega (arith, first, h.all, m); few = omega (arith, m, h.few) }

pub summed_end : (f : Numbered → ℕ) (lines : List (Option Command)) (limit i sum total : ℕ) → i ≡ length lines → IsSummed f lines limit i sum total → sum ≡ total
summed_end f lines limit i sum total e h =
    let none : sum_by f (commands_after lines i) ≡ 0 = ap (sum_by f) (after-end lines i e) in
    omega (arith, none, h.all)

-- a total that looks at each command alone is a sum
total_after-sum : (f : Numbered → ℕ) (before ns : List Numbered) → total_after (λ cs n. f n) before ns ≡ sum_by f ns
total_after-sum f before [] = refl
total_after-sum f before (n ∷ ns) = ap (λ k. f n + k) (total_after-sum f _ ns) ∙ sym (sum_by-cons f n ns)

pub ranks_of-sum : (cs : List Numbered) → ranks_of cs ≡ sum_by (λ n. ranks_made n.command) cs
ranks_of-sum cs = total_after-sum (λ n. ranks_made n.command) [] cs

-- ---- the greatest

-- the greatest over the lines before a place, each at most `limit`, beside that of the whole script
pub record IsGreatest (f : Numbered → ℕ) (lines : List (Option Command)) (limit i so_far total : ℕ) : Type 0 where
  pub all : max so_far (greatest f (commands_after lines i)) ≡ total
  pub few : so_far ≤ limit

pub greatest_start : (f : Numbered → ℕ) (script lines : List (Option Command)) (limit : ℕ) → lines ≡ script → IsGreatest f lines limit 0 0 (greatest f (commands_of script))
greatest_start f script lines limit e =
    let whole : greatest f (commands_after lines 0) ≡ greatest f (commands_of script) = ap (λ (ls : List (Option Command)). greatest f (commands_of ls)) e in
    record { all = omega (arith, whole); few = omega arith }

pub greatest_some : (f : Numbered → ℕ) (lines : List (Option Command)) (limit i so_far more r total : ℕ) (o : Option Command) (c : Command) → i < length lines → o ≡ get_or lines i o → o ≡ Some c →
    r ≡ f (record { line = suc i; command = c }) → r ≤ limit → more ≡ max so_far r → IsGreatest f lines limit i so_far total → IsGreatest f lines limit (i + 1) more total
greatest_some f lines limit i so_far more r total o c lt e s v few m h =
    let n : Numbered = record { line = suc i; command = c } in
    let first : greatest f (commands_after lines i) ≡ max (f n) (greatest f (commands_after lines (i + 1))) = ap (greatest f) (after-some lines i o c lt e s) in
    record { all = omega (arith, first, h.all, v, m); few = omega (arith, few, m, h.few) }

pub greatest_none : (f : Numbered → ℕ) (lines : List (Option Command)) (limit i so_far more total : ℕ) (o : Option Command) → i < length lines → o ≡ get_or lines i o → o ≡ None →
    more ≡ so_far → IsGreatest f lines limit i so_far total → IsGreatest f lines limit (i + 1) more total
greatest_none f lines limit i so_far more total o lt e s m h =
    let first : greatest f (commands_after lines i) ≡ greatest f (commands_after lines (i + 1)) = ap (greatest f) (after-none lines i o lt e s) in
    record { all = omega (arith, first, h.all, m); few = omega (arith, m, h.few) }

pub greatest_end : (f : Numbered → ℕ) (lines : List (Option Command)) (limit i so_far total : ℕ) → i ≡ length lines → IsGreatest f lines limit i so_far total → so_far ≡ total
greatest_end f lines limit i so_far total e h =
    let none : greatest f (commands_after lines i) ≡ 0 = ap (greatest f) (after-end lines i e) in
    omega (arith, none, h.all)
