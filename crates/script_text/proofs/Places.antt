-- The lines of a script one after another, with what they count and the first rule that they break.
use Rattle.std.proofs.Common.{◌≡◌, ℕ, suc, ◌+◌, ◌-◌, ◌*◌, ◌<◌, ◌≤◌, true, false, cond, leb, List, [], ◌∷◌, ◌++◌, length, get_or, take, drop, Option, Some, None, refl, sym, ap, subst, ◌∙◌, append_assoc, arith}
use Rattle.std.specs.Prelude.{Result, Ok, Err, IfOk, ℤ, pos, nat_lt, slice_get}
use Rattle.std.specs.List.{sum_by}
use Rattle.std.specs.Option.{option_or}
use Rattle.std.proofs.Math.Seq.{take-suc, drop-cons}
use Rattle.std.proofs.lemmas.Bool.{ltb-true}
use Rattle.std.proofs.lemmas.Bool.Decides.{nat_tests}
use Rattle.std.proofs.lemmas.List.{append-nil}
use Rattle.std.proofs.lemmas.List.Sums.{sum_by-cons}
use Rattle.run_data.specs.declared.command.Command.{Command}
use Rattle.run_data.specs.declared.command.Command.TheVariants.{Grid}
use Rattle.run_data.specs.Script.{Numbered, commands_from, commands_of}
use Rattle.script_rules.specs.declared.counts.Counts.{Counts}
use Rattle.script_words.specs.declared.fault.Refused.{Refused}
use Rattle.script_rules.specs.declared.told.Told.{Told}
use Rattle.script_words.specs.Limits.{line_limit, record_limit}
use Rattle.script_rules.specs.Counted.{AreCounts, commands_before}
use Rattle.script_words.specs.Tables.{first_code}
use Rattle.script_rules.specs.Rules.{ranks_made, ranks_of, grid_rules}
use Rattle.script_rules.specs.Told.{told_of_script}
use Rattle.script_bounds.specs.Bounds.{bound}
use Rattle.script_text.specs.Script.{refused}
use Rattle.script_bounds.specs.Accepted.{broken_by, KeepsRules, IsAccepted}
use Rattle.script_text.specs.Check.{ranks_shaped, told_of, command_broken, line_broken, refused_on, first_broken, bound_broken, first_refusal}
use Rattle.script_words.proofs.Cuts.{drop_whole}
use Rattle.script_rules.proofs.Before.{length-take_le}
use Rattle.script_bounds.proofs.Summing.{ranks_of-sum}
use Rattle.script_rules.proofs.Counting.{AreCounts-more, commands_of-none, commands_of-some}
use Rattle.script_words.proofs.Tables.{or_none, first_none, all_kept}
use Rattle.script_text.proofs.Keeping.{KeepsRulesOf, KeepsRulesOf-more, KeepsRulesOf-none}
use Rattle.script_text.proofs.Telling.{rules_of, KeepsRules-from_Of}

-- the lines up to a place, with the line there
pub take-more : (script : List (Option Command)) (place : ℕ) (d o : Option Command) → place < length script → get_or script place d ≡ o → take (suc place) script ≡ take place script ++ o ∷ []
take-more script place d o lt e = take-suc script place d lt ∙ ap (λ x. take place script ++ x ∷ []) e

commands-more : (script : List (Option Command)) (place : ℕ) (o : Option Command) (d : Command) → place < length script → o ≡ get_or script place o → o ≡ Some d →
    commands_before script (place + 1) ++ record { line = place + 1; command = d } ∷ [] ≡ commands_of (take (suc place) script)
commands-more script place o d lt e s =
    let back : place + 1 - 1 ≡ place = omega arith in
    let next : place + 1 ≡ suc (length (take place script)) = omega (arith, length-take_le script place (omega arith)) in
    ap (λ k. commands_of (take k script) ++ record { line = place + 1; command = d } ∷ []) back
    ∙ sym (commands_of-some (take place script) (place + 1) d next)
    ∙ sym (ap commands_of (take-more script place o (Some d) lt (sym e ∙ s)))

-- the counts with a command
pub counted-some : (script : List (Option Command)) (place : ℕ) (o : Option Command) (d : Command) (a : Result Counts ℤ) → place < length script → o ≡ get_or script place o → o ≡ Some d →
    IfOk a (λ after. AreCounts after (place + 1) (commands_before script (place + 1) ++ record { line = place + 1; command = d } ∷ [])) → IfOk a (λ after. AreCounts after (suc place) (commands_of (take (suc place) script)))
counted-some script place o d (Ok x) lt e s h =
    let next : place + 1 ≡ suc place = omega arith in
    subst (λ n. AreCounts x n (commands_of (take (suc place) script))) next (subst (AreCounts x (place + 1)) (commands-more script place o d lt e s) h)
counted-some script place o d (Err x) lt e s h = tt

-- the counts with a line without words
pub counted-none : (script : List (Option Command)) (place : ℕ) (o : Option Command) (counts : Counts) → place < length script → o ≡ get_or script place o → o ≡ None →
    AreCounts counts place (commands_of (take place script)) → AreCounts counts (suc place) (commands_of (take (suc place) script))
counted-none script place o counts lt e s h =
    subst (AreCounts counts (suc place)) (sym (ap commands_of (take-more script place o None lt (sym e ∙ s)) ∙ commands_of-none (take place script)))
    (AreCounts-more counts place (suc place) (commands_of (take place script)) h (omega arith))

-- ---- the first rule that lines break, as a loop finds it

-- no rule is broken before a place
pub record IsChecked (told : Told) (script : List (Option Command)) (place : ℕ) (counts : Counts) : Type 0 where
  pub all : first_broken told (take place script) (drop place script) ≡ first_broken told [] script
  pub counted : AreCounts counts place (commands_of (take place script))

pub checked_start : (told : Told) (script : List (Option Command)) (counts : Counts) → AreCounts counts 0 [] → IsChecked told script 0 counts
checked_start told script counts h = record { all = refl; counted = h }

broken-next : (told : Told) (script : List (Option Command)) (place : ℕ) (o : Option Command) → place < length script → get_or script place None ≡ o →
    first_broken told (take place script) (drop place script) ≡ option_or (refused_on (suc place) (line_broken told (take place script) o)) (first_broken told (take (suc place) script) (drop (suc place) script))
unfolding first_broken
broken-next told script place o lt e =
    let front = take place script in
    let rest = drop (suc place) script in
    ap (first_broken told front) (drop-cons script place None lt ∙ ap (λ x. x ∷ rest) e)
    ∙ ap (λ n. option_or (refused_on (suc n) (line_broken told front o)) (first_broken told (front ++ o ∷ []) rest)) (length-take_le script place (omega arith))
    ∙ ap (λ s. option_or (refused_on (suc place) (line_broken told front o)) (first_broken told s rest)) (sym (take-more script place None o lt e))

-- a line that breaks no rule
pub checked_more : (told : Told) (script : List (Option Command)) (place : ℕ) (counts after : Counts) → place < length script → line_broken told (take place script) (get_or script place None) ≡ None →
    AreCounts after (suc place) (commands_of (take (suc place) script)) → IsChecked told script place counts → IsChecked told script (place + 1) after
checked_more told script place counts after lt none h c =
    let next : suc place ≡ place + 1 = omega arith in
    let rest = first_broken told (take (suc place) script) (drop (suc place) script) in
    let all : rest ≡ first_broken told [] script =
    sym (broken-next told script place (get_or script place None) lt refl ∙ ap (λ o. option_or (refused_on (suc place) o) rest) none) ∙ c.all in
    subst (λ n. IsChecked told script n after) next (record { all = all; counted = h })

-- a line that breaks one
pub checked_stops : (told : Told) (script : List (Option Command)) (place : ℕ) (counts : Counts) (code : ℤ) → place < length script → line_broken told (take place script) (get_or script place None) ≡ Some code →
    IsChecked told script place counts → first_broken told [] script ≡ Some (refused (suc place) code)
checked_stops told script place counts code lt some c =
    sym c.all ∙ broken-next told script place (get_or script place None) lt refl
    ∙ ap (λ o. option_or (refused_on (suc place) o) (first_broken told (take (suc place) script) (drop (suc place) script))) some

pub checked_end : (told : Told) (script : List (Option Command)) (place : ℕ) (counts : Counts) → place ≡ length script → IsChecked told script place counts → first_broken told [] script ≡ None
unfolding first_broken
checked_end told script place counts e c = sym c.all ∙ ap (first_broken told (take place script)) (drop_whole script place e)

-- ---- a script none of whose lines breaks a rule

not_refused : (line : ℕ) (o : Option ℤ) → refused_on line o ≡ None → o ≡ None
not_refused line None e = refl
not_refused line (Some code) e = absurd cc

pub KeepsRulesOf-from_first_broken : (told : Told) (front lines : List (Option Command)) → KeepsRulesOf told front → first_broken told front lines ≡ None → KeepsRulesOf told (front ++ lines)
unfolding first_broken
KeepsRulesOf-from_first_broken told front [] h e = subst (KeepsRulesOf told) (sym (append-nil front)) h
KeepsRulesOf-from_first_broken told front (line ∷ lines) h e =
    let parts = or_none (refused_on (suc (length front)) (line_broken told front line)) _ e in
    let two = or_none (first_code ((pos 11, nat_lt (length front) line_limit) ∷ [])) _ (not_refused (suc (length front)) (line_broken told front line) parts.0) in
    let few = ltb-true (length front) line_limit (first_none (pos 11) (nat_lt (length front) line_limit) [] two.0).0 in
    let more = KeepsRulesOf-more told front line h few (λ d s. ap (command_broken told front) (sym s) ∙ two.1) in
    subst (KeepsRulesOf told) (append_assoc front (line ∷ []) lines) (KeepsRulesOf-from_first_broken told (front ++ line ∷ []) lines more parts.1)

-- the ranks that a command tells are those that it makes, where it breaks no rule
shaped_kept : (told : Told) (front : List (Option Command)) (d : Command) → broken_by told front d ≡ None → ranks_shaped d ≡ ranks_made d
shaped_kept told front (Grid name p q f) e =
    let shape = (all_kept (grid_rules (ranks_of (commands_of front)) p q f) (rules_of told front (Grid name p q f) e)).0 in
    ap (λ t. cond t (p * (q + f)) 0) shape
shaped_kept told front d e = refl

sums_same : (k : ℕ) (lines : List (Option Command)) → ((i : ℕ) (d : Command) → slice_get lines i ≡ Some (Some d) → ranks_shaped d ≡ ranks_made d) →
    sum_by (λ n. ranks_shaped n.command) (commands_from k lines) ≡ sum_by (λ n. ranks_made n.command) (commands_from k lines)
sums_same k [] h = refl
sums_same k (None ∷ lines) h = sums_same (suc k) lines (λ i d e. h (suc i) d e)
sums_same k (Some d ∷ lines) h =
    let n : Numbered = record { line = k; command = d } in
    let rest = sums_same (suc k) lines (λ i d e. h (suc i) d e) in
    omega (arith, sum_by-cons (λ n. ranks_shaped n.command) n (commands_from (suc k) lines), sum_by-cons (λ n. ranks_made n.command) n (commands_from (suc k) lines), h 0 d refl, rest)

-- what it tells is then what its commands make
pub told_same : (told : Told) (script : List (Option Command)) → KeepsRulesOf told script → told_of (commands_of script) ≡ told_of_script (commands_of script)
told_same told script h =
    let cs = commands_of script in
    let ranks : (told_of cs).ranks ≡ ranks_of cs = sums_same 1 script (λ i d e. shaped_kept told (take i script) d (h.kept i d e)) ∙ sym (ranks_of-sum cs) in
    λ i. record { ranks = ranks i }

keeps : (script : List (Option Command)) → first_broken (told_of (commands_of script)) [] script ≡ None → KeepsRulesOf (told_of_script (commands_of script)) script
keeps script e =
    let told = told_of (commands_of script) in
    let h = KeepsRulesOf-from_first_broken told [] script (KeepsRulesOf-none told) e in
    subst (λ t. KeepsRulesOf t script) (told_same told script h) h

pub KeepsRules-from_check : (script : List (Option Command)) → first_broken (told_of (commands_of script)) [] script ≡ None → KeepsRules script
KeepsRules-from_check script e = KeepsRules-from_Of script (keeps script e)

pub IsAccepted-from_check : (script : List (Option Command)) → first_broken (told_of (commands_of script)) [] script ≡ None → bound (commands_of script) ≤ record_limit → IsAccepted script
IsAccepted-from_check script e le = record { lines = KeepsRules-from_check script e; bounded = le }

-- ---- the answer of the whole

pub refused_line : (script : List (Option Command)) (r : Refused) → first_broken (told_of (commands_of script)) [] script ≡ Some r → first_refusal script ≡ Some r
unfolding first_refusal
refused_line script r e = ap (λ o. option_or o (bound_broken script)) e

pub refused_bound : (script : List (Option Command)) → first_broken (told_of (commands_of script)) [] script ≡ None → record_limit < bound (commands_of script) → first_refusal script ≡ Some (refused 0 (pos 7))
unfolding first_refusal
refused_bound script e lt =
    let test : leb (bound (commands_of script)) record_limit ≡ false = grind (arith, nat_tests) in
    ap (λ o. option_or o (bound_broken script)) e ∙ ap (λ t. cond t None (Some (refused 0 (pos 7)))) test

pub refused_none : (script : List (Option Command)) → first_broken (told_of (commands_of script)) [] script ≡ None → bound (commands_of script) ≤ record_limit → first_refusal script ≡ None
unfolding first_refusal
refused_none script e le =
    let test : leb (bound (commands_of script)) record_limit ≡ true = grind (arith, nat_tests) in
    ap (λ o. option_or o (bound_broken script)) e ∙ ap (λ t. cond t None (Some (refused 0 (pos 7)))) test
