-- A script that is read passes the check of a script.
use Rattle.std.proofs.Common.{◌≡◌, ℕ, suc, ◌+◌, ◌≤◌, true, ltb, List, [], ◌∷◌, ◌++◌, length, take, Option, Some, None, refl, sym, ap, subst, ◌∙◌, append_assoc, length-append, arith}
use Rattle.std.specs.Prelude.{Ok, pos}
use Rattle.std.specs.List.{slice_get}
use Rattle.std.specs.Option.{option_or}
use Rattle.std.proofs.lemmas.Bool.Decides.{nat_tests}
use Rattle.run_data.specs.declared.command.Command.{Command}
use Rattle.run_data.specs.Script.{commands_of}
use Rattle.script_rules.specs.declared.told.Told.{Told}
use Rattle.script_words.specs.Limits.{line_limit, record_limit}
use Rattle.script_words.specs.Tables.{first_code}
use Rattle.script_rules.specs.Told.{told_by}
use Rattle.script_bounds.specs.Bounds.{bound}
use Rattle.script_text.specs.Script.{script_after}
use Rattle.script_bounds.specs.Accepted.{broken_by}
use Rattle.script_text.specs.Check.{told_of, command_broken, line_broken, refused_on, first_broken, first_refusal}
use Rattle.script_text.proofs.Keeping.{KeepsRulesOf, KeepsRulesOf-from_script_after}
use Rattle.script_text.proofs.Telling.{tells_same}
use Rattle.script_text.proofs.Places.{told_same, refused_none}

middle : {X : Type 0} (xs : List X) (y : X) (ys : List X) → slice_get (xs ++ y ∷ ys) (length xs) ≡ Some y
middle [] y ys = refl
middle (x ∷ xs) y ys = middle xs y ys

take-before : {X : Type 0} (xs ys : List X) → take (length xs) (xs ++ ys) ≡ xs
take-before [] ys = refl
take-before (x ∷ xs) ys = ap (λ zs. x ∷ zs) (take-before xs ys)

command_kept : (told : Told) (front : List (Option Command)) (line : Option Command) (lines : List (Option Command)) → KeepsRulesOf told (front ++ line ∷ lines) → command_broken told front line ≡ None
command_kept told front None lines h = refl
command_kept told front (Some d) lines h =
    subst (λ s. broken_by told s d ≡ None) (take-before front (Some d ∷ lines)) (h.kept (length front) d (middle front (Some d) lines))

below : (n m k limit : ℕ) → m ≡ n + suc k → m ≤ limit → ltb n limit ≡ true
below n m k limit e le = grind (arith, nat_tests)

-- where no line breaks a rule, none is the first to break one
first_broken-none : (told : Told) (front lines : List (Option Command)) → KeepsRulesOf told (front ++ lines) → first_broken told front lines ≡ None
unfolding first_broken
first_broken-none told front [] h = refl
first_broken-none told front (line ∷ lines) h =
    let room = below (length front) (length (front ++ line ∷ lines)) (length lines) line_limit (length-append front (line ∷ lines)) h.few in
    let here : line_broken told front line ≡ None = ap (λ t. option_or (first_code ((pos 11, t) ∷ [])) (command_broken told front line)) room ∙ command_kept told front line lines h in
    let rest = first_broken-none told (front ++ line ∷ []) lines (subst (KeepsRulesOf told) (sym (append_assoc front (line ∷ []) lines)) h) in
    ap (λ o. option_or (refused_on (suc (length front)) o) (first_broken told (front ++ line ∷ []) lines)) here ∙ rest

pub first_refusal-from_script_after : (lines : List (List (List ℕ))) (script : List (Option Command)) → script_after (told_by lines) [] lines ≡ Ok script → bound (commands_of script) ≤ record_limit → first_refusal script ≡ None
first_refusal-from_script_after lines script e le =
    let told = told_by lines in
    let h = KeepsRulesOf-from_script_after told lines script e in
    let same : told_of (commands_of script) ≡ told = told_same told script h ∙ sym (tells_same lines script e) in
    refused_none script (ap (λ t. first_broken t [] script) same ∙ first_broken-none told [] script h) le
