-- The field of a script is that of the lines before each line that names a matrix: no `field` line follows a `matrix` line.
use Rattle.std.proofs.Common.{◌≡◌, ℕ, zero, suc, ◌+◌, ◌-◌, ◌<◌, ◌≤◌, true, List, [], ◌∷◌, ◌++◌, length, get_or, take, Option, Some, None, refl, sym, ap, subst, ◌∙◌, arith, inl, inr}
use Rattle.std.specs.Prelude.{slice_get}
use Rattle.std.proofs.lemmas.Bool.{eqb-true, cases_lt}
use Rattle.std.proofs.lemmas.Option.{slice_get-get_or}
use Rattle.std.proofs.lemmas.Grind.{common_steps}
use Rattle.std.proofs.Math.Seq.{take-suc}
use Rattle.run_data.specs.declared.command.Command.{Command}
use Rattle.run_data.specs.declared.command.Command.TheVariants as c
use Rattle.run_data.specs.Script.{Numbered, commands_of, command_at, maker, modulus_after, modulus_of}
use Rattle.script_rules.specs.Rules.{command_on, maker_command, is_matrix_line, matrices_made, matrix_lines, field_lines, field_rules}
use Rattle.script_rules.proofs.Counting.{total-append, modulus_from-append, commands_of-none, commands_of-some}
use Rattle.script_rules.proofs.Before.{maker-lt}
use Rattle.script_words.proofs.Tables.{all_kept}
use Rattle.script_bounds.specs.Accepted.{KeepsRules}
use Rattle.script_bounds.proofs.Limits.{kept_on, OnLine-from_command_at}

-- one line more makes no fewer matrices
more_lines : (front : List (Option Command)) (o : Option Command) → matrix_lines (commands_of front) ≤ matrix_lines (commands_of (front ++ o ∷ []))
more_lines front None = subst (λ ns. matrix_lines (commands_of front) ≤ matrix_lines ns) (sym (commands_of-none front)) (omega arith)
more_lines front (Some d) =
    let n : Numbered = record { line = suc (length front); command = d } in
    let more = total-append (λ before n. matrices_made n.command) (commands_of front) n in
    subst (λ ns. matrix_lines (commands_of front) ≤ matrix_lines ns) (sym (commands_of-some front (suc (length front)) d refl)) (omega (arith, more))

-- a matrix line makes one
one_more : (front : List (Option Command)) (d : Command) → is_matrix_line (Some d) ≡ true → 1 ≤ matrix_lines (commands_of (front ++ Some d ∷ []))
one_more front d t =
    let n : Numbered = record { line = suc (length front); command = d } in
    let more = total-append (λ before n. matrices_made n.command) (commands_of front) n in
    subst (λ ns. 1 ≤ matrix_lines ns) (sym (commands_of-some front (suc (length front)) d refl)) (omega (arith, more, by_command d t))
  where
    by_command : (d : Command) → is_matrix_line (Some d) ≡ true → matrices_made d ≡ 1
    by_command (c.Matrix name grid m n mb nb rsrc csrc file) t = refl
    by_command d t = absurd cc

some_matrix : (script : List (Option Command)) (at : ℕ) (d : Command) → slice_get script at ≡ Some (Some d) → at < length script → is_matrix_line (Some d) ≡ true → (i : ℕ) → at < i → i ≤ length script →
    1 ≤ matrix_lines (commands_of (take i script))
some_matrix script at d e lt t zero past le = absurd (omega (arith, past))
some_matrix script at d e lt t (suc i) past le = elim (cases_lt at i) [
  | inl before ↦
      let ih = some_matrix script at d e lt t i before (omega arith) in
      let more = more_lines (take i script) (get_or script i None) in
      subst (λ s. 1 ≤ matrix_lines (commands_of s)) (sym (take-suc script i None (omega arith))) (omega (arith, ih, more))
  | inr ge ↦
      let here : i ≡ at = omega arith in
      let there = slice_get-get_or script i None (omega arith) in
      let is : get_or script i None ≡ Some d = same_of (get_or script i None) (sym there ∙ ap (slice_get script) here ∙ e) in
      subst (λ s. 1 ≤ matrix_lines (commands_of s)) (sym (take-suc script i None (omega arith) ∙ ap (λ o. take i script ++ o ∷ []) is)) (one_more (take i script) d t)
]
  where
    same_of : (o : Option Command) → Some o ≡ Some (Some d) → o ≡ Some d
    same_of o e = cc

-- with a matrix line before, a line leaves the field as it is
same_field : (script : List (Option Command)) (i : ℕ) (o : Option Command) → KeepsRules script → slice_get script i ≡ Some o → i < length script → 1 ≤ matrix_lines (commands_of (take i script)) →
    modulus_of (commands_of (take i script ++ o ∷ [])) ≡ modulus_of (commands_of (take i script))
same_field script i None h e lt some = ap modulus_of (commands_of-none (take i script))
same_field script i (Some d) h e lt some =
    let front = take i script in
    ap modulus_of (commands_of-some front (suc (length front)) d refl) ∙ modulus_from-append 65537 (commands_of front) (record { line = suc (length front); command = d }) ∙ by_command d e
  where
    by_command : (d : Command) → slice_get script i ≡ Some (Some d) → modulus_after d (modulus_of (commands_of (take i script))) ≡ modulus_of (commands_of (take i script))
    by_command (c.Field n) e =
        let cs = commands_of (take i script) in
        let kept = all_kept (field_rules (field_lines cs) (matrix_lines cs) n) (kept_on script i (c.Field n) h e).own in
        absurd (omega (arith, some, eqb-true (matrix_lines cs) 0 kept.1.1.0))
    by_command d e = refl

field_to : (script : List (Option Command)) (place : ℕ) → KeepsRules script → 1 ≤ matrix_lines (commands_of (take place script)) → ((i : ℕ) → place ≤ i → i ≤ length script → 1 ≤ matrix_lines (commands_of (take i script))) →
    (more i : ℕ) → i ≡ place + more → i ≤ length script → modulus_of (commands_of (take place script)) ≡ modulus_of (commands_of (take i script))
field_to script place h some later zero i e le = ap (λ j. modulus_of (commands_of (take j script))) (let k : place ≡ i = omega arith in k)
field_to script place h some later (suc more) i e le =
    let j = place + more in
    let lt : j < length script = omega arith in
    let next : suc j ≡ i = omega arith in
    let there = slice_get-get_or script j None lt in
    field_to script place h some later more j refl (omega arith)
    ∙ sym (same_field script j (get_or script j None) h there lt (later j (omega arith) (omega arith)))
    ∙ ap (λ s. modulus_of (commands_of s)) (sym (take-suc script j None lt))
    ∙ ap (λ k. modulus_of (commands_of (take k script))) next

-- a name that means a matrix on a line: the field of the lines before is that of the script
pub modulus-take : (script : List (Option Command)) (place : ℕ) (name : List ℕ) → KeepsRules script → place ≤ length script → is_matrix_line (maker_command (commands_of script) (suc place) name) ≡ true →
    modulus_of (commands_of (take place script)) ≡ modulus_of (commands_of script)
modulus-take script place name h le t = by_maker (maker (commands_of script) (suc place) name) refl t
  where
    whole : {X : Type 0} (xs : List X) (n : ℕ) → n ≡ length xs → take n xs ≡ xs
    whole xs n e = grind (arith, common_steps)

    by_command : (at : ℕ) (o : Option Command) → at < suc place → command_at (commands_of script) at ≡ o → is_matrix_line o ≡ true → modulus_of (commands_of (take place script)) ≡ modulus_of (commands_of script)
    by_command at None low e t = absurd cc
    by_command at (Some d) low e t =
        let on = OnLine-from_command_at script at d e in
        let some = some_matrix script on.place d on.said on.inside t in
        let past : on.place < place = omega (arith, on.number) in
        field_to script place h (some place past le) (λ i from to. some i (omega (arith, past)) to) (length script - place) (length script) (omega arith) (omega arith)
        ∙ ap (λ s. modulus_of (commands_of s)) (whole script (length script) refl)

    by_maker : (o : Option ℕ) → maker (commands_of script) (suc place) name ≡ o → is_matrix_line (command_on (commands_of script) o) ≡ true → modulus_of (commands_of (take place script)) ≡ modulus_of (commands_of script)
    by_maker None e t = absurd cc
    by_maker (Some at) e t = by_command at (command_at (commands_of script) at) (maker-lt (commands_of script) (suc place) name at e) refl t
