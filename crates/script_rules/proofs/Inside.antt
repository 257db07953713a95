-- The rules on a line inside a script: names mean the same among the lines before it and in the whole script.
use Rattle.std.proofs.Common.{◌≡◌, ℕ, suc, ◌-◌, ◌≤◌, List, [], ◌∷◌, ◌++◌, length, take, Option, Some, refl, sym, ap, subst, ◌∙◌, arith}
use Rattle.std.specs.Prelude.{◌&&◌, not, ℤ}
use Rattle.std.specs.Option.{option_or}
use Rattle.std.specs.Str.{bytes_eq}
use Rattle.run_data.specs.declared.command.Command.{Command}
use Rattle.run_data.specs.declared.command.Command.TheVariants as c
use Rattle.run_data.specs.Script.{commands_of, modulus_of}
use Rattle.run_data.specs.declared.flips.Flip.{Flip}
use Rattle.run_data.specs.Flips.{pending}
use Rattle.script_rules.specs.declared.counts.Counts.{Counts}
use Rattle.script_rules.specs.declared.distributions.Distribution.{Distribution}
use Rattle.script_rules.specs.declared.told.Told.{Told}
use Rattle.script_rules.specs.Routines.{pgemm_rules, ptrsm_rules, pgetrf_rules, pgetrs_rules, pgemr2d_rules, ptran_rules, pgetri_rules}
use Rattle.script_words.specs.Tables.{first_code}
use Rattle.script_rules.specs.Rules.{maker_command, distribution_of, factored, process_rows, process_columns, matrix_words, matrix_lines, live_matrices, list_lines, live_lists, printed_words, matrix_rules, list_rules, print_rules, flip_rules, pverify_rules, pgemm_line, pgetrf_line, pgetrs_line, pgemr2d_line, ptran_line, pgetri_line, routine_rules, own_rules, rules}
use Rattle.script_rules.specs.Counted.{AreCounts, commands_before}
use Rattle.script_words.proofs.Tables.{first_code-append}
use Rattle.script_rules.proofs.Before.{maker_command-within, distribution_of-within, pending-within, factored-take}

pub next_line : (line : ℕ) → 1 ≤ line → line ≡ suc (line - 1)
next_line line low = omega arith

pub maker_command-before : (script : List (Option Command)) (line : ℕ) (name : List ℕ) → 1 ≤ line → line ≤ suc (length script) → maker_command (commands_before script line) line name ≡ maker_command (commands_of script) line name
maker_command-before script line name low to = maker_command-within script (line - 1) line name (omega arith) (omega arith)

pub distribution_of-before : (script : List (Option Command)) (line : ℕ) (name : List ℕ) → 1 ≤ line → line ≤ suc (length script) → distribution_of (commands_before script line) line name ≡ distribution_of (commands_of script) line name
distribution_of-before script line name low to = distribution_of-within script (line - 1) line name (omega arith) (omega arith)

pub pending-before : (script : List (Option Command)) (line : ℕ) (name : List ℕ) → 1 ≤ line → line ≤ suc (length script) → pending (commands_before script line) line name ≡ pending (commands_of script) line name
pending-before script line name low to = pending-within script (line - 1) line name (omega arith) (omega arith)

pub factored-before : (script : List (Option Command)) (line : ℕ) (name : List ℕ) → 1 ≤ line → line ≤ suc (length script) → factored (commands_before script line) line name ≡ factored (commands_of script) line name
factored-before script line name low to =
    let next : suc (line - 1) ≡ line = omega arith in
    subst (λ l. factored (commands_of (take (line - 1) script)) l name ≡ factored (commands_of script) l name) next (factored-take script (line - 1) name (omega arith))

take_whole : (xs : List (Option Command)) → take (length xs) xs ≡ xs
take_whole [] = refl
take_whole (x ∷ xs) = ap (λ ys. x ∷ ys) (take_whole xs)

-- on the next line of a script the lines before are all its lines
pub before_next : (script : List (Option Command)) (line : ℕ) → line ≡ suc (length script) → commands_before script line ≡ commands_of script
before_next script line e =
    let whole : line - 1 ≡ length script = omega arith in
    ap (λ i. commands_of (take i script)) whole ∙ ap commands_of (take_whole script)

by_two : {X Y : Type 0} (f : X → X → Y) (a a' b b' : X) → a ≡ a' → b ≡ b' → f a b ≡ f a' b'
by_two f a a' b b' d e = ap (λ x. f x b) d ∙ ap (f a') e

by_three : {X Y : Type 0} (f : X → X → X → Y) (a a' b b' c c' : X) → a ≡ a' → b ≡ b' → c ≡ c' → f a b c ≡ f a' b' c'
by_three f a a' b b' c c' d e g = ap (λ x. f x b c) d ∙ by_two (f a') b b' c c' e g

-- the rules of the routines look at names alone
pub routine_rules-before : (modulus : ℕ) (script : List (Option Command)) (line : ℕ) (d : Command) → 1 ≤ line → line ≤ suc (length script) → routine_rules modulus (commands_before script line) line d ≡ routine_rules modulus (commands_of script) line d
routine_rules-before modulus script line (c.Pgemm transa transb m n k alpha a ia ja b ib jb beta x ic jc) low to =
    by_three (λ (p : Distribution) (q : Distribution) (r : Distribution). pgemm_rules modulus transa transb m n k alpha ia ja ib jb beta (not (bytes_eq x a) && not (bytes_eq x b)) ic jc p q r) _ _ _ _ _ _
    (distribution_of-before script line a low to) (distribution_of-before script line b low to) (distribution_of-before script line x low to)
routine_rules-before modulus script line (c.Ptrsm side uplo transa diag m n alpha a ia ja b ib jb) low to =
    let cs = commands_of script in
    let d = c.Ptrsm side uplo transa diag m n alpha a ia ja b ib jb in
    ap (λ rs. pgemm_line modulus cs line d ++ rs ++ pgetrf_line cs line d ++ pgetrs_line cs line d ++ pgemr2d_line cs line d ++ ptran_line modulus cs line d ++ pgetri_line cs line d)
    (by_two (λ (p : Distribution) (q : Distribution). ptrsm_rules modulus side uplo transa diag m n alpha ia ja (not (bytes_eq b a)) ib jb p q) _ _ _ _
    (distribution_of-before script line a low to) (distribution_of-before script line b low to))
routine_rules-before modulus script line (c.Pgetrf m n a ia ja v) low to = ap (pgetrf_rules m n ia ja) (distribution_of-before script line a low to)
routine_rules-before modulus script line (c.Pgetrs trans n nrhs a ia ja v b ib jb) low to =
    by_three (λ (p : Distribution) (q : Distribution) (r : Distribution). pgetrs_rules trans n nrhs ia ja (not (bytes_eq b a)) ib jb p q r) _ _ _ _ _ _
    (distribution_of-before script line a low to) (factored-before script line v low to) (distribution_of-before script line b low to)
routine_rules-before modulus script line (c.Pgemr2d m n a ia ja b ib jb ctxt) low to =
    by_two (λ (p : Distribution) (q : Distribution). pgemr2d_rules m n ia ja (not (bytes_eq b a)) ib jb ctxt p q) _ _ _ _
    (distribution_of-before script line a low to) (distribution_of-before script line b low to)
routine_rules-before modulus script line (c.Ptran m n alpha a ia ja beta x ic jc) low to =
    by_two (λ (p : Distribution) (q : Distribution). ptran_rules modulus m n alpha ia ja beta (not (bytes_eq x a)) ic jc p q) _ _ _ _
    (distribution_of-before script line a low to) (distribution_of-before script line x low to)
routine_rules-before modulus script line (c.Pgetri n a ia ja v b ib jb) low to =
    by_three (λ (p : Distribution) (q : Distribution) (r : Distribution). pgetri_rules n ia ja (not (bytes_eq b a)) ib jb p q r) _ _ _ _ _ _
    (distribution_of-before script line a low to) (factored-before script line v low to) (distribution_of-before script line b low to)
routine_rules-before modulus script line d low to = refl

-- ---- the rules of a script's own commands, by what the lines before count

pub own_matrix : (told : Told) (script : List (Option Command)) (line : ℕ) (d : Command) (counts : Counts) (name grid : List ℕ) (m n mb nb rsrc csrc : ℕ) (file : List ℕ) (live p q : ℕ) (code : Option ℤ) →
    d ≡ c.Matrix name grid m n mb nb rsrc csrc file → 1 ≤ line → line ≤ suc (length script) → AreCounts counts (line - 1) (commands_before script line) → live ≡ counts.matrices - counts.dropped →
    p ≡ process_rows (maker_command (commands_of script) line grid) → q ≡ process_columns (maker_command (commands_of script) line grid) →
    code ≡ first_code (matrix_rules live counts.matrices p q m n mb nb rsrc csrc) → code ≡ first_code (own_rules told (commands_before script line) line d)
own_matrix told script line d counts name grid m n mb nb rsrc csrc file live p q code e low to h l ep eq r =
    let cs = commands_before script line in
    let same = maker_command-before script line grid low to in
    let alive : live ≡ live_matrices cs = l ∙ ap (λ k. k - counts.dropped) h.matrices ∙ ap (λ k. matrix_lines cs - k) h.dropped in
    r
    ∙ ap (λ k. first_code (matrix_rules k counts.matrices p q m n mb nb rsrc csrc)) alive
    ∙ ap (λ k. first_code (matrix_rules (live_matrices cs) k p q m n mb nb rsrc csrc)) h.matrices
    ∙ ap (λ k. first_code (matrix_rules (live_matrices cs) (matrix_lines cs) k q m n mb nb rsrc csrc)) (ep ∙ ap process_rows (sym same))
    ∙ ap (λ k. first_code (matrix_rules (live_matrices cs) (matrix_lines cs) (process_rows (maker_command cs line grid)) k m n mb nb rsrc csrc)) (eq ∙ ap process_columns (sym same))
    ∙ ap (λ x. first_code (own_rules told cs line x)) (sym e)

pub own_list : (told : Told) (script : List (Option Command)) (line : ℕ) (d : Command) (counts : Counts) (m n : ℕ) (a : List ℕ) (ia ja : ℕ) (v : List ℕ) (live : ℕ) (code : Option ℤ) →
    d ≡ c.Pgetrf m n a ia ja v → AreCounts counts (line - 1) (commands_before script line) → live ≡ counts.lists - counts.dropped_lists →
    code ≡ first_code (list_rules live) → code ≡ first_code (own_rules told (commands_before script line) line d)
own_list told script line d counts m n a ia ja v live code e h l r =
    let cs = commands_before script line in
    let alive : live ≡ live_lists cs = l ∙ ap (λ k. k - counts.dropped_lists) h.lists ∙ ap (λ k. list_lines cs - k) h.dropped_lists in
    r ∙ ap (λ k. first_code (list_rules k)) alive ∙ ap (λ x. first_code (own_rules told cs line x)) (sym e)

pub own_flip : (told : Told) (script : List (Option Command)) (line : ℕ) (d : Command) (counts : Counts) (name : List ℕ) (i j x : ℕ) (distribution : Distribution) (flips : List Flip) (code : Option ℤ) →
    d ≡ c.Flip name i j x → 1 ≤ line → line ≤ suc (length script) → AreCounts counts (line - 1) (commands_before script line) → distribution ≡ distribution_of (commands_of script) line name →
    flips ≡ pending (commands_of script) line name → code ≡ first_code (flip_rules counts.modulus distribution flips i j x) → code ≡ first_code (own_rules told (commands_before script line) line d)
own_flip told script line d counts name i j x distribution flips code e low to h w f r =
    let cs = commands_before script line in
    r
    ∙ ap (λ p. first_code (flip_rules p distribution flips i j x)) h.modulus
    ∙ ap (λ l. first_code (flip_rules (modulus_of cs) l flips i j x)) (w ∙ sym (distribution_of-before script line name low to))
    ∙ ap (λ fs. first_code (flip_rules (modulus_of cs) (distribution_of cs line name) fs i j x)) (f ∙ sym (pending-before script line name low to))
    ∙ ap (λ y. first_code (own_rules told cs line y)) (sym e)

pub own_pverify : (told : Told) (script : List (Option Command)) (line : ℕ) (d : Command) (name : List ℕ) (distribution : Distribution) (code : Option ℤ) →
    d ≡ c.Pverify name → 1 ≤ line → line ≤ suc (length script) → distribution ≡ distribution_of (commands_of script) line name →
    code ≡ first_code (pverify_rules distribution) → code ≡ first_code (own_rules told (commands_before script line) line d)
own_pverify told script line d name distribution code e low to w r =
    let cs = commands_before script line in
    r ∙ ap (λ l. first_code (pverify_rules l)) (w ∙ sym (distribution_of-before script line name low to)) ∙ ap (λ y. first_code (own_rules told cs line y)) (sym e)

pub own_print : (told : Told) (script : List (Option Command)) (line : ℕ) (d : Command) (counts : Counts) (name : List ℕ) (words : ℕ) (code : Option ℤ) →
    d ≡ c.Print name → 1 ≤ line → line ≤ suc (length script) → AreCounts counts (line - 1) (commands_before script line) → words ≡ matrix_words (maker_command (commands_of script) line name) →
    code ≡ first_code (print_rules counts.printed words) → code ≡ first_code (own_rules told (commands_before script line) line d)
own_print told script line d counts name words code e low to h w r =
    let cs = commands_before script line in
    r
    ∙ ap (λ k. first_code (print_rules k words)) h.printed
    ∙ ap (λ k. first_code (print_rules (printed_words cs) k)) (w ∙ ap matrix_words (sym (maker_command-before script line name low to)))
    ∙ ap (λ x. first_code (own_rules told cs line x)) (sym e)

-- ---- the rules of a command: of its routine, and then its own

pub rules_split : (told : Told) (script : List (Option Command)) (line : ℕ) (d : Command) (modulus : ℕ) (routine own : Option ℤ) → 1 ≤ line → line ≤ suc (length script) → modulus ≡ modulus_of (commands_before script line) →
    routine ≡ first_code (routine_rules modulus (commands_of script) line d) → own ≡ first_code (own_rules told (commands_before script line) line d) → first_code (rules told (commands_before script line) line d) ≡ option_or routine own
rules_split told script line d modulus routine own low to same r o =
    let cs = commands_before script line in
    first_code-append (routine_rules (modulus_of cs) cs line d) (own_rules told cs line d)
    ∙ ap (λ rs. option_or (first_code rs) (first_code (own_rules told cs line d))) (routine_rules-before (modulus_of cs) script line d low to)
    ∙ ap (λ p. option_or (first_code (routine_rules p (commands_of script) line d)) (first_code (own_rules told cs line d))) (sym same)
    ∙ ap (λ x. option_or x (first_code (own_rules told cs line d))) (sym r)
    ∙ ap (option_or routine) (sym o)

-- a rule of the routine that is broken is the first
pub rules_routine : (told : Told) (script : List (Option Command)) (line : ℕ) (d : Command) (modulus : ℕ) (code : ℤ) → 1 ≤ line → line ≤ suc (length script) → modulus ≡ modulus_of (commands_before script line) →
    Some code ≡ first_code (routine_rules modulus (commands_of script) line d) → first_code (rules told (commands_before script line) line d) ≡ Some code
rules_routine told script line d modulus code low to same r = rules_split told script line d modulus (Some code) _ low to same r refl
