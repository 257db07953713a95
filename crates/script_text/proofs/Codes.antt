-- No rule of a text has code 12.
use Rattle.std.proofs.Common.{◌≡◌, ℕ, suc, Bool, true, false, cond, ◌&&◌, List, [], ◌∷◌, ◌++◌, length, Option, Some, None, Result, Ok, Err, refl, sym, ap, subst, ◌∙◌}
use Rattle.std.specs.Prelude.{ℤ, pos, negsuc, not, codes, if◌then◌else◌, ◌==◌, ◌≢◌, nat_lt, nat_le}
use Rattle.std.specs.Option.{option_or}
use Rattle.std.proofs.lemmas.Bool.{and_parts, and_from}
use Rattle.run_data.specs.Matrix.{Matrix, tabulate}
use Rattle.run_data.specs.Script.{Numbered, commands_of, modulus_of}
use Rattle.run_data.specs.declared.command.Command.{Command}
use Rattle.run_data.specs.declared.command.Command.TheVariants as c
use Rattle.script_words.specs.declared.fault.Refused.{Refused}
use Rattle.script_rules.specs.declared.told.Told.{Told}
use Rattle.script_words.specs.declared.kinds.Kind.{Kind}
use Rattle.script_words.specs.declared.kinds.Kind.TheVariants.{NewName, GridName, MatrixName, ListName, ThingName, Number, FileName, Letter}
use Rattle.script_words.specs.declared.kinds.CommandWord.{CommandWord}
use Rattle.script_words.specs.Limits.{line_limit, record_limit}
use Rattle.script_words.specs.Lines.{has_items}
use Rattle.script_words.specs.Kinds.{command_word, kinds_of, takes_more, has_count}
use Rattle.script_bounds.specs.Bounds.{bound}
use Rattle.script_words.specs.Tables.{first_code}
use Rattle.script_rules.specs.Rules.{word_rules, words_code, more_rules, distribution_of, pgemm_line, ptrsm_line, pgetrf_line, pgetrs_line, pgemr2d_line, ptran_line, pgetri_line, routine_rules, own_rules, rules}
use Rattle.std.specs.Str.{bytes_eq}
use Rattle.script_rules.specs.declared.distributions.Distribution.{Distribution}
use Rattle.script_rules.specs.Routines.{is_option, left_rules, right_rules}
use Rattle.script_rules.specs.Told.{told_by}
use Rattle.script_words.specs.Commands.{command_of}
use Rattle.script_text.specs.Script.{refused, command_code, form_code_of, form_code, rule_code, line_code, answer_by, line_answer, and_then, script_after, bounded, script_of}
use Rattle.script_words.specs.Lines.{word_lines}
use Rattle.script_words.specs.MatrixFile.{row_rules, by_code, too_few, refused_after, rows_of, number_in, matrix_or, matrix_of}

-- a code, if there is one, is not 12
abbrev is_other : Option ℤ → Bool
is_other None = true
is_other (Some (pos n)) = not (n == 12)
is_other (Some (negsuc n)) = true

abbrev are_others : List (ℤ × Bool) → Bool
are_others [] = true
are_others (rule ∷ rest) = is_other (Some rule.0) && are_others rest

not_twelve : (code : ℤ) → is_other (Some code) ≡ true → code ≢ pos 12
not_twelve code h = λ (e : code ≡ pos 12). let q : false ≡ true = sym (ap (λ (x : ℤ). is_other (Some x)) e) ∙ h in cc

-- ---- the first of several codes
first_other : (list : List (ℤ × Bool)) → are_others list ≡ true → is_other (first_code list) ≡ true
first_other [] h = refl
first_other (rule ∷ rest) h =
    let parts = and_parts (is_other (Some rule.0)) (are_others rest) h in
    by_test rule.1 parts.0 (first_other rest parts.1)
  where
    by_test : (b : Bool) → is_other (Some rule.0) ≡ true → is_other (first_code rest) ≡ true → is_other (cond b (first_code rest) (Some rule.0)) ≡ true
    by_test true a b = b
    by_test false a b = a

or_other : (a b : Option ℤ) → is_other a ≡ true → is_other b ≡ true → is_other (option_or a b) ≡ true
or_other None b h k = k
or_other (Some x) b h k = h

-- ---- a line of a script
word_other : (cs : List Numbered) (line : ℕ) (kind : Kind) (word : List ℕ) → are_others (word_rules cs line kind word) ≡ true
word_other cs line NewName word = refl
word_other cs line GridName word = refl
word_other cs line MatrixName word = refl
word_other cs line ListName word = refl
word_other cs line ThingName word = refl
word_other cs line Number word = refl
word_other cs line FileName word = refl
word_other cs line Letter word = refl

words_other : (cs : List Numbered) (line : ℕ) (kinds : List Kind) (words : List (List ℕ)) → is_other (words_code cs line kinds words) ≡ true
words_other cs line [] words = refl
words_other cs line (kind ∷ kinds) [] = refl
words_other cs line (kind ∷ kinds) (word ∷ words) = or_other (first_code (word_rules cs line kind word)) _ (first_other (word_rules cs line kind word) (word_other cs line kind word)) (words_other cs line kinds words)

others-append : (xs ys : List (ℤ × Bool)) → are_others xs ≡ true → are_others ys ≡ true → are_others (xs ++ ys) ≡ true
others-append [] ys h k = k
others-append (x ∷ xs) ys h k = (let parts = and_parts (is_other (Some x.0)) (are_others xs) h in and_from (is_other (Some x.0)) (are_others (xs ++ ys)) parts.0 (others-append xs ys parts.1 k))

pgemm_other : (p : ℕ) (cs : List Numbered) (line : ℕ) (command : Command) → are_others (pgemm_line p cs line command) ≡ true
pgemm_other p cs line (c.Pgemm transa transb m n k alpha a ia ja b ib jb beta x ic jc) = refl
pgemm_other p cs line command = refl

ptrsm_other : (p : ℕ) (cs : List Numbered) (line : ℕ) (command : Command) → are_others (ptrsm_line p cs line command) ≡ true
ptrsm_other p cs line (c.Ptrsm side uplo transa diag m n alpha a ia ja b ib jb) =
    side_other (is_option (codes "L") (codes "l") side) p m n alpha ia ja (not (bytes_eq b a)) ib jb (distribution_of cs line a) (distribution_of cs line b)
  where
    side_other : (left : Bool) (p m n alpha ia ja : ℕ) (apart : Bool) (ib jb : ℕ) (a b : Distribution) → are_others (if left then left_rules p m n alpha ia ja apart ib jb a b else right_rules p m n alpha ia ja apart ib jb a b) ≡ true
    side_other true p m n alpha ia ja apart ib jb a b = refl
    side_other false p m n alpha ia ja apart ib jb a b = refl
ptrsm_other p cs line command = refl

ptran_other : (p : ℕ) (cs : List Numbered) (line : ℕ) (command : Command) → are_others (ptran_line p cs line command) ≡ true
ptran_other p cs line (c.Ptran m n alpha a ia ja beta x ic jc) = refl
ptran_other p cs line command = refl

pgetri_other : (cs : List Numbered) (line : ℕ) (command : Command) → are_others (pgetri_line cs line command) ≡ true
pgetri_other cs line (c.Pgetri n a ia ja v b ib jb) = refl
pgetri_other cs line command = refl

pgetrf_other : (cs : List Numbered) (line : ℕ) (command : Command) → are_others (pgetrf_line cs line command) ≡ true
pgetrf_other cs line (c.Pgetrf m n a ia ja v) = refl
pgetrf_other cs line command = refl

pgetrs_other : (cs : List Numbered) (line : ℕ) (command : Command) → are_others (pgetrs_line cs line command) ≡ true
pgetrs_other cs line (c.Pgetrs trans n nrhs a ia ja v b ib jb) = refl
pgetrs_other cs line command = refl

pgemr2d_other : (cs : List Numbered) (line : ℕ) (command : Command) → are_others (pgemr2d_line cs line command) ≡ true
pgemr2d_other cs line (c.Pgemr2d m n a ia ja b ib jb ctxt) = refl
pgemr2d_other cs line command = refl

routines_other : (p : ℕ) (cs : List Numbered) (line : ℕ) (command : Command) → are_others (routine_rules p cs line command) ≡ true
routines_other p cs line command =
    let one = pgemm_line p cs line command in
    let two = ptrsm_line p cs line command in
    let three = pgetrf_line cs line command in
    let four = pgetrs_line cs line command in
    let five = pgemr2d_line cs line command in
    let six = ptran_line p cs line command in
    let seven = pgetri_line cs line command in
    others-append (one ++ two ++ three ++ four ++ five ++ six) seven
    (others-append (one ++ two ++ three ++ four ++ five) six
    (others-append (one ++ two ++ three ++ four) five
    (others-append (one ++ two ++ three) four (others-append (one ++ two) three (others-append one two (pgemm_other p cs line command) (ptrsm_other p cs line command)) (pgetrf_other cs line command)) (pgetrs_other cs line command))
    (pgemr2d_other cs line command)) (ptran_other p cs line command)) (pgetri_other cs line command)

own_other : (told : Told) (cs : List Numbered) (line : ℕ) (command : Command) → are_others (own_rules told cs line command) ≡ true
own_other told cs line (c.Grid name p q f) = refl
own_other told cs line (c.Matrix name grid m n mb nb rsrc csrc file) = refl
own_other told cs line (c.Pgetrf m n a ia ja v) = refl
own_other told cs line (c.Print name) = refl
own_other told cs line (c.Topology kind) = refl
own_other told cs line (c.Links n) = refl
own_other told cs line (c.Order numbers) = refl
own_other told cs line (c.Lose at rank) = refl
own_other told cs line (c.Spares n) = refl
own_other told cs line (c.Field n) = refl
own_other told cs line (c.Flip name i j x) = refl
own_other told cs line (c.Pverify name) = refl
own_other told cs line command = refl

rules_other : (told : Told) (cs : List Numbered) (line : ℕ) (command : Command) → are_others (rules told cs line command) ≡ true
rules_other told cs line command = others-append (routine_rules (modulus_of cs) cs line command) (own_rules told cs line command) (routines_other (modulus_of cs) cs line command) (own_other told cs line command)

command_other : (script : List (Option Command)) (o : Option CommandWord) (others : List (List ℕ)) → is_other (command_code script o others) ≡ true
command_other script None others = refl
command_other script (Some w) others =
    or_other (first_code ((pos 2, has_count w (length others)) ∷ [])) _ (first_other ((pos 2, has_count w (length others)) ∷ []) refl)
    (or_other (words_code (commands_of script) (suc (length script)) (kinds_of w) others) _ (words_other (commands_of script) (suc (length script)) (kinds_of w) others)
    (first_other (more_rules (takes_more w) others) refl))

form_other : (script : List (Option Command)) (words : List (List ℕ)) → is_other (form_code script words) ≡ true
unfolding form_code
form_other script words = or_other (first_code ((pos 11, nat_lt (length script) line_limit) ∷ [])) _ (first_other ((pos 11, nat_lt (length script) line_limit) ∷ []) refl) (of_words words)
  where
    of_words : (words : List (List ℕ)) → is_other (form_code_of script words) ≡ true
    of_words [] = refl
    of_words (first ∷ others) = command_other script (command_word first) others

rule_other : (told : Told) (script : List (Option Command)) (command : Option Command) → is_other (rule_code told script command) ≡ true
unfolding rule_code
rule_other told script None = refl
rule_other told script (Some command) = first_other (rules told (commands_of script) (suc (length script)) command) (rules_other told (commands_of script) (suc (length script)) command)

line_other : (told : Told) (script : List (Option Command)) (words : List (List ℕ)) → is_other (line_code told script words) ≡ true
unfolding line_code
line_other told script words = or_other (form_code script words) _ (form_other script words) (rule_other told script (command_of words))

-- ---- a script
line_refused : (told : Told) (script : List (Option Command)) (words : List (List ℕ)) (r : Refused) → line_answer told script words ≡ Err r → is_other (Some r.code) ≡ true
unfolding line_answer
line_refused told script words r e = by_code (line_code told script words) (line_other told script words) e
  where
    by_code : (o : Option ℤ) → is_other o ≡ true → answer_by script words o ≡ Err r → is_other (Some r.code) ≡ true
    by_code None h e = absurd cc
    by_code (Some code) h e = let q : refused (suc (length script)) code ≡ r = cc in subst (λ (x : Refused). is_other (Some x.code) ≡ true) q h

-- a line, and then the rest
then_refused : (a : Result (Option Command) Refused) (next : Option Command → Result (List (Option Command)) Refused) (r : Refused) → ((x : Refused) → a ≡ Err x → is_other (Some x.code) ≡ true)
    → ((command : Option Command) → next command ≡ Err r → is_other (Some r.code) ≡ true) → and_then a next ≡ Err r → is_other (Some r.code) ≡ true
then_refused (Ok command) next r h k e = k command e
then_refused (Err x) next r h k e = let q : x ≡ r = cc in subst (λ (y : Refused). is_other (Some y.code) ≡ true) q (h x refl)

lines_refused : (told : Told) (script : List (Option Command)) (lines : List (List (List ℕ))) (r : Refused) → script_after told script lines ≡ Err r → is_other (Some r.code) ≡ true
unfolding script_after
lines_refused told script [] r e = absurd cc
lines_refused told script (words ∷ lines) r e =
    then_refused (line_answer told script words) (λ command. script_after told (script ++ command ∷ []) lines) r (λ x o. line_refused told script words x o) (λ command o. lines_refused told (script ++ command ∷ []) lines r o) e

bound_refused : (script : List (Option Command)) (r : Refused) → bounded script ≡ Err r → is_other (Some r.code) ≡ true
unfolding bounded
bound_refused script r e = by_test (nat_le (bound (commands_of script)) record_limit) e
  where
    by_test : (b : Bool) → cond b (Ok script) (Err (refused 0 (pos 7))) ≡ Err r → is_other (Some r.code) ≡ true
    by_test true e = absurd cc
    by_test false e = let q : refused 0 (pos 7) ≡ r = cc in subst (λ (x : Refused). is_other (Some x.code) ≡ true) q refl

script_refused : (bytes : List ℕ) (r : Refused) → script_of bytes ≡ Err r → is_other (Some r.code) ≡ true
unfolding script_of
script_refused bytes r e = by_lines (script_after (told_by (word_lines bytes)) [] (word_lines bytes)) refl e
  where
    by_lines : (a : Result (List (Option Command)) Refused) → script_after (told_by (word_lines bytes)) [] (word_lines bytes) ≡ a → and_then a bounded ≡ Err r → is_other (Some r.code) ≡ true
    by_lines (Ok script) o e = bound_refused script r e
    by_lines (Err x) o e = let q : x ≡ r = cc in subst (λ (y : Refused). is_other (Some y.code) ≡ true) q (lines_refused (told_by (word_lines bytes)) [] (word_lines bytes) x o)

pub code_of_script : (bytes : List ℕ) (r : Refused) → script_of bytes ≡ Err r → r.code ≢ pos 12
code_of_script bytes r e = not_twelve r.code (script_refused bytes r e)

-- ---- a matrix file
abbrev is_other_refusal : Option Refused → Bool
is_other_refusal None = true
is_other_refusal (Some r) = is_other (Some r.code)

test_other : (b : Bool) (x y : Option Refused) → is_other_refusal x ≡ true → is_other_refusal y ≡ true → is_other_refusal (cond b x y) ≡ true
test_other true x y h k = h
test_other false x y h k = k

row_other : (file line : ℕ) (o : Option ℤ) (rest : Option Refused) → is_other o ≡ true → is_other_refusal rest ≡ true → is_other_refusal (by_code file line o rest) ≡ true
row_other file line None rest h k = k
row_other file line (Some code) rest h k = h

rows_other : (p file m n i line : ℕ) (lines : List (List (List ℕ))) → is_other_refusal (refused_after p file m n i line lines) ≡ true
rows_other p file m n i line [] = test_other (nat_lt i m) (Some (too_few file)) None refl refl
rows_other p file m n i line (words ∷ lines) =
    test_other (has_items words) (by_code file line (first_code (row_rules p m n i words)) (refused_after p file m n (suc i) (suc line) lines)) (refused_after p file m n i (suc line) lines)
    (row_other file line (first_code (row_rules p m n i words)) (refused_after p file m n (suc i) (suc line) lines) (first_other (row_rules p m n i words) refl) (rows_other p file m n (suc i) (suc line) lines))
    (rows_other p file m n i (suc line) lines)

matrix_refused : (o : Option Refused) (a : Matrix) (r : Refused) → is_other_refusal o ≡ true → matrix_or o a ≡ Err r → is_other (Some r.code) ≡ true
matrix_refused None a r h e = absurd cc
matrix_refused (Some x) a r h e = let q : x ≡ r = cc in subst (λ (y : Refused). is_other (Some y.code) ≡ true) q h

pub code_of_matrix : (p : ℕ) (bytes : List ℕ) (file m n : ℕ) (r : Refused) → matrix_of p bytes file m n ≡ Err r → r.code ≢ pos 12
unfolding matrix_of
code_of_matrix p bytes file m n r e = not_twelve r.code (matrix_refused (refused_after p file m n 0 1 (word_lines bytes)) (tabulate m n (number_in p (rows_of bytes))) r (rows_other p file m n 0 1 (word_lines bytes)) e)
