-- A script that is read keeps the rules.
use Rattle.std.proofs.Common.{◌≡◌, ℕ, zero, suc, ◌<◌, ◌≤◌, Bool, true, false, cond, leb, List, [], ◌∷◌, ◌++◌, length, take, Option, Some, None, Result, Ok, Err, refl, sym, ap, subst, ◌∙◌, arith, inl, inr}
use Rattle.std.specs.Prelude.{◌&&◌, is_some, ℤ, pos, slice_get, nat_lt}
use Rattle.std.specs.List.{list_all}
use Rattle.std.specs.Option.{option_or}
use Rattle.std.proofs.lemmas.Bool.{cases_lt, eqb-true, ltb-true, leb-true, le-leb}
use Rattle.std.proofs.lemmas.Bool.Decides.{nat_tests}
use Rattle.std.proofs.lemmas.Option.{slice_get_within, same_Some}
use Rattle.std.proofs.lemmas.List.{take-append-le}
use Rattle.run_data.specs.declared.command.Command.{Command}
use Rattle.run_data.specs.declared.command.Command.TheVariants as c
use Rattle.run_data.specs.Script.{Numbered, commands_of}
use Rattle.script_words.specs.declared.fault.Refused.{Refused}
use Rattle.script_words.specs.declared.kinds.CommandWord.{CommandWord}
use Rattle.script_words.specs.declared.kinds.CommandWord.TheVariants as w
use Rattle.script_words.specs.declared.kinds.Kind.{Kind}
use Rattle.script_words.specs.declared.kinds.Kind.TheVariants.{NewName, GridName, MatrixName, ListName, ThingName, Number, FileName}
use Rattle.script_rules.specs.declared.told.Told.{Told}
use Rattle.script_words.specs.Limits.{line_limit, record_limit}
use Rattle.script_words.specs.Numbers.{number_of}
use Rattle.script_words.specs.Kinds.{command_word, kinds_of, takes_more, has_count}
use Rattle.script_words.specs.Tables.{first_code}
use Rattle.script_rules.specs.Rules.{word_rules, words_code, is_number, more_rules, rules}
use Rattle.script_words.specs.Commands.{◌>>=◌, word_at, number_at, grid_of, matrix_of, pgemm_of, ptrsm_of, pgetrf_of, pgetrs_of, pgemr2d_of, links_of, numbers_of, order_of, lose_of, spares_line_of, field_of, ptran_of, pgetri_of, flip_of, command_as, command_of}
use Rattle.script_text.specs.Script.{refused, command_code, form_code_of, form_code, rule_code, line_code, answer_by, line_answer, and_then, script_after, bounded, script_of}
use Rattle.script_words.specs.Lines.{word_lines}
use Rattle.script_bounds.specs.Bounds.{bound}
use Rattle.script_bounds.specs.Accepted.{named_words, count_rules, names_code, broken_by}
use Rattle.script_rules.specs.Told.{told_by}
use Rattle.script_words.proofs.Tables.{or_none, none_or, first_none}
use Rattle.script_rules.proofs.Before.{slice_get-front, slice_get-last, take-front, length-more}

-- ---- the words of a line

words_code-at : (cs : List Numbered) (line : ℕ) (kinds : List Kind) (words : List (List ℕ)) (j : ℕ) (kind : Kind) → slice_get kinds j ≡ Some kind → length kinds ≡ length words →
    words_code cs line kinds words ≡ None → first_code (word_rules cs line kind (word_at words j)) ≡ None
words_code-at cs line [] words j kind k n e = absurd cc
words_code-at cs line (x ∷ kinds) [] j kind k n e = absurd (omega arith)
words_code-at cs line (x ∷ kinds) (word ∷ words) zero kind k n e =
    subst (λ y. first_code (word_rules cs line y word) ≡ None) (same_Some x kind k) (or_none (first_code (word_rules cs line x word)) _ e).0
words_code-at cs line (x ∷ kinds) (word ∷ words) (suc j) kind k n e =
    words_code-at cs line kinds words j kind k (omega arith) (or_none (first_code (word_rules cs line x word)) _ e).1

-- ---- the commands that lines spell

-- a value that came of another
pub bind_some : {A B : Type 0} (o : Option A) (f : A → Option B) (y : B) → (o >>= f) ≡ Some y → (x : A) × (o ≡ Some x) × (f x ≡ Some y)
bind_some None f y e = absurd cc
bind_some (Some x) f y e = (x, refl, e)

bind_then : {A : Type 0} (o : Option A) (f : A → Option Command) (d : Command) (Q : Type 0) → (o >>= f) ≡ Some d → ((x : A) → o ≡ Some x → f x ≡ Some d → Q) → Q
bind_then None f d Q e next = absurd cc
bind_then (Some x) f d Q e next = next x refl e

-- as many numbers as words
length-numbers_of : (words : List (List ℕ)) (ns : List ℕ) → numbers_of words ≡ Some ns → length ns ≡ length words
unfolding numbers_of
length-numbers_of [] ns e = sym (ap length (same_Some [] ns e))
length-numbers_of (word ∷ words) ns e =
    let n = bind_some (number_of word) _ ns e in
    let more = bind_some (numbers_of words) _ ns n.2 in
    let size : length more.0 ≡ length words = length-numbers_of words more.0 more.1 in
    sym (ap length (same_Some _ ns more.2)) ∙ ap suc size

-- the word of a command
abbrev pub word_of : Command → CommandWord
word_of (c.Grid name p q f) = w.Grid
word_of (c.Matrix name grid m n mb nb rsrc csrc file) = w.Matrix
word_of (c.Pgemm transa transb m n k alpha a ia ja b ib jb beta x ic jc) = w.Pgemm
word_of (c.Ptrsm side uplo transa diag m n alpha a ia ja b ib jb) = w.Ptrsm
word_of (c.Pgetrf m n a ia ja v) = w.Pgetrf
word_of (c.Pgetrs trans n nrhs a ia ja v b ib jb) = w.Pgetrs
word_of (c.Pgemr2d m n a ia ja b ib jb ctxt) = w.Pgemr2d
word_of (c.Print name) = w.Print
word_of (c.Pivots name) = w.Pivots
word_of (c.Discard name) = w.Discard
word_of (c.Topology kind) = w.Topology
word_of (c.Links n) = w.Links
word_of (c.Order numbers) = w.Order
word_of (c.Lose at rank) = w.Lose
word_of (c.Spares n) = w.Spares
word_of (c.Field n) = w.Field
word_of (c.Ptran m n alpha a ia ja beta x ic jc) = w.Ptran
word_of (c.Pgetri n a ia ja v b ib jb) = w.Pgetri
word_of (c.Flip name i j x) = w.Flip
word_of (c.Pverify name) = w.Pverify

-- what the form of a line says of its command: its word, its names and its count
pub record IsFormed (script : List (Option Command)) (word : CommandWord) (d : Command) : Type 0 where
  pub same : word_of d ≡ word
  pub count : first_code (count_rules d) ≡ None
  pub names : names_code (commands_of script) (suc (length script)) (named_words d) ≡ None

abbrev kinds_code : List (Option Command) → CommandWord → List (List ℕ) → Option ℤ
kinds_code script w others = words_code (commands_of script) (suc (length script)) (kinds_of w) others

-- what the form of a line of a command says
pub record Formed (script : List (Option Command)) (w : CommandWord) (others : List (List ℕ)) : Type 0 where
  pub count : has_count w (length others) ≡ true
  pub words : words_code (commands_of script) (suc (length script)) (kinds_of w) others ≡ None
  pub more : first_code (more_rules (takes_more w) others) ≡ None

pub formed : (script : List (Option Command)) (w : CommandWord) (others : List (List ℕ)) → command_code script (Some w) others ≡ None → Formed script w others
formed script w others e =
    let counted = or_none (first_code ((pos 2, has_count w (length others)) ∷ [])) _ e in
    let parts = or_none (kinds_code script w others) _ counted.1 in
    record { count = (first_none (pos 2) (has_count w (length others)) [] counted.0).0; words = parts.0; more = parts.1 }

-- a word of a line, by its kind
word_kept : (script : List (Option Command)) (w : CommandWord) (first : List ℕ) (others : List (List ℕ)) → length (kinds_of w) ≡ length others → kinds_code script w others ≡ None →
    (j : ℕ) (kind : Kind) → slice_get (kinds_of w) j ≡ Some kind → first_code (word_rules (commands_of script) (suc (length script)) kind (word_at (first ∷ others) (suc j))) ≡ None
word_kept script w first others n e j kind k = words_code-at (commands_of script) (suc (length script)) (kinds_of w) others j kind k n e

-- a command whose names break no rule
kept_form : (script : List (Option Command)) (first : List ℕ) (others : List (List ℕ)) (w : CommandWord) (d : Command) → Formed script w others → command_as (Some w) (first ∷ others) ≡ Some d → IsFormed script w d
unfolding command_as grid_of matrix_of pgemm_of ptrsm_of pgetrf_of pgetrs_of pgemr2d_of links_of order_of lose_of spares_line_of field_of ptran_of pgetri_of flip_of
kept_form script first others w.Grid d h e =
    let count : 4 ≡ length others = sym (eqb-true (length others) 4 h.count) in
    let kept = word_kept script w.Grid first others count h.words in
    bind_then (number_at (first ∷ others) 2) _ d (IsFormed script w.Grid d) e (λ x2 t2 e2.
    bind_then (number_at (first ∷ others) 3) _ d (IsFormed script w.Grid d) e2 (λ x3 t3 e3.
    bind_then (number_at (first ∷ others) 4) _ d (IsFormed script w.Grid d) e3 (λ x4 t4 e4.
    subst (IsFormed script w.Grid) (same_Some (c.Grid (word_at (first ∷ others) 1) x2 x3 x4) d e4) (record { same = refl; count = refl; names = none_or _ _ (kept 0 NewName refl) refl }))))
kept_form script first others w.Matrix d h e =
    let count : 9 ≡ length others = sym (eqb-true (length others) 9 h.count) in
    let kept = word_kept script w.Matrix first others count h.words in
    bind_then (number_at (first ∷ others) 3) _ d (IsFormed script w.Matrix d) e (λ x3 t3 e3.
    bind_then (number_at (first ∷ others) 4) _ d (IsFormed script w.Matrix d) e3 (λ x4 t4 e4.
    bind_then (number_at (first ∷ others) 5) _ d (IsFormed script w.Matrix d) e4 (λ x5 t5 e5.
    bind_then (number_at (first ∷ others) 6) _ d (IsFormed script w.Matrix d) e5 (λ x6 t6 e6.
    bind_then (number_at (first ∷ others) 7) _ d (IsFormed script w.Matrix d) e6 (λ x7 t7 e7.
    bind_then (number_at (first ∷ others) 8) _ d (IsFormed script w.Matrix d) e7 (λ x8 t8 e8.
    subst (IsFormed script w.Matrix) (same_Some (c.Matrix (word_at (first ∷ others) 1) (word_at (first ∷ others) 2) x3 x4 x5 x6 x7 x8 (word_at (first ∷ others) 9)) d e8) (record { same = refl; count = refl; names = none_or _ _ (kept 0 NewName refl) (none_or _ _ (kept 1 GridName refl) (none_or _ _ (kept 8 FileName refl) refl)) })))))))
kept_form script first others w.Pgemm d h e =
    let count : 16 ≡ length others = sym (eqb-true (length others) 16 h.count) in
    let kept = word_kept script w.Pgemm first others count h.words in
    bind_then (number_at (first ∷ others) 3) _ d (IsFormed script w.Pgemm d) e (λ x3 t3 e3.
    bind_then (number_at (first ∷ others) 4) _ d (IsFormed script w.Pgemm d) e3 (λ x4 t4 e4.
    bind_then (number_at (first ∷ others) 5) _ d (IsFormed script w.Pgemm d) e4 (λ x5 t5 e5.
    bind_then (number_at (first ∷ others) 6) _ d (IsFormed script w.Pgemm d) e5 (λ x6 t6 e6.
    bind_then (number_at (first ∷ others) 8) _ d (IsFormed script w.Pgemm d) e6 (λ x8 t8 e8.
    bind_then (number_at (first ∷ others) 9) _ d (IsFormed script w.Pgemm d) e8 (λ x9 t9 e9.
    bind_then (number_at (first ∷ others) 11) _ d (IsFormed script w.Pgemm d) e9 (λ x11 t11 e11.
    bind_then (number_at (first ∷ others) 12) _ d (IsFormed script w.Pgemm d) e11 (λ x12 t12 e12.
    bind_then (number_at (first ∷ others) 13) _ d (IsFormed script w.Pgemm d) e12 (λ x13 t13 e13.
    bind_then (number_at (first ∷ others) 15) _ d (IsFormed script w.Pgemm d) e13 (λ x15 t15 e15.
    bind_then (number_at (first ∷ others) 16) _ d (IsFormed script w.Pgemm d) e15 (λ x16 t16 e16.
    subst (IsFormed script w.Pgemm) (same_Some (c.Pgemm (word_at (first ∷ others) 1) (word_at (first ∷ others) 2) x3 x4 x5 x6 (word_at (first ∷ others) 7) x8 x9 (word_at (first ∷ others) 10) x11 x12 x13 (word_at (first ∷ others) 14) x15 x16) d e16) (record { same = refl; count = refl; names = none_or _ _ (kept 6 MatrixName refl) (none_or _ _ (kept 9 MatrixName refl) (none_or _ _ (kept 13 MatrixName refl) refl)) }))))))))))))
kept_form script first others w.Ptrsm d h e =
    let count : 13 ≡ length others = sym (eqb-true (length others) 13 h.count) in
    let kept = word_kept script w.Ptrsm first others count h.words in
    bind_then (number_at (first ∷ others) 5) _ d (IsFormed script w.Ptrsm d) e (λ x5 t5 e5.
    bind_then (number_at (first ∷ others) 6) _ d (IsFormed script w.Ptrsm d) e5 (λ x6 t6 e6.
    bind_then (number_at (first ∷ others) 7) _ d (IsFormed script w.Ptrsm d) e6 (λ x7 t7 e7.
    bind_then (number_at (first ∷ others) 9) _ d (IsFormed script w.Ptrsm d) e7 (λ x9 t9 e9.
    bind_then (number_at (first ∷ others) 10) _ d (IsFormed script w.Ptrsm d) e9 (λ x10 t10 e10.
    bind_then (number_at (first ∷ others) 12) _ d (IsFormed script w.Ptrsm d) e10 (λ x12 t12 e12.
    bind_then (number_at (first ∷ others) 13) _ d (IsFormed script w.Ptrsm d) e12 (λ x13 t13 e13.
    subst (IsFormed script w.Ptrsm) (same_Some (c.Ptrsm (word_at (first ∷ others) 1) (word_at (first ∷ others) 2) (word_at (first ∷ others) 3) (word_at (first ∷ others) 4) x5 x6 x7 (word_at (first ∷ others) 8) x9 x10 (word_at (first ∷ others) 11) x12 x13) d e13) (record { same = refl; count = refl; names = none_or _ _ (kept 7 MatrixName refl) (none_or _ _ (kept 10 MatrixName refl) refl) }))))))))
kept_form script first others w.Pgetrf d h e =
    let count : 6 ≡ length others = sym (eqb-true (length others) 6 h.count) in
    let kept = word_kept script w.Pgetrf first others count h.words in
    bind_then (number_at (first ∷ others) 1) _ d (IsFormed script w.Pgetrf d) e (λ x1 t1 e1.
    bind_then (number_at (first ∷ others) 2) _ d (IsFormed script w.Pgetrf d) e1 (λ x2 t2 e2.
    bind_then (number_at (first ∷ others) 4) _ d (IsFormed script w.Pgetrf d) e2 (λ x4 t4 e4.
    bind_then (number_at (first ∷ others) 5) _ d (IsFormed script w.Pgetrf d) e4 (λ x5 t5 e5.
    subst (IsFormed script w.Pgetrf) (same_Some (c.Pgetrf x1 x2 (word_at (first ∷ others) 3) x4 x5 (word_at (first ∷ others) 6)) d e5) (record { same = refl; count = refl; names = none_or _ _ (kept 2 MatrixName refl) (none_or _ _ (kept 5 NewName refl) refl) })))))
kept_form script first others w.Pgetrs d h e =
    let count : 10 ≡ length others = sym (eqb-true (length others) 10 h.count) in
    let kept = word_kept script w.Pgetrs first others count h.words in
    bind_then (number_at (first ∷ others) 2) _ d (IsFormed script w.Pgetrs d) e (λ x2 t2 e2.
    bind_then (number_at (first ∷ others) 3) _ d (IsFormed script w.Pgetrs d) e2 (λ x3 t3 e3.
    bind_then (number_at (first ∷ others) 5) _ d (IsFormed script w.Pgetrs d) e3 (λ x5 t5 e5.
    bind_then (number_at (first ∷ others) 6) _ d (IsFormed script w.Pgetrs d) e5 (λ x6 t6 e6.
    bind_then (number_at (first ∷ others) 9) _ d (IsFormed script w.Pgetrs d) e6 (λ x9 t9 e9.
    bind_then (number_at (first ∷ others) 10) _ d (IsFormed script w.Pgetrs d) e9 (λ x10 t10 e10.
    subst (IsFormed script w.Pgetrs) (same_Some (c.Pgetrs (word_at (first ∷ others) 1) x2 x3 (word_at (first ∷ others) 4) x5 x6 (word_at (first ∷ others) 7) (word_at (first ∷ others) 8) x9 x10) d e10) (record { same = refl; count = refl; names = none_or _ _ (kept 3 MatrixName refl) (none_or _ _ (kept 6 ListName refl) (none_or _ _ (kept 7 MatrixName refl) refl)) })))))))
kept_form script first others w.Pgemr2d d h e =
    let count : 9 ≡ length others = sym (eqb-true (length others) 9 h.count) in
    let kept = word_kept script w.Pgemr2d first others count h.words in
    bind_then (number_at (first ∷ others) 1) _ d (IsFormed script w.Pgemr2d d) e (λ x1 t1 e1.
    bind_then (number_at (first ∷ others) 2) _ d (IsFormed script w.Pgemr2d d) e1 (λ x2 t2 e2.
    bind_then (number_at (first ∷ others) 4) _ d (IsFormed script w.Pgemr2d d) e2 (λ x4 t4 e4.
    bind_then (number_at (first ∷ others) 5) _ d (IsFormed script w.Pgemr2d d) e4 (λ x5 t5 e5.
    bind_then (number_at (first ∷ others) 7) _ d (IsFormed script w.Pgemr2d d) e5 (λ x7 t7 e7.
    bind_then (number_at (first ∷ others) 8) _ d (IsFormed script w.Pgemr2d d) e7 (λ x8 t8 e8.
    subst (IsFormed script w.Pgemr2d) (same_Some (c.Pgemr2d x1 x2 (word_at (first ∷ others) 3) x4 x5 (word_at (first ∷ others) 6) x7 x8 (word_at (first ∷ others) 9)) d e8) (record { same = refl; count = refl; names = none_or _ _ (kept 2 MatrixName refl) (none_or _ _ (kept 5 MatrixName refl) refl) })))))))
kept_form script first others w.Print d h e =
    let count : 1 ≡ length others = sym (eqb-true (length others) 1 h.count) in
    let kept = word_kept script w.Print first others count h.words in
    subst (IsFormed script w.Print) (same_Some (c.Print (word_at (first ∷ others) 1)) d e) (record { same = refl; count = refl; names = none_or _ _ (kept 0 MatrixName refl) refl })
kept_form script first others w.Pivots d h e =
    let count : 1 ≡ length others = sym (eqb-true (length others) 1 h.count) in
    let kept = word_kept script w.Pivots first others count h.words in
    subst (IsFormed script w.Pivots) (same_Some (c.Pivots (word_at (first ∷ others) 1)) d e) (record { same = refl; count = refl; names = none_or _ _ (kept 0 ListName refl) refl })
kept_form script first others w.Discard d h e =
    let count : 1 ≡ length others = sym (eqb-true (length others) 1 h.count) in
    let kept = word_kept script w.Discard first others count h.words in
    subst (IsFormed script w.Discard) (same_Some (c.Discard (word_at (first ∷ others) 1)) d e) (record { same = refl; count = refl; names = none_or _ _ (kept 0 ThingName refl) refl })
kept_form script first others w.Topology d h e =
    subst (IsFormed script w.Topology) (same_Some (c.Topology (word_at (first ∷ others) 1)) d e) (record { same = refl; count = refl; names = refl })
kept_form script first others w.Links d h e =
    bind_then (number_at (first ∷ others) 1) _ d (IsFormed script w.Links d) e (λ x1 t1 e1.
    subst (IsFormed script w.Links) (same_Some (c.Links x1) d e1) (record { same = refl; count = refl; names = refl }))
kept_form script first others w.Order d h e =
    bind_then (numbers_of others) _ d (IsFormed script w.Order d) e (λ ns there last.
    let some : 1 ≤ length ns = omega (arith, length-numbers_of others ns there, leb-true 1 (length others) h.count) in
    subst (IsFormed script w.Order) (same_Some (c.Order ns) d last) (record { same = refl; count = ap (λ t. first_code ((pos 2, t) ∷ [])) (le-leb 1 (length ns) some); names = refl }))
kept_form script first others w.Lose d h e =
    bind_then (number_at (first ∷ others) 1) _ d (IsFormed script w.Lose d) e (λ x1 t1 e1.
    bind_then (number_at (first ∷ others) 2) _ d (IsFormed script w.Lose d) e1 (λ x2 t2 e2.
    subst (IsFormed script w.Lose) (same_Some (c.Lose x1 x2) d e2) (record { same = refl; count = refl; names = refl })))
kept_form script first others w.Spares d h e =
    bind_then (number_at (first ∷ others) 1) _ d (IsFormed script w.Spares d) e (λ x1 t1 e1.
    subst (IsFormed script w.Spares) (same_Some (c.Spares x1) d e1) (record { same = refl; count = refl; names = refl }))
kept_form script first others w.Field d h e =
    bind_then (number_at (first ∷ others) 1) _ d (IsFormed script w.Field d) e (λ x1 t1 e1.
    subst (IsFormed script w.Field) (same_Some (c.Field x1) d e1) (record { same = refl; count = refl; names = refl }))
kept_form script first others w.Ptran d h e =
    let count : 10 ≡ length others = sym (eqb-true (length others) 10 h.count) in
    let kept = word_kept script w.Ptran first others count h.words in
    bind_then (number_at (first ∷ others) 1) _ d (IsFormed script w.Ptran d) e (λ x1 t1 e1.
    bind_then (number_at (first ∷ others) 2) _ d (IsFormed script w.Ptran d) e1 (λ x2 t2 e2.
    bind_then (number_at (first ∷ others) 3) _ d (IsFormed script w.Ptran d) e2 (λ x3 t3 e3.
    bind_then (number_at (first ∷ others) 5) _ d (IsFormed script w.Ptran d) e3 (λ x5 t5 e5.
    bind_then (number_at (first ∷ others) 6) _ d (IsFormed script w.Ptran d) e5 (λ x6 t6 e6.
    bind_then (number_at (first ∷ others) 7) _ d (IsFormed script w.Ptran d) e6 (λ x7 t7 e7.
    bind_then (number_at (first ∷ others) 9) _ d (IsFormed script w.Ptran d) e7 (λ x9 t9 e9.
    bind_then (number_at (first ∷ others) 10) _ d (IsFormed script w.Ptran d) e9 (λ x10 t10 e10.
    subst (IsFormed script w.Ptran) (same_Some (c.Ptran x1 x2 x3 (word_at (first ∷ others) 4) x5 x6 x7 (word_at (first ∷ others) 8) x9 x10) d e10) (record { same = refl; count = refl; names = none_or _ _ (kept 3 MatrixName refl) (none_or _ _ (kept 7 MatrixName refl) refl) })))))))))
kept_form script first others w.Pgetri d h e =
    let count : 8 ≡ length others = sym (eqb-true (length others) 8 h.count) in
    let kept = word_kept script w.Pgetri first others count h.words in
    bind_then (number_at (first ∷ others) 1) _ d (IsFormed script w.Pgetri d) e (λ x1 t1 e1.
    bind_then (number_at (first ∷ others) 3) _ d (IsFormed script w.Pgetri d) e1 (λ x3 t3 e3.
    bind_then (number_at (first ∷ others) 4) _ d (IsFormed script w.Pgetri d) e3 (λ x4 t4 e4.
    bind_then (number_at (first ∷ others) 7) _ d (IsFormed script w.Pgetri d) e4 (λ x7 t7 e7.
    bind_then (number_at (first ∷ others) 8) _ d (IsFormed script w.Pgetri d) e7 (λ x8 t8 e8.
    subst (IsFormed script w.Pgetri) (same_Some (c.Pgetri x1 (word_at (first ∷ others) 2) x3 x4 (word_at (first ∷ others) 5) (word_at (first ∷ others) 6) x7 x8) d e8) (record { same = refl; count = refl; names = none_or _ _ (kept 1 MatrixName refl) (none_or _ _ (kept 4 ListName refl) (none_or _ _ (kept 5 MatrixName refl) refl)) }))))))
kept_form script first others w.Flip d h e =
    let count : 4 ≡ length others = sym (eqb-true (length others) 4 h.count) in
    let kept = word_kept script w.Flip first others count h.words in
    bind_then (number_at (first ∷ others) 2) _ d (IsFormed script w.Flip d) e (λ x2 t2 e2.
    bind_then (number_at (first ∷ others) 3) _ d (IsFormed script w.Flip d) e2 (λ x3 t3 e3.
    bind_then (number_at (first ∷ others) 4) _ d (IsFormed script w.Flip d) e3 (λ x4 t4 e4.
    subst (IsFormed script w.Flip) (same_Some (c.Flip (word_at (first ∷ others) 1) x2 x3 x4) d e4) (record { same = refl; count = refl; names = none_or _ _ (kept 0 MatrixName refl) refl }))))
kept_form script first others w.Pverify d h e =
    let count : 1 ≡ length others = sym (eqb-true (length others) 1 h.count) in
    let kept = word_kept script w.Pverify first others count h.words in
    subst (IsFormed script w.Pverify) (same_Some (c.Pverify (word_at (first ∷ others) 1)) d e) (record { same = refl; count = refl; names = none_or _ _ (kept 0 MatrixName refl) refl })

-- ---- a line that breaks no rule

by_word : (script : List (Option Command)) (first : List ℕ) (others : List (List ℕ)) (o : Option CommandWord) (d : Command) → command_code script o others ≡ None → command_as o (first ∷ others) ≡ Some d →
    (w : CommandWord) × (o ≡ Some w) × IsFormed script w d
by_word script first others None d f e = absurd cc
by_word script first others (Some w) d f e = (w, refl, kept_form script first others w d (formed script w others f) e)

-- the word of a line's command, and its names and count
pub formed_command : (script : List (Option Command)) (first : List ℕ) (others : List (List ℕ)) (d : Command) → form_code_of script (first ∷ others) ≡ None → command_of (first ∷ others) ≡ Some d →
    (w : CommandWord) × (command_word first ≡ Some w) × IsFormed script w d
unfolding command_of
formed_command script first others d f e = by_word script first others (command_word first) d f e

said_kept : (told : Told) (script : List (Option Command)) (words : List (List ℕ)) (d : Command) → form_code_of script words ≡ None → rule_code told script (command_of words) ≡ None → command_of words ≡ Some d →
    broken_by told script d ≡ None
unfolding command_of rule_code broken_by
said_kept told script [] d f r e = absurd cc
said_kept told script (first ∷ others) d f r e =
    let formed = (formed_command script first others d f e).2 in
    let own : first_code (rules told (commands_of script) (suc (length script)) d) ≡ None = sym (ap (rule_code told script) e) ∙ r in
    none_or _ _ formed.count (none_or _ _ formed.names own)

answered : (told : Told) (script : List (Option Command)) (words : List (List ℕ)) (c : Option Command) → line_answer told script words ≡ Ok c → (line_code told script words ≡ None) × (command_of words ≡ c)
unfolding line_answer
answered told script words c e = by_code (line_code told script words) refl e
  where
    by_code : (o : Option ℤ) → line_code told script words ≡ o → answer_by script words o ≡ Ok c → (line_code told script words ≡ None) × (command_of words ≡ c)
    by_code None o e = (o, cc)
    by_code (Some code) o e = absurd cc

-- ---- a line that breaks no rule of its form spells a command

some_bound : {A B : Type 0} (o : Option A) (f : A → Option B) → is_some o ≡ true → ((x : A) → is_some (f x) ≡ true) → is_some (o >>= f) ≡ true
some_bound None f t h = absurd cc
some_bound (Some x) f t h = h x

some_read : {A : Type 0} (o : Option A) → is_some o ≡ true → (x : A) × (o ≡ Some x)
some_read None t = absurd cc
some_read (Some x) t = (x, refl)

number_there : (script : List (Option Command)) (w : CommandWord) (first : List ℕ) (others : List (List ℕ)) → length (kinds_of w) ≡ length others → kinds_code script w others ≡ None →
    (j : ℕ) → slice_get (kinds_of w) j ≡ Some Number → is_some (number_at (first ∷ others) (suc j)) ≡ true
number_there script w first others n e j k = (first_none (pos 3) (is_some (number_at (first ∷ others) (suc j))) [] (word_kept script w first others n e j Number k)).0

both_true : (a b : Bool) → (a && b) ≡ true → (a ≡ true) × (b ≡ true)
both_true true b e = (refl, e)
both_true false b e = absurd cc

numbers_there : (words : List (List ℕ)) → list_all is_number words ≡ true → is_some (numbers_of words) ≡ true
unfolding numbers_of
numbers_there [] t = refl
numbers_there (word ∷ words) t =
    let both = both_true (is_number word) (list_all is_number words) t in
    some_bound (number_of word) _ both.0 (λ n. some_bound (numbers_of words) _ (numbers_there words both.1) (λ ns. refl))

spelled : (script : List (Option Command)) (first : List ℕ) (others : List (List ℕ)) (w : CommandWord) → Formed script w others → is_some (command_as (Some w) (first ∷ others)) ≡ true
unfolding command_as grid_of matrix_of pgemm_of ptrsm_of pgetrf_of pgetrs_of pgemr2d_of links_of order_of lose_of spares_line_of field_of ptran_of pgetri_of flip_of
spelled script first others w.Grid h =
    let count : 4 ≡ length others = sym (eqb-true (length others) 4 h.count) in
    let number = number_there script w.Grid first others count h.words in
    some_bound _ _ (number 1 refl) (λ x1. some_bound _ _ (number 2 refl) (λ x2. some_bound _ _ (number 3 refl) (λ x3. refl)))
spelled script first others w.Matrix h =
    let count : 9 ≡ length others = sym (eqb-true (length others) 9 h.count) in
    let number = number_there script w.Matrix first others count h.words in
    some_bound _ _ (number 2 refl) (λ x2. some_bound _ _ (number 3 refl) (λ x3. some_bound _ _ (number 4 refl) (λ x4. some_bound _ _ (number 5 refl) (λ x5. some_bound _ _ (number 6 refl) (λ x6. some_bound _ _ (number 7 refl) (λ x7. refl))))))
spelled script first others w.Pgemm h =
    let count : 16 ≡ length others = sym (eqb-true (length others) 16 h.count) in
    let number = number_there script w.Pgemm first others count h.words in
    some_bound _ _ (number 2 refl) (λ x2. some_bound _ _ (number 3 refl) (λ x3. some_bound _ _ (number 4 refl) (λ x4. some_bound _ _ (number 5 refl) (λ x5. some_bound _ _ (number 7 refl) (λ x7. some_bound _ _ (number 8 refl) (λ x8. some_bound _ _ (number 10 refl) (λ x10. some_bound _ _ (number 11 refl) (λ x11. some_bound _ _ (number 12 refl) (λ x12. some_bound _ _ (number 14 refl) (λ x14. some_bound _ _ (number 15 refl) (λ x15. refl)))))))))))
spelled script first others w.Ptrsm h =
    let count : 13 ≡ length others = sym (eqb-true (length others) 13 h.count) in
    let number = number_there script w.Ptrsm first others count h.words in
    some_bound _ _ (number 4 refl) (λ x4. some_bound _ _ (number 5 refl) (λ x5. some_bound _ _ (number 6 refl) (λ x6. some_bound _ _ (number 8 refl) (λ x8. some_bound _ _ (number 9 refl) (λ x9. some_bound _ _ (number 11 refl) (λ x11. some_bound _ _ (number 12 refl) (λ x12. refl)))))))
spelled script first others w.Pgetrf h =
    let count : 6 ≡ length others = sym (eqb-true (length others) 6 h.count) in
    let number = number_there script w.Pgetrf first others count h.words in
    some_bound _ _ (number 0 refl) (λ x0. some_bound _ _ (number 1 refl) (λ x1. some_bound _ _ (number 3 refl) (λ x3. some_bound _ _ (number 4 refl) (λ x4. refl))))
spelled script first others w.Pgetrs h =
    let count : 10 ≡ length others = sym (eqb-true (length others) 10 h.count) in
    let number = number_there script w.Pgetrs first others count h.words in
    some_bound _ _ (number 1 refl) (λ x1. some_bound _ _ (number 2 refl) (λ x2. some_bound _ _ (number 4 refl) (λ x4. some_bound _ _ (number 5 refl) (λ x5. some_bound _ _ (number 8 refl) (λ x8. some_bound _ _ (number 9 refl) (λ x9. refl))))))
spelled script first others w.Pgemr2d h =
    let count : 9 ≡ length others = sym (eqb-true (length others) 9 h.count) in
    let number = number_there script w.Pgemr2d first others count h.words in
    some_bound _ _ (number 0 refl) (λ x0. some_bound _ _ (number 1 refl) (λ x1. some_bound _ _ (number 3 refl) (λ x3. some_bound _ _ (number 4 refl) (λ x4. some_bound _ _ (number 6 refl) (λ x6. some_bound _ _ (number 7 refl) (λ x7. refl))))))
spelled script first others w.Print h = refl
spelled script first others w.Pivots h = refl
spelled script first others w.Discard h = refl
spelled script first others w.Topology h = refl
spelled script first others w.Links h =
    let count : 1 ≡ length others = sym (eqb-true (length others) 1 h.count) in
    let number = number_there script w.Links first others count h.words in
    some_bound _ _ (number 0 refl) (λ x0. refl)
spelled script first others w.Order h = some_bound (numbers_of others) _ (numbers_there others (first_none (pos 3) (list_all is_number others) [] h.more).0) (λ numbers. refl)
spelled script first others w.Lose h =
    let count : 2 ≡ length others = sym (eqb-true (length others) 2 h.count) in
    let number = number_there script w.Lose first others count h.words in
    some_bound _ _ (number 0 refl) (λ x0. some_bound _ _ (number 1 refl) (λ x1. refl))
spelled script first others w.Spares h =
    let count : 1 ≡ length others = sym (eqb-true (length others) 1 h.count) in
    let number = number_there script w.Spares first others count h.words in
    some_bound _ _ (number 0 refl) (λ x0. refl)
spelled script first others w.Field h =
    let count : 1 ≡ length others = sym (eqb-true (length others) 1 h.count) in
    let number = number_there script w.Field first others count h.words in
    some_bound _ _ (number 0 refl) (λ x0. refl)
spelled script first others w.Ptran h =
    let count : 10 ≡ length others = sym (eqb-true (length others) 10 h.count) in
    let number = number_there script w.Ptran first others count h.words in
    some_bound _ _ (number 0 refl) (λ x0. some_bound _ _ (number 1 refl) (λ x1. some_bound _ _ (number 2 refl) (λ x2. some_bound _ _ (number 4 refl) (λ x4. some_bound _ _ (number 5 refl) (λ x5. some_bound _ _ (number 6 refl) (λ x6. some_bound _ _ (number 8 refl) (λ x8. some_bound _ _ (number 9 refl) (λ x9. refl))))))))
spelled script first others w.Pgetri h =
    let count : 8 ≡ length others = sym (eqb-true (length others) 8 h.count) in
    let number = number_there script w.Pgetri first others count h.words in
    some_bound _ _ (number 0 refl) (λ x0. some_bound _ _ (number 2 refl) (λ x2. some_bound _ _ (number 3 refl) (λ x3. some_bound _ _ (number 6 refl) (λ x6. some_bound _ _ (number 7 refl) (λ x7. refl)))))
spelled script first others w.Flip h =
    let count : 4 ≡ length others = sym (eqb-true (length others) 4 h.count) in
    let number = number_there script w.Flip first others count h.words in
    some_bound _ _ (number 1 refl) (λ x1. some_bound _ _ (number 2 refl) (λ x2. some_bound _ _ (number 3 refl) (λ x3. refl)))
spelled script first others w.Pverify h = refl

spelled_by : (script : List (Option Command)) (first : List ℕ) (others : List (List ℕ)) (o : Option CommandWord) → command_code script o others ≡ None → is_some (command_as o (first ∷ others)) ≡ true
spelled_by script first others None e = absurd cc
spelled_by script first others (Some w) e = spelled script first others w (formed script w others e)

-- a line with words that breaks no rule of its form is a command
pub command_spelled : (script : List (Option Command)) (first : List ℕ) (others : List (List ℕ)) → form_code_of script (first ∷ others) ≡ None → (c : Command) × (command_of (first ∷ others) ≡ Some c)
unfolding command_of
command_spelled script first others e = some_read (command_as (command_word first) (first ∷ others)) (spelled_by script first others (command_word first) e)

-- ---- the answer of a line by its tests

answer_as : (told : Told) (script : List (Option Command)) (words : List (List ℕ)) (o : Option ℤ) → line_code told script words ≡ o → line_answer told script words ≡ answer_by script words o
unfolding line_answer
answer_as told script words o e = ap (answer_by script words) e

-- its form breaks a rule
pub answer-form : (told : Told) (script : List (Option Command)) (words : List (List ℕ)) (code : ℤ) → form_code script words ≡ Some code → line_answer told script words ≡ Err (refused (suc (length script)) code)
unfolding line_code
answer-form told script words code f = answer_as told script words (Some code) (ap (λ o. option_or o (rule_code told script (command_of words))) f)

code_of : (told : Told) (script : List (Option Command)) (words : List (List ℕ)) (c : Option Command) → form_code script words ≡ None → command_of words ≡ c → line_code told script words ≡ rule_code told script c
unfolding line_code
code_of told script words c f e = ap (λ o. option_or o (rule_code told script (command_of words))) f ∙ ap (rule_code told script) e

-- its command breaks a rule
pub answer-rule : (told : Told) (script : List (Option Command)) (words : List (List ℕ)) (c : Command) (code : ℤ) → form_code script words ≡ None → command_of words ≡ Some c →
    first_code (rules told (commands_of script) (suc (length script)) c) ≡ Some code → line_answer told script words ≡ Err (refused (suc (length script)) code)
unfolding rule_code
answer-rule told script words c code f e r = answer_as told script words (Some code) (code_of told script words (Some c) f e ∙ r)

-- it has no words
pub answer-none : (told : Told) (script : List (Option Command)) (words : List (List ℕ)) → form_code script words ≡ None → command_of words ≡ None → line_answer told script words ≡ Ok None
unfolding rule_code
answer-none told script words f e = answer_as told script words None (code_of told script words None f e) ∙ ap (λ (c : Option Command). Ok c) e

-- it breaks no rule
pub answer-some : (told : Told) (script : List (Option Command)) (words : List (List ℕ)) (c : Command) → form_code script words ≡ None → command_of words ≡ Some c →
    first_code (rules told (commands_of script) (suc (length script)) c) ≡ None → line_answer told script words ≡ Ok (Some c)
unfolding rule_code
answer-some told script words c f e r = answer_as told script words None (code_of told script words (Some c) f e ∙ r) ∙ ap (λ (x : Option Command). Ok x) e

-- what a line that is read says
pub record Said (told : Told) (script : List (Option Command)) (words : List (List ℕ)) (c : Option Command) : Type 0 where
  pub few : nat_lt (length script) line_limit ≡ true
  pub form : form_code_of script words ≡ None
  pub rule : rule_code told script c ≡ None
  pub command : command_of words ≡ c

pub Said-from_line_answer : (told : Told) (script : List (Option Command)) (words : List (List ℕ)) (c : Option Command) → line_answer told script words ≡ Ok c → Said told script words c
unfolding line_code form_code
Said-from_line_answer told script words c e =
    let a = answered told script words c e in
    let parts = or_none (form_code script words) (rule_code told script (command_of words)) a.0 in
    let form = or_none (first_code ((pos 11, nat_lt (length script) line_limit) ∷ [])) (form_code_of script words) parts.0 in
    record {
      few = (first_none (pos 11) (nat_lt (length script) line_limit) [] form.0).0;
      form = form.1;
      rule = sym (ap (rule_code told script) a.1) ∙ parts.1;
      command = a.1;
    }

-- a script none of whose lines breaks a rule, where the whole script tells `told`
pub record KeepsRulesOf (told : Told) (script : List (Option Command)) : Type 0 where
  pub few : length script ≤ line_limit
  pub kept : (i : ℕ) (c : Command) → slice_get script i ≡ Some (Some c) → broken_by told (take i script) c ≡ None

-- one more line, whose command breaks no rule after them
pub KeepsRulesOf-more : (told : Told) (front : List (Option Command)) (c : Option Command) → KeepsRulesOf told front → length front < line_limit → ((d : Command) → c ≡ Some d → broken_by told front d ≡ None) →
    KeepsRulesOf told (front ++ c ∷ [])
KeepsRulesOf-more told front c h lt own = record {
  few = omega (arith, length-more front c);
  kept = λ i d e. elim (cases_lt i (length front)) [
    | inl lt ↦ subst (λ s. broken_by told s d ≡ None) (sym (take-append-le i front (c ∷ []) (omega arith))) (h.kept i d (sym (slice_get-front front c i lt) ∙ e))
    | inr ge ↦
        let within : i < length (front ++ c ∷ []) = slice_get_within (front ++ c ∷ []) i (Some d) e in
        let here : i ≡ length front = omega (arith, length-more front c) in
        let same : c ≡ Some d = same_Some c (Some d) (sym (slice_get-last front c) ∙ ap (slice_get (front ++ c ∷ [])) (sym here) ∙ e) in
        let whole : take i (front ++ c ∷ []) ≡ front = ap (λ k. take k (front ++ c ∷ [])) here ∙ take-front front c in
        subst (λ s. broken_by told s d ≡ None) (sym whole) (own d same)
  ];
}

KeepsRulesOf-next : (told : Told) (front : List (Option Command)) (words : List (List ℕ)) (c : Option Command) → KeepsRulesOf told front → Said told front words c → KeepsRulesOf told (front ++ c ∷ [])
KeepsRulesOf-next told front words c h said =
    KeepsRulesOf-more told front c h (ltb-true (length front) line_limit said.few)
    (λ d same. said_kept told front words d said.form (ap (rule_code told front) said.command ∙ said.rule) (said.command ∙ same))

pub KeepsRulesOf-none : (told : Told) → KeepsRulesOf told []
KeepsRulesOf-none told = record { few = omega arith; kept = λ i c e. absurd cc }

-- what holds of no lines, and of one more line that is read, holds of the script that lines are
pub read_lines_of : (told : Told) (P : List (Option Command) → List (List (List ℕ)) → Type 0) (script : List (Option Command)) →
    ((front : List (Option Command)) (words : List (List ℕ)) (lines : List (List (List ℕ))) (c : Option Command) → Said told front words c → P front (words ∷ lines) → P (front ++ c ∷ []) lines) →
    (front : List (Option Command)) (lines : List (List (List ℕ))) → P front lines → script_after told front lines ≡ Ok script → P script []
unfolding script_after
read_lines_of told P script next front [] h e = let same : front ≡ script = cc in subst (λ s. P s []) same h
read_lines_of told P script next front (words ∷ lines) h e = by_answer (λ c. read_lines_of told P script next (front ++ c ∷ []) lines) (line_answer told front words) refl e
  where
    by_answer : ((c : Option Command) → P (front ++ c ∷ []) lines → script_after told (front ++ c ∷ []) lines ≡ Ok script → P script []) →
        (a : Result (Option Command) Refused) → line_answer told front words ≡ a → and_then a (λ c. script_after told (front ++ c ∷ []) lines) ≡ Ok script → P script []
    by_answer rest (Err r) a e = absurd cc
    by_answer rest (Ok c) a e = rest c (next front words lines c (Said-from_line_answer told front words c a) h) e

-- a script that is read keeps the rules
pub KeepsRulesOf-from_script_after : (told : Told) (lines : List (List (List ℕ))) (script : List (Option Command)) → script_after told [] lines ≡ Ok script → KeepsRulesOf told script
KeepsRulesOf-from_script_after told lines script e =
    read_lines_of told (λ front rest. KeepsRulesOf told front) script (λ front words rest c said h. KeepsRulesOf-next told front words c h said) [] lines (KeepsRulesOf-none told) e

-- ---- the bound

pub read-all : (bytes : List ℕ) (script : List (Option Command)) → script_after (told_by (word_lines bytes)) [] (word_lines bytes) ≡ Ok script → bound (commands_of script) ≤ record_limit → script_of bytes ≡ Ok script
unfolding script_of bounded
read-all bytes script e le =
    let test : leb (bound (commands_of script)) record_limit ≡ true = grind (arith, nat_tests) in
    ap (λ a. and_then a bounded) e ∙ ap (λ t. cond t (Ok script) (Err (refused 0 (pos 7)))) test

pub read-above : (bytes : List ℕ) (script : List (Option Command)) → script_after (told_by (word_lines bytes)) [] (word_lines bytes) ≡ Ok script → record_limit < bound (commands_of script) → script_of bytes ≡ Err (refused 0 (pos 7))
unfolding script_of bounded
read-above bytes script e lt =
    let test : leb (bound (commands_of script)) record_limit ≡ false = grind (arith, nat_tests) in
    ap (λ a. and_then a bounded) e ∙ ap (λ t. cond t (Ok script) (Err (refused 0 (pos 7)))) test

pub read-refused : (bytes : List ℕ) (r : Refused) → script_after (told_by (word_lines bytes)) [] (word_lines bytes) ≡ Err r → script_of bytes ≡ Err r
unfolding script_of
read-refused bytes r e = ap (λ a. and_then a bounded) e
