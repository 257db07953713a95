-- Takes of later lines change nothing that was printed.
use Rattle.std.proofs.Common.{◌≡◌, ℕ, ◌<◌, ◌≤◌, ◌==◌, ◌&&◌, Bool, true, false, List, [], ◌∷◌, ◌++◌, None, refl, sym, ap, subst, ◌∙◌, ⊎_elim, arith, All}
use Rattle.std.specs.Prelude.{if◌then◌else◌, nat_le, codes}
use Rattle.std.proofs.lemmas.List.Elements.{All-head, All-tail, All-nil, All-cons}
use Rattle.std.proofs.lemmas.List.Sums.{sum_by-append, sum_by-cons}
use Rattle.field_core.specs.Sums.{sum_to}
use Rattle.std.proofs.lemmas.Bool.{cases_Bool, false_from_ne_true, and_parts, eqb-true, leb-true}
use Rattle.run_data.specs.declared.command.Command.{Command}
use Rattle.run_data.specs.declared.command.Command.TheVariants as c
use Rattle.run_data.specs.Script.{Numbered}
use Rattle.rank_machine.specs.declared.slot.SlotKind.TheVariants.{Pivots, Work}
use Rattle.rank_machine.specs.Setting.{Setting, layout}
use Rattle.rank_machine.specs.Scripts.{line_meant}
use Rattle.rank_machine.specs.State.{Took, same_kind, or_else}
use Rattle.rank_machine.specs.Printed.{last_take}
use Rattle.whole_run.specs.PrintedFrom.{IsMatrixText, IsPivotsText, IsInfoText, IsWrongText, IsTextOf, ArePrinted, sum_where, nonzero_in, is_difference}
use Rattle.serial_model.specs.Serial.{up_to}
use Rattle.serial_model.specs.Text.{wrong_text}

abbrev pub AreLater : ℕ → List Took → Type 0
AreLater line more = All (λ t. line < t.line) more

-- a test that only takes of a line pass
abbrev IsOfLine : ℕ → (Took → Bool) → Type 0
IsOfLine line test = (t : Took) → test t ≡ true → t.line ≡ line

last_none : (line : ℕ) (more : List Took) (test : Took → Bool) → IsOfLine line test → AreLater line more → last_take more test ≡ None
last_none line [] test of h = refl
last_none line (t ∷ ts) test of h =
    let past : test t ≡ false = false_from_ne_true (test t) (λ e. omega (arith, of t e, All-head (λ (t : Took). line < t.line) t ts h)) in
    rw (last_none line ts test of (All-tail (λ (t : Took). line < t.line) t ts h), past) refl

last_more : (taken more : List Took) (test : Took → Bool) → last_take more test ≡ None → last_take (taken ++ more) test ≡ last_take taken test
last_more [] more test e = e
last_more (t ∷ ts) more test e = ap (λ o. or_else o (if test t then t.tile else None)) (last_more ts more test e)

last_later : (line : ℕ) (taken more : List Took) (test : Took → Bool) → IsOfLine line test → AreLater line more → last_take (taken ++ more) test ≡ last_take taken test
last_later line taken more test of h = last_more taken more test (last_none line more test of h)

of_one : (line : ℕ) (other : Took → Bool) → IsOfLine line (λ t. (t.line == line) && other t)
of_one line other t e = eqb-true t.line line (and_parts (t.line == line) (other t) e).0

of_two : (line : ℕ) (other another : Took → Bool) → IsOfLine line (λ t. ((t.line == line) && other t) && another t)
of_two line other another t e = of_one line other t (and_parts ((t.line == line) && other t) (another t) e).0

info_later : (line : ℕ) (taken more : List Took) (command name text : List ℕ) → AreLater line more → IsInfoText taken line command name text → IsInfoText (taken ++ more) line command name text
info_later line taken more command name text h i = record {
  info = i.info;
  taken_is = (i.taken_is.0, last_later line taken more (λ t. (t.line == line) && same_kind t.slot.kind Work) (of_one line (λ t. same_kind t.slot.kind Work)) h ∙ i.taken_is.1, i.taken_is.2);
  text_is = i.text_is;
}

pivots_later : (line what : ℕ) (taken more : List Took) (name text : List ℕ) → AreLater line more → IsPivotsText taken line what name text → IsPivotsText (taken ++ more) line what name text
pivots_later line what taken more name text h p = record {
  numbers = p.numbers;
  taken_are = last_later line taken more (λ t. (t.line == line) && (same_kind t.slot.kind Pivots && (t.slot.id == what))) (of_one line (λ t. same_kind t.slot.kind Pivots && (t.slot.id == what))) h ∙ p.taken_are;
  text_is = p.text_is;
}

matrix_later : (s : Setting) (line : ℕ) (taken more : List Took) (name text : List ℕ) → AreLater line more → IsMatrixText s taken line name text → IsMatrixText s (taken ++ more) line name text
matrix_later s line taken more name text h p = record {
  matrix = p.matrix;
  printed = record {
    rows = p.printed.rows;
    columns = p.printed.columns;
    entries = λ i j a b. let e = p.printed.entries i j a b in (e.0, last_later line taken more _ (of_two line _ _) h ∙ e.1, e.2, e.3, e.4);
  };
  text_is = p.text_is;
}

sum_none : (line : ℕ) (more : List Took) (test : Took → Bool) (f : Took → ℕ) → IsOfLine line test → AreLater line more → sum_where more test f ≡ 0
sum_none line [] test f of h = refl
sum_none line (t ∷ ts) test f of h =
    let past : test t ≡ false = false_from_ne_true (test t) (λ e. omega (arith, of t e, All-head (λ (t : Took). line < t.line) t ts h)) in
    let here : (if test t then f t else 0) ≡ 0 = ap (λ b. if b then f t else 0) past in
    let rest : sum_where ts test f ≡ 0 = sum_none line ts test f of (All-tail (λ (t : Took). line < t.line) t ts h) in
    omega (arith, sum_by-cons (λ (t : Took). if test t then f t else 0) t ts, here, rest)

sum_later : (line : ℕ) (taken more : List Took) (test : Took → Bool) (f : Took → ℕ) → IsOfLine line test → AreLater line more → sum_where (taken ++ more) test f ≡ sum_where taken test f
sum_later line taken more test f of h = omega (arith, sum_by-append (λ (t : Took). if test t then f t else 0) taken more, sum_none line more test f of h)

wrong_later : (s : Setting) (line what : ℕ) (taken more : List Took) (name text : List ℕ) → AreLater line more → IsWrongText s taken line what name text → IsWrongText s (taken ++ more) line what name text
wrong_later s line what taken more name text h p = record {
  one_each = λ row lt. stays row (λ t. 1) ∙ p.one_each row lt;
  text_is = p.text_is ∙ ap (wrong_text name) (sym (λ i. sum_to (layout s what).grid.p (λ row. stays row (λ t. nonzero_in t.tile) i)));
}
  where
    stays : (row : ℕ) (f : Took → ℕ) → sum_where (taken ++ more) (is_difference line (layout s what).grid row) f ≡ sum_where taken (is_difference line (layout s what).grid row) f
    stays row f = sum_later line taken more (is_difference line (layout s what).grid row) f (of_two line _ _) h

one_later : (s : Setting) (ns : List Numbered) (taken more : List Took) (line : ℕ) (x : Command) (text : List ℕ) → AreLater line more → IsTextOf s ns taken line x text → IsTextOf s ns (taken ++ more) line x text
one_later s ns taken more line (c.Print name) text h p = matrix_later s line taken more name text h p
one_later s ns taken more line (c.Pivots name) text h p = pivots_later line (line_meant ns line 1) taken more name text h p
one_later s ns taken more line (c.Ptrsm side uplo transa diag m n alpha a ia ja b ib jb) text h p = info_later line taken more (codes "ptrsm") b text h p
one_later s ns taken more line (c.Pgetrf m n a ia ja v) text h p = info_later line taken more (codes "pgetrf") a text h p
one_later s ns taken more line (c.Pgetrs trans n nrhs a ia ja v b ib jb) text h p = info_later line taken more (codes "pgetrs") b text h p
one_later s ns taken more line (c.Pgemm transa transb m n k alpha a ia ja b ib jb beta x ic jc) text h p = p
one_later s ns taken more line (c.Matrix name grid m n mb nb rsrc csrc file) text h p = p
one_later s ns taken more line (c.Pgemr2d m n a ia ja b ib jb ctxt) text h p = p
one_later s ns taken more line (c.Discard name) text h p = p
one_later s ns taken more line (c.Grid name p q f) text h e = e
one_later s ns taken more line (c.Topology kind) text h p = p
one_later s ns taken more line (c.Links n) text h p = p
one_later s ns taken more line (c.Order numbers) text h p = p
one_later s ns taken more line (c.Lose at rank) text h p = p
one_later s ns taken more line (c.Spares n) text h p = p
one_later s ns taken more line (c.Field n) text h p = p
one_later s ns taken more line (c.Ptran m n alpha a ia ja beta x ic jc) text h p = p
one_later s ns taken more line (c.Pgetri n a ia ja v b ib jb) text h p = info_later line taken more (codes "pgetri") b text h p
one_later s ns taken more line (c.Flip name i j x) text h p = p
one_later s ns taken more line (c.Pverify name) text h p = wrong_later s line (line_meant ns line 1) taken more name text h p

later_still : (line at : ℕ) (more : List Took) → at ≤ line → AreLater line more → AreLater at more
later_still line at [] le h = All-nil (λ (t : Took). at < t.line)
later_still line at (t ∷ ts) le h = All-cons (λ (t : Took). at < t.line) t ts (omega (arith, le, All-head (λ (t : Took). line < t.line) t ts h)) (later_still line at ts le (All-tail (λ (t : Took). line < t.line) t ts h))

-- what the lines up to one printed stays where takes of later lines count too
pub printed-later : (s : Setting) (ns : List Numbered) (taken more : List Took) (line : ℕ) (xs : List Numbered) (text : List ℕ) → AreLater line more → ArePrinted s ns taken (up_to line xs) text → ArePrinted s ns (taken ++ more) (up_to line xs) text
printed-later s ns taken more line [] text h p = p
printed-later s ns taken more line (n ∷ xs) text h p =
    ⊎_elim
    (λ (here : nat_le n.line line ≡ true).
    let q : ArePrinted s ns taken (n ∷ up_to line xs) text = subst (λ b. ArePrinted s ns taken (if b then n ∷ up_to line xs else up_to line xs) text) here p in
    rw here (q.0, q.1, one_later s ns taken more n.line n.command q.0 (later_still line n.line more (leb-true n.line line here) h) q.2, printed-later s ns taken more line xs q.1 h q.3, q.4))
    (λ (past : nat_le n.line line ≡ false). rw past (printed-later s ns taken more line xs text h (subst (λ b. ArePrinted s ns taken (if b then n ∷ up_to line xs else up_to line xs) text) past p)))
    (cases_Bool (nat_le n.line line))
