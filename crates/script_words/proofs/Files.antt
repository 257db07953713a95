-- The lines of a matrix file one after another.
use Rattle.std.proofs.Common.{◌≡◌, ℕ, suc, ◌+◌, ◌<◌, ◌≤◌, Bool, true, false, cond, ltb, List, [], ◌∷◌, length, drop, Option, Some, None, Ok, Err, refl, sym, ap, ◌∙◌, arith, inl, inr}
use Rattle.std.specs.Prelude.{ℤ}
use Rattle.std.proofs.lemmas.Bool.Decides.{nat_tests}
use Rattle.run_data.specs.Matrix.{Matrix, cols, tabulate}
use Rattle.script_words.specs.declared.fault.Refused.{Refused}
use Rattle.script_words.specs.Lines.{until, from_on, is_line_feed, has_items, line_words, word_lines}
use Rattle.script_words.specs.Tables.{first_code}
use Rattle.script_words.specs.MatrixFile.{row_rules, by_code, too_few, refused_after, rows_of, number_in, IsRead, IsBroken, matrix_or, matrix_of}
use Rattle.script_words.proofs.Cuts.{word_lines-cut, word_lines-end}
use Rattle.script_words.proofs.Rows.{rows_of-cut, rows_of-none}
use Rattle.script_words.proofs.Filling.{drop_tail, rows_done, rows-rows_done, cols-rows_done, rows_more, rows_end, rows_start}

refused_cut : (p file m n i line : ℕ) (text front after next : List ℕ) (words : List (List ℕ)) (some : Bool) (code : Option ℤ) → 0 < length text → front ≡ until is_line_feed text → after ≡ from_on is_line_feed text → next ≡ drop 1 after →
    words ≡ line_words front → has_items words ≡ some → first_code (row_rules p m n i words) ≡ code →
    refused_after p file m n i line (word_lines text) ≡ cond some (by_code file line code (refused_after p file m n (suc i) (suc line) (word_lines next))) (refused_after p file m n i (suc line) (word_lines next))
refused_cut p file m n i line text front after next words some code lt f a x w s e =
    ap (refused_after p file m n i line) (word_lines-cut text front after next lt f a x ∙ ap (λ ws. ws ∷ word_lines next) (sym w))
    ∙ ap (λ t. cond t (by_code file line (first_code (row_rules p m n i words)) (refused_after p file m n (suc i) (suc line) (word_lines next))) (refused_after p file m n i (suc line) (word_lines next))) s
    ∙ ap (λ o. cond some (by_code file line o (refused_after p file m n (suc i) (suc line) (word_lines next))) (refused_after p file m n i (suc line) (word_lines next))) e

-- what was read of a file after so many lines: a matrix with so many rows
pub record IsReading (p file m n : ℕ) (bytes : List ℕ) (a : Matrix) (i line : ℕ) (rest : List ℕ) : Type 0 where
  pub refused : refused_after p file m n i (suc line) (word_lines rest) ≡ refused_after p file m n 0 1 (word_lines bytes)
  pub matrix : a ≡ rows_done p m n (rows_of bytes) i
  pub rows : drop i (rows_of bytes) ≡ rows_of rest
  pub lines : line + length rest ≤ length bytes
  pub few : i ≤ m

pub reading_start : (p file m n : ℕ) (bytes : List ℕ) (a : Matrix) → a ≡ tabulate m n (λ i j. 0) → IsReading p file m n bytes a 0 0 bytes
reading_start p file m n bytes a e = record { refused = refl; matrix = e ∙ rows_start p m n (rows_of bytes); rows = refl; lines = omega arith; few = omega arith }

pub reading_more : (p file m n : ℕ) (bytes : List ℕ) (a b : Matrix) (i more line : ℕ) (text front after next : List ℕ) (words : List (List ℕ)) → 0 < length text → front ≡ until is_line_feed text → after ≡ from_on is_line_feed text → next ≡ drop 1 after →
    words ≡ line_words front → length next + 1 ≤ length text → IsRead p a b i more words → IsReading p file m n bytes a i line text → IsReading p file m n bytes b more (line + 1) next
reading_more p file m n bytes a b i more line text front after next words lt f x y w shorter (inl blank) h =
    let k : suc (line + 1) ≡ suc (suc line) = omega arith in
    let cut = refused_cut p file m n i (suc line) text front after next words false _ lt f x y w blank.0 refl in
    record {
      refused = ap (λ j. refused_after p file m n j (suc (line + 1)) (word_lines next)) blank.2 ∙ ap (λ l. refused_after p file m n i l (word_lines next)) k ∙ sym cut ∙ h.refused;
      matrix = blank.1 ∙ h.matrix ∙ ap (rows_done p m n (rows_of bytes)) (sym blank.2);
      rows = ap (λ j. drop j (rows_of bytes)) blank.2 ∙ h.rows ∙ rows_of-none text front after next words lt f x y w blank.0;
      lines = omega (arith, h.lines, shorter);
      few = omega (arith, h.few, blank.2);
    }
reading_more p file m n bytes a b i more line text front after next words lt f x y w shorter (inr row) h =
    let k : suc (line + 1) ≡ suc (suc line) = omega arith in
    let height : a.rows ≡ m = ap (λ c. c.rows) h.matrix ∙ rows-rows_done p m n (rows_of bytes) i in
    let width : cols a ≡ n = ap cols h.matrix ∙ cols-rows_done p m n (rows_of bytes) i in
    let kept : first_code (row_rules p m n i words) ≡ None = ap (λ (q : ℕ × ℕ). first_code (row_rules p q.0 q.1 i words)) (sym (λ t. (height t, width t))) ∙ row.2 in
    let cut = refused_cut p file m n i (suc line) text front after next words true None lt f x y w row.0 kept in
    let there = h.rows ∙ rows_of-cut text front after next words lt f x y w row.0 in
    let tail = drop_tail (rows_of bytes) i words [] (rows_of next) there in
    record {
      refused = ap (λ j. refused_after p file m n j (suc (line + 1)) (word_lines next)) row.4 ∙ ap (λ l. refused_after p file m n (suc i) l (word_lines next)) k ∙ sym cut ∙ h.refused;
      matrix = rows_more p m n i (rows_of bytes) a b words h.matrix tail.1 row.3 ∙ ap (rows_done p m n (rows_of bytes)) (sym row.4);
      rows = ap (λ j. drop j (rows_of bytes)) row.4 ∙ tail.0;
      lines = omega (arith, h.lines, shorter);
      few = omega (arith, row.1, height, row.4);
    }

pub reading_stops : (p file m n : ℕ) (bytes : List ℕ) (a : Matrix) (i line : ℕ) (text front after : List ℕ) (words : List (List ℕ)) (code : ℤ) → 0 < length text → front ≡ until is_line_feed text → after ≡ from_on is_line_feed text →
    words ≡ line_words front → IsBroken p a i words code → IsReading p file m n bytes a i line text → refused_after p file m n 0 1 (word_lines bytes) ≡ Some (record { file = file; line = line + 1; code = code })
reading_stops p file m n bytes a i line text front after words code lt f x w broken h =
    let k : suc line ≡ line + 1 = omega arith in
    let height : a.rows ≡ m = ap (λ c. c.rows) h.matrix ∙ rows-rows_done p m n (rows_of bytes) i in
    let width : cols a ≡ n = ap cols h.matrix ∙ cols-rows_done p m n (rows_of bytes) i in
    let first : first_code (row_rules p m n i words) ≡ Some code = ap (λ (q : ℕ × ℕ). first_code (row_rules p q.0 q.1 i words)) (sym (λ t. (height t, width t))) ∙ broken.1 in
    let cut = refused_cut p file m n i (suc line) text front after (drop 1 after) words true (Some code) lt f x refl w broken.0 first in
    sym h.refused ∙ cut ∙ ap (λ l. Some (record { file = file; line = l; code = code })) k

at_end : (p file m n i line : ℕ) (text : List ℕ) (t : Bool) → length text ≡ 0 → ltb i m ≡ t → refused_after p file m n i line (word_lines text) ≡ cond t (Some (too_few file)) None
at_end p file m n i line text t e lt = ap (refused_after p file m n i line) (word_lines-end text e) ∙ ap (λ b. cond b (Some (too_few file)) None) lt

pub reading_few : (p file m n : ℕ) (bytes : List ℕ) (a : Matrix) (i line : ℕ) (text : List ℕ) → length text ≡ 0 → i < m → IsReading p file m n bytes a i line text → refused_after p file m n 0 1 (word_lines bytes) ≡ Some (too_few file)
reading_few p file m n bytes a i line text e lt h = let t : ltb i m ≡ true = grind (arith, nat_tests) in sym h.refused ∙ at_end p file m n i (suc line) text true e t

pub reading_ends : (p file m n : ℕ) (bytes : List ℕ) (a : Matrix) (i line : ℕ) (text : List ℕ) → length text ≡ 0 → m ≤ i → IsReading p file m n bytes a i line text →
    (refused_after p file m n 0 1 (word_lines bytes) ≡ None) × (a ≡ tabulate m n (number_in p (rows_of bytes)))
reading_ends p file m n bytes a i line text e le h =
    let t : ltb i m ≡ false = grind (arith, nat_tests) in
    (sym h.refused ∙ at_end p file m n i (suc line) text false e t, rows_end p m n i (rows_of bytes) a h.matrix le)

-- ---- the answer

pub read-refused : (p : ℕ) (bytes : List ℕ) (file m n : ℕ) (r : Refused) → refused_after p file m n 0 1 (word_lines bytes) ≡ Some r → matrix_of p bytes file m n ≡ Err r
unfolding matrix_of
read-refused p bytes file m n r e = ap (λ o. matrix_or o (tabulate m n (number_in p (rows_of bytes)))) e

pub read-matrix : (p : ℕ) (bytes : List ℕ) (file m n : ℕ) (a : Matrix) → (refused_after p file m n 0 1 (word_lines bytes) ≡ None) × (a ≡ tabulate m n (number_in p (rows_of bytes))) → matrix_of p bytes file m n ≡ Ok a
unfolding matrix_of
read-matrix p bytes file m n a h = ap (λ o. matrix_or o (tabulate m n (number_in p (rows_of bytes)))) h.0 ∙ ap (λ (x : Matrix). Ok x) (sym h.1)
