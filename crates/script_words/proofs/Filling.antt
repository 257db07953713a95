-- The rows of a matrix written one word after another.
use Rattle.std.proofs.Common.{◌≡◌, ℕ, zero, suc, ◌+◌, ◌<◌, ◌≤◌, ◌==◌, ◌&&◌, nat_lt, Bool, true, false, if◌then◌else◌, List, [], ◌∷◌, length, get_or, drop, refl, sym, ap, ◌∙◌, arith, subst, ltb, eqb}
use Rattle.std.specs.List.{list_all}
use Rattle.std.proofs.Math.Seq.{drop-cons}
use Rattle.std.proofs.lemmas.Bool.Decides.{nat_tests}
use Rattle.run_data.specs.Matrix.{Matrix, cols, entry, IsShaped, tabulate, with_entry, zero_matrix}
use Rattle.std.proofs.lemmas.Bool.{ltb-true}
use Rattle.run_data.proofs.PartLaws.{AreWords-tabulate}
use Rattle.run_data.proofs.Matrices.{rows-tabulate, cols-tabulate, entry-tabulate, IsShaped-tabulate, tabulate_is, tabulate-same}
use Rattle.std.specs.Prelude.{Option, Some, None, pos}
use Rattle.script_words.specs.Numbers.{number_of}
use Rattle.script_words.specs.Tables.{first_code}
use Rattle.script_words.specs.MatrixFile.{row_rules, is_residue_word, residue_or_zero, row_number, with_row, number_in, HasResidues}

-- ---- one row

-- the matrix with the first j numbers of a row written into row i
unfoldable pub row_done : ℕ → Matrix → ℕ → List (List ℕ) → ℕ → Matrix
row_done p a i words j = tabulate a.rows (cols a) (λ r c. if (r == i) && nat_lt c j then row_number p words c else entry a r c)

pub rows-row_done : (p : ℕ) (a : Matrix) (i : ℕ) (words : List (List ℕ)) (j : ℕ) → (row_done p a i words j).rows ≡ a.rows
unfolding row_done
rows-row_done p a i words j = rows-tabulate a.rows (cols a) (λ r c. if (r == i) && nat_lt c j then row_number p words c else entry a r c)

pub cols-row_done : (p : ℕ) (a : Matrix) (i : ℕ) (words : List (List ℕ)) (j : ℕ) → cols (row_done p a i words j) ≡ cols a
unfolding row_done
cols-row_done p a i words j = cols-tabulate a.rows (cols a) (λ r c. if (r == i) && nat_lt c j then row_number p words c else entry a r c)

none_written : (r i c x e : ℕ) → e ≡ (if (r == i) && nat_lt c 0 then x else e)
none_written r i c x e = grind (arith, nat_tests)

pub row_start : (p : ℕ) (a : Matrix) (i : ℕ) (words : List (List ℕ)) → IsShaped a → a ≡ row_done p a i words 0
unfolding row_done
row_start p a i words shaped =
    tabulate_is a a.rows (cols a) (λ r c. if (r == i) && nat_lt c 0 then row_number p words c else entry a r c) shaped refl refl
    (λ r c _ _. none_written r i c (row_number p words c) (entry a r c))

one_more : (f : ℕ → ℕ) (r i c j x e : ℕ) → x ≡ f j → (if (r == i) && (c == j) then x else (if (r == i) && nat_lt c j then f c else e)) ≡ (if (r == i) && nat_lt c (j + 1) then f c else e)
one_more f r i c j x e h = grind (arith, nat_tests)

pub row_more : (p : ℕ) (a b m : Matrix) (i j x : ℕ) (words : List (List ℕ)) → m ≡ row_done p a i words j → x ≡ row_number p words j → b ≡ with_entry m i j x → b ≡ row_done p a i words (j + 1)
unfolding row_done
row_more p a b m i j x words e v w =
    let g : ℕ → ℕ → ℕ = λ r c. if (r == i) && nat_lt c j then row_number p words c else entry a r c in
    let done = tabulate a.rows (cols a) g in
    let f : ℕ → ℕ → ℕ = λ r c. if (r == i) && (c == j) then x else entry done r c in
    let shape : tabulate done.rows (cols done) f ≡ tabulate a.rows (cols a) f = λ t. tabulate (rows-tabulate a.rows (cols a) g t) (cols-tabulate a.rows (cols a) g t) f in
    w ∙ ap (λ y. with_entry y i j x) e ∙ shape
    ∙ tabulate-same a.rows (cols a) f (λ r c. if (r == i) && nat_lt c (j + 1) then row_number p words c else entry a r c)
    (λ r c hr hc. ap (λ k. if (r == i) && (c == j) then x else k) (entry-tabulate a.rows (cols a) g r c hr hc) ∙ one_more (row_number p words) r i c j x (entry a r c) v)

whole_row : (r i c n x e : ℕ) → c < n → (if (r == i) && nat_lt c n then x else e) ≡ (if r == i then x else e)
whole_row r i c n x e lt = grind (arith, nat_tests)

pub row_end : (p : ℕ) (a m : Matrix) (i n : ℕ) (words : List (List ℕ)) → m ≡ row_done p a i words n → n ≡ cols a → m ≡ with_row p a i words
unfolding row_done
row_end p a m i n words e k =
    e ∙ tabulate-same a.rows (cols a) (λ r c. if (r == i) && nat_lt c n then row_number p words c else entry a r c) (λ r c. if r == i then row_number p words c else entry a r c)
    (λ r c hr hc. whole_row r i c n (row_number p words c) (entry a r c) (omega (arith, k, hc)))

-- ---- the words of a row are numbers

-- the first of what is left of a list, and what is left after it
pub drop_tail : {X : Type 0} (xs : List X) (i : ℕ) (y d : X) (ys : List X) → drop i xs ≡ y ∷ ys → (drop (suc i) xs ≡ ys) × (y ≡ get_or xs i d)
drop_tail [] zero y d ys e = absurd cc
drop_tail [] (suc i) y d ys e = absurd cc
drop_tail (x ∷ xs) zero y d ys e = (cc, cc)
drop_tail (x ∷ xs) (suc i) y d ys e = drop_tail xs i y d ys e

-- something is left before the end
pub none_left : {X : Type 0} (xs : List X) (i : ℕ) → i < length xs → drop i xs ≡ [] → ⊥
none_left [] i lt e = absurd (omega arith)
none_left (x ∷ xs) zero lt e = absurd cc
none_left (x ∷ xs) (suc i) lt e = none_left xs i (omega arith) e

pub residues_cut : (p : ℕ) (words : List (List ℕ)) (j : ℕ) (word e : List ℕ) → j < length words → word ≡ get_or words j e → list_all (is_residue_word p) (drop j words) ≡ (is_residue_word p word && list_all (is_residue_word p) (drop (suc j) words))
residues_cut p words j word e lt w = ap (list_all (is_residue_word p)) (drop-cons words j e lt) ∙ ap (λ x. is_residue_word p x && list_all (is_residue_word p) (drop (suc j) words)) (sym w)

pub residues_more : (p : ℕ) (words : List (List ℕ)) (j : ℕ) (word e : List ℕ) (all : Bool) → j < length words → word ≡ get_or words j e → is_residue_word p word ≡ true →
    list_all (is_residue_word p) (drop j words) ≡ all → list_all (is_residue_word p) (drop (j + 1) words) ≡ all
residues_more p words j word e all lt w t h =
    let k : j + 1 ≡ suc j = omega arith in
    ap (λ n. list_all (is_residue_word p) (drop n words)) k ∙ sym (residues_cut p words j word e lt w ∙ ap (λ x. x && list_all (is_residue_word p) (drop (suc j) words)) t) ∙ h

pub residues_stop : (p : ℕ) (words : List (List ℕ)) (j : ℕ) (word e : List ℕ) (all : Bool) → j < length words → word ≡ get_or words j e → is_residue_word p word ≡ false →
    list_all (is_residue_word p) (drop j words) ≡ all → all ≡ false
residues_stop p words j word e all lt w t h = sym h ∙ residues_cut p words j word e lt w ∙ ap (λ x. x && list_all (is_residue_word p) (drop (suc j) words)) t

get_or-default : {X : Type 0} (xs : List X) (k : ℕ) (d f : X) → k < length xs → get_or xs k d ≡ get_or xs k f
get_or-default [] k d f lt = absurd (omega arith)
get_or-default (x ∷ xs) zero d f lt = refl
get_or-default (x ∷ xs) (suc k) d f lt = get_or-default xs k d f (omega arith)

pub row_word : (p : ℕ) (words : List (List ℕ)) (j : ℕ) (word e : List ℕ) (x : ℕ) → j < length words → word ≡ get_or words j e → x ≡ residue_or_zero p (number_of word) → x ≡ row_number p words j
row_word p words j word e x lt w v = v ∙ ap (λ y. residue_or_zero p (number_of y)) (w ∙ get_or-default words j e [] lt)

pub row_kept : (p m n i : ℕ) (words : List (List ℕ)) → i < m → length words ≡ n → list_all (is_residue_word p) words ≡ true → first_code (row_rules p m n i words) ≡ None
row_kept p m n i words lt e t =
    let rows : ltb i m ≡ true = grind (arith, nat_tests) in
    let count : eqb (length words) n ≡ true = grind (arith, nat_tests) in
    rw rows (rw count (rw t refl))

pub row_fifteen : (p m n i : ℕ) (words : List (List ℕ)) → i < m → length words ≡ n → list_all (is_residue_word p) words ≡ false → first_code (row_rules p m n i words) ≡ Some (pos 15)
row_fifteen p m n i words lt e t =
    let rows : ltb i m ≡ true = grind (arith, nat_tests) in
    let count : eqb (length words) n ≡ true = grind (arith, nat_tests) in
    rw rows (rw count (rw t refl))

-- ---- the rows one after another

-- the matrix with the first i rows
unfoldable pub rows_done : ℕ → ℕ → ℕ → List (List (List ℕ)) → ℕ → Matrix
rows_done p m n rows i = tabulate m n (λ r c. if nat_lt r i then number_in p rows r c else 0)

pub rows-rows_done : (p m n : ℕ) (rows : List (List (List ℕ))) (i : ℕ) → (rows_done p m n rows i).rows ≡ m
unfolding rows_done
rows-rows_done p m n rows i = rows-tabulate m n (λ r c. if nat_lt r i then number_in p rows r c else 0)

pub cols-rows_done : (p m n : ℕ) (rows : List (List (List ℕ))) (i : ℕ) → cols (rows_done p m n rows i) ≡ n
unfolding rows_done
cols-rows_done p m n rows i = cols-tabulate m n (λ r c. if nat_lt r i then number_in p rows r c else 0)

no_rows : (r x : ℕ) → 0 ≡ (if nat_lt r 0 then x else 0)
no_rows r x = grind (arith, nat_tests)

pub rows_start : (p m n : ℕ) (rows : List (List (List ℕ))) → zero_matrix m n ≡ rows_done p m n rows 0
unfolding rows_done
rows_start p m n rows = tabulate-same m n (λ r c. 0) (λ r c. if nat_lt r 0 then number_in p rows r c else 0) (λ r c _ _. no_rows r (number_in p rows r c))

one_row : (f : ℕ → ℕ) (r i x : ℕ) → x ≡ f i → (if r == i then x else (if nat_lt r i then f r else 0)) ≡ (if nat_lt r (suc i) then f r else 0)
one_row f r i x h = grind (arith, nat_tests)

pub rows_more : (p m n i : ℕ) (rows : List (List (List ℕ))) (a b : Matrix) (words : List (List ℕ)) → a ≡ rows_done p m n rows i → words ≡ get_or rows i [] → b ≡ with_row p a i words → b ≡ rows_done p m n rows (suc i)
unfolding rows_done
rows_more p m n i rows a b words e w h =
    let g : ℕ → ℕ → ℕ = λ r c. if nat_lt r i then number_in p rows r c else 0 in
    let done = tabulate m n g in
    let f : ℕ → ℕ → ℕ = λ r c. if r == i then row_number p words c else entry done r c in
    let shape : tabulate done.rows (cols done) f ≡ tabulate m n f = λ t. tabulate (rows-tabulate m n g t) (cols-tabulate m n g t) f in
    h ∙ ap (λ y. with_row p y i words) e ∙ shape
    ∙ tabulate-same m n f (λ r c. if nat_lt r (suc i) then number_in p rows r c else 0)
    (λ r c hr hc. ap (λ k. if r == i then row_number p words c else k) (entry-tabulate m n g r c hr hc) ∙ one_row (λ k. number_in p rows k c) r i (row_number p words c) (ap (λ ws. row_number p ws c) w))

all_rows : (r i x : ℕ) → r < i → (if nat_lt r i then x else 0) ≡ x
all_rows r i x lt = grind (arith, nat_tests)

pub rows_end : (p m n i : ℕ) (rows : List (List (List ℕ))) (a : Matrix) → a ≡ rows_done p m n rows i → m ≤ i → a ≡ tabulate m n (number_in p rows)
unfolding rows_done
rows_end p m n i rows a e le =
    e ∙ tabulate-same m n (λ r c. if nat_lt r i then number_in p rows r c else 0) (number_in p rows) (λ r c hr hc. all_rows r i (number_in p rows r c) (omega arith))

residue_small : (p : ℕ) → 0 < p → (o : Option ℕ) → residue_or_zero p o < p
residue_small p positive None = positive
residue_small p positive (Some n) = small (ltb n p) refl
  where
    small : (t : Bool) → ltb n p ≡ t → (if t then n else 0) < p
    small true t = ltb-true n p t
    small false t = positive

pub has_residues : (p m n : ℕ) (rows : List (List (List ℕ))) (a : Matrix) → a ≡ tabulate m n (number_in p rows) → 0 < p → HasResidues p m n a
has_residues p m n rows a e positive =
    let whole : HasResidues p m n (tabulate m n (number_in p rows)) = record {
      rows = rows-tabulate m n (number_in p rows);
      columns = cols-tabulate m n (number_in p rows);
      shaped = IsShaped-tabulate m n (number_in p rows);
      words = AreWords-tabulate p m n (number_in p rows) (omega (arith, positive)) (λ r c hr hc. residue_small p positive (number_of (get_or (get_or rows r []) c [])));
    } in
    subst (HasResidues p m n) (sym e) whole
