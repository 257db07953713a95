-- The errors of words, one flip after another, and how many words of a matrix are not 0.
use Rattle.std.proofs.Common.{◌≡◌, ℕ, Bool, ◌+◌, ◌*◌, ◌%◌, ◌<◌, ◌≤◌, ◌==◌, ◌&&◌, if◌then◌else◌, true, false, eq-eqb, List, [], ◌∷◌, ◌++◌, length, get_or, take, refl, sym, ◌∙◌, ap, subst, inl, inr, arith}
use Rattle.std.proofs.Math.Nat.{add-mod-mod, mod-add-mod, mod-eq_of_lt, mod-lt, zero-mod}
use Rattle.std.proofs.lemmas.Bool.{cases_eq, ne_eqb}
use Rattle.std.proofs.lemmas.List.{take_more}
use Rattle.std.proofs.lemmas.List.Sums.{sum_by_push}
use Rattle.field_core.specs.Sums.{sum_to}
use Rattle.field_core.proofs.Sums.{sum_to-more, sum_to-same, sum_to-blocks, sum_to-swap}
use Rattle.run_data.specs.Matrix.{Matrix, cols, entry, IsShaped, AreWords, tabulate, zero_matrix, with_entry}
use Rattle.run_data.specs.declared.flips.Flip.{Flip}
use Rattle.run_data.proofs.Matrices.{tabulate_is, tabulate-same, rows-tabulate, cols-tabulate, entry-tabulate}
use Rattle.run_data.proofs.PartLaws.{AreWords-tabulate}
use Rattle.serial_model.specs.Wrong.{error_at, wrong_words}
use Rattle.serial_machine.specs.Errors.{error_of, errors_of, with_error}

-- ---- one flip
hit : (flip : Flip) (r c : ℕ) → flip.row ≡ r + 1 → flip.column ≡ c + 1 → error_of flip r c ≡ flip.error
hit flip r c er ec =
    let tr : (flip.row == r + 1) ≡ true = eq-eqb flip.row (r + 1) er in
    let tc : (flip.column == c + 1) ≡ true = eq-eqb flip.column (c + 1) ec in
    rw (tr, tc) refl

missed : (flip : Flip) (r c : ℕ) → (flip.row ≡ r + 1 → flip.column ≡ c + 1 → ⊥) → error_of flip r c ≡ 0
missed flip r c apart =
    elim (cases_eq flip.row (r + 1)) [
      | inl er ↦
          (let tr : (flip.row == r + 1) ≡ true = eq-eqb flip.row (r + 1) er in
          let tc : (flip.column == c + 1) ≡ false = ne_eqb flip.column (c + 1) (apart er) in
          rw (tr, tc) refl)
      | inr other ↦ (let tr : (flip.row == r + 1) ≡ false = ne_eqb flip.row (r + 1) other in rw tr refl)
    ]

-- a word to which nothing is added
stays : (p w : ℕ) (flip : Flip) (r c : ℕ) → w < p → (flip.row ≡ r + 1 → flip.column ≡ c + 1 → ⊥) → w ≡ (w + error_of flip r c) % p
stays p w flip r c small apart =
    let none : w + error_of flip r c ≡ w = omega (arith, missed flip r c apart) in
    sym (ap (λ s. s % p) none ∙ mod-eq_of_lt small)

-- a word after the write at the place of a flip
written : (p : ℕ) (e : ℕ → ℕ → ℕ) (flip : Flip) (i j x r c : ℕ) → flip.row ≡ i + 1 → flip.column ≡ j + 1 → e r c < p → x ≡ (e i j + flip.error % p) % p
    → (if (r == i) && (c == j) then x else e r c) ≡ (e r c + error_of flip r c) % p
written p e flip i j x r c hr hc small is =
    elim (cases_eq r i) [
      | inl same_row ↦ (elim (cases_eq c j) [
        | inl same_column ↦ (let er : (r == i) ≡ true = eq-eqb r i same_row in let ec : (c == j) ≡ true = eq-eqb c j same_column in
            let there : error_of flip r c ≡ flip.error = hit flip r c (omega arith) (omega arith) in
            ap (λ (t : Bool). if t && (c == j) then x else e r c) er ∙ ap (λ (t : Bool). if t then x else e r c) ec
            ∙ is ∙ add-mod-mod (e i j) flip.error p ∙ (λ t. (e (sym same_row t) (sym same_column t) + sym there t) % p))
        | inr other ↦ (let ec : (c == j) ≡ false = ne_eqb c j other in let er : (r == i) ≡ true = eq-eqb r i same_row in
            ap (λ (t : Bool). if t && (c == j) then x else e r c) er ∙ ap (λ (t : Bool). if t then x else e r c) ec
            ∙ stays p (e r c) flip r c small (λ a b. other (omega arith)))
      ])
      | inr other ↦ (let er : (r == i) ≡ false = ne_eqb r i other in
          ap (λ (t : Bool). if t && (c == j) then x else e r c) er ∙ stays p (e r c) flip r c small (λ a b. other (omega arith)))
    ]

-- a flip of a word of the matrix
pub with_error-inside : (p : ℕ) (e e' : Matrix) (flip : Flip) (i j x : ℕ) → AreWords p e → flip.row ≡ i + 1 → flip.column ≡ j + 1 → x ≡ (entry e i j + flip.error % p) % p → e' ≡ with_entry e i j x → e' ≡ with_error p e flip
with_error-inside p e e' flip i j x words hr hc is made =
    made ∙ tabulate-same e.rows (cols e) (λ r c. if (r == i) && (c == j) then x else entry e r c) (λ r c. (entry e r c + error_of flip r c) % p)
    (λ r c _ _. written p (entry e) flip i j x r c hr hc (words.below r c) is)

-- a flip of no word of the matrix
pub with_error-outside : (p : ℕ) (e : Matrix) (flip : Flip) → IsShaped e → AreWords p e → (0 < flip.row → flip.row ≤ e.rows → 0 < flip.column → flip.column ≤ cols e → ⊥) → e ≡ with_error p e flip
with_error-outside p e flip shaped words out =
    tabulate_is e e.rows (cols e) (λ r c. (entry e r c + error_of flip r c) % p) shaped refl refl
    (λ r c hr hc. stays p (entry e r c) flip r c (words.below r c) (λ a b. out (omega arith) (omega arith) (omega arith) (omega arith)))

-- ---- one flip after another
pub words-errors : (p m n : ℕ) (flips : List Flip) (e : Matrix) → 0 < p → e ≡ errors_of p m n flips → AreWords p e
words-errors p m n flips e pos is = subst (AreWords p) (sym is) (AreWords-tabulate p m n (λ i j. error_at flips i j % p) pos (λ i j _ _. mod-lt (error_at flips i j) pos))

pub errors-none : (p m n : ℕ) (e : Matrix) → e ≡ zero_matrix m n → e ≡ errors_of p m n []
errors-none p m n e is = is ∙ tabulate-same m n (λ i j. 0) (λ i j. 0 % p) (λ i j _ _. sym (zero-mod p))

pub errors-more : (p m n : ℕ) (flips : List Flip) (k : ℕ) (d flip : Flip) (e e' : Matrix) → k < length flips → flip ≡ get_or flips k d → e ≡ errors_of p m n (take k flips) → e' ≡ with_error p e flip
    → e' ≡ errors_of p m n (take (k + 1) flips)
errors-more p m n flips k d flip e e' lt this is made =
    let before : List Flip = take k flips in
    let b : Matrix = errors_of p m n before in
    let f : ℕ → ℕ → ℕ = λ i j. (entry b i j + error_of flip i j) % p in
    made ∙ ap (λ x. with_error p x flip) is ∙ ap (λ r. tabulate r (cols b) f) (rows-tabulate m n _) ∙ ap (λ c. tabulate m c f) (cols-tabulate m n _)
    ∙ tabulate-same m n f (λ i j. error_at (before ++ flip ∷ []) i j % p)
    (λ i j hi hj. ap (λ w. (w + error_of flip i j) % p) (entry-tabulate m n (λ i j. error_at before i j % p) i j hi hj)
    ∙ mod-add-mod (error_at before i j) p (error_of flip i j) ∙ ap (λ s. s % p) (sym (sum_by_push (λ (x : Flip). error_of x i j) before flip)))
    ∙ ap (λ fs. errors_of p m n fs) (ap (λ x. before ++ x ∷ []) this ∙ sym (take_more flips k d lt))

-- ---- how many words are not 0
-- 1 for a word of a list that is not 0
abbrev pub counts : List ℕ → ℕ → ℕ
counts ws k = if get_or ws k 0 == 0 then 0 else 1

pub words-counted : (m : Matrix) (ws : List ℕ) (count n : ℕ) → n ≡ length ws → length ws ≡ cols m * m.rows → ((i j : ℕ) → i < m.rows → j < cols m → get_or ws (j * m.rows + i) 0 ≡ entry m i j) → count ≡ sum_to n (counts ws)
    → count ≡ sum_to m.rows (λ i. sum_to (cols m) (λ j. if entry m i j == 0 then 0 else 1))
words-counted m ws count n all size words is =
    is ∙ ap (λ k. sum_to k (counts ws)) (all ∙ size) ∙ sum_to-blocks (cols m) m.rows (counts ws)
    ∙ sum_to-same (cols m) _ _ (λ j hj. sum_to-same m.rows (λ i. counts ws (j * m.rows + i)) (λ i. if entry m i j == 0 then 0 else 1) (λ i hi. ap (λ w. if w == 0 then 0 else 1) (words i j hi hj)))
    ∙ sum_to-swap (cols m) m.rows (λ j i. if entry m i j == 0 then 0 else 1)

pub wrong-counted : (p m n : ℕ) (flips : List Flip) (e : Matrix) (count : ℕ) → e ≡ errors_of p m n flips → count ≡ sum_to e.rows (λ i. sum_to (cols e) (λ j. if entry e i j == 0 then 0 else 1)) → count ≡ wrong_words p m n flips
wrong-counted p m n flips e count is counted =
    let b : Matrix = errors_of p m n flips in
    counted ∙ ap (λ x. sum_to x.rows (λ i. sum_to (cols x) (λ j. if entry x i j == 0 then 0 else 1))) is
    ∙ ap (λ r. sum_to r (λ i. sum_to (cols b) (λ j. if entry b i j == 0 then 0 else 1))) (rows-tabulate m n _)
    ∙ ap (λ c. sum_to m (λ i. sum_to c (λ j. if entry b i j == 0 then 0 else 1))) (cols-tabulate m n _)
    ∙ sum_to-same m _ _ (λ i hi. sum_to-same n (λ j. if entry b i j == 0 then 0 else 1) (λ j. if error_at flips i j % p == 0 then 0 else 1)
    (λ j hj. ap (λ w. if w == 0 then 0 else 1) (entry-tabulate m n (λ i j. error_at flips i j % p) i j hi hj)))

-- one word more
pub one-counted : (ws : List ℕ) (k count : ℕ) → (get_or ws k 0 ≡ 0 → ⊥) → count ≡ sum_to k (counts ws) → count + 1 ≡ sum_to (k + 1) (counts ws)
one-counted ws k count other is =
    let t : (get_or ws k 0 == 0) ≡ false = ne_eqb (get_or ws k 0) 0 other in
    let one : counts ws k ≡ 1 = ap (λ (b : Bool). if b then 0 else 1) t in
    omega (arith, sum_to-more k (counts ws))

pub none-counted : (ws : List ℕ) (k count : ℕ) → get_or ws k 0 ≡ 0 → count ≡ sum_to k (counts ws) → count ≡ sum_to (k + 1) (counts ws)
none-counted ws k count zero is =
    let t : (get_or ws k 0 == 0) ≡ true = eq-eqb (get_or ws k 0) 0 zero in
    let none : counts ws k ≡ 0 = ap (λ (b : Bool). if b then 0 else 1) t in
    omega (arith, sum_to-more k (counts ws))
