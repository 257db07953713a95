-- The same laws of whole matrices, in the words of the product of the serial run.
use Rattle.std.proofs.Common.{◌≡◌, ℕ, ◌+◌, ◌*◌, ◌%◌, ◌<◌, ◌==◌, min, Bool, true, false, if◌then◌else◌, nat_lt, List, refl, sym, ◌∙◌, ap, arith, subst, eq-eqb}
use Rattle.std.proofs.Math.Nat.{mod-eq_of_lt}
use Rattle.field_core.specs.Sums.{sum_to}
use Rattle.field_core.proofs.Sums.{sum_to-same}
use Rattle.run_data.specs.Matrix.{Matrix, cols, entry, IsShaped, AreWords, tabulate}
use Rattle.run_data.proofs.Matrices.{rows-tabulate, cols-tabulate, entry-tabulate, IsShaped-tabulate, tabulate_is, tabulate-same}
use Rattle.run_data.proofs.PartLaws.{AreWords-tabulate}
use Rattle.local_blas.specs.Kernels.{solution}
use Rattle.local_blas.proofs.SolutionLaws.{solution-same}
use Rattle.local_blas.proofs.UpperSolutions.{upper_solution-same}
use Rattle.serial_model.specs.Elimination.{Eliminated, elimination, elimination_of, eliminated_matrix, least_zero, diagonal, exchanged}
use Rattle.serial_model.specs.Solves.{product_of, solved_with_factors, factors_solved, first_zero}
use Rattle.elimination.specs.Whole.{with_rows_exchanged}
use Rattle.elimination.proofs.Info.{info-is_test, least_zero-same}
use Rattle.elimination.proofs.Words.{ready-matrix}
use Rattle.serial_model.specs.Transposes.{identity_word, identity_matrix, inverted}
use Rattle.factor_laws.specs.Triangles.{Inverts, triangle_word, lower_factor, upper_factor}
use Rattle.factor_laws.proofs.Factors.{factors-multiply}
use Rattle.factor_laws.proofs.Solves.{IsFactored, factored-of, factors-solve}

-- a matrix is a product where its words are the sums
pub product-equals : (p : ℕ) (a x c r : Matrix) → IsShaped r → r.rows ≡ c.rows → cols r ≡ cols c → ((i j : ℕ) → i < r.rows → j < cols r → sum_to (cols a) (λ k. entry a i k * entry x k j) % p ≡ entry r i j) → product_of p 1 a x 0 c ≡ r
product-equals p a x c r shaped er ec same =
    sym (tabulate_is r c.rows (cols c) (λ i j. (1 * sum_to (cols a) (λ k. entry a i k * entry x k j) + 0 * entry c i j) % p) shaped er ec
    (λ i j hi hj. sym (ap (λ s. s % p) (alone (sum_to (cols a) (λ k. entry a i k * entry x k j)) (entry c i j)) ∙ same i j (subst (λ n. i < n) (sym er) hi) (subst (λ n. j < n) (sym ec) hj))))
  where
    alone : (s e : ℕ) → 1 * s + 0 * e ≡ s
    alone s e = omega arith

-- the words of a product
pub product-word : (p : ℕ) (a x c r : Matrix) (i j : ℕ) → i < c.rows → j < cols c → product_of p 1 a x 0 c ≡ r → sum_to (cols a) (λ k. entry a i k * entry x k j) % p ≡ entry r i j
product-word p a x c r i j hi hj e =
    let g : ℕ → ℕ → ℕ = λ i j. (1 * sum_to (cols a) (λ k. entry a i k * entry x k j) + 0 * entry c i j) % p in
    ap (λ s. s % p) (alone (sum_to (cols a) (λ k. entry a i k * entry x k j)) (entry c i j)) ∙ sym (entry-tabulate c.rows (cols c) g i j hi hj) ∙ ap (λ m. entry m i j) e
  where
    alone : (s e : ℕ) → s ≡ 1 * s + 0 * e
    alone s e = omega arith

pub triangle-same : (lower unit : Bool) (f g : ℕ → ℕ → ℕ) (i j : ℕ) → f i j ≡ g i j → triangle_word lower unit f i j ≡ triangle_word lower unit g i j
unfolding triangle_word
triangle-same lower unit f g i j e =
    ap (λ x. if i == j then (if unit then 1 else x) else if (if lower then nat_lt j i else nat_lt i j) then x else 0) e

lower_factor-tabulate : (m n : ℕ) (w : ℕ → ℕ → ℕ) → lower_factor (tabulate m n w) ≡ tabulate m (min m n) (triangle_word true true w)
lower_factor-tabulate m n w =
    let g = triangle_word true true (entry (tabulate m n w)) in
    ap (λ r. tabulate r (min r (cols (tabulate m n w))) g) (rows-tabulate m n w) ∙ ap (λ q. tabulate m (min m q) g) (cols-tabulate m n w)
    ∙ tabulate-same m (min m n) g (triangle_word true true w) (λ i j hi hj. triangle-same true true (entry (tabulate m n w)) w i j (entry-tabulate m n w i j hi (omega arith)))

upper_factor-tabulate : (m n : ℕ) (w : ℕ → ℕ → ℕ) → upper_factor (tabulate m n w) ≡ tabulate (min m n) n (triangle_word false false w)
upper_factor-tabulate m n w =
    let g = triangle_word false false (entry (tabulate m n w)) in
    ap (λ r. tabulate (min r (cols (tabulate m n w))) (cols (tabulate m n w)) g) (rows-tabulate m n w) ∙ ap (λ q. tabulate (min m q) q g) (cols-tabulate m n w)
    ∙ tabulate-same (min m n) n g (triangle_word false false w) (λ i j hi hj. triangle-same false false (entry (tabulate m n w)) w i j (entry-tabulate m n w i j (omega arith) hj))

-- the factors of an eliminated matrix multiply back
pub factor_matrices-multiply : (p : ℕ) (inverse : ℕ → ℕ) (a c : Matrix) → Inverts p inverse → IsShaped a → AreWords p a → c.rows ≡ a.rows → cols c ≡ cols a → product_of p 1 (lower_factor (eliminated_matrix p inverse a)) (upper_factor (eliminated_matrix p inverse a)) 0 c ≡ with_rows_exchanged a (elimination_of p inverse a).pivots 0 (min a.rows (cols a))
factor_matrices-multiply p inverse a c inverts shaped words er ec =
    let m = a.rows in
    let n = cols a in
    let w = (elimination_of p inverse a).words in
    let v = (elimination_of p inverse a).pivots in
    let g : ℕ → ℕ → ℕ = λ i j. exchanged v 0 (min m n) (λ r. entry a r j) i in
    let l = triangle_word true true w in
    let u = triangle_word false false w in
    let lm = tabulate m (min m n) l in
    let um = tabulate (min m n) n u in
    ap (λ x. product_of p 1 x (upper_factor (eliminated_matrix p inverse a)) 0 c) (lower_factor-tabulate m n w)
    ∙ ap (λ x. product_of p 1 lm x 0 c) (upper_factor-tabulate m n w)
    ∙ product-equals p lm um c (tabulate m n g) (IsShaped-tabulate m n g) (rows-tabulate m n g ∙ sym er) (cols-tabulate m n g ∙ sym ec)
    (λ i j hi hj.
    let hi' : i < m = rw rows-tabulate at hi in
    let hj' : j < n = rw cols-tabulate at hj in
    ap (λ k. sum_to k (λ k. entry lm i k * entry um k j) % p) (cols-tabulate m (min m n) l)
    ∙ ap (λ s. s % p) (sum_to-same (min m n) (λ k. entry lm i k * entry um k j) (λ k. l i k * u k j)
    (λ k hk. ap (λ x. x * entry um k j) (entry-tabulate m (min m n) l i k hi' hk) ∙ ap (λ x. l i k * x) (entry-tabulate (min m n) n u k j hk hj')))
    ∙ factors-multiply p inverse m n (entry a) i j inverts (ready-matrix p a shaped words) hj'
    ∙ sym (entry-tabulate m n g i j hi' hj'))

-- a solve with factors reads the first n rows and columns alone
solved-same : (p : ℕ) (inverse : ℕ → ℕ) (n : ℕ) (f g : ℕ → ℕ → ℕ) (v : List ℕ) (b : ℕ → ℕ) (i : ℕ) → i < n → ((r k : ℕ) → r < n → k < n → f r k ≡ g r k) → solved_with_factors p inverse f v n b i ≡ solved_with_factors p inverse g v n b i
solved-same p inverse n f g v b i h same =
    upper_solution-same p inverse false n f g (solution p inverse true f (exchanged v 0 n b)) (solution p inverse true g (exchanged v 0 n b)) same
    (λ r hr. solution-same p inverse true f g (exchanged v 0 n b) (exchanged v 0 n b) r (λ q k hq hk. same q k (omega arith) (omega arith)) (λ q _. refl)) i h

-- INFO of a solve with factors
pub first_zero-tabulate : (n : ℕ) (w : ℕ → ℕ → ℕ) → first_zero (tabulate n n w) ≡ least_zero (diagonal w) n
first_zero-tabulate n w =
    ap (least_zero (diagonal (entry (tabulate n n w)))) (rows-tabulate n n w)
    ∙ least_zero-same (diagonal (entry (tabulate n n w))) (diagonal w) n (λ i h. entry-tabulate n n w i i h h)

-- the words of what the solve with factors gives
solved-entry : (p : ℕ) (inverse : ℕ → ℕ) (n : ℕ) (w : ℕ → ℕ → ℕ) (v : List ℕ) (b : Matrix) (i j : ℕ) → first_zero (tabulate n n w) ≡ 0 → b.rows ≡ n → i < n → j < cols b → entry (factors_solved p inverse (tabulate n n w) v b).matrix i j ≡ solved_with_factors p inverse w v n (λ k. entry b k j) i
solved-entry p inverse n w v b i j none er hi hj =
    let f = tabulate n n w in
    let g : ℕ → ℕ → ℕ = λ i j. solved_with_factors p inverse (entry f) v f.rows (λ k. entry b k j) i in
    let t : (first_zero f == 0) ≡ true = eq-eqb (first_zero f) 0 none in
    ap (λ c. entry (if c then tabulate b.rows (cols b) g else b) i j) t
    ∙ entry-tabulate b.rows (cols b) g i j (omega arith) hj
    ∙ ap (λ r. solved_with_factors p inverse (entry f) v r (λ k. entry b k j) i) (rows-tabulate n n w)
    ∙ solved-same p inverse n (entry f) w v (λ k. entry b k j) i hi (λ r k hr hk. entry-tabulate n n w r k hr hk)

factors-solve_matrix : (p : ℕ) (inverse : ℕ → ℕ) (n : ℕ) (w : ℕ → ℕ → ℕ) (v : List ℕ) (a b c : Matrix) → IsFactored p inverse n (entry a) w v → first_zero (tabulate n n w) ≡ 0 → cols a ≡ n → IsShaped b → AreWords p b → b.rows ≡ n → c.rows ≡ b.rows → cols c ≡ cols b → product_of p 1 a (factors_solved p inverse (tabulate n n w) v b).matrix 0 c ≡ b
factors-solve_matrix p inverse n w v a b c known none square shaped words eb er ec =
    let x = (factors_solved p inverse (tabulate n n w) v b).matrix in
    product-equals p a x c b shaped (sym er) (sym ec)
    (λ i j hi hj.
    let h : i < n = omega arith in
    ap (λ q. sum_to q (λ k. entry a i k * entry x k j) % p) square
    ∙ ap (λ s. s % p) (sum_to-same n (λ k. entry a i k * entry x k j) (λ k. entry a i k * solved_with_factors p inverse w v n (λ k. entry b k j) k)
    (λ k hk. ap (λ y. entry a i k * y) (solved-entry p inverse n w v b k j none eb hk hj)))
    ∙ factors-solve p inverse n (entry a) w v (λ k. entry b k j) i known h ∙ mod-eq_of_lt (words.below i j))

-- with as many columns as rows
abbrev pub square_elimination : ℕ → (ℕ → ℕ) → Matrix → Eliminated
square_elimination p inverse a = elimination p inverse a.rows a.rows (entry a)

pub square-is : (p : ℕ) (inverse : ℕ → ℕ) (a : Matrix) → cols a ≡ a.rows → elimination_of p inverse a ≡ square_elimination p inverse a
square-is p inverse a square = ap (λ n. elimination p inverse a.rows n (entry a)) square

pub matrix-is : (p : ℕ) (inverse : ℕ → ℕ) (a : Matrix) → cols a ≡ a.rows → eliminated_matrix p inverse a ≡ tabulate a.rows a.rows (square_elimination p inverse a).words
matrix-is p inverse a square =
    ap (λ n. tabulate a.rows n (elimination p inverse a.rows n (entry a)).words) square

-- the test of the diagonal finds the INFO of the elimination
pub first_zero-is_info : (p : ℕ) (inverse : ℕ → ℕ) (a : Matrix) → IsShaped a → AreWords p a → cols a ≡ a.rows → first_zero (eliminated_matrix p inverse a) ≡ (elimination_of p inverse a).info
first_zero-is_info p inverse a shaped words square =
    let n = a.rows in
    let s = square_elimination p inverse a in
    let all : min n n ≡ n = omega arith in
    ap first_zero (matrix-is p inverse a square) ∙ first_zero-tabulate n s.words ∙ ap (least_zero (diagonal s.words)) (sym all)
    ∙ sym (info-is_test p inverse n n (entry a) (ready-matrix p a shaped words)) ∙ ap (λ t. t.info) (sym (square-is p inverse a square))

-- the solve with factors solves A X = B
pub system-solved : (p : ℕ) (inverse : ℕ → ℕ) (a b c : Matrix) → Inverts p inverse → IsShaped a → AreWords p a → cols a ≡ a.rows → (elimination_of p inverse a).info ≡ 0 → IsShaped b → AreWords p b → b.rows ≡ a.rows → c.rows ≡ b.rows → cols c ≡ cols b → product_of p 1 a (factors_solved p inverse (eliminated_matrix p inverse a) (elimination_of p inverse a).pivots b).matrix 0 c ≡ b
system-solved p inverse a b c inverts shaped words square none shaped_b words_b eb er ec =
    let n = a.rows in
    let s = square_elimination p inverse a in
    let whole : elimination_of p inverse a ≡ s = square-is p inverse a square in
    let matrix : eliminated_matrix p inverse a ≡ tabulate n n s.words = matrix-is p inverse a square in
    let none_here : s.info ≡ 0 = ap (λ t. t.info) (sym whole) ∙ none in
    let zero_none : first_zero (tabulate n n s.words) ≡ 0 = ap first_zero (sym matrix) ∙ first_zero-is_info p inverse a shaped words square ∙ none in
    ap (λ f. product_of p 1 a (factors_solved p inverse f (elimination_of p inverse a).pivots b).matrix 0 c) matrix
    ∙ ap (λ t. product_of p 1 a (factors_solved p inverse (tabulate n n s.words) t.pivots b).matrix 0 c) whole
    ∙ factors-solve_matrix p inverse n s.words s.pivots a b c (factored-of p inverse n (entry a) inverts (ready-matrix p a shaped words) none_here) zero_none square shaped_b words_b eb er ec

pub identity-words : (p n : ℕ) → 1 < p → AreWords p (identity_matrix n)
identity-words p n above = AreWords-tabulate p n n identity_word (omega arith) (λ i j _ _. one_or_zero (i == j))
  where
    one_or_zero : (b : Bool) → (if b then 1 else 0) < p
    one_or_zero true = above
    one_or_zero false = omega arith

-- the inverse by factors is one
pub inverse-multiplies : (p : ℕ) (inverse : ℕ → ℕ) (a b c : Matrix) → 1 < p → Inverts p inverse → IsShaped a → AreWords p a → cols a ≡ a.rows → (elimination_of p inverse a).info ≡ 0 → c.rows ≡ a.rows → cols c ≡ a.rows → product_of p 1 a (inverted p inverse (eliminated_matrix p inverse a) (elimination_of p inverse a).pivots b).matrix 0 c ≡ identity_matrix a.rows
inverse-multiplies p inverse a b c above inverts shaped words square none er ec =
    let n = a.rows in
    let f = eliminated_matrix p inverse a in
    let v = (elimination_of p inverse a).pivots in
    let one = identity_matrix n in
    let zero_none : first_zero f ≡ 0 = first_zero-is_info p inverse a shaped words square ∙ none in
    let t : (first_zero f == 0) ≡ true = eq-eqb (first_zero f) 0 zero_none in
    ap (λ q. product_of p 1 a (if q then (factors_solved p inverse f v (identity_matrix f.rows)).matrix else b) 0 c) t
    ∙ ap (λ r. product_of p 1 a (factors_solved p inverse f v (identity_matrix r)).matrix 0 c) (rows-tabulate n (cols a) (elimination_of p inverse a).words)
    ∙ system-solved p inverse a one c inverts shaped words square none (IsShaped-tabulate n n identity_word) (identity-words p n above) (rows-tabulate n n identity_word)
    (er ∙ sym (rows-tabulate n n identity_word)) (ec ∙ sym (cols-tabulate n n identity_word))
