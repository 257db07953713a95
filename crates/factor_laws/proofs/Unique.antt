-- A system with factors has one solution, and what the new solves do to weighted sums.
use Rattle.std.proofs.Common.{◌≡◌, ◌≢◌, ℕ, zero, suc, ◌+◌, ◌*◌, ◌%◌, ◌<◌, ◌==◌, Bool, true, false, if◌then◌else◌, List, refl, sym, ◌∙◌, ap, arith, eq-eqb}
use Rattle.std.proofs.Math.Nat.{mod-eq_of_lt}
use Rattle.std.proofs.lemmas.Bool.{ne_eqb}
use Rattle.std.proofs.lemmas.Bool.Decides.{nat_tests}
use Rattle.field_core.specs.Sums.{sum_to}
use Rattle.field_core.proofs.Sums.{sum_to-zero, sum_to-same, sum_to-same_mod}
use Rattle.field_core.proofs.Modular.{same_scaled, same_product}
use Rattle.run_data.specs.Matrix.{Matrix, cols, entry, IsShaped, AreWords, tabulate}
use Rattle.run_data.proofs.Matrices.{rows-tabulate, cols-tabulate, entry-tabulate, IsShaped-tabulate}
use Rattle.local_blas.specs.Kernels.{swapped, solution, upper_solution}
use Rattle.serial_model.specs.Elimination.{pivot_row, elimination_of, eliminated_matrix}
use Rattle.serial_model.specs.Solves.{product_of, solved_with_factors, first_zero}
use Rattle.elimination.specs.CodeLaw.{IsWeightedSum}
use Rattle.elimination.proofs.SolveLaws.{solution-keeps, upper_solution-keeps}
use Rattle.elimination.proofs.Words.{ready-matrix}
use Rattle.serial_model.specs.Transposes.{identity_word, identity_matrix, inverted, came_back_from, exchanged_back, flipped, transposed_solved}
use Rattle.factor_laws.specs.Triangles.{Inverts}
use Rattle.factor_laws.proofs.Products.{products-associate, row_through}
use Rattle.factor_laws.proofs.Solves.{IsFactored, factored-of}
use Rattle.factor_laws.proofs.Matrices.{product-equals, product-word, first_zero-is_info, square_elimination, square-is, inverse-multiplies}
use Rattle.factor_laws.proofs.Transposes.{sum_to-but_one, transpose-solve}

-- one term of a sum
sum_to-one : (n i : ℕ) (x : ℕ → ℕ) → i < n → sum_to n (λ k. identity_word k i * x k) ≡ x i
sum_to-one n i x h =
    let f : ℕ → ℕ = λ k. identity_word k i * x k in
    let zeros : sum_to n (λ k. 0) ≡ 0 = zero_sum n in
    let at_i : f i ≡ x i = (let t : (i == i) ≡ true = eq-eqb i i refl in ap (λ b. (if b then 1 else 0) * x i) t ∙ (let z : 1 * x i ≡ x i = omega arith in z)) in
    let off : (k : ℕ) → k < n → k ≢ i → f k ≡ 0 = λ k _ ne. (let t : (k == i) ≡ false = ne_eqb k i ne in ap (λ b. (if b then 1 else 0) * x k) t ∙ (let z : 0 * x k ≡ 0 = omega arith in z)) in
    let e : sum_to n f + 0 ≡ sum_to n (λ k. 0) + f i = sum_to-but_one n f (λ k. 0) i h off in
    omega arith
  where
    zero_sum : (n : ℕ) → sum_to n (λ k. 0) ≡ 0
    zero_sum n = sum_to-zero n

-- a word of x is a weighted sum of the words of A x, whose weights do not depend on x
pub word-recovered : (p : ℕ) (inverse : ℕ → ℕ) (n : ℕ) (a f : ℕ → ℕ → ℕ) (v : List ℕ) (x : ℕ → ℕ) (i : ℕ) → IsFactored p inverse n a f v → i < n → x i % p ≡ sum_to n (λ r. transposed_solved p inverse f v n (λ k. identity_word k i) r * sum_to n (λ k. a r k * x k)) % p
word-recovered p inverse n a f v x i known h =
    let l : ℕ → ℕ = transposed_solved p inverse f v n (λ k. identity_word k i) in
    let z : ℕ → ℕ = λ r. sum_to n (λ k. a r k * x k) in
    ap (λ s. s % p) (sym (sum_to-one n i x h))
    ∙ row_through p n n (λ k. identity_word k i) l a x z (sum_to n (λ r. l r * z r))
    (λ k hk. sym (ap (λ s. s % p) (sum_to-same n (λ r. l r * a r k) (λ r. a r k * l r) (λ r _. turn (l r) (a r k)))
    ∙ transpose-solve p inverse n a f v (λ k. identity_word k i) k known hk))
    (λ r _. refl) refl
  where
    turn : (a b : ℕ) → a * b ≡ b * a
    turn a b = omega arith

-- so two columns whose products with A agree are one
pub one-solution : (p : ℕ) (inverse : ℕ → ℕ) (n : ℕ) (a f : ℕ → ℕ → ℕ) (v : List ℕ) (x y : ℕ → ℕ) → IsFactored p inverse n a f v → ((r : ℕ) → r < n → sum_to n (λ k. a r k * x k) % p ≡ sum_to n (λ k. a r k * y k) % p) → (i : ℕ) → i < n → x i % p ≡ y i % p
one-solution p inverse n a f v x y known same i h =
    let l : ℕ → ℕ = transposed_solved p inverse f v n (λ k. identity_word k i) in
    word-recovered p inverse n a f v x i known h
    ∙ sum_to-same_mod p n (λ r. l r * sum_to n (λ k. a r k * x k)) (λ r. l r * sum_to n (λ k. a r k * y k)) (λ r hr. same_scaled p (l r) (sum_to n (λ k. a r k * x k)) (sum_to n (λ k. a r k * y k)) (same r hr))
    ∙ sym (word-recovered p inverse n a f v y i known h)

-- what is an inverse from the right is one from the left
pub inverse-from_left : (p : ℕ) (inverse : ℕ → ℕ) (n : ℕ) (a f : ℕ → ℕ → ℕ) (v : List ℕ) (x : ℕ → ℕ → ℕ) → IsFactored p inverse n a f v → ((i r : ℕ) → i < n → r < n → sum_to n (λ k. a i k * x k r) % p ≡ identity_word i r % p) → (k j : ℕ) → k < n → j < n → sum_to n (λ r. x k r * a r j) % p ≡ identity_word k j % p
inverse-from_left p inverse n a f v x known right k j hk hj =
    let z : ℕ → ℕ = λ k. sum_to n (λ r. x k r * a r j) in
    let e : ℕ → ℕ = λ k. identity_word k j in
    one-solution p inverse n a f v z e known
    (λ i hi.
    ap (λ s. s % p) (sym (products-associate n n (a i) x (λ r. a r j)))
    ∙ sum_to-same_mod p n (λ r. sum_to n (λ k. a i k * x k r) * a r j) (λ r. identity_word r i * a r j)
    (λ r hr. same_product p (sum_to n (λ k. a i k * x k r)) (identity_word r i) (a r j) (a r j) (right i r hi hr ∙ ap (λ b. (if b then 1 else 0) % p) (same_test i r)) refl)
    ∙ ap (λ s. s % p) (sum_to-one n i (λ r. a r j) hi ∙ sym (sum_to-one n j (a i) hj)
    ∙ sum_to-same n (λ k. identity_word k j * a i k) (λ k. a i k * e k) (λ k _. turn (identity_word k j) (a i k))))
    k hk
  where
    turn : (a b : ℕ) → a * b ≡ b * a
    turn a b = omega arith

    same_test : (i j : ℕ) → (i == j) ≡ (j == i)
    same_test i j = grind (arith, nat_tests)

-- the inverse by factors of a matrix, from the left
pub inverse-multiplies_left : (p : ℕ) (inverse : ℕ → ℕ) (a b c : Matrix) → 1 < p → Inverts p inverse → IsShaped a → AreWords p a → cols a ≡ a.rows → (elimination_of p inverse a).info ≡ 0 → c.rows ≡ a.rows → cols c ≡ a.rows → product_of p 1 (inverted p inverse (eliminated_matrix p inverse a) (elimination_of p inverse a).pivots b).matrix a 0 c ≡ identity_matrix a.rows
inverse-multiplies_left p inverse a b c above inverts shaped words square none er ec =
    let n = a.rows in
    let f = eliminated_matrix p inverse a in
    let v = (elimination_of p inverse a).pivots in
    let x = (inverted p inverse f v b).matrix in
    let zero_none : first_zero f ≡ 0 = first_zero-is_info p inverse a shaped words square ∙ none in
    let t : (first_zero f == 0) ≡ true = eq-eqb (first_zero f) 0 zero_none in
    let g : ℕ → ℕ → ℕ = λ i j. solved_with_factors p inverse (entry f) v f.rows (λ k. entry (identity_matrix f.rows) k j) i in
    let shape_x : x ≡ tabulate (identity_matrix f.rows).rows (cols (identity_matrix f.rows)) g = (rw t refl) in
    let rows_f : f.rows ≡ n = rows-tabulate n (cols a) (elimination_of p inverse a).words in
    let cols_x : cols x ≡ n = ap cols shape_x ∙ cols-tabulate (identity_matrix f.rows).rows (cols (identity_matrix f.rows)) g ∙ cols-tabulate f.rows f.rows identity_word ∙ rows_f in
    let s = square_elimination p inverse a in
    let known : IsFactored p inverse n (entry a) s.words s.pivots =
    factored-of p inverse n (entry a) inverts (ready-matrix p a shaped words) (ap (λ t. t.info) (sym (square-is p inverse a square)) ∙ none) in
    let right : (i r : ℕ) → i < n → r < n → sum_to n (λ k. entry a i k * entry x k r) % p ≡ identity_word i r % p =
    λ i r hi hr.
    ap (λ q. sum_to q (λ k. entry a i k * entry x k r) % p) (sym square)
    ∙ product-word p a x c (identity_matrix n) i r (omega arith) (omega arith) (inverse-multiplies p inverse a b c above inverts shaped words square none er ec)
    ∙ entry-tabulate n n identity_word i r hi hr ∙ sym (mod-eq_of_lt (one_or_zero (i == r))) in
    product-equals p x a c (identity_matrix n) (IsShaped-tabulate n n identity_word) (rows-tabulate n n identity_word ∙ sym er) (cols-tabulate n n identity_word ∙ sym ec)
    (λ i j hi hj.
    let hi' : i < n = rw rows-tabulate at hi in
    let hj' : j < n = rw cols-tabulate at hj in
    ap (λ q. sum_to q (λ k. entry x i k * entry a k j) % p) cols_x
    ∙ inverse-from_left p inverse n (entry a) s.words s.pivots (entry x) known right i j hi' hj'
    ∙ mod-eq_of_lt (one_or_zero (i == j)) ∙ sym (entry-tabulate n n identity_word i j hi' hj'))
  where
    one_or_zero : (b : Bool) → (if b then 1 else 0) < p
    one_or_zero true = above
    one_or_zero false = omega arith

-- one exchange more in falling order: the row before those that were exchanged
pub exchanged_back-next : (v : List ℕ) (first n : ℕ) (x : ℕ → ℕ) (i : ℕ) → exchanged_back v first (suc n) x i ≡ exchanged_back v (first + 1) n x (swapped first (pivot_row v first) i)
unfolding came_back_from
exchanged_back-next v first zero x i = (let e : first + 0 ≡ first = omega arith in rw e refl)
exchanged_back-next v first (suc n) x i =
    (let e : first + suc n ≡ first + 1 + n = omega arith in
    ap (λ j. x (swapped j (pivot_row v j) (came_back_from v first (suc n) i))) e
    ∙ exchanged_back-next v first n (λ r. x (swapped (first + 1 + n) (pivot_row v (first + 1 + n)) r)) i)

pub exchanged_back-keeps : (p n : ℕ) (w : ℕ → ℕ) (x : ℕ → ℕ → ℕ) (c : ℕ → ℕ) (v : List ℕ) (first count : ℕ) → IsWeightedSum p n w x c → IsWeightedSum p n w (λ q. exchanged_back v first count (x q)) (exchanged_back v first count c)
exchanged_back-keeps p n w x c v first count sum = record { at = λ i. sum.at (came_back_from v first count i) }

pub transposed_solved-keeps : (p : ℕ) (inverse : ℕ → ℕ) (n : ℕ) (w : ℕ → ℕ) (x : ℕ → ℕ → ℕ) (c : ℕ → ℕ) (a : ℕ → ℕ → ℕ) (v : List ℕ) (rows : ℕ) → 0 < p → IsWeightedSum p n w x c → IsWeightedSum p n w (λ q. transposed_solved p inverse a v rows (x q)) (transposed_solved p inverse a v rows c)
transposed_solved-keeps p inverse n w x c a v rows pos_p sum =
    exchanged_back-keeps p n w (λ q. upper_solution p inverse true rows (flipped a) (solution p inverse false (flipped a) (x q))) (upper_solution p inverse true rows (flipped a) (solution p inverse false (flipped a) c)) v 0 rows
    (upper_solution-keeps p inverse n w (λ q. solution p inverse false (flipped a) (x q)) (solution p inverse false (flipped a) c) true (flipped a) rows pos_p
    (solution-keeps p inverse n w x c false (flipped a) pos_p sum))
