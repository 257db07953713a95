-- Triangles of a transpose, and the solve with the transpose of a matrix that was eliminated.
use Rattle.std.proofs.Common.{◌≡◌, ◌≢◌, ℕ, zero, suc, ◌+◌, ◌*◌, ◌%◌, ◌<◌, ◌≤◌, ◌==◌, Bool, true, false, not, if◌then◌else◌, nat_lt, List, refl, sym, ◌∙◌, ap, arith, inl, inr, eq-eqb}
use Rattle.std.proofs.Math.Nat.{mod-mod}
use Rattle.std.proofs.lemmas.Bool.{cases_eq, ne_eqb}
use Rattle.std.proofs.lemmas.Bool.Decides.{nat_tests}
use Rattle.field_core.specs.Sums.{sum_to}
use Rattle.field_core.proofs.Sums.{sum_to-same, sum_to-suc}
use Rattle.local_blas.specs.Kernels.{swapped, solution, upper_solution}
use Rattle.serial_model.specs.Elimination.{pivot_row, came_from}
use Rattle.serial_model.specs.Solves.{solved_column}
use Rattle.elimination.proofs.Exchanges.{swapped-same}
use Rattle.serial_model.specs.Transposes.{came_back_from, flipped, transposed_solved}
use Rattle.factor_laws.specs.Triangles.{triangle_word}
use Rattle.factor_laws.proofs.Triangles.{Divides, divides-one, lower-meets, upper-meets}
use Rattle.factor_laws.proofs.Exchanges.{AreBelow, there_and_back}
use Rattle.factor_laws.proofs.Solves.{IsFactored}
use Rattle.factor_laws.proofs.Products.{row_through}

-- the transpose of a triangle is the other triangle of the transpose
pub triangle-flipped : (lower unit : Bool) (f : ℕ → ℕ → ℕ) (i j : ℕ) → triangle_word (not lower) unit (flipped f) i j ≡ triangle_word lower unit f j i
unfolding triangle_word
triangle-flipped true unit f i j = ap (λ b. if b then (if unit then 1 else f j i) else if nat_lt i j then f j i else 0) (same_test i j)
  where
    same_test : (i j : ℕ) → (i == j) ≡ (j == i)
    same_test i j = grind (arith, nat_tests)
triangle-flipped false unit f i j = ap (λ b. if b then (if unit then 1 else f j i) else if nat_lt j i then f j i else 0) (same_test i j)
  where
    same_test : (i j : ℕ) → (i == j) ≡ (j == i)
    same_test i j = grind (arith, nat_tests)

-- a column that is solved by a triangle meets it
pub column-meets : (p : ℕ) (inverse : ℕ → ℕ) (lower unit : Bool) (a : ℕ → ℕ → ℕ) (b : ℕ → ℕ) (n i : ℕ) → 0 < p → i < n → Divides p inverse unit (a i i) → sum_to n (λ k. triangle_word lower unit a i k * solved_column p inverse lower unit n a b k) % p ≡ b i % p
column-meets p inverse true unit a b n i pos_p h divides = lower-meets p inverse unit a b n i pos_p h divides
column-meets p inverse false unit a b n i pos_p h divides = upper-meets p inverse unit a b n i pos_p h divides

-- where two sums differ in one term only
pub sum_to-but_one : (n : ℕ) (f g : ℕ → ℕ) (at : ℕ) → at < n → ((q : ℕ) → q < n → q ≢ at → f q ≡ g q) → sum_to n f + g at ≡ sum_to n g + f at
sum_to-but_one zero f g at h same = absurd (omega arith)
sum_to-but_one (suc n) f g at h same =
    elim (cases_eq at n) [
      | inl last ↦
          (let rest : sum_to n f ≡ sum_to n g = sum_to-same n f g (λ q hq. same q (omega arith) (omega arith)) in
          rw (last, sum_to-suc n f, sum_to-suc n g) (omega arith))
      | inr other ↦
          (let rest : sum_to n f + g at ≡ sum_to n g + f at = sum_to-but_one n f g at (omega arith) (λ q hq. same q (omega arith)) in
          let end : f n ≡ g n = same n (omega arith) (λ e. other (sym e)) in
          rw (sum_to-suc n f, sum_to-suc n g) (omega arith))
    ]

swapped-left : (i j : ℕ) → swapped i j i ≡ j
swapped-left i j = grind (arith, nat_tests)

swapped-right : (i j : ℕ) → swapped i j j ≡ i
swapped-right i j = grind (arith, nat_tests)

swapped-other : (i j k : ℕ) → k ≢ i → k ≢ j → swapped i j k ≡ k
swapped-other i j k h1 h2 = grind (arith, nat_tests)

-- a sum in which two terms change places
pub sum_to-swapped : (m i j : ℕ) (f : ℕ → ℕ) → i < m → j < m → sum_to m (λ k. f (swapped i j k)) ≡ sum_to m f
sum_to-swapped m i j f hi hj =
    elim (cases_eq i j) [
      | inl same ↦ sum_to-same m (λ k. f (swapped i j k)) f (λ k _. ap f (ap (λ q. swapped i q k) (sym same) ∙ swapped-same i k))
      | inr other ↦
          (let g : ℕ → ℕ = λ k. f (swapped i j k) in
          let mid : ℕ → ℕ = λ k. if k == i then f j else f k in
          let at_i : mid i ≡ f j = (let t : (i == i) ≡ true = eq-eqb i i refl in ap (λ b. if b then f j else f i) t) in
          let off_i : (k : ℕ) → k ≢ i → mid k ≡ f k = λ k ne. (let t : (k == i) ≡ false = ne_eqb k i ne in ap (λ b. if b then f j else f k) t) in
          let first : sum_to m f + mid i ≡ sum_to m mid + f i = sum_to-but_one m f mid i hi (λ q _ ne. sym (off_i q ne)) in
          let kept : (q : ℕ) → q < m → q ≢ j → mid q ≡ g q =
          λ q _ ne. elim (cases_eq q i) [
            | inl here ↦ ap mid here ∙ at_i ∙ sym (ap g here ∙ ap f (swapped-left i j))
            | inr apart ↦ off_i q apart ∙ sym (ap f (swapped-other i j q apart ne))
          ] in
          let second : sum_to m mid + g j ≡ sum_to m g + mid j = sum_to-but_one m mid g j hj kept in
          let at_j : mid j ≡ f j = off_i j (λ e. other (sym e)) in
          let g_j : g j ≡ f i = ap f (swapped-right i j) in
          omega arith)
    ]

-- a sum whose terms change places by exchanges of rows
pub sum_to-exchanged : (v : List ℕ) (first n m : ℕ) (f : ℕ → ℕ) → first + n ≤ m → AreBelow v first n m → sum_to m (λ k. f (came_back_from v first n k)) ≡ sum_to m f
unfolding came_back_from
sum_to-exchanged v first zero m f h rows = refl
sum_to-exchanged v first (suc n) m f h rows =
    let j = first + n in
    let r = pivot_row v j in
    sum_to-exchanged v first n m (λ q. f (swapped j r q)) (omega arith) (record { below = λ k h1 h2. rows.below k h1 (omega arith) })
    ∙ sum_to-swapped m j r f (omega arith) (rows.below j (omega arith) (omega arith))

-- the solve with the transpose solves A^T X = B, column by column
pub transpose-solve : (p : ℕ) (inverse : ℕ → ℕ) (n : ℕ) (a f : ℕ → ℕ → ℕ) (v : List ℕ) (b : ℕ → ℕ) (i : ℕ) → IsFactored p inverse n a f v → i < n → sum_to n (λ k. a k i * transposed_solved p inverse f v n b k) % p ≡ b i % p
transpose-solve p inverse n a f v b i known h =
    let w : ℕ → ℕ = solution p inverse false (flipped f) b in
    let z : ℕ → ℕ = upper_solution p inverse true n (flipped f) w in
    let l = triangle_word true true f in
    let u = triangle_word false false f in
    let back : sum_to n (λ k. a k i * z (came_back_from v 0 n k)) ≡ sum_to n (λ r. a (came_from v 0 n r) i * z r) =
    sum_to-same n (λ k. a k i * z (came_back_from v 0 n k)) (λ k. a (came_from v 0 n (came_back_from v 0 n k)) i * z (came_back_from v 0 n k))
    (λ k _. ap (λ r. a r i * z (came_back_from v 0 n k)) (sym (there_and_back v 0 n k)))
    ∙ sum_to-exchanged v 0 n n (λ r. a (came_from v 0 n r) i * z r) (omega arith) known.rows in
    ap (λ s. s % p) back
    ∙ row_through p n n (λ r. a (came_from v 0 n r) i) (λ q. u q i) (λ q r. l r q) z w (b i)
    (λ r _. ap (λ s. s % p) (sym (known.product r i h)) ∙ mod-mod (sum_to n (λ q. l r q * u q i)) p ∙ ap (λ s. s % p) (sum_to-same n (λ q. l r q * u q i) (λ q. u q i * l r q) (λ q _. turn (l r q) (u q i))))
    (λ q hq. ap (λ s. s % p) (sum_to-same n (λ r. l r q * z r) (λ r. triangle_word false true (flipped f) q r * z r) (λ r _. ap (λ x. x * z r) (sym (triangle-flipped true true f q r))))
    ∙ upper-meets p inverse true (flipped f) w n q known.pos_p hq (divides-one p inverse (f q q)))
    (ap (λ s. s % p) (sum_to-same n (λ q. u q i * w q) (λ q. triangle_word true false (flipped f) i q * w q) (λ q _. ap (λ x. x * w q) (sym (triangle-flipped false false f i q))))
    ∙ lower-meets p inverse false (flipped f) b n i known.pos_p h (known.divides i h))
  where
    turn : (a b : ℕ) → a * b ≡ b * a
    turn a b = omega arith
