-- The numbers of pivots: one for each column that was eliminated, and each the number, from 1, of a row at or below the diagonal. Nothing is asked of the words.
use Rattle.std.proofs.Common.{◌≡◌, ℕ, zero, suc, ◌+◌, ◌-◌, ◌<◌, ◌≤◌, min, List, [], ◌∷◌, ◌++◌, length, get_or, Option, Some, None, refl, ◌∙◌, ap, arith, inl, inr, length-append}
use Rattle.std.proofs.lemmas.List.{get_or_append_left, get_or-append_right}
use Rattle.std.proofs.lemmas.Bool.{cases_lt}
use Rattle.serial_model.specs.Elimination.{pivot_from, Eliminated, with_pivot, eliminate_column, eliminate_columns, untouched, elimination}
use Rattle.elimination.specs.Whole.{AreRows}
use Rattle.elimination.proofs.Steps.{IsPivot, pivot_from-is}

-- a list and one number more, from j + 1 to m
record IsNext (m j : ℕ) (v w : List ℕ) : Type 0 where
  number : ℕ
  is : w ≡ v ++ (number ∷ [])
  from : j + 1 ≤ number
  to : number ≤ m

-- column j adds such a number
column-number : (p : ℕ) (inverse : ℕ → ℕ) (m j : ℕ) (s : Eliminated) → j < m → IsNext m j s.pivots (eliminate_column p inverse m j s).pivots
unfolding eliminate_column with_pivot IsPivot
column-number p inverse m j s h = by_pivot (pivot_from (λ i. s.words i j) j (m - j)) (pivot_from-is (λ i. s.words i j) j (m - j) m (omega arith))
  where
    by_pivot : (o : Option ℕ) → IsPivot (λ i. s.words i j) j m o → IsNext m j s.pivots (with_pivot p inverse j s o).pivots
    by_pivot None known = record { number = j + 1; is = refl; from = omega arith; to = omega arith }
    by_pivot (Some r) known = record { number = r + 1; is = refl; from = omega (arith, known.0); to = omega (arith, known.1) }

-- each column adds a number
pub columns-count : (p : ℕ) (inverse : ℕ → ℕ) (m first n : ℕ) (s : Eliminated) → first + n ≤ m → length (eliminate_columns p inverse m first n s).pivots ≡ length s.pivots + n
unfolding eliminate_columns
columns-count p inverse m first zero s h = omega arith
columns-count p inverse m first (suc n) s h =
    let t = eliminate_columns p inverse m first n s in
    let next = column-number p inverse m (first + n) t (omega arith) in
    omega (arith, ap length next.is, length-append t.pivots (next.number ∷ []), columns-count p inverse m first n s (omega arith))

number_next : (m j k : ℕ) (v w : List ℕ) → IsNext m j v w → length v ≡ j → k ≤ j → (k < j → (k + 1 ≤ get_or v k 0) × (get_or v k 0 ≤ m)) → (k + 1 ≤ get_or w k 0) × (get_or w k 0 ≤ m)
number_next m j k v w next count h before =
    elim (cases_lt k j) [
      | inl earlier ↦
          (let same : get_or w k 0 ≡ get_or v k 0 = ap (λ v. get_or v k 0) next.is ∙ get_or_append_left v (next.number ∷ []) 0 k (omega arith) in
          let known = before earlier in
          (omega (arith, same, known.0), omega (arith, same, known.1)))
      | inr from ↦
          (let zero_left : k - j ≡ 0 = omega arith in
          let same : get_or w k 0 ≡ next.number =
          ap (λ v. get_or v k 0) next.is ∙ get_or-append_right v (next.number ∷ []) j k 0 count (omega arith) ∙ ap (λ n. get_or (next.number ∷ []) n 0) zero_left in
          (omega (arith, same, next.from), omega (arith, same, next.to)))
    ]

-- the number of the pivot of column k is from k + 1 to the number of rows
pub columns-in_range : (p : ℕ) (inverse : ℕ → ℕ) (m first n : ℕ) (s : Eliminated) (k : ℕ) → first + n ≤ m → length s.pivots ≡ first → first ≤ k → k < first + n → (k + 1 ≤ get_or (eliminate_columns p inverse m first n s).pivots k 0) × (get_or (eliminate_columns p inverse m first n s).pivots k 0 ≤ m)
unfolding eliminate_columns
columns-in_range p inverse m first zero s k h count h1 h2 = absurd (omega arith)
columns-in_range p inverse m first (suc n) s k h count h1 h2 =
    let t = eliminate_columns p inverse m first n s in
    number_next m (first + n) k t.pivots (eliminate_columns p inverse m first (suc n) s).pivots (column-number p inverse m (first + n) t (omega arith))
    (omega (arith, columns-count p inverse m first n s (omega arith), count)) (omega arith) (λ earlier. columns-in_range p inverse m first n s k (omega arith) count h1 earlier)

-- so the list names rows
pub columns-rows : (p : ℕ) (inverse : ℕ → ℕ) (m first n : ℕ) (s : Eliminated) → first + n ≤ m → length s.pivots ≡ first → AreRows (eliminate_columns p inverse m first n s).pivots first n m
columns-rows p inverse m first n s h count =
    record {
      from = λ k h1 h2. omega (arith, (columns-in_range p inverse m first n s k h count h1 h2).0);
      to = λ k h1 h2. (columns-in_range p inverse m first n s k h count h1 h2).1;
    }

-- a whole elimination has as many pivots as there are rows, or columns where these are fewer
pub elimination-count : (p : ℕ) (inverse : ℕ → ℕ) (m n : ℕ) (a : ℕ → ℕ → ℕ) → length (elimination p inverse m n a).pivots ≡ min m n
unfolding elimination
elimination-count p inverse m n a = omega (arith, columns-count p inverse m 0 (min m n) (untouched a) (omega arith))

-- and they are rows
pub elimination-rows : (p : ℕ) (inverse : ℕ → ℕ) (m n : ℕ) (a : ℕ → ℕ → ℕ) → AreRows (elimination p inverse m n a).pivots 0 (min m n) m
unfolding elimination
elimination-rows p inverse m n a = columns-rows p inverse m 0 (min m n) (untouched a) (omega arith) refl
