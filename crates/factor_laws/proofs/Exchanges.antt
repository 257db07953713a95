-- The exchanges of rows, in order and in falling order, undo one another.
use Rattle.std.proofs.Common.{◌≡◌, ℕ, zero, suc, ◌+◌, ◌<◌, ◌≤◌, List, refl, ◌∙◌, ap, arith}
use Rattle.local_blas.specs.Kernels.{swapped}
use Rattle.local_blas.proofs.Swaps.{swapped-below, swapped-swapped}
use Rattle.serial_model.specs.Elimination.{pivot_row, came_from}
use Rattle.serial_model.specs.Transposes.{came_back_from}

-- the rows that some pivots name are below m
pub record AreBelow (v : List ℕ) (first n m : ℕ) : Type 0 where
  pub below : (k : ℕ) → first ≤ k → k < first + n → pivot_row v k < m

pub there_and_back : (v : List ℕ) (first n i : ℕ) → came_from v first n (came_back_from v first n i) ≡ i
unfolding came_from came_back_from
there_and_back v first zero i = refl
there_and_back v first (suc n) i =
    ap (came_from v first n) (swapped-swapped (first + n) (pivot_row v (first + n)) (came_back_from v first n i)) ∙ there_and_back v first n i

pub back_and_there : (v : List ℕ) (first n i : ℕ) → came_back_from v first n (came_from v first n i) ≡ i
unfolding came_from came_back_from
back_and_there v first zero i = refl
back_and_there v first (suc n) i =
    ap (swapped (first + n) (pivot_row v (first + n))) (back_and_there v first n (swapped (first + n) (pivot_row v (first + n)) i))
    ∙ swapped-swapped (first + n) (pivot_row v (first + n)) i

pub came_back_from-below : (v : List ℕ) (first n m i : ℕ) → first + n ≤ m → AreBelow v first n m → i < m → came_back_from v first n i < m
unfolding came_back_from
came_back_from-below v first zero m i h rows hi = hi
came_back_from-below v first (suc n) m i h rows hi =
    swapped-below (first + n) (pivot_row v (first + n)) (came_back_from v first n i) m (omega arith) (rows.below (first + n) (omega arith) (omega arith))
    (came_back_from-below v first n m i (omega arith) (record { below = λ k h1 h2. rows.below k h1 (omega arith) }) hi)

pub came_from-below : (v : List ℕ) (first n m i : ℕ) → first + n ≤ m → AreBelow v first n m → i < m → came_from v first n i < m
unfolding came_from
came_from-below v first zero m i h rows hi = hi
came_from-below v first (suc n) m i h rows hi =
    came_from-below v first n m (swapped (first + n) (pivot_row v (first + n)) i) (omega arith) (record { below = λ k h1 h2. rows.below k h1 (omega arith) })
    (swapped-below (first + n) (pivot_row v (first + n)) i m (omega arith) (rows.below (first + n) (omega arith) (omega arith)) hi)
