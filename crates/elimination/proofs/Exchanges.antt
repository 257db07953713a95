use Rattle.std.proofs.Common.{◌≡◌, ℕ, zero, suc, ◌+◌, ◌-◌, ◌*◌, ◌%◌, ◌<◌, ◌≤◌, if◌then◌else◌, nat_lt, List, refl, ◌∙◌, ap, arith}
use Rattle.std.proofs.Math.Path.{fun_ext}
use Rattle.std.proofs.lemmas.Bool.Decides.{nat_tests}
use Rattle.local_blas.specs.Kernels.{swapped}
use Rattle.serial_model.specs.Elimination.{pivot_row, came_from}

pub swapped-same : (j i : ℕ) → swapped j j i ≡ i
swapped-same j i = grind (arith, nat_tests)

pub swapped-below : (j r i : ℕ) → i < j → j ≤ r → swapped j r i ≡ i
swapped-below j r i h1 h2 = grind (arith, nat_tests)

pub swapped-from : (j r i : ℕ) → j ≤ i → j ≤ r → j ≤ swapped j r i
swapped-from j r i h1 h2 = grind (arith, nat_tests)

pub swapped-past : (j r i m : ℕ) → m ≤ i → j < m → r < m → swapped j r i ≡ i
swapped-past j r i m h1 h2 h3 = grind (arith, nat_tests)

pub swapped-test : (j r i k : ℕ) → k < j → j ≤ r → nat_lt k i ≡ nat_lt k (swapped j r i)
swapped-test j r i k h1 h2 = grind (arith, nat_tests)

-- a column y whose words below row j lost l times the word of row j
unfoldable pub lose : ℕ → (ℕ → ℕ) → ℕ → (ℕ → ℕ) → ℕ → ℕ
lose p l j y i = if nat_lt j i then (y i + (p - 1) * (l i * y j)) % p else y i

-- a column after the losses by the columns first, .., first + n - 1 of l, one after another
unfoldable pub updated : ℕ → (ℕ → ℕ → ℕ) → ℕ → ℕ → (ℕ → ℕ) → ℕ → ℕ
updated p l first zero x = x
updated p l first (suc n) x = lose p (λ i. l i (first + n)) (first + n) (updated p l first n x)

-- a change of rows that keeps the rows below `end`
pub record KeepsBelow (end : ℕ) (f : ℕ → ℕ) : Type 0 where
  pub keeps : (i : ℕ) → i < end → f i ≡ i
  pub test : (k i : ℕ) → k < end → nat_lt k i ≡ nat_lt k (f i)

pub KeepsBelow-swapped : (j r : ℕ) → j ≤ r → KeepsBelow j (swapped j r)
KeepsBelow-swapped j r h = record { keeps = λ i hi. swapped-below j r i hi h; test = λ k i hk. swapped-test j r i k hk h }

lose-commutes : (p : ℕ) (l : ℕ → ℕ) (j : ℕ) (y : ℕ → ℕ) (f : ℕ → ℕ) (i : ℕ) → f j ≡ j → nat_lt j i ≡ nat_lt j (f i) → lose p (λ i. l (f i)) j (λ i. y (f i)) i ≡ lose p l j y (f i)
unfolding lose
lose-commutes p l j y f i e t =
    ap (λ k. if nat_lt j i then (y (f i) + (p - 1) * (l (f i) * y k)) % p else y (f i)) e
    ∙ ap (λ b. if b then (y (f i) + (p - 1) * (l (f i) * y j)) % p else y (f i)) t

-- losses by the columns before `end` commute with a change of rows that keeps those below `end`
pub updated-commutes : (p : ℕ) (l : ℕ → ℕ → ℕ) (first n end : ℕ) (x : ℕ → ℕ) (f : ℕ → ℕ) → first + n ≤ end → KeepsBelow end f → updated p (λ i k. l (f i) k) first n (λ i. x (f i)) ≡ (λ i. updated p l first n x (f i))
unfolding updated
updated-commutes p l first zero end x f h kept = refl
updated-commutes p l first (suc n) end x f h kept =
    ap (lose p (λ i. l (f i) (first + n)) (first + n)) (updated-commutes p l first n end x f (omega arith) kept)
    ∙ fun_ext (λ i. lose-commutes p (λ i. l i (first + n)) (first + n) (updated p l first n x) f i (kept.keeps (first + n) (omega arith)) (kept.test (first + n) i (omega arith)))

-- only the columns from first to first + n - 1 of l matter
pub updated-same : (p : ℕ) (l m : ℕ → ℕ → ℕ) (first n : ℕ) (x : ℕ → ℕ) → ((i k : ℕ) → first ≤ k → k < first + n → l i k ≡ m i k) → updated p l first n x ≡ updated p m first n x
unfolding updated
updated-same p l m first zero x same = refl
updated-same p l m first (suc n) x same =
    let column : (λ (i : ℕ). l i (first + n)) ≡ (λ i. m i (first + n)) = fun_ext (λ i. same i (first + n) (omega arith) (omega arith)) in
    ap (λ c. lose p c (first + n) (updated p l first n x)) column
    ∙ ap (lose p (λ i. m i (first + n)) (first + n)) (updated-same p l m first n x (λ i k h1 h2. same i k h1 (omega arith)))

-- only the pivots from first to first + n - 1 matter
pub came_from-same : (v w : List ℕ) (first n i : ℕ) → ((k : ℕ) → first ≤ k → k < first + n → pivot_row v k ≡ pivot_row w k) → came_from v first n i ≡ came_from w first n i
unfolding came_from
came_from-same v w first zero i same = refl
came_from-same v w first (suc n) i same =
    ap (λ r. came_from v first n (swapped (first + n) r i)) (same (first + n) (omega arith) (omega arith))
    ∙ came_from-same v w first n (swapped (first + n) (pivot_row w (first + n)) i) (λ k h1 h2. same k h1 (omega arith))
