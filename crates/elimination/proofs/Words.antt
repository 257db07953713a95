use Rattle.std.proofs.Common.{◌≡◌, ℕ, suc, ◌+◌, ◌-◌, ◌*◌, ◌%◌, ◌<◌, ◌≤◌, ◌==◌, min, Bool, true, false, if◌then◌else◌, nat_lt, List, [], length, refl, ◌∙◌, ap, arith, inl, inr, eq-eqb}
use Rattle.std.proofs.Math.Nat.{mod-lt}
use Rattle.std.proofs.lemmas.Bool.{cases_lt, lt-ltb, le-ltb, ne_eqb}
use Rattle.field_core.proofs.Modular.{same_mod}
use Rattle.run_data.specs.Matrix.{Matrix, entry, IsShaped, AreWords}
use Rattle.run_data.proofs.Matrices.{entry-past}
use Rattle.local_blas.specs.Kernels.{swapped}
use Rattle.local_blas.proofs.Solutions.{solution-below}
use Rattle.serial_model.specs.Elimination.{divide, subtract, Eliminated, eliminate_columns, untouched, elimination, pivot_row, came_from, exchanged}
use Rattle.elimination.specs.Panels.{IsReady, reduced, carried}
use Rattle.elimination.specs.Whole.{whole_state}
use Rattle.elimination.proofs.PanelLaws.{ready-columns, columns-pivots, column-carried}
use Rattle.elimination.proofs.CodeLaws.{reduced-zero}

-- the multiplier of row i
abbrev pub multiplier_at : ℕ → (ℕ → ℕ) → ℕ → (ℕ → ℕ → ℕ) → ℕ → ℕ
multiplier_at p inverse j a i = (a i j * inverse (a j j)) % p

-- the words at and above row j, and those left of column j, stay
pub column-above : (p : ℕ) (inverse : ℕ → ℕ) (j : ℕ) (a : ℕ → ℕ → ℕ) (i k : ℕ) → i ≤ j → subtract p j (divide p inverse j a) i k ≡ a i k
unfolding subtract divide
column-above p inverse j a i k h =
    (let t : nat_lt j i ≡ false = le-ltb j i h in
    simp t (by_tests (nat_lt j k) (k == j)))
  where
    by_tests : (b c : Bool) → (if b then (if c then a i k else a i k) else (if c then a i k else a i k)) ≡ a i k
    by_tests true true = refl
    by_tests true false = refl
    by_tests false true = refl
    by_tests false false = refl

pub column-left : (p : ℕ) (inverse : ℕ → ℕ) (j : ℕ) (a : ℕ → ℕ → ℕ) (i k : ℕ) → k < j → subtract p j (divide p inverse j a) i k ≡ a i k
unfolding subtract divide
column-left p inverse j a i k h =
    (let t : nat_lt j k ≡ false = le-ltb j k (omega arith) in
    let u : (k == j) ≡ false = ne_eqb k j (omega arith) in
    simp (t, u))

-- below row j, column j has the multipliers
pub column-multiplier : (p : ℕ) (inverse : ℕ → ℕ) (j : ℕ) (a : ℕ → ℕ → ℕ) (i : ℕ) → j < i → subtract p j (divide p inverse j a) i j ≡ multiplier_at p inverse j a i
unfolding subtract divide
column-multiplier p inverse j a i h =
    (let t : nat_lt j j ≡ false = le-ltb j j (omega arith) in
    let u : (j == j) ≡ true = eq-eqb j j refl in
    let v : nat_lt j i ≡ true = lt-ltb j i h in
    simp (t, u, v))

-- and the columns right of it lose the multiplier times the pivot's row
pub column-right : (p : ℕ) (inverse : ℕ → ℕ) (j : ℕ) (a : ℕ → ℕ → ℕ) (i k : ℕ) → j < i → j < k → subtract p j (divide p inverse j a) i k ≡ (a i k + (p - 1) * (multiplier_at p inverse j a i * a j k)) % p
unfolding subtract divide
column-right p inverse j a i k h hk =
    (let t : nat_lt j j ≡ false = le-ltb j j (omega arith) in
    let u : (j == j) ≡ true = eq-eqb j j refl in
    let v : nat_lt j i ≡ true = lt-ltb j i h in
    let x : nat_lt j k ≡ true = lt-ltb j k hk in
    let y : (k == j) ≡ false = ne_eqb k j (omega arith) in
    simp (t, u, v, x, y))

-- one exchange more
pub exchanged-next : (v : List ℕ) (first n : ℕ) (x : ℕ → ℕ) (i : ℕ) → exchanged v first (suc n) x i ≡ exchanged v first n x (swapped (first + n) (pivot_row v (first + n)) i)
unfolding came_from
exchanged-next v first n x i = refl

if-below : (b : Bool) (x y p : ℕ) → x < p → y < p → (if b then x else y) < p
if-below true x y p hx hy = hx
if-below false x y p hx hy = hy

-- words below p give words below p
pub reduced-is_below : (p : ℕ) (inverse : ℕ → ℕ) (unit : Bool) (l : ℕ → ℕ → ℕ) (first n : ℕ) (x : ℕ → ℕ) (i : ℕ) → 0 < p → x i < p → reduced p inverse unit l first n x i < p
unfolding reduced
reduced-is_below p inverse unit l first n x i pos_p h =
    if-below (nat_lt i first) _ _ p h
    (if-below (nat_lt i (first + n)) _ _ p (solution-below p inverse unit (λ i k. l (first + i) (first + k)) (λ i. x (first + i)) (i - first) pos_p) (mod-lt _ pos_p))

-- a column of zeros, as the padding of a strip is, stays one
pub carried-zero : (p : ℕ) (inverse : ℕ → ℕ) (l : ℕ → ℕ → ℕ) (v : List ℕ) (first n : ℕ) (x : ℕ → ℕ) (i : ℕ) → 0 < p → ((i : ℕ) → x i ≡ 0) → carried p inverse l v first n x i ≡ 0
unfolding reduced
carried-zero p inverse l v first n x i pos_p zeros =
    elim (cases_lt i first) [
      | inl above ↦ (let t : nat_lt i first ≡ true = lt-ltb i first above in rw t (zeros (came_from v first n i)))
      | inr from ↦ reduced-zero p inverse l first n (exchanged v first n x) i pos_p (λ r _. zeros (came_from v first n r)) from
    ]

pub zero-column : (p : ℕ) (inverse : ℕ → ℕ) (m first n : ℕ) (s : Eliminated) (i k : ℕ) → first + n ≤ m → IsReady p m first s → first + n ≤ k → ((i : ℕ) → s.words i k ≡ 0) → (eliminate_columns p inverse m first n s).words i k ≡ 0
zero-column p inverse m first n s i k h ready hk zeros =
    column-carried p inverse m first n s i k h ready hk
    ∙ carried-zero p inverse (eliminate_columns p inverse m first n s).words (eliminate_columns p inverse m first n s).pivots first n (λ r. s.words r k) i (omega (arith, ready.below 0 0)) zeros

-- the words of a matrix are ready for what is left of an elimination after some pivots
pub ready_whole : (p : ℕ) (a : Matrix) (v : List ℕ) (first : ℕ) → IsShaped a → AreWords p a → length v ≡ first → IsReady p a.rows first (whole_state a v)
ready_whole p a v first shaped words count = record { below = words.below; past = λ i k h. entry-past a shaped i k h; count = count }

-- and for all of it
pub ready-matrix : (p : ℕ) (a : Matrix) → IsShaped a → AreWords p a → IsReady p a.rows 0 (untouched (entry a))
ready-matrix p a shaped words = ready_whole p a [] 0 shaped words refl

-- the elimination gives words, zeros past the rows, and as many pivots as columns were eliminated
pub elimination-ready : (p : ℕ) (inverse : ℕ → ℕ) (m n : ℕ) (a : ℕ → ℕ → ℕ) → IsReady p m 0 (untouched a) → IsReady p m (min m n) (elimination p inverse m n a)
unfolding elimination
elimination-ready p inverse m n a ready =
    (let at : 0 + min m n ≡ min m n = omega arith in
    rw at at (ready-columns p inverse m 0 (min m n) (untouched a) (omega arith) ready))

pub elimination-pivots : (p : ℕ) (inverse : ℕ → ℕ) (m n : ℕ) (a : ℕ → ℕ → ℕ) → IsReady p m 0 (untouched a) → (k : ℕ) → k < min m n → (k ≤ pivot_row (elimination p inverse m n a).pivots k) × (pivot_row (elimination p inverse m n a).pivots k < m)
unfolding elimination
elimination-pivots p inverse m n a ready k h = columns-pivots p inverse m 0 (min m n) (untouched a) k (omega arith) ready (omega arith) (omega arith)

-- adding the negative of a weight times a word takes the product off
pub negative_weight : (p w c x : ℕ) → 0 < p → w ≤ p → (c + (p - w) * x) % p ≡ (c + (p - 1) * (w * x)) % p
negative_weight p w c x pos_p h =
    let d = p - w in
    let e = p - 1 in
    let dw : d + w ≡ p = omega arith in
    let one : e + 1 ≡ p = omega arith in
    let dx : (d + w) * x ≡ p * x = ap (λ n. n * x) dw in
    let ex : (e + 1) * (w * x) ≡ p * (w * x) = ap (λ n. n * (w * x)) one in
    same_mod p (c + d * x) (c + e * (w * x)) (w * x) x (omega arith)
