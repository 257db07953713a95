use Rattle.std.proofs.Common.{◌≡◌, ℕ, zero, suc, ◌+◌, ◌-◌, ◌*◌, ◌%◌, ◌<◌, ◌≤◌, Bool, true, false, nat_lt, refl, sym, ◌∙◌, ap, arith, inl, inr}
use Rattle.std.proofs.Math.Nat.{mod-eq_of_lt}
use Rattle.std.proofs.lemmas.Bool.{cases_eq, cases_lt, lt-ltb, le-ltb}
use Rattle.field_core.specs.Sums.{sum_to}
use Rattle.field_core.proofs.Modular.{residues}
use Rattle.field_core.proofs.Sums.{sum_to-none, sum_to-suc, sum_to-same}
use Rattle.local_blas.proofs.SolutionLaws.{solution-same, solution_is}
use Rattle.elimination.specs.Panels.{solved, reduced}
use Rattle.elimination.proofs.Exchanges.{lose, updated}

-- the words of a reduced column: above the rows, among them, and under them
pub reduced-above : (p : ℕ) (inverse : ℕ → ℕ) (unit : Bool) (l : ℕ → ℕ → ℕ) (first n : ℕ) (x : ℕ → ℕ) (i : ℕ) → i < first → reduced p inverse unit l first n x i ≡ x i
unfolding reduced
reduced-above p inverse unit l first n x i h = (let t : nat_lt i first ≡ true = lt-ltb i first h in rw t refl)

pub reduced-among : (p : ℕ) (inverse : ℕ → ℕ) (unit : Bool) (l : ℕ → ℕ → ℕ) (first n : ℕ) (x : ℕ → ℕ) (k : ℕ) → k < n → reduced p inverse unit l first n x (first + k) ≡ solved p inverse unit l first x k
unfolding reduced
reduced-among p inverse unit l first n x k h =
    let t : nat_lt (first + k) first ≡ false = le-ltb (first + k) first (omega arith) in
    let u : nat_lt (first + k) (first + n) ≡ true = lt-ltb (first + k) (first + n) (omega arith) in
    rw (t, u) (ap (solved p inverse unit l first x) (let e : first + k - first ≡ k = omega arith in e))

pub reduced-under : (p : ℕ) (inverse : ℕ → ℕ) (unit : Bool) (l : ℕ → ℕ → ℕ) (first n : ℕ) (x : ℕ → ℕ) (i : ℕ) → first + n ≤ i → reduced p inverse unit l first n x i ≡ (x i + (p - 1) * sum_to n (λ k. l i (first + k) * solved p inverse unit l first x k)) % p
unfolding reduced
reduced-under p inverse unit l first n x i h =
    let t : nat_lt i first ≡ false = le-ltb i first (omega arith) in
    let u : nat_lt i (first + n) ≡ false = le-ltb i (first + n) h in
    rw (t, u) refl

-- row j and those above it lose nothing
updated-stays : (p : ℕ) (l : ℕ → ℕ → ℕ) (first n : ℕ) (x : ℕ → ℕ) (i : ℕ) → i ≤ first + n → updated p l first (suc n) x i ≡ updated p l first n x i
unfolding updated lose
updated-stays p l first n x i h = (let t : nat_lt (first + n) i ≡ false = le-ltb (first + n) i h in rw t refl)

pub updated-kept : (p : ℕ) (l : ℕ → ℕ → ℕ) (first m : ℕ) (x : ℕ → ℕ) (i : ℕ) → i ≤ first + m → (n : ℕ) → m ≤ n → updated p l first n x i ≡ updated p l first m x i
updated-kept p l first m x i h zero le = ap (λ k. updated p l first k x i) (let e : 0 ≡ m = omega arith in e)
updated-kept p l first m x i h (suc n) le =
    elim (cases_eq m (suc n)) [
      | inl last ↦ ap (λ k. updated p l first k x i) (sym last)
      | inr other ↦ updated-stays p l first n x i (omega arith) ∙ updated-kept p l first m x i h n (omega arith)
    ]

-- word k of the solution
abbrev word_of : ℕ → (ℕ → ℕ → ℕ) → ℕ → (ℕ → ℕ) → ℕ → ℕ
word_of p l first x k = updated p l first k x (first + k)

-- a row past the first n ones has lost all products in one sum
updated-closed : (p : ℕ) (l : ℕ → ℕ → ℕ) (first : ℕ) (x : ℕ → ℕ) (i n : ℕ) → first + n ≤ i → x i < p → updated p l first n x i ≡ (x i + (p - 1) * sum_to n (λ k. l i (first + k) * word_of p l first x k)) % p
unfolding updated lose
updated-closed p l first x i zero h below =
    sym (ap (λ s. (x i + (p - 1) * s) % p) (sum_to-none (λ k. l i (first + k) * word_of p l first x k)) ∙ ap (λ n. n % p) (let e : x i + (p - 1) * 0 ≡ x i = omega arith in e) ∙ mod-eq_of_lt below)
updated-closed p l first x i (suc n) h below =
    let t : nat_lt (first + n) i ≡ true = lt-ltb (first + n) i (omega arith) in
    rw t (ap (λ y. (y + (p - 1) * (l i (first + n) * updated p l first n x (first + n))) % p) (updated-closed p l first x i n (omega arith) below)
    ∙ regroup p (x i) (p - 1) (sum_to n (λ k. l i (first + k) * word_of p l first x k)) (l i (first + n) * updated p l first n x (first + n))
    ∙ ap (λ s. (x i + (p - 1) * s) % p) (sym (sum_to-suc n (λ k. l i (first + k) * word_of p l first x k))))
  where
    regroup : (p x c s t : ℕ) → ((x + c * s) % p + c * t) % p ≡ (x + c * (s + t)) % p
    regroup p x c s t = (let e : ((x + c * s) % p + c * t) % p ≡ ((x + c * s) + c * t) % p = simp residues in e) ∙ ap (λ n. n % p) (let e : (x + c * s) + c * t ≡ x + c * (s + t) = omega arith in e)

solved-is : (p : ℕ) (inverse : ℕ → ℕ) (l : ℕ → ℕ → ℕ) (first : ℕ) (x : ℕ → ℕ) → ((i : ℕ) → x i < p) → (k : ℕ) → word_of p l first x k ≡ solved p inverse true l first x k
solved-is p inverse l first x below k =
    solution_is p inverse true (λ i k. l (first + i) (first + k)) (λ i. x (first + i)) (word_of p l first x) (suc k)
    (λ i _. updated-closed p l first x (first + i) i (omega arith) (below (first + i))) k (omega arith)

updated-above : (p : ℕ) (inverse : ℕ → ℕ) (l : ℕ → ℕ → ℕ) (first n : ℕ) (x : ℕ → ℕ) (i : ℕ) → i < first → updated p l first n x i ≡ reduced p inverse true l first n x i
unfolding reduced updated
updated-above p inverse l first n x i h = (let t : nat_lt i first ≡ true = lt-ltb i first h in rw t (updated-kept p l first 0 x i (omega arith) n (omega arith)))

updated-among : (p : ℕ) (inverse : ℕ → ℕ) (l : ℕ → ℕ → ℕ) (first n : ℕ) (x : ℕ → ℕ) → ((i : ℕ) → x i < p) → (k : ℕ) → k < n → updated p l first n x (first + k) ≡ reduced p inverse true l first n x (first + k)
unfolding reduced
updated-among p inverse l first n x below k h =
    let t : nat_lt (first + k) first ≡ false = le-ltb (first + k) first (omega arith) in
    let u : nat_lt (first + k) (first + n) ≡ true = lt-ltb (first + k) (first + n) (omega arith) in
    let e : first + k - first ≡ k = omega arith in
    rw (t, u) (updated-kept p l first k x (first + k) (omega arith) n (omega arith) ∙ solved-is p inverse l first x below k ∙ ap (solved p inverse true l first x) (sym e))

updated-below : (p : ℕ) (inverse : ℕ → ℕ) (l : ℕ → ℕ → ℕ) (first n : ℕ) (x : ℕ → ℕ) → ((i : ℕ) → x i < p) → (i : ℕ) → first + n ≤ i → updated p l first n x i ≡ reduced p inverse true l first n x i
unfolding reduced
updated-below p inverse l first n x below i h =
    let t : nat_lt i first ≡ false = le-ltb i first (omega arith) in
    let u : nat_lt i (first + n) ≡ false = le-ltb i (first + n) h in
    rw (t, u) (updated-closed p l first x i n h (below i)
    ∙ ap (λ s. (x i + (p - 1) * s) % p) (sum_to-same n (λ k. l i (first + k) * word_of p l first x k) (λ k. l i (first + k) * solved p inverse true l first x k) (λ k _. ap (λ y. l i (first + k) * y) (solved-is p inverse l first x below k))))

-- losing one column after another is solving by the triangle and taking off the product
pub updated-is : (p : ℕ) (inverse : ℕ → ℕ) (l : ℕ → ℕ → ℕ) (first n : ℕ) (x : ℕ → ℕ) → ((i : ℕ) → x i < p) → (i : ℕ) → updated p l first n x i ≡ reduced p inverse true l first n x i
updated-is p inverse l first n x below i =
    elim (cases_lt i first) [
      | inl above ↦ updated-above p inverse l first n x i above
      | inr from ↦
          (elim (cases_lt i (first + n)) [
            | inl among ↦
                (let e : first + (i - first) ≡ i = omega arith in
                rw e at (updated-among p inverse l first n x below (i - first) (omega arith)))
            | inr under ↦ updated-below p inverse l first n x below i under
          ])
    ]

-- reduced columns read the columns from first to first + n - 1 of the triangle alone
pub reduced-same : (p : ℕ) (inverse : ℕ → ℕ) (unit : Bool) (l l' : ℕ → ℕ → ℕ) (first n : ℕ) (x : ℕ → ℕ) → ((i k : ℕ) → first ≤ k → k < first + n → l i k ≡ l' i k) → (i : ℕ) → reduced p inverse unit l first n x i ≡ reduced p inverse unit l' first n x i
reduced-same p inverse unit l l' first n x same i =
    let among : (k : ℕ) → k < n → solved p inverse unit l first x k ≡ solved p inverse unit l' first x k =
    λ k hk. solution-same p inverse unit (λ i k. l (first + i) (first + k)) (λ i k. l' (first + i) (first + k)) (λ i. x (first + i)) (λ i. x (first + i)) k
    (λ r j hr hj. same (first + r) (first + j) (omega arith) (omega arith)) (λ r _. refl) in
    elim (cases_lt i first) [
      | inl above ↦ reduced-above p inverse unit l first n x i above ∙ sym (reduced-above p inverse unit l' first n x i above)
      | inr from ↦
          (elim (cases_lt i (first + n)) [
            | inl inside ↦
                (let e : first + (i - first) ≡ i = omega arith in
                rw e at (reduced-among p inverse unit l first n x (i - first) (omega arith) ∙ among (i - first) (omega arith) ∙ sym (reduced-among p inverse unit l' first n x (i - first) (omega arith))))
            | inr under ↦
                reduced-under p inverse unit l first n x i under
                ∙ ap (λ s. (x i + (p - 1) * s) % p) (sum_to-same n (λ k. l i (first + k) * solved p inverse unit l first x k) (λ k. l' i (first + k) * solved p inverse unit l' first x k)
                (λ k hk. ap (λ y. y * solved p inverse unit l first x k) (same i (first + k) (omega arith) (omega arith)) ∙ ap (λ y. l' i (first + k) * y) (among k hk)))
                ∙ sym (reduced-under p inverse unit l' first n x i under)
          ])
    ]
