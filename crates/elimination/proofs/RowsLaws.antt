-- Laws on columns hold wherever they hold at the rows of the matrix, and the columns are zero past them: strips say no more.
use Rattle.std.proofs.Common.{◌≡◌, ℕ, ◌*◌, ◌%◌, ◌<◌, ◌≤◌, Bool, true, false, if◌then◌else◌, nat_lt, refl, sym, ◌∙◌, ap, arith, inl, inr}
use Rattle.std.proofs.lemmas.Bool.{cases_lt}
use Rattle.field_core.specs.Sums.{sum_to}
use Rattle.field_core.proofs.Sums.{sum_to-same, sum_to-zero}
use Rattle.elimination.specs.CodeLaw.{IsWeightedSum, Stage, Ahead, Open, Closed, code_part, low_part, open_part, IsCoded}

-- a sum with weights at all rows, from the rows below m and zeros past them
sums_from_rows : (p n m : ℕ) (w : ℕ → ℕ) (y y' : ℕ → ℕ → ℕ) (c c' : ℕ → ℕ) → ((i : ℕ) → c i % p ≡ sum_to n (λ q. w q * y q i) % p) → ((i : ℕ) → i < m → c' i ≡ c i) → ((q i : ℕ) → q < n → i < m → y' q i ≡ y q i) → ((i : ℕ) → m ≤ i → c' i ≡ 0) → ((q i : ℕ) → q < n → m ≤ i → y' q i ≡ 0) → (i : ℕ) → c' i % p ≡ sum_to n (λ q. w q * y' q i) % p
sums_from_rows p n m w y y' c c' sums same_code same past_code past i =
    elim (cases_lt i m) [
      | inl inside ↦
          ap (λ x. x % p) (same_code i inside) ∙ sums i
          ∙ ap (λ x. x % p) (sum_to-same n (λ q. w q * y q i) (λ q. w q * y' q i) (λ q h. ap (λ x. w q * x) (sym (same q i h inside))))
      | inr after ↦
          ap (λ x. x % p) (past_code i after ∙ sym (sum_to-same n (λ q. w q * y' q i) (λ q. 0) (λ q h. ap (λ x. w q * x) (past q i h after) ∙ nothing (w q)) ∙ sum_to-zero n))
    ]
  where
    nothing : (x : ℕ) → x * 0 ≡ 0
    nothing x = omega arith

pub weighted-rows : (p n m : ℕ) (w : ℕ → ℕ) (x x' : ℕ → ℕ → ℕ) (c c' : ℕ → ℕ) → IsWeightedSum p n w x c → ((i : ℕ) → i < m → c' i ≡ c i) → ((q i : ℕ) → q < n → i < m → x' q i ≡ x q i) → ((i : ℕ) → m ≤ i → c' i ≡ 0) → ((q i : ℕ) → q < n → m ≤ i → x' q i ≡ 0) → IsWeightedSum p n w x' c'
weighted-rows p n m w x x' c c' law same_code same past_code past = record { at = sums_from_rows p n m w x x' c c' law.at same_code same past_code past }

-- a part of a column reads it at its own row
if_same : (b : Bool) (x y : ℕ) → x ≡ y → (if b then x else 0) ≡ (if b then y else 0)
if_same b x y e = ap (λ z. if b then z else 0) e

if_not_same : (b : Bool) (x y : ℕ) → x ≡ y → (if b then 0 else x) ≡ (if b then 0 else y)
if_not_same b x y e = ap (λ z. if b then 0 else z) e

code_same : (g : Stage) (d : ℕ) (x y : ℕ → ℕ) (i : ℕ) → x i ≡ y i → code_part g d x i ≡ code_part g d y i
unfolding code_part
code_same Ahead d x y i e = e
code_same Open d x y i e = refl
code_same Closed d x y i e = if_not_same (nat_lt d i) (x i) (y i) e

low_same : (g : Stage) (d : ℕ) (x y : ℕ → ℕ) (i : ℕ) → x i ≡ y i → low_part g d x i ≡ low_part g d y i
unfolding low_part
low_same Ahead d x y i e = refl
low_same Open d x y i e = refl
low_same Closed d x y i e = if_same (nat_lt d i) (x i) (y i) e

open_same : (g : Stage) (d : ℕ) (x y : ℕ → ℕ) (i : ℕ) → x i ≡ y i → open_part g d x i ≡ open_part g d y i
unfolding open_part
open_same Ahead d x y i e = refl
open_same Open d x y i e = e
open_same Closed d x y i e = refl

if_none : (b : Bool) (x : ℕ) → (if b then x else x) ≡ x
if_none true x = refl
if_none false x = refl

code_none : (g : Stage) (d i : ℕ) → code_part g d (λ _. 0) i ≡ 0
unfolding code_part
code_none Ahead d i = refl
code_none Open d i = refl
code_none Closed d i = if_none (nat_lt d i) 0

low_none : (g : Stage) (d i : ℕ) → low_part g d (λ _. 0) i ≡ 0
unfolding low_part
low_none Ahead d i = refl
low_none Open d i = refl
low_none Closed d i = if_none (nat_lt d i) 0

open_none : (g : Stage) (d i : ℕ) → open_part g d (λ _. 0) i ≡ 0
unfolding open_part
open_none Ahead d i = refl
open_none Open d i = refl
open_none Closed d i = refl

pub coded-rows : (p n m : ℕ) (w : ℕ → ℕ) (stage : ℕ → Stage) (d : ℕ → ℕ) (x x' : ℕ → ℕ → ℕ) (code low open_words code' low' open' : ℕ → ℕ) → IsCoded p n w stage d x code low open_words → ((q i : ℕ) → q < n → i < m → x' q i ≡ x q i) → ((i : ℕ) → i < m → (code' i ≡ code i) × (low' i ≡ low i) × (open' i ≡ open_words i)) → ((q i : ℕ) → q < n → m ≤ i → x' q i ≡ 0) → ((i : ℕ) → m ≤ i → (code' i ≡ 0) × (low' i ≡ 0) × (open' i ≡ 0)) → IsCoded p n w stage d x' code' low' open'
coded-rows p n m w stage d x x' code low open_words code' low' open' law same here past none =
    record {
      code_is = sums_from_rows p n m w (λ q. code_part (stage q) (d q) (x q)) (λ q. code_part (stage q) (d q) (x' q)) code code' law.code_is (λ i h. (here i h).0)
          (λ q i hq h. code_same (stage q) (d q) (x' q) (x q) i (same q i hq h)) (λ i h. (none i h).0) (λ q i hq h. code_same (stage q) (d q) (x' q) (λ _. 0) i (past q i hq h) ∙ code_none (stage q) (d q) i);
      low_is = sums_from_rows p n m w (λ q. low_part (stage q) (d q) (x q)) (λ q. low_part (stage q) (d q) (x' q)) low low' law.low_is (λ i h. (here i h).1)
          (λ q i hq h. low_same (stage q) (d q) (x' q) (x q) i (same q i hq h)) (λ i h. (none i h).1) (λ q i hq h. low_same (stage q) (d q) (x' q) (λ _. 0) i (past q i hq h) ∙ low_none (stage q) (d q) i);
      open_is = sums_from_rows p n m w (λ q. open_part (stage q) (d q) (x q)) (λ q. open_part (stage q) (d q) (x' q)) open_words open' law.open_is (λ i h. (here i h).2)
          (λ q i hq h. open_same (stage q) (d q) (x' q) (x q) i (same q i hq h)) (λ i h. (none i h).2) (λ q i hq h. open_same (stage q) (d q) (x' q) (λ _. 0) i (past q i hq h) ∙ open_none (stage q) (d q) i);
    }
