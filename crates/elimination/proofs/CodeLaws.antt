use Rattle.std.proofs.Common.{◌≡◌, ℕ, zero, suc, ◌+◌, ◌-◌, ◌*◌, ◌%◌, ◌<◌, ◌≤◌, ◌≢◌, Bool, true, false, if◌then◌else◌, nat_lt, List, refl, sym, ◌∙◌, ap, arith, inl, inr}
use Rattle.std.proofs.Math.Nat.{mod-mod, mod-eq_of_lt}
use Rattle.std.proofs.lemmas.Bool.{cases_eq, cases_lt, lt-ltb, le-ltb}
use Rattle.std.proofs.lemmas.Nat.{mul-mod_second}
use Rattle.std.proofs.lemmas.Bool.Decides.{nat_tests}
use Rattle.field_core.specs.Sums.{sum_to}
use Rattle.field_core.proofs.Modular.{same_mod, same_sum, same_scaled}
use Rattle.field_core.proofs.Sums.{sum_to-same, sum_to-same_mod, sum_to-add, sum_to-zero, sum_to-suc, sum_to-none}
use Rattle.field_core.proofs.WeightedSums.{weighted-sum, weighted-product}
use Rattle.local_blas.specs.Kernels.{swapped, solution}
use Rattle.local_blas.proofs.SolutionLaws.{solution-weighted}
use Rattle.serial_model.specs.Elimination.{pivot_row, came_from, exchanged}
use Rattle.elimination.specs.Panels.{IsForward, solved, reduced, carried}
use Rattle.elimination.specs.CodeLaw.{IsWeightedSum, Stage, Ahead, Open, Closed, upper, lower, code_part, low_part, open_part, IsCoded, after_panel}
use Rattle.elimination.proofs.Exchanges.{swapped-below}
use Rattle.elimination.proofs.Reductions.{reduced-above}

-- an exchange of rows keeps weighted sums
pub exchanged-weighted : (p n : ℕ) (w : ℕ → ℕ) (x : ℕ → ℕ → ℕ) (c : ℕ → ℕ) (v : List ℕ) (first count : ℕ) → IsWeightedSum p n w x c → IsWeightedSum p n w (λ q. exchanged v first count (x q)) (exchanged v first count c)
exchanged-weighted p n w x c v first count sum = record { at = λ i. sum.at (came_from v first count i) }

pub solved-weighted : (p : ℕ) (inverse : ℕ → ℕ) (n : ℕ) (unit : Bool) (w : ℕ → ℕ) (x : ℕ → ℕ → ℕ) (c : ℕ → ℕ) (l : ℕ → ℕ → ℕ) (first k : ℕ) → 0 < p → IsWeightedSum p n w x c → solved p inverse unit l first c k ≡ sum_to n (λ q. w q * solved p inverse unit l first (x q) k) % p
solved-weighted p inverse n unit w x c l first k pos_p sum =
    solution-weighted p inverse unit (λ i k. l (first + i) (first + k)) n w (λ q i. x q (first + i)) (λ i. c (first + i)) pos_p (suc k) (λ i _. sum.at (first + i)) k (omega arith)

-- so does the solution with the product taken off
pub reduced-weighted : (p : ℕ) (inverse : ℕ → ℕ) (n : ℕ) (unit : Bool) (w : ℕ → ℕ) (x : ℕ → ℕ → ℕ) (c : ℕ → ℕ) (l : ℕ → ℕ → ℕ) (first count : ℕ) → 0 < p → IsWeightedSum p n w x c → IsWeightedSum p n w (λ q. reduced p inverse unit l first count (x q)) (reduced p inverse unit l first count c)
unfolding reduced
reduced-weighted p inverse n unit w x c l first count pos_p sum = record { at = at_row }
  where
    taken : (i : ℕ) → ((c i + (p - 1) * sum_to count (λ k. l i (first + k) * solved p inverse unit l first c k)) % p) % p ≡ sum_to n (λ q. w q * ((x q i + (p - 1) * sum_to count (λ k. l i (first + k) * solved p inverse unit l first (x q) k)) % p)) % p
    taken i =
        let parts : ℕ → ℕ = λ q. sum_to count (λ k. l i (first + k) * solved p inverse unit l first (x q) k) in
        let inner : sum_to count (λ k. l i (first + k) * solved p inverse unit l first c k) % p ≡ sum_to n (λ q. w q * parts q) % p =
        sum_to-same_mod p count (λ k. l i (first + k) * solved p inverse unit l first c k) (λ k. l i (first + k) * sum_to n (λ q. w q * solved p inverse unit l first (x q) k))
        (λ k _. same_scaled p (l i (first + k)) (solved p inverse unit l first c k) (sum_to n (λ q. w q * solved p inverse unit l first (x q) k)) (ap (λ s. s % p) (solved-weighted p inverse n unit w x c l first k pos_p sum) ∙ mod-mod (sum_to n (λ q. w q * solved p inverse unit l first (x q) k)) p))
        ∙ ap (λ s. s % p) (sym (weighted-product n count w (λ k. l i (first + k)) (λ q. solved p inverse unit l first (x q)))) in
        mod-mod (c i + (p - 1) * sum_to count (λ k. l i (first + k) * solved p inverse unit l first c k)) p
        ∙ same_sum p (c i) (sum_to n (λ q. w q * x q i)) ((p - 1) * sum_to count (λ k. l i (first + k) * solved p inverse unit l first c k)) ((p - 1) * sum_to n (λ q. w q * parts q))
        (sum.at i) (same_scaled p (p - 1) (sum_to count (λ k. l i (first + k) * solved p inverse unit l first c k)) (sum_to n (λ q. w q * parts q)) inner)
        ∙ ap (λ s. s % p) (sym (weighted-sum n (p - 1) w (λ q. x q i) parts))
        ∙ sym (sum_to-same_mod p n (λ q. w q * ((x q i + (p - 1) * parts q) % p)) (λ q. w q * (x q i + (p - 1) * parts q)) (λ q _. mul-mod_second (w q) (x q i + (p - 1) * parts q) p))

    at_row : (i : ℕ) → reduced p inverse unit l first count c i % p ≡ sum_to n (λ q. w q * reduced p inverse unit l first count (x q) i) % p
    at_row i =
        elim (cases_lt i first) [
          | inl above ↦ (let t : nat_lt i first ≡ true = lt-ltb i first above in simp t (sum.at i))
          | inr from ↦
              (let t : nat_lt i first ≡ false = le-ltb i first from in
              elim (cases_lt i (first + count)) [
                | inl among ↦ (let u : nat_lt i (first + count) ≡ true = lt-ltb i (first + count) among in
                    simp (t, u) (ap (λ s. s % p) (solved-weighted p inverse n unit w x c l first (i - first) pos_p sum) ∙ mod-mod (sum_to n (λ q. w q * solved p inverse unit l first (x q) (i - first))) p))
                | inr under ↦ (let u : nat_lt i (first + count) ≡ false = le-ltb i (first + count) under in simp (t, u) (taken i))
              ])
        ]

-- the action of a panel keeps weighted sums
pub carried-weighted : (p : ℕ) (inverse : ℕ → ℕ) (n : ℕ) (w : ℕ → ℕ) (x : ℕ → ℕ → ℕ) (c : ℕ → ℕ) (l : ℕ → ℕ → ℕ) (v : List ℕ) (first count : ℕ) → 0 < p → IsWeightedSum p n w x c → IsWeightedSum p n w (λ q. carried p inverse l v first count (x q)) (carried p inverse l v first count c)
carried-weighted p inverse n w x c l v first count pos_p sum =
    reduced-weighted p inverse n true w (λ q. exchanged v first count (x q)) (exchanged v first count c) l first count pos_p (exchanged-weighted p n w x c v first count sum)

came_from-above : (v : List ℕ) (first count i : ℕ) → IsForward v first count → i < first → came_from v first count i ≡ i
unfolding came_from
came_from-above v first zero i forward h = refl
came_from-above v first (suc n) i forward h =
    ap (came_from v first n) (swapped-below (first + n) (pivot_row v (first + n)) i (omega arith) (forward.down (first + n) (omega arith) (omega arith)))
    ∙ came_from-above v first n i (record { down = λ k h1 h2. forward.down k h1 (omega arith) }) h

swapped-stays_from : (lo j r i : ℕ) → lo ≤ j → j ≤ r → lo ≤ i → lo ≤ swapped j r i
swapped-stays_from lo j r i h1 h2 h3 = grind (arith, nat_tests)

came_from-from : (v : List ℕ) (first count i : ℕ) → IsForward v first count → first ≤ i → first ≤ came_from v first count i
unfolding came_from
came_from-from v first zero i forward h = h
came_from-from v first (suc n) i forward h =
    came_from-from v first n (swapped (first + n) (pivot_row v (first + n)) i) (record { down = λ k h1 h2. forward.down k h1 (omega arith) })
    (swapped-stays_from first (first + n) (pivot_row v (first + n)) i (omega arith) (forward.down (first + n) (omega arith) (omega arith)) h)

came_from-test : (v : List ℕ) (first count i d : ℕ) → IsForward v first count → d < first → nat_lt d (came_from v first count i) ≡ nat_lt d i
came_from-test v first count i d forward h =
    elim (cases_lt i first) [
      | inl above ↦ ap (nat_lt d) (came_from-above v first count i forward above)
      | inr from ↦
          (let h' : first ≤ came_from v first count i = came_from-from v first count i forward from in
          let t : nat_lt d i ≡ true = lt-ltb d i (omega arith) in
          lt-ltb d (came_from v first count i) (omega arith) ∙ sym t)
    ]

solved-zero : (p : ℕ) (inverse : ℕ → ℕ) (l : ℕ → ℕ → ℕ) (first : ℕ) (y : ℕ → ℕ) (k : ℕ) → 0 < p → ((i : ℕ) → first ≤ i → y i ≡ 0) → solved p inverse true l first y k ≡ 0
solved-zero p inverse l first y k pos_p zeros =
    solution-weighted p inverse true (λ i k. l (first + i) (first + k)) 0 (λ q. 0) (λ q i. 0) (λ i. y (first + i)) pos_p (suc k)
    (λ i _. ap (λ n. n % p) (zeros (first + i) (omega arith) ∙ sym (sum_to-none (λ q. 0 * 0)))) k (omega arith)
    ∙ ap (λ s. s % p) (sum_to-none (λ q. 0 * solution p inverse true (λ i k. l (first + i) (first + k)) (λ i. 0) k)) ∙ mod-eq_of_lt pos_p

-- a column of zeros from row first on is carried to zeros there
pub reduced-zero : (p : ℕ) (inverse : ℕ → ℕ) (l : ℕ → ℕ → ℕ) (first count : ℕ) (y : ℕ → ℕ) (i : ℕ) → 0 < p → ((i : ℕ) → first ≤ i → y i ≡ 0) → first ≤ i → reduced p inverse true l first count y i ≡ 0
unfolding reduced
reduced-zero p inverse l first count y i pos_p zeros h =
    let t : nat_lt i first ≡ false = le-ltb i first h in
    elim (cases_lt i (first + count)) [
      | inl among ↦ (let u : nat_lt i (first + count) ≡ true = lt-ltb i (first + count) among in rw (t, u) (solved-zero p inverse l first y (i - first) pos_p zeros))
      | inr under ↦
          (let u : nat_lt i (first + count) ≡ false = le-ltb i (first + count) under in
          let none : sum_to count (λ k. l i (first + k) * solved p inverse true l first y k) ≡ 0 =
          sum_to-same count (λ k. l i (first + k) * solved p inverse true l first y k) (λ k. 0) (λ k _. ap (λ n. l i (first + k) * n) (solved-zero p inverse l first y k pos_p zeros) ∙ (let e : l i (first + k) * 0 ≡ 0 = omega arith in e)) ∙ sum_to-zero count in
          rw (t, u) (ap (λ n. (n + (p - 1) * sum_to count (λ k. l i (first + k) * solved p inverse true l first y k)) % p) (zeros i h) ∙ ap (λ s. (0 + (p - 1) * s) % p) none
          ∙ ap (λ n. n % p) (let e : 0 + (p - 1) * 0 ≡ 0 = omega arith in e) ∙ mod-eq_of_lt pos_p))
    ]

upper-carried : (p : ℕ) (inverse : ℕ → ℕ) (l : ℕ → ℕ → ℕ) (v : List ℕ) (first count d : ℕ) (x : ℕ → ℕ) (i : ℕ) → 0 < p → IsForward v first count → d < first → carried p inverse l v first count (upper d x) i ≡ upper d (exchanged v first count x) i
upper-carried p inverse l v first count d x i pos_p forward h =
    elim (cases_lt i first) [
      | inl above ↦
          reduced-above p inverse true l first count (exchanged v first count (upper d x)) i above
          ∙ ap (λ b. if b then 0 else x (came_from v first count i)) (came_from-test v first count i d forward h)
      | inr from ↦
          (let t : nat_lt d i ≡ true = lt-ltb d i (omega arith) in
          reduced-zero p inverse l first count (exchanged v first count (upper d x)) i pos_p (λ r hr. zero_at r hr) from ∙ sym (ap (λ b. if b then 0 else x (came_from v first count i)) t))
    ]
  where
    zero_at : (r : ℕ) → first ≤ r → exchanged v first count (upper d x) r ≡ 0
    zero_at r hr =
        (let t : nat_lt d r ≡ true = lt-ltb d r (omega arith) in
        ap (λ b. if b then 0 else x (came_from v first count r)) (came_from-test v first count r d forward h ∙ t))

code_part-carried : (p : ℕ) (inverse : ℕ → ℕ) (l : ℕ → ℕ → ℕ) (v : List ℕ) (first count : ℕ) (g : Stage) (d : ℕ) (x : ℕ → ℕ) (i : ℕ) → 0 < p → IsForward v first count → (g ≡ Closed → d < first) → carried p inverse l v first count (code_part g d x) i ≡ code_part g d (after_panel p inverse l v first count g x) i
unfolding code_part after_panel
code_part-carried p inverse l v first count Ahead d x i pos_p forward h = refl
code_part-carried p inverse l v first count Open d x i pos_p forward h =
    elim (cases_lt i first) [
      | inl above ↦ reduced-above p inverse true l first count (λ r. 0) i above
      | inr from ↦ reduced-zero p inverse l first count (λ r. 0) i pos_p (λ r _. refl) from
    ]
code_part-carried p inverse l v first count Closed d x i pos_p forward h = upper-carried p inverse l v first count d x i pos_p forward (h refl)

low_part-exchanged : (p : ℕ) (inverse : ℕ → ℕ) (l : ℕ → ℕ → ℕ) (v : List ℕ) (first count : ℕ) (g : Stage) (d : ℕ) (x : ℕ → ℕ) (i : ℕ) → IsForward v first count → (g ≡ Closed → d < first) → exchanged v first count (low_part g d x) i ≡ low_part g d (after_panel p inverse l v first count g x) i
unfolding low_part after_panel
low_part-exchanged p inverse l v first count Ahead d x i forward h = refl
low_part-exchanged p inverse l v first count Open d x i forward h = refl
low_part-exchanged p inverse l v first count Closed d x i forward h =
    ap (λ b. if b then x (came_from v first count i) else 0) (came_from-test v first count i d forward (h refl))

open_part-stays : (p : ℕ) (inverse : ℕ → ℕ) (l : ℕ → ℕ → ℕ) (v : List ℕ) (first count : ℕ) (g : Stage) (d : ℕ) (x : ℕ → ℕ) (i : ℕ) → open_part g d x i ≡ open_part g d (after_panel p inverse l v first count g x) i
unfolding open_part after_panel
open_part-stays p inverse l v first count Ahead d x i = refl
open_part-stays p inverse l v first count Open d x i = refl
open_part-stays p inverse l v first count Closed d x i = refl

-- the law holds after a panel went over the group: Code is carried, and the rows of Low are exchanged
pub group-coded : (p : ℕ) (inverse : ℕ → ℕ) (n : ℕ) (w : ℕ → ℕ) (stage : ℕ → Stage) (d : ℕ → ℕ) (x : ℕ → ℕ → ℕ) (code low open_words : ℕ → ℕ) (l : ℕ → ℕ → ℕ) (v : List ℕ) (first count : ℕ) → 0 < p → IsForward v first count → ((q : ℕ) → q < n → stage q ≡ Closed → d q < first) → IsCoded p n w stage d x code low open_words → IsCoded p n w stage d (λ q. after_panel p inverse l v first count (stage q) (x q)) (carried p inverse l v first count code) (exchanged v first count low) open_words
group-coded p inverse n w stage d x code low open_words l v first count pos_p forward closed law =
    record {
      code_is = λ i. (carried-weighted p inverse n w (λ q. code_part (stage q) (d q) (x q)) code l v first count pos_p (record { at = law.code_is })).at i
          ∙ ap (λ s. s % p) (sum_to-same n (λ q. w q * carried p inverse l v first count (code_part (stage q) (d q) (x q)) i) (λ q. w q * code_part (stage q) (d q) (after_panel p inverse l v first count (stage q) (x q)) i)
          (λ q hq. ap (λ y. w q * y) (code_part-carried p inverse l v first count (stage q) (d q) (x q) i pos_p forward (closed q hq))));
      low_is = λ i. law.low_is (came_from v first count i)
          ∙ ap (λ s. s % p) (sum_to-same n (λ q. w q * exchanged v first count (low_part (stage q) (d q) (x q)) i) (λ q. w q * low_part (stage q) (d q) (after_panel p inverse l v first count (stage q) (x q)) i)
          (λ q hq. ap (λ y. w q * y) (low_part-exchanged p inverse l v first count (stage q) (d q) (x q) i forward (closed q hq))));
      open_is = λ i. law.open_is i
          ∙ ap (λ s. s % p) (sum_to-same n (λ q. w q * open_part (stage q) (d q) (x q) i) (λ q. w q * open_part (stage q) (d q) (after_panel p inverse l v first count (stage q) (x q)) i)
          (λ q hq. ap (λ y. w q * y) (open_part-stays p inverse l v first count (stage q) (d q) (x q) i)));
    }

-- where two sums differ in one term only
sum_to-but_one : (n : ℕ) (f g : ℕ → ℕ) (at : ℕ) → at < n → ((q : ℕ) → q < n → q ≢ at → f q ≡ g q) → sum_to n f + g at ≡ sum_to n g + f at
sum_to-but_one zero f g at h same = absurd (omega arith)
sum_to-but_one (suc n) f g at h same =
    elim (cases_eq at n) [
      | inl last ↦
          (let rest : sum_to n f ≡ sum_to n g = sum_to-same n f g (λ q hq. same q (omega arith) (omega arith)) in
          rw (last, sum_to-suc n f, sum_to-suc n g) (omega arith))
      | inr other ↦
          (let rest : sum_to n f + g at ≡ sum_to n g + f at = sum_to-but_one n f g at (omega arith) (λ q hq. same q (omega arith)) in
          let this : f n ≡ g n = same n (omega arith) (omega arith) in
          rw (sum_to-suc n f, sum_to-suc n g) (omega arith))
    ]

-- the stages and columns but for column `at` are as before
pub record IsSameBut (n at : ℕ) (stage stage' : ℕ → Stage) (x x' : ℕ → ℕ → ℕ) : Type 0 where
  pub stages : (q : ℕ) → q < n → q ≢ at → stage' q ≡ stage q
  pub columns : (q : ℕ) → q < n → q ≢ at → x' q ≡ x q

part-same : (n at : ℕ) (w : ℕ → ℕ) (stage stage' : ℕ → Stage) (d : ℕ → ℕ) (x x' : ℕ → ℕ → ℕ) (part : Stage → ℕ → (ℕ → ℕ) → ℕ → ℕ) (i : ℕ) → IsSameBut n at stage stage' x x' → (q : ℕ) → q < n → q ≢ at → w q * part (stage q) (d q) (x q) i ≡ w q * part (stage' q) (d q) (x' q) i
part-same n at w stage stage' d x x' part i same q h other =
    sym (ap (λ g. w q * part g (d q) (x' q) i) (same.stages q h other) ∙ ap (λ y. w q * part (stage q) (d q) y i) (same.columns q h other))

-- the sum of one part before and after a change of one column
part-changes : (n at : ℕ) (w : ℕ → ℕ) (stage stage' : ℕ → Stage) (d : ℕ → ℕ) (x x' : ℕ → ℕ → ℕ) (part : Stage → ℕ → (ℕ → ℕ) → ℕ → ℕ) (i : ℕ) → at < n → IsSameBut n at stage stage' x x' → sum_to n (λ q. w q * part (stage q) (d q) (x q) i) + w at * part (stage' at) (d at) (x' at) i ≡ sum_to n (λ q. w q * part (stage' q) (d q) (x' q) i) + w at * part (stage at) (d at) (x at) i
part-changes n at w stage stage' d x x' part i h same =
    sum_to-but_one n (λ q. w q * part (stage q) (d q) (x q) i) (λ q. w q * part (stage' q) (d q) (x' q) i) at h (part-same n at w stage stage' d x x' part i same)

code_part-open : (g : Stage) (d : ℕ) (x : ℕ → ℕ) (i : ℕ) → g ≡ Open → code_part g d x i ≡ 0
unfolding code_part
code_part-open g d x i e = ap (λ g. code_part g d x i) e

code_part-ahead : (g : Stage) (d : ℕ) (x : ℕ → ℕ) (i : ℕ) → g ≡ Ahead → code_part g d x i ≡ x i
unfolding code_part
code_part-ahead g d x i e = ap (λ g. code_part g d x i) e

code_part-closed : (g : Stage) (d : ℕ) (x : ℕ → ℕ) (i : ℕ) → g ≡ Closed → code_part g d x i ≡ upper d x i
unfolding code_part
code_part-closed g d x i e = ap (λ g. code_part g d x i) e

low_part-open : (g : Stage) (d : ℕ) (x : ℕ → ℕ) (i : ℕ) → g ≡ Open → low_part g d x i ≡ 0
unfolding low_part
low_part-open g d x i e = ap (λ g. low_part g d x i) e

low_part-ahead : (g : Stage) (d : ℕ) (x : ℕ → ℕ) (i : ℕ) → g ≡ Ahead → low_part g d x i ≡ 0
unfolding low_part
low_part-ahead g d x i e = ap (λ g. low_part g d x i) e

low_part-closed : (g : Stage) (d : ℕ) (x : ℕ → ℕ) (i : ℕ) → g ≡ Closed → low_part g d x i ≡ lower d x i
unfolding low_part
low_part-closed g d x i e = ap (λ g. low_part g d x i) e

open_part-open : (g : Stage) (d : ℕ) (x : ℕ → ℕ) (i : ℕ) → g ≡ Open → open_part g d x i ≡ x i
unfolding open_part
open_part-open g d x i e = ap (λ g. open_part g d x i) e

open_part-ahead : (g : Stage) (d : ℕ) (x : ℕ → ℕ) (i : ℕ) → g ≡ Ahead → open_part g d x i ≡ 0
unfolding open_part
open_part-ahead g d x i e = ap (λ g. open_part g d x i) e

open_part-not : (g : Stage) (d : ℕ) (x : ℕ → ℕ) (i : ℕ) → g ≢ Open → open_part g d x i ≡ 0
unfolding open_part
open_part-not Ahead d x i h = refl
open_part-not Open d x i h = absurd (h refl)
open_part-not Closed d x i h = refl

-- the three parts of a column are the column
parts-whole : (g : Stage) (d : ℕ) (x : ℕ → ℕ) (i : ℕ) → code_part g d x i + low_part g d x i + open_part g d x i ≡ x i
unfolding code_part low_part open_part
parts-whole Ahead d x i = omega arith
parts-whole Open d x i = omega arith
parts-whole Closed d x i = by_test (nat_lt d i)
  where
    by_test : (b : Bool) → (if b then 0 else x i) + (if b then x i else 0) + 0 ≡ x i
    by_test true = omega arith
    by_test false = omega arith

-- Code, Low and Open together are the weighted sum of the columns
pub coded-whole : (p n : ℕ) (w : ℕ → ℕ) (stage : ℕ → Stage) (d : ℕ → ℕ) (x : ℕ → ℕ → ℕ) (code low open_words : ℕ → ℕ) → IsCoded p n w stage d x code low open_words → IsWeightedSum p n w x (λ i. code i + low i + open_words i)
coded-whole p n w stage d x code low open_words law =
    record {
      at = λ i.
          (let cf : ℕ → ℕ = λ q. w q * code_part (stage q) (d q) (x q) i in
          let lf : ℕ → ℕ = λ q. w q * low_part (stage q) (d q) (x q) i in
          let of : ℕ → ℕ = λ q. w q * open_part (stage q) (d q) (x q) i in
          same_sum p (code i + low i) (sum_to n cf + sum_to n lf) (open_words i) (sum_to n of) (same_sum p (code i) (sum_to n cf) (low i) (sum_to n lf) (law.code_is i) (law.low_is i)) (law.open_is i)
          ∙ ap (λ s. s % p) (ap (λ s. s + sum_to n of) (sym (sum_to-add n cf lf)) ∙ sym (sum_to-add n (λ q. cf q + lf q) of)
          ∙ sum_to-same n (λ q. cf q + lf q + of q) (λ q. w q * x q i) (λ q _. spread (w q) (code_part (stage q) (d q) (x q) i) (low_part (stage q) (d q) (x q) i) (open_part (stage q) (d q) (x q) i) ∙ ap (λ y. w q * y) (parts-whole (stage q) (d q) (x q) i))));
    }
  where
    spread : (w a b c : ℕ) → w * a + w * b + w * c ≡ w * (a + b + c)
    spread w a b c = omega arith

-- the elimination begins: all columns stand ahead, and Low and Open are zero
pub coded-start : (p n : ℕ) (w : ℕ → ℕ) (d : ℕ → ℕ) (x : ℕ → ℕ → ℕ) (code : ℕ → ℕ) → IsWeightedSum p n w x code → IsCoded p n w (λ q. Ahead) d x code (λ i. 0) (λ i. 0)
unfolding code_part low_part open_part
coded-start p n w d x code sum =
    record { code_is = sum.at; low_is = λ i. none; open_is = λ i. none }
  where
    none : 0 % p ≡ sum_to n (λ q. w q * 0) % p
    none = ap (λ s. s % p) (sym (sum_to-same n (λ q. w q * 0) (λ q. 0) (λ q _. (let e : w q * 0 ≡ 0 = omega arith in e)) ∙ sum_to-zero n))

-- the panel phase: column `at` stood ahead and was eliminated to new words; Code loses the old ones, and Open takes the new ones
pub panel-coded : (p n at : ℕ) (w : ℕ → ℕ) (stage stage' : ℕ → Stage) (d : ℕ → ℕ) (x x' : ℕ → ℕ → ℕ) (code low code' open' : ℕ → ℕ) → 0 < p → at < n → stage at ≡ Ahead → stage' at ≡ Open → IsSameBut n at stage stage' x x' → ((i : ℕ) → code' i % p ≡ (code i + (p - 1) * (w at * x at i)) % p) → ((i : ℕ) → open' i % p ≡ (w at * x' at i) % p) → IsCoded p n w stage d x code low (λ i. 0) → IsCoded p n w stage' d x' code' low open'
panel-coded p n at w stage stage' d x x' code low code' open' pos_p h ahead opened same code_new open_new law =
    record { code_is = code_at; low_is = low_at; open_is = open_at }
  where
    take_off : (f g z : ℕ) → f + 0 ≡ g + z → (f + (p - 1) * z) % p ≡ g % p
    take_off f g z e =
        let one : (p - 1) + 1 ≡ p = omega arith in
        let times : ((p - 1) + 1) * z ≡ p * z = ap (λ n. n * z) one in
        same_mod p (f + (p - 1) * z) g 0 z (omega arith)

    code_at : (i : ℕ) → code' i % p ≡ sum_to n (λ q. w q * code_part (stage' q) (d q) (x' q) i) % p
    code_at i =
        let change : sum_to n (λ q. w q * code_part (stage q) (d q) (x q) i) + w at * code_part (stage' at) (d at) (x' at) i ≡ sum_to n (λ q. w q * code_part (stage' q) (d q) (x' q) i) + w at * code_part (stage at) (d at) (x at) i =
        part-changes n at w stage stage' d x x' code_part i h same in
        let gone : w at * code_part (stage' at) (d at) (x' at) i ≡ 0 = ap (λ y. w at * y) (code_part-open (stage' at) (d at) (x' at) i opened) ∙ (let e : w at * 0 ≡ 0 = omega arith in e) in
        let old : w at * code_part (stage at) (d at) (x at) i ≡ w at * x at i = ap (λ y. w at * y) (code_part-ahead (stage at) (d at) (x at) i ahead) in
        code_new i
        ∙ same_sum p (code i) (sum_to n (λ q. w q * code_part (stage q) (d q) (x q) i)) ((p - 1) * (w at * x at i)) ((p - 1) * (w at * x at i)) (law.code_is i) refl
        ∙ take_off (sum_to n (λ q. w q * code_part (stage q) (d q) (x q) i)) (sum_to n (λ q. w q * code_part (stage' q) (d q) (x' q) i)) (w at * x at i) (omega arith)

    low_at : (i : ℕ) → low i % p ≡ sum_to n (λ q. w q * low_part (stage' q) (d q) (x' q) i) % p
    low_at i =
        let change : sum_to n (λ q. w q * low_part (stage q) (d q) (x q) i) + w at * low_part (stage' at) (d at) (x' at) i ≡ sum_to n (λ q. w q * low_part (stage' q) (d q) (x' q) i) + w at * low_part (stage at) (d at) (x at) i =
        part-changes n at w stage stage' d x x' low_part i h same in
        let new : w at * low_part (stage' at) (d at) (x' at) i ≡ 0 = ap (λ y. w at * y) (low_part-open (stage' at) (d at) (x' at) i opened) ∙ (let e : w at * 0 ≡ 0 = omega arith in e) in
        let old : w at * low_part (stage at) (d at) (x at) i ≡ 0 = ap (λ y. w at * y) (low_part-ahead (stage at) (d at) (x at) i ahead) ∙ (let e : w at * 0 ≡ 0 = omega arith in e) in
        law.low_is i ∙ ap (λ s. s % p) (omega arith)

    open_at : (i : ℕ) → open' i % p ≡ sum_to n (λ q. w q * open_part (stage' q) (d q) (x' q) i) % p
    open_at i =
        let change : sum_to n (λ q. w q * open_part (stage q) (d q) (x q) i) + w at * open_part (stage' at) (d at) (x' at) i ≡ sum_to n (λ q. w q * open_part (stage' q) (d q) (x' q) i) + w at * open_part (stage at) (d at) (x at) i =
        part-changes n at w stage stage' d x x' open_part i h same in
        let new : w at * open_part (stage' at) (d at) (x' at) i ≡ w at * x' at i = ap (λ y. w at * y) (open_part-open (stage' at) (d at) (x' at) i opened) in
        let old : w at * open_part (stage at) (d at) (x at) i ≡ 0 = ap (λ y. w at * y) (open_part-ahead (stage at) (d at) (x at) i ahead) ∙ (let e : w at * 0 ≡ 0 = omega arith in e) in
        let whole : sum_to n (λ q. w q * open_part (stage q) (d q) (x q) i) + w at * x' at i ≡ sum_to n (λ q. w q * open_part (stage' q) (d q) (x' q) i) = omega arith in
        open_new i ∙ ap (λ n. n % p) (let e : w at * x' at i ≡ 0 + w at * x' at i = omega arith in e)
        ∙ same_sum p 0 (sum_to n (λ q. w q * open_part (stage q) (d q) (x q) i)) (w at * x' at i) (w at * x' at i) (law.open_is i) refl
        ∙ ap (λ s. s % p) whole

-- the closing: column `at` was the only open one; what Open holds at and above its diagonal goes into Code, and the rest into Low
pub close-coded : (p n at : ℕ) (w : ℕ → ℕ) (stage stage' : ℕ → Stage) (d : ℕ → ℕ) (x : ℕ → ℕ → ℕ) (code low open_words code' low' : ℕ → ℕ) → at < n → stage at ≡ Open → stage' at ≡ Closed → IsSameBut n at stage stage' x x → ((q : ℕ) → q < n → q ≢ at → stage q ≢ Open) → ((i : ℕ) → code' i % p ≡ (code i + upper (d at) open_words i) % p) → ((i : ℕ) → low' i % p ≡ (low i + lower (d at) open_words i) % p) → IsCoded p n w stage d x code low open_words → IsCoded p n w stage' d x code' low' (λ i. 0)
close-coded p n at w stage stage' d x code low open_words code' low' h opened closed same only code_new low_new law =
    record { code_is = code_at; low_is = low_at; open_is = open_at }
  where
    zero_product : (w y : ℕ) → y ≡ 0 → w * y ≡ 0
    zero_product w y e = ap (λ y. w * y) e ∙ (let z : w * 0 ≡ 0 = omega arith in z)

    not_open : Closed ≢ Open
    not_open e = cc

    -- what Open holds is the column's share
    share : (i : ℕ) → open_words i % p ≡ (w at * x at i) % p
    share i =
        let others : sum_to n (λ q. w q * open_part (stage q) (d q) (x q) i) + w at * 0 ≡ sum_to n (λ q. w q * 0) + w at * open_part (stage at) (d at) (x at) i =
        sum_to-but_one n (λ q. w q * open_part (stage q) (d q) (x q) i) (λ q. w q * 0) at h (λ q hq other. ap (λ y. w q * y) (open_part-not (stage q) (d q) (x q) i (only q hq other))) in
        let none : sum_to n (λ q. w q * 0) ≡ 0 = sum_to-same n (λ q. w q * 0) (λ q. 0) (λ q _. zero_product (w q) 0 refl) ∙ sum_to-zero n in
        let this : w at * open_part (stage at) (d at) (x at) i ≡ w at * x at i = ap (λ y. w at * y) (open_part-open (stage at) (d at) (x at) i opened) in
        law.open_is i ∙ ap (λ s. s % p) (omega arith)

    upper_share : (i : ℕ) → upper (d at) open_words i % p ≡ (w at * upper (d at) (x at) i) % p
    upper_share i = by_test (nat_lt (d at) i)
      where
        by_test : (b : Bool) → (if b then 0 else open_words i) % p ≡ (w at * (if b then 0 else x at i)) % p
        by_test true = ap (λ n. n % p) (sym (zero_product (w at) 0 refl))
        by_test false = share i

    lower_share : (i : ℕ) → lower (d at) open_words i % p ≡ (w at * lower (d at) (x at) i) % p
    lower_share i = by_test (nat_lt (d at) i)
      where
        by_test : (b : Bool) → (if b then open_words i else 0) % p ≡ (w at * (if b then x at i else 0)) % p
        by_test true = share i
        by_test false = ap (λ n. n % p) (sym (zero_product (w at) 0 refl))

    code_at : (i : ℕ) → code' i % p ≡ sum_to n (λ q. w q * code_part (stage' q) (d q) (x q) i) % p
    code_at i =
        let change : sum_to n (λ q. w q * code_part (stage q) (d q) (x q) i) + w at * code_part (stage' at) (d at) (x at) i ≡ sum_to n (λ q. w q * code_part (stage' q) (d q) (x q) i) + w at * code_part (stage at) (d at) (x at) i =
        part-changes n at w stage stage' d x x code_part i h same in
        let old : w at * code_part (stage at) (d at) (x at) i ≡ 0 = zero_product (w at) _ (code_part-open (stage at) (d at) (x at) i opened) in
        let new : w at * code_part (stage' at) (d at) (x at) i ≡ w at * upper (d at) (x at) i = ap (λ y. w at * y) (code_part-closed (stage' at) (d at) (x at) i closed) in
        let whole : sum_to n (λ q. w q * code_part (stage q) (d q) (x q) i) + w at * upper (d at) (x at) i ≡ sum_to n (λ q. w q * code_part (stage' q) (d q) (x q) i) =
        ap (λ y. sum_to n (λ q. w q * code_part (stage q) (d q) (x q) i) + y) (sym new) ∙ change ∙ ap (λ y. sum_to n (λ q. w q * code_part (stage' q) (d q) (x q) i) + y) old ∙ plus_zero _ in
        code_new i ∙ same_sum p (code i) (sum_to n (λ q. w q * code_part (stage q) (d q) (x q) i)) (upper (d at) open_words i) (w at * upper (d at) (x at) i) (law.code_is i) (upper_share i) ∙ ap (λ s. s % p) whole
      where
        plus_zero : (n : ℕ) → n + 0 ≡ n
        plus_zero n = omega arith

    low_at : (i : ℕ) → low' i % p ≡ sum_to n (λ q. w q * low_part (stage' q) (d q) (x q) i) % p
    low_at i =
        let change : sum_to n (λ q. w q * low_part (stage q) (d q) (x q) i) + w at * low_part (stage' at) (d at) (x at) i ≡ sum_to n (λ q. w q * low_part (stage' q) (d q) (x q) i) + w at * low_part (stage at) (d at) (x at) i =
        part-changes n at w stage stage' d x x low_part i h same in
        let old : w at * low_part (stage at) (d at) (x at) i ≡ 0 = zero_product (w at) _ (low_part-open (stage at) (d at) (x at) i opened) in
        let new : w at * low_part (stage' at) (d at) (x at) i ≡ w at * lower (d at) (x at) i = ap (λ y. w at * y) (low_part-closed (stage' at) (d at) (x at) i closed) in
        let whole : sum_to n (λ q. w q * low_part (stage q) (d q) (x q) i) + w at * lower (d at) (x at) i ≡ sum_to n (λ q. w q * low_part (stage' q) (d q) (x q) i) =
        ap (λ y. sum_to n (λ q. w q * low_part (stage q) (d q) (x q) i) + y) (sym new) ∙ change ∙ ap (λ y. sum_to n (λ q. w q * low_part (stage' q) (d q) (x q) i) + y) old ∙ plus_zero _ in
        low_new i ∙ same_sum p (low i) (sum_to n (λ q. w q * low_part (stage q) (d q) (x q) i)) (lower (d at) open_words i) (w at * lower (d at) (x at) i) (law.low_is i) (lower_share i) ∙ ap (λ s. s % p) whole
      where
        plus_zero : (n : ℕ) → n + 0 ≡ n
        plus_zero n = omega arith

    open_at : (i : ℕ) → 0 % p ≡ sum_to n (λ q. w q * open_part (stage' q) (d q) (x q) i) % p
    open_at i =
        ap (λ s. s % p) (sym (sum_to-same n (λ q. w q * open_part (stage' q) (d q) (x q) i) (λ q. 0)
        (λ q hq. zero_product (w q) _ (open_part-not (stage' q) (d q) (x q) i
        (elim (cases_eq q at) [
          | inl here ↦ (λ e. not_open (sym closed ∙ sym (ap stage' here) ∙ e))
          | inr other ↦ (λ e. only q hq other (sym (same.stages q hq other) ∙ e))
        ]))) ∙ sum_to-zero n))

-- the merge: with no column open, Code and Low together are the weighted sum of the columns
pub merge-coded : (p n : ℕ) (w : ℕ → ℕ) (stage : ℕ → Stage) (d : ℕ → ℕ) (x : ℕ → ℕ → ℕ) (code low code' : ℕ → ℕ) → ((i : ℕ) → code' i % p ≡ (code i + low i) % p) → IsCoded p n w stage d x code low (λ i. 0) → IsWeightedSum p n w x code'
merge-coded p n w stage d x code low code' new law =
    record { at = λ i. new i ∙ ap (λ n. n % p) (let e : code i + low i ≡ code i + low i + 0 = omega arith in e) ∙ (coded-whole p n w stage d x code low (λ i. 0) law).at i }

-- what two sums have in common may be taken off both
taken-off : (p a b c : ℕ) → 0 < p → (a + b) % p ≡ (c + b) % p → a % p ≡ c % p
taken-off p a b c pos_p e =
    let one : (p - 1) + 1 ≡ p = omega arith in
    let times : ((p - 1) + 1) * b ≡ p * b = ap (λ n. n * b) one in
    same_mod p a (a + b + (p - 1) * b) b 0 (omega arith) ∙ same_sum p (a + b) (c + b) ((p - 1) * b) ((p - 1) * b) e refl ∙ sym (same_mod p c (c + b + (p - 1) * b) b 0 (omega arith))

-- the law follows from the whole sum, and what Low and Open hold
pub coded-from_whole : (p n : ℕ) (w : ℕ → ℕ) (stage : ℕ → Stage) (d : ℕ → ℕ) (x : ℕ → ℕ → ℕ) (code low open_words : ℕ → ℕ) → 0 < p → IsWeightedSum p n w x (λ i. code i + low i + open_words i) → IsWeightedSum p n w (λ q. low_part (stage q) (d q) (x q)) low → IsWeightedSum p n w (λ q. open_part (stage q) (d q) (x q)) open_words → IsCoded p n w stage d x code low open_words
coded-from_whole p n w stage d x code low open_words pos_p whole low_sum open_sum =
    record {
      code_is = λ i.
          (let cf : ℕ → ℕ = λ q. w q * code_part (stage q) (d q) (x q) i in
          let lf : ℕ → ℕ = λ q. w q * low_part (stage q) (d q) (x q) i in
          let of : ℕ → ℕ = λ q. w q * open_part (stage q) (d q) (x q) i in
          let parts : sum_to n (λ q. w q * x q i) ≡ sum_to n cf + (sum_to n lf + sum_to n of) =
          sum_to-same n (λ q. w q * x q i) (λ q. cf q + (lf q + of q))
          (λ q _. ap (λ y. w q * y) (sym (parts-whole (stage q) (d q) (x q) i)) ∙ spread (w q) (code_part (stage q) (d q) (x q) i) (low_part (stage q) (d q) (x q) i) (open_part (stage q) (d q) (x q) i))
          ∙ sum_to-add n cf (λ q. lf q + of q) ∙ ap (λ s. sum_to n cf + s) (sum_to-add n lf of) in
          let rest : (low i + open_words i) % p ≡ (sum_to n lf + sum_to n of) % p = same_sum p (low i) (sum_to n lf) (open_words i) (sum_to n of) (low_sum.at i) (open_sum.at i) in
          taken-off p (code i) (sum_to n lf + sum_to n of) (sum_to n cf) pos_p
          (sym (same_sum p (code i) (code i) (low i + open_words i) (sum_to n lf + sum_to n of) refl rest)
          ∙ ap (λ s. s % p) (let e : code i + (low i + open_words i) ≡ code i + low i + open_words i = omega arith in e) ∙ whole.at i ∙ ap (λ s. s % p) parts));
      low_is = low_sum.at;
      open_is = open_sum.at;
    }
  where
    spread : (w a b c : ℕ) → w * (a + b + c) ≡ w * a + (w * b + w * c)
    spread w a b c = omega arith
