-- Rows of an upper triangle, block after block from the last one up.
use Rattle.std.proofs.Common.{◌≡◌, ℕ, ◌+◌, ◌-◌, ◌*◌, ◌%◌, ◌<◌, ◌≤◌, Bool, true, false, nat_lt, refl, sym, ◌∙◌, ap, arith, inl, inr}
use Rattle.std.proofs.Math.Path.{fun_ext}
use Rattle.std.proofs.Math.Nat.{mod-mod}
use Rattle.std.proofs.lemmas.Bool.{cases_lt, lt-ltb, le-ltb}
use Rattle.field_core.specs.Sums.{sum_to}
use Rattle.field_core.proofs.Modular.{residues}
use Rattle.field_core.proofs.Sums.{sum_to-same, sum_to-split}
use Rattle.field_core.proofs.WeightedSums.{weighted-product_added}
use Rattle.local_blas.specs.Kernels.{upper_solution}
use Rattle.local_blas.proofs.UpperSolutions.{upper_solution-same, upper_solution-weighted, upper_solution-last_block, upper_solution-first_block}
use Rattle.elimination.specs.Solves.{upper_solved, upper_reduced, gained}
use Rattle.elimination.specs.CodeLaw.{IsWeightedSum}

pub upper_reduced-above : (p : ℕ) (inverse : ℕ → ℕ) (unit : Bool) (u : ℕ → ℕ → ℕ) (first n : ℕ) (x : ℕ → ℕ) (i : ℕ) → i < first → upper_reduced p inverse unit u first n x i ≡ (x i + (p - 1) * sum_to n (λ k. u i (first + k) * upper_solved p inverse unit u first n x k)) % p
unfolding upper_reduced
upper_reduced-above p inverse unit u first n x i h = (let t : nat_lt i first ≡ true = lt-ltb i first h in rw t refl)

pub upper_reduced-among : (p : ℕ) (inverse : ℕ → ℕ) (unit : Bool) (u : ℕ → ℕ → ℕ) (first n : ℕ) (x : ℕ → ℕ) (k : ℕ) → k < n → upper_reduced p inverse unit u first n x (first + k) ≡ upper_solved p inverse unit u first n x k
unfolding upper_reduced
upper_reduced-among p inverse unit u first n x k h =
    let t : nat_lt (first + k) first ≡ false = le-ltb (first + k) first (omega arith) in
    let v : nat_lt (first + k) (first + n) ≡ true = lt-ltb (first + k) (first + n) (omega arith) in
    rw (t, v) (ap (upper_solved p inverse unit u first n x) (let e : first + k - first ≡ k = omega arith in e))

pub upper_reduced-under : (p : ℕ) (inverse : ℕ → ℕ) (unit : Bool) (u : ℕ → ℕ → ℕ) (first n : ℕ) (x : ℕ → ℕ) (i : ℕ) → first + n ≤ i → upper_reduced p inverse unit u first n x i ≡ x i
unfolding upper_reduced
upper_reduced-under p inverse unit u first n x i h =
    let t : nat_lt i first ≡ false = le-ltb i first (omega arith) in
    let v : nat_lt i (first + n) ≡ false = le-ltb i (first + n) h in
    rw (t, v) refl

turn : (a b c : ℕ) → a + b + c ≡ a + (b + c)
turn a b c = omega arith

-- the last rows' words are those that all rows give
upper_solved-last : (p : ℕ) (inverse : ℕ → ℕ) (unit : Bool) (u : ℕ → ℕ → ℕ) (first m n : ℕ) (x : ℕ → ℕ) (k : ℕ) → k < n → upper_solved p inverse unit u (first + m) n x k ≡ upper_solved p inverse unit u first (m + n) x (m + k)
upper_solved-last p inverse unit u first m n x k h =
    let triangle : (λ (i k : ℕ). u (first + m + i) (first + m + k)) ≡ (λ i k. u (first + (m + i)) (first + (m + k))) =
    fun_ext (λ i. fun_ext (λ k. ap (λ r. u r (first + m + k)) (turn first m i) ∙ ap (u (first + (m + i))) (turn first m k))) in
    let right : (λ (i : ℕ). x (first + m + i)) ≡ (λ i. x (first + (m + i))) = fun_ext (λ i. ap x (turn first m i)) in
    ap (λ t. upper_solution p inverse unit n t (λ i. x (first + m + i)) k) triangle
    ∙ ap (λ b. upper_solution p inverse unit n (λ i k. u (first + (m + i)) (first + (m + k))) b k) right
    ∙ sym (upper_solution-last_block p inverse unit m n (λ i k. u (first + i) (first + k)) (λ i. x (first + i)) k h)

-- so are the first rows' words, once the last rows were taken off
upper_solved-first : (p : ℕ) (inverse : ℕ → ℕ) (unit : Bool) (u : ℕ → ℕ → ℕ) (first m n : ℕ) (x : ℕ → ℕ) (k : ℕ) → k < m → upper_solved p inverse unit u first m (upper_reduced p inverse unit u (first + m) n x) k ≡ upper_solved p inverse unit u first (m + n) x k
upper_solved-first p inverse unit u first m n x k h =
    let t : ℕ → ℕ → ℕ = λ i k. u (first + i) (first + k) in
    let b : ℕ → ℕ = λ i. x (first + i) in
    let taken : (i : ℕ) → i < m → upper_reduced p inverse unit u (first + m) n x (first + i) ≡ (b i + (p - 1) * sum_to n (λ k. t i (m + k) * upper_solution p inverse unit (m + n) t b (m + k))) % p =
    λ i hi. upper_reduced-above p inverse unit u (first + m) n x (first + i) (omega arith)
    ∙ ap (λ s. (x (first + i) + (p - 1) * s) % p)
    (sum_to-same n (λ k. u (first + i) (first + m + k) * upper_solved p inverse unit u (first + m) n x k) (λ k. t i (m + k) * upper_solution p inverse unit (m + n) t b (m + k))
    (λ k hk. ap (λ c. u (first + i) c * upper_solved p inverse unit u (first + m) n x k) (turn first m k) ∙ ap (λ y. t i (m + k) * y) (upper_solved-last p inverse unit u first m n x k hk))) in
    upper_solution-same p inverse unit m t t (λ i. upper_reduced p inverse unit u (first + m) n x (first + i)) (λ i. (b i + (p - 1) * sum_to n (λ k. t i (m + k) * upper_solution p inverse unit (m + n) t b (m + k))) % p) (λ r k _ _. refl) taken k h
    ∙ sym (upper_solution-first_block p inverse unit m n t b k h)

-- the rows first + m, .., and then the m ones before them, are the first m + n: block after block is all at once
pub upper_reduced-block : (p : ℕ) (inverse : ℕ → ℕ) (unit : Bool) (u : ℕ → ℕ → ℕ) (first m n : ℕ) (x : ℕ → ℕ) (i : ℕ) → upper_reduced p inverse unit u first m (upper_reduced p inverse unit u (first + m) n x) i ≡ upper_reduced p inverse unit u first (m + n) x i
upper_reduced-block p inverse unit u first m n x i =
    let y : ℕ → ℕ = upper_reduced p inverse unit u (first + m) n x in
    elim (cases_lt i first) [
      | inl above ↦
          (let f : ℕ → ℕ = λ k. u i (first + k) * upper_solved p inverse unit u first (m + n) x k in
          let last : sum_to n (λ k. u i (first + m + k) * upper_solved p inverse unit u (first + m) n x k) ≡ sum_to n (λ k. f (m + k)) =
          sum_to-same n (λ k. u i (first + m + k) * upper_solved p inverse unit u (first + m) n x k) (λ k. f (m + k))
          (λ k hk. ap (λ c. u i c * upper_solved p inverse unit u (first + m) n x k) (turn first m k) ∙ ap (λ s. u i (first + (m + k)) * s) (upper_solved-last p inverse unit u first m n x k hk)) in
          let front : sum_to m (λ k. u i (first + k) * upper_solved p inverse unit u first m y k) ≡ sum_to m f =
          sum_to-same m (λ k. u i (first + k) * upper_solved p inverse unit u first m y k) f (λ k hk. ap (λ s. u i (first + k) * s) (upper_solved-first p inverse unit u first m n x k hk)) in
          upper_reduced-above p inverse unit u first m y i above
          ∙ ap (λ s. (y i + (p - 1) * s) % p) front
          ∙ ap (λ z. (z + (p - 1) * sum_to m f) % p) (upper_reduced-above p inverse unit u (first + m) n x i (omega arith) ∙ ap (λ s. (x i + (p - 1) * s) % p) last)
          ∙ regroup p (x i) (p - 1) (sum_to m f) (sum_to n (λ k. f (m + k))) ∙ ap (λ s. (x i + (p - 1) * s) % p) (sym (sum_to-split m n f))
          ∙ sym (upper_reduced-above p inverse unit u first (m + n) x i above))
      | inr from ↦
          (elim (cases_lt i (first + m)) [
            | inl among ↦
                (let e : first + (i - first) ≡ i = omega arith in
                rw e at (upper_reduced-among p inverse unit u first m y (i - first) (omega arith) ∙ upper_solved-first p inverse unit u first m n x (i - first) (omega arith)
                ∙ sym (upper_reduced-among p inverse unit u first (m + n) x (i - first) (omega arith))))
            | inr past ↦
                upper_reduced-under p inverse unit u first m y i past
                ∙ (elim (cases_lt i (first + m + n)) [
                  | inl later ↦
                      (let k = i - (first + m) in
                      let e : first + m + k ≡ i = omega arith in
                      let f : first + (m + k) ≡ i = omega arith in
                      ap y (sym e) ∙ upper_reduced-among p inverse unit u (first + m) n x k (omega arith) ∙ upper_solved-last p inverse unit u first m n x k (omega arith)
                      ∙ sym (upper_reduced-among p inverse unit u first (m + n) x (m + k) (omega arith)) ∙ ap (upper_reduced p inverse unit u first (m + n) x) f)
                  | inr under ↦ upper_reduced-under p inverse unit u (first + m) n x i under ∙ sym (upper_reduced-under p inverse unit u first (m + n) x i (omega arith))
                ])
          ])
    ]
  where
    regroup : (p b c s t : ℕ) → ((b + c * t) % p + c * s) % p ≡ (b + c * (s + t)) % p
    regroup p b c s t = (let e : ((b + c * t) % p + c * s) % p ≡ ((b + c * t) + c * s) % p = simp residues in e) ∙ ap (λ n. n % p) (let e : (b + c * t) + c * s ≡ b + c * (s + t) = omega arith in e)

-- all rows together are the solution
pub upper_reduced-all : (p : ℕ) (inverse : ℕ → ℕ) (unit : Bool) (u : ℕ → ℕ → ℕ) (n : ℕ) (x : ℕ → ℕ) (i : ℕ) → i < n → upper_reduced p inverse unit u 0 n x i ≡ upper_solution p inverse unit n u x i
upper_reduced-all p inverse unit u n x i h =
    let at : (k : ℕ) → 0 + k ≡ k = λ k. omega arith in
    let triangle : (λ (i k : ℕ). u (0 + i) (0 + k)) ≡ u = fun_ext (λ i. fun_ext (λ k. ap (λ r. u r (0 + k)) (at i) ∙ ap (u i) (at k))) in
    let right : (λ (i : ℕ). x (0 + i)) ≡ x = fun_ext (λ i. ap x (at i)) in
    ap (upper_reduced p inverse unit u 0 n x) (sym (at i)) ∙ upper_reduced-among p inverse unit u 0 n x i h ∙ ap (λ t. upper_solution p inverse unit n t (λ i. x (0 + i)) i) triangle ∙ ap (λ b. upper_solution p inverse unit n u b i) right

-- rows of an upper triangle keep weighted sums
pub upper_reduced-weighted : (p : ℕ) (inverse : ℕ → ℕ) (n : ℕ) (unit : Bool) (w : ℕ → ℕ) (x : ℕ → ℕ → ℕ) (c : ℕ → ℕ) (u : ℕ → ℕ → ℕ) (first count : ℕ) → 0 < p → IsWeightedSum p n w x c → IsWeightedSum p n w (λ q. upper_reduced p inverse unit u first count (x q)) (upper_reduced p inverse unit u first count c)
upper_reduced-weighted p inverse n unit w x c u first count pos_p sum = record { at = at_row }
  where
    solved_word : (k : ℕ) → k < count → upper_solved p inverse unit u first count c k % p ≡ sum_to n (λ q. w q * upper_solved p inverse unit u first count (x q) k) % p
    solved_word k hk =
        ap (λ s. s % p) (upper_solution-weighted p inverse unit count (λ i k. u (first + i) (first + k)) n w (λ q i. x q (first + i)) (λ i. c (first + i)) pos_p (λ i _. sum.at (first + i)) k hk)
        ∙ mod-mod (sum_to n (λ q. w q * upper_solved p inverse unit u first count (x q) k)) p

    at_row : (i : ℕ) → upper_reduced p inverse unit u first count c i % p ≡ sum_to n (λ q. w q * upper_reduced p inverse unit u first count (x q) i) % p
    at_row i =
        elim (cases_lt i first) [
          | inl above ↦
              ap (λ s. s % p) (upper_reduced-above p inverse unit u first count c i above) ∙ mod-mod (c i + (p - 1) * sum_to count (λ k. u i (first + k) * upper_solved p inverse unit u first count c k)) p
              ∙ weighted-product_added p n count (p - 1) w (λ q. x q i) (λ k. u i (first + k)) (λ q k. upper_solved p inverse unit u first count (x q) k) (c i) (upper_solved p inverse unit u first count c) (sum.at i) solved_word
              ∙ ap (λ s. s % p) (sum_to-same n (λ q. w q * ((x q i + (p - 1) * sum_to count (λ k. u i (first + k) * upper_solved p inverse unit u first count (x q) k)) % p)) (λ q. w q * upper_reduced p inverse unit u first count (x q) i)
              (λ q _. ap (λ y. w q * y) (sym (upper_reduced-above p inverse unit u first count (x q) i above))))
          | inr from ↦
              (elim (cases_lt i (first + count)) [
                | inl among ↦
                    (let e : first + (i - first) ≡ i = omega arith in
                    rw e at (ap (λ s. s % p) (upper_reduced-among p inverse unit u first count c (i - first) (omega arith)) ∙ solved_word (i - first) (omega arith)
                    ∙ ap (λ s. s % p) (sum_to-same n (λ q. w q * upper_solved p inverse unit u first count (x q) (i - first)) (λ q. w q * upper_reduced p inverse unit u first count (x q) (first + (i - first)))
                    (λ q _. ap (λ y. w q * y) (sym (upper_reduced-among p inverse unit u first count (x q) (i - first) (omega arith)))))))
                | inr under ↦
                    ap (λ s. s % p) (upper_reduced-under p inverse unit u first count c i under) ∙ sum.at i
                    ∙ ap (λ s. s % p) (sum_to-same n (λ q. w q * x q i) (λ q. w q * upper_reduced p inverse unit u first count (x q) i) (λ q _. ap (λ y. w q * y) (sym (upper_reduced-under p inverse unit u first count (x q) i under))))
              ])
        ]

-- a product that is added keeps weighted sums
pub gained-weighted : (p n : ℕ) (w : ℕ → ℕ) (x y : ℕ → ℕ → ℕ) (c d : ℕ → ℕ) (a : ℕ) (l : ℕ → ℕ → ℕ) (count : ℕ) → IsWeightedSum p n w x c → IsWeightedSum p n w y d → IsWeightedSum p n w (λ q. gained p a l count (x q) (y q)) (gained p a l count c d)
gained-weighted p n w x y c d a l count sum right =
    record {
      at = λ i. mod-mod (c i + a * sum_to count (λ k. l i k * d k)) p ∙ weighted-product_added p n count a w (λ q. x q i) (l i) y (c i) d (sum.at i) (λ k _. right.at k);
    }
