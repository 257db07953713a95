use Rattle.std.proofs.Common.{◌≡◌, ℕ, suc, ◌+◌, ◌-◌, ◌*◌, ◌%◌, ◌<◌, Bool, true, false, List, sym, ◌∙◌, ap, arith, inl, inr}
use Rattle.std.proofs.Math.Path.{fun_ext}
use Rattle.std.proofs.Math.Nat.{mod-mod}
use Rattle.std.proofs.lemmas.Bool.{cases_lt}
use Rattle.field_core.specs.Sums.{sum_to}
use Rattle.field_core.proofs.Sums.{sum_to-same}
use Rattle.field_core.proofs.WeightedSums.{weighted-scaled}
use Rattle.local_blas.specs.Kernels.{solution, upper_solution}
use Rattle.local_blas.proofs.Products.{product-split}
use Rattle.local_blas.proofs.SolutionLaws.{solution-weighted, solution-block}
use Rattle.serial_model.specs.Elimination.{exchanged}
use Rattle.serial_model.specs.Solves.{solved_column, solved_with_factors}
use Rattle.elimination.specs.Panels.{solved, reduced}
use Rattle.elimination.specs.CodeLaw.{IsWeightedSum}
use Rattle.elimination.proofs.CodeLaws.{exchanged-weighted}
use Rattle.elimination.proofs.Reductions.{reduced-above, reduced-among, reduced-under}

-- the lower solution keeps weighted sums
pub solution-keeps : (p : ℕ) (inverse : ℕ → ℕ) (n : ℕ) (w : ℕ → ℕ) (x : ℕ → ℕ → ℕ) (c : ℕ → ℕ) (unit : Bool) (l : ℕ → ℕ → ℕ) → 0 < p → IsWeightedSum p n w x c → IsWeightedSum p n w (λ q. solution p inverse unit l (x q)) (solution p inverse unit l c)
solution-keeps p inverse n w x c unit l pos_p sum =
    record { at = λ i. ap (λ s. s % p) (solution-weighted p inverse unit l n w x c pos_p (suc i) (λ k _. sum.at k) i (omega arith)) ∙ mod-mod (sum_to n (λ q. w q * solution p inverse unit l (x q) i)) p }

-- so does the upper one
pub upper_solution-keeps : (p : ℕ) (inverse : ℕ → ℕ) (n : ℕ) (w : ℕ → ℕ) (x : ℕ → ℕ → ℕ) (c : ℕ → ℕ) (unit : Bool) (u : ℕ → ℕ → ℕ) (rows : ℕ) → 0 < p → IsWeightedSum p n w x c → IsWeightedSum p n w (λ q. upper_solution p inverse unit rows u (x q)) (upper_solution p inverse unit rows u c)
upper_solution-keeps p inverse n w x c unit u rows pos_p sum =
    record {
      at = λ i. (solution-keeps p inverse n w (λ q i. x q (rows - 1 - i)) (λ i. c (rows - 1 - i)) unit (λ i k. u (rows - 1 - i) (rows - 1 - k)) pos_p (record { at = λ k. sum.at (rows - 1 - k) })).at (rows - 1 - i);
    }

-- so does a solve by either triangle
pub solved_column-keeps : (p : ℕ) (inverse : ℕ → ℕ) (n : ℕ) (w : ℕ → ℕ) (x : ℕ → ℕ → ℕ) (c : ℕ → ℕ) (is_lower unit : Bool) (a : ℕ → ℕ → ℕ) (rows : ℕ) → 0 < p → IsWeightedSum p n w x c → IsWeightedSum p n w (λ q. solved_column p inverse is_lower unit rows a (x q)) (solved_column p inverse is_lower unit rows a c)
solved_column-keeps p inverse n w x c true unit a rows pos_p sum = solution-keeps p inverse n w x c unit a pos_p sum
solved_column-keeps p inverse n w x c false unit a rows pos_p sum = upper_solution-keeps p inverse n w x c unit a rows pos_p sum

-- and the multiple by one factor
pub scaled-keeps : (p n : ℕ) (w : ℕ → ℕ) (x : ℕ → ℕ → ℕ) (c : ℕ → ℕ) (alpha : ℕ) → IsWeightedSum p n w x c → IsWeightedSum p n w (λ q i. (x q i * alpha) % p) (λ i. (c i * alpha) % p)
scaled-keeps p n w x c alpha sum = record { at = λ i. mod-mod (c i * alpha) p ∙ weighted-scaled p n alpha w (λ q. x q i) (c i) (sum.at i) }

-- the solve with factors keeps weighted sums
pub factors-keep : (p : ℕ) (inverse : ℕ → ℕ) (n : ℕ) (w : ℕ → ℕ) (x : ℕ → ℕ → ℕ) (c : ℕ → ℕ) (a : ℕ → ℕ → ℕ) (v : List ℕ) (rows : ℕ) → 0 < p → IsWeightedSum p n w x c → IsWeightedSum p n w (λ q. solved_with_factors p inverse a v rows (x q)) (solved_with_factors p inverse a v rows c)
factors-keep p inverse n w x c a v rows pos_p sum =
    upper_solution-keeps p inverse n w (λ q. solution p inverse true a (exchanged v 0 rows (x q))) (solution p inverse true a (exchanged v 0 rows c)) false a rows pos_p
    (solution-keeps p inverse n w (λ q. exchanged v 0 rows (x q)) (exchanged v 0 rows c) true a pos_p (exchanged-weighted p n w x c v 0 rows sum))

-- the words that the next rows give are those that all rows give
solved-block : (p : ℕ) (inverse : ℕ → ℕ) (unit : Bool) (l : ℕ → ℕ → ℕ) (first m : ℕ) (x : ℕ → ℕ) (k : ℕ) → solved p inverse unit l (first + m) (reduced p inverse unit l first m x) k ≡ solved p inverse unit l first x (m + k)
solved-block p inverse unit l first m x k =
    let triangle : (λ (i k : ℕ). l (first + m + i) (first + m + k)) ≡ (λ i k. l (first + (m + i)) (first + (m + k))) =
    fun_ext (λ i. fun_ext (λ k. ap (λ r. l r (first + m + k)) (turn first m i) ∙ ap (l (first + (m + i))) (turn first m k))) in
    let right : (λ (i : ℕ). reduced p inverse unit l first m x (first + m + i)) ≡ (λ i. (x (first + (m + i)) + (p - 1) * sum_to m (λ k. l (first + (m + i)) (first + k) * solved p inverse unit l first x k)) % p) =
    fun_ext (λ i. reduced-under p inverse unit l first m x (first + m + i) (omega arith) ∙ ap (λ r. (x r + (p - 1) * sum_to m (λ k. l r (first + k) * solved p inverse unit l first x k)) % p) (turn first m i)) in
    ap (λ t. solution p inverse unit t (λ i. reduced p inverse unit l first m x (first + m + i)) k) triangle
    ∙ ap (λ b. solution p inverse unit (λ i k. l (first + (m + i)) (first + (m + k))) b k) right
    ∙ sym (solution-block p inverse unit (λ i k. l (first + i) (first + k)) (λ i. x (first + i)) m (suc k) k (omega arith))
  where
    turn : (a b c : ℕ) → a + b + c ≡ a + (b + c)
    turn a b c = omega arith

-- the first m rows, and then the next n, are the first m + n: block after block is all at once
pub reduced-block : (p : ℕ) (inverse : ℕ → ℕ) (unit : Bool) (l : ℕ → ℕ → ℕ) (first m n : ℕ) (x : ℕ → ℕ) (i : ℕ) → reduced p inverse unit l (first + m) n (reduced p inverse unit l first m x) i ≡ reduced p inverse unit l first (m + n) x i
reduced-block p inverse unit l first m n x i =
    elim (cases_lt i (first + m)) [
      | inl before ↦
          reduced-above p inverse unit l (first + m) n (reduced p inverse unit l first m x) i before
          ∙ (elim (cases_lt i first) [
            | inl above ↦ reduced-above p inverse unit l first m x i above ∙ sym (reduced-above p inverse unit l first (m + n) x i above)
            | inr from ↦
                (let e : first + (i - first) ≡ i = omega arith in
                rw e at (reduced-among p inverse unit l first m x (i - first) (omega arith) ∙ sym (reduced-among p inverse unit l first (m + n) x (i - first) (omega arith))))
          ])
      | inr from ↦
          (elim (cases_lt i (first + m + n)) [
            | inl among ↦
                (let k = i - (first + m) in
                let e : first + m + k ≡ i = omega arith in
                let f : first + (m + k) ≡ i = omega arith in
                let left : reduced p inverse unit l (first + m) n (reduced p inverse unit l first m x) (first + m + k) ≡ solved p inverse unit l first x (m + k) =
                reduced-among p inverse unit l (first + m) n (reduced p inverse unit l first m x) k (omega arith) ∙ solved-block p inverse unit l first m x k in
                let right : reduced p inverse unit l first (m + n) x (first + (m + k)) ≡ solved p inverse unit l first x (m + k) = reduced-among p inverse unit l first (m + n) x (m + k) (omega arith) in
                ap (reduced p inverse unit l (first + m) n (reduced p inverse unit l first m x)) (sym e) ∙ left ∙ sym right ∙ ap (reduced p inverse unit l first (m + n) x) f)
            | inr under ↦
                (let f : ℕ → ℕ = λ k. l i (first + k) * solved p inverse unit l first x k in
                let same : sum_to n (λ k. l i (first + m + k) * solved p inverse unit l (first + m) (reduced p inverse unit l first m x) k) ≡ sum_to n (λ k. f (m + k)) =
                sum_to-same n (λ k. l i (first + m + k) * solved p inverse unit l (first + m) (reduced p inverse unit l first m x) k) (λ k. f (m + k))
                (λ k _. ap (λ r. l i r * solved p inverse unit l (first + m) (reduced p inverse unit l first m x) k) (turn first m k) ∙ ap (λ y. l i (first + (m + k)) * y) (solved-block p inverse unit l first m x k)) in
                reduced-under p inverse unit l (first + m) n (reduced p inverse unit l first m x) i (omega arith)
                ∙ ap (λ y. (y + (p - 1) * sum_to n (λ k. l i (first + m + k) * solved p inverse unit l (first + m) (reduced p inverse unit l first m x) k)) % p) (reduced-under p inverse unit l first m x i (omega arith))
                ∙ ap (λ s. ((x i + (p - 1) * sum_to m f) % p + (p - 1) * s) % p) same
                ∙ product-split p (x i) (p - 1) m n f ∙ sym (reduced-under p inverse unit l first (m + n) x i (omega arith)))
          ])
    ]
  where
    turn : (a b c : ℕ) → a + b + c ≡ a + (b + c)
    turn a b c = omega arith

-- all rows together are the solution
pub reduced-all : (p : ℕ) (inverse : ℕ → ℕ) (unit : Bool) (l : ℕ → ℕ → ℕ) (n : ℕ) (x : ℕ → ℕ) (i : ℕ) → i < n → reduced p inverse unit l 0 n x i ≡ solution p inverse unit l x i
reduced-all p inverse unit l n x i h =
    let at : (k : ℕ) → 0 + k ≡ k = λ k. omega arith in
    let triangle : (λ (i k : ℕ). l (0 + i) (0 + k)) ≡ l = fun_ext (λ i. fun_ext (λ k. ap (λ r. l r (0 + k)) (at i) ∙ ap (l i) (at k))) in
    let right : (λ (i : ℕ). x (0 + i)) ≡ x = fun_ext (λ i. ap x (at i)) in
    ap (reduced p inverse unit l 0 n x) (sym (at i)) ∙ reduced-among p inverse unit l 0 n x i h ∙ ap (λ t. solution p inverse unit t (λ i. x (0 + i)) i) triangle ∙ ap (λ b. solution p inverse unit l b i) right
