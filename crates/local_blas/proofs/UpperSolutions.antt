-- Solutions of upper triangles, where each row follows from the later ones: the same laws as for lower triangles.
use Rattle.std.proofs.Common.{◌≡◌, ℕ, zero, suc, ◌+◌, ◌-◌, ◌*◌, ◌%◌, ◌<◌, ◌≤◌, Bool, sym, ◌∙◌, ap, arith}
use Rattle.field_core.specs.Sums.{sum_to}
use Rattle.field_core.proofs.Modular.{residues}
use Rattle.field_core.proofs.Sums.{sum_to-same, sum_to-split, sum_to-reversed}
use Rattle.local_blas.specs.Kernels.{divided, solution, from_last, upper_solution}
use Rattle.local_blas.proofs.Solutions.{solution-equation, solution-below}
use Rattle.local_blas.proofs.SolutionLaws.{solution-weighted, solution-same}

-- what a word of the solution is, by the later ones
pub upper_solution-equation : (p : ℕ) (inverse : ℕ → ℕ) (unit : Bool) (n : ℕ) (u : ℕ → ℕ → ℕ) (b : ℕ → ℕ) (i : ℕ) → i < n → upper_solution p inverse unit n u b i ≡ divided p inverse unit (u i i) ((b i + (p - 1) * sum_to (n - 1 - i) (λ k. u i (i + 1 + k) * upper_solution p inverse unit n u b (i + 1 + k))) % p)
upper_solution-equation p inverse unit n u b i h =
    let t = n - 1 - i in
    let l : ℕ → ℕ → ℕ = λ r k. u (from_last n r) (from_last n k) in
    let b' : ℕ → ℕ = λ k. b (from_last n k) in
    let x : ℕ → ℕ = solution p inverse unit l b' in
    let back : n - 1 - t ≡ i = omega arith in
    let term : (k : ℕ) → k < t → l t (t - 1 - k) * x (t - 1 - k) ≡ u i (i + 1 + k) * x (n - 1 - (i + 1 + k)) =
    λ k hk. ap (λ r. u r (n - 1 - (t - 1 - k)) * x (t - 1 - k)) back ∙ ap (λ c. u i c * x (t - 1 - k)) (let e : n - 1 - (t - 1 - k) ≡ i + 1 + k = omega arith in e)
    ∙ ap (λ r. u i (i + 1 + k) * x r) (let e : t - 1 - k ≡ n - 1 - (i + 1 + k) = omega arith in e) in
    let sums : sum_to t (λ k. l t k * x k) ≡ sum_to t (λ k. u i (i + 1 + k) * x (n - 1 - (i + 1 + k))) =
    sym (sum_to-reversed t (λ k. l t k * x k)) ∙ sum_to-same t (λ k. l t (t - 1 - k) * x (t - 1 - k)) (λ k. u i (i + 1 + k) * x (n - 1 - (i + 1 + k))) term in
    solution-equation p inverse unit l b' t ∙ ap (λ r. divided p inverse unit (u r r) ((b r + (p - 1) * sum_to t (λ k. l t k * x k)) % p)) back
    ∙ ap (λ s. divided p inverse unit (u i i) ((b i + (p - 1) * s) % p)) sums

pub upper_solution-below : (p : ℕ) (inverse : ℕ → ℕ) (unit : Bool) (n : ℕ) (u : ℕ → ℕ → ℕ) (b : ℕ → ℕ) (i : ℕ) → 0 < p → upper_solution p inverse unit n u b i < p
upper_solution-below p inverse unit n u b i pos_p =
    solution-below p inverse unit (λ r k. u (from_last n r) (from_last n k)) (λ k. b (from_last n k)) (from_last n i) pos_p

-- words that meet the equations of the last m rows are the solution there
last_rows : (p : ℕ) (inverse : ℕ → ℕ) (unit : Bool) (n : ℕ) (u : ℕ → ℕ → ℕ) (b x : ℕ → ℕ) → ((i : ℕ) → i < n → x i ≡ divided p inverse unit (u i i) ((b i + (p - 1) * sum_to (n - 1 - i) (λ k. u i (i + 1 + k) * x (i + 1 + k))) % p)) → (m i : ℕ) → i < n → n ≤ i + m → x i ≡ upper_solution p inverse unit n u b i
last_rows p inverse unit n u b x meets zero i h far = absurd (omega arith)
last_rows p inverse unit n u b x meets (suc m) i h far =
    let y : ℕ → ℕ = upper_solution p inverse unit n u b in
    let later : sum_to (n - 1 - i) (λ k. u i (i + 1 + k) * x (i + 1 + k)) ≡ sum_to (n - 1 - i) (λ k. u i (i + 1 + k) * y (i + 1 + k)) =
    sum_to-same (n - 1 - i) (λ k. u i (i + 1 + k) * x (i + 1 + k)) (λ k. u i (i + 1 + k) * y (i + 1 + k))
    (λ k hk. ap (λ v. u i (i + 1 + k) * v) (last_rows p inverse unit n u b x meets m (i + 1 + k) (omega arith) (omega arith))) in
    meets i h ∙ ap (λ s. divided p inverse unit (u i i) ((b i + (p - 1) * s) % p)) later ∙ sym (upper_solution-equation p inverse unit n u b i h)

-- words that meet the equations of the solution are the solution
pub upper_solution_is : (p : ℕ) (inverse : ℕ → ℕ) (unit : Bool) (n : ℕ) (u : ℕ → ℕ → ℕ) (b x : ℕ → ℕ) → ((i : ℕ) → i < n → x i ≡ divided p inverse unit (u i i) ((b i + (p - 1) * sum_to (n - 1 - i) (λ k. u i (i + 1 + k) * x (i + 1 + k))) % p)) → (i : ℕ) → i < n → x i ≡ upper_solution p inverse unit n u b i
upper_solution_is p inverse unit n u b x meets i h = last_rows p inverse unit n u b x meets n i h (omega arith)

-- the solution of a weighted sum is the weighted sum of the solutions
pub upper_solution-weighted : (p : ℕ) (inverse : ℕ → ℕ) (unit : Bool) (m : ℕ) (u : ℕ → ℕ → ℕ) (n : ℕ) (w : ℕ → ℕ) (b : ℕ → ℕ → ℕ) (c : ℕ → ℕ) → 0 < p → ((i : ℕ) → i < m → c i % p ≡ sum_to n (λ q. w q * b q i) % p) → (i : ℕ) → i < m → upper_solution p inverse unit m u c i ≡ sum_to n (λ q. w q * upper_solution p inverse unit m u (b q) i) % p
upper_solution-weighted p inverse unit m u n w b c pos_p same i h =
    solution-weighted p inverse unit (λ r k. u (from_last m r) (from_last m k)) n w (λ q k. b q (from_last m k)) (λ k. c (from_last m k)) pos_p m
    (λ k hk. same (from_last m k) (let e : m - 1 - k < m = omega arith in e)) (from_last m i) (let e : m - 1 - i < m = omega arith in e)

-- the last n words of the solution are those of the lower right block
pub upper_solution-last_block : (p : ℕ) (inverse : ℕ → ℕ) (unit : Bool) (m n : ℕ) (u : ℕ → ℕ → ℕ) (b : ℕ → ℕ) (i : ℕ) → i < n → upper_solution p inverse unit (m + n) u b (m + i) ≡ upper_solution p inverse unit n (λ i k. u (m + i) (m + k)) (λ i. b (m + i)) i
upper_solution-last_block p inverse unit m n u b =
    let x : ℕ → ℕ = upper_solution p inverse unit (m + n) u b in
    upper_solution_is p inverse unit n (λ i k. u (m + i) (m + k)) (λ i. b (m + i)) (λ i. x (m + i))
    (λ i h.
    let count : m + n - 1 - (m + i) ≡ n - 1 - i = omega arith in
    let sums : sum_to (m + n - 1 - (m + i)) (λ k. u (m + i) (m + i + 1 + k) * x (m + i + 1 + k)) ≡ sum_to (n - 1 - i) (λ k. u (m + i) (m + (i + 1 + k)) * x (m + (i + 1 + k))) =
    ap (λ c. sum_to c (λ k. u (m + i) (m + i + 1 + k) * x (m + i + 1 + k))) count
    ∙ sum_to-same (n - 1 - i) (λ k. u (m + i) (m + i + 1 + k) * x (m + i + 1 + k)) (λ k. u (m + i) (m + (i + 1 + k)) * x (m + (i + 1 + k)))
    (λ k _. ap (λ c. u (m + i) c * x c) (let e : m + i + 1 + k ≡ m + (i + 1 + k) = omega arith in e)) in
    upper_solution-equation p inverse unit (m + n) u b (m + i) (omega arith)
    ∙ ap (λ s. divided p inverse unit (u (m + i) (m + i)) ((b (m + i) + (p - 1) * s) % p)) sums)

-- the first m words of the solution are those of the upper left block, after what the last n words give is taken off
pub upper_solution-first_block : (p : ℕ) (inverse : ℕ → ℕ) (unit : Bool) (m n : ℕ) (u : ℕ → ℕ → ℕ) (b : ℕ → ℕ) (i : ℕ) → i < m → upper_solution p inverse unit (m + n) u b i ≡ upper_solution p inverse unit m u (λ i. (b i + (p - 1) * sum_to n (λ k. u i (m + k) * upper_solution p inverse unit (m + n) u b (m + k))) % p) i
upper_solution-first_block p inverse unit m n u b =
    let x : ℕ → ℕ = upper_solution p inverse unit (m + n) u b in
    upper_solution_is p inverse unit m u (λ i. (b i + (p - 1) * sum_to n (λ k. u i (m + k) * x (m + k))) % p) x
    (λ i h.
    let before : ℕ = sum_to (m - 1 - i) (λ k. u i (i + 1 + k) * x (i + 1 + k)) in
    let after : ℕ = sum_to n (λ k. u i (m + k) * x (m + k)) in
    let count : m + n - 1 - i ≡ (m - 1 - i) + n = omega arith in
    let rest : sum_to n (λ k. u i (i + 1 + ((m - 1 - i) + k)) * x (i + 1 + ((m - 1 - i) + k))) ≡ after =
    sum_to-same n (λ k. u i (i + 1 + ((m - 1 - i) + k)) * x (i + 1 + ((m - 1 - i) + k))) (λ k. u i (m + k) * x (m + k))
    (λ k _. ap (λ c. u i c * x c) (let e : i + 1 + ((m - 1 - i) + k) ≡ m + k = omega arith in e)) in
    let sums : sum_to (m + n - 1 - i) (λ k. u i (i + 1 + k) * x (i + 1 + k)) ≡ before + after =
    ap (λ c. sum_to c (λ k. u i (i + 1 + k) * x (i + 1 + k))) count ∙ sum_to-split (m - 1 - i) n (λ k. u i (i + 1 + k) * x (i + 1 + k)) ∙ ap (λ s. before + s) rest in
    upper_solution-equation p inverse unit (m + n) u b i (omega arith)
    ∙ ap (divided p inverse unit (u i i)) (ap (λ s. (b i + (p - 1) * s) % p) sums ∙ regroup p (b i) (p - 1) before after))
  where
    regroup : (p b c s t : ℕ) → (b + c * (s + t)) % p ≡ ((b + c * t) % p + c * s) % p
    regroup p b c s t = ap (λ n. n % p) (let e : b + c * (s + t) ≡ (b + c * t) + c * s = omega arith in e) ∙ sym (let e : ((b + c * t) % p + c * s) % p ≡ ((b + c * t) + c * s) % p = simp residues in e)

-- the words of a solution read the n rows and columns of the triangle and the n words of the right side
pub upper_solution-same : (p : ℕ) (inverse : ℕ → ℕ) (unit : Bool) (n : ℕ) (u u' : ℕ → ℕ → ℕ) (b b' : ℕ → ℕ) → ((r k : ℕ) → r < n → k < n → u r k ≡ u' r k) → ((i : ℕ) → i < n → b i ≡ b' i) → (i : ℕ) → i < n → upper_solution p inverse unit n u b i ≡ upper_solution p inverse unit n u' b' i
upper_solution-same p inverse unit n u u' b b' triangle same i h =
    solution-same p inverse unit (λ r k. u (from_last n r) (from_last n k)) (λ r k. u' (from_last n r) (from_last n k)) (λ k. b (from_last n k)) (λ k. b' (from_last n k)) (from_last n i)
    (λ r k _ _. triangle (from_last n r) (from_last n k) (let e : n - 1 - r < n = omega arith in e) (let e : n - 1 - k < n = omega arith in e))
    (λ r hr. same (from_last n r) (let e : n - 1 - r < n = omega arith in e))
