-- Laws of solutions by substitution: they are the only ones, keep weighted sums, and go by blocks.
use Rattle.std.proofs.Common.{◌≡◌, ℕ, zero, suc, ◌+◌, ◌-◌, ◌*◌, ◌%◌, ◌<◌, ◌≤◌, Bool, true, false, if◌then◌else◌, sym, ◌∙◌, ap, arith}
use Rattle.std.proofs.Math.Nat.{mod-mod}
use Rattle.std.proofs.lemmas.Nat.{mul-mod_second, mul-mod_first}
use Rattle.field_core.specs.Sums.{sum_to}
use Rattle.field_core.proofs.Modular.{residues, same_sum, same_scaled}
use Rattle.field_core.proofs.Sums.{sum_to-same, sum_to-same_mod, sum_to-split, sum_to-scale}
use Rattle.field_core.proofs.WeightedSums.{weighted-sum, weighted-product}
use Rattle.local_blas.specs.Kernels.{divided, solution}
use Rattle.local_blas.proofs.Solutions.{solution-equation}

-- what a division by the diagonal multiplies by
unfoldable reciprocal : (ℕ → ℕ) → Bool → ℕ → ℕ
reciprocal inverse unit d = if unit then 1 else inverse d

divided-is : (p : ℕ) (inverse : ℕ → ℕ) (unit : Bool) (d x : ℕ) → divided p inverse unit d (x % p) ≡ (reciprocal inverse unit d * x) % p
unfolding reciprocal
divided-is p inverse true d x = ap (λ n. n % p) (let e : x ≡ 1 * x = omega arith in e)
divided-is p inverse false d x = mul-mod_first x (inverse d) p ∙ ap (λ n. n % p) (let e : x * inverse d ≡ inverse d * x = omega arith in e)

-- a word of the solution, as one remainder
equation : (p : ℕ) (inverse : ℕ → ℕ) (unit : Bool) (l : ℕ → ℕ → ℕ) (b : ℕ → ℕ) (i : ℕ) → solution p inverse unit l b i ≡ (reciprocal inverse unit (l i i) * (b i + (p - 1) * sum_to i (λ k. l i k * solution p inverse unit l b k))) % p
equation p inverse unit l b i = solution-equation p inverse unit l b i ∙ divided-is p inverse unit (l i i) (b i + (p - 1) * sum_to i (λ k. l i k * solution p inverse unit l b k))

-- words that meet the equations of the solution are the solution
pub solution_is : (p : ℕ) (inverse : ℕ → ℕ) (unit : Bool) (l : ℕ → ℕ → ℕ) (b x : ℕ → ℕ) (n : ℕ) → ((i : ℕ) → i < n → x i ≡ divided p inverse unit (l i i) ((b i + (p - 1) * sum_to i (λ k. l i k * x k)) % p)) → (i : ℕ) → i < n → x i ≡ solution p inverse unit l b i
solution_is p inverse unit l b x zero meets i h = absurd (omega arith)
solution_is p inverse unit l b x (suc n) meets i h =
    let earlier : (k : ℕ) → k < n → x k ≡ solution p inverse unit l b k = solution_is p inverse unit l b x n (λ k hk. meets k (omega arith)) in
    let same : sum_to i (λ k. l i k * x k) ≡ sum_to i (λ k. l i k * solution p inverse unit l b k) =
    sum_to-same i (λ k. l i k * x k) (λ k. l i k * solution p inverse unit l b k) (λ k hk. ap (λ m. l i k * m) (earlier k (omega arith))) in
    meets i h ∙ ap (λ s. divided p inverse unit (l i i) ((b i + (p - 1) * s) % p)) same ∙ sym (solution-equation p inverse unit l b i)

-- the solution of a weighted sum is the weighted sum of the solutions, for the words below m
solution-weighted_below : (p : ℕ) (inverse : ℕ → ℕ) (unit : Bool) (l : ℕ → ℕ → ℕ) (n : ℕ) (w : ℕ → ℕ) (b : ℕ → ℕ → ℕ) (c : ℕ → ℕ) → 0 < p → (m : ℕ) → ((i : ℕ) → i < m → c i % p ≡ sum_to n (λ q. w q * b q i) % p) → (i : ℕ) → i < m → solution p inverse unit l c i ≡ sum_to n (λ q. w q * solution p inverse unit l (b q) i) % p
solution-weighted_below p inverse unit l n w b c pos_p zero same i h = absurd (omega arith)
solution-weighted_below p inverse unit l n w b c pos_p (suc m) same i h =
    let earlier : (k : ℕ) → k < m → solution p inverse unit l c k ≡ sum_to n (λ q. w q * solution p inverse unit l (b q) k) % p =
    solution-weighted_below p inverse unit l n w b c pos_p m (λ k hk. same k (omega arith)) in
    let r = reciprocal inverse unit (l i i) in
    let parts : ℕ → ℕ = λ q. sum_to i (λ k. l i k * solution p inverse unit l (b q) k) in
    let inner : sum_to i (λ k. l i k * solution p inverse unit l c k) % p ≡ sum_to n (λ q. w q * parts q) % p =
    sum_to-same_mod p i (λ k. l i k * solution p inverse unit l c k) (λ k. l i k * sum_to n (λ q. w q * solution p inverse unit l (b q) k))
    (λ k hk. same_scaled p (l i k) (solution p inverse unit l c k) (sum_to n (λ q. w q * solution p inverse unit l (b q) k)) (ap (λ s. s % p) (earlier k (omega arith)) ∙ mod-mod (sum_to n (λ q. w q * solution p inverse unit l (b q) k)) p))
    ∙ ap (λ s. s % p) (sym (weighted-product n i w (l i) (λ q. solution p inverse unit l (b q)))) in
    let whole : (c i + (p - 1) * sum_to i (λ k. l i k * solution p inverse unit l c k)) % p ≡ sum_to n (λ q. w q * (b q i + (p - 1) * parts q)) % p =
    same_sum p (c i) (sum_to n (λ q. w q * b q i)) ((p - 1) * sum_to i (λ k. l i k * solution p inverse unit l c k)) ((p - 1) * sum_to n (λ q. w q * parts q))
    (same i h) (same_scaled p (p - 1) (sum_to i (λ k. l i k * solution p inverse unit l c k)) (sum_to n (λ q. w q * parts q)) inner)
    ∙ ap (λ s. s % p) (sym (weighted-sum n (p - 1) w (λ q. b q i) parts)) in
    equation p inverse unit l c i
    ∙ same_scaled p r (c i + (p - 1) * sum_to i (λ k. l i k * solution p inverse unit l c k)) (sum_to n (λ q. w q * (b q i + (p - 1) * parts q))) whole
    ∙ ap (λ s. s % p) (sym (scaled n r w (λ q. b q i + (p - 1) * parts q)))
    ∙ sum_to-same_mod p n (λ q. w q * (r * (b q i + (p - 1) * parts q))) (λ q. w q * solution p inverse unit l (b q) i)
    (λ q _. sym (ap (λ s. (w q * s) % p) (equation p inverse unit l (b q) i) ∙ mul-mod_second (w q) (r * (b q i + (p - 1) * parts q)) p))
  where
    turn : (w r x : ℕ) → w * (r * x) ≡ r * (w * x)
    turn w r x = omega arith

    scaled : (n r : ℕ) (w x : ℕ → ℕ) → sum_to n (λ q. w q * (r * x q)) ≡ r * sum_to n (λ q. w q * x q)
    scaled n r w x = sum_to-same n (λ q. w q * (r * x q)) (λ q. r * (w q * x q)) (λ q _. turn (w q) r (x q)) ∙ sum_to-scale n r (λ q. w q * x q)

-- the solution of a weighted sum is the weighted sum of the solutions
pub solution-weighted : (p : ℕ) (inverse : ℕ → ℕ) (unit : Bool) (l : ℕ → ℕ → ℕ) (n : ℕ) (w : ℕ → ℕ) (b : ℕ → ℕ → ℕ) (c : ℕ → ℕ) → 0 < p → (m : ℕ) → ((i : ℕ) → i < m → c i % p ≡ sum_to n (λ q. w q * b q i) % p) → (i : ℕ) → i < m → solution p inverse unit l c i ≡ sum_to n (λ q. w q * solution p inverse unit l (b q) i) % p
solution-weighted = solution-weighted_below

-- the words of the solution from m on are those of the lower right block, after what the first m words give is taken off
pub solution-block : (p : ℕ) (inverse : ℕ → ℕ) (unit : Bool) (l : ℕ → ℕ → ℕ) (b : ℕ → ℕ) (m n : ℕ) → (i : ℕ) → i < n → solution p inverse unit l b (m + i) ≡ solution p inverse unit (λ i k. l (m + i) (m + k)) (λ i. (b (m + i) + (p - 1) * sum_to m (λ k. l (m + i) k * solution p inverse unit l b k)) % p) i
solution-block p inverse unit l b m n =
    solution_is p inverse unit (λ i k. l (m + i) (m + k)) (λ i. (b (m + i) + (p - 1) * sum_to m (λ k. l (m + i) k * solution p inverse unit l b k)) % p) (λ i. solution p inverse unit l b (m + i)) n
    (λ i _. solution-equation p inverse unit l b (m + i)
    ∙ ap (divided p inverse unit (l (m + i) (m + i)))
    (ap (λ s. (b (m + i) + (p - 1) * s) % p) (sum_to-split m i (λ k. l (m + i) k * solution p inverse unit l b k))
    ∙ regroup p (b (m + i)) (p - 1) (sum_to m (λ k. l (m + i) k * solution p inverse unit l b k)) (sum_to i (λ k. l (m + i) (m + k) * solution p inverse unit l b (m + k)))))
  where
    regroup : (p b c s t : ℕ) → (b + c * (s + t)) % p ≡ ((b + c * s) % p + c * t) % p
    regroup p b c s t = ap (λ n. n % p) (let e : b + c * (s + t) ≡ (b + c * s) + c * t = omega arith in e) ∙ sym (let e : ((b + c * s) % p + c * t) % p ≡ ((b + c * s) + c * t) % p = simp residues in e)

-- the words of a solution up to row i read the triangle and the right side up to that row
pub solution-same : (p : ℕ) (inverse : ℕ → ℕ) (unit : Bool) (l l' : ℕ → ℕ → ℕ) (b b' : ℕ → ℕ) (i : ℕ) → ((r k : ℕ) → r ≤ i → k ≤ r → l r k ≡ l' r k) → ((r : ℕ) → r ≤ i → b r ≡ b' r) → solution p inverse unit l b i ≡ solution p inverse unit l' b' i
solution-same p inverse unit l l' b b' i el eb =
    solution_is p inverse unit l' b' (solution p inverse unit l b) (suc i)
    (λ r hr. solution-equation p inverse unit l b r
    ∙ ap (λ d. divided p inverse unit d ((b r + (p - 1) * sum_to r (λ k. l r k * solution p inverse unit l b k)) % p)) (el r r (omega arith) (omega arith))
    ∙ ap (λ y. divided p inverse unit (l' r r) ((y + (p - 1) * sum_to r (λ k. l r k * solution p inverse unit l b k)) % p)) (eb r (omega arith))
    ∙ ap (λ s. divided p inverse unit (l' r r) ((b' r + (p - 1) * s) % p))
    (sum_to-same r (λ k. l r k * solution p inverse unit l b k) (λ k. l' r k * solution p inverse unit l b k) (λ k hk. ap (λ y. y * solution p inverse unit l b k) (el r k (omega arith) (omega arith)))))
    i (omega arith)
