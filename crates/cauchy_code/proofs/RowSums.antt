-- A weighted sum over the data symbols of a row, as a sum over its columns.
use Rattle.std.proofs.Common.{◌≡◌, ℕ, zero, suc, ◌+◌, ◌*◌, ◌<◌, List, [], ◌∷◌, length, get_or, sym, ◌∙◌, ap, arith}
use Rattle.field_core.specs.Sums.{sum_to}
use Rattle.field_core.proofs.Sums.{sum_to-none, sum_to-suc, sum_to-same}
use Rattle.cauchy_code.specs.Cauchy.{weight, weighted_sum}

-- the first term of a sum apart
sum_to-first : (n : ℕ) (f : ℕ → ℕ) → sum_to (suc n) f ≡ f 0 + sum_to n (λ k. f (suc k))
sum_to-first zero f = omega (arith, sum_to-suc 0 f, sum_to-none f, sum_to-none (λ k. f (suc k)))
sum_to-first (suc n) f = omega (arith, sum_to-suc (suc n) f, sum_to-first n f, sum_to-suc n (λ k. f (suc k)))

weighted_sum-from : (inverse : ℕ → ℕ) (q c col : ℕ) (ds : List ℕ) → weighted_sum inverse q c col ds ≡ sum_to (length ds) (λ k. weight inverse q c (col + k) * get_or ds k 0)
weighted_sum-from inverse q c col [] = sym (sum_to-none (λ k. weight inverse q c (col + k) * 0))
weighted_sum-from inverse q c col (d ∷ ds) =
    let here : weight inverse q c (col + 0) * d ≡ weight inverse q c col * d = ap (λ n. weight inverse q c n * d) (omega arith) in
    let later : sum_to (length ds) (λ k. weight inverse q c (col + suc k) * get_or ds k 0) ≡ sum_to (length ds) (λ k. weight inverse q c (col + 1 + k) * get_or ds k 0)
    = sum_to-same (length ds) _ _ (λ k h. ap (λ n. weight inverse q c n * get_or ds k 0) (omega arith)) in
    omega (arith, here, later, weighted_sum-from inverse q c (col + 1) ds, sum_to-first (length ds) (λ k. weight inverse q c (col + k) * get_or (d ∷ ds) k 0))

-- the weighted sum of q data symbols is the sum over the columns of weight times symbol, however the symbol of a column is written
pub weighted_sum-row : (inverse : ℕ → ℕ) (q c : ℕ) (word : ℕ → ℕ) (ds : List ℕ) → length ds ≡ q → ((col : ℕ) → col < q → get_or ds col 0 ≡ word col) → weighted_sum inverse q c 0 ds ≡ sum_to q (λ col. weight inverse q c col * word col)
weighted_sum-row inverse q c word ds len same =
    weighted_sum-from inverse q c 0 ds
    ∙ ap (λ n. sum_to n (λ k. weight inverse q c (0 + k) * get_or ds k 0)) len
    ∙ sum_to-same q _ _ (λ k h. ap (λ n. weight inverse q c n * get_or ds k 0) (omega arith) ∙ ap (λ n. weight inverse q c k * n) (same k h))
