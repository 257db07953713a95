use Rattle.std.proofs.Common.{◌≡◌, ℕ, ◌+◌, ◌*◌, ◌%◌, ◌<◌, sym, ◌∙◌, ap, arith}
use Rattle.std.proofs.lemmas.Nat.{mul-mod_second}
use Rattle.field_core.specs.Sums.{sum_to}
use Rattle.field_core.proofs.Modular.{same_sum, same_scaled}
use Rattle.field_core.proofs.Sums.{sum_to-same, sum_to-same_mod, sum_to-add, sum_to-scale, sum_to-swap}

-- a weighted sum of sums of two terms
pub weighted-sum : (n c : ℕ) (w x y : ℕ → ℕ) → sum_to n (λ q. w q * (x q + c * y q)) ≡ sum_to n (λ q. w q * x q) + c * sum_to n (λ q. w q * y q)
weighted-sum n c w x y =
    sum_to-same n (λ q. w q * (x q + c * y q)) (λ q. w q * x q + c * (w q * y q)) (λ q _. spread (w q) c (x q) (y q))
    ∙ sum_to-add n (λ q. w q * x q) (λ q. c * (w q * y q)) ∙ ap (λ s. sum_to n (λ q. w q * x q) + s) (sum_to-scale n c (λ q. w q * y q))
  where
    spread : (w c x y : ℕ) → w * (x + c * y) ≡ w * x + c * (w * y)
    spread w c x y = omega arith

-- one row operation keeps weighted sums: where cx and cy are the weighted sums of x and y, the same operation on them gives the weighted sum of the results
pub weighted-row_operation : (p n c : ℕ) (w x y : ℕ → ℕ) (cx cy : ℕ) → cx % p ≡ sum_to n (λ q. w q * x q) % p → cy % p ≡ sum_to n (λ q. w q * y q) % p → (cx + c * cy) % p ≡ sum_to n (λ q. w q * ((x q + c * y q) % p)) % p
weighted-row_operation p n c w x y cx cy ex ey =
    same_sum p cx (sum_to n (λ q. w q * x q)) (c * cy) (c * sum_to n (λ q. w q * y q)) ex (same_scaled p c cy (sum_to n (λ q. w q * y q)) ey)
    ∙ sym (sum_to-same_mod p n (λ q. w q * ((x q + c * y q) % p)) (λ q. w q * (x q + c * y q)) (λ q _. mul-mod_second (w q) (x q + c * y q) p) ∙ ap (λ s. s % p) (weighted-sum n c w x y))

-- a weighted sum of products with one left side
pub weighted-product : (n m : ℕ) (w : ℕ → ℕ) (l : ℕ → ℕ) (r : ℕ → ℕ → ℕ) → sum_to n (λ q. w q * sum_to m (λ k. l k * r q k)) ≡ sum_to m (λ k. l k * sum_to n (λ q. w q * r q k))
weighted-product n m w l r =
    sum_to-same n (λ q. w q * sum_to m (λ k. l k * r q k)) (λ q. sum_to m (λ k. w q * (l k * r q k))) (λ q _. sym (sum_to-scale m (w q) (λ k. l k * r q k)))
    ∙ sum_to-swap n m (λ q k. w q * (l k * r q k))
    ∙ sum_to-same m (λ k. sum_to n (λ q. w q * (l k * r q k))) (λ k. l k * sum_to n (λ q. w q * r q k))
    (λ k _. sum_to-same n (λ q. w q * (l k * r q k)) (λ q. l k * (w q * r q k)) (λ q _. turn (w q) (l k) (r q k)) ∙ sum_to-scale n (l k) (λ q. w q * r q k))
  where
    turn : (w l r : ℕ) → w * (l * r) ≡ l * (w * r)
    turn w l r = omega arith

-- adding a multiple of a product keeps weighted sums: where cx and cr are the weighted sums of the words and of the right sides, the same sum of them gives the weighted sum of the results
pub weighted-product_added : (p n m a : ℕ) (w x : ℕ → ℕ) (l : ℕ → ℕ) (r : ℕ → ℕ → ℕ) (cx : ℕ) (cr : ℕ → ℕ) → cx % p ≡ sum_to n (λ q. w q * x q) % p → ((k : ℕ) → k < m → cr k % p ≡ sum_to n (λ q. w q * r q k) % p) → (cx + a * sum_to m (λ k. l k * cr k)) % p ≡ sum_to n (λ q. w q * ((x q + a * sum_to m (λ k. l k * r q k)) % p)) % p
weighted-product_added p n m a w x l r cx cr ex er =
    weighted-row_operation p n a w x (λ q. sum_to m (λ k. l k * r q k)) cx (sum_to m (λ k. l k * cr k)) ex
    (sum_to-same_mod p m (λ k. l k * cr k) (λ k. l k * sum_to n (λ q. w q * r q k)) (λ k h. same_scaled p (l k) (cr k) (sum_to n (λ q. w q * r q k)) (er k h))
    ∙ ap (λ s. s % p) (sym (weighted-product n m w l r)))

-- scaling keeps weighted sums
pub weighted-scaled : (p n a : ℕ) (w x : ℕ → ℕ) (cx : ℕ) → cx % p ≡ sum_to n (λ q. w q * x q) % p → (cx * a) % p ≡ sum_to n (λ q. w q * ((x q * a) % p)) % p
weighted-scaled p n a w x cx ex =
    ap (λ s. s % p) (turn cx a) ∙ same_scaled p a cx (sum_to n (λ q. w q * x q)) ex
    ∙ ap (λ s. s % p) (sym (sum_to-scale n a (λ q. w q * x q)))
    ∙ sum_to-same_mod p n (λ q. a * (w q * x q)) (λ q. w q * ((x q * a) % p)) (λ q _. ap (λ s. s % p) (regroup a (w q) (x q)) ∙ sym (mul-mod_second (w q) (x q * a) p))
  where
    turn : (c a : ℕ) → c * a ≡ a * c
    turn c a = omega arith

    regroup : (a w x : ℕ) → a * (w * x) ≡ w * (x * a)
    regroup a w x = omega arith
