-- Sums of products, one after another.
use Rattle.std.proofs.Common.{◌≡◌, ℕ, ◌*◌, ◌%◌, ◌<◌, refl, ◌∙◌, ap, arith}
use Rattle.field_core.specs.Sums.{sum_to}
use Rattle.field_core.proofs.Modular.{same_product, same_scaled}
use Rattle.field_core.proofs.Sums.{sum_to-same, sum_to-same_mod}
use Rattle.field_core.proofs.WeightedSums.{weighted-product}

-- a product with a product
pub products-associate : (n m : ℕ) (l : ℕ → ℕ) (u : ℕ → ℕ → ℕ) (x : ℕ → ℕ) → sum_to n (λ k. sum_to m (λ r. l r * u r k) * x k) ≡ sum_to m (λ r. l r * sum_to n (λ k. u r k * x k))
products-associate n m l u x =
    sum_to-same n (λ k. sum_to m (λ r. l r * u r k) * x k) (λ k. x k * sum_to m (λ r. l r * u r k)) (λ k _. turn (sum_to m (λ r. l r * u r k)) (x k))
    ∙ weighted-product n m x l (λ k r. u r k)
    ∙ sum_to-same m (λ r. l r * sum_to n (λ k. x k * u r k)) (λ r. l r * sum_to n (λ k. u r k * x k))
    (λ r _. ap (λ s. l r * s) (sum_to-same n (λ k. x k * u r k) (λ k. u r k * x k) (λ k _. turn (x k) (u r k))))
  where
    turn : (a b : ℕ) → a * b ≡ b * a
    turn a b = omega arith

-- factors in turn: where a row of A is the product of a row l with U, and U x = y, and l y = b, then the row times x is b
pub row_through : (p n m : ℕ) (a : ℕ → ℕ) (l : ℕ → ℕ) (u : ℕ → ℕ → ℕ) (x y : ℕ → ℕ) (b : ℕ) → ((k : ℕ) → k < n → a k % p ≡ sum_to m (λ r. l r * u r k) % p) → ((r : ℕ) → r < m → sum_to n (λ k. u r k * x k) % p ≡ y r % p) → sum_to m (λ r. l r * y r) % p ≡ b % p → sum_to n (λ k. a k * x k) % p ≡ b % p
row_through p n m a l u x y b row inner outer =
    sum_to-same_mod p n (λ k. a k * x k) (λ k. sum_to m (λ r. l r * u r k) * x k) (λ k hk. same_product p (a k) (sum_to m (λ r. l r * u r k)) (x k) (x k) (row k hk) refl)
    ∙ ap (λ s. s % p) (products-associate n m l u x)
    ∙ sum_to-same_mod p m (λ r. l r * sum_to n (λ k. u r k * x k)) (λ r. l r * y r) (λ r hr. same_scaled p (l r) (sum_to n (λ k. u r k * x k)) (y r) (inner r hr))
    ∙ outer
