-- Numbers as the kernels compute them, step by step.
use Rattle.std.proofs.Common.{◌≡◌, ℕ, ◌+◌, ◌-◌, ◌*◌, ◌%◌, ◌<◌, refl, ◌∙◌, ap, arith}
use Rattle.std.proofs.lemmas.Nat.{mul-mod_second}
use Rattle.field_core.proofs.Modular.{same_mod, same_sum}

taken_out : (p x m d : ℕ) → (x + m * (d % p)) % p ≡ (x + m * d) % p
taken_out p x m d = same_sum p x x (m * (d % p)) (m * d) refl (mul-mod_second m d p)

-- a word that loses a product, as it gains the one with the negative
pub loses_product : (p x m r n new : ℕ) → r < p → n ≡ (p - r) % p → new ≡ (x + m * n) % p → new ≡ (x + (p - 1) * (m * r)) % p
loses_product p x m r n new r_lt e_n e_new =
    let d = p - r in
    let both : d + r ≡ p = omega arith in
    let times_m : m * (d + r) ≡ m * p = ap (λ k. m * k) both in
    let one : (p - 1) + 1 ≡ p = omega arith in
    let times : ((p - 1) + 1) * (m * r) ≡ p * (m * r) = ap (λ k. k * (m * r)) one in
    e_new ∙ ap (λ k. (x + m * k) % p) e_n ∙ taken_out p x m d
    ∙ same_mod p (x + m * d) (x + (p - 1) * (m * r)) (m * r) m (omega arith)
