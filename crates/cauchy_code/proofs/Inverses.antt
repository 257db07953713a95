-- The inverse of a field as the weights use it.
use Rattle.std.proofs.Common.{◌≡◌, ℕ, ◌*◌, ◌%◌, ◌<◌, ◌≤◌, sym, ◌∙◌, subst, arith}
use Rattle.std.proofs.Math.Nat.{mod-eq_of_lt}
use Rattle.field_core.specs.Residue.{inverse}
use Rattle.field_core.specs.FieldLaws.{IsField}
use Rattle.field_core.proofs.Inverses.{inverse_is}

pub inverse_law : (p : ℕ) → IsField p → (a : ℕ) → 0 < a → a < p → ((a * inverse p a) % p ≡ 1) × (inverse p a < p)
inverse_law p field a pos below =
    let it = field.product_inverse a pos below in
    let e : it.0 ≡ inverse p a = inverse_is p a it.0 it.1 field.one_above_zero it.2 in
    (subst (λ b. (a * b) % p ≡ 1) e it.2, subst (λ b. b < p) e it.1)

-- the distances of places have inverses in each field that is large enough
pub small_inverse : (p : ℕ) → 32 ≤ p → IsField p → (a : ℕ) → 0 < a → a < 32 → (a * inverse p a) % p ≡ 1 % p
small_inverse p large field a pos small = (inverse_law p field a pos (omega arith)).0 ∙ sym (mod-eq_of_lt (omega arith))
