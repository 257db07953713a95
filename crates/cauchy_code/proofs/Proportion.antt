-- Two data columns never have their weights in proportion, at two code columns.
use Rattle.std.proofs.Common.{◌≡◌, ◌≢◌, ℕ, ◌+◌, ◌-◌, ◌*◌, ◌/◌, ◌%◌, ◌<◌, refl, sym, ◌∙◌, ap, ⊎_elim, arith}
use Rattle.std.proofs.lemmas.Bool.{cases_order}
use Rattle.cauchy_code.specs.Cauchy.{weight}
use Rattle.field_core.proofs.Modular.{same_mod, same_sum, same_product}
use Rattle.cauchy_code.proofs.Modular.{multiples, same_cancel}
use Rattle.cauchy_code.proofs.Unique.{same_cancel_add}

-- fractions multiplied out
cross : (p a b u v e g : ℕ) → (a * u) % p ≡ 1 % p → (b * v) % p ≡ 1 % p → (u * e) % p ≡ (v * g) % p → (b * e) % p ≡ (a * g) % p
cross p a b u v e g iu iv h =
    same_mod p (b * e) (a * g)
    (b * e * (a * u / p) + a * b * (v * g / p) + a * g * (1 / p))
    (a * g * (b * v / p) + a * b * (u * e / p) + b * e * (1 / p))
    (omega (arith, ap (λ n. a * b * n) (multiples p (u * e) (v * g) h), ap (λ n. b * e * n) (multiples p (a * u) 1 iu), ap (λ n. a * g * n) (multiples p (b * v) 1 iv)))

module _ (p : ℕ) (inverse : ℕ → ℕ) (law : (a : ℕ) → 0 < a → a < 32 → (a * inverse a) % p ≡ 1 % p) where
  -- a difference that is nonzero can be cancelled away
  zero_between : (a b c e : ℕ) → c ≡ a + b → 0 < b → b < 32 → (a * e) % p ≡ (c * e) % p → e % p ≡ 0 % p
  zero_between a b c e h h0 h1 q =
      same_cancel p b (inverse b) e 0 (law b h0 h1)
      (same_cancel_add p (a * e) (b * e) (b * 0) (ap (λ n. n % p) (omega (arith, ap (λ n. n * e) h)) ∙ sym q ∙ ap (λ n. n % p) (omega arith)))

  -- where e times the weights of column a and g times those of column b agree at two code columns and e is not zero, the columns are one and so are the numbers
  pub same_column : (q c d a b e g : ℕ) → a < q → b < q → c < d → q + d < 32
      → (weight inverse q c a * e) % p ≡ (weight inverse q c b * g) % p → (weight inverse q d a * e) % p ≡ (weight inverse q d b * g) % p → e % p ≢ 0 % p → (a ≡ b) × (e % p ≡ g % p)
  same_column q c d a b e g ha hb hcd hd h1 h2 n =
      let x = q + c in
      let y = q + d in
      let c1 = cross p (x - a) (x - b) (inverse (x - a)) (inverse (x - b)) e g (law (x - a) (omega arith) (omega arith)) (law (x - b) (omega arith) (omega arith)) h1 in
      let c2 = cross p (y - a) (y - b) (inverse (y - a)) (inverse (y - b)) e g (law (y - a) (omega arith) (omega arith)) (law (y - b) (omega arith) (omega arith)) h2 in
      let eb : y - b ≡ (x - b) + (y - x) = omega arith in
      let ea : y - a ≡ (x - a) + (y - x) = omega arith in
      let c3 : ((x - b) * e + (y - x) * e) % p ≡ ((x - b) * e + (y - x) * g) % p =
      ap (λ m. m % p) (omega (arith, ap (λ m. m * e) eb)) ∙ c2 ∙ ap (λ m. m % p) (omega (arith, ap (λ m. m * g) ea)) ∙ same_sum p ((x - a) * g) ((x - b) * e) ((y - x) * g) ((y - x) * g) (sym c1) refl in
      let eg = same_cancel p (y - x) (inverse (y - x)) e g (law (y - x) (omega arith) (omega arith)) (same_cancel_add p ((x - b) * e) ((y - x) * e) ((y - x) * g) c3) in
      let c4 : ((x - b) * e) % p ≡ ((x - a) * e) % p = c1 ∙ same_product p (x - a) (x - a) g e refl (sym eg) in (
        ⊎_elim (λ (q : a ≡ b). q) (λ r. ⊎_elim
            (λ (q : a < b). absurd (n (zero_between (x - b) (b - a) (x - a) e (omega arith) (omega arith) (omega arith) c4)))
            (λ (q : b < a). absurd (n (zero_between (x - a) (a - b) (x - b) e (omega arith) (omega arith) (omega arith) (sym c4)))) r) (cases_order a b),
        eg,
      )
