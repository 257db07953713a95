-- An inverse that evaluates on numerals in a handful of steps, and that it is the inverse.
use Rattle.std.proofs.Common.{◌≡◌, ℕ, zero, suc, ◌-◌, ◌*◌, ◌/◌, ◌%◌, ◌<◌, ◌≤◌, ◌==◌, true, false, refl, sym, ◌∙◌, ap, arith, inl, inr, eq-eqb}
use Rattle.std.proofs.Math.Nat.{mod-lt, mod-eq_of_lt, mod-mod}
use Rattle.std.proofs.Math.Path.{fun_ext}
use Rattle.std.proofs.lemmas.Nat.{mul-mod_first}
use Rattle.std.proofs.lemmas.Bool.{cases_eq, ne_eqb}
use Rattle.field_core.specs.Residue.{IsPrime, inverse, inverse_below}
use Rattle.field_core.proofs.Modular.{inverse_goes_on}
use Rattle.field_core.proofs.Inverses.{inverse_is}

-- at most n steps from `rest` to the remainder of p by it, until it is 1
unfoldable pub inverse_walk : ℕ → ℕ → ℕ → ℕ → ℕ
inverse_walk p zero rest product = 0
inverse_walk p (suc n) rest product = elim (rest == 1) [ true ↦ product | false ↦ inverse_walk p n (p % rest) ((product * (p - p / rest)) % p) ]

-- the inverse of a modulo p, and 0 where p divides a
unfoldable pub quick_inverse : ℕ → ℕ → ℕ
quick_inverse p a = elim (a % p == 0) [ true ↦ 0 | false ↦ inverse_walk p p (a % p) 1 ]

walk_finds : (p a n rest product : ℕ) → IsPrime p → rest ≤ n → 0 < rest → rest < p → product < p → (a * product) % p ≡ rest → inverse_walk p n rest product ≡ inverse p a
unfolding inverse_walk
walk_finds p a zero rest product prime h pos_rest rest_lt product_lt e = absurd (omega arith)
walk_finds p a (suc n) rest product prime h pos_rest rest_lt product_lt e =
    elim (cases_eq rest 1) [
      | inl one ↦ (let t : (rest == 1) ≡ true = eq-eqb rest 1 one in rw (t, inverse_walk) (inverse_is p a product product_lt prime.above_one (e ∙ one)))
      | inr other ↦
          (let t : (rest == 1) ≡ false = ne_eqb rest 1 other in
          let next = inverse_goes_on p a product rest ((product * (p - p / rest)) % p) prime pos_rest rest_lt other e refl in
          let less : p % rest < rest = mod-lt p pos_rest in
          rw (t, inverse_walk) (walk_finds p a n (p % rest) ((product * (p - p / rest)) % p) prime (omega arith) next.0 next.1 next.2 next.3))
    ]

-- numbers of one residue have one inverse
below-mod : (p a n : ℕ) → inverse_below p (a % p) n ≡ inverse_below p a n
unfolding inverse_below
below-mod p a zero = refl
below-mod p a (suc n) = rw (mul-mod_first a n p, below-mod p a n) refl

pub inverse-mod : (p a : ℕ) → inverse p (a % p) ≡ inverse p a
unfolding inverse
inverse-mod p a = below-mod p a p

-- a multiple of p has none
below_none : (p a n : ℕ) → 1 < p → a ≡ 0 → inverse_below p a n ≡ 0
unfolding inverse_below
below_none p a zero above e = refl
below_none p a (suc n) above e =
    let none : a * n ≡ 0 = ap (λ m. m * n) e ∙ (let z : 0 * n ≡ 0 = omega arith in z) in
    let nothing : (a * n) % p ≡ 0 = ap (λ m. m % p) none ∙ mod-eq_of_lt (omega arith) in
    let t : ((a * n) % p == 1) ≡ false = ne_eqb ((a * n) % p) 1 (λ one. absurd (omega arith)) in
    rw t (below_none p a n above e)

pub inverse-zero : (p a : ℕ) → 1 < p → a % p ≡ 0 → inverse p a ≡ 0
unfolding inverse
inverse-zero p a above e = sym (below-mod p a p) ∙ below_none p (a % p) p above e

quick_inverse_at : (p a : ℕ) → IsPrime p → quick_inverse p a ≡ inverse p a
unfolding quick_inverse
quick_inverse_at p a prime =
    elim (cases_eq (a % p) 0) [
      | inl nothing ↦ (let t : (a % p == 0) ≡ true = eq-eqb (a % p) 0 nothing in rw (t, quick_inverse) (sym (inverse-zero p a prime.above_one nothing)))
      | inr some ↦
          (let t : (a % p == 0) ≡ false = ne_eqb (a % p) 0 some in
          let above : 1 < p = prime.above_one in
          let below : a % p < p = mod-lt a (omega arith) in
          let itself : a % p * 1 ≡ a % p = omega arith in
          let start : (a % p * 1) % p ≡ a % p = ap (λ m. m % p) itself ∙ mod-mod a p in
          rw (t, quick_inverse) (walk_finds p (a % p) p (a % p) 1 prime (omega arith) (omega arith) below above start ∙ inverse-mod p a))
    ]

-- the two are one function, also at 0 and at numbers that are no words
pub quick_inverse_is : (p : ℕ) → IsPrime p → quick_inverse p ≡ inverse p
quick_inverse_is p prime = fun_ext (λ a. quick_inverse_at p a prime)

-- as at a word that takes few steps
quick_inverse-example : quick_inverse 65537 40503 ≡ 62995
unfolding quick_inverse inverse_walk
quick_inverse-example = refl
