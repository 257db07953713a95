-- The pivot that a search finds: no row, or the first row whose word is not 0.
use Rattle.std.proofs.Common.{◌≡◌, ◌≢◌, Some, None, subst, ℕ, zero, suc, ◌+◌, ◌<◌, ◌≤◌, ◌==◌, true, false, refl, ap, arith, inl, inr, eq-eqb}
use Rattle.std.proofs.lemmas.Bool.{cases_eq, ne_eqb}
use Rattle.serial_model.specs.Elimination.{pivot_from}

pub pivot_from-none : (c : ℕ → ℕ) (i count : ℕ) → ((k : ℕ) → i ≤ k → k < i + count → c k ≡ 0) → pivot_from c i count ≡ None
unfolding pivot_from
pivot_from-none c i zero all = refl
pivot_from-none c i (suc count) all =
    (let t : (c i == 0) ≡ true = eq-eqb (c i) 0 (all i (omega arith) (omega arith)) in
    rw t (pivot_from-none c (i + 1) count (λ k h1 h2. all k (omega arith) (omega arith))))

pub pivot_from-some : (c : ℕ → ℕ) (i count r : ℕ) → i ≤ r → r < i + count → c r ≢ 0 → ((k : ℕ) → i ≤ k → k < r → c k ≡ 0) → pivot_from c i count ≡ Some r
unfolding pivot_from
pivot_from-some c i zero r h1 h2 nonzero all = absurd (omega arith)
pivot_from-some c i (suc count) r h1 h2 nonzero all =
    elim (cases_eq i r) [
      | inl here ↦ (let t : (c i == 0) ≡ false = ne_eqb (c i) 0 (λ e. nonzero (subst (λ n. c n ≡ 0) here e)) in rw t (ap Some here))
      | inr later ↦ (let t : (c i == 0) ≡ true = eq-eqb (c i) 0 (all i (omega arith) (omega arith)) in
          rw t (pivot_from-some c (i + 1) count r (omega arith) (omega arith) nonzero (λ k g1 g2. all k (omega arith) (omega arith))))
    ]
