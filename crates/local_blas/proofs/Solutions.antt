-- What the words of a solution by substitution are.
use Rattle.std.proofs.Common.{◌≡◌, ℕ, zero, suc, ◌+◌, ◌-◌, ◌*◌, ◌%◌, ◌<◌, ◌==◌, Bool, true, false, refl, sym, ◌∙◌, ap, arith, inl, inr, subst, eq-eqb}
use Rattle.std.proofs.lemmas.Bool.{cases_eq, ne_eqb}
use Rattle.std.proofs.Math.Nat.{mod-lt}
use Rattle.field_core.specs.Sums.{sum_to}
use Rattle.field_core.proofs.Sums.{sum_to-same}
use Rattle.local_blas.specs.Kernels.{divided, substituted, solution}

-- a word that was found stays
substituted_stays : (p : ℕ) (inverse : ℕ → ℕ) (unit : Bool) (l : ℕ → ℕ → ℕ) (b : ℕ → ℕ) (n k : ℕ) → k < n → substituted p inverse unit l b n k ≡ solution p inverse unit l b k
unfolding substituted solution
substituted_stays p inverse unit l b zero k h = absurd (omega arith)
substituted_stays p inverse unit l b (suc n) k h =
    elim (cases_eq k n) [
      | inl last ↦ subst (λ m. substituted p inverse unit l b (suc m) k ≡ substituted p inverse unit l b (suc k) k) last refl
      | inr other ↦ (let t : (k == n) ≡ false = ne_eqb k n other in
          let below : k < n = omega arith in
          rw t (substituted_stays p inverse unit l b n k below))
    ]

-- what a word of the solution is, by the earlier ones
pub solution-equation : (p : ℕ) (inverse : ℕ → ℕ) (unit : Bool) (l : ℕ → ℕ → ℕ) (b : ℕ → ℕ) (i : ℕ) → solution p inverse unit l b i ≡ divided p inverse unit (l i i) ((b i + (p - 1) * sum_to i (λ k. l i k * solution p inverse unit l b k)) % p)
unfolding substituted
solution-equation p inverse unit l b i =
    let before : sum_to i (λ k. l i k * substituted p inverse unit l b i k) ≡ sum_to i (λ k. l i k * solution p inverse unit l b k) =
    sum_to-same i (λ k. l i k * substituted p inverse unit l b i k) (λ k. l i k * solution p inverse unit l b k) (λ k h. ap (λ x. l i k * x) (substituted_stays p inverse unit l b i k h)) in
    sym (substituted_stays p inverse unit l b (suc i) i (omega arith)) ∙ (let t : (i == i) ≡ true = eq-eqb i i refl in
    rw t (ap (λ s. divided p inverse unit (l i i) ((b i + (p - 1) * s) % p)) before))

divided-below : (p : ℕ) (inverse : ℕ → ℕ) (unit : Bool) (d x : ℕ) → 0 < p → divided p inverse unit d (x % p) < p
divided-below p inverse true d x pos_p = mod-lt x pos_p
divided-below p inverse false d x pos_p = mod-lt (x % p * inverse d) pos_p

pub solution-below : (p : ℕ) (inverse : ℕ → ℕ) (unit : Bool) (l : ℕ → ℕ → ℕ) (b : ℕ → ℕ) (i : ℕ) → 0 < p → solution p inverse unit l b i < p
solution-below p inverse unit l b i pos_p =
    rw (solution-equation p inverse unit l b i) (divided-below p inverse unit (l i i) (b i + (p - 1) * sum_to i (λ k. l i k * solution p inverse unit l b k)) pos_p)
