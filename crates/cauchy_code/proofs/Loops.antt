-- What the loops over the code coefficients keep.
use Rattle.std.proofs.Common.{◌≡◌, ℕ, suc, ◌+◌, ◌-◌, ◌*◌, ◌/◌, ◌%◌, ◌<◌, List, [], ◌∷◌, length, get_or, drop, ap, subst, arith, drop-cons, add-one, add-zero}
use Rattle.std.proofs.Math.Nat.{mod-add-div'}
use Rattle.cauchy_code.specs.Solving.{column_sum, Scaled}
use Rattle.field_core.proofs.Modular.{same_mod}
use Rattle.cauchy_code.proofs.Modular.{multiples, absorb}

pub total_more : (p : ℕ) (inverse : ℕ → ℕ) (x at col i sum prod new : ℕ) (code : List ℕ) → i < length code → prod ≡ (inverse (at - col) * get_or code i 0) % p → new ≡ (sum + prod) % p
    → (sum + column_sum inverse at (drop i code) col) % p ≡ column_sum inverse x code col % p → (new + column_sum inverse (at + 1) (drop (i + 1) code) col) % p ≡ column_sum inverse x code col % p
total_more p inverse x at col i sum prod new code hi e f h =
    rw (f, e, absorb, add-one i) (rw (drop-cons code i 0) at h)

-- one coefficient, put back
pub unscale_one : (p k b t i a v : ℕ) → a ≡ (k * b) % p → v ≡ (a * i) % p → (t * i) % p ≡ 1 % p → (v * t) % p ≡ (k * b) % p
unscale_one p k b t i a v ea ev ei =
    let fv : v + (a * i) / p * p ≡ a * i = omega (arith, ev, mod-add-div' (a * i) p) in
    same_mod p (v * t) (k * b) (a * (1 / p) + t * (a * i / p) + k * b / p) (a * (t * i / p))
    (omega (arith, ea, mod-add-div' (k * b) p, ap (λ n. t * n) fv, ap (λ n. a * n) (multiples p (t * i) 1 ei)))

pub scaled_from : (p x col at : ℕ) (ds es : List ℕ) → length ds ≡ length es → ((i : ℕ) → i < length ds → (get_or ds i 0 * (at + i - x)) % p ≡ (get_or es i 0 * (at + i - col)) % p) → Scaled p x col at ds es
scaled_from p x col at [] [] l h = tt
scaled_from p x col at [] (e ∷ es) l h = absurd (omega arith)
scaled_from p x col at (d ∷ ds) [] l h = absurd (omega arith)
scaled_from p x col at (d ∷ ds) (e ∷ es) l h = (
  subst (λ m. (d * (m - x)) % p ≡ (e * (m - col)) % p) (add-zero at) (h 0 (omega arith)),
  scaled_from p x col (at + 1) ds es (omega arith) (λ i q.
      let m : at + suc i ≡ at + 1 + i = omega arith in
      subst (λ m. (get_or ds i 0 * (m - x)) % p ≡ (get_or es i 0 * (m - col)) % p) m (h (suc i) (omega arith))),
)

-- the coefficient that the loop is at
pub unscale_here : (p x col at k old cur i a v : ℕ) → at ≡ x + 1 + k → cur ≡ old → a ≡ (cur * (at - col)) % p → v ≡ (a * i) % p → ((at - x) * i) % p ≡ 1 % p → (v * (x + 1 + k - x)) % p ≡ (old * (x + 1 + k - col)) % p
unscale_here p x col at k old cur i a v e f ea ev ei =
    rw (← e, ← f) (unscale_one p cur (at - col) (at - x) i a v ea ev ei)
