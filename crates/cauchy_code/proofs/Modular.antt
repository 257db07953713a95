-- Numbers with the same rest modulo p.
use Rattle.std.proofs.Common.{◌≡◌, ◌≢◌, ℕ, ◌+◌, ◌-◌, ◌*◌, ◌/◌, ◌%◌, ◌<◌, ◌≤◌, ◌∙◌, ap, ⊎_elim, arith}
use Rattle.std.proofs.lemmas.Bool.{cases_lt}
use Rattle.std.proofs.Math.Nat.{mod-add-div', mod-eq_of_lt, mod-lt, add-mod_right}
use Rattle.field_core.proofs.Modular.{same_mod}

-- numbers with the same rest, and the multiples that make them equal
pub multiples : (p a b : ℕ) → a % p ≡ b % p → a + b / p * p ≡ b + a / p * p
multiples p a b h = omega (arith, mod-add-div' a p, mod-add-div' b p)

-- what has an inverse may be cancelled
pub same_cancel : (p a u b c : ℕ) → (a * u) % p ≡ 1 % p → (a * b) % p ≡ (a * c) % p → b % p ≡ c % p
same_cancel p a u b c i h =
    same_mod p b c (u * ((a * c) / p) + (a * u) / p * b + (1 / p) * c) (u * ((a * b) / p) + (a * u) / p * c + (1 / p) * b)
    (omega (arith, ap (λ n. u * n) (multiples p (a * b) (a * c) h), ap (λ n. n * b) (multiples p (a * u) 1 i), ap (λ n. n * c) (multiples p (a * u) 1 i)))

-- one pole of a sum: x is z + c and y + d, the pole is t further on, u and v are the inverses of its distances from z and y
pub one_pole : (p y z c d t k e u v : ℕ) → z + c ≡ y + d → ((c + t) * u) % p ≡ 1 % p → ((d + t) * v) % p ≡ 1 % p → (k * t) % p ≡ (e * (d + t)) % p → (z * (u * e) + c * (u * k)) % p ≡ (y * (u * e) + d * (v * k)) % p
one_pole p y z c d t k e u v x iu iv s =
    let eu = multiples p ((c + t) * u) 1 iu in
    let ev = multiples p ((d + t) * v) 1 iv in
    let es = multiples p (k * t) (e * (d + t)) s in
    same_mod p (z * (u * e) + c * (u * k)) (y * (u * e) + d * (v * k))
    (u * ((k * t) / p) + v * ((e * (d + t)) / p) + e * ((c + t) * u / p) + (1 / p) * k + k * ((d + t) * v / p) + (1 / p) * e)
    (u * ((e * (d + t)) / p) + v * ((k * t) / p) + k * ((c + t) * u / p) + (1 / p) * e + e * ((d + t) * v / p) + (1 / p) * k)
    (omega (arith, ap (λ n. n * (u * e)) x, ap (λ n. n * e) eu, ap (λ n. n * k) eu, ap (λ n. n * e) ev, ap (λ n. n * k) ev, ap (λ n. u * n) es, ap (λ n. v * n) es))

-- what a pivot's own coefficient d adds to the sum pz at the column z, where the rest is s there: the target t
pub pivot : (p y z c d k u e pz py s t : ℕ) → (z * e + c * pz) % p ≡ (y * e + d * py) % p → e % p ≡ s % p → (z * s + c * t) % p ≡ (y * s) % p → (k + d * py) % p ≡ 0 % p → (c * u) % p ≡ 1 % p → (u * k + pz) % p ≡ t % p
pivot p y z c d k u e pz py s t r hs ht hd iu =
    same_cancel p c u (u * k + pz) t iu
    (same_mod p (c * (u * k + pz)) (c * t)
    ((z * s + c * t) / p + y * (s / p) + z * (e / p) + (1 / p) * k + (y * e + d * py) / p + 0 / p)
    ((y * s) / p + y * (e / p) + z * (s / p) + (c * u) / p * k + (z * e + c * pz) / p + (k + d * py) / p)
    (omega (arith, multiples p (z * e + c * pz) (y * e + d * py) r, ap (λ n. y * n) (multiples p e s hs), ap (λ n. z * n) (multiples p e s hs), multiples p (z * s + c * t) (y * s) ht, multiples p (k + d * py) 0 hd, ap (λ n. n * k) (multiples p (c * u) 1 iu))))

-- a sum that is told in two steps
pub absorb : (p a b r : ℕ) → ((a + b % p) % p + r) % p ≡ (a + (b + r)) % p
absorb p a b r =
    same_mod p ((a + b % p) % p + r) (a + (b + r)) ((a + b % p) / p + b / p) 0
    (omega (arith, mod-add-div' (a + b % p) p, mod-add-div' b p))

-- the pivot's coefficient, as it is computed
pub pivot_own : (p d total prod own : ℕ) → 0 < p → prod ≡ (d * (total % p)) % p → own ≡ (p - prod) % p → (own + d * total) % p ≡ 0 % p
pivot_own p d total prod own hp e f =
    same_mod p (own + d * total) 0 ((p - prod) / p) (1 + (d * (total % p)) / p + d * (total / p))
    (omega (arith, e, f, mod-add-div' (p - prod) p, mod-add-div' (d * (total % p)) p, ap (λ n. d * n) (mod-add-div' total p), mod-lt (d * (total % p)) hp))

-- the target that is left, as it is computed
pub pivot_target : (p y z c t a s i step : ℕ) → z ≤ p → a ≡ (c * t) % p → s ≡ (y + (p - z)) % p → (s * i) % p ≡ 1 % p → step ≡ (a * i) % p → (z * step + c * t) % p ≡ (y * step) % p
pivot_target p y z c t a s i step hz ea es ei e =
    let fs : s + z + (y + (p - z)) / p * p ≡ y + p = omega (arith, es, mod-add-div' (y + (p - z)) p) in
    let fstep : step + (a * i) / p * p ≡ a * i = omega (arith, e, mod-add-div' (a * i) p) in
    same_mod p (z * step + c * t) (y * step)
    (a * (s * i / p) + (y + (p - z)) / p * step)
    ((c * t) / p + a * (1 / p) + s * (a * i / p) + step)
    (omega (arith, ea, mod-add-div' (c * t) p, ap (λ n. n * step) fs, ap (λ n. n * a) (multiples p (s * i) 1 ei), ap (λ n. s * n) fstep))

-- a difference of two unlike residues is not zero
pub difference_pos : (p a b : ℕ) → a < p → b < p → a ≢ b → 0 < (a + (p - b)) % p
difference_pos p a b ha hb n =
    ⊎_elim (λ (h : a < b). let e : (a + (p - b)) % p ≡ a + (p - b) = mod-eq_of_lt (omega arith) in omega arith)
    (λ (h : b ≤ a). let e : (a + (p - b)) % p ≡ a - b = ap (λ m. m % p) (omega arith) ∙ add-mod_right (a - b) p ∙ mod-eq_of_lt (omega arith) in omega arith)
    (cases_lt a b)

-- the last coefficient, as it is computed
pub last_own : (p c t u k : ℕ) → t < p → k ≡ (c * t) % p → (c * u) % p ≡ 1 % p → (u * k + 0) % p ≡ t
last_own p c t u k ht e i =
    let f : k + (c * t) / p * p ≡ c * t = omega (arith, e, mod-add-div' (c * t) p) in
    same_mod p (u * k + 0) t ((1 / p) * t + u * (c * t / p)) ((c * u) / p * t)
    (omega (arith, ap (λ n. u * n) f, ap (λ n. n * t) (multiples p (c * u) 1 i))) ∙ mod-eq_of_lt ht
