-- Code coefficients with the same sums at as many lost columns as may have one are the same.
use Rattle.std.specs.List.{AllByRecursion}
use Rattle.std.proofs.Common.{◌≡◌, ℕ, zero, suc, ◌+◌, ◌-◌, ◌*◌, ◌/◌, ◌%◌, ◌<◌, ◌≤◌, Bool, true, false, List, [], ◌∷◌, length, All, refl, sym, ◌∙◌, ap, arith}
use Rattle.std.proofs.Math.Nat.{mod-eq_of_lt, mod-lt, mod-add-div', zero-mod, mul_comm, add_comm}
use Rattle.std.proofs.lemmas.List.Elements.{All-cons, All-head, All-tail, All-nil}
use Rattle.cauchy_code.specs.Cauchy.{ZeroOutside, first_live}
use Rattle.cauchy_code.specs.Solving.{column_sum, Scaled}
use Rattle.field_core.proofs.Modular.{same_mod}
use Rattle.cauchy_code.proofs.Modular.{multiples, same_cancel}
use Rattle.cauchy_code.proofs.Poles.{poles}

-- two lists, two columns: what is left of their sums when the head is taken away
pub reduce_one : (p y z c d u v k l s1 z1 y1 s2 z2 y2 : ℕ) → (z * s1 + c * z1) % p ≡ (y * s1 + d * y1) % p → (z * s2 + c * z2) % p ≡ (y * s2 + d * y2) % p
    → (u * k + z1) % p ≡ (u * l + z2) % p → (v * k + y1) % p ≡ (v * l + y2) % p → (c * u) % p ≡ 1 % p → (d * v) % p ≡ 1 % p
    → (z * s1 + y * s2) % p ≡ (y * s1 + z * s2) % p
reduce_one p y z c d u v k l s1 z1 y1 s2 z2 y2 r1 r2 hz hy iu iv =
    same_mod p (z * s1 + y * s2) (y * s1 + z * s2)
    ((y * s1 + d * y1) / p + (z * s2 + c * z2) / p + c * ((u * k + z1) / p) + d * ((v * l + y2) / p) + (1 / p) * k + c * u / p * l + (1 / p) * l + d * v / p * k)
    ((z * s1 + c * z1) / p + (y * s2 + d * y2) / p + c * ((u * l + z2) / p) + d * ((v * k + y1) / p) + c * u / p * k + (1 / p) * l + (1 / p) * k + d * v / p * l)
    (omega (arith, multiples p (z * s1 + c * z1) (y * s1 + d * y1) r1, multiples p (z * s2 + c * z2) (y * s2 + d * y2) r2, ap (λ n. c * n) (multiples p (u * k + z1) (u * l + z2) hz), ap (λ n. d * n) (multiples p (v * k + y1) (v * l + y2) hy), ap (λ n. n * k) (multiples p (c * u) 1 iu), ap (λ n. n * l) (multiples p (c * u) 1 iu), ap (λ n. n * k) (multiples p (d * v) 1 iv), ap (λ n. n * l) (multiples p (d * v) 1 iv)))

-- what stands beside a common part
pub same_cancel_add : (p a b c : ℕ) → (a + b) % p ≡ (a + c) % p → b % p ≡ c % p
same_cancel_add p a b c h = same_mod p b c ((a + c) / p) ((a + b) / p) (omega (arith, multiples p (a + b) (a + c) h))

-- two columns, z further than y by g
pub cancel_between : (p y g s1 s2 z : ℕ) → z ≡ g + y → (z * s1 + y * s2) % p ≡ (y * s1 + z * s2) % p → (g * s1) % p ≡ (g * s2) % p
cancel_between p y g s1 s2 z e h =
    same_cancel_add p (y * s1 + y * s2) (g * s1) (g * s2)
    (ap (λ n. n % p) (omega (arith, ap (λ n. n * s1) e)) ∙ h ∙ ap (λ n. n % p) (omega (arith, ap (λ n. n * s2) e)))

-- a scaled coefficient
pub scaled_one : (p k t b v : ℕ) → (b * v) % p ≡ 1 % p → (k * t) % p ≡ ((v * (t * k)) % p * b) % p
scaled_one p k t b v i =
    same_mod p (k * t) ((v * (t * k)) % p * b) (b * v / p * (t * k)) (v * (t * k) / p * b + (1 / p) * (t * k))
    (omega (arith, ap (λ n. n * b) (mod-add-div' (v * (t * k)) p), ap (λ n. n * (t * k)) (multiples p (b * v) 1 i)))

pub length-zero_outside : (hs : List Bool) (ks : List ℕ) → ZeroOutside hs ks → length ks ≡ length hs
length-zero_outside [] [] z = refl
length-zero_outside [] (k ∷ ks) z = absurd z
length-zero_outside (h ∷ hs) [] z = absurd z
length-zero_outside (true ∷ hs) (k ∷ ks) z = omega (arith, length-zero_outside hs ks z)
length-zero_outside (false ∷ hs) (k ∷ ks) z = omega (arith, length-zero_outside hs ks z.1)

pub length-first_live : (lost : List Bool) (n : ℕ) → length (first_live lost n) ≡ length lost
length-first_live [] n = refl
length-first_live (true ∷ lost) n = omega (arith, length-first_live lost n)
length-first_live (false ∷ lost) zero = omega (arith, length-first_live lost 0)
length-first_live (false ∷ lost) (suc n) = omega (arith, length-first_live lost n)

pub below_up : (x : ℕ) (ys : List ℕ) → AllByRecursion (λ y. y < x) ys → AllByRecursion (λ y. y < x + 1) ys
below_up x [] h = tt
below_up x (y ∷ ys) h = (omega arith, below_up x ys h.1)

abbrev pub Ascending : List ℕ → Type 0
Ascending [] = Unit {0}
Ascending (y ∷ ys) = AllByRecursion (λ z. y < z) ys × Ascending ys

abbrev pub SameSums : ℕ → (ℕ → ℕ) → ℕ → List ℕ → List ℕ → List ℕ → Type 0
SameSums p inverse x ks ls ys = AllByRecursion (λ y. column_sum inverse x ks y % p ≡ column_sum inverse x ls y % p) ys

same_tail : (p : ℕ) (inverse : ℕ → ℕ) (x k l : ℕ) (ks ls ys : List ℕ) → k ≡ l → SameSums p inverse x (k ∷ ks) (l ∷ ls) ys → SameSums p inverse (x + 1) ks ls ys
same_tail p inverse x k l ks ls [] e h = tt
same_tail p inverse x k l ks ls (y ∷ ys) e h =
    let h0 : (inverse (x - y) * k + column_sum inverse (x + 1) ks y) % p ≡ (inverse (x - y) * k + column_sum inverse (x + 1) ls y) % p = h.0 ∙ ap (λ n. (inverse (x - y) * n + column_sum inverse (x + 1) ls y) % p) (sym e) in
    (same_cancel_add p (inverse (x - y) * k) (column_sum inverse (x + 1) ks y) (column_sum inverse (x + 1) ls y) h0, same_tail p inverse x k l ks ls ys e h.1)

-- coefficients, scaled: each times its distance from x, divided by its distance from y
abbrev pub scaled : ℕ → (ℕ → ℕ) → ℕ → ℕ → ℕ → List ℕ → List ℕ
scaled p inverse x y at [] = []
scaled p inverse x y at (k ∷ ks) = (inverse (at - y) * ((at - x) * k)) % p ∷ scaled p inverse x y (at + 1) ks

module _ (p : ℕ) (inverse : ℕ → ℕ) (law : (a : ℕ) → 0 < a → a < 32 → (a * inverse a) % p ≡ 1 % p) (one : 1 < p) where
  scaled-is : (x y at : ℕ) (ks : List ℕ) → y < x → x < at → at + length ks ≤ 32 → Scaled p x y at ks (scaled p inverse x y at ks)
  scaled-is x y at [] hy hx hl = tt
  scaled-is x y at (k ∷ ks) hy hx hl = (scaled_one p k (at - x) (at - y) (inverse (at - y)) (law (at - y) (omega arith) (omega arith)), scaled-is x y (at + 1) ks hy (omega arith) (omega arith))

  residues-scaled : (x y at : ℕ) (ks : List ℕ) → All (λ k. k < p) (scaled p inverse x y at ks)
  residues-scaled x y at [] = All-nil (λ k. k < p)
  residues-scaled x y at (k ∷ ks) = All-cons (λ k. k < p) _ _ (mod-lt _ (omega arith)) (residues-scaled x y (at + 1) ks)

  zeros-scaled : (x y at : ℕ) (hs : List Bool) (ks : List ℕ) → ZeroOutside hs ks → ZeroOutside hs (scaled p inverse x y at ks)
  zeros-scaled x y at [] [] z = tt
  zeros-scaled x y at [] (k ∷ ks) z = absurd z
  zeros-scaled x y at (h ∷ hs) [] z = absurd z
  zeros-scaled x y at (true ∷ hs) (k ∷ ks) z = zeros-scaled x y (at + 1) hs ks z
  zeros-scaled x y at (false ∷ hs) (k ∷ ks) z = (ap (λ n. (inverse (at - y) * ((at - x) * n)) % p) z.0 ∙ ap (λ n. n % p) (omega arith) ∙ zero-mod p, zeros-scaled x y (at + 1) hs ks z.1)

  -- scaling forgets nothing
  same-from_scaled : (x y at : ℕ) (ks ls : List ℕ) → y < x → x < at → at + length ks ≤ 32 → All (λ k. k < p) ks → All (λ k. k < p) ls → scaled p inverse x y at ks ≡ scaled p inverse x y at ls → ks ≡ ls
  same-from_scaled x y at [] [] hy hx hl rk rl e = refl
  same-from_scaled x y at [] (l ∷ ls) hy hx hl rk rl e = absurd (cc)
  same-from_scaled x y at (k ∷ ks) [] hy hx hl rk rl e = absurd (cc)
  same-from_scaled x y at (k ∷ ks) (l ∷ ls) hy hx hl rk rl e =
      let e0 : (inverse (at - y) * ((at - x) * k)) % p ≡ (inverse (at - y) * ((at - x) * l)) % p = cc in
      let e1 : scaled p inverse x y (at + 1) ks ≡ scaled p inverse x y (at + 1) ls = cc in
      let v : (inverse (at - y) * (at - y)) % p ≡ 1 % p = ap (λ n. n % p) (mul_comm (inverse (at - y)) (at - y)) ∙ law (at - y) (omega arith) (omega arith) in
      let f = same_cancel p (at - x) (inverse (at - x)) k l (law (at - x) (omega arith) (omega arith)) (same_cancel p (inverse (at - y)) (at - y) ((at - x) * k) ((at - x) * l) v e0) in
      let g : k ≡ l = sym (mod-eq_of_lt (All-head (λ k. k < p) k ks rk)) ∙ f ∙ mod-eq_of_lt (All-head (λ k. k < p) l ls rl) in
      let t : ks ≡ ls = same-from_scaled x y (at + 1) ks ls hy (omega arith) (omega arith) (All-tail (λ k. k < p) k ks rk) (All-tail (λ k. k < p) l ls rl) e1 in cc

  -- the columns after the first
  reduced : (x y k l : ℕ) (ks ls ys : List ℕ) → y < x → x + 1 + length ks ≤ 32 → x + 1 + length ls ≤ 32 → AllByRecursion (λ z. z < x) ys → AllByRecursion (λ z. y < z) ys → column_sum inverse x (k ∷ ks) y % p ≡ column_sum inverse x (l ∷ ls) y % p
      → SameSums p inverse x (k ∷ ks) (l ∷ ls) ys → SameSums p inverse (x + 1) (scaled p inverse x y (x + 1) ks) (scaled p inverse x y (x + 1) ls) ys
  reduced x y k l ks ls [] hy hk hl b a e h = tt
  reduced x y k l ks ls (z ∷ ys) hy hk hl b a e h =
      let s1 = column_sum inverse (x + 1) (scaled p inverse x y (x + 1) ks) z in
      let s2 = column_sum inverse (x + 1) (scaled p inverse x y (x + 1) ls) z in
      let r = reduce_one p y z (x - z) (x - y) (inverse (x - z)) (inverse (x - y)) k l s1 (column_sum inverse (x + 1) ks z) (column_sum inverse (x + 1) ks y) s2 (column_sum inverse (x + 1) ls z) (column_sum inverse (x + 1) ls y)
      (poles p inverse law x y z (x + 1) ks (scaled p inverse x y (x + 1) ks) hy b.0 (omega arith) hk (scaled-is x y (x + 1) ks hy (omega arith) hk))
      (poles p inverse law x y z (x + 1) ls (scaled p inverse x y (x + 1) ls) hy b.0 (omega arith) hl (scaled-is x y (x + 1) ls hy (omega arith) hl))
      h.0 e (law (x - z) (omega arith) (omega arith)) (law (x - y) (omega arith) (omega arith)) in (
        same_cancel p (z - y) (inverse (z - y)) s1 s2 (law (z - y) (omega arith) (omega arith)) (cancel_between p y (z - y) s1 s2 z (omega arith) r),
        reduced x y k l ks ls ys hy hk hl b.1 a.1 e h.1,
      )

  pub unique : (x : ℕ) (lost : List Bool) (ys ks ls : List ℕ) → x + length lost ≤ 32 → AllByRecursion (λ y. y < x) ys → Ascending ys → All (λ k. k < p) ks → All (λ k. k < p) ls
      → ZeroOutside (first_live lost (length ys)) ks → ZeroOutside (first_live lost (length ys)) ls → SameSums p inverse x ks ls ys → ks ≡ ls
  unique x [] ys [] [] hx b a rk rl zk zl h = refl
  unique x [] ys [] (l ∷ ls) hx b a rk rl zk zl h = absurd zl
  unique x [] ys (k ∷ ks) ls hx b a rk rl zk zl h = absurd zk
  unique x (o ∷ lost) ys [] ls hx b a rk rl zk zl h = absurd (omega (arith, length-zero_outside (first_live (o ∷ lost) (length ys)) [] zk, length-first_live (o ∷ lost) (length ys)))
  unique x (o ∷ lost) ys (k ∷ ks) [] hx b a rk rl zk zl h = absurd (omega (arith, length-zero_outside (first_live (o ∷ lost) (length ys)) [] zl, length-first_live (o ∷ lost) (length ys)))
  unique x (true ∷ lost) ys (k ∷ ks) (l ∷ ls) hx b a rk rl zk zl h =
      let e : k ≡ l = zk.0 ∙ sym zl.0 in
      let t : ks ≡ ls = unique (x + 1) lost ys ks ls (omega arith) (below_up x ys b) a (All-tail (λ k. k < p) k ks rk) (All-tail (λ k. k < p) l ls rl) zk.1 zl.1 (same_tail p inverse x k l ks ls ys e h) in cc
  unique x (false ∷ lost) [] (k ∷ ks) (l ∷ ls) hx b a rk rl zk zl h =
      let e : k ≡ l = zk.0 ∙ sym zl.0 in
      let t : ks ≡ ls = unique (x + 1) lost [] ks ls (omega arith) tt tt (All-tail (λ k. k < p) k ks rk) (All-tail (λ k. k < p) l ls rl) zk.1 zl.1 tt in cc
  unique x (false ∷ lost) (y ∷ ys) (k ∷ ks) (l ∷ ls) hx b a rk rl zk zl h =
      let nk = length-zero_outside (first_live lost (length ys)) ks zk in
      let nl = length-zero_outside (first_live lost (length ys)) ls zl in
      let n = length-first_live lost (length ys) in
      let es = unique (x + 1) lost ys (scaled p inverse x y (x + 1) ks) (scaled p inverse x y (x + 1) ls) (omega arith) (below_up x ys b.1) a.1
      (residues-scaled x y (x + 1) ks) (residues-scaled x y (x + 1) ls) (zeros-scaled x y (x + 1) _ ks zk) (zeros-scaled x y (x + 1) _ ls zl)
      (reduced x y k l ks ls ys b.0 (omega arith) (omega arith) b.1 a.0 h.0 h.1) in
      let t : ks ≡ ls = same-from_scaled x y (x + 1) ks ls b.0 (omega arith) (omega arith) (All-tail (λ k. k < p) k ks rk) (All-tail (λ k. k < p) l ls rl) es in
      let u : (inverse (x - y) * (x - y)) % p ≡ 1 % p = ap (λ n. n % p) (mul_comm (inverse (x - y)) (x - y)) ∙ law (x - y) (omega arith) (omega arith) in
      let h0 : (column_sum inverse (x + 1) ls y + inverse (x - y) * k) % p ≡ (column_sum inverse (x + 1) ls y + inverse (x - y) * l) % p =
      ap (λ m. (column_sum inverse (x + 1) m y + inverse (x - y) * k) % p) (sym t) ∙ ap (λ n. n % p) (add_comm _ _) ∙ h.0 ∙ ap (λ n. n % p) (add_comm _ _) in
      let f = same_cancel p (inverse (x - y)) (x - y) k l u (same_cancel_add p (column_sum inverse (x + 1) ls y) (inverse (x - y) * k) (inverse (x - y) * l) h0) in
      let e : k ≡ l = sym (mod-eq_of_lt (All-head (λ k. k < p) k ks rk)) ∙ f ∙ mod-eq_of_lt (All-head (λ k. k < p) l ls rl) in cc
