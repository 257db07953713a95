-- Sums with a pole at each code column, and what taking one code column away leaves.
use Rattle.std.specs.List.{AllByRecursion}
use Rattle.std.proofs.Math.Nat.{zero-mod, mod-eq_of_lt, mod-mod}
use Rattle.std.proofs.lemmas.List.Elements.{All-cons, All-head, All-tail}
use Rattle.std.proofs.Common.{◌≡◌, ◌≢◌, ℕ, suc, ◌+◌, ◌-◌, ◌*◌, ◌%◌, ◌<◌, ◌≤◌, Bool, true, false, List, [], ◌∷◌, length, All, refl, sym, subst, ◌∙◌, ap, arith}
use Rattle.cauchy_code.specs.Cauchy.{ZeroOutside, first_live}
use Rattle.cauchy_code.specs.Solving.{column_sum, Scaled, Solves}
use Rattle.field_core.proofs.Modular.{same_sum}
use Rattle.cauchy_code.proofs.Modular.{same_cancel, one_pole, pivot}

module _ (p : ℕ) (inverse : ℕ → ℕ) (inverse_law : (a : ℕ) → 0 < a → a < 32 → (a * inverse a) % p ≡ 1 % p) where
  -- y and z are two data columns, x a code column, and ks and es the coefficients of code columns past x
  pub poles : (x y z at : ℕ) (ks es : List ℕ) → y < x → z < x → x < at → at + length ks ≤ 32 → Scaled p x y at ks es
      → (z * column_sum inverse at es z + (x - z) * column_sum inverse at ks z) % p ≡ (y * column_sum inverse at es z + (x - y) * column_sum inverse at ks y) % p
  poles x y z at [] [] hy hz hx hl s = ap (λ n. n % p) (omega arith)
  poles x y z at [] (e ∷ es) hy hz hx hl s = absurd s
  poles x y z at (k ∷ ks) [] hy hz hx hl s = absurd s
  poles x y z at (k ∷ ks) (e ∷ es) hy hz hx hl s =
      let u = inverse (at - z) in
      let v = inverse (at - y) in
      let az : (x - z) + (at - x) ≡ at - z = omega arith in
      let ay : (x - y) + (at - x) ≡ at - y = omega arith in
      let iu : (((x - z) + (at - x)) * u) % p ≡ 1 % p = rw az (inverse_law (at - z) (omega arith) (omega arith)) in
      let iv : (((x - y) + (at - x)) * v) % p ≡ 1 % p = rw ay (inverse_law (at - y) (omega arith) (omega arith)) in
      let s0 : (k * (at - x)) % p ≡ (e * ((x - y) + (at - x))) % p = rw ay s.0 in
      let here = one_pole p y z (x - z) (x - y) (at - x) k e u v (omega arith) iu iv s0 in
      let rest = poles x y z (at + 1) ks es hy hz (omega arith) (omega arith) s.1 in
      ap (λ n. n % p) (omega arith) ∙ same_sum p _ _ _ _ here rest ∙ ap (λ n. n % p) (omega arith)

  -- where the scaled coefficients are zero the others are
  scaled_zeros : (x y at : ℕ) (hs : List Bool) (ks es : List ℕ) → 1 < p → y < x → x < at → at + length ks ≤ 32 → All (λ k. k < p) ks → Scaled p x y at ks es → ZeroOutside hs es → ZeroOutside hs ks
  scaled_zeros x y at [] [] [] hp hy hx hl r s z = tt
  scaled_zeros x y at [] [] (e ∷ es) hp hy hx hl r s z = absurd s
  scaled_zeros x y at [] (k ∷ ks) [] hp hy hx hl r s z = absurd s
  scaled_zeros x y at [] (k ∷ ks) (e ∷ es) hp hy hx hl r s z = absurd z
  scaled_zeros x y at (h ∷ hs) [] [] hp hy hx hl r s z = absurd z
  scaled_zeros x y at (h ∷ hs) [] (e ∷ es) hp hy hx hl r s z = absurd s
  scaled_zeros x y at (h ∷ hs) (k ∷ ks) [] hp hy hx hl r s z = absurd s
  scaled_zeros x y at (true ∷ hs) (k ∷ ks) (e ∷ es) hp hy hx hl r s z =
      scaled_zeros x y (at + 1) hs ks es hp hy (omega arith) (omega arith) (All-tail (λ k. k < p) k ks r) s.1 z
  scaled_zeros x y at (false ∷ hs) (k ∷ ks) (e ∷ es) hp hy hx hl r s z =
      let i = inverse_law (at - x) (omega arith) (omega arith) in
      let e0 : (at - x) * k ≡ k * (at - x) = omega arith in
      let e1 : ((at - x) * k) % p ≡ ((at - x) * 0) % p = ap (λ n. n % p) e0 ∙ s.0 ∙ ap (λ n. (n * (at - y)) % p) z.0 ∙ ap (λ n. n % p) (omega arith) in
      let e2 : k % p ≡ 0 % p = same_cancel p (at - x) (inverse (at - x)) k 0 i e1 in
      (sym (mod-eq_of_lt (All-head (λ k. k < p) k ks r)) ∙ e2 ∙ zero-mod p, scaled_zeros x y (at + 1) hs ks es hp hy (omega arith) (omega arith) (All-tail (λ k. k < p) k ks r) s.1 z.1)

  -- one more column, z: with the pivot's own coefficient the sum there is its target
  one_column : (x y z first s t : ℕ) (ks es : List ℕ) → y < x → z < x → x + 1 + length ks ≤ 32 → Scaled p x y (x + 1) ks es
      → (first + (x - y) * column_sum inverse (x + 1) ks y) % p ≡ 0 % p → column_sum inverse (x + 1) es z % p ≡ s % p → (z * s + (x - z) * t) % p ≡ (y * s) % p
      → column_sum inverse x (first ∷ ks) z % p ≡ t % p
  one_column x y z first s t ks es hy hz hl sc own hs ht =
      pivot p y z (x - z) (x - y) first (inverse (x - z)) (column_sum inverse (x + 1) es z) (column_sum inverse (x + 1) ks z) (column_sum inverse (x + 1) ks y) s t
      (poles x y z (x + 1) ks es hy hz (omega arith) hl sc) hs ht own (inverse_law (x - z) (omega arith) (omega arith))

  other_columns : (x y which first : ℕ) (ks es more : List ℕ) → y < x → x + 1 + length ks ≤ 32 → Scaled p x y (x + 1) ks es
      → (first + (x - y) * column_sum inverse (x + 1) ks y) % p ≡ 0 % p
      → AllByRecursion (λ z. (z < x) × (z ≢ which)) more → AllByRecursion (λ z. column_sum inverse (x + 1) es z % p ≡ 0) more → AllByRecursion (λ z. column_sum inverse x (first ∷ ks) z % p ≡ 0) more
  other_columns x y which first ks es [] hy hl sc own b s = tt
  other_columns x y which first ks es (z ∷ more) hy hl sc own b s = (
    one_column x y z first 0 0 ks es hy b.0.0 hl sc own (s.0 ∙ sym (zero-mod p)) (ap (λ n. n % p) (omega arith)) ∙ zero-mod p,
    other_columns x y which first ks es more hy hl sc own b.1 s.1,
  )

  -- the step of the elimination: a code column x that is not lost, and a data column y
  pub solves_pivot : (x y which first step target : ℕ) (lost : List Bool) (more ks es : List ℕ) → 1 < p → y < x → which < x → x + 1 + length lost ≤ 32 → length ks ≡ length es
      → AllByRecursion (λ z. (z < x) × (z ≢ which)) more → target < p → first < p → All (λ k. k < p) ks → Scaled p x y (x + 1) ks es
      → (first + (x - y) * column_sum inverse (x + 1) ks y) % p ≡ 0 % p → (which * step + (x - which) * target) % p ≡ (y * step) % p
      → Solves p inverse (x + 1) lost more which step es → Solves p inverse x (false ∷ lost) (y ∷ more) which target (first ∷ ks)
  solves_pivot x y which first step target lost more ks es hp hy hw hl le b ht hf r sc own st s =
      let hk : x + 1 + length ks ≤ 32 = omega (arith, s.len) in
      let z : ZeroOutside (first_live lost (length more + 1)) ks = scaled_zeros x y (x + 1) (first_live lost (length more + 1)) ks es hp hy (omega arith) hk r sc s.zeros in
      let n : suc (length more + 1) ≡ length (y ∷ more) + 1 = omega arith in
      record {
        len = omega (arith, s.len);
        residues = All-cons (λ k. k < p) first ks hf r;
        zeros = subst (λ m. ZeroOutside (first_live (false ∷ lost) m) (first ∷ ks)) n z;
        at_columns = (
          pivot p y y (x - y) (x - y) first (inverse (x - y)) 0 (column_sum inverse (x + 1) ks y) (column_sum inverse (x + 1) ks y) 0 0 refl refl (ap (λ n. n % p) (omega arith)) own (inverse_law (x - y) (omega arith) (omega arith)) ∙ zero-mod p,
          other_columns x y which first ks es more hy hk sc own b s.at_columns,
        );
        at_which = one_column x y which first step target ks es hy hw hk sc own (sym (mod-mod (column_sum inverse (x + 1) es which) p) ∙ ap (λ n. n % p) s.at_which) st ∙ mod-eq_of_lt ht;
      }
