-- A solve with the factors of an elimination solves the system of the matrix that was eliminated.
use Rattle.std.proofs.Common.{◌≡◌, ◌≢◌, ℕ, zero, suc, ◌+◌, ◌*◌, ◌%◌, ◌<◌, ◌==◌, min, true, false, List, sym, ◌∙◌, ap, arith, inl, inr, subst, eq-eqb}
use Rattle.std.proofs.Math.Nat.{mod-mod}
use Rattle.std.proofs.lemmas.Bool.{cases_eq, ne_eqb}
use Rattle.field_core.specs.Sums.{sum_to}
use Rattle.local_blas.specs.Kernels.{solution}
use Rattle.serial_model.specs.Elimination.{untouched, elimination, least_zero, diagonal, came_from, exchanged}
use Rattle.serial_model.specs.Solves.{solved_with_factors}
use Rattle.elimination.specs.Panels.{IsReady}
use Rattle.elimination.proofs.Info.{info-is_test}
use Rattle.elimination.proofs.Words.{elimination-ready, elimination-pivots}
use Rattle.serial_model.specs.Transposes.{came_back_from}
use Rattle.factor_laws.specs.Triangles.{Inverts, triangle_word}
use Rattle.factor_laws.proofs.Triangles.{Divides, divides-one, divides-word, lower-meets, upper-meets}
use Rattle.factor_laws.proofs.Factors.{factors-multiply}
use Rattle.factor_laws.proofs.Exchanges.{AreBelow, there_and_back, came_back_from-below}
use Rattle.factor_laws.proofs.Products.{row_through}

-- where no number is found, no word is 0
pub least_zero-found_none : (c : ℕ → ℕ) (n : ℕ) → least_zero c n ≡ 0 → (i : ℕ) → i < n → c i ≢ 0
unfolding least_zero
least_zero-found_none c zero e i h z = absurd (omega arith)
least_zero-found_none c (suc n) e i h z =
    elim (cases_eq (least_zero c n) 0) [
      | inl none ↦
          (let t : (least_zero c n == 0) ≡ true = eq-eqb (least_zero c n) 0 none in
          elim (cases_eq (c n) 0) [
            | inl here ↦
                (let u : (c n == 0) ≡ true = eq-eqb (c n) 0 here in
                let found : n + 1 ≡ 0 = rw (t, u) at e in
                absurd (omega arith))
            | inr other ↦
                (elim (cases_eq i n) [
                  | inl last ↦ other (ap c (sym last) ∙ z)
                  | inr earlier ↦ least_zero-found_none c n none i (omega arith) z
                ])
          ])
      | inr some ↦
          (let t : (least_zero c n == 0) ≡ false = ne_eqb (least_zero c n) 0 some in
          some (rw t at e))
    ]

-- what is known of the factors of a square matrix of n rows without a zero pivot
pub record IsFactored (p : ℕ) (inverse : ℕ → ℕ) (n : ℕ) (a f : ℕ → ℕ → ℕ) (v : List ℕ) : Type 0 where
  pub pos_p : 0 < p
  pub product : (i j : ℕ) → j < n → sum_to n (λ k. triangle_word true true f i k * triangle_word false false f k j) % p ≡ a (came_from v 0 n i) j
  pub divides : (i : ℕ) → i < n → Divides p inverse false (f i i)
  pub rows : AreBelow v 0 n n

pub factored-of : (p : ℕ) (inverse : ℕ → ℕ) (n : ℕ) (a : ℕ → ℕ → ℕ) → Inverts p inverse → IsReady p n 0 (untouched a) → (elimination p inverse n n a).info ≡ 0 → IsFactored p inverse n a (elimination p inverse n n a).words (elimination p inverse n n a).pivots
factored-of p inverse n a inverts ready none =
    let all : min n n ≡ n = omega arith in
    let s = elimination p inverse n n a in
    let after : IsReady p n (min n n) s = elimination-ready p inverse n n a ready in
    let zero_none : least_zero (diagonal s.words) n ≡ 0 = ap (least_zero (diagonal s.words)) (sym all) ∙ sym (info-is_test p inverse n n a ready) ∙ none in
    record {
      pos_p = omega (arith, ready.below 0 0);
      product = λ i j h.
          subst (λ c. sum_to c (λ k. triangle_word true true s.words i k * triangle_word false false s.words k j) % p ≡ a (came_from s.pivots 0 c i) j) all (factors-multiply p inverse n n a i j inverts ready h);
      divides = λ i h. divides-word p inverse (s.words i i) inverts (least_zero-found_none (diagonal s.words) n zero_none i h) (after.below i i);
      rows = record { below = λ k _ h. (elimination-pivots p inverse n n a ready k (omega arith)).1 };
    }

-- the solve with factors solves A X = B, column by column
pub factors-solve : (p : ℕ) (inverse : ℕ → ℕ) (n : ℕ) (a f : ℕ → ℕ → ℕ) (v : List ℕ) (b : ℕ → ℕ) (i : ℕ) → IsFactored p inverse n a f v → i < n → sum_to n (λ k. a i k * solved_with_factors p inverse f v n b k) % p ≡ b i % p
factors-solve p inverse n a f v b i known h =
    let q = came_back_from v 0 n i in
    let hq : q < n = came_back_from-below v 0 n n i (omega arith) known.rows h in
    let back : came_from v 0 n q ≡ i = there_and_back v 0 n i in
    let x : ℕ → ℕ = solved_with_factors p inverse f v n b in
    let y : ℕ → ℕ = solution p inverse true f (exchanged v 0 n b) in
    row_through p n n (a i) (triangle_word true true f q) (triangle_word false false f) x y (b i)
    (λ k hk. ap (λ r. a r k % p) (sym back) ∙ sym (ap (λ s. s % p) (known.product q k hk)) ∙ mod-mod (sum_to n (λ r. triangle_word true true f q r * triangle_word false false f r k)) p)
    (λ r hr. upper-meets p inverse false f y n r known.pos_p hr (known.divides r hr))
    (lower-meets p inverse true f (exchanged v 0 n b) n q known.pos_p hq (divides-one p inverse (f q q)) ∙ ap (λ r. b r % p) back)
