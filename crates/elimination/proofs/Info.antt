use Rattle.std.proofs.Common.{◌≡◌, ◌≢◌, ℕ, zero, suc, ◌+◌, ◌-◌, ◌<◌, ◌≤◌, ◌==◌, min, true, false, if◌then◌else◌, nat_lt, Option, Some, None, refl, sym, ◌∙◌, ap, arith, inl, inr, eq-eqb}
use Rattle.std.proofs.lemmas.Bool.{cases_eq, ne_eqb, le-ltb}
use Rattle.local_blas.specs.Kernels.{swapped}
use Rattle.serial_model.specs.Elimination.{pivot_from, exchange, divide, subtract, Eliminated, with_pivot, eliminate_column, eliminate_columns, untouched, elimination, least_zero, diagonal, pivot_row}
use Rattle.elimination.specs.Panels.{IsReady}
use Rattle.elimination.proofs.Exchanges.{swapped-below}
use Rattle.elimination.proofs.Steps.{IsPivot, pivot_from-is, IsStep}
use Rattle.elimination.proofs.PanelLaws.{step-at}

-- the number depends on the tested words alone
pub least_zero-same : (c d : ℕ → ℕ) (n : ℕ) → ((i : ℕ) → i < n → c i ≡ d i) → least_zero c n ≡ least_zero d n
unfolding least_zero
least_zero-same c d zero same = refl
least_zero-same c d (suc n) same =
    ap (λ b. if b == 0 then (if c n == 0 then n + 1 else 0) else b) (least_zero-same c d n (λ i h. same i (omega arith)))
    ∙ ap (λ y. if least_zero d n == 0 then (if y == 0 then n + 1 else 0) else least_zero d n) (same n (omega arith))

diagonal_word : (p : ℕ) (inverse : ℕ → ℕ) (j : ℕ) (a : ℕ → ℕ → ℕ) → subtract p j (divide p inverse j a) j j ≡ a j j
unfolding subtract divide
diagonal_word p inverse j a =
    let t : nat_lt j j ≡ false = le-ltb j j (omega arith) in
    let u : (j == j) ≡ true = eq-eqb j j refl in
    simp (t, u)

pub swapped-first : (j r : ℕ) → swapped j r j ≡ r
swapped-first j r = (let u : (j == j) ≡ true = eq-eqb j j refl in rw u refl)

-- a step's INFO tells whether its diagonal word is 0
info-step : (p : ℕ) (inverse : ℕ → ℕ) (m j : ℕ) (s : Eliminated) → j < m → (eliminate_column p inverse m j s).info ≡ (if s.info == 0 then (if (eliminate_column p inverse m j s).words j j == 0 then j + 1 else 0) else s.info)
unfolding eliminate_column with_pivot IsPivot
info-step p inverse m j s h = by_pivot (pivot_from (λ i. s.words i j) j (m - j)) (pivot_from-is (λ i. s.words i j) j (m - j) m (omega arith))
  where
    by_pivot : (o : Option ℕ) → IsPivot (λ i. s.words i j) j m o → (with_pivot p inverse j s o).info ≡ (if s.info == 0 then (if (with_pivot p inverse j s o).words j j == 0 then j + 1 else 0) else s.info)
    by_pivot None known = (let t : (s.words j j == 0) ≡ true = eq-eqb (s.words j j) 0 (known j (omega arith) h) in simp t)
    by_pivot (Some r) known =
        let word : subtract p j (divide p inverse j (exchange j r s.words)) j j ≡ s.words r j = diagonal_word p inverse j (exchange j r s.words) ∙ ap (λ n. s.words n j) (swapped-first j r) in
        let t : (subtract p j (divide p inverse j (exchange j r s.words)) j j == 0) ≡ false = ne_eqb _ 0 (λ e. known.2 (sym word ∙ e)) in
        elim (cases_eq s.info 0) [
          | inl none ↦ (let u : (s.info == 0) ≡ true = eq-eqb s.info 0 none in simp (t, u) none)
          | inr some ↦ (let u : (s.info == 0) ≡ false = ne_eqb s.info 0 some in simp u)
        ]

-- the first n columns' INFO is the first zero of the diagonal
pub info-columns : (p : ℕ) (inverse : ℕ → ℕ) (m n : ℕ) (s : Eliminated) → n ≤ m → IsReady p m 0 s → s.info ≡ 0 → (eliminate_columns p inverse m 0 n s).info ≡ least_zero (diagonal (eliminate_columns p inverse m 0 n s).words) n
unfolding eliminate_columns least_zero
info-columns p inverse m zero s h ready none = none
info-columns p inverse m (suc n) s h ready none =
    let at : 0 + n ≡ n = omega arith in
    let t = eliminate_columns p inverse m 0 n s in
    let u = eliminate_columns p inverse m 0 (suc n) s in
    let st : IsStep p m (0 + n) t u = step-at p inverse m 0 n s (omega arith) ready in
    let kept : (i : ℕ) → i < n → t.words i i ≡ u.words i i =
    λ i hi. sym (st.left i i (omega arith) ∙ ap (λ r. t.words r i) (swapped-below (0 + n) (pivot_row u.pivots (0 + n)) i (omega arith) st.pivot_from)) in
    let before : t.info ≡ least_zero (diagonal u.words) n =
    info-columns p inverse m n s (omega arith) ready none ∙ least_zero-same (diagonal t.words) (diagonal u.words) n kept in
    info-step p inverse m (0 + n) t (omega arith)
    ∙ ap (λ b. if b == 0 then (if u.words (0 + n) (0 + n) == 0 then 0 + n + 1 else 0) else b) before
    ∙ ap (λ k. if least_zero (diagonal u.words) n == 0 then (if u.words k k == 0 then k + 1 else 0) else least_zero (diagonal u.words) n) at

pub info-is_test : (p : ℕ) (inverse : ℕ → ℕ) (m n : ℕ) (a : ℕ → ℕ → ℕ) → IsReady p m 0 (untouched a) → (elimination p inverse m n a).info ≡ least_zero (diagonal (elimination p inverse m n a).words) (min m n)
unfolding elimination
info-is_test p inverse m n a ready = info-columns p inverse m (min m n) (untouched a) (omega arith) ready refl

-- no zero: no number
pub least_zero-none : (c : ℕ → ℕ) (n : ℕ) → ((i : ℕ) → i < n → c i ≢ 0) → least_zero c n ≡ 0
unfolding least_zero
least_zero-none c zero some = refl
least_zero-none c (suc n) some =
    let before : least_zero c n ≡ 0 = least_zero-none c n (λ i h. some i (omega arith)) in
    let t : (c n == 0) ≡ false = ne_eqb (c n) 0 (some n (omega arith)) in
    simp (before, t)

-- the first zero: its number
pub least_zero-first : (c : ℕ → ℕ) (n i : ℕ) → i < n → c i ≡ 0 → ((k : ℕ) → k < i → c k ≢ 0) → least_zero c n ≡ i + 1
unfolding least_zero
least_zero-first c zero i h z some = absurd (omega arith)
least_zero-first c (suc n) i h z some =
    elim (cases_eq i n) [
      | inl last ↦
          (let before : least_zero c n ≡ 0 = least_zero-none c n (λ k hk. some k (omega arith)) in
          let t : (c n == 0) ≡ true = eq-eqb (c n) 0 (ap c (sym last) ∙ z) in
          simp (before, t) (ap (λ k. k + 1) (sym last)))
      | inr earlier ↦
          (let before : least_zero c n ≡ i + 1 = least_zero-first c n i (omega arith) z some in
          let t : (i + 1 == 0) ≡ false = ne_eqb (i + 1) 0 (omega arith) in
          simp (before, t))
    ]
