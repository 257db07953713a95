-- The factors that elimination by columns leaves multiply back to the matrix with its rows exchanged.
use Rattle.std.proofs.Common.{◌≡◌, ◌≢◌, ℕ, zero, suc, ◌+◌, ◌-◌, ◌*◌, ◌%◌, ◌<◌, ◌≤◌, ◌==◌, min, true, false, if◌then◌else◌, nat_lt, List, [], ◌∷◌, ◌++◌, length, get_or, Option, Some, None, refl, sym, ◌∙◌, ap, arith, inl, inr, subst}
use Rattle.std.proofs.Math.Nat.{mod-lt, mod-eq_of_lt, mod-mod}
use Rattle.std.proofs.lemmas.List.{get_or-append_right}
use Rattle.std.proofs.lemmas.Nat.{mul-mod_first, mul-mod_second}
use Rattle.std.proofs.lemmas.Bool.{cases_lt, lt-ltb, le-ltb}
use Rattle.std.proofs.lemmas.Bool.Decides.{nat_tests}
use Rattle.field_core.specs.Sums.{sum_to}
use Rattle.field_core.proofs.Modular.{same_mod, same_sum}
use Rattle.field_core.proofs.Sums.{sum_to-none, sum_to-suc, sum_to-same}
use Rattle.local_blas.specs.Kernels.{swapped}
use Rattle.serial_model.specs.Elimination.{pivot_from, exchange, divide, subtract, Eliminated, with_pivot, eliminate_column, eliminate_columns, untouched, elimination, pivot_row, came_from, exchanged}
use Rattle.elimination.specs.Panels.{IsReady}
use Rattle.elimination.proofs.Exchanges.{swapped-same, swapped-below, swapped-from, swapped-test, lose, came_from-same}
use Rattle.elimination.proofs.Steps.{IsPivot, pivot_from-is, IsStep}
use Rattle.elimination.proofs.Info.{swapped-first}
use Rattle.elimination.proofs.PanelLaws.{ready-columns, step-at}
use Rattle.elimination.proofs.Words.{column-above, column-multiplier, multiplier_at}
use Rattle.factor_laws.specs.Triangles.{Inverts, triangle_word}
use Rattle.factor_laws.proofs.Triangles.{triangle-diagonal, triangle-under, triangle-right, triangle-over, triangle-left}

-- what a step does to its own column: the words down to the diagonal have their rows exchanged, and those below it become multipliers
pub record IsColumn (p j : ℕ) (s t : Eliminated) : Type 0 where
  pub above : (i : ℕ) → i ≤ j → t.words i j ≡ s.words (swapped j (pivot_row t.pivots j) i) j
  pub under : (i : ℕ) → j < i → (t.words i j * t.words j j) % p ≡ s.words (swapped j (pivot_row t.pivots j) i) j

last_row : (v : List ℕ) (j r : ℕ) → length v ≡ j → pivot_row (v ++ ((r + 1) ∷ [])) j ≡ r
unfolding pivot_row
last_row v j r e =
    ap (λ n. n - 1) (get_or-append_right v ((r + 1) ∷ []) j j 0 e (omega arith) ∙ ap (λ n. get_or ((r + 1) ∷ []) n 0) (let z : j - j ≡ 0 = omega arith in z)) ∙ (let z : r + 1 - 1 ≡ r = omega arith in z)

-- dividing by a word and multiplying by it
divided_back : (p : ℕ) (inverse : ℕ → ℕ) (x d : ℕ) → Inverts p inverse → d ≢ 0 → d < p → x < p → ((x * inverse d) % p * d) % p ≡ x
divided_back p inverse x d inverts some below small =
    mul-mod_first (x * inverse d) d p
    ∙ ap (λ n. n % p) (let e : x * inverse d * d ≡ x * (d * inverse d) = omega arith in e)
    ∙ sym (mul-mod_second x (d * inverse d) p)
    ∙ ap (λ n. (x * n) % p) (inverts.product d some below)
    ∙ ap (λ n. n % p) (let e : x * 1 ≡ x = omega arith in e) ∙ mod-eq_of_lt small

without_pivot : (p : ℕ) (inverse : ℕ → ℕ) (m j : ℕ) (s : Eliminated) → j < m → IsReady p m j s → IsPivot (λ i. s.words i j) j m None → IsColumn p j s (with_pivot p inverse j s None)
unfolding with_pivot IsPivot
without_pivot p inverse m j s h ready none =
    let is : pivot_row (s.pivots ++ ((j + 1) ∷ [])) j ≡ j = last_row s.pivots j j ready.count in
    let stays : (i : ℕ) → s.words i j ≡ s.words (swapped j (pivot_row (s.pivots ++ ((j + 1) ∷ [])) j) i) j =
    λ i. ap (λ n. s.words n j) (sym (ap (λ r. swapped j r i) is ∙ swapped-same j i)) in
    let zeros : (i : ℕ) → j < i → s.words i j ≡ 0 =
    λ i hi. elim (cases_lt i m) [ inl inside ↦ none i (omega arith) inside | inr past ↦ ready.past i j past ] in
    let pos_p : 0 < p = omega (arith, ready.below 0 0) in
    record {
      above = λ i _. stays i;
      under = λ i hi.
          ap (λ x. (x * s.words j j) % p) (zeros i hi)
          ∙ ap (λ x. x % p) (let e : 0 * s.words j j ≡ 0 = omega arith in e) ∙ mod-eq_of_lt pos_p ∙ sym (zeros i hi) ∙ stays i;
    }

with_row : (p : ℕ) (inverse : ℕ → ℕ) (m j r : ℕ) (s : Eliminated) → Inverts p inverse → j < m → IsReady p m j s → s.words r j ≢ 0 → IsColumn p j s (with_pivot p inverse j s (Some r))
unfolding with_pivot
with_row p inverse m j r s inverts h ready some =
    let a : ℕ → ℕ → ℕ = exchange j r s.words in
    let is : r ≡ pivot_row (s.pivots ++ ((r + 1) ∷ [])) j = sym (last_row s.pivots j r ready.count) in
    let word : a j j ≡ s.words r j = ap (λ n. s.words n j) (swapped-first j r) in
    record {
      above = λ i hi. column-above p inverse j a i j hi ∙ ap (λ n. s.words (swapped j n i) j) is;
      under = λ i hi.
          ap (λ x. (x * subtract p j (divide p inverse j a) j j) % p) (column-multiplier p inverse j a i hi)
          ∙ ap (λ x. (multiplier_at p inverse j a i * x) % p) (column-above p inverse j a j j (omega arith))
          ∙ divided_back p inverse (a i j) (a j j) inverts (λ e. some (sym word ∙ e)) (ready.below (swapped j r j) j) (ready.below (swapped j r i) j)
          ∙ ap (λ n. s.words (swapped j n i) j) is;
    }

pub column-of : (p : ℕ) (inverse : ℕ → ℕ) (m j : ℕ) (s : Eliminated) → Inverts p inverse → j < m → IsReady p m j s → IsColumn p j s (eliminate_column p inverse m j s)
unfolding eliminate_column IsPivot
column-of p inverse m j s inverts h ready = by_pivot (pivot_from (λ i. s.words i j) j (m - j)) (pivot_from-is (λ i. s.words i j) j (m - j) m (omega arith))
  where
    by_pivot : (o : Option ℕ) → IsPivot (λ i. s.words i j) j m o → IsColumn p j s (with_pivot p inverse j s o)
    by_pivot None known = without_pivot p inverse m j s h ready known
    by_pivot (Some r) known = with_row p inverse m j r s inverts h ready known.2

pub column-at : (p : ℕ) (inverse : ℕ → ℕ) (m first n : ℕ) (s : Eliminated) → Inverts p inverse → first + suc n ≤ m → IsReady p m first s → IsColumn p (first + n) (eliminate_columns p inverse m first n s) (eliminate_columns p inverse m first (suc n) s)
unfolding eliminate_columns
column-at p inverse m first n s inverts h ready = column-of p inverse m (first + n) (eliminate_columns p inverse m first n s) inverts (omega arith) (ready-columns p inverse m first n s (omega arith) ready)

-- the words that are still to be eliminated: below the first n rows, and right of the first n columns
unfoldable pub left_over : ℕ → (ℕ → ℕ → ℕ) → ℕ → ℕ → ℕ
left_over n w i j = if nat_lt i n then 0 else if nat_lt j n then 0 else w i j

left_over-above : (n : ℕ) (w : ℕ → ℕ → ℕ) (i j : ℕ) → i < n → left_over n w i j ≡ 0
unfolding left_over
left_over-above n w i j h = (let t : nat_lt i n ≡ true = lt-ltb i n h in rw t refl)

left_over-left : (n : ℕ) (w : ℕ → ℕ → ℕ) (i j : ℕ) → j < n → left_over n w i j ≡ 0
unfolding left_over
left_over-left n w i j h = (let t : nat_lt j n ≡ true = lt-ltb j n h in elim (cases_lt i n) [
  | inl above ↦ (let u : nat_lt i n ≡ true = lt-ltb i n above in rw u refl)
  | inr under ↦ (let u : nat_lt i n ≡ false = le-ltb i n under in rw (u, t) refl)
])

left_over-in : (n : ℕ) (w : ℕ → ℕ → ℕ) (i j : ℕ) → n ≤ i → n ≤ j → left_over n w i j ≡ w i j
unfolding left_over
left_over-in n w i j hi hj = (let t : nat_lt i n ≡ false = le-ltb i n hi in let u : nat_lt j n ≡ false = le-ltb j n hj in rw (t, u) refl)

-- word i, j of the product of the first n columns of the lower factor with the first n rows of the upper one
abbrev pub product_of_factors : ℕ → (ℕ → ℕ → ℕ) → ℕ → ℕ → ℕ
product_of_factors n f i j = sum_to n (λ k. triangle_word true true f i k * triangle_word false false f k j)

-- after n columns the factors so far, and what is still to be eliminated, are the matrix with its rows exchanged
pub record AreFactors (p n : ℕ) (a : ℕ → ℕ → ℕ) (s : Eliminated) : Type 0 where
  pub at : (i j : ℕ) → (product_of_factors n s.words i j + left_over n s.words i j) % p ≡ a (came_from s.pivots 0 n i) j

swapped-equal : (j r i k : ℕ) → k < j → j ≤ r → (i == k) ≡ (swapped j r i == k)
swapped-equal j r i k h1 h2 = grind (arith, nat_tests)

-- the rows down to that of the step have their rows exchanged, in all columns
row_kept : (p m n : ℕ) (s t : Eliminated) → IsStep p m n s t → IsColumn p n s t → (i j : ℕ) → i ≤ n → t.words i j ≡ s.words (swapped n (pivot_row t.pivots n) i) j
unfolding lose
row_kept p m n s t st col i j h =
    elim (cases_lt j n) [
      | inl left ↦ st.left i j left
      | inr from ↦
          (elim (cases_lt n j) [
            | inl right ↦ st.right i j right ∙ (let u : nat_lt n i ≡ false = le-ltb n i h in rw u refl)
            | inr to ↦
                (let e : n ≡ j = omega arith in
                ap (t.words i) (sym e) ∙ col.above i h ∙ ap (s.words (swapped n (pivot_row t.pivots n) i)) e)
          ])
    ]

lower_kept : (p m n : ℕ) (s t : Eliminated) → IsStep p m n s t → (i k : ℕ) → k < n → triangle_word true true t.words i k ≡ triangle_word true true s.words (swapped n (pivot_row t.pivots n) i) k
unfolding triangle_word
lower_kept p m n s t st i k h =
    let r = pivot_row t.pivots n in
    let f = swapped n r i in
    let from : n ≤ r = st.pivot_from in
    ap (λ x. if i == k then 1 else if nat_lt k i then x else 0) (st.left i k h)
    ∙ ap (λ b. if b then 1 else if nat_lt k i then s.words f k else 0) (swapped-equal n r i k h from)
    ∙ ap (λ b. if f == k then 1 else if b then s.words f k else 0) (swapped-test n r i k h from)

upper_kept : (p m n : ℕ) (s t : Eliminated) → IsStep p m n s t → IsColumn p n s t → (k j : ℕ) → k < n → triangle_word false false t.words k j ≡ triangle_word false false s.words k j
unfolding triangle_word
upper_kept p m n s t st col k j h =
    let r = pivot_row t.pivots n in
    let same : (j : ℕ) → t.words k j ≡ s.words k j = λ j. row_kept p m n s t st col k j (omega arith) ∙ ap (λ i. s.words i j) (swapped-below n r k h st.pivot_from) in
    ap (λ x. if k == j then x else if nat_lt k j then x else 0) (same j)

-- row n of the upper factor is the row that is exchanged there, as far as it is still to be eliminated
upper_row : (p m n : ℕ) (s t : Eliminated) → IsStep p m n s t → IsColumn p n s t → (j : ℕ) → triangle_word false false t.words n j ≡ left_over n s.words (swapped n (pivot_row t.pivots n) n) j
upper_row p m n s t st col j =
    let r = pivot_row t.pivots n in
    let from : n ≤ swapped n r n = swapped-from n r n (omega arith) st.pivot_from in
    elim (cases_lt j n) [
      | inl left ↦ triangle-left false t.words n j left ∙ sym (left_over-left n s.words (swapped n r n) j left)
      | inr right ↦
          (elim (cases_lt n j) [
            | inl over ↦ triangle-over false t.words n j over
            | inr here ↦ (let e : n ≡ j = omega arith in ap (triangle_word false false t.words n) (sym e) ∙ triangle-diagonal false false t.words n ∙ ap (t.words n) e)
          ])
          ∙ row_kept p m n s t st col n j (omega arith) ∙ sym (left_over-in n s.words (swapped n r n) j from right)
    ]

-- the product of the new column and row, and what is still to be eliminated, are what was to be eliminated before
step_rest : (p m n : ℕ) (s t : Eliminated) → 0 < p → IsStep p m n s t → IsColumn p n s t → (i j : ℕ) → (triangle_word true true t.words i n * triangle_word false false t.words n j + left_over (suc n) t.words i j) % p ≡ left_over n s.words (swapped n (pivot_row t.pivots n) i) j % p
unfolding lose
step_rest p m n s t pos_p st col i j =
    let r = pivot_row t.pivots n in
    let f : ℕ → ℕ = swapped n r in
    let from : n ≤ r = st.pivot_from in
    let u = triangle_word false false t.words n j in
    let row : u ≡ left_over n s.words (f n) j = upper_row p m n s t st col j in
    elim (cases_lt i n) [
      | inl above ↦
          ap (λ x. (x * u + left_over (suc n) t.words i j) % p) (triangle-right true t.words i n above)
          ∙ ap (λ x. (0 * u + x) % p) (left_over-above (suc n) t.words i j (omega arith))
          ∙ ap (λ x. x % p) ((let e : 0 * u + 0 ≡ 0 = omega arith in e) ∙ sym (left_over-above n s.words i j above) ∙ ap (λ q. left_over n s.words q j) (sym (swapped-below n r i above from)))
      | inr below ↦
          (elim (cases_lt n i) [
            | inr to ↦
                (let e : n ≡ i = omega arith in
                let at_n : (triangle_word true true t.words n n * u + left_over (suc n) t.words n j) % p ≡ left_over n s.words (f n) j % p =
                ap (λ x. (x * u + left_over (suc n) t.words n j) % p) (triangle-diagonal true true t.words n)
                ∙ ap (λ x. (1 * u + x) % p) (left_over-above (suc n) t.words n j (omega arith))
                ∙ ap (λ x. x % p) ((let z : 1 * u + 0 ≡ u = omega arith in z) ∙ row) in
                ap (λ q. (triangle_word true true t.words q n * u + left_over (suc n) t.words q j) % p) (sym e) ∙ at_n ∙ ap (λ q. left_over n s.words (f q) j % p) e)
            | inl under ↦
                (let far : n ≤ f i = swapped-from n r i below from in
                let l = t.words i n in
                ap (λ x. (x * u + left_over (suc n) t.words i j) % p) (triangle-under true t.words i n under)
                ∙ elim (cases_lt j n) [
                  | inl left ↦
                      ap (λ x. (l * x + left_over (suc n) t.words i j) % p) (triangle-left false t.words n j left)
                      ∙ ap (λ x. (l * 0 + x) % p) (left_over-left (suc n) t.words i j (omega arith))
                      ∙ ap (λ x. x % p) ((let z : l * 0 + 0 ≡ 0 = omega arith in z) ∙ sym (left_over-left n s.words (f i) j left))
                  | inr right ↦
                      (elim (cases_lt n j) [
                        | inr here ↦
                            (let e : n ≡ j = omega arith in
                            let at_n : (l * triangle_word false false t.words n n + left_over (suc n) t.words i n) % p ≡ left_over n s.words (f i) n % p =
                            ap (λ x. (l * x + left_over (suc n) t.words i n) % p) (triangle-diagonal false false t.words n)
                            ∙ ap (λ x. (l * t.words n n + x) % p) (left_over-left (suc n) t.words i n (omega arith))
                            ∙ ap (λ x. x % p) (let z : l * t.words n n + 0 ≡ l * t.words n n = omega arith in z)
                            ∙ col.under i under
                            ∙ sym (mod-eq_of_lt (let h : s.words (f i) n < p = subst_below p (t.words i n * t.words n n) (s.words (f i) n) pos_p (col.under i under) in h))
                            ∙ ap (λ x. x % p) (sym (left_over-in n s.words (f i) n far (omega arith))) in
                            ap (λ q. (l * triangle_word false false t.words n q + left_over (suc n) t.words i q) % p) (sym e) ∙ at_n ∙ ap (λ q. left_over n s.words (f i) q % p) e)
                        | inl after ↦
                            (let y = s.words (f n) j in
                            let x = s.words (f i) j in
                            let v : nat_lt n i ≡ true = lt-ltb n i under in
                            let lost : t.words i j ≡ (x + (p - 1) * (l * y)) % p = st.right i j after ∙ (rw v refl) in
                            ap (λ z. (l * z + left_over (suc n) t.words i j) % p) (row ∙ left_over-in n s.words (f n) j (swapped-from n r n (omega arith) from) right)
                            ∙ ap (λ z. (l * y + z) % p) (left_over-in (suc n) t.words i j (omega arith) (omega arith) ∙ lost)
                            ∙ came_back p x (l * y) pos_p
                            ∙ ap (λ z. z % p) (sym (left_over-in n s.words (f i) j far right)))
                      ])
                ])
          ])
    ]
  where
    subst_below : (p x y : ℕ) → 0 < p → x % p ≡ y → y < p
    subst_below p x y pos_p e = rw (← e) (mod-lt x pos_p)

    came_back : (p x z : ℕ) → 0 < p → (z + (x + (p - 1) * z) % p) % p ≡ x % p
    came_back p x z pos_p =
        same_sum p z z ((x + (p - 1) * z) % p) (x + (p - 1) * z) refl (mod_again p (x + (p - 1) * z))
        ∙ (let one : (p - 1) + 1 ≡ p = omega arith in
        let pz : ((p - 1) + 1) * z ≡ p * z = ap (λ n. n * z) one in
        same_mod p (z + (x + (p - 1) * z)) x 0 z (omega arith))
      where
        mod_again : (p x : ℕ) → x % p % p ≡ x % p
        mod_again p x = mod-mod x p

came_from-one_more : (v w : List ℕ) (n i : ℕ) → ((k : ℕ) → k < n → pivot_row w k ≡ pivot_row v k) → came_from w 0 (suc n) i ≡ came_from v 0 n (swapped n (pivot_row w n) i)
unfolding came_from
came_from-one_more v w n i same =
    (let e : 0 + n ≡ n = omega arith in
    rw e (came_from-same w v 0 n (swapped n (pivot_row w n) i) (λ k _ h. same k (omega arith))))

factors-step : (p m n : ℕ) (a : ℕ → ℕ → ℕ) (s t : Eliminated) → 0 < p → AreFactors p n a s → IsStep p m n s t → IsColumn p n s t → AreFactors p (suc n) a t
factors-step p m n a s t pos_p before st col =
    record {
      at = λ i j.
          (let r = pivot_row t.pivots n in
          let f : ℕ → ℕ = swapped n r in
          let g : ℕ → ℕ = λ k. triangle_word true true t.words i k * triangle_word false false t.words k j in
          let old : ℕ → ℕ = λ k. triangle_word true true s.words (f i) k * triangle_word false false s.words k j in
          let rest = left_over (suc n) t.words i j in
          let same : sum_to n g ≡ sum_to n old =
          sum_to-same n g old (λ k hk. ap (λ x. x * triangle_word false false t.words k j) (lower_kept p m n s t st i k hk) ∙ ap (λ x. triangle_word true true s.words (f i) k * x) (upper_kept p m n s t st col k j hk)) in
          ap (λ x. (x + rest) % p) (sum_to-suc n g)
          ∙ ap (λ x. x % p) (let e : sum_to n g + g n + rest ≡ sum_to n g + (g n + rest) = omega arith in e)
          ∙ same_sum p (sum_to n g) (sum_to n old) (g n + rest) (left_over n s.words (f i) j) (ap (λ x. x % p) same) (step_rest p m n s t pos_p st col i j)
          ∙ before.at (f i) j
          ∙ ap (λ q. a q j) (sym (came_from-one_more s.pivots t.pivots n i st.earlier)));
    }

-- nothing was done: all is still to be eliminated
factors-none : (p m : ℕ) (a : ℕ → ℕ → ℕ) → IsReady p m 0 (untouched a) → AreFactors p 0 a (untouched a)
unfolding came_from
factors-none p m a ready =
    record {
      at = λ i j.
          ap (λ x. (x + left_over 0 a i j) % p) (sum_to-none (λ k. triangle_word true true a i k * triangle_word false false a k j))
          ∙ ap (λ x. (0 + x) % p) (left_over-in 0 a i j (omega arith) (omega arith))
          ∙ ap (λ x. x % p) (let e : 0 + a i j ≡ a i j = omega arith in e) ∙ mod-eq_of_lt (ready.below i j);
    }

pub factors-columns : (p : ℕ) (inverse : ℕ → ℕ) (m n : ℕ) (a : ℕ → ℕ → ℕ) → Inverts p inverse → n ≤ m → IsReady p m 0 (untouched a) → AreFactors p n a (eliminate_columns p inverse m 0 n (untouched a))
unfolding eliminate_columns
factors-columns p inverse m zero a inverts h ready = factors-none p m a ready
factors-columns p inverse m (suc n) a inverts h ready =
    let e : 0 + n ≡ n = omega arith in
    let s = eliminate_columns p inverse m 0 n (untouched a) in
    let t = eliminate_columns p inverse m 0 (suc n) (untouched a) in
    let pos_p : 0 < p = omega (arith, ready.below 0 0) in
    let st : IsStep p m n s t = subst (λ q. IsStep p m q s t) e (step-at p inverse m 0 n (untouched a) (omega arith) ready) in
    let col : IsColumn p n s t = subst (λ q. IsColumn p q s t) e (column-at p inverse m 0 n (untouched a) inverts (omega arith) ready) in
    factors-step p m n a s t pos_p (factors-columns p inverse m n a inverts (omega arith) ready) st col

-- all columns of a matrix: nothing is left
pub factors-multiply : (p : ℕ) (inverse : ℕ → ℕ) (m n : ℕ) (a : ℕ → ℕ → ℕ) (i j : ℕ) → Inverts p inverse → IsReady p m 0 (untouched a) → j < n → product_of_factors (min m n) (elimination p inverse m n a).words i j % p ≡ exchanged (elimination p inverse m n a).pivots 0 (min m n) (λ r. a r j) i
unfolding elimination
factors-multiply p inverse m n a i j inverts ready h =
    let c = min m n in
    let s = eliminate_columns p inverse m 0 c (untouched a) in
    let fs : AreFactors p c a s = factors-columns p inverse m c a inverts (omega arith) ready in
    let at : 0 + c ≡ c = omega arith in
    let after : IsReady p m c s = subst (λ q. IsReady p m q s) at (ready-columns p inverse m 0 c (untouched a) (omega arith) ready) in
    let none : left_over c s.words i j ≡ 0 =
    elim (cases_lt j c) [
      | inl left ↦ left_over-left c s.words i j left
      | inr right ↦
          (elim (cases_lt i c) [
            | inl above ↦ left_over-above c s.words i j above
            | inr under ↦ left_over-in c s.words i j under right ∙ after.past i j (omega arith)
          ])
    ] in
    ap (λ x. x % p) ((let z : product_of_factors c s.words i j ≡ product_of_factors c s.words i j + 0 = omega arith in z) ∙ ap (λ x. product_of_factors c s.words i j + x) (sym none))
    ∙ fs.at i j
