use Rattle.std.proofs.Common.{◌≡◌, ◌≢◌, ℕ, zero, suc, ◌+◌, ◌-◌, ◌*◌, ◌%◌, ◌<◌, ◌≤◌, ◌==◌, Bool, true, false, if◌then◌else◌, nat_lt, List, [], ◌∷◌, ◌++◌, length, get_or, Option, Some, None, refl, sym, ◌∙◌, ap, arith, inl, inr, subst, eq-eqb, length-append}
use Rattle.std.proofs.Math.Path.{fun_ext}
use Rattle.std.proofs.Math.Nat.{mod-lt, mod-eq_of_lt}
use Rattle.std.proofs.lemmas.List.{get_or_append_left, get_or-append_right}
use Rattle.std.proofs.lemmas.Bool.{cases_eq, cases_lt, ne_eqb, lt-ltb, le-ltb}
use Rattle.std.proofs.lemmas.Bool.Decides.{nat_tests}
use Rattle.local_blas.specs.Kernels.{swapped}
use Rattle.serial_model.specs.Elimination.{pivot_from, exchange, divide, subtract, Eliminated, with_pivot, eliminate_column, pivot_row}
use Rattle.elimination.specs.Panels.{IsReady, AgreesOn}
use Rattle.elimination.proofs.Exchanges.{swapped-same, swapped-past, lose}

-- what is known of the pivot that was found from row i on, before row m
unfoldable pub IsPivot : (ℕ → ℕ) → ℕ → ℕ → Option ℕ → Type 0
IsPivot c i m None = (k : ℕ) → i ≤ k → k < m → c k ≡ 0
IsPivot c i m (Some r) = (i ≤ r) × (r < m) × (c r ≢ 0) × ((k : ℕ) → i ≤ k → k < r → c k ≡ 0)

with_zero_before : (c : ℕ → ℕ) (i m : ℕ) (o : Option ℕ) → c i ≡ 0 → i < m → IsPivot c (i + 1) m o → IsPivot c i m o
unfolding IsPivot
with_zero_before c i m None z h rest = λ k h1 h2. elim (cases_eq k i) [ inl here ↦ ap c here ∙ z | inr other ↦ rest k (omega arith) h2 ]
with_zero_before c i m (Some r) z h rest =
    (omega arith, rest.1, rest.2, λ k h1 h2. elim (cases_eq k i) [ inl here ↦ ap c here ∙ z | inr other ↦ rest.3 k (omega arith) h2 ])

pub pivot_from-is : (c : ℕ → ℕ) (i count m : ℕ) → i + count ≡ m → IsPivot c i m (pivot_from c i count)
unfolding pivot_from IsPivot
pivot_from-is c i zero m e = λ k h1 h2. absurd (omega arith)
pivot_from-is c i (suc count) m e =
    elim (cases_eq (c i) 0) [
      | inl z ↦ (let t : (c i == 0) ≡ true = eq-eqb (c i) 0 z in rw t (with_zero_before c i m (pivot_from c (i + 1) count) z (omega arith) (pivot_from-is c (i + 1) count m (omega arith))))
      | inr other ↦ (let t : (c i == 0) ≡ false = ne_eqb (c i) 0 other in rw t ((omega arith, omega arith, other, λ k h1 h2. absurd (omega arith))))
    ]

-- how column j acts, by the columns
pub record IsStep (p m j : ℕ) (s t : Eliminated) : Type 0 where
  pub pivot_from : j ≤ pivot_row t.pivots j
  pub pivot_below : pivot_row t.pivots j < m
  pub earlier : (k : ℕ) → k < j → pivot_row t.pivots k ≡ pivot_row s.pivots k
  pub left : (i k : ℕ) → k < j → t.words i k ≡ s.words (swapped j (pivot_row t.pivots j) i) k
  pub right : (i k : ℕ) → j < k → t.words i k ≡ lose p (λ i. t.words i j) j (λ i. s.words (swapped j (pivot_row t.pivots j) i) k) i

pivot_row-last : (v : List ℕ) (j r : ℕ) → length v ≡ j → pivot_row (v ++ ((r + 1) ∷ [])) j ≡ r
unfolding pivot_row
pivot_row-last v j r e =
    ap (λ n. n - 1) (get_or-append_right v ((r + 1) ∷ []) j j 0 e (omega arith) ∙ ap (λ n. get_or ((r + 1) ∷ []) n 0) (let z : j - j ≡ 0 = omega arith in z)) ∙ (let z : r + 1 - 1 ≡ r = omega arith in z)

pivot_row-earlier : (v w : List ℕ) (k : ℕ) → k < length v → pivot_row (v ++ w) k ≡ pivot_row v k
unfolding pivot_row
pivot_row-earlier v w k h = ap (λ n. n - 1) (get_or_append_left v w 0 k h)

-- a column that loses nothing
lose-nothing : (p : ℕ) (l : ℕ → ℕ) (j : ℕ) (y : ℕ → ℕ) (i : ℕ) → (j < i → l i ≡ 0) → y i < p → lose p l j y i ≡ y i
unfolding lose
lose-nothing p l j y i none below =
    elim (cases_lt j i) [
      | inl under ↦
          (let t : nat_lt j i ≡ true = lt-ltb j i under in
          rw t (ap (λ n. (y i + (p - 1) * (n * y j)) % p) (none under) ∙ ap (λ n. n % p) (let e : y i + (p - 1) * (0 * y j) ≡ y i = omega arith in e) ∙ mod-eq_of_lt below))
      | inr above ↦ (let t : nat_lt j i ≡ false = le-ltb j i above in rw t refl)
    ]

without_pivot : (p : ℕ) (inverse : ℕ → ℕ) (m j : ℕ) (s : Eliminated) → j < m → IsReady p m j s → IsPivot (λ i. s.words i j) j m None → IsStep p m j s (with_pivot p inverse j s None)
unfolding with_pivot IsPivot
without_pivot p inverse m j s h ready none =
    let is : pivot_row (s.pivots ++ ((j + 1) ∷ [])) j ≡ j = pivot_row-last s.pivots j j ready.count in
    let stays : (i k : ℕ) → s.words i k ≡ s.words (swapped j (pivot_row (s.pivots ++ ((j + 1) ∷ [])) j) i) k =
    λ i k. ap (λ n. s.words n k) (sym (ap (λ r. swapped j r i) is ∙ swapped-same j i)) in
    let zeros : (i : ℕ) → j < i → s.words i j ≡ 0 =
    λ i hi. elim (cases_lt i m) [ inl inside ↦ none i (omega arith) inside | inr past ↦ ready.past i j past ] in
    record {
      pivot_from = rw is (omega arith);
      pivot_below = rw is h;
      earlier = λ k hk. pivot_row-earlier s.pivots ((j + 1) ∷ []) k (omega (arith, ready.count));
      left = λ i k _. stays i k;
      right = λ i k _. stays i k ∙ sym (lose-nothing p (λ i. s.words i j) j (λ i. s.words (swapped j (pivot_row (s.pivots ++ ((j + 1) ∷ [])) j) i) k) i (zeros i) (ready.below _ k));
    }

left_at : (p : ℕ) (inverse : ℕ → ℕ) (j : ℕ) (a : ℕ → ℕ → ℕ) (i k : ℕ) → k < j → subtract p j (divide p inverse j a) i k ≡ a i k
unfolding subtract divide
left_at p inverse j a i k h = grind (arith, nat_tests)

right_at : (p : ℕ) (inverse : ℕ → ℕ) (j : ℕ) (a : ℕ → ℕ → ℕ) (i k : ℕ) → j < k → subtract p j (divide p inverse j a) i k ≡ lose p (λ i. subtract p j (divide p inverse j a) i j) j (λ i. a i k) i
unfolding subtract divide lose
right_at p inverse j a i k h =
    let t1 : nat_lt j k ≡ true = lt-ltb j k h in
    let t2 : (k == j) ≡ false = ne_eqb k j (omega arith) in
    let t3 : nat_lt j j ≡ false = le-ltb j j (omega arith) in
    let t4 : (j == j) ≡ true = eq-eqb j j refl in
    simp (t1, t2, t3, t4)

with_row : (p : ℕ) (inverse : ℕ → ℕ) (m j r : ℕ) (s : Eliminated) → j < m → IsReady p m j s → j ≤ r → r < m → IsStep p m j s (with_pivot p inverse j s (Some r))
unfolding with_pivot
with_row p inverse m j r s h ready h1 h2 =
    let is : r ≡ pivot_row (s.pivots ++ ((r + 1) ∷ [])) j = sym (pivot_row-last s.pivots j r ready.count) in
    record {
      pivot_from = subst (λ n. j ≤ n) is h1;
      pivot_below = subst (λ n. n < m) is h2;
      earlier = λ k hk. pivot_row-earlier s.pivots ((r + 1) ∷ []) k (omega (arith, ready.count));
      left = λ i k hk. left_at p inverse j (exchange j r s.words) i k hk ∙ ap (λ n. s.words (swapped j n i) k) is;
      right = λ i k hk. right_at p inverse j (exchange j r s.words) i k hk
          ∙ ap (λ n. lose p (λ i. subtract p j (divide p inverse j (exchange j r s.words)) i j) j (λ i. s.words (swapped j n i) k) i) is;
    }

pub step-of : (p : ℕ) (inverse : ℕ → ℕ) (m j : ℕ) (s : Eliminated) → j < m → IsReady p m j s → IsStep p m j s (eliminate_column p inverse m j s)
unfolding eliminate_column IsPivot
step-of p inverse m j s h ready = by_pivot (pivot_from (λ i. s.words i j) j (m - j)) (pivot_from-is (λ i. s.words i j) j (m - j) m (omega arith))
  where
    by_pivot : (o : Option ℕ) → IsPivot (λ i. s.words i j) j m o → IsStep p m j s (with_pivot p inverse j s o)
    by_pivot None known = without_pivot p inverse m j s h ready known
    by_pivot (Some r) known = with_row p inverse m j r s h ready known.0 known.1

if-below : (b : Bool) (x y p : ℕ) → x < p → y < p → (if b then x else y) < p
if-below true x y p hx hy = hx
if-below false x y p hx hy = hy

if-is : (b : Bool) (x y z : ℕ) → x ≡ z → y ≡ z → (if b then x else y) ≡ z
if-is true x y z ex ey = ex
if-is false x y z ex ey = ey

subtract-below : (p j : ℕ) (a : ℕ → ℕ → ℕ) (i k : ℕ) → 0 < p → a i k < p → subtract p j a i k < p
unfolding subtract
subtract-below p j a i k pos_p h = if-below (nat_lt j k) _ _ p (if-below (nat_lt j i) _ _ p (mod-lt _ pos_p) h) h

divide-below : (p : ℕ) (inverse : ℕ → ℕ) (j : ℕ) (a : ℕ → ℕ → ℕ) (i k : ℕ) → 0 < p → a i k < p → divide p inverse j a i k < p
unfolding divide
divide-below p inverse j a i k pos_p h = if-below (k == j) _ _ p (if-below (nat_lt j i) _ _ p (mod-lt _ pos_p) h) h

subtract-zero : (p j : ℕ) (a : ℕ → ℕ → ℕ) (i k : ℕ) → 0 < p → ((k : ℕ) → a i k ≡ 0) → subtract p j a i k ≡ 0
unfolding subtract
subtract-zero p j a i k pos_p z =
    let changed : (a i k + (p - 1) * (a i j * a j k)) % p ≡ 0 =
    ap (λ n. (n + (p - 1) * (a i j * a j k)) % p) (z k) ∙ ap (λ n. (0 + (p - 1) * (n * a j k)) % p) (z j) ∙ ap (λ n. n % p) (let e : 0 + (p - 1) * (0 * a j k) ≡ 0 = omega arith in e) ∙ mod-eq_of_lt pos_p in
    if-is (nat_lt j k) _ _ 0 (if-is (nat_lt j i) _ _ 0 changed (z k)) (z k)

divide-zero : (p : ℕ) (inverse : ℕ → ℕ) (j : ℕ) (a : ℕ → ℕ → ℕ) (i k : ℕ) → 0 < p → ((k : ℕ) → a i k ≡ 0) → divide p inverse j a i k ≡ 0
unfolding divide
divide-zero p inverse j a i k pos_p z =
    let changed : (a i j * inverse (a j j)) % p ≡ 0 =
    ap (λ n. (n * inverse (a j j)) % p) (z j) ∙ ap (λ n. n % p) (let e : 0 * inverse (a j j) ≡ 0 = omega arith in e) ∙ mod-eq_of_lt pos_p in
    if-is (k == j) _ _ 0 (if-is (nat_lt j i) _ _ 0 changed (z k)) (z k)

length-more : (v : List ℕ) (x j : ℕ) → length v ≡ j → length (v ++ (x ∷ [])) ≡ j + 1
length-more v x j e = length-append v (x ∷ []) ∙ ap (λ n. n + 1) e

pub ready-step : (p : ℕ) (inverse : ℕ → ℕ) (m j : ℕ) (s : Eliminated) → j < m → IsReady p m j s → IsReady p m (j + 1) (eliminate_column p inverse m j s)
unfolding eliminate_column with_pivot IsPivot
ready-step p inverse m j s h ready = by_pivot (pivot_from (λ i. s.words i j) j (m - j)) (pivot_from-is (λ i. s.words i j) j (m - j) m (omega arith))
  where
    by_pivot : (o : Option ℕ) → IsPivot (λ i. s.words i j) j m o → IsReady p m (j + 1) (with_pivot p inverse j s o)
    by_pivot None known = record { below = ready.below; past = ready.past; count = length-more s.pivots (j + 1) j ready.count }
    by_pivot (Some r) known =
        let pos_p : 0 < p = omega (arith, ready.below 0 0) in
        record {
          below = λ i k. subtract-below p j (divide p inverse j (exchange j r s.words)) i k pos_p (divide-below p inverse j (exchange j r s.words) i k pos_p (ready.below (swapped j r i) k));
          past = λ i k hi. subtract-zero p j (divide p inverse j (exchange j r s.words)) i k pos_p
              (λ k. divide-zero p inverse j (exchange j r s.words) i k pos_p (λ k. ap (λ n. s.words n k) (swapped-past j r i m hi h known.1) ∙ ready.past i k hi));
          count = length-more s.pivots (r + 1) j ready.count;
        }

same_divided : (p : ℕ) (inverse : ℕ → ℕ) (j : ℕ) (a b : ℕ → ℕ → ℕ) (i k : ℕ) → a i k ≡ b i k → a i j ≡ b i j → a j j ≡ b j j → divide p inverse j a i k ≡ divide p inverse j b i k
unfolding divide
same_divided p inverse j a b i k e1 e2 e3 =
    ap (λ n. if k == j then (if nat_lt j i then (a i j * inverse (a j j)) % p else n) else n) e1
    ∙ ap (λ n. if k == j then (if nat_lt j i then (n * inverse (a j j)) % p else b i k) else b i k) e2
    ∙ ap (λ n. if k == j then (if nat_lt j i then (b i j * inverse n) % p else b i k) else b i k) e3

same_subtracted : (p j : ℕ) (a b : ℕ → ℕ → ℕ) (i k : ℕ) → a i k ≡ b i k → a i j ≡ b i j → a j k ≡ b j k → subtract p j a i k ≡ subtract p j b i k
unfolding subtract
same_subtracted p j a b i k e1 e2 e3 =
    ap (λ n. if nat_lt j k then (if nat_lt j i then (n + (p - 1) * (a i j * a j k)) % p else n) else n) e1
    ∙ ap (λ n. if nat_lt j k then (if nat_lt j i then (b i k + (p - 1) * (n * a j k)) % p else b i k) else b i k) e2
    ∙ ap (λ n. if nat_lt j k then (if nat_lt j i then (b i k + (p - 1) * (b i j * n)) % p else b i k) else b i k) e3

same_word : (p : ℕ) (inverse : ℕ → ℕ) (j : ℕ) (a b : ℕ → ℕ → ℕ) (i k : ℕ) → a i k ≡ b i k → a i j ≡ b i j → a j j ≡ b j j → a j k ≡ b j k → subtract p j (divide p inverse j a) i k ≡ subtract p j (divide p inverse j b) i k
same_word p inverse j a b i k e1 e2 e3 e4 =
    same_subtracted p j (divide p inverse j a) (divide p inverse j b) i k (same_divided p inverse j a b i k e1 e2 e3) (same_divided p inverse j a b i j e2 e2 e3) (same_divided p inverse j a b j k e4 e3 e3)

with_pivot-agrees : (p : ℕ) (inverse : ℕ → ℕ) (lo hi j : ℕ) (s t : Eliminated) (o : Option ℕ) → lo ≤ j → j < hi → AgreesOn lo hi s t → AgreesOn lo hi (with_pivot p inverse j s o) (with_pivot p inverse j t o)
unfolding with_pivot
with_pivot-agrees p inverse lo hi j s t None h1 h2 agree =
    record {
      words = agree.words;
      pivots = ap (λ v. v ++ ((j + 1) ∷ [])) agree.pivots;
    }
with_pivot-agrees p inverse lo hi j s t (Some r) h1 h2 agree =
    record {
      words = λ i k h3 h4. same_word p inverse j (exchange j r s.words) (exchange j r t.words) i k (agree.words (swapped j r i) k h3 h4) (agree.words (swapped j r i) j h1 h2) (agree.words (swapped j r j) j h1 h2) (agree.words (swapped j r j) k h3 h4);
      pivots = ap (λ v. v ++ ((r + 1) ∷ [])) agree.pivots;
    }

pub step-agrees : (p : ℕ) (inverse : ℕ → ℕ) (m lo hi j : ℕ) (s t : Eliminated) → lo ≤ j → j < hi → AgreesOn lo hi s t → AgreesOn lo hi (eliminate_column p inverse m j s) (eliminate_column p inverse m j t)
unfolding eliminate_column
step-agrees p inverse m lo hi j s t h1 h2 agree =
    subst (λ c. AgreesOn lo hi (with_pivot p inverse j s (pivot_from (λ i. s.words i j) j (m - j))) (with_pivot p inverse j t (pivot_from c j (m - j))))
    (fun_ext (λ i. agree.words i j h1 h2)) (with_pivot-agrees p inverse lo hi j s t (pivot_from (λ i. s.words i j) j (m - j)) h1 h2 agree)

with_pivot-info : (p : ℕ) (inverse : ℕ → ℕ) (j : ℕ) (s t : Eliminated) (o : Option ℕ) → s.info ≡ t.info → (with_pivot p inverse j s o).info ≡ (with_pivot p inverse j t o).info
unfolding with_pivot
with_pivot-info p inverse j s t None e = ap (λ n. if n == 0 then j + 1 else n) e
with_pivot-info p inverse j s t (Some r) e = e

pub step-info : (p : ℕ) (inverse : ℕ → ℕ) (m lo hi j : ℕ) (s t : Eliminated) → lo ≤ j → j < hi → AgreesOn lo hi s t → s.info ≡ t.info → (eliminate_column p inverse m j s).info ≡ (eliminate_column p inverse m j t).info
unfolding eliminate_column
step-info p inverse m lo hi j s t h1 h2 agree e =
    with_pivot-info p inverse j s t (pivot_from (λ i. s.words i j) j (m - j)) e
    ∙ ap (λ c. (with_pivot p inverse j t (pivot_from c j (m - j))).info) (fun_ext (λ i. agree.words i j h1 h2))
