-- The law of the coefficients for all symbols, from what they add up to at each column.
use Rattle.std.specs.List.{AllByRecursion}
use Rattle.std.proofs.Common.{◌≡◌, ◌≢◌, ℕ, zero, suc, ◌+◌, ◌-◌, ◌*◌, ◌/◌, ◌%◌, ◌<◌, ◌≤◌, Bool, true, false, not, cond, eqb, List, [], ◌∷◌, ◌++◌, length, get_or, map, All, count_by, refl, sym, ◌∙◌, ap, ⊎_elim, arith}
use Rattle.std.proofs.lemmas.Bool.{ne_eqb, eq-eqb}
use Rattle.std.proofs.lemmas.Bool.Decides.{eqb_tells}
use Rattle.std.proofs.Math.Nat.{mod-eq_of_lt, mod-lt, zero-mod, mod-add-div'}
use Rattle.std.proofs.lemmas.List.Elements.{All-cons, All-nil}
use Rattle.std.proofs.lemmas.List.Sums.{sum_by-cons}
use Rattle.cauchy_code.specs.Cauchy.{dot, weighted_sum, AreCode, ZeroOutside}
use Rattle.cauchy_code.specs.Solving.{column_sum, lost_but, data_coefs}
use Rattle.field_core.proofs.Modular.{same_mod, same_sum, same_product}

-- code coefficients times the code symbols of the data symbols from column col on, the first code column being c
abbrev pub pairing : (ℕ → ℕ) → ℕ → ℕ → List ℕ → ℕ → List ℕ → ℕ
pairing inverse q c [] col ds = 0
pairing inverse q c (k ∷ ks) col ds = k * weighted_sum inverse q c col ds + pairing inverse q (c + 1) ks col ds

pub pairing-nil : (inverse : ℕ → ℕ) (q c : ℕ) (ks : List ℕ) (col : ℕ) → pairing inverse q c ks col [] ≡ 0
pairing-nil inverse q c [] col = refl
pairing-nil inverse q c (k ∷ ks) col = omega (arith, pairing-nil inverse q (c + 1) ks col)

-- one data symbol more: it takes what the coefficients add up to at its column, x being the place of code column c
pub pairing-cons : (inverse : ℕ → ℕ) (q c x : ℕ) (ks : List ℕ) (col d : ℕ) (ds : List ℕ) → x ≡ q + c → pairing inverse q c ks col (d ∷ ds) ≡ d * column_sum inverse x ks col + pairing inverse q c ks (col + 1) ds
pairing-cons inverse q c x [] col d ds e = omega arith
pairing-cons inverse q c x (k ∷ ks) col d ds e = omega (arith, ap (λ n. k * d * inverse (n - col)) e, pairing-cons inverse q (c + 1) (x + 1) ks col d ds (omega arith))

pub dot-append : (ks ls ds cs : List ℕ) → length ks ≡ length ds → dot (ks ++ ls) (ds ++ cs) ≡ dot ks ds + dot ls cs
dot-append [] ls [] cs e = omega arith
dot-append [] ls (d ∷ ds) cs e = absurd (omega arith)
dot-append (k ∷ ks) ls [] cs e = absurd (omega arith)
dot-append (k ∷ ks) ls (d ∷ ds) cs e = omega (arith, dot-append ks ls ds cs (omega arith))

-- the code coefficients times code symbols
pub dot-code : (p : ℕ) (inverse : ℕ → ℕ) (q c : ℕ) (ks ds cs : List ℕ) → length ks ≡ length cs → AreCode p inverse q c ds cs → dot ks cs % p ≡ pairing inverse q c ks 0 ds % p
dot-code p inverse q c [] ds cs e h = refl
dot-code p inverse q c (k ∷ ks) ds [] e h = absurd (omega arith)
dot-code p inverse q c (k ∷ ks) ds (s ∷ ss) e h = same_sum p _ _ _ _ (same_product p k k s _ refl h.0) (dot-code p inverse q (c + 1) ks ds ss (omega arith) h.1)

-- what the coefficients add up to at each column from col on: 1 at one and 0 at the others
abbrev pub Column : ℕ → (ℕ → ℕ) → ℕ → List ℕ → ℕ → ℕ → List ℕ → Type 0
Column p inverse x code which col [] = Unit {0}
Column p inverse x code which col (k ∷ ks) = ((k + column_sum inverse x code col) % p ≡ cond (eqb col which) 1 0 % p) × Column p inverse x code which (col + 1) ks

-- the symbol of one column
abbrev pub picked : ℕ → ℕ → List ℕ → ℕ
picked which col [] = 0
picked which col (d ∷ ds) = cond (eqb col which) 1 0 * d + picked which (col + 1) ds

-- the data coefficients times the data symbols, and the code coefficients times their code symbols
pub column_law : (p : ℕ) (inverse : ℕ → ℕ) (q : ℕ) (code : List ℕ) (which col : ℕ) (ks ds : List ℕ) → length ks ≡ length ds → Column p inverse q code which col ks → (dot ks ds + pairing inverse q 0 code col ds) % p ≡ picked which col ds % p
column_law p inverse q code which col [] [] e h = ap (λ n. n % p) (omega (arith, pairing-nil inverse q 0 code col))
column_law p inverse q code which col [] (d ∷ ds) e h = absurd (omega arith)
column_law p inverse q code which col (k ∷ ks) [] e h = absurd (omega arith)
column_law p inverse q code which col (k ∷ ks) (d ∷ ds) e h =
    ap (λ n. n % p) (omega (arith, pairing-cons inverse q 0 q code col d ds (omega arith)))
    ∙ same_sum p ((k + column_sum inverse q code col) * d) (cond (eqb col which) 1 0 * d) (dot ks ds + pairing inverse q 0 code (col + 1) ds) (picked which (col + 1) ds)
    (same_product p _ _ d d h.0 refl) (column_law p inverse q code which (col + 1) ks ds (omega arith) h.1)

pub picked-past : (which col : ℕ) (ds : List ℕ) → which < col → picked which col ds ≡ 0
picked-past which col [] h = refl
picked-past which col (d ∷ ds) h =
    let e : eqb col which ≡ false = ne_eqb col which (λ q. omega arith) in
    rw e (omega (arith, picked-past which (col + 1) ds (omega arith)))

pub picked-at : (which i col : ℕ) (ds : List ℕ) → which ≡ col + i → picked which col ds ≡ get_or ds i 0
picked-at which i col [] h = refl
picked-at which zero col (d ∷ ds) h =
    let e : eqb col which ≡ true = eq-eqb col which (omega arith) in
    rw e (omega (arith, picked-past which (col + 1) ds (omega arith)))
picked-at which (suc i) col (d ∷ ds) h =
    let e : eqb col which ≡ false = ne_eqb col which (λ q. omega arith) in
    rw e (omega (arith, picked-at which i (col + 1) ds (omega arith)))

-- a live column with its coefficient
pub neg_sum : (p s : ℕ) → 0 < p → ((p - s % p) % p + s) % p ≡ 0 % p
neg_sum p s h = same_mod p ((p - s % p) % p + s) 0 ((p - s % p) / p) (1 + s / p) (omega (arith, mod-add-div' (p - s % p) p, mod-add-div' s p, mod-lt s h))

-- the column that is asked for is lost
abbrev pub IsLostAt : ℕ → ℕ → List Bool → Type 0
IsLostAt which col lost = (i : ℕ) → which ≡ col + i → i < length lost → get_or lost i false ≡ true

pub lost_later : (which col : ℕ) (b : Bool) (lost : List Bool) → IsLostAt which col (b ∷ lost) → IsLostAt which (col + 1) lost
lost_later which col b lost h i e l = h (suc i) (omega arith) (omega arith)

pub columns_of : (p : ℕ) (inverse : ℕ → ℕ) (x : ℕ) (code : List ℕ) (which col : ℕ) (lost : List Bool) → 1 < p → IsLostAt which col lost
    → column_sum inverse x code which % p ≡ 1 → AllByRecursion (λ y. column_sum inverse x code y % p ≡ 0) (lost_but which col lost)
    → Column p inverse x code which col (data_coefs p inverse x code col lost)
columns_of p inverse x code which col [] hp hl w h = tt
columns_of p inverse x code which col (true ∷ lost) hp hl w h =
    ⊎_elim
    (λ (e : (eqb col which ≡ true) × (col ≡ which)). (
      rw e.0 (ap (λ n. n % p) (omega arith) ∙ ap (λ n. column_sum inverse x code n % p) e.1 ∙ w ∙ sym (mod-eq_of_lt hp)),
      columns_of p inverse x code which (col + 1) lost hp (lost_later which col true lost hl) w (rw e.0 at h),
    ))
    (λ (e : (eqb col which ≡ false) × (col ≢ which)).
    let h' : AllByRecursion (λ y. column_sum inverse x code y % p ≡ 0) (col ∷ lost_but which (col + 1) lost) = rw e.0 at h in (
      rw e.0 (ap (λ n. n % p) (omega arith) ∙ h'.0 ∙ sym (zero-mod p)),
      columns_of p inverse x code which (col + 1) lost hp (lost_later which col true lost hl) w h'.1,
    ))
    (eqb_tells col which)
columns_of p inverse x code which col (false ∷ lost) hp hl w h =
    let e : eqb col which ≡ false = ne_eqb col which (λ q. let f : false ≡ true = hl 0 (omega arith) (omega arith) in absurd (cc)) in (
      rw e (neg_sum p (column_sum inverse x code col) (omega arith)),
      columns_of p inverse x code which (col + 1) lost hp (lost_later which col false lost hl) w h,
    )

-- the columns of a list of lost columns
pub lost_but-bounds : (which n col : ℕ) (lost : List Bool) → col + length lost ≤ n → AllByRecursion (λ y. (y < n) × (y ≢ which)) (lost_but which col lost)
lost_but-bounds which n col [] h = tt
lost_but-bounds which n col (true ∷ lost) h =
    ⊎_elim
    (λ (e : (eqb col which ≡ true) × (col ≡ which)). rw e.0 (lost_but-bounds which n (col + 1) lost (omega arith)))
    (λ (e : (eqb col which ≡ false) × (col ≢ which)). rw e.0 ((omega arith, e.1), lost_but-bounds which n (col + 1) lost (omega arith)))
    (eqb_tells col which)
lost_but-bounds which n col (false ∷ lost) h = lost_but-bounds which n (col + 1) lost (omega arith)

pub count-true : (lost : List Bool) → count_by (λ b. b) (true ∷ lost) ≡ 1 + count_by (λ b. b) lost
count-true lost = sum_by-cons (λ b. cond b 1 0) true lost

pub count-false : (lost : List Bool) → count_by (λ b. b) (false ∷ lost) ≡ count_by (λ b. b) lost
count-false lost = sum_by-cons (λ b. cond b 1 0) false lost ∙ omega arith

pub length-lost_but-past : (which col : ℕ) (lost : List Bool) → which < col → length (lost_but which col lost) ≡ count_by (λ b. b) lost
length-lost_but-past which col [] h = refl
length-lost_but-past which col (true ∷ lost) h =
    let e : eqb col which ≡ false = ne_eqb col which (λ q. omega arith) in
    rw e (omega (arith, length-lost_but-past which (col + 1) lost (omega arith), count-true lost))
length-lost_but-past which col (false ∷ lost) h = omega (arith, length-lost_but-past which (col + 1) lost (omega arith), count-false lost)

pub length-lost_but : (which i col : ℕ) (lost : List Bool) → which ≡ col + i → i < length lost → get_or lost i false ≡ true → length (lost_but which col lost) + 1 ≡ count_by (λ b. b) lost
length-lost_but which i col [] h l g = absurd (omega arith)
length-lost_but which zero col (true ∷ lost) h l g =
    let e : eqb col which ≡ true = eq-eqb col which (omega arith) in
    rw e (omega (arith, length-lost_but-past which (col + 1) lost (omega arith), count-true lost))
length-lost_but which zero col (false ∷ lost) h l g = absurd (cc)
length-lost_but which (suc i) col (true ∷ lost) h l g =
    let e : eqb col which ≡ false = ne_eqb col which (λ q. omega arith) in
    rw e (omega (arith, length-lost_but which i (col + 1) lost (omega arith) (omega arith) g, count-true lost))
length-lost_but which (suc i) col (false ∷ lost) h l g = omega (arith, length-lost_but which i (col + 1) lost (omega arith) (omega arith) g, count-false lost)

pub count-live : (lost : List Bool) → count_by not lost + count_by (λ b. b) lost ≡ length lost
count-live [] = refl
count-live (true ∷ lost) = omega (arith, count-live lost, count-true lost, sum_by-cons (λ b. cond (not b) 1 0) true lost)
count-live (false ∷ lost) = omega (arith, count-live lost, count-false lost, sum_by-cons (λ b. cond (not b) 1 0) false lost)

pub zero_outside-append : (hs gs : List Bool) (ks ls : List ℕ) → ZeroOutside hs ks → ZeroOutside gs ls → ZeroOutside (hs ++ gs) (ks ++ ls)
zero_outside-append [] gs [] ls h g = g
zero_outside-append [] gs (k ∷ ks) ls h g = absurd h
zero_outside-append (b ∷ hs) gs [] ls h g = absurd h
zero_outside-append (true ∷ hs) gs (k ∷ ks) ls h g = zero_outside-append hs gs ks ls h g
zero_outside-append (false ∷ hs) gs (k ∷ ks) ls h g = (h.0, zero_outside-append hs gs ks ls h.1 g)

pub zero_outside-data : (p : ℕ) (inverse : ℕ → ℕ) (x : ℕ) (code : List ℕ) (col : ℕ) (lost : List Bool) → ZeroOutside (map not lost) (data_coefs p inverse x code col lost)
zero_outside-data p inverse x code col [] = tt
zero_outside-data p inverse x code col (true ∷ lost) = (refl, zero_outside-data p inverse x code (col + 1) lost)
zero_outside-data p inverse x code col (false ∷ lost) = zero_outside-data p inverse x code (col + 1) lost

pub residues-data : (p : ℕ) (inverse : ℕ → ℕ) (x : ℕ) (code : List ℕ) (col : ℕ) (lost : List Bool) → 0 < p → All (λ k. k < p) (data_coefs p inverse x code col lost)
residues-data p inverse x code col [] h = All-nil (λ k. k < p)
residues-data p inverse x code col (true ∷ lost) h = All-cons (λ k. k < p) 0 _ h (residues-data p inverse x code (col + 1) lost h)
residues-data p inverse x code col (false ∷ lost) h = All-cons (λ k. k < p) _ _ (mod-lt _ h) (residues-data p inverse x code (col + 1) lost h)

pub length-data : (p : ℕ) (inverse : ℕ → ℕ) (x : ℕ) (code : List ℕ) (col : ℕ) (lost : List Bool) → length (data_coefs p inverse x code col lost) ≡ length lost
length-data p inverse x code col [] = refl
length-data p inverse x code col (true ∷ lost) = omega (arith, length-data p inverse x code (col + 1) lost)
length-data p inverse x code col (false ∷ lost) = omega (arith, length-data p inverse x code (col + 1) lost)
