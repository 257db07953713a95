-- A lost data symbol has one list of coefficients alone.
use Rattle.std.specs.List.{AllByRecursion}
use Rattle.std.proofs.Common.{◌≡◌, ℕ, zero, suc, ◌+◌, ◌*◌, ◌%◌, ◌<◌, ◌≤◌, Bool, true, false, not, List, [], ◌∷◌, ◌++◌, length, get_or, drop, take, map, count_by, replicate, refl, sym, ◌∙◌, ap, subst, arith, length-drop, length-append}
use Rattle.std.proofs.Math.Nat.{mod-eq_of_lt, add_comm}
use Rattle.std.proofs.lemmas.List.{length-take, take-append-drop, length-replicate}
use Rattle.std.proofs.lemmas.List.Elements.{All-take, All-drop, All-get_or}
use Rattle.cauchy_code.specs.Cauchy.{dot, AreCode, weighted_sum, ZeroOutside, first_live, helpers, IsDecoding}
use Rattle.cauchy_code.specs.Solving.{column_sum}
use Rattle.field_core.proofs.Modular.{same_sum}
use Rattle.cauchy_code.proofs.Law.{pairing, pairing-cons, pairing-nil, dot-append, dot-code, count-true, count-false}
use Rattle.cauchy_code.proofs.Unique.{same_cancel_add, Ascending, SameSums, length-zero_outside, length-first_live, unique}

-- n symbols, 1 at one place and 0 elsewhere
abbrev pub unit : ℕ → ℕ → List ℕ
unit zero i = []
unit (suc n) zero = 1 ∷ replicate n 0
unit (suc n) (suc i) = 0 ∷ unit n i

length-unit : (n i : ℕ) → length (unit n i) ≡ n
length-unit zero i = refl
length-unit (suc n) zero = omega (arith, length-replicate {A = ℕ} n 0)
length-unit (suc n) (suc i) = omega (arith, length-unit n i)

dot-zeros : (n : ℕ) (ks : List ℕ) → dot ks (replicate n 0) ≡ 0
dot-zeros zero [] = refl
dot-zeros zero (k ∷ ks) = refl
dot-zeros (suc n) [] = refl
dot-zeros (suc n) (k ∷ ks) = omega (arith, dot-zeros n ks)

dot-unit : (n i : ℕ) (ks : List ℕ) → i < n → dot ks (unit n i) ≡ get_or ks i 0
dot-unit zero i ks h = absurd (omega arith)
dot-unit (suc n) zero [] h = refl
dot-unit (suc n) (suc i) [] h = refl
dot-unit (suc n) zero (k ∷ ks) h = omega (arith, dot-zeros n ks)
dot-unit (suc n) (suc i) (k ∷ ks) h = omega (arith, dot-unit n i ks (omega arith))

pairing-zeros : (inverse : ℕ → ℕ) (q : ℕ) (ks : List ℕ) (n col : ℕ) → pairing inverse q 0 ks col (replicate n 0) ≡ 0
pairing-zeros inverse q ks zero col = pairing-nil inverse q 0 ks col
pairing-zeros inverse q ks (suc n) col = pairing-cons inverse q 0 q ks col 0 (replicate n 0) (omega arith) ∙ omega (arith, pairing-zeros inverse q ks n (col + 1))

pairing-unit : (inverse : ℕ → ℕ) (q : ℕ) (ks : List ℕ) (n i col : ℕ) → i < n → pairing inverse q 0 ks col (unit n i) ≡ column_sum inverse q ks (col + i)
pairing-unit inverse q ks zero i col h = absurd (omega arith)
pairing-unit inverse q ks (suc n) zero col h =
    let e : column_sum inverse q ks col ≡ column_sum inverse q ks (col + 0) = ap (column_sum inverse q ks) (omega arith) in
    pairing-cons inverse q 0 q ks col 1 (replicate n 0) (omega arith) ∙ omega (arith, pairing-zeros inverse q ks n (col + 1), e)
pairing-unit inverse q ks (suc n) (suc i) col h =
    let e : column_sum inverse q ks (col + 1 + i) ≡ column_sum inverse q ks (col + suc i) = ap (column_sum inverse q ks) (omega arith) in
    pairing-cons inverse q 0 q ks col 0 (unit n i) (omega arith) ∙ omega (arith, pairing-unit inverse q ks n i (col + 1) (omega arith), e)

-- the code symbols of data symbols, from code column c on
abbrev pub codes : (ℕ → ℕ) → ℕ → ℕ → List ℕ → ℕ → List ℕ
codes inverse q c ds zero = []
codes inverse q c ds (suc f) = weighted_sum inverse q c 0 ds ∷ codes inverse q (c + 1) ds f

are_code : (p : ℕ) (inverse : ℕ → ℕ) (q c : ℕ) (ds : List ℕ) (f : ℕ) → AreCode p inverse q c ds (codes inverse q c ds f)
are_code p inverse q c ds zero = tt
are_code p inverse q c ds (suc f) = (refl, are_code p inverse q (c + 1) ds f)

length-codes : (inverse : ℕ → ℕ) (q c : ℕ) (ds : List ℕ) (f : ℕ) → length (codes inverse q c ds f) ≡ f
length-codes inverse q c ds zero = refl
length-codes inverse q c ds (suc f) = omega (arith, length-codes inverse q (c + 1) ds f)

-- what the coefficients of a decoding list add up to at a data column
column_of : (p : ℕ) (inverse : ℕ → ℕ) (q f which z : ℕ) (lost : List Bool) (ks : List ℕ) → length lost ≡ q + f → length ks ≡ q + f → z < q → IsDecoding p inverse q lost which ks
    → (get_or (take q ks) z 0 + column_sum inverse q (drop q ks) z) % p ≡ get_or (unit q z) which 0 % p
column_of p inverse q f which z lost ks l m h d =
    let t : length (take q ks) ≡ q = length-take q ks ∙ omega arith in
    let u : length (drop q ks) ≡ f = omega (arith, length-drop q ks) in
    let split : dot (take q ks ++ drop q ks) (unit q z ++ codes inverse q 0 (unit q z) f) ≡ dot ks (unit q z ++ codes inverse q 0 (unit q z) f) = ap (λ n. dot n (unit q z ++ codes inverse q 0 (unit q z) f)) (take-append-drop q ks) in
    let code : dot (drop q ks) (codes inverse q 0 (unit q z) f) % p ≡ column_sum inverse q (drop q ks) z % p = dot-code p inverse q 0 (drop q ks) (unit q z) (codes inverse q 0 (unit q z) f) (u ∙ sym (length-codes inverse q 0 (unit q z) f)) (are_code p inverse q 0 (unit q z) f) ∙ ap (λ n. n % p) (pairing-unit inverse q (drop q ks) q z 0 h ∙ ap (column_sum inverse q (drop q ks)) (omega arith)) in
    same_sum p (get_or (take q ks) z 0) (dot (take q ks) (unit q z)) _ _ (ap (λ n. n % p) (sym (dot-unit q z (take q ks) h))) (sym code)
    ∙ ap (λ n. n % p) (sym (dot-append (take q ks) (drop q ks) (unit q z) (codes inverse q 0 (unit q z) f) (t ∙ sym (length-unit q z))) ∙ split)
    ∙ d.law (unit q z) (codes inverse q 0 (unit q z) f) (length-unit q z) (omega (arith, length-codes inverse q 0 (unit q z) f)) (are_code p inverse q 0 (unit q z) f)

zero_outside-split : (hs gs : List Bool) (ks : List ℕ) → ZeroOutside (hs ++ gs) ks → ZeroOutside hs (take (length hs) ks) × ZeroOutside gs (drop (length hs) ks)
zero_outside-split [] gs ks z = (tt, z)
zero_outside-split (h ∷ hs) gs [] z = absurd z
zero_outside-split (true ∷ hs) gs (k ∷ ks) z = zero_outside-split hs gs ks z
zero_outside-split (false ∷ hs) gs (k ∷ ks) z = let r = zero_outside-split hs gs ks z.1 in ((z.0, r.0), r.1)

zero_at : (lost : List Bool) (ks : List ℕ) (i : ℕ) → ZeroOutside (map not lost) ks → get_or lost i false ≡ true → get_or ks i 0 ≡ 0
zero_at [] ks i z h = absurd (cc)
zero_at (o ∷ lost) [] i z h = refl
zero_at (true ∷ lost) (k ∷ ks) zero z h = z.0
zero_at (false ∷ lost) (k ∷ ks) zero z h = absurd (cc)
zero_at (true ∷ lost) (k ∷ ks) (suc i) z h = zero_at lost ks i z.1 h
zero_at (false ∷ lost) (k ∷ ks) (suc i) z h = zero_at lost ks i z h

-- the lost columns, in order
abbrev pub lost_columns : ℕ → List Bool → List ℕ
lost_columns col [] = []
lost_columns col (true ∷ lost) = col ∷ lost_columns (col + 1) lost
lost_columns col (false ∷ lost) = lost_columns (col + 1) lost

all_lost : (P : ℕ → Type 0) (col : ℕ) (lost : List Bool) → ((i : ℕ) → i < length lost → get_or lost i false ≡ true → P (col + i)) → AllByRecursion P (lost_columns col lost)
all_lost P col [] h = tt
all_lost P col (true ∷ lost) h =
    let e : col + 0 ≡ col = omega arith in
    (subst P e (h 0 (omega arith) refl), all_lost P (col + 1) lost (λ i l g. let e : col + suc i ≡ col + 1 + i = omega arith in subst P e (h (suc i) (omega arith) g)))
all_lost P col (false ∷ lost) h = all_lost P (col + 1) lost (λ i l g. let e : col + suc i ≡ col + 1 + i = omega arith in subst P e (h (suc i) (omega arith) g))

ascending : (col : ℕ) (lost : List Bool) → Ascending (lost_columns col lost)
ascending col [] = tt
ascending col (true ∷ lost) = (all_lost (λ z. col < z) (col + 1) lost (λ i l g. omega arith), ascending (col + 1) lost)
ascending col (false ∷ lost) = ascending (col + 1) lost

length-lost_columns : (col : ℕ) (lost : List Bool) → length (lost_columns col lost) ≡ count_by (λ b. b) lost
length-lost_columns col [] = refl
length-lost_columns col (true ∷ lost) = omega (arith, length-lost_columns (col + 1) lost, count-true lost)
length-lost_columns col (false ∷ lost) = omega (arith, length-lost_columns (col + 1) lost, count-false lost)

length-map-not : (lost : List Bool) → length (map not lost) ≡ length lost
length-map-not [] = refl
length-map-not (o ∷ lost) = omega (arith, length-map-not lost)

lists_same : (xs ys : List ℕ) → length xs ≡ length ys → ((i : ℕ) → i < length xs → get_or xs i 0 ≡ get_or ys i 0) → xs ≡ ys
lists_same [] [] e h = refl
lists_same [] (y ∷ ys) e h = absurd (omega arith)
lists_same (x ∷ xs) [] e h = absurd (omega arith)
lists_same (x ∷ xs) (y ∷ ys) e h =
    let f : x ≡ y = h 0 (omega arith) in
    let g : xs ≡ ys = lists_same xs ys (omega arith) (λ i l. h (suc i) (omega arith)) in cc

-- a decoding list has one coefficient a symbol
pub length-decoding : (p : ℕ) (inverse : ℕ → ℕ) (q f which : ℕ) (lost : List Bool) (ks : List ℕ) → length lost ≡ q + f → IsDecoding p inverse q lost which ks → length ks ≡ q + f
length-decoding p inverse q f which lost ks l d =
    length-zero_outside (helpers q lost) ks d.zeros ∙ length-append (map not (take q lost)) _
    ∙ omega (arith, length-map-not (take q lost), length-take q lost, length-drop q lost, length-first_live (drop q lost) (count_by (λ b. b) (take q lost)))

-- a lost data symbol has one decoding list
pub only_one : (p : ℕ) (inverse : ℕ → ℕ) (law : (a : ℕ) → 0 < a → a < 32 → (a * inverse a) % p ≡ 1 % p) (q f which : ℕ) (lost : List Bool) (ks ls : List ℕ) → 1 < p → q + f ≤ 32 → length lost ≡ q + f
    → IsDecoding p inverse q lost which ks → IsDecoding p inverse q lost which ls → ks ≡ ls
only_one p inverse law q f which lost ks ls hp hq l dk dl =
    let t : length (take q lost) ≡ q = length-take q lost ∙ omega arith in
    let td : length (drop q lost) ≡ f = omega (arith, length-drop q lost) in
    let n : length (map not (take q lost)) ≡ q = length-map-not (take q lost) ∙ t in
    let zk = zero_outside-split (map not (take q lost)) _ ks dk.zeros in
    let zl = zero_outside-split (map not (take q lost)) _ ls dl.zeros in
    let lk : length ks ≡ q + f = length-decoding p inverse q f which lost ks l dk in
    let ll : length ls ≡ q + f = length-decoding p inverse q f which lost ls l dl in
    let zk0 : ZeroOutside (map not (take q lost)) (take q ks) = subst (λ m. ZeroOutside (map not (take q lost)) (take m ks)) n zk.0 in
    let zl0 : ZeroOutside (map not (take q lost)) (take q ls) = subst (λ m. ZeroOutside (map not (take q lost)) (take m ls)) n zl.0 in
    let e = length-lost_columns 0 (take q lost) in
    let zk1 : ZeroOutside (first_live (drop q lost) (length (lost_columns 0 (take q lost)))) (drop q ks) = subst (λ m. ZeroOutside (first_live (drop q lost) m) (drop q ks)) (sym e) (subst (λ m. ZeroOutside (first_live (drop q lost) (count_by (λ b. b) (take q lost))) (drop m ks)) n zk.1) in
    let zl1 : ZeroOutside (first_live (drop q lost) (length (lost_columns 0 (take q lost)))) (drop q ls) = subst (λ m. ZeroOutside (first_live (drop q lost) m) (drop q ls)) (sym e) (subst (λ m. ZeroOutside (first_live (drop q lost) (count_by (λ b. b) (take q lost))) (drop m ls)) n zl.1) in
    let same = λ (z : ℕ) (h : z < q). column_of p inverse q f which z lost ks l lk h dk ∙ sym (column_of p inverse q f which z lost ls l ll h dl) in
    let sums : SameSums p inverse q (drop q ks) (drop q ls) (lost_columns 0 (take q lost)) = all_lost (λ y. column_sum inverse q (drop q ks) y % p ≡ column_sum inverse q (drop q ls) y % p) 0 (take q lost) (λ i il g.
    let a = zero_at (take q lost) (take q ks) i zk0 g in
    let b = zero_at (take q lost) (take q ls) i zl0 g in
    let i0 : i ≡ 0 + i = omega arith in
    subst (λ y. column_sum inverse q (drop q ks) y % p ≡ column_sum inverse q (drop q ls) y % p) i0
    (ap (λ m. m % p) (omega (arith, a)) ∙ same i (omega arith) ∙ ap (λ m. m % p) (omega (arith, b)))) in
    let code : drop q ks ≡ drop q ls = unique p inverse law hp q (drop q lost) (lost_columns 0 (take q lost)) (drop q ks) (drop q ls) (omega arith) (all_lost (λ y. y < q) 0 (take q lost) (λ i il g. omega arith)) (ascending 0 (take q lost))
    (All-drop (λ k. k < p) q ks dk.residues) (All-drop (λ k. k < p) q ls dl.residues) zk1 zl1 sums in
    let tk : length (take q ks) ≡ q = length-take q ks ∙ omega arith in
    let tl : length (take q ls) ≡ q = length-take q ls ∙ omega arith in
    let live : take q ks ≡ take q ls = lists_same (take q ks) (take q ls) (tk ∙ sym tl) (λ i il.
    let h = same i (omega arith) in
    let c = ap (λ m. column_sum inverse q m i) code in
    let r = same_cancel_add p (column_sum inverse q (drop q ks) i) (get_or (take q ks) i 0) (get_or (take q ls) i 0)
    (ap (λ m. m % p) (add_comm _ _) ∙ h ∙ ap (λ m. m % p) (omega (arith, c))) in
    sym (mod-eq_of_lt (All-get_or (λ k. k < p) (take q ks) i 0 il (All-take (λ k. k < p) q ks dk.residues))) ∙ r
    ∙ mod-eq_of_lt (All-get_or (λ k. k < p) (take q ls) i 0 (omega arith) (All-take (λ k. k < p) q ls dl.residues))) in
    sym (take-append-drop q ks) ∙ ap (λ m. m ++ drop q ks) live ∙ ap (λ m. take q ls ++ m) code ∙ take-append-drop q ls
