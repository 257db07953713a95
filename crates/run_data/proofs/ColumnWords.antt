-- Parts of one column, by the words of their matrix as a list.
use Rattle.std.proofs.Common.{◌++◌, ◌≢◌, ◌^◌, ◌≡◌, ℕ, ◌+◌, ◌-◌, ◌*◌, ◌<◌, ◌≤◌, ◌⊎◌, inl, inr, List, length, take, drop, get_or, slice_index, refl, sym, ◌∙◌, ap, arith}
use Rattle.std.proofs.Math.Nat.{mul-le-mul_right}
use Rattle.std.proofs.Math.ListN.{get_or-eq_default}
use Rattle.std.proofs.lemmas.List.{get_or-drop, get_or-take, length-take, length-take-le, get_or_default, get_or_append_left, get_or-append_right, length-drop, take-append-drop, take-append-le, drop-append-le, append_assoc}
use Rattle.std.proofs.lemmas.Bool.Decides.{nat_tests}
use Rattle.run_data.specs.declared.matrix.Part.{Part}
use Rattle.run_data.specs.Matrix.{Matrix, cols, entry, IsShaped, AreWords}
use Rattle.run_data.specs.Columns.{with_words}
use Rattle.run_data.specs.Parts.{IsWithin, patched, with_part}
use Rattle.run_data.proofs.Matrices.{tabulate-same}
use Rattle.run_data.proofs.PartLaws.{AreWords-list}

lt_or_le : (a b : ℕ) → (a < b) ⊎ (b ≤ a)
lt_or_le a b = grind arith

-- n words from row r of column c on are among the words
pub place_in : (c r n R R' C len : ℕ) → R' ≡ R → len ≡ C * R → c < C → r + n ≤ R → c * R' + r + n ≤ len
place_in c r n R R' C len e e_len lt le = rw (e, e_len) (omega (arith, mul-le-mul_right {m = c + 1} {n = C} R (omega arith)))

-- a place is no farther than all words
pub place_small : (c r R R' C len : ℕ) → R' ≡ R → len ≡ C * R → c ≤ C → r < 2 ^ 32 → len * 4 < 2 ^ 63 → c * R' + r < 2 ^ 62
place_small c r R R' C len e e_len le small fits = rw e (omega (arith, mul-le-mul_right {m = c} {n = C} R le))

pub words_small : (p : ℕ) (a : Matrix) (ws : List ℕ) → IsShaped a → length ws ≡ cols a * a.rows → ((i j : ℕ) → i < a.rows → j < cols a → get_or ws (j * a.rows + i) 0 ≡ entry a i j) → 0 < p → p ≤ 65537
    → AreWords p a → (k : ℕ) → get_or ws k 0 ≤ 65536
words_small p a ws shaped size words pos_p le_p are k =
    elim (lt_or_le k (length ws)) [
      | inl h ↦ omega (arith, (AreWords-list p a ws shaped size words pos_p).1 are k h)
      | inr h ↦ omega (arith, get_or-eq_default ws 0 {n = k} h)
    ]

pub part_small : (ws : List ℕ) (lo n : ℕ) → ((k : ℕ) → get_or ws k 0 ≤ 65536) → (k : ℕ) → get_or (take n (drop lo ws)) k 0 ≤ 65536
part_small ws lo n small k =
    elim (lt_or_le k n) [
      | inl h ↦ omega (arith, get_or-take n (drop lo ws) k 0 h, get_or-drop lo ws k 0, small (lo + k))
      | inr h ↦ omega (arith, get_or-eq_default (take n (drop lo ws)) 0 {n = k} (omega (arith, length-take n (drop lo ws))))
    ]

-- word p of what was written from lo on
pub written : (ws ys rest : List ℕ) (lo p d : ℕ) → lo ≤ length ws → lo ≤ p → p - lo < length ys → get_or (take lo ws ++ (ys ++ rest)) p d ≡ get_or ys (p - lo) 0
written ws ys rest lo p d le le_p lt =
    get_or-append_right (take lo ws) (ys ++ rest) lo p d (length-take-le lo ws le) le_p ∙ get_or_append_left ys rest d (p - lo) lt ∙ get_or_default ys (p - lo) d 0 lt

pub part_word : (ws : List ℕ) (lo n m p x : ℕ) → m < n → lo + m ≡ p → get_or ws p 0 ≡ x → slice_index (take n (drop lo ws)) m ≡ x
part_word ws lo n m p x lt e e_x = get_or-take n (drop lo ws) m 0 lt ∙ get_or-drop lo ws m 0 ∙ ap (λ k. get_or ws k 0) e ∙ e_x

pub part_long : (ws : List ℕ) (lo n : ℕ) → lo + n ≤ length ws → length (take n (drop lo ws)) ≡ n
part_long ws lo n le = length-take-le n (drop lo ws) (omega (arith, length-drop lo ws))

pub take_le : (t h : ℕ) (l : List ℕ) → t ≡ h → length (take t l) ≤ h
take_le t h l e = omega (arith, length-take t l)

-- a word outside what was written
pub unwritten : (ws ys : List ℕ) (lo n p d : ℕ) → length ys ≡ n → lo + n ≤ length ws → p < length ws → (p < lo) ⊎ (lo + n ≤ p) → get_or (take lo ws ++ (ys ++ drop n (drop lo ws))) p d ≡ get_or ws p 0
unwritten ws ys lo n p d long room lt (inl h) =
    get_or_append_left (take lo ws) (ys ++ drop n (drop lo ws)) d p (omega (arith, length-take-le lo ws (omega arith))) ∙ get_or-take lo ws p d h ∙ get_or_default ws p d 0 lt
unwritten ws ys lo n p d long room lt (inr h) =
    get_or-append_right (take lo ws) (ys ++ drop n (drop lo ws)) lo p d (length-take-le lo ws (omega arith)) (omega arith) ∙ get_or-append_right ys (drop n (drop lo ws)) n (p - lo) d long (omega arith)
    ∙ get_or-drop n (drop lo ws) (p - lo - n) d ∙ get_or-drop lo ws (n + (p - lo - n)) d ∙ ap (λ k. get_or ws k d) (let e : lo + (n + (p - lo - n)) ≡ p = omega arith in e) ∙ get_or_default ws p d 0 lt

-- a place in another column is outside
pub other_column : (c j i r n R : ℕ) → c ≢ j → i < R → r + n ≤ R → (c * R + i < j * R + r) ⊎ (j * R + r + n ≤ c * R + i)
other_column c j i r n R ne lt le =
    elim (lt_or_le c j) [
      | inl h ↦ inl (omega (arith, mul-le-mul_right {m = c + 1} {n = j} R (omega arith)))
      | inr h ↦ inr (omega (arith, mul-le-mul_right {m = j + 1} {n = c} R (omega arith)))
    ]

in_column : (at : Part) (f g : ℕ → ℕ → ℕ) (i : ℕ) → at.c1 ≡ at.c0 + 1 → at.r0 ≤ i → i < at.r1 → f i at.c0 ≡ patched at f g i at.c0
unfolding patched
in_column at f g i one le lt = grind (arith, nat_tests)

beside_column : (at : Part) (f g : ℕ → ℕ → ℕ) (i j : ℕ) → at.c1 ≡ at.c0 + 1 → j ≢ at.c0 → g i j ≡ patched at f g i j
unfolding patched
beside_column at f g i j one ne = grind (arith, nat_tests)

outside_rows : (at : Part) (f g : ℕ → ℕ → ℕ) (i j : ℕ) → (i < at.r0) ⊎ (at.r1 ≤ i) → g i j ≡ patched at f g i j
unfolding patched
outside_rows at f g i j (inl h) = grind (arith, nat_tests)
outside_rows at f g i j (inr h) = grind (arith, nat_tests)

same_or_not : (a b : ℕ) → (a ≡ b) ⊎ (a ≢ b)
same_or_not a b = elim (lt_or_le a b) [ inl h ↦ inr (omega arith) | inr h ↦ elim (lt_or_le b a) [ inl k ↦ inr (omega arith) | inr k ↦ inl (omega arith) ] ]

-- the words of a matrix
abbrev pub HasWords : Matrix → List ℕ → Type 0
HasWords a ws = (i j : ℕ) → i < a.rows → j < cols a → get_or ws (j * a.rows + i) 0 ≡ entry a i j

-- a part of one column lies among the words
pub column_in : (a : Matrix) (at : Part) (R len : ℕ) → IsWithin at a → at.c1 ≡ at.c0 + 1 → R ≡ a.rows → len ≡ cols a * a.rows → at.c0 * R + at.r1 ≤ len
column_in a at R len within one e e_len =
    omega (arith, within.rows_ordered, place_in at.c0 at.r0 (at.r1 - at.r0) a.rows R (cols a) len e e_len (omega (arith, within.columns_end)) (omega (arith, within.rows_ordered, within.rows_end)))

-- word m of a part of one column
pub column_read : (a : Matrix) (at : Part) (ws : List ℕ) (R lo n m : ℕ) → IsWithin at a → at.c1 ≡ at.c0 + 1 → R ≡ a.rows → lo ≡ at.c0 * R + at.r0 → n ≡ at.r1 - at.r0 → HasWords a ws → m < n
    → slice_index (take n (drop lo ws)) m ≡ entry a (at.r0 + m) at.c0
column_read a at ws R lo n m within one e e_lo e_n words lt =
    part_word ws lo n m (at.c0 * a.rows + (at.r0 + m)) (entry a (at.r0 + m) at.c0) lt (omega (arith, e_lo, ap (λ r. at.c0 * r) e))
    (words (at.r0 + m) at.c0 (omega (arith, within.rows_end)) (omega (arith, within.columns_end)))

-- the words of a part of one column are written, and the others stay
pub column_written : (a : Matrix) (at : Part) (ws ys : List ℕ) (R lo n : ℕ) (f : ℕ → ℕ → ℕ) → IsWithin at a → at.c1 ≡ at.c0 + 1 → R ≡ a.rows → lo ≡ at.c0 * R + at.r0 → n ≡ at.r1 - at.r0
    → length ws ≡ cols a * a.rows → HasWords a ws → length ys ≡ n → ((m : ℕ) → m < n → get_or ys m 0 ≡ f (at.r0 + m) at.c0) → with_words a (take lo ws ++ (ys ++ drop n (drop lo ws))) ≡ with_part a at f
column_written a at ws ys R lo n f within one e e_lo e_n size words long new =
    let e_c : at.c0 * R ≡ at.c0 * a.rows = ap (λ r. at.c0 * r) e in
    let room : lo + n ≤ length ws = omega (arith, column_in a at R (length ws) within one e size, e_lo, e_n, within.rows_ordered) in
    let left : (i j : ℕ) → i < a.rows → j < cols a → (j * a.rows + i < lo) ⊎ (lo + n ≤ j * a.rows + i) → get_or (take lo ws ++ (ys ++ drop n (drop lo ws))) (j * a.rows + i) (entry a i j) ≡ entry a i j =
    λ i j hi hj out. unwritten ws ys lo n (j * a.rows + i) (entry a i j) long room (omega (arith, place_in j i 1 a.rows a.rows (cols a) (length ws) refl size hj (omega arith))) out ∙ words i j hi hj
    in
    tabulate-same a.rows (cols a) (λ i j. get_or (take lo ws ++ (ys ++ drop n (drop lo ws))) (j * a.rows + i) (entry a i j)) (patched at f (entry a))
    (λ i j hi hj. elim (same_or_not j at.c0) [
      | inr ne ↦
          left i j hi hj (elim (other_column j at.c0 i at.r0 n a.rows ne hi (omega (arith, e_n, within.rows_ordered, within.rows_end))) [ inl h ↦ inl (omega (arith, e_lo, e_c, h)) | inr h ↦ inr (omega (arith, e_lo, e_c, h)) ])
          ∙ beside_column at f (entry a) i j one ne
      | inl here ↦ elim (lt_or_le i at.r0) [
        | inl h ↦ left i j hi hj (inl (omega (arith, e_lo, e_c, ap (λ c. c * a.rows) here))) ∙ outside_rows at f (entry a) i j (inl h)
        | inr h ↦ elim (lt_or_le i at.r1) [
          | inr k ↦ left i j hi hj (inr (omega (arith, e_lo, e_c, e_n, within.rows_ordered, ap (λ c. c * a.rows) here))) ∙ outside_rows at f (entry a) i j (inr k)
          | inl k ↦
              let e_p : j * a.rows + i - lo ≡ i - at.r0 = omega (arith, e_lo, e_c, ap (λ c. c * a.rows) here) in
              let e_i : at.r0 + (i - at.r0) ≡ i = omega arith in
              written ws ys (drop n (drop lo ws)) lo (j * a.rows + i) (entry a i j) (omega (arith, room)) (omega (arith, e_lo, e_c, ap (λ c. c * a.rows) here)) (omega (arith, e_p, long, e_n))
              ∙ ap (λ m. get_or ys m 0) e_p ∙ new (i - at.r0) (omega (arith, e_n)) ∙ ap (λ r. f r at.c0) e_i ∙ in_column at f (entry a) i one h k ∙ ap (λ c. patched at f (entry a) i c) (sym here)
        ]
      ]
    ])

-- the words of a matrix are small
pub entries_small : (p : ℕ) (a : Matrix) (ws : List ℕ) → IsShaped a → length ws ≡ cols a * a.rows → HasWords a ws → 32 ≤ p → p ≤ 65537 → AreWords p a → (k : ℕ) → slice_index ws k ≤ 65536
entries_small p a ws shaped size words ge le are k = words_small p a ws shaped size words (omega arith) le are k

-- ---- the words in front of a place and those behind

pub front_small : (ws front : List ℕ) (lo : ℕ) → front ≡ take lo ws → ((k : ℕ) → slice_index ws k ≤ 65536) → (k : ℕ) → slice_index front k ≤ 65536
front_small ws front lo e small k = rw e (part_small ws 0 lo small k)

pub back_small : (ws back : List ℕ) (lo : ℕ) → back ≡ drop lo ws → ((k : ℕ) → slice_index ws k ≤ 65536) → (k : ℕ) → slice_index back k ≤ 65536
back_small ws back lo e small k = rw e (omega (arith, get_or-drop lo ws k 0, small (lo + k)))

pub taken_small : (xs : List ℕ) (n : ℕ) → ((k : ℕ) → slice_index xs k ≤ 65536) → (k : ℕ) → slice_index (take n xs) k ≤ 65536
taken_small xs n small k = part_small xs 0 n small k

-- word m of a part of one column, which begins the words behind
pub column_read_behind : (a : Matrix) (at : Part) (ws back : List ℕ) (R lo n m : ℕ) → back ≡ drop lo ws → IsWithin at a → at.c1 ≡ at.c0 + 1 → R ≡ a.rows → lo ≡ at.c0 * R + at.r0 → n ≡ at.r1 - at.r0 → HasWords a ws → m < n
    → slice_index (take n back) m ≡ entry a (at.r0 + m) at.c0
column_read_behind a at ws back R lo n m e_back within one e e_lo e_n words lt = ap (λ l. slice_index (take n l) m) e_back ∙ column_read a at ws R lo n m within one e e_lo e_n words lt

-- the same words of an earlier column, among the words in front
pub column_read_before : (a : Matrix) (at : Part) (j : ℕ) (ws front : List ℕ) (R lo first n m : ℕ) → front ≡ take lo ws → IsWithin at a → at.c1 ≡ at.c0 + 1 → j < at.c0 → R ≡ a.rows → lo ≡ at.c0 * R + at.r0 → first ≡ j * R + at.r0 → n ≡ at.r1 - at.r0
    → HasWords a ws → m < n → slice_index (take n (drop first front)) m ≡ entry a (at.r0 + m) j
column_read_before a at j ws front R lo first n m e_front within one earlier e e_lo e_first e_n words lt =
    let e_j : j * R ≡ j * a.rows = ap (λ r. j * r) e in
    let e_c : at.c0 * R ≡ at.c0 * a.rows = ap (λ r. at.c0 * r) e in
    part_word front first n m (first + m) (entry a (at.r0 + m) j) lt refl
    (ap (λ l. get_or l (first + m) 0) e_front
    ∙ get_or-take lo ws (first + m) 0 (omega (arith, e_j, e_c, within.rows_end, mul-le-mul_right {m = j + 1} {n = at.c0} a.rows (omega arith)))
    ∙ ap (λ k. get_or ws k 0) (let e_p : first + m ≡ j * a.rows + (at.r0 + m) = omega (arith, e_j) in e_p)
    ∙ words (at.r0 + m) j (omega (arith, within.rows_end)) (omega (arith, within.columns_end)))

pub front_long : (ws front : List ℕ) (lo : ℕ) → front ≡ take lo ws → lo ≤ length ws → length front ≡ lo
front_long ws front lo e le = ap length e ∙ length-take-le lo ws le

-- word m of a part of one column, among the words in front of a place behind it
pub column_read_front : (a : Matrix) (at : Part) (ws front : List ℕ) (R s lo n m : ℕ) → front ≡ take s ws → lo + n ≤ s → IsWithin at a → at.c1 ≡ at.c0 + 1 → R ≡ a.rows → lo ≡ at.c0 * R + at.r0 → n ≡ at.r1 - at.r0 → HasWords a ws → m < n
    → slice_index (take n (drop lo front)) m ≡ entry a (at.r0 + m) at.c0
column_read_front a at ws front R s lo n m e_front room within one e e_lo e_n words lt =
    part_word front lo n m (lo + m) (entry a (at.r0 + m) at.c0) lt refl
    (ap (λ l. get_or l (lo + m) 0) e_front ∙ get_or-take s ws (lo + m) 0 (omega arith)
    ∙ ap (λ k. get_or ws k 0) (let e_p : lo + m ≡ at.c0 * a.rows + (at.r0 + m) = omega (arith, e_lo, ap (λ r. at.c0 * r) e) in e_p)
    ∙ words (at.r0 + m) at.c0 (omega (arith, within.rows_end)) (omega (arith, within.columns_end)))

-- word m of a part further up in the same column, among the words in front
pub column_read_above : (a : Matrix) (at above : Part) (ws front : List ℕ) (R lo first n m : ℕ) → front ≡ take lo ws → IsWithin at a → IsWithin above a → at.c1 ≡ at.c0 + 1 → above.c0 ≡ at.c0 → above.r1 ≤ at.r0 → R ≡ a.rows → lo ≡ at.c0 * R + at.r0
    → first ≡ at.c0 * R + above.r0 → n ≡ above.r1 - above.r0 → HasWords a ws → m < n → slice_index (take n (drop first front)) m ≡ entry a (above.r0 + m) above.c0
column_read_above a at above ws front R lo first n m e_front within within_above one same higher e e_lo e_first e_n words lt =
    let e_c : at.c0 * R ≡ at.c0 * a.rows = ap (λ r. at.c0 * r) e in
    part_word front first n m (first + m) (entry a (above.r0 + m) at.c0) lt refl
    (ap (λ l. get_or l (first + m) 0) e_front ∙ get_or-take lo ws (first + m) 0 (omega arith)
    ∙ ap (λ k. get_or ws k 0) (let e_p : first + m ≡ at.c0 * a.rows + (above.r0 + m) = omega (arith, e_c) in e_p)
    ∙ words (above.r0 + m) at.c0 (omega (arith, within_above.rows_end)) (omega (arith, within.columns_end)))
    ∙ ap (entry a (above.r0 + m)) (sym same)

-- words that are written among those in front are written in the whole
pub written_before : (ws front back ys : List ℕ) (s lo n : ℕ) → front ≡ take s ws → back ≡ drop s ws → lo + n ≤ length front → take lo front ++ (ys ++ drop n (drop lo front)) ++ back ≡ take lo ws ++ (ys ++ drop n (drop lo ws))
written_before ws front back ys s lo n e_front e_back room =
    let whole : front ++ back ≡ ws = ap (λ l. l ++ back) e_front ∙ ap (λ l. take s ws ++ l) e_back ∙ take-append-drop s ws in
    append_assoc (take lo front) (ys ++ drop n (drop lo front)) back ∙ ap (λ l. take lo front ++ l) (append_assoc ys (drop n (drop lo front)) back)
    ∙ ap (λ l. l ++ (ys ++ (drop n (drop lo front) ++ back))) (sym (take-append-le lo front back (omega arith)) ∙ ap (take lo) whole)
    ∙ ap (λ l. take lo ws ++ (ys ++ l)) (sym (drop-append-le n (drop lo front) back (omega (arith, length-drop lo front))) ∙ ap (drop n) (sym (drop-append-le lo front back (omega arith)) ∙ ap (drop lo) whole))

-- a part of one column is written among the words in front
pub column_written_before : (a : Matrix) (at : Part) (ws front back ys : List ℕ) (R s lo n : ℕ) (f : ℕ → ℕ → ℕ) → front ≡ take s ws → back ≡ drop s ws → lo + n ≤ length front → IsWithin at a → at.c1 ≡ at.c0 + 1 → R ≡ a.rows → lo ≡ at.c0 * R + at.r0
    → n ≡ at.r1 - at.r0 → length ws ≡ cols a * a.rows → HasWords a ws → length ys ≡ n → ((m : ℕ) → m < n → get_or ys m 0 ≡ f (at.r0 + m) at.c0) → with_words a (take lo front ++ (ys ++ drop n (drop lo front)) ++ back) ≡ with_part a at f
column_written_before a at ws front back ys R s lo n f e_front e_back room within one e e_lo e_n size words long new =
    ap (with_words a) (written_before ws front back ys s lo n e_front e_back room) ∙ column_written a at ws ys R lo n f within one e e_lo e_n size words long new

-- a part of one column is written at the start of the words behind
pub column_written_behind : (a : Matrix) (at : Part) (ws front back ys : List ℕ) (R lo n : ℕ) (f : ℕ → ℕ → ℕ) → front ≡ take lo ws → back ≡ drop lo ws → IsWithin at a → at.c1 ≡ at.c0 + 1 → R ≡ a.rows → lo ≡ at.c0 * R + at.r0 → n ≡ at.r1 - at.r0
    → length ws ≡ cols a * a.rows → HasWords a ws → length ys ≡ n → ((m : ℕ) → m < n → get_or ys m 0 ≡ f (at.r0 + m) at.c0) → with_words a (front ++ (ys ++ drop n back)) ≡ with_part a at f
column_written_behind a at ws front back ys R lo n f e_front e_back within one e e_lo e_n size words long new =
    ap (λ l. with_words a (l ++ (ys ++ drop n back))) e_front ∙ ap (λ l. with_words a (take lo ws ++ (ys ++ drop n l))) e_back ∙ column_written a at ws ys R lo n f within one e e_lo e_n size words long new

-- ---- words that a call made modulo a number, of words that are known

pub behind_long : (ws back : List ℕ) (lo n : ℕ) → back ≡ drop lo ws → lo + n ≤ length ws → length (take n back) ≡ n
behind_long ws back lo n e le = rw e (part_long ws lo n le)
