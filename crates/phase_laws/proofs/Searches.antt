-- The least number that the process rows find is that of the pivot.
use Rattle.std.proofs.Common.{◌≡◌, ◌≢◌, ℕ, zero, suc, ◌+◌, ◌-◌, ◌<◌, ◌≤◌, ◌==◌, ◌&&◌, not, true, false, nat_lt, Option, Some, None, [], ◌∷◌, ◌++◌, refl, sym, ◌∙◌, ap, subst, arith, inl, inr}
use Rattle.std.proofs.lemmas.Bool.{cases_lt, cases_eq, lt-ltb, le-ltb, eq-eqb, ne_eqb}
use Rattle.run_data.specs.Matrix.{entry}
use Rattle.array_desc.specs.Descriptors.{IsDesc}
use Rattle.blacs_grid.specs.Places.{rank_at}
use Rattle.rank_machine.specs.declared.slot.Slot.{Slot}
use Rattle.rank_machine.specs.declared.slot.Tile.TheVariants.{Index}
use Rattle.rank_machine.specs.declared.slot.Piece.{Piece}
use Rattle.rank_machine.specs.declared.slot.Piece.TheVariants as piece
use Rattle.rank_machine.specs.declared.kernel.Kernel.TheVariants as k
use Rattle.rank_machine.specs.declared.layout.Layout.{Layout}
use Rattle.rank_machine.specs.Setting.{Setting, layout, global_row}
use Rattle.rank_machine.specs.Effect.{Memory, none_number, words_of, numbers_of, first_number, slot_of, least_of, number_if, first_row, pushed, made_by}
use Rattle.serial_model.specs.Elimination.{pivot_from, Eliminated, with_pivot, eliminate_column}
use Rattle.elimination.specs.Strips.{IsRowMap, rows_below, row_at, row_owner, row_place, Hold}
use Rattle.elimination.proofs.Steps.{IsPivot, pivot_from-is}
use Rattle.elimination.proofs.StripMaps.{row_owner-lt, row_at-owner, row_place-lt, row_at-lt}
use Rattle.elimination.proofs.StripColumns.{held-at}
use Rattle.phase_laws.specs.Columns.{rows_of, strips_in}
use Rattle.phase_laws.specs.Search.{number_found, IsLeastOf}
use Rattle.phase_laws.proofs.Columns.{row_map, row_on_rank}

-- the least of some numbers
pub least_of-le : (n : ℕ) (f : ℕ → ℕ) (k : ℕ) → k < n → least_of n f ≤ f k
least_of-le zero f k h = absurd (omega arith)
least_of-le (suc n) f k h =
    elim (cases_lt k n) [
      | inl earlier ↦ omega (arith, least_of-le n f k earlier)
      | inr last ↦ (let here : k ≡ n = omega arith in omega (arith, ap f here))
    ]

pub least_of-none : (n : ℕ) (f : ℕ → ℕ) → least_of n f ≤ none_number
least_of-none zero f = omega arith
least_of-none (suc n) f = omega (arith, least_of-none n f)

pub least_of-from : (n : ℕ) (f : ℕ → ℕ) (v : ℕ) → v ≤ none_number → ((k : ℕ) → k < n → v ≤ f k) → v ≤ least_of n f
least_of-from zero f v h each = h
least_of-from (suc n) f v h each = omega (arith, least_of-from n f v h (λ k hk. each k (omega arith)), each n (omega arith))

least_of-same : (n : ℕ) (f g : ℕ → ℕ) → ((k : ℕ) → k < n → f k ≡ g k) → least_of n f ≡ least_of n g
least_of-same zero f g same = refl
least_of-same (suc n) f g same = omega (arith, least_of-same n f g (λ k hk. same k (omega arith)), same n (omega arith))

-- which is one of them, where they are numbers of rows or the one that means none
least_of-among : (n : ℕ) (f : ℕ → ℕ) → ((k : ℕ) → k < suc n → f k ≤ none_number) → (k : ℕ) × (k < suc n) × (f k ≡ least_of (suc n) f)
least_of-among zero f small = (0, omega arith, omega (arith, small 0 (omega arith)))
least_of-among (suc n) f small =
    let before = least_of-among n f (λ k hk. small k (omega arith)) in
    elim (cases_lt (f (suc n)) (least_of (suc n) f)) [
      | inl smaller ↦ (suc n, omega arith, omega arith)
      | inr greater ↦ (before.0, omega (arith, before.1), omega (arith, before.2))
    ]

pub least_of-is : (n : ℕ) (f : ℕ → ℕ) → 0 < n → ((k : ℕ) → k < n → f k ≤ none_number) → IsLeastOf n f (least_of n f)
least_of-is zero f h small = absurd (omega arith)
least_of-is (suc n) f h small = record { below = λ k hk. least_of-le (suc n) f k hk; among = least_of-among n f small }

pub least-unique : (n : ℕ) (f : ℕ → ℕ) (v w : ℕ) → IsLeastOf n f v → IsLeastOf n f w → v ≡ w
least-unique n f v w a b =
    let x = a.among in
    let y = b.among in
    omega (arith, x.2, y.2, b.below x.0 x.1, a.below y.0 y.1)

-- what one word gives: the number of its row, where it is not 0 and its row is not above the first one looked at
abbrev word_number : ℕ → ℕ → ℕ → ℕ
word_number above r x = number_if (not (x == 0) && nat_lt above (r + 1)) (r + 1)

number-here : (above r x : ℕ) → x ≢ 0 → above ≤ r → word_number above r x ≡ r + 1
number-here above r x nonzero h =
    (let t : (x == 0) ≡ false = ne_eqb x 0 nonzero in
    let u : nat_lt above (r + 1) ≡ true = lt-ltb above (r + 1) (omega arith) in
    simp (t, u))

number-from : (above r x v : ℕ) → v ≤ none_number → (x ≢ 0 → above ≤ r → v ≤ r + 1) → v ≤ word_number above r x
number-from above r x v h each =
    elim (cases_eq x 0) [
      | inl z ↦ (let t : (x == 0) ≡ true = eq-eqb x 0 z in rw t h)
      | inr nonzero ↦
          (elim (cases_lt r above) [
            | inl before ↦
                (let t : (x == 0) ≡ false = ne_eqb x 0 nonzero in
                let u : nat_lt above (r + 1) ≡ false = le-ltb above (r + 1) (omega arith) in
                rw (t, u) h)
            | inr from ↦ subst (λ n. v ≤ n) (sym (number-here above r x nonzero from)) (each nonzero from)
          ])
    ]

-- what one process row finds
rank_number : (s : Setting) (d : Layout) (row col : ℕ) (slot : Slot) (mem : Memory) (j above n : ℕ) → col < d.grid.q + d.grid.f → layout s slot.id ≡ d → (words_of (mem slot)).rows ≡ n → first_row s (rank_at d.grid row col) mem (piece.Whole slot) j above ≡ least_of n (λ l. word_number above (row_at (rows_of d) row l) (entry (words_of (mem slot)) l j))
rank_number s d row col slot mem j above n hc laid rows =
    let m = words_of (mem slot) in
    let rank = rank_at d.grid row col in
    let g : ℕ → ℕ = λ i. global_row (layout s slot.id) rank i in
    let term : (i : ℕ) → word_number above (g (0 + i)) (entry m (0 + i) (0 + j)) ≡ word_number above (row_at (rows_of d) row i) (entry m i j) =
    λ i. ap (λ l. word_number above (g l) (entry m l (0 + j))) (let e : 0 + i ≡ i = omega arith in e)
    ∙ ap (λ c. word_number above (g i) (entry m i c)) (let e : 0 + j ≡ j = omega arith in e)
    ∙ ap (λ r. word_number above r (entry m i j)) (ap (λ x. global_row x rank i) laid ∙ row_on_rank d row col i hc) in
    let count : m.rows - 0 ≡ n = omega arith in
    ap (λ c. least_of c (λ i. word_number above (g (0 + i)) (entry m (0 + i) (0 + j)))) count
    ∙ least_of-same n (λ i. word_number above (g (0 + i)) (entry m (0 + i) (0 + j))) (λ l. word_number above (row_at (rows_of d) row l) (entry m l j)) (λ i _. term i)

small_rows : (d : Layout) → IsDesc d.grid.p d.grid.q d.desc → d.desc.m < none_number
small_rows d desc = omega (arith, desc.rows)

-- the least of what all of them find is the pivot's
pub least-pivot : (s : Setting) (d : Layout) (col : ℕ) (slot : Slot) (mem : ℕ → Memory) (width : ℕ) (f : ℕ → ℕ → ℕ) (j from found : ℕ) → IsDesc d.grid.p d.grid.q d.desc → col < d.grid.q + d.grid.f → layout s slot.id ≡ d → Hold (rows_of d) width f (strips_in mem slot) → j < width → from ≤ d.desc.m → IsLeastOf d.grid.p (λ row. first_row s (rank_at d.grid row col) (mem row) (piece.Whole slot) j from) found → found ≡ number_found (pivot_from (λ i. f i j) from (d.desc.m - from))
unfolding IsPivot
least-pivot s d col slot mem width f j from found desc hc laid hold hj hf least =
    by_pivot (pivot_from (λ i. f i j) from (d.desc.m - from)) (pivot_from-is (λ i. f i j) from (d.desc.m - from) d.desc.m (omega arith))
  where
    map : IsRowMap (rows_of d)
    map = row_map d desc

    number : (row : ℕ) → row < d.grid.p → first_row s (rank_at d.grid row col) (mem row) (piece.Whole slot) j from ≡ least_of (rows_below (rows_of d) d.desc.m row) (λ l. word_number from (row_at (rows_of d) row l) (entry (words_of (mem row slot)) l j))
    number row h = rank_number s d row col slot (mem row) j from (rows_below (rows_of d) d.desc.m row) hc laid (hold.rows row h)

    -- each process row's number is at least v, where v is at most the number of each row with a word that counts
    each : (v : ℕ) → v ≤ none_number → ((i : ℕ) → i < d.desc.m → f i j ≢ 0 → from ≤ i → v ≤ i + 1) → v ≤ found
    each v small bound =
        (let x = least.among in
        let lower : v ≤ least_of (rows_below (rows_of d) d.desc.m x.0) (λ l. word_number from (row_at (rows_of d) x.0 l) (entry (words_of (mem x.0 slot)) l j)) =
        least_of-from (rows_below (rows_of d) d.desc.m x.0) (λ l. word_number from (row_at (rows_of d) x.0 l) (entry (words_of (mem x.0 slot)) l j)) v small
        (λ l hl. number-from from (row_at (rows_of d) x.0 l) (entry (words_of (mem x.0 slot)) l j) v small
        (λ nonzero above. bound (row_at (rows_of d) x.0 l) (row_at-lt (rows_of d) x.0 l map x.1 hl) (λ z. nonzero (hold.words x.0 l j x.1 hl hj ∙ z)) above)) in
        subst (λ n. v ≤ n) (sym (number x.0 x.1) ∙ x.2) lower)

    by_pivot : (o : Option ℕ) → IsPivot (λ i. f i j) from d.desc.m o → found ≡ number_found o
    by_pivot None zeros =
        (let lower : none_number ≤ found = each none_number (omega arith) (λ i hi nonzero h. absurd (nonzero (zeros i h hi))) in
        let x = least.among in
        let upper : found ≤ none_number = subst (λ n. n ≤ none_number) (sym (number x.0 x.1) ∙ x.2) (least_of-none (rows_below (rows_of d) d.desc.m x.0) (λ l. word_number from (row_at (rows_of d) x.0 l) (entry (words_of (mem x.0 slot)) l j))) in
        omega arith)
    by_pivot (Some r) known =
        (let small : d.desc.m < none_number = small_rows d desc in
        let h1 : from ≤ r = known.0 in
        let h2 : r < d.desc.m = known.1 in
        let lower : r + 1 ≤ found = each (r + 1) (omega arith)
        (λ i hi nonzero h. elim (cases_lt i r) [ inl before ↦ absurd (nonzero (known.3 i h before)) | inr after ↦ omega arith ]) in
        let row = row_owner (rows_of d) r in
        let l = row_place (rows_of d) r in
        let row_in : row < d.grid.p = row_owner-lt (rows_of d) r map in
        let at : row_at (rows_of d) row l ≡ r = row_at-owner (rows_of d) r map in
        let word : entry (words_of (mem row slot)) l j ≡ f r j = held-at (rows_of d) width f (strips_in mem slot) r j map hold h2 hj in
        let here : word_number from (row_at (rows_of d) row l) (entry (words_of (mem row slot)) l j) ≡ r + 1 =
        ap (λ g. word_number from g (entry (words_of (mem row slot)) l j)) at ∙ number-here from r (entry (words_of (mem row slot)) l j) (λ z. known.2 (sym word ∙ z)) h1 in
        let mine : least_of (rows_below (rows_of d) d.desc.m row) (λ l. word_number from (row_at (rows_of d) row l) (entry (words_of (mem row slot)) l j)) ≤ r + 1 =
        subst (λ n. least_of (rows_below (rows_of d) d.desc.m row) (λ l. word_number from (row_at (rows_of d) row l) (entry (words_of (mem row slot)) l j)) ≤ n) here
        (least_of-le (rows_below (rows_of d) d.desc.m row) (λ l. word_number from (row_at (rows_of d) row l) (entry (words_of (mem row slot)) l j)) l (row_place-lt (rows_of d) r map h2)) in
        let upper : found ≤ r + 1 = omega (arith, least.below row row_in, number row row_in) in
        omega arith)

-- what a number that was found says of the column
pub found-row : (c : ℕ → ℕ) (from m found : ℕ) → from ≤ m → m < none_number → found ≡ number_found (pivot_from c from (m - from)) → found ≢ none_number → (from ≤ found - 1) × (found - 1 < m) × (c (found - 1) ≢ 0) × ((i : ℕ) → from ≤ i → i < found - 1 → c i ≡ 0)
unfolding IsPivot
found-row c from m found h small e some = by_pivot (pivot_from c from (m - from)) (pivot_from-is c from (m - from) m (omega arith)) e
  where
    by_pivot : (o : Option ℕ) → IsPivot c from m o → found ≡ number_found o → (from ≤ found - 1) × (found - 1 < m) × (c (found - 1) ≢ 0) × ((i : ℕ) → from ≤ i → i < found - 1 → c i ≡ 0)
    by_pivot None zeros is = absurd (some is)
    by_pivot (Some r) known is =
        (let row : found - 1 ≡ r = omega arith in
        let h1 : from ≤ r = known.0 in
        let h2 : r < m = known.1 in
        (omega arith, omega arith, λ z. known.2 (ap c (sym row) ∙ z), λ i g1 g2. known.3 i g1 (omega arith)))

pub found-none : (c : ℕ → ℕ) (from m found : ℕ) → from ≤ m → m < none_number → found ≡ number_found (pivot_from c from (m - from)) → found ≡ none_number → (i : ℕ) → from ≤ i → i < m → c i ≡ 0
unfolding IsPivot
found-none c from m found h small e none = by_pivot (pivot_from c from (m - from)) (pivot_from-is c from (m - from) m (omega arith)) e
  where
    by_pivot : (o : Option ℕ) → IsPivot c from m o → found ≡ number_found o → (i : ℕ) → from ≤ i → i < m → c i ≡ 0
    by_pivot None zeros is = zeros
    by_pivot (Some r) known is = (let h2 : r < m = known.1 in absurd (omega arith))

-- what a push appends
pub push-pivots : (p : ℕ) (inverse : ℕ → ℕ) (m j : ℕ) (s : Eliminated) → j ≤ m → m < none_number → (eliminate_column p inverse m j s).pivots ≡ s.pivots ++ (pushed (number_found (pivot_from (λ i. s.words i j) j (m - j))) j ∷ [])
unfolding eliminate_column with_pivot IsPivot
push-pivots p inverse m j s h small = by_pivot (pivot_from (λ i. s.words i j) j (m - j)) (pivot_from-is (λ i. s.words i j) j (m - j) m (omega arith))
  where
    by_pivot : (o : Option ℕ) → IsPivot (λ i. s.words i j) j m o → (with_pivot p inverse j s o).pivots ≡ s.pivots ++ (pushed (number_found o) j ∷ [])
    by_pivot None zeros = refl
    by_pivot (Some r) known =
        (let h2 : r < m = known.1 in
        let t : (r + 1 == none_number) ≡ false = ne_eqb (r + 1) none_number (λ e. absurd (omega arith)) in
        rw t refl)

pub push-made : (s : Setting) (rank : ℕ) (mem : Memory) (to : Slot) (from : Piece) (p : ℕ) (inverse : ℕ → ℕ) (m j : ℕ) (e : Eliminated) → j ≤ m → m < none_number → numbers_of (mem to) ≡ e.pivots → first_number (mem (slot_of from)) ≡ number_found (pivot_from (λ i. e.words i j) j (m - j)) → made_by s rank mem (k.Push to from j) ≡ Index (eliminate_column p inverse m j e).pivots
push-made s rank mem to from p inverse m j e h small list number =
    ap (λ v. Index (v ++ (pushed (first_number (mem (slot_of from))) j ∷ []))) list ∙ ap (λ n. Index (e.pivots ++ (pushed n j ∷ []))) number ∙ ap Index (sym (push-pivots p inverse m j e h small))
