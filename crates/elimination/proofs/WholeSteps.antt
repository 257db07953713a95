-- One column of a strip, as the kernels eliminate it.
use Rattle.std.proofs.Common.{◌≡◌, ◌≢◌, List, [], ◌∷◌, ◌++◌, ℕ, ◌+◌, ◌-◌, ◌*◌, ◌%◌, ◌<◌, ◌≤◌, nat_le, refl, sym, ◌∙◌, ap, arith, inl, inr}
use Rattle.std.proofs.lemmas.Bool.{cases_lt, cases_eq}
use Rattle.std.proofs.lemmas.Bool.Decides.{nat_tests}
use Rattle.run_data.specs.declared.matrix.Part.{Part}
use Rattle.run_data.specs.Matrix.{Matrix, cols, entry, IsShaped, tabulate}
use Rattle.run_data.specs.Parts.{patched, part_of, part_entry, whole_part}
use Rattle.run_data.proofs.Matrices.{tabulate_is, tabulate-same, rows-tabulate, cols-tabulate, entry-tabulate}
use Rattle.local_blas.proofs.Eliminations.{eliminated_word-first, eliminated_word-later, first_row, with_eliminated_is}
use Rattle.local_blas.proofs.Swaps.{swapped-below}
use Rattle.local_blas.specs.Kernels.{AreWords, swapped, with_rows_swapped, with_eliminated, eliminated_word, multiplier}
use Rattle.serial_model.specs.Elimination.{exchange, divide, subtract, with_pivot, eliminate_column}
use Rattle.run_data.proofs.PartLaws.{AreWords-tabulate}
use Rattle.elimination.proofs.Info.{swapped-first}
use Rattle.elimination.proofs.Pivots.{pivot_from-none, pivot_from-some}
use Rattle.elimination.proofs.Words.{multiplier_at, column-above, column-left, column-multiplier, column-right}
use Rattle.elimination.specs.Whole.{strip_words, strip_of_words, strip_state}

pub patched_in : (at : Part) (f g : ℕ → ℕ → ℕ) (r c : ℕ) → at.r0 ≤ r → r < at.r1 → at.c0 ≤ c → c < at.c1 → patched at f g r c ≡ f r c
unfolding patched
patched_in at f g r c h1 h2 h3 h4 = grind (arith, nat_tests)

pub patched_above : (at : Part) (f g : ℕ → ℕ → ℕ) (r c : ℕ) → r < at.r0 → patched at f g r c ≡ g r c
unfolding patched
patched_above at f g r c h = grind (arith, nat_tests)

pub patched_left : (at : Part) (f g : ℕ → ℕ → ℕ) (r c : ℕ) → c < at.c0 → patched at f g r c ≡ g r c
unfolding patched
patched_left at f g r c h = grind (arith, nat_tests)

pub patched_right : (at : Part) (f g : ℕ → ℕ → ℕ) (r c : ℕ) → at.c1 ≤ c → patched at f g r c ≡ g r c
unfolding patched
patched_right at f g r c h = grind (arith, nat_tests)

-- the kernels do one column of a strip: the rows change places, and the rows below lose their multiples of the pivot's row
pub strip_step : (p : ℕ) (inverse : ℕ → ℕ) (a b row u : Matrix) (first j r : ℕ) → first + j < a.rows → j < cols a → b ≡ with_rows_swapped a (first + j) r → row ≡ part_of b (record { r0 = first + j; r1 = first + j + 1; c0 = 0; c1 = cols a }) → u ≡ with_eliminated p inverse b (nat_le (first + j + 1)) j row (whole_part row) → ((i : ℕ) → i < a.rows → swapped (first + j) r i < a.rows) → u ≡ strip_of_words a.rows (cols a) first (subtract p (first + j) (divide p inverse (first + j) (exchange (first + j) r (strip_words first a))))
strip_step p inverse a b row u first j r hd hj eb erow eu inside =
    let m = a.rows in
    let c = cols a in
    let d = first + j in
    let x : ℕ → ℕ → ℕ = exchange d r (strip_words first a) in
    let g : ℕ → ℕ → ℕ = λ i k. entry a (swapped d r i) k in
    let b_rows : b.rows ≡ m = ap (λ a. a.rows) eb ∙ rows-tabulate m c g in
    let b_cols : cols b ≡ c = ap cols eb ∙ cols-tabulate m c g in
    let line : ℕ → ℕ = part_entry row (whole_part row) 0 in
    let below : Part = record { r0 = d + 1; r1 = m; c0 = j; c1 = c } in
    let f : ℕ → ℕ → ℕ = patched below (eliminated_word p inverse b j line) (entry b) in
    let u_is : u ≡ tabulate m c f =
    eu ∙ sym (with_eliminated_is p inverse b (d + 1) j row (whole_part row)) ∙ ap (λ k. tabulate k (cols b) (patched (record { r0 = d + 1; r1 = k; c0 = j; c1 = cols b }) (eliminated_word p inverse b j line) (entry b))) b_rows
    ∙ ap (λ k. tabulate m k (patched (record { r0 = d + 1; r1 = m; c0 = j; c1 = k }) (eliminated_word p inverse b j line) (entry b))) b_cols in
    let word : (i k : ℕ) → i < m → k < c → entry b i k ≡ x i (first + k) =
    λ i k hi hk. ap (λ a. entry a i k) eb ∙ entry-tabulate m c g i k hi hk ∙ ap (entry a (swapped d r i)) (let e : k ≡ first + k - first = omega arith in e) in
    let row_word : (k : ℕ) → k < c → line k ≡ x d (first + k) =
    λ k hk. first_row row k ∙ ap (λ a. entry a 0 k) erow ∙ entry-tabulate (d + 1 - d) (c - 0) (λ i j. entry b (d + i) (0 + j)) 0 k (omega arith) (omega arith)
    ∙ ap (λ n. entry b n (0 + k)) (let e : d + 0 ≡ d = omega arith in e) ∙ ap (entry b d) (let e : 0 + k ≡ k = omega arith in e) ∙ word d k hd hk in
    let times : (i : ℕ) → i < m → multiplier p inverse b j (line j) i ≡ multiplier_at p inverse d x i =
    λ i hi. ap (λ n. (n * inverse (line j)) % p) (word i j hi hj) ∙ ap (λ n. (x i d * inverse n) % p) (row_word j hj) in
    let all : (i k : ℕ) → i < m → k < c → f i k ≡ subtract p d (divide p inverse d x) i (first + k) =
    λ i k hi hk. elim (cases_lt d i) [
      | inr above ↦ patched_above below (eliminated_word p inverse b j line) (entry b) i k (omega arith) ∙ word i k hi hk ∙ sym (column-above p inverse d x i (first + k) above)
      | inl under ↦
          (elim (cases_lt k j) [
            | inl left ↦ patched_left below (eliminated_word p inverse b j line) (entry b) i k left ∙ word i k hi hk ∙ sym (column-left p inverse d x i (first + k) (omega arith))
            | inr from ↦
                patched_in below (eliminated_word p inverse b j line) (entry b) i k (omega arith) hi from hk
                ∙ (elim (cases_eq k j) [
                  | inl here ↦ ap (eliminated_word p inverse b j line i) here ∙ eliminated_word-first p inverse b j line i ∙ times i hi ∙ sym (column-multiplier p inverse d x i under) ∙ ap (λ n. subtract p d (divide p inverse d x) i (first + n)) (sym here)
                  | inr other ↦
                      eliminated_word-later p inverse b j line i k (omega arith) ∙ ap (λ n. (n + (p - 1) * (multiplier p inverse b j (line j) i * line k)) % p) (word i k hi hk)
                      ∙ ap (λ n. (x i (first + k) + (p - 1) * (n * line k)) % p) (times i hi) ∙ ap (λ n. (x i (first + k) + (p - 1) * (multiplier_at p inverse d x i * n)) % p) (row_word k hk)
                      ∙ sym (column-right p inverse d x i (first + k) under (omega arith))
                ])
          ])
    ] in
    u_is ∙ tabulate-same m c f (λ i k. subtract p d (divide p inverse d x) i (first + k)) all

-- the column of the strip, as a column of the whole
strip_column : (first j : ℕ) (a : Matrix) (i : ℕ) → strip_words first a i (first + j) ≡ entry a i j
strip_column first j a i = ap (entry a i) (let e : first + j - first ≡ j = omega arith in e)

-- what a column without a pivot leaves
pub column_none : (p : ℕ) (inverse : ℕ → ℕ) (first j : ℕ) (a : Matrix) (v : List ℕ) → first + j < a.rows → ((i : ℕ) → first + j ≤ i → i < a.rows → entry a i j ≡ 0) → eliminate_column p inverse a.rows (first + j) (strip_state first a v) ≡ record { words = strip_words first a; pivots = v ++ ((first + j + 1) ∷ []); info = first + j + 1 }
unfolding eliminate_column with_pivot
column_none p inverse first j a v h none =
    ap (with_pivot p inverse (first + j) (strip_state first a v)) (pivot_from-none (λ i. strip_words first a i (first + j)) (first + j) (a.rows - (first + j)) (λ k h1 h2. strip_column first j a k ∙ none k h1 (omega arith)))

-- what one with the pivot's row r leaves
pub column_some : (p : ℕ) (inverse : ℕ → ℕ) (first j r : ℕ) (a : Matrix) (v : List ℕ) → first + j ≤ r → r < a.rows → entry a r j ≢ 0 → ((i : ℕ) → first + j ≤ i → i < r → entry a i j ≡ 0) → eliminate_column p inverse a.rows (first + j) (strip_state first a v) ≡ record { words = subtract p (first + j) (divide p inverse (first + j) (exchange (first + j) r (strip_words first a))); pivots = v ++ ((r + 1) ∷ []); info = 0 }
unfolding eliminate_column with_pivot
column_some p inverse first j r a v h1 h2 nonzero before =
    ap (with_pivot p inverse (first + j) (strip_state first a v)) (pivot_from-some (λ i. strip_words first a i (first + j)) (first + j) (a.rows - (first + j)) r h1 (omega arith)
    (λ e. nonzero (sym (strip_column first j a r) ∙ e)) (λ k g1 g2. strip_column first j a k ∙ before k g1 g2))

pub strip_stays : (first : ℕ) (a : Matrix) → IsShaped a → a ≡ strip_of_words a.rows (cols a) first (strip_words first a)
strip_stays first a shaped =
    tabulate_is a a.rows (cols a) (λ i k. strip_words first a i (first + k)) shaped refl refl (λ i k _ _. sym (strip_column first k a i))

pub rows_after_swap : (a b : Matrix) (d r : ℕ) → b ≡ with_rows_swapped a d r → b.rows ≡ a.rows
rows_after_swap a b d r e = ap (λ a. a.rows) e ∙ rows-tabulate a.rows (cols a) (λ i k. entry a (swapped d r i) k)

pub cols_after_swap : (a b : Matrix) (d r : ℕ) → b ≡ with_rows_swapped a d r → cols b ≡ cols a
cols_after_swap a b d r e = ap cols e ∙ cols-tabulate a.rows (cols a) (λ i k. entry a (swapped d r i) k)

pub words_after_swap : (p : ℕ) (a b : Matrix) (d r : ℕ) → AreWords p a → b ≡ with_rows_swapped a d r → AreWords p b
words_after_swap p a b d r words e =
    rw e (AreWords-tabulate p a.rows (cols a) (λ i k. entry a (swapped d r i) k) (omega (arith, words.below 0 0)) (λ i k _ _. words.below (swapped d r i) k))

pub pivot_word : (a b row : Matrix) (d r n j : ℕ) → b ≡ with_rows_swapped a d r → row ≡ part_of b (record { r0 = d; r1 = d + 1; c0 = 0; c1 = n }) → n ≡ cols a → d < a.rows → j < cols a → entry row 0 j ≡ entry a r j
pivot_word a b row d r n j eb erow en hd hj =
    ap (λ a. entry a 0 j) erow ∙ entry-tabulate (d + 1 - d) (n - 0) (λ i j. entry b (d + i) (0 + j)) 0 j (omega arith) (omega arith)
    ∙ ap (λ n. entry b n (0 + j)) (let e : d + 0 ≡ d = omega arith in e) ∙ ap (entry b d) (let e : 0 + j ≡ j = omega arith in e)
    ∙ ap (λ a. entry a d j) eb ∙ entry-tabulate a.rows (cols a) (λ i k. entry a (swapped d r i) k) d j hd hj ∙ ap (λ i. entry a i j) (swapped-first d r)

-- a column without a pivot, and one with the pivot's row r, as the kernels do them
pub none_matrix : (p : ℕ) (inverse : ℕ → ℕ) (first j : ℕ) (a : Matrix) (v : List ℕ) → IsShaped a → first + j < a.rows → ((i : ℕ) → first + j ≤ i → i < a.rows → entry a i j ≡ 0) → a ≡ strip_of_words a.rows (cols a) first (eliminate_column p inverse a.rows (first + j) (strip_state first a v)).words
none_matrix p inverse first j a v shaped h none = strip_stays first a shaped ∙ ap (λ s. strip_of_words a.rows (cols a) first s.words) (sym (column_none p inverse first j a v h none))

pub none_list : (p : ℕ) (inverse : ℕ → ℕ) (first j : ℕ) (a : Matrix) (v : List ℕ) → first + j < a.rows → ((i : ℕ) → first + j ≤ i → i < a.rows → entry a i j ≡ 0) → v ++ ((first + j + 1) ∷ []) ≡ (eliminate_column p inverse a.rows (first + j) (strip_state first a v)).pivots
none_list p inverse first j a v h none = ap (λ s. s.pivots) (sym (column_none p inverse first j a v h none))

pub some_matrix : (p : ℕ) (inverse : ℕ → ℕ) (first j r n : ℕ) (a b row u : Matrix) (v : List ℕ) → first + j < a.rows → j < cols a → n ≡ cols a → b ≡ with_rows_swapped a (first + j) r → row ≡ part_of b (record { r0 = first + j; r1 = first + j + 1; c0 = 0; c1 = n }) → u ≡ with_eliminated p inverse b (nat_le (first + j + 1)) j row (whole_part row) → first + j ≤ r → r < a.rows → entry a r j ≢ 0 → ((i : ℕ) → first + j ≤ i → i < r → entry a i j ≡ 0) → u ≡ strip_of_words a.rows (cols a) first (eliminate_column p inverse a.rows (first + j) (strip_state first a v)).words
some_matrix p inverse first j r n a b row u v hd hj en eb erow eu h1 h2 nonzero before =
    strip_step p inverse a b row u first j r hd hj eb (erow ∙ ap (λ n. part_of b (record { r0 = first + j; r1 = first + j + 1; c0 = 0; c1 = n })) en) eu (λ i hi. swapped-below (first + j) r i a.rows hd h2 hi)
    ∙ ap (λ s. strip_of_words a.rows (cols a) first s.words) (sym (column_some p inverse first j r a v h1 h2 nonzero before))

pub some_list : (p : ℕ) (inverse : ℕ → ℕ) (first j r : ℕ) (a : Matrix) (v : List ℕ) → first + j ≤ r → r < a.rows → entry a r j ≢ 0 → ((i : ℕ) → first + j ≤ i → i < r → entry a i j ≡ 0) → v ++ ((r + 1) ∷ []) ≡ (eliminate_column p inverse a.rows (first + j) (strip_state first a v)).pivots
some_list p inverse first j r a v h1 h2 nonzero before = ap (λ s. s.pivots) (sym (column_some p inverse first j r a v h1 h2 nonzero before))
