-- Loops that write the words of a part one after another, each word once: columns in order, and each column from its first row down or from its last row up.
use Rattle.std.proofs.Common.{◌≡◌, ℕ, ◌+◌, ◌-◌, ◌<◌, ◌≤◌, ◌==◌, ◌&&◌, ◌||◌, nat_lt, nat_le, Bool, true, false, if◌then◌else◌, refl, sym, ◌∙◌, ap, arith}
use Rattle.std.proofs.lemmas.Bool.Decides.{nat_tests}
use Rattle.run_data.specs.declared.matrix.Part.{Part}
use Rattle.run_data.specs.Matrix.{Matrix, cols, entry, IsShaped, AreWords, tabulate, with_entry}
use Rattle.run_data.specs.Parts.{IsWithin, in_part, patched, with_part}
use Rattle.run_data.proofs.Matrices.{tabulate_is, tabulate-same, rows-tabulate, cols-tabulate, entry-tabulate}
use Rattle.run_data.proofs.PartLaws.{AreWords-tabulate}

-- the words f at the places of the part that are done, and g elsewhere
unfoldable pub filled : Part → (ℕ → ℕ → Bool) → (ℕ → ℕ → ℕ) → (ℕ → ℕ → ℕ) → ℕ → ℕ → ℕ
filled at done f g r c = if in_part at r c && done r c then f r c else g r c

-- the matrix with the words f at the places of the part that are done
abbrev pub with_done : Matrix → Part → (ℕ → ℕ → Bool) → (ℕ → ℕ → ℕ) → Matrix
with_done a at done f = tabulate a.rows (cols a) (filled at done f (entry a))

-- going down: the columns before j are done, and of column j the rows above i
abbrev pub is_passed_down : ℕ → ℕ → ℕ → ℕ → Bool
is_passed_down i j r c = nat_lt c j || ((c == j) && nat_lt r i)

-- going up: the columns before j are done, and of column j the rows from i on
abbrev pub is_passed_up : ℕ → ℕ → ℕ → ℕ → Bool
is_passed_up i j r c = nat_lt c j || ((c == j) && nat_le i r)

-- the matrix with the words f in the part, as far as a loop that goes down has come
abbrev pub with_filled : Matrix → Part → (ℕ → ℕ → ℕ) → ℕ → ℕ → Matrix
with_filled a at f i j = with_done a at (is_passed_down i j) f

-- the same of a loop that goes up
abbrev pub with_filled_up : Matrix → Part → (ℕ → ℕ → ℕ) → ℕ → ℕ → Matrix
with_filled_up a at f i j = with_done a at (is_passed_up i j) f

filled-same : (at : Part) (done done' : ℕ → ℕ → Bool) (f g : ℕ → ℕ → ℕ) (r c : ℕ) → (at.r0 ≤ r → r < at.r1 → at.c0 ≤ c → c < at.c1 → done r c ≡ done' r c) → filled at done f g r c ≡ filled at done' f g r c
unfolding filled
filled-same at done done' f g r c same = grind (arith, nat_tests)

filled-never : (at : Part) (f g : ℕ → ℕ → ℕ) (r c : ℕ) → filled at (λ r c. false) f g r c ≡ g r c
unfolding filled
filled-never at f g r c = grind (arith, nat_tests)

filled-always : (at : Part) (f g : ℕ → ℕ → ℕ) (r c : ℕ) → filled at (λ r c. true) f g r c ≡ patched at f g r c
unfolding filled patched
filled-always at f g r c = grind (arith, nat_tests)

filled-more : (at : Part) (done : ℕ → ℕ → Bool) (f g : ℕ → ℕ → ℕ) (i j x r c : ℕ) → at.r0 ≤ i → i < at.r1 → at.c0 ≤ j → j < at.c1 → x ≡ f i j → (if (r == i) && (c == j) then x else filled at done f g r c) ≡ filled at (λ r c. done r c || ((r == i) && (c == j))) f g r c
unfolding filled
filled-more at done f g i j x r c h1 h2 h3 h4 e = grind (arith, nat_tests)

filled-done : (at : Part) (done : ℕ → ℕ → Bool) (f g : ℕ → ℕ → ℕ) (r c : ℕ) → at.r0 ≤ r → r < at.r1 → at.c0 ≤ c → c < at.c1 → done r c ≡ true → filled at done f g r c ≡ f r c
unfolding filled
filled-done at done f g r c h1 h2 h3 h4 e = grind (arith, nat_tests)

filled-left : (at : Part) (done : ℕ → ℕ → Bool) (f g : ℕ → ℕ → ℕ) (r c : ℕ) → done r c ≡ false → filled at done f g r c ≡ g r c
unfolding filled
filled-left at done f g r c e = grind (arith, nat_tests)

filled-below : (p : ℕ) (at : Part) (done : ℕ → ℕ → Bool) (f g : ℕ → ℕ → ℕ) (r c : ℕ) → f r c < p → g r c < p → filled at done f g r c < p
unfolding filled
filled-below p at done f g r c hf hg = grind (arith, nat_tests)

pub rows-with_done : (a : Matrix) (at : Part) (done : ℕ → ℕ → Bool) (f : ℕ → ℕ → ℕ) → (with_done a at done f).rows ≡ a.rows
rows-with_done a at done f = rows-tabulate a.rows (cols a) (filled at done f (entry a))

pub cols-with_done : (a : Matrix) (at : Part) (done : ℕ → ℕ → Bool) (f : ℕ → ℕ → ℕ) → cols (with_done a at done f) ≡ cols a
cols-with_done a at done f = cols-tabulate a.rows (cols a) (filled at done f (entry a))

-- the shape of a matrix that is being filled
pub ruleset fills = (rows-with_done, cols-with_done)

-- two tests of places agree in the part
abbrev AgreeIn : Part → (ℕ → ℕ → Bool) → (ℕ → ℕ → Bool) → Type 0
AgreeIn at done done' = (r c : ℕ) → at.r0 ≤ r → r < at.r1 → at.c0 ≤ c → c < at.c1 → done r c ≡ done' r c

with_done-same : (a : Matrix) (at : Part) (done done' : ℕ → ℕ → Bool) (f : ℕ → ℕ → ℕ) → AgreeIn at done done' → with_done a at done f ≡ with_done a at done' f
with_done-same a at done done' f same =
    tabulate-same a.rows (cols a) (filled at done f (entry a)) (filled at done' f (entry a)) (λ r c _ _. filled-same at done done' f (entry a) r c (same r c))

with_done-never : (a : Matrix) (at : Part) (f : ℕ → ℕ → ℕ) → IsShaped a → a ≡ with_done a at (λ r c. false) f
with_done-never a at f shaped =
    tabulate_is a a.rows (cols a) (filled at (λ r c. false) f (entry a)) shaped refl refl (λ r c _ _. sym (filled-never at f (entry a) r c))

with_done-always : (a : Matrix) (at : Part) (f : ℕ → ℕ → ℕ) → with_done a at (λ r c. true) f ≡ with_part a at f
with_done-always a at f =
    tabulate-same a.rows (cols a) (filled at (λ r c. true) f (entry a)) (patched at f (entry a)) (λ r c _ _. filled-always at f (entry a) r c)

with_done-more : (a : Matrix) (at : Part) (done : ℕ → ℕ → Bool) (f : ℕ → ℕ → ℕ) (i j x : ℕ) → at.r0 ≤ i → i < at.r1 → at.c0 ≤ j → j < at.c1 → x ≡ f i j → with_entry (with_done a at done f) i j x ≡ with_done a at (λ r c. done r c || ((r == i) && (c == j))) f
with_done-more a at done f i j x h1 h2 h3 h4 e =
    let b : Matrix = with_done a at done f in
    let g : ℕ → ℕ → ℕ = λ r c. if (r == i) && (c == j) then x else entry b r c in
    ap (λ k. tabulate k (cols b) g) (rows-with_done a at done f) ∙ ap (λ k. tabulate a.rows k g) (cols-with_done a at done f)
    ∙ tabulate-same a.rows (cols a) g (filled at (λ r c. done r c || ((r == i) && (c == j))) f (entry a))
    (λ r c hr hc. ap (λ v. if (r == i) && (c == j) then x else v) (entry-tabulate a.rows (cols a) (filled at done f (entry a)) r c hr hc)
    ∙ filled-more at done f (entry a) i j x r c h1 h2 h3 h4 e)

-- a place that is done has the new word
entry-with_done : (a : Matrix) (at : Part) (done : ℕ → ℕ → Bool) (f : ℕ → ℕ → ℕ) (r c : ℕ) → IsWithin at a → at.r0 ≤ r → r < at.r1 → at.c0 ≤ c → c < at.c1 → done r c ≡ true → entry (with_done a at done f) r c ≡ f r c
entry-with_done a at done f r c within h1 h2 h3 h4 e =
    entry-tabulate a.rows (cols a) (filled at done f (entry a)) r c (omega (arith, within.rows_end)) (omega (arith, within.columns_end)) ∙ filled-done at done f (entry a) r c h1 h2 h3 h4 e

-- a place that is left has the old one
entry-with_done_left : (a : Matrix) (at : Part) (done : ℕ → ℕ → Bool) (f : ℕ → ℕ → ℕ) (r c : ℕ) → IsWithin at a → r < at.r1 → c < at.c1 → done r c ≡ false → entry (with_done a at done f) r c ≡ entry a r c
entry-with_done_left a at done f r c within h2 h4 e =
    entry-tabulate a.rows (cols a) (filled at done f (entry a)) r c (omega (arith, within.rows_end)) (omega (arith, within.columns_end)) ∙ filled-left at done f (entry a) r c e

-- words stay words while a part is filled
pub AreWords-with_done : (p : ℕ) (a : Matrix) (at : Part) (done : ℕ → ℕ → Bool) (f : ℕ → ℕ → ℕ) → 0 < p → AreWords p a → ((r c : ℕ) → f r c < p) → AreWords p (with_done a at done f)
AreWords-with_done p a at done f pos_p words small =
    AreWords-tabulate p a.rows (cols a) (filled at done f (entry a)) pos_p (λ r c _ _. filled-below p at done f (entry a) r c (small r c) (words.below r c))

-- before the first word
pub fill_starts : (a : Matrix) (at : Part) (f : ℕ → ℕ → ℕ) → IsShaped a → a ≡ with_filled a at f at.r0 at.c0
fill_starts a at f shaped =
    with_done-never a at f shaped ∙ with_done-same a at (λ r c. false) (is_passed_down at.r0 at.c0) f (λ r c h1 h2 h3 h4. grind (arith, nat_tests))

-- one word more
pub fill_goes_on : (a b b' : Matrix) (at : Part) (f : ℕ → ℕ → ℕ) (i j x : ℕ) → b ≡ with_filled a at f i j → b' ≡ with_entry b i j x → at.r0 ≤ i → i < at.r1 → at.c0 ≤ j → j < at.c1 → x ≡ f i j → b' ≡ with_filled a at f (i + 1) j
fill_goes_on a b b' at f i j x e e' h1 h2 h3 h4 is =
    e' ∙ ap (λ m. with_entry m i j x) e ∙ with_done-more a at (is_passed_down i j) f i j x h1 h2 h3 h4 is
    ∙ with_done-same a at (λ r c. is_passed_down i j r c || ((r == i) && (c == j))) (is_passed_down (i + 1) j) f (λ r c h5 h6 h7 h8. grind (arith, nat_tests))

-- a column is done
pub fill_ends_column : (a : Matrix) (at : Part) (f : ℕ → ℕ → ℕ) (i j : ℕ) → at.r1 ≤ i → with_filled a at f i j ≡ with_filled a at f at.r0 (j + 1)
fill_ends_column a at f i j h = with_done-same a at (is_passed_down i j) (is_passed_down at.r0 (j + 1)) f (λ r c h5 h6 h7 h8. grind (arith, nat_tests))

-- after the last word
pub fill_ends : (a : Matrix) (at : Part) (f : ℕ → ℕ → ℕ) (i j : ℕ) → at.c1 ≤ j → with_filled a at f i j ≡ with_part a at f
fill_ends a at f i j h = with_done-same a at (is_passed_down i j) (λ r c. true) f (λ r c h5 h6 h7 h8. grind (arith, nat_tests)) ∙ with_done-always a at f

-- the word at the place that comes next is the old one
pub fill_reads_next : (a b : Matrix) (at : Part) (f : ℕ → ℕ → ℕ) (i j y : ℕ) → b ≡ with_filled a at f i j → y ≡ entry b i j → IsWithin at a → i < at.r1 → j < at.c1 → y ≡ entry a i j
fill_reads_next a b at f i j y e is within h2 h4 =
    is ∙ ap (λ m. entry m i j) e ∙ entry-with_done_left a at (is_passed_down i j) f i j within h2 h4 (let t : is_passed_down i j i j ≡ false = grind (arith, nat_tests) in t)

-- a word further up in the same column is the new one
pub fill_reads_above : (a b : Matrix) (at : Part) (f : ℕ → ℕ → ℕ) (i j r y : ℕ) → b ≡ with_filled a at f i j → y ≡ entry b r j → IsWithin at a → at.r0 ≤ r → r < i → i ≤ at.r1 → at.c0 ≤ j → j < at.c1 → y ≡ f r j
fill_reads_above a b at f i j r y e is within h1 h2 h3 h4 h5 =
    is ∙ ap (λ m. entry m r j) e ∙ entry-with_done a at (is_passed_down i j) f r j within h1 (omega arith) h4 h5 (let t : is_passed_down i j r j ≡ true = grind (arith, nat_tests) in t)

-- a word of an earlier column is the new one
pub fill_reads_before : (a b : Matrix) (at : Part) (f : ℕ → ℕ → ℕ) (i j r c y : ℕ) → b ≡ with_filled a at f i j → y ≡ entry b r c → IsWithin at a → at.r0 ≤ r → r < at.r1 → at.c0 ≤ c → c < j → j ≤ at.c1 → y ≡ f r c
fill_reads_before a b at f i j r c y e is within h1 h2 h3 h4 h5 =
    is ∙ ap (λ m. entry m r c) e ∙ entry-with_done a at (is_passed_down i j) f r c within h1 h2 h3 (omega arith) (let t : is_passed_down i j r c ≡ true = grind (arith, nat_tests) in t)

-- going up: before the first word
pub fill_up_starts : (a : Matrix) (at : Part) (f : ℕ → ℕ → ℕ) → IsShaped a → a ≡ with_filled_up a at f at.r1 at.c0
fill_up_starts a at f shaped =
    with_done-never a at f shaped ∙ with_done-same a at (λ r c. false) (is_passed_up at.r1 at.c0) f (λ r c h1 h2 h3 h4. grind (arith, nat_tests))

-- going up: one word more, that of row i - 1
pub fill_up_goes_on : (a b b' : Matrix) (at : Part) (f : ℕ → ℕ → ℕ) (i j x : ℕ) → b ≡ with_filled_up a at f i j → b' ≡ with_entry b (i - 1) j x → at.r0 < i → i ≤ at.r1 → at.c0 ≤ j → j < at.c1 → x ≡ f (i - 1) j → b' ≡ with_filled_up a at f (i - 1) j
fill_up_goes_on a b b' at f i j x e e' h1 h2 h3 h4 is =
    e' ∙ ap (λ m. with_entry m (i - 1) j x) e ∙ with_done-more a at (is_passed_up i j) f (i - 1) j x (omega arith) (omega arith) h3 h4 is
    ∙ with_done-same a at (λ r c. is_passed_up i j r c || ((r == i - 1) && (c == j))) (is_passed_up (i - 1) j) f (λ r c h5 h6 h7 h8. grind (arith, nat_tests))

-- going up: a column is done
pub fill_up_ends_column : (a : Matrix) (at : Part) (f : ℕ → ℕ → ℕ) (i j : ℕ) → i ≤ at.r0 → with_filled_up a at f i j ≡ with_filled_up a at f at.r1 (j + 1)
fill_up_ends_column a at f i j h = with_done-same a at (is_passed_up i j) (is_passed_up at.r1 (j + 1)) f (λ r c h5 h6 h7 h8. grind (arith, nat_tests))

-- going up: after the last word
pub fill_up_ends : (a : Matrix) (at : Part) (f : ℕ → ℕ → ℕ) (i j : ℕ) → at.c1 ≤ j → with_filled_up a at f i j ≡ with_part a at f
fill_up_ends a at f i j h = with_done-same a at (is_passed_up i j) (λ r c. true) f (λ r c h5 h6 h7 h8. grind (arith, nat_tests)) ∙ with_done-always a at f

-- going up: the word at the place that comes next is the old one
pub fill_up_reads_next : (a b : Matrix) (at : Part) (f : ℕ → ℕ → ℕ) (i j y : ℕ) → b ≡ with_filled_up a at f i j → y ≡ entry b (i - 1) j → IsWithin at a → at.r0 < i → i ≤ at.r1 → j < at.c1 → y ≡ entry a (i - 1) j
fill_up_reads_next a b at f i j y e is within h1 h2 h4 =
    is ∙ ap (λ m. entry m (i - 1) j) e ∙ entry-with_done_left a at (is_passed_up i j) f (i - 1) j within (omega arith) h4 (let t : is_passed_up i j (i - 1) j ≡ false = grind (arith, nat_tests) in t)

-- going up: a word further down in the same column is the new one
pub fill_up_reads_below : (a b : Matrix) (at : Part) (f : ℕ → ℕ → ℕ) (i j r y : ℕ) → b ≡ with_filled_up a at f i j → y ≡ entry b r j → IsWithin at a → at.r0 ≤ i → i ≤ r → r < at.r1 → at.c0 ≤ j → j < at.c1 → y ≡ f r j
fill_up_reads_below a b at f i j r y e is within h1 h2 h3 h4 h5 =
    is ∙ ap (λ m. entry m r j) e ∙ entry-with_done a at (is_passed_up i j) f r j within (omega arith) h3 h4 h5 (let t : is_passed_up i j r j ≡ true = grind (arith, nat_tests) in t)

-- all of a matrix of m rows and n columns
abbrev pub all_of : ℕ → ℕ → Part
all_of m n = record { r0 = 0; r1 = m; c0 = 0; c1 = n }

patched-all_of : (m n : ℕ) (f g : ℕ → ℕ → ℕ) (r c : ℕ) → r < m → c < n → patched (all_of m n) f g r c ≡ f r c
unfolding patched
patched-all_of m n f g r c hr hc = grind (arith, nat_tests)

-- a matrix all of whose words were written
pub with_part-all_of : (m n : ℕ) (f g : ℕ → ℕ → ℕ) → with_part (tabulate m n g) (all_of m n) f ≡ tabulate m n f
with_part-all_of m n f g =
    let a : Matrix = tabulate m n g in
    ap (λ k. tabulate k (cols a) (patched (all_of m n) f (entry a))) (rows-tabulate m n g)
    ∙ ap (λ k. tabulate m k (patched (all_of m n) f (entry a))) (cols-tabulate m n g)
    ∙ tabulate-same m n (patched (all_of m n) f (entry a)) f (λ r c hr hc. patched-all_of m n f (entry a) r c hr hc)
