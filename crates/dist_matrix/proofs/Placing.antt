-- What a loop that places a strip has written: local row after local row of one column after another.
use Rattle.std.proofs.Common.{◌≡◌, ◌≢◌, ℕ, ◌+◌, ◌-◌, ◌*◌, ◌<◌, ◌≤◌, ◌==◌, ◌&&◌, min, Bool, true, false, if◌then◌else◌, refl, sym, ◌∙◌, ap, subst, arith, eq-eqb}
use Rattle.std.proofs.Math.Nat.{mod-lt}
use Rattle.std.proofs.lemmas.Bool.{and_parts, and_from, eqb-true}
use Rattle.std.proofs.lemmas.Bool.Decides.{nat_tests}
use Rattle.run_data.specs.Matrix.{Matrix, cols, entry, IsShaped, tabulate, with_entry}
use Rattle.run_data.proofs.Matrices.{rows-tabulate, cols-tabulate, entry-tabulate, tabulate_is, tabulate-same}
use Rattle.run_data.proofs.Fills.{is_passed_down}
use Rattle.array_desc.specs.Maps.{local}
use Rattle.blacs_grid.specs.Places.{row_of, col_of}
use Rattle.rank_machine.specs.declared.layout.Layout.{Layout}
use Rattle.rank_machine.specs.Setting.{strip_rows, block_at, global_row, global_col}
use Rattle.dist_matrix.specs.Strips.{HasShape, NamesStrip, holds_entry, word_in_strip, with_strip}
use Rattle.script_lines.specs.Layouts.{IsLayout}
use Rattle.dist_matrix.proofs.EntryLaws.{some_block_column, row-from_local, local-below, column-from_local, holds_entry-at, local-global_row, word_in_strip-at}

-- whether an entry lies in the strip and was passed by a loop that stands at local row i of column j
abbrev pub is_placed : Layout → ℕ → ℕ → ℕ → ℕ → ℕ → ℕ → Bool
is_placed d rank group i j r c = holds_entry d rank group r c && is_passed_down i j (local r d.desc.mb d.grid.p) c

-- the matrix as far as the loop has come
abbrev pub with_placed : Layout → Matrix → ℕ → ℕ → Matrix → ℕ → ℕ → Matrix
with_placed d out rank group s i j = tabulate out.rows (cols out) (λ r c. if is_placed d rank group i j r c then word_in_strip d s r c else entry out r c)

-- ---- one word
kept : (holds passed : Bool) (x y : ℕ) → (holds ≡ true → passed ≡ false) → y ≡ (if holds && passed then x else y)
kept true passed x y never = rw (never refl) refl
kept false passed x y never = refl

agreed : (holds passed passed' : Bool) (x y : ℕ) → (holds ≡ true → passed ≡ passed') → (if holds && passed then x else y) ≡ (if holds && passed' then x else y)
agreed true passed passed' x y same = rw (same refl) refl
agreed false passed passed' x y same = refl

written : (holds passed : Bool) (x y : ℕ) → (holds ≡ true → passed ≡ true) → (if holds && passed then x else y) ≡ (if holds then x else y)
written true passed x y all = rw (all refl) refl
written false passed x y all = refl

next_word : (here holds passed passed' : Bool) (x w y : ℕ) → (here ≡ true → holds ≡ true) → (here ≡ true → passed' ≡ true) → (here ≡ true → w ≡ x) → (holds ≡ true → here ≡ false → passed ≡ passed')
    → (if here then x else (if holds && passed then w else y)) ≡ (if holds && passed' then w else y)
next_word true holds passed passed' x w y held done word same = rw (held refl, done refl) (sym (word refl))
next_word false true passed passed' x w y held done word same = rw (same refl refl) refl
next_word false false passed passed' x w y held done word same = refl

-- at the place that is written, and at any other
passed_more : (i j l c : ℕ) → (c ≡ j → l ≢ i) → is_passed_down i j l c ≡ is_passed_down (i + 1) j l c
passed_more i j l c other = grind (arith, nat_tests)

passed_here : (i j l c : ℕ) → c ≡ j → l ≡ i → is_passed_down (i + 1) j l c ≡ true
passed_here i j l c column row = grind (arith, nat_tests)

passed_column : (i j l c : ℕ) → l < i → is_passed_down i j l c ≡ is_passed_down 0 (j + 1) l c
passed_column i j l c below = grind (arith, nat_tests)

passed_none : (j l c : ℕ) → j ≤ c → is_passed_down 0 j l c ≡ false
passed_none j l c after = grind (arith, nat_tests)

passed_all : (j l c : ℕ) → c < j → is_passed_down 0 j l c ≡ true
passed_all j l c before = grind (arith, nat_tests)

-- the columns of a strip
first_column : (d : Layout) (rank group r c : ℕ) → IsLayout d → holds_entry d rank group r c ≡ true → block_at d group (col_of d.grid rank) * d.desc.nb ≤ c
first_column d rank group r c is holds = omega (arith, column-from_local d rank group r c is holds)

last_column : (d : Layout) (rank group r c columns : ℕ) → IsLayout d → holds_entry d rank group r c ≡ true → c < d.desc.n
    → columns ≡ min (d.desc.n - block_at d group (col_of d.grid rank) * d.desc.nb) d.desc.nb → c < block_at d group (col_of d.grid rank) * d.desc.nb + columns
last_column d rank group r c columns is holds inside width =
    omega (arith, column-from_local d rank group r c is holds, mod-lt c (some_block_column d is))

-- ---- the loop
pub rows-with_placed : (d : Layout) (out : Matrix) (rank group : ℕ) (s : Matrix) (i j : ℕ) → (with_placed d out rank group s i j).rows ≡ out.rows
rows-with_placed d out rank group s i j = rows-tabulate out.rows (cols out) (λ r c. if is_placed d rank group i j r c then word_in_strip d s r c else entry out r c)

pub cols-with_placed : (d : Layout) (out : Matrix) (rank group : ℕ) (s : Matrix) (i j : ℕ) → cols (with_placed d out rank group s i j) ≡ cols out
cols-with_placed d out rank group s i j = cols-tabulate out.rows (cols out) (λ r c. if is_placed d rank group i j r c then word_in_strip d s r c else entry out r c)

-- before the first word
pub place_starts : (d : Layout) (out : Matrix) (rank group : ℕ) (s : Matrix) (j : ℕ) → IsLayout d → IsShaped out → j ≡ block_at d group (col_of d.grid rank) * d.desc.nb
    → out ≡ with_placed d out rank group s 0 j
place_starts d out rank group s j is shaped first =
    tabulate_is out out.rows (cols out) (λ r c. if is_placed d rank group 0 j r c then word_in_strip d s r c else entry out r c) shaped refl refl
    (λ r c _ _. kept (holds_entry d rank group r c) (is_passed_down 0 j (local r d.desc.mb d.grid.p) c) (word_in_strip d s r c) (entry out r c)
    (λ holds. passed_none j (local r d.desc.mb d.grid.p) c (omega (arith, first, first_column d rank group r c is holds))))

-- one word more
placed-word : (d : Layout) (s : Matrix) (rank group i k r c x y : ℕ) → IsLayout d → NamesStrip d rank group → k < d.desc.nb → x ≡ entry s i k
    → (if (r == global_row d rank i) && (c == global_col d (block_at d group (col_of d.grid rank)) k) then x else (if is_placed d rank group i (global_col d (block_at d group (col_of d.grid rank)) k) r c then word_in_strip d s r c else y))
    ≡ (if is_placed d rank group (i + 1) (global_col d (block_at d group (col_of d.grid rank)) k) r c then word_in_strip d s r c else y)
placed-word d s rank group i k r c x y is names inside word =
    let block = block_at d group (col_of d.grid rank) in
    let row = global_row d rank i in
    let column = global_col d block k in
    let l = local r d.desc.mb d.grid.p in
    let here : Bool = (r == row) && (c == column) in
    let row_is : here ≡ true → r ≡ row = λ e. eqb-true r row (and_parts (r == row) (c == column) e).0 in
    let column_is : here ≡ true → c ≡ column = λ e. eqb-true c column (and_parts (r == row) (c == column) e).1 in
    next_word here (holds_entry d rank group r c) (is_passed_down i column l c) (is_passed_down (i + 1) column l c) x (word_in_strip d s r c) y
    (λ e. ap (λ r. holds_entry d rank group r c) (row_is e) ∙ ap (λ c. holds_entry d rank group row c) (column_is e) ∙ holds_entry-at d rank group i k is names inside)
    (λ e. passed_here i column l c (column_is e) (ap (λ r. local r d.desc.mb d.grid.p) (row_is e) ∙ local-global_row d rank i is))
    (λ e. ap (λ r. word_in_strip d s r c) (row_is e) ∙ ap (λ c. word_in_strip d s row c) (column_is e) ∙ word_in_strip-at d s rank block i k is inside ∙ sym word)
    (λ holds elsewhere. passed_more i column l c (λ same_column same_place.
    let same_row : r ≡ row = sym (row-from_local d rank group r c is holds) ∙ ap (global_row d rank) same_place in
    let t : here ≡ true = and_from (r == row) (c == column) (eq-eqb r row same_row) (eq-eqb c column same_column) in
    cc (t, elsewhere)))

pub place_goes_on :
    (d : Layout) (out b b' : Matrix) (rank group : ℕ) (s : Matrix) (i j k row x : ℕ) → IsLayout d → NamesStrip d rank group → b ≡ with_placed d out rank group s i j → b' ≡ with_entry b row j x
    → row ≡ global_row d rank i → j ≡ global_col d (block_at d group (col_of d.grid rank)) k → k < d.desc.nb → x ≡ entry s i k → b' ≡ with_placed d out rank group s (i + 1) j
place_goes_on d out b b' rank group s i j k row x is names before write row_is column_is inside word =
    let block = block_at d group (col_of d.grid rank) in
    let a : Matrix = with_placed d out rank group s i j in
    let f : ℕ → ℕ → ℕ = λ r c. if is_placed d rank group i j r c then word_in_strip d s r c else entry out r c in
    let g : ℕ → ℕ → ℕ = λ r c. if (r == row) && (c == j) then x else entry a r c in
    write ∙ ap (λ m. with_entry m row j x) before
    ∙ ap (λ k. tabulate k (cols a) g) (rows-with_placed d out rank group s i j) ∙ ap (λ k. tabulate out.rows k g) (cols-with_placed d out rank group s i j)
    ∙ tabulate-same out.rows (cols out) g (λ r c. if is_placed d rank group (i + 1) j r c then word_in_strip d s r c else entry out r c)
    (λ r c row_in column_in. ap (λ v. if (r == row) && (c == j) then x else v) (entry-tabulate out.rows (cols out) f r c row_in column_in)
    ∙ subst (λ w. (if (r == w) && (c == j) then x else f r c) ≡ (if is_placed d rank group (i + 1) j r c then word_in_strip d s r c else entry out r c)) (sym row_is)
    (subst (λ w. (if (r == global_row d rank i) && (c == w) then x else (if is_placed d rank group i w r c then word_in_strip d s r c else entry out r c)) ≡ (if is_placed d rank group (i + 1) w r c then word_in_strip d s r c else entry out r c)) (sym column_is)
    (placed-word d s rank group i k r c x (entry out r c) is names inside word)))

-- a column is done
pub place_ends_column : (d : Layout) (out : Matrix) (rank group : ℕ) (s : Matrix) (i j : ℕ) → IsLayout d → HasShape d out → strip_rows d (row_of d.grid rank) ≤ i
    → with_placed d out rank group s i j ≡ with_placed d out rank group s 0 (j + 1)
place_ends_column d out rank group s i j is shape past =
    tabulate-same out.rows (cols out) (λ r c. if is_placed d rank group i j r c then word_in_strip d s r c else entry out r c) (λ r c. if is_placed d rank group 0 (j + 1) r c then word_in_strip d s r c else entry out r c)
    (λ r c row_in _. agreed (holds_entry d rank group r c) (is_passed_down i j (local r d.desc.mb d.grid.p) c) (is_passed_down 0 (j + 1) (local r d.desc.mb d.grid.p) c) (word_in_strip d s r c) (entry out r c)
    (λ holds. passed_column i j (local r d.desc.mb d.grid.p) c (omega (arith, local-below d rank group r c is holds (omega (arith, shape.rows))))))

-- after the last word
pub place_ends : (d : Layout) (out : Matrix) (rank group : ℕ) (s : Matrix) (j columns : ℕ) → IsLayout d → HasShape d out
    → columns ≡ min (d.desc.n - block_at d group (col_of d.grid rank) * d.desc.nb) d.desc.nb → block_at d group (col_of d.grid rank) * d.desc.nb + columns ≤ j
    → with_placed d out rank group s 0 j ≡ with_strip d out rank group s
place_ends d out rank group s j columns is shape width past =
    tabulate-same out.rows (cols out) (λ r c. if is_placed d rank group 0 j r c then word_in_strip d s r c else entry out r c) (λ r c. if holds_entry d rank group r c then word_in_strip d s r c else entry out r c)
    (λ r c _ column_in. written (holds_entry d rank group r c) (is_passed_down 0 j (local r d.desc.mb d.grid.p) c) (word_in_strip d s r c) (entry out r c)
    (λ holds. passed_all j (local r d.desc.mb d.grid.p) c (omega (arith, last_column d rank group r c columns is holds (omega (arith, shape.columns)) width))))
