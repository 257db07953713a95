-- Solves by halves: a part is cut after its first rows, one half is solved and taken off the other, and then the other is solved.
use Rattle.std.proofs.Common.{◌≡◌, ℕ, ◌+◌, ◌-◌, ◌*◌, ◌%◌, ◌<◌, ◌≤◌, ◌⊎◌, inl, inr, ◌≢◌, subst, Bool, true, false, refl, sym, ◌∙◌, ap, arith}
use Rattle.std.proofs.Math.Nat.{mod-eq_of_lt, mod-lt}
use Rattle.std.proofs.lemmas.Bool.Decides.{nat_tests}
use Rattle.field_core.specs.Sums.{sum_to}
use Rattle.field_core.proofs.Sums.{sum_to-same, sum_to-none}
use Rattle.run_data.specs.declared.matrix.Part.{Part}
use Rattle.run_data.specs.Matrix.{Matrix, cols, entry, IsShaped, AreWords, tabulate}
use Rattle.run_data.specs.Parts.{IsWithin, in_part, patched, with_part, part_entry}
use Rattle.run_data.proofs.Matrices.{tabulate_is, tabulate-same, entry-tabulate}
use Rattle.run_data.proofs.PartLaws.{AreWords-with_part, rows-with_part, cols-with_part, entry-with_part_inside, entry-with_part_outside, with_part-same, with_part-again}
use Rattle.local_blas.specs.Kernels.{ShapesSolve, divided, solution, upper_solution, product_word, with_product, with_words_of, with_solved_lower, with_solved_upper}
use Rattle.run_data.proofs.Columns.{column_part, with_columns, columns_beside}
use Rattle.local_blas.proofs.Solutions.{solution-equation, solution-below}
use Rattle.local_blas.proofs.SolutionLaws.{solution-block, solution-same}
use Rattle.local_blas.proofs.UpperSolutions.{upper_solution-equation, upper_solution-below, upper_solution-first_block, upper_solution-last_block, upper_solution-same}

-- the first m rows of a part, and those behind them
abbrev pub top_rows : Part → ℕ → Part
top_rows at m = record { r0 = at.r0; r1 = at.r0 + m; c0 = at.c0; c1 = at.c1 }

abbrev pub bottom_rows : Part → ℕ → Part
bottom_rows at m = record { r0 = at.r0 + m; r1 = at.r1; c0 = at.c0; c1 = at.c1 }

-- the four parts of a square that is cut after m rows and m columns
abbrev pub first_square : Part → ℕ → Part
first_square bp m = record { r0 = bp.r0; r1 = bp.r0 + m; c0 = bp.c0; c1 = bp.c0 + m }

abbrev pub last_square : Part → ℕ → Part
last_square bp m = record { r0 = bp.r0 + m; r1 = bp.r1; c0 = bp.c0 + m; c1 = bp.c1 }

abbrev pub block_below : Part → ℕ → Part
block_below bp m = record { r0 = bp.r0 + m; r1 = bp.r1; c0 = bp.c0; c1 = bp.c0 + m }

abbrev pub block_above : Part → ℕ → Part
block_above bp m = record { r0 = bp.r0; r1 = bp.r0 + m; c0 = bp.c0 + m; c1 = bp.c1 }

-- ---- a part whose halves are written one after the other

patched-over : (at : Part) (g h h' : ℕ → ℕ → ℕ) (r c : ℕ) → h r c ≡ h' r c → patched at g h r c ≡ patched at g h' r c
unfolding patched
patched-over at g h h' r c e = grind (arith, nat_tests)

-- two parts of one matrix, written one after the other
written_twice : (a : Matrix) (first second : Part) (f g : ℕ → ℕ → ℕ) → with_part (with_part a first f) second g ≡ tabulate a.rows (cols a) (patched second g (patched first f (entry a)))
written_twice a first second f g =
    let b : Matrix = with_part a first f in
    ap (λ k. tabulate k (cols b) (patched second g (entry b))) (rows-with_part a first f) ∙ ap (λ k. tabulate a.rows k (patched second g (entry b))) (cols-with_part a first f)
    ∙ tabulate-same a.rows (cols a) (patched second g (entry b)) (patched second g (patched first f (entry a)))
    (λ r c hr hc. patched-over second g (entry b) (patched first f (entry a)) r c (entry-tabulate a.rows (cols a) (patched first f (entry a)) r c hr hc))

-- words of a part agree
abbrev AgreeOn : Part → (ℕ → ℕ → ℕ) → (ℕ → ℕ → ℕ) → Type 0
AgreeOn at f g = (r c : ℕ) → at.r0 ≤ r → r < at.r1 → at.c0 ≤ c → c < at.c1 → f r c ≡ g r c

down_place : (at : Part) (m : ℕ) (f g h : ℕ → ℕ → ℕ) (r c : ℕ) → at.r0 + m ≤ at.r1 → patched (bottom_rows at m) f (patched (top_rows at m) f g) r c ≡ patched at f g r c
unfolding patched
down_place at m f g h r c le = grind (arith, nat_tests)

up_place : (at : Part) (m : ℕ) (f g h : ℕ → ℕ → ℕ) (r c : ℕ) → at.r0 + m ≤ at.r1 → patched (top_rows at m) f (patched (bottom_rows at m) f g) r c ≡ patched at f g r c
unfolding patched
up_place at m f g h r c le = grind (arith, nat_tests)

-- the first rows, then the others twice
pub joined_down : (a b c d : Matrix) (at : Part) (m : ℕ) (f g h w : ℕ → ℕ → ℕ) → at.r0 + m ≤ at.r1 → b ≡ with_part a (top_rows at m) f → c ≡ with_part b (bottom_rows at m) g → d ≡ with_part c (bottom_rows at m) h
    → AgreeOn (top_rows at m) f w → AgreeOn (bottom_rows at m) h w → d ≡ with_part a at w
joined_down a b c d at m f g h w le eb ec ed top bottom =
    ed ∙ ap (λ n. with_part n (bottom_rows at m) h) ec ∙ with_part-again b (bottom_rows at m) g h ∙ with_part-same b (bottom_rows at m) h w bottom
    ∙ ap (λ n. with_part n (bottom_rows at m) w) (eb ∙ with_part-same a (top_rows at m) f w top)
    ∙ written_twice a (top_rows at m) (bottom_rows at m) w w
    ∙ tabulate-same a.rows (cols a) (patched (bottom_rows at m) w (patched (top_rows at m) w (entry a))) (patched at w (entry a)) (λ r k _ _. down_place at m w (entry a) w r k le)

-- the last rows, then the others twice
pub joined_up : (a b c d : Matrix) (at : Part) (m : ℕ) (f g h w : ℕ → ℕ → ℕ) → at.r0 + m ≤ at.r1 → b ≡ with_part a (bottom_rows at m) f → c ≡ with_part b (top_rows at m) g → d ≡ with_part c (top_rows at m) h
    → AgreeOn (bottom_rows at m) f w → AgreeOn (top_rows at m) h w → d ≡ with_part a at w
joined_up a b c d at m f g h w le eb ec ed bottom top =
    ed ∙ ap (λ n. with_part n (top_rows at m) h) ec ∙ with_part-again b (top_rows at m) g h ∙ with_part-same b (top_rows at m) h w top
    ∙ ap (λ n. with_part n (top_rows at m) w) (eb ∙ with_part-same a (bottom_rows at m) f w bottom)
    ∙ written_twice a (bottom_rows at m) (top_rows at m) w w
    ∙ tabulate-same a.rows (cols a) (patched (top_rows at m) w (patched (bottom_rows at m) w (entry a))) (patched at w (entry a)) (λ r k _ _. up_place at m w (entry a) w r k le)

-- ---- the halves of a part lie in the matrix

pub within-top : (a : Matrix) (at : Part) (m : ℕ) → IsWithin at a → at.r0 + m ≤ at.r1 → IsWithin (top_rows at m) a
within-top a at m within le = record { rows_ordered = omega arith; rows_end = omega (arith, within.rows_end); columns_ordered = within.columns_ordered; columns_end = within.columns_end }

pub within-bottom : (a : Matrix) (at : Part) (m : ℕ) → IsWithin at a → at.r0 + m ≤ at.r1 → IsWithin (bottom_rows at m) a
within-bottom a at m within le = record { rows_ordered = le; rows_end = within.rows_end; columns_ordered = within.columns_ordered; columns_end = within.columns_end }

-- a part lies in a matrix after another was written into it
pub within-written : (a b : Matrix) (at part : Part) (f : ℕ → ℕ → ℕ) → b ≡ with_part a at f → IsWithin part a → IsWithin part b
within-written a b at part f e within =
    let rows : b.rows ≡ a.rows = ap (λ m. m.rows) e ∙ rows-with_part a at f in
    let columns : cols b ≡ cols a = ap cols e ∙ cols-with_part a at f in
    record { rows_ordered = within.rows_ordered; rows_end = omega (arith, within.rows_end); columns_ordered = within.columns_ordered; columns_end = omega (arith, within.columns_end) }

outside_top : (at : Part) (m r c : ℕ) → at.r0 + m ≤ r → in_part (top_rows at m) r c ≡ false
outside_top at m r c h = grind (arith, nat_tests)

outside_bottom : (at : Part) (m r c : ℕ) → r < at.r0 + m → in_part (bottom_rows at m) r c ≡ false
outside_bottom at m r c h = grind (arith, nat_tests)

-- the bottom half is as it was after the top half was written
read_bottom : (a b : Matrix) (at : Part) (m : ℕ) (f : ℕ → ℕ → ℕ) (r c : ℕ) → IsWithin at a → b ≡ with_part a (top_rows at m) f → at.r0 + m ≤ r → r < at.r1 → c < at.c1 → entry b r c ≡ entry a r c
read_bottom a b at m f r c within e h1 h2 h3 =
    ap (λ n. entry n r c) e ∙ entry-with_part_outside a (top_rows at m) f r c (omega (arith, within.rows_end)) (omega (arith, within.columns_end)) (outside_top at m r c h1)

-- the top half is as it was after the bottom half was written
read_top : (a b : Matrix) (at : Part) (m : ℕ) (f : ℕ → ℕ → ℕ) (r c : ℕ) → IsWithin at a → b ≡ with_part a (bottom_rows at m) f → r < at.r0 + m → at.r0 + m ≤ at.r1 → c < at.c1 → entry b r c ≡ entry a r c
read_top a b at m f r c within e h1 h2 h3 =
    ap (λ n. entry n r c) e ∙ entry-with_part_outside a (bottom_rows at m) f r c (omega (arith, within.rows_end)) (omega (arith, within.columns_end)) (outside_bottom at m r c h1)

-- ---- a word of a product, by the words that it is read from

pub product_word-read : (left right : Matrix) (lp rp : Part) (i j i' j' n : ℕ) (x y : ℕ → ℕ) → lp.c1 - lp.c0 ≡ n → i ≡ i' → j ≡ j' → ((q : ℕ) → q < n → part_entry left lp i' q ≡ x q) → ((q : ℕ) → q < n → part_entry right rp q j' ≡ y q)
    → product_word left lp right rp i j ≡ sum_to n (λ q. x q * y q)
product_word-read left right lp rp i j i' j' n x y en ei ej ex ey =
    ap (λ count. sum_to count (λ q. part_entry left lp i q * part_entry right rp q j)) en
    ∙ ap (λ r. sum_to n (λ q. part_entry left lp r q * part_entry right rp q j)) ei
    ∙ ap (λ c. sum_to n (λ q. part_entry left lp i' q * part_entry right rp q c)) ej
    ∙ sum_to-same n (λ q. part_entry left lp i' q * part_entry right rp q j') (λ q. x q * y q)
    (λ q h. ap (λ v. v * part_entry right rp q j') (ex q h) ∙ ap (λ v. x q * v) (ey q h))

-- a word of a product with a column whose rows stand beside those that were written
pub product_word-beside : (left a b : Matrix) (lp at other : Part) (f : ℕ → ℕ → ℕ) (i j : ℕ) → b ≡ with_columns a at f j → IsWithin other a → other.c0 ≡ at.c0 → at.c0 ≤ j → j < other.c1 → lp.c1 - lp.c0 ≡ other.r1 - other.r0
    → (other.r1 ≤ at.r0) ⊎ (at.r1 ≤ other.r0) → product_word left lp b (column_part other j) i (j - j) ≡ product_word left lp a other i (j - at.c0)
product_word-beside left a b lp at other f i j e within same h1 h2 inner beside =
    product_word-read left b lp (column_part other j) i (j - j) i (j - j) (lp.c1 - lp.c0) (λ q. part_entry left lp i q) (λ q. part_entry a other q (j - at.c0)) refl refl refl (λ q _. refl)
    (λ q h. ap (entry b (other.r0 + q)) (let t : j + (j - j) ≡ j = omega arith in t)
    ∙ columns_beside a b at f j (other.r0 + q) j e (omega (arith, within.rows_end)) (omega (arith, within.columns_end)) (elim beside [ inl above ↦ inl (omega arith) | inr below ↦ inr (omega arith) ])
    ∙ ap (entry a (other.r0 + q)) (let t : j ≡ other.c0 + (j - at.c0) = omega arith in t))

pub gained_word : (p a w s : ℕ) (x y : ℕ) → x ≡ w → y ≡ s → (x + a * y) % p ≡ (w + a * s) % p
gained_word p a w s x y e e' = ap (λ v. (v + a * y) % p) e ∙ ap (λ v. (w + a * v) % p) e'

-- ---- lower triangles: the first rows, then the others

lower_bottom : (p : ℕ) (inverse : ℕ → ℕ) (unit : Bool) (block a b c : Matrix) (at bp : Part) (m : ℕ) → IsWithin at a → ShapesSolve at bp → at.r0 + m ≤ at.r1
    → b ≡ with_solved_lower p inverse a (top_rows at m) block (first_square bp m) unit
    → c ≡ with_product p b (bottom_rows at m) (p - 1) block (block_below bp m) b (top_rows at m)
    → AgreeOn (bottom_rows at m)
    (λ r k. solution p inverse unit (part_entry block (last_square bp m)) (λ q. part_entry c (bottom_rows at m) q (k - at.c0)) (r - (at.r0 + m)))
    (λ r k. solution p inverse unit (part_entry block bp) (λ q. part_entry a at q (k - at.c0)) (r - at.r0))
lower_bottom p inverse unit block a b c at bp m within shape le eb ec r k h1 h2 h3 h4 =
    let l : ℕ → ℕ → ℕ = part_entry block bp in
    let j : ℕ = k - at.c0 in
    let x : ℕ → ℕ = λ q. part_entry a at q j in
    let n : ℕ = at.r1 - (at.r0 + m) in
    let i : ℕ = r - (at.r0 + m) in
    let reduced : ℕ → ℕ = λ i. (x (m + i) + (p - 1) * sum_to m (λ q. l (m + i) q * solution p inverse unit l x q)) % p in
    let f : ℕ → ℕ → ℕ = λ r k. solution p inverse unit (part_entry block (first_square bp m)) (λ q. part_entry a (top_rows at m) q (k - at.c0)) (r - at.r0) in
    let g : ℕ → ℕ → ℕ = λ r k. (entry b r k + (p - 1) * product_word block (block_below bp m) b (top_rows at m) (r - (at.r0 + m)) (k - at.c0)) % p in
    let within_top : IsWithin (top_rows at m) a = within-top a at m within le in
    let within_bottom : IsWithin (bottom_rows at m) b = within-written a b (top_rows at m) (bottom_rows at m) f eb (within-bottom a at m within le) in
    let words : (s : ℕ) → s < n → part_entry c (bottom_rows at m) s j ≡ reduced s =
    λ s hs. ap (λ w. entry w (at.r0 + m + s) (at.c0 + j)) ec
    ∙ entry-with_part_inside b (bottom_rows at m) g (at.r0 + m + s) (at.c0 + j) within_bottom (omega arith) (omega arith) (omega arith) (omega arith)
    ∙ gained_word p (p - 1) (x (m + s)) (sum_to m (λ q. l (m + s) q * solution p inverse unit l x q)) (entry b (at.r0 + m + s) (at.c0 + j)) (product_word block (block_below bp m) b (top_rows at m) (at.r0 + m + s - (at.r0 + m)) (at.c0 + j - at.c0))
    (read_bottom a b at m f (at.r0 + m + s) (at.c0 + j) within eb (omega arith) (omega arith) (omega arith) ∙ ap (λ r. entry a r (at.c0 + j)) (let e : at.r0 + m + s ≡ at.r0 + (m + s) = omega arith in e))
    (product_word-read block b (block_below bp m) (top_rows at m) (at.r0 + m + s - (at.r0 + m)) (at.c0 + j - at.c0) s j m (λ q. l (m + s) q) (solution p inverse unit l x) (omega arith) (omega arith) (omega arith)
    (λ q _. ap (λ r. entry block r (bp.c0 + q)) (let e : bp.r0 + m + s ≡ bp.r0 + (m + s) = omega arith in e))
    (λ q hq. ap (λ w. entry w (at.r0 + q) (at.c0 + j)) eb
    ∙ entry-with_part_inside a (top_rows at m) f (at.r0 + q) (at.c0 + j) within_top (omega arith) (omega arith) (omega arith) (omega arith)
    ∙ ap (λ c. solution p inverse unit l (λ q. part_entry a at q c) (at.r0 + q - at.r0)) (let e : at.c0 + j - at.c0 ≡ j = omega arith in e)
    ∙ ap (solution p inverse unit l x) (let e : at.r0 + q - at.r0 ≡ q = omega arith in e))) in
    solution-same p inverse unit (part_entry block (last_square bp m)) (λ i k. l (m + i) (m + k)) (λ q. part_entry c (bottom_rows at m) q j) reduced i
    (λ i k _ _. ap (λ r. entry block r (bp.c0 + m + k)) (let e : bp.r0 + m + i ≡ bp.r0 + (m + i) = omega arith in e) ∙ ap (entry block (bp.r0 + (m + i))) (let e : bp.c0 + m + k ≡ bp.c0 + (m + k) = omega arith in e))
    (λ s hs. words s (omega arith))
    ∙ sym (solution-block p inverse unit l x m n i (omega arith)) ∙ ap (solution p inverse unit l x) (let e : m + i ≡ r - at.r0 = omega arith in e)

pub lower_joined : (p : ℕ) (inverse : ℕ → ℕ) (unit : Bool) (block a b c d : Matrix) (at bp : Part) (m : ℕ) → IsWithin at a → ShapesSolve at bp → at.r0 + m ≤ at.r1
    → b ≡ with_solved_lower p inverse a (top_rows at m) block (first_square bp m) unit
    → c ≡ with_product p b (bottom_rows at m) (p - 1) block (block_below bp m) b (top_rows at m)
    → d ≡ with_solved_lower p inverse c (bottom_rows at m) block (last_square bp m) unit
    → d ≡ with_solved_lower p inverse a at block bp unit
lower_joined p inverse unit block a b c d at bp m within shape le eb ec ed =
    let l : ℕ → ℕ → ℕ = part_entry block bp in
    joined_down a b c d at m (λ r k. solution p inverse unit l (λ q. part_entry a at q (k - at.c0)) (r - at.r0))
    (λ r k. (entry b r k + (p - 1) * product_word block (block_below bp m) b (top_rows at m) (r - (at.r0 + m)) (k - at.c0)) % p)
    (λ r k. solution p inverse unit (part_entry block (last_square bp m)) (λ q. part_entry c (bottom_rows at m) q (k - at.c0)) (r - (at.r0 + m)))
    (λ r k. solution p inverse unit l (λ q. part_entry a at q (k - at.c0)) (r - at.r0))
    le eb ec ed (λ r k _ _ _ _. refl) (lower_bottom p inverse unit block a b c at bp m within shape le eb ec)

-- ---- upper triangles: the last rows, then the others

upper_bottom : (p : ℕ) (inverse : ℕ → ℕ) (unit : Bool) (block a : Matrix) (at bp : Part) (m : ℕ) → at.r0 + m ≤ at.r1
    → AgreeOn (bottom_rows at m)
    (λ r k. upper_solution p inverse unit (at.r1 - (at.r0 + m)) (part_entry block (last_square bp m)) (λ q. part_entry a (bottom_rows at m) q (k - at.c0)) (r - (at.r0 + m)))
    (λ r k. upper_solution p inverse unit (at.r1 - at.r0) (part_entry block bp) (λ q. part_entry a at q (k - at.c0)) (r - at.r0))
upper_bottom p inverse unit block a at bp m le r k h1 h2 h3 h4 =
    let u : ℕ → ℕ → ℕ = part_entry block bp in
    let j : ℕ = k - at.c0 in
    let x : ℕ → ℕ = λ q. part_entry a at q j in
    let n : ℕ = at.r1 - (at.r0 + m) in
    let i : ℕ = r - (at.r0 + m) in
    upper_solution-same p inverse unit n (part_entry block (last_square bp m)) (λ i k. u (m + i) (m + k)) (λ q. part_entry a (bottom_rows at m) q j) (λ q. x (m + q))
    (λ i k _ _. ap (λ r. entry block r (bp.c0 + m + k)) (let e : bp.r0 + m + i ≡ bp.r0 + (m + i) = omega arith in e) ∙ ap (entry block (bp.r0 + (m + i))) (let e : bp.c0 + m + k ≡ bp.c0 + (m + k) = omega arith in e))
    (λ q _. ap (λ r. entry a r (at.c0 + j)) (let e : at.r0 + m + q ≡ at.r0 + (m + q) = omega arith in e))
    i (omega arith)
    ∙ sym (upper_solution-last_block p inverse unit m n u x i (omega arith))
    ∙ ap (λ rows. upper_solution p inverse unit rows u x (m + i)) (let e : m + n ≡ at.r1 - at.r0 = omega arith in e)
    ∙ ap (upper_solution p inverse unit (at.r1 - at.r0) u x) (let e : m + i ≡ r - at.r0 = omega arith in e)

upper_top : (p : ℕ) (inverse : ℕ → ℕ) (unit : Bool) (block a b c : Matrix) (at bp : Part) (m : ℕ) → IsWithin at a → ShapesSolve at bp → at.r0 + m ≤ at.r1
    → b ≡ with_solved_upper p inverse a (bottom_rows at m) block (last_square bp m) unit
    → c ≡ with_product p b (top_rows at m) (p - 1) block (block_above bp m) b (bottom_rows at m)
    → AgreeOn (top_rows at m)
    (λ r k. upper_solution p inverse unit (at.r0 + m - at.r0) (part_entry block (first_square bp m)) (λ q. part_entry c (top_rows at m) q (k - at.c0)) (r - at.r0))
    (λ r k. upper_solution p inverse unit (at.r1 - at.r0) (part_entry block bp) (λ q. part_entry a at q (k - at.c0)) (r - at.r0))
upper_top p inverse unit block a b c at bp m within shape le eb ec r k h1 h2 h3 h4 =
    let u : ℕ → ℕ → ℕ = part_entry block bp in
    let j : ℕ = k - at.c0 in
    let x : ℕ → ℕ = λ q. part_entry a at q j in
    let n : ℕ = at.r1 - (at.r0 + m) in
    let i : ℕ = r - at.r0 in
    let all : m + n ≡ at.r1 - at.r0 = omega arith in
    let y : ℕ → ℕ = upper_solution p inverse unit (m + n) u x in
    let reduced : ℕ → ℕ = λ i. (x i + (p - 1) * sum_to n (λ q. u i (m + q) * y (m + q))) % p in
    let f : ℕ → ℕ → ℕ = λ r k. upper_solution p inverse unit (at.r1 - (at.r0 + m)) (part_entry block (last_square bp m)) (λ q. part_entry a (bottom_rows at m) q (k - at.c0)) (r - (at.r0 + m)) in
    let g : ℕ → ℕ → ℕ = λ r k. (entry b r k + (p - 1) * product_word block (block_above bp m) b (bottom_rows at m) (r - at.r0) (k - at.c0)) % p in
    let within_bottom : IsWithin (bottom_rows at m) a = within-bottom a at m within le in
    let within_top : IsWithin (top_rows at m) b = within-written a b (bottom_rows at m) (top_rows at m) f eb (within-top a at m within le) in
    let words : (s : ℕ) → s < m → part_entry c (top_rows at m) s j ≡ reduced s =
    λ s hs. ap (λ w. entry w (at.r0 + s) (at.c0 + j)) ec
    ∙ entry-with_part_inside b (top_rows at m) g (at.r0 + s) (at.c0 + j) within_top (omega arith) (omega arith) (omega arith) (omega arith)
    ∙ gained_word p (p - 1) (x s) (sum_to n (λ q. u s (m + q) * y (m + q))) (entry b (at.r0 + s) (at.c0 + j)) (product_word block (block_above bp m) b (bottom_rows at m) (at.r0 + s - at.r0) (at.c0 + j - at.c0))
    (read_top a b at m f (at.r0 + s) (at.c0 + j) within eb (omega arith) le (omega arith))
    (product_word-read block b (block_above bp m) (bottom_rows at m) (at.r0 + s - at.r0) (at.c0 + j - at.c0) s j n (λ q. u s (m + q)) (λ q. y (m + q)) (omega (arith, shape.square, shape.rows)) (omega arith) (omega arith)
    (λ q _. ap (entry block (bp.r0 + s)) (let e : bp.c0 + m + q ≡ bp.c0 + (m + q) = omega arith in e))
    (λ q hq. ap (λ w. entry w (at.r0 + m + q) (at.c0 + j)) eb
    ∙ entry-with_part_inside a (bottom_rows at m) f (at.r0 + m + q) (at.c0 + j) within_bottom (omega arith) (omega arith) (omega arith) (omega arith)
    ∙ upper_bottom p inverse unit block a at bp m le (at.r0 + m + q) (at.c0 + j) (omega arith) (omega arith) (omega arith) (omega arith)
    ∙ ap (λ c. upper_solution p inverse unit (at.r1 - at.r0) u (λ q. part_entry a at q c) (at.r0 + m + q - at.r0)) (let e : at.c0 + j - at.c0 ≡ j = omega arith in e)
    ∙ ap (upper_solution p inverse unit (at.r1 - at.r0) u x) (let e : at.r0 + m + q - at.r0 ≡ m + q = omega arith in e)
    ∙ ap (λ rows. upper_solution p inverse unit rows u x (m + q)) (sym all))) in
    ap (λ rows. upper_solution p inverse unit rows u (λ q. part_entry c (top_rows at m) q j) i) (let e : at.r0 + m - at.r0 ≡ m = omega arith in e)
    ∙ upper_solution-same p inverse unit m u u (λ q. part_entry c (top_rows at m) q j) reduced (λ _ _ _ _. refl) words i (omega arith)
    ∙ sym (upper_solution-first_block p inverse unit m n u x i (omega arith))
    ∙ ap (λ rows. upper_solution p inverse unit rows u x i) all

pub upper_joined : (p : ℕ) (inverse : ℕ → ℕ) (unit : Bool) (block a b c d : Matrix) (at bp : Part) (m : ℕ) → IsWithin at a → ShapesSolve at bp → at.r0 + m ≤ at.r1
    → b ≡ with_solved_upper p inverse a (bottom_rows at m) block (last_square bp m) unit
    → c ≡ with_product p b (top_rows at m) (p - 1) block (block_above bp m) b (bottom_rows at m)
    → d ≡ with_solved_upper p inverse c (top_rows at m) block (first_square bp m) unit
    → d ≡ with_solved_upper p inverse a at block bp unit
upper_joined p inverse unit block a b c d at bp m within shape le eb ec ed =
    joined_up a b c d at m
    (λ r k. upper_solution p inverse unit (at.r1 - (at.r0 + m)) (part_entry block (last_square bp m)) (λ q. part_entry a (bottom_rows at m) q (k - at.c0)) (r - (at.r0 + m)))
    (λ r k. (entry b r k + (p - 1) * product_word block (block_above bp m) b (bottom_rows at m) (r - at.r0) (k - at.c0)) % p)
    (λ r k. upper_solution p inverse unit (at.r0 + m - at.r0) (part_entry block (first_square bp m)) (λ q. part_entry c (top_rows at m) q (k - at.c0)) (r - at.r0))
    (λ r k. upper_solution p inverse unit (at.r1 - at.r0) (part_entry block bp) (λ q. part_entry a at q (k - at.c0)) (r - at.r0))
    le eb ec ed (upper_bottom p inverse unit block a at bp m le) (upper_top p inverse unit block a b c at bp m within shape le eb ec)

-- ---- what the calls on the halves ask for

-- a square that is cut by columns after it was cut by rows
pub first_of_top : (bp rows part : Part) (m : ℕ) → rows ≡ top_rows bp m → part ≡ record { r0 = rows.r0; r1 = rows.r1; c0 = rows.c0; c1 = rows.c0 + m } → part ≡ first_square bp m
first_of_top bp rows part m e e' = rw e at e'

pub first_of_bottom : (bp rows part : Part) (m : ℕ) → rows ≡ bottom_rows bp m → part ≡ record { r0 = rows.r0; r1 = rows.r1; c0 = rows.c0; c1 = rows.c0 + m } → part ≡ block_below bp m
first_of_bottom bp rows part m e e' = rw e at e'

pub last_of_top : (bp rows part : Part) (m : ℕ) → rows ≡ top_rows bp m → part ≡ record { r0 = rows.r0; r1 = rows.r1; c0 = rows.c0 + m; c1 = rows.c1 } → part ≡ block_above bp m
last_of_top bp rows part m e e' = rw e at e'

pub last_of_bottom : (bp rows part : Part) (m : ℕ) → rows ≡ bottom_rows bp m → part ≡ record { r0 = rows.r0; r1 = rows.r1; c0 = rows.c0 + m; c1 = rows.c1 } → part ≡ last_square bp m
last_of_bottom bp rows part m e e' = rw e at e'

pub within-last_square : (block : Matrix) (at bp : Part) (m : ℕ) → IsWithin bp block → ShapesSolve at bp → at.r0 + m ≤ at.r1 → IsWithin (last_square bp m) block
within-last_square block at bp m within shape le = record {
  rows_ordered = omega (arith, shape.rows, within.rows_ordered);
  rows_end = within.rows_end;
  columns_ordered = omega (arith, shape.rows, shape.square, within.columns_ordered);
  columns_end = within.columns_end;
}

pub within-first_square : (block : Matrix) (at bp : Part) (m : ℕ) → IsWithin bp block → ShapesSolve at bp → at.r0 + m ≤ at.r1 → IsWithin (first_square bp m) block
within-first_square block at bp m within shape le = record {
  rows_ordered = omega arith;
  rows_end = omega (arith, shape.rows, within.rows_ordered, within.rows_end);
  columns_ordered = omega arith;
  columns_end = omega (arith, shape.rows, shape.square, within.columns_ordered, within.columns_end);
}

pub shapes-last_square : (at bp : Part) (m : ℕ) → ShapesSolve at bp → at.r0 + m ≤ at.r1 → ShapesSolve (bottom_rows at m) (last_square bp m)
shapes-last_square at bp m shape le = record { square = omega (arith, shape.square); rows = omega (arith, shape.rows) }

pub shapes-first_square : (at bp : Part) (m : ℕ) → ShapesSolve (top_rows at m) (first_square bp m)
shapes-first_square at bp m = record { square = omega arith; rows = omega arith }

-- no word of the diagonal is 0
abbrev pub HasNoZero : Matrix → Part → Bool → Type 0
HasNoZero block bp unit = unit ≡ false → (i : ℕ) → i < bp.r1 - bp.r0 → part_entry block bp i i ≢ 0

pub nonzero-last_square : (block : Matrix) (bp : Part) (unit : Bool) (m : ℕ) → HasNoZero block bp unit → HasNoZero block (last_square bp m) unit
nonzero-last_square block bp unit m nonzero divides i lt is =
    nonzero divides (m + i) (omega arith)
    (ap (λ r. entry block r (bp.c0 + (m + i))) (let e : bp.r0 + (m + i) ≡ bp.r0 + m + i = omega arith in e) ∙ ap (entry block (bp.r0 + m + i)) (let e : bp.c0 + (m + i) ≡ bp.c0 + m + i = omega arith in e) ∙ is)

pub nonzero-first_square : (block : Matrix) (at bp : Part) (unit : Bool) (m : ℕ) → ShapesSolve at bp → at.r0 + m ≤ at.r1 → HasNoZero block bp unit → HasNoZero block (first_square bp m) unit
nonzero-first_square block at bp unit m shape le nonzero divides i lt = nonzero divides i (omega (arith, shape.rows))

-- words stay words
pub solved_words : (p : ℕ) (inverse : ℕ → ℕ) (unit : Bool) (block a b : Matrix) (at bp : Part) → 0 < p → AreWords p a → b ≡ with_solved_lower p inverse a at block bp unit → AreWords p b
solved_words p inverse unit block a b at bp pos_p words e =
    subst (AreWords p) (sym e)
    (AreWords-with_part p a at (λ r k. solution p inverse unit (part_entry block bp) (λ q. part_entry a at q (k - at.c0)) (r - at.r0)) pos_p words (λ r k. solution-below p inverse unit (part_entry block bp) (λ q. part_entry a at q (k - at.c0)) (r - at.r0) pos_p))

pub upper_solved_words : (p : ℕ) (inverse : ℕ → ℕ) (unit : Bool) (block a b : Matrix) (at bp : Part) → 0 < p → AreWords p a → b ≡ with_solved_upper p inverse a at block bp unit → AreWords p b
upper_solved_words p inverse unit block a b at bp pos_p words e =
    subst (AreWords p) (sym e)
    (AreWords-with_part p a at (λ r k. upper_solution p inverse unit (at.r1 - at.r0) (part_entry block bp) (λ q. part_entry a at q (k - at.c0)) (r - at.r0)) pos_p words
    (λ r k. upper_solution-below p inverse unit (at.r1 - at.r0) (part_entry block bp) (λ q. part_entry a at q (k - at.c0)) (r - at.r0) pos_p))

pub reduced_words : (p d : ℕ) (left right a b : Matrix) (at lp rp : Part) → 0 < p → AreWords p a → b ≡ with_product p a at d left lp right rp → AreWords p b
reduced_words p d left right a b at lp rp pos_p words e =
    subst (AreWords p) (sym e)
    (AreWords-with_part p a at (λ r k. (entry a r k + d * product_word left lp right rp (r - at.r0) (k - at.c0)) % p) pos_p words (λ r k. mod-lt (entry a r k + d * product_word left lp right rp (r - at.r0) (k - at.c0)) pos_p))

-- ---- one row, or none

patched-kept : (at : Part) (f g : ℕ → ℕ → ℕ) (r c : ℕ) → (at.r0 ≤ r → r < at.r1 → at.c0 ≤ c → c < at.c1 → f r c ≡ g r c) → g r c ≡ patched at f g r c
unfolding patched
patched-kept at f g r c same = grind (arith, nat_tests)

-- a part that gets the words it has
pub part_kept : (a : Matrix) (at : Part) (f : ℕ → ℕ → ℕ) → IsShaped a → AgreeOn at f (entry a) → a ≡ with_part a at f
part_kept a at f shaped same = tabulate_is a a.rows (cols a) (patched at f (entry a)) shaped refl refl (λ r c _ _. patched-kept at f (entry a) r c (same r c))

-- a part without rows
pub no_rows : (a : Matrix) (at : Part) (f : ℕ → ℕ → ℕ) → IsShaped a → at.r1 ≤ at.r0 → a ≡ with_part a at f
no_rows a at f shaped none = part_kept a at f shaped (λ r c h1 h2 _ _. absurd (omega arith))

-- where the diagonal counts as 1 a word is divided by nothing
pub divided-unit : (p : ℕ) (inverse : ℕ → ℕ) (unit : Bool) (d x : ℕ) → unit ≡ true → divided p inverse unit d x ≡ x
divided-unit p inverse unit d x e = rw e refl

alone : (p b : ℕ) (f : ℕ → ℕ) → b < p → (b + (p - 1) * sum_to 0 f) % p ≡ b
alone p b f small = ap (λ s. (b + (p - 1) * s) % p) (sum_to-none f) ∙ ap (λ s. s % p) (let e : b + (p - 1) * 0 ≡ b = omega arith in e) ∙ mod-eq_of_lt small

pub lower_row : (p : ℕ) (inverse : ℕ → ℕ) (unit : Bool) (block a d : Matrix) (at bp : Part) → AreWords p a → at.r1 - at.r0 ≤ 1 → d ≡ with_words_of a at (λ x i j. divided p inverse unit (part_entry block bp 0 0) x) → d ≡ with_solved_lower p inverse a at block bp unit
lower_row p inverse unit block a d at bp words one e =
    let l : ℕ → ℕ → ℕ = part_entry block bp in
    e ∙ with_part-same a at (λ r k. divided p inverse unit (l 0 0) (entry a r k)) (λ r k. solution p inverse unit l (λ q. part_entry a at q (k - at.c0)) (r - at.r0))
    (λ r k h1 h2 h3 h4.
    let x : ℕ → ℕ = λ q. part_entry a at q (k - at.c0) in
    ap (λ r. divided p inverse unit (l 0 0) (entry a r k)) (let t : r ≡ at.r0 + 0 = omega arith in t)
    ∙ ap (λ c. divided p inverse unit (l 0 0) (entry a (at.r0 + 0) c)) (let t : k ≡ at.c0 + (k - at.c0) = omega arith in t)
    ∙ ap (divided p inverse unit (l 0 0)) (sym (alone p (x 0) (λ q. l 0 q * solution p inverse unit l x q) (words.below (at.r0 + 0) (at.c0 + (k - at.c0)))))
    ∙ sym (solution-equation p inverse unit l x 0) ∙ ap (solution p inverse unit l x) (let t : 0 ≡ r - at.r0 = omega arith in t))

pub upper_row : (p : ℕ) (inverse : ℕ → ℕ) (unit : Bool) (block a d : Matrix) (at bp : Part) → AreWords p a → at.r1 - at.r0 ≤ 1 → d ≡ with_words_of a at (λ x i j. divided p inverse unit (part_entry block bp 0 0) x) → d ≡ with_solved_upper p inverse a at block bp unit
upper_row p inverse unit block a d at bp words one e =
    let u : ℕ → ℕ → ℕ = part_entry block bp in
    e ∙ with_part-same a at (λ r k. divided p inverse unit (u 0 0) (entry a r k)) (λ r k. upper_solution p inverse unit (at.r1 - at.r0) u (λ q. part_entry a at q (k - at.c0)) (r - at.r0))
    (λ r k h1 h2 h3 h4.
    let x : ℕ → ℕ = λ q. part_entry a at q (k - at.c0) in
    let y : ℕ → ℕ = upper_solution p inverse unit 1 u x in
    ap (λ r. divided p inverse unit (u 0 0) (entry a r k)) (let t : r ≡ at.r0 + 0 = omega arith in t)
    ∙ ap (λ c. divided p inverse unit (u 0 0) (entry a (at.r0 + 0) c)) (let t : k ≡ at.c0 + (k - at.c0) = omega arith in t)
    ∙ ap (divided p inverse unit (u 0 0)) (sym (alone p (x 0) (λ q. u 0 (0 + 1 + q) * y (0 + 1 + q)) (words.below (at.r0 + 0) (at.c0 + (k - at.c0)))))
    ∙ sym (upper_solution-equation p inverse unit 1 u x 0 (omega arith))
    ∙ ap (upper_solution p inverse unit 1 u x) (let t : 0 ≡ r - at.r0 = omega arith in t)
    ∙ ap (λ rows. upper_solution p inverse unit rows u x (r - at.r0)) (let t : 1 ≡ at.r1 - at.r0 = omega arith in t))
