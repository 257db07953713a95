-- Exchanges of rows in falling order, and the solve with the transpose of factors.
use Rattle.std.proofs.Common.{◌≡◌, ◌≢◌, ℕ, suc, ◌+◌, ◌-◌, ◌<◌, ◌≤◌, true, false, List, length, get_or, refl, sym, ◌∙◌, ap, arith}
use Rattle.run_data.specs.Matrix.{Matrix, cols, entry, IsShaped, tabulate}
use Rattle.run_data.proofs.Matrices.{tabulate_is, tabulate-same, rows-tabulate, cols-tabulate, entry-tabulate}
use Rattle.local_blas.specs.Kernels.{swapped, solution, upper_solution, with_rows_swapped}
use Rattle.local_blas.proofs.SolutionLaws.{solution-same}
use Rattle.local_blas.proofs.UpperSolutions.{upper_solution-same}
use Rattle.local_blas.proofs.Swaps.{swapped-below}
use Rattle.serial_model.specs.Elimination.{pivot_row, least_zero, diagonal}
use Rattle.serial_model.specs.Solves.{first_zero, solved_column}
use Rattle.elimination.specs.Whole.{AreRows}
use Rattle.serial_model.specs.Transposes.{transposed, came_back_from, exchanged_back, flipped, transposed_solved, trans_solved}
use Rattle.factor_laws.proofs.Exchanges.{AreBelow, came_back_from-below}
use Rattle.factor_laws.proofs.Unique.{exchanged_back-next}
use Rattle.factor_laws.proofs.Sides.{entry-transposed, rows-transposed}
use Rattle.serial_machine.specs.Solved.{with_columns_solved, with_rows_back}
use Rattle.serial_machine.proofs.Whole.{solved_when}

pub back_starts : (x : Matrix) (v : List ℕ) (first : ℕ) → IsShaped x → x ≡ with_rows_back x v first 0
unfolding came_back_from
back_starts x v first shaped = tabulate_is x x.rows (cols x) (λ i k. exchanged_back v first 0 (λ r. entry x r k) i) shaped refl refl (λ i j _ _. refl)

pub back_rows : (x y : Matrix) (v : List ℕ) (first n : ℕ) → y ≡ with_rows_back x v first n → y.rows ≡ x.rows
back_rows x y v first n e = ap (λ (m : Matrix). m.rows) e ∙ rows-tabulate x.rows (cols x) (λ i k. exchanged_back v first n (λ r. entry x r k) i)

back_next : (x y y' : Matrix) (v : List ℕ) (j k row : ℕ) → y ≡ with_rows_back x v (j + 1) k → j < x.rows → row < x.rows → row ≡ pivot_row v j → y' ≡ with_rows_swapped y j row → y' ≡ with_rows_back x v j (suc k)
back_next x y y' v j k row ey hj hr er ey' =
    let f : ℕ → ℕ → ℕ = λ i c. exchanged_back v (j + 1) k (λ r. entry x r c) i in
    let b : Matrix = with_rows_back x v (j + 1) k in
    ey' ∙ ap (λ m. with_rows_swapped m j row) ey
    ∙ ap (λ n. tabulate n (cols b) (λ r c. entry b (swapped j row r) c)) (rows-tabulate x.rows (cols x) f)
    ∙ ap (λ n. tabulate x.rows n (λ r c. entry b (swapped j row r) c)) (cols-tabulate x.rows (cols x) f)
    ∙ tabulate-same x.rows (cols x) (λ r c. entry b (swapped j row r) c) (λ i c. exchanged_back v j (suc k) (λ r. entry x r c) i)
    (λ i c hi hc. entry-tabulate x.rows (cols x) f (swapped j row i) c (swapped-below j row i x.rows hj hr hi) hc
    ∙ ap (λ r. f (swapped j r i) c) er ∙ sym (exchanged_back-next v j k (λ r. entry x r c) i))

pub back_goes_on : (x y y' : Matrix) (v : List ℕ) (n k j row : ℕ) → y ≡ with_rows_back x v (n - k) k → k < n → j ≡ n - 1 - k → n ≤ x.rows → row < x.rows → row ≡ pivot_row v j → y' ≡ with_rows_swapped y j row → y' ≡ with_rows_back x v (n - (k + 1)) (k + 1)
back_goes_on x y y' v n k j row ey hk ej hn hr er ey' =
    let e : n - k ≡ j + 1 = omega arith in
    let e' : j ≡ n - (k + 1) = omega arith in
    let f : suc k ≡ k + 1 = omega arith in
    back_next x y y' v j k row (ey ∙ ap (λ q. with_rows_back x v q k) e) (omega arith) hr er ey'
    ∙ ap (λ q. with_rows_back x v q (suc k)) e' ∙ ap (with_rows_back x v (n - (k + 1))) f

pub back_ends : (x y : Matrix) (v : List ℕ) (n k : ℕ) → y ≡ with_rows_back x v (n - k) k → k ≡ n → y ≡ with_rows_back x v 0 n
back_ends x y v n k e all =
    let z : n - k ≡ 0 = omega arith in
    e ∙ ap (λ q. with_rows_back x v q k) z ∙ ap (with_rows_back x v 0) all

-- the pivots' rows are rows
below_of : (v : List ℕ) (n : ℕ) → AreRows v 0 n n → AreBelow v 0 n n
unfolding pivot_row
below_of v n rows =
    record { below = λ k h1 h2. (let from = rows.from k h1 h2 in let to = rows.to k h1 h2 in omega (arith, from, to)) }

-- the lower triangle of the transpose, then the upper one, then the exchanges, are the solve with the transpose
transpose-is : (p : ℕ) (inverse : ℕ → ℕ) (a t b b1 b2 b3 : Matrix) (v : List ℕ) → cols a ≡ a.rows → b.rows ≡ a.rows → t ≡ transposed a → AreRows v 0 a.rows a.rows → b1 ≡ with_columns_solved p inverse true false t b → b2 ≡ with_columns_solved p inverse false true t b1 → b3 ≡ with_rows_back b2 v 0 a.rows → b3 ≡ tabulate b.rows (cols b) (λ i j. transposed_solved p inverse (entry a) v a.rows (λ k. entry b k j) i)
transpose-is p inverse a t b b1 b2 b3 v square rows et pivots first second third =
    let n = a.rows in
    let g1 : ℕ → ℕ → ℕ = λ i j. solved_column p inverse true false t.rows (entry t) (λ k. entry b k j) i in
    let g2 : ℕ → ℕ → ℕ = λ i j. solved_column p inverse false true t.rows (entry t) (λ k. entry b1 k j) i in
    let g3 : ℕ → ℕ → ℕ = λ i j. exchanged_back v 0 n (λ r. entry b2 r j) i in
    let rows1 : b1.rows ≡ b.rows = ap (λ (m : Matrix). m.rows) first ∙ rows-tabulate b.rows (cols b) g1 in
    let cols1 : cols b1 ≡ cols b = ap cols first ∙ cols-tabulate b.rows (cols b) g1 in
    let rows2 : b2.rows ≡ b.rows = ap (λ (m : Matrix). m.rows) second ∙ rows-tabulate b1.rows (cols b1) g2 ∙ rows1 in
    let cols2 : cols b2 ≡ cols b = ap cols second ∙ cols-tabulate b1.rows (cols b1) g2 ∙ cols1 in
    let rows_t : t.rows ≡ n = ap (λ (m : Matrix). m.rows) et ∙ rows-transposed a ∙ square in
    let word_t : (i k : ℕ) → i < n → k < n → entry t i k ≡ entry a k i =
    λ i k hi hk. ap (λ m. entry m i k) et ∙ entry-transposed a i k (omega arith) hk in
    let word1 : (i j : ℕ) → i < n → j < cols b → entry b1 i j ≡ solution p inverse false (flipped (entry a)) (λ k. entry b k j) i =
    λ i j hi hj. ap (λ m. entry m i j) first ∙ entry-tabulate b.rows (cols b) g1 i j (omega arith) hj
    ∙ solution-same p inverse false (entry t) (flipped (entry a)) (λ k. entry b k j) (λ k. entry b k j) i (λ r k hr hk. word_t r k (omega arith) (omega arith)) (λ r _. refl) in
    let word2 : (i j : ℕ) → i < n → j < cols b → entry b2 i j ≡ upper_solution p inverse true n (flipped (entry a)) (solution p inverse false (flipped (entry a)) (λ k. entry b k j)) i =
    λ i j hi hj. ap (λ m. entry m i j) second ∙ entry-tabulate b1.rows (cols b1) g2 i j (omega arith) (omega arith)
    ∙ ap (λ r. upper_solution p inverse true r (entry t) (λ k. entry b1 k j) i) rows_t
    ∙ upper_solution-same p inverse true n (entry t) (flipped (entry a)) (λ k. entry b1 k j) (solution p inverse false (flipped (entry a)) (λ k. entry b k j)) word_t (λ r hr. word1 r j hr hj) i hi in
    third ∙ ap (λ r. tabulate r (cols b2) g3) rows2 ∙ ap (λ r. tabulate b.rows r g3) cols2
    ∙ tabulate-same b.rows (cols b) g3 (λ i j. transposed_solved p inverse (entry a) v n (λ k. entry b k j) i)
    (λ i j hi hj. word2 (came_back_from v 0 n i) j (came_back_from-below v 0 n n i (omega arith) (below_of v n pivots) (omega arith)) hj)

pub transpose_done : (p : ℕ) (inverse : ℕ → ℕ) (a t b b1 b2 b3 : Matrix) (v : List ℕ) (info n : ℕ) → n ≡ a.rows → info ≡ least_zero (diagonal (entry a)) n → info ≡ 0 → cols a ≡ a.rows → b.rows ≡ a.rows → t ≡ transposed a → AreRows v 0 a.rows a.rows → b1 ≡ with_columns_solved p inverse true false t b → b2 ≡ with_columns_solved p inverse false true t b1 → b3 ≡ with_rows_back b2 v 0 n → b3 ≡ (trans_solved p inverse true a v b).matrix
transpose_done p inverse a t b b1 b2 b3 v info n en found e square rows et pivots first second third =
    solved_when (first_zero a) b b3 (transposed_solved p inverse (entry a) v a.rows) (ap (least_zero (diagonal (entry a))) (sym en) ∙ sym found ∙ e)
    (transpose-is p inverse a t b b1 b2 b3 v square rows et pivots first second (third ∙ ap (with_rows_back b2 v 0) en))

-- the diagonal of the transpose has no 0
pub turned_diagonal : (a t : Matrix) → cols a ≡ a.rows → t ≡ transposed a → ((i : ℕ) → i < a.rows → entry a i i ≢ 0) → (i : ℕ) → i < t.rows → entry t i i ≢ 0
turned_diagonal a t square et some i h =
    let rows_t : t.rows ≡ a.rows = ap (λ (m : Matrix). m.rows) et ∙ rows-transposed a ∙ square in
    λ z. some i (omega arith) (sym (ap (λ m. entry m i i) et ∙ entry-transposed a i i (omega arith) (omega arith)) ∙ z)

pub row_of_pivot : (v : List ℕ) (k : ℕ) → k < length v → get_or v k 0 - 1 ≡ pivot_row v k
unfolding pivot_row
row_of_pivot v k h = refl
