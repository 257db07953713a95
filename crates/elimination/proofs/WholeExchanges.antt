-- The loop that exchanges rows of one matrix.
use Rattle.std.proofs.Common.{◌≡◌, ℕ, suc, ◌+◌, ◌-◌, ◌<◌, List, length, refl, ◌∙◌, ap, add-one, get_or}
use Rattle.run_data.specs.Matrix.{Matrix, cols, entry, IsShaped, tabulate}
use Rattle.run_data.proofs.Matrices.{tabulate_is, tabulate-same, rows-tabulate, cols-tabulate, entry-tabulate}
use Rattle.local_blas.specs.Kernels.{swapped, with_rows_swapped}
use Rattle.local_blas.proofs.Swaps.{swapped-below}
use Rattle.serial_model.specs.Elimination.{pivot_row, came_from, exchanged}
use Rattle.elimination.specs.Whole.{with_rows_exchanged}

pub exchange_starts : (x : Matrix) (v : List ℕ) (first : ℕ) → IsShaped x → x ≡ with_rows_exchanged x v first 0
unfolding came_from
exchange_starts x v first shaped = tabulate_is x x.rows (cols x) (λ i k. exchanged v first 0 (λ r. entry x r k) i) shaped refl refl (λ i j _ _. refl)

pub exchange_goes_on : (x y y' : Matrix) (v : List ℕ) (first j row : ℕ) → y ≡ with_rows_exchanged x v first j → first + j < x.rows → row < x.rows → row ≡ pivot_row v (first + j) → y' ≡ with_rows_swapped y (first + j) row → y' ≡ with_rows_exchanged x v first (j + 1)
unfolding came_from
exchange_goes_on x y y' v first j row ey h hr er ey' =
    let f : ℕ → ℕ → ℕ = λ i k. exchanged v first j (λ r. entry x r k) i in
    let b : Matrix = with_rows_exchanged x v first j in
    rw add-one (ey' ∙ ap (λ m. with_rows_swapped m (first + j) row) ey
    ∙ ap (λ k. tabulate k (cols b) (λ r c. entry b (swapped (first + j) row r) c)) (rows-tabulate x.rows (cols x) f)
    ∙ ap (λ k. tabulate x.rows k (λ r c. entry b (swapped (first + j) row r) c)) (cols-tabulate x.rows (cols x) f)
    ∙ tabulate-same x.rows (cols x) (λ r c. entry b (swapped (first + j) row r) c) (λ i k. exchanged v first (suc j) (λ r. entry x r k) i)
    (λ i k hi hk. entry-tabulate x.rows (cols x) f (swapped (first + j) row i) k (swapped-below (first + j) row i x.rows h hr hi) hk
    ∙ ap (λ r. f (swapped (first + j) r i) k) er))

pub rows-exchanged : (x : Matrix) (v : List ℕ) (first n : ℕ) → (with_rows_exchanged x v first n).rows ≡ x.rows
rows-exchanged x v first n = rows-tabulate x.rows (cols x) (λ i k. exchanged v first n (λ r. entry x r k) i)

pub cols-exchanged : (x : Matrix) (v : List ℕ) (first n : ℕ) → cols (with_rows_exchanged x v first n) ≡ cols x
cols-exchanged x v first n = cols-tabulate x.rows (cols x) (λ i k. exchanged v first n (λ r. entry x r k) i)

pub row_of_pivot : (v : List ℕ) (k : ℕ) → k < length v → get_or v k 0 - 1 ≡ pivot_row v k
unfolding pivot_row
row_of_pivot v k h = refl
