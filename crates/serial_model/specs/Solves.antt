-- Products, triangular solves, solves with the factors of an elimination, and copies of windows, on whole matrices of words modulo p.
-- `inverse` gives each word its inverse.
use Rattle.std.specs.Prelude.{ℕ, ◌+◌, ◌-◌, ◌*◌, ◌%◌, ◌==◌, if◌then◌else◌, Bool, true, false, List}
use Rattle.field_core.specs.Sums.{sum_to}
use Rattle.run_data.specs.declared.matrix.Part.{Part}
use Rattle.run_data.specs.Matrix.{Matrix, cols, entry, tabulate}
use Rattle.run_data.specs.Parts.{with_copy}
use Rattle.local_blas.specs.Kernels.{solution, upper_solution}
use Rattle.serial_model.specs.Elimination.{least_zero, diagonal, exchanged}

-- C becomes alpha A B + beta C (PGEMM)
abbrev pub product_of : ℕ → ℕ → Matrix → Matrix → ℕ → Matrix → Matrix
product_of p alpha a b beta c = tabulate c.rows (cols c) (λ i j. (alpha * sum_to (cols a) (λ k. entry a i k * entry b k j) + beta * entry c i j) % p)

-- a column solved by the triangle of n rows of a: the lower one from the first row down, or the upper one from the last row up
abbrev pub solved_column : ℕ → (ℕ → ℕ) → Bool → Bool → ℕ → (ℕ → ℕ → ℕ) → (ℕ → ℕ) → ℕ → ℕ
solved_column p inverse lower unit n a b i = if lower then solution p inverse unit a b i else upper_solution p inverse unit n a b i

-- a column solved with the factors a and the pivots v of n rows: the exchanges in order, then the lower triangle with a diagonal of ones, then the upper one
abbrev pub solved_with_factors : ℕ → (ℕ → ℕ) → (ℕ → ℕ → ℕ) → List ℕ → ℕ → (ℕ → ℕ) → ℕ → ℕ
solved_with_factors p inverse a v n b = upper_solution p inverse false n a (solution p inverse true a (exchanged v 0 n b))

-- what a solve gives: the right side after it, and INFO
pub record Solved : Type 0 where
  pub matrix : Matrix
  pub info : ℕ

-- the right side with its columns solved where INFO is 0, and as it was where it isn't
abbrev pub solved_unless : ℕ → Matrix → ((ℕ → ℕ) → ℕ → ℕ) → Solved
solved_unless info b solve = record {
  matrix = if info == 0 then tabulate b.rows (cols b) (λ i j. solve (λ k. entry b k j) i) else b;
  info = info;
}

-- INFO of a solve: the number, from 1, of the first zero on the diagonal, or 0 where there is none
abbrev pub first_zero : Matrix → ℕ
first_zero a = least_zero (diagonal (entry a)) a.rows

-- B becomes the X with A X = alpha B for a triangle of A; a diagonal that counts as ones is not tested (PTRSM with SIDE L and TRANSA N)
abbrev pub triangle_solved : ℕ → (ℕ → ℕ) → Bool → Bool → ℕ → Matrix → Matrix → Solved
triangle_solved p inverse lower unit alpha a b = solved_unless (if unit then 0 else first_zero a) b (λ x. solved_column p inverse lower unit a.rows (entry a) (λ k. (x k * alpha) % p))

-- B becomes the X with A X = B, from the factors and the pivots of A (PGETRS with TRANS N)
abbrev pub factors_solved : ℕ → (ℕ → ℕ) → Matrix → List ℕ → Matrix → Solved
factors_solved p inverse a v b = solved_unless (first_zero a) b (solved_with_factors p inverse (entry a) v a.rows)

-- the part of m rows and n columns whose first word is at row i and column j, counted from 1
abbrev pub window : ℕ → ℕ → ℕ → ℕ → Part
window m n i j = record { r0 = i - 1; r1 = i - 1 + m; c0 = j - 1; c1 = j - 1 + n }

-- a window of B becomes the window of A of that shape (PGEMR2D)
abbrev pub window_copied : ℕ → ℕ → Matrix → ℕ → ℕ → Matrix → ℕ → ℕ → Matrix
window_copied m n a ia ja b ib jb = with_copy b (window m n ib jb) a (window m n ia ja)
