-- Transposes, triangular solves from either side and with the transpose of the triangle, solves with the factors of a transpose, and the inverse by
-- factors, on whole matrices of words modulo p. `inverse` gives each word its inverse.
use Rattle.std.specs.Prelude.{ℕ, zero, suc, ◌+◌, ◌*◌, ◌%◌, ◌==◌, if◌then◌else◌, Bool, true, false, not, List}
use Rattle.run_data.specs.Matrix.{Matrix, cols, entry, tabulate}
use Rattle.local_blas.specs.Kernels.{swapped, solution, upper_solution}
use Rattle.serial_model.specs.Elimination.{pivot_row}
use Rattle.serial_model.specs.Solves.{Solved, triangle_solved, factors_solved, solved_unless, solved_with_factors, first_zero}

-- rows become columns
abbrev pub transposed : Matrix → Matrix
transposed a = tabulate (cols a) a.rows (λ i j. entry a j i)

-- ones on the diagonal and zeros elsewhere
abbrev pub identity_word : ℕ → ℕ → ℕ
identity_word i j = if i == j then 1 else 0

abbrev pub identity_matrix : ℕ → Matrix
identity_matrix n = tabulate n n identity_word

-- C becomes alpha times the transpose of A, plus beta C (PTRAN)
abbrev pub transpose_added : ℕ → ℕ → Matrix → ℕ → Matrix → Matrix
transpose_added p alpha a beta c = tabulate c.rows (cols c) (λ i j. (alpha * entry a j i + beta * entry c i j) % p)

-- ---- triangular solves
-- B becomes the X with op(A) X = alpha B for a triangle of A: with a transpose, that of the other triangle of A's transpose
abbrev pub left_solved : ℕ → (ℕ → ℕ) → Bool → Bool → Bool → ℕ → Matrix → Matrix → Solved
left_solved p inverse trans lower unit alpha a b =
    if trans then triangle_solved p inverse (not lower) unit alpha (transposed a) b else triangle_solved p inverse lower unit alpha a b

-- rows become columns in what a solve gives
abbrev pub turned : Solved → Solved
turned s = record { matrix = transposed s.matrix; info = s.info }

-- B becomes the X with op(A) X = alpha B, or from the right X op(A) = alpha B (PTRSM with any SIDE and TRANSA): from the right it is the transpose of what
-- the left side with the other TRANSA makes of B's transpose
abbrev pub side_solved : ℕ → (ℕ → ℕ) → Bool → Bool → Bool → Bool → ℕ → Matrix → Matrix → Solved
side_solved p inverse left trans lower unit alpha a b =
    if left then left_solved p inverse trans lower unit alpha a b else turned (left_solved p inverse (not trans) lower unit alpha a (transposed b))

-- ---- solves with factors
-- where the word of a row comes from, after the exchanges of rows first + n - 1, .., first with the rows that v gives, in falling order
unfoldable pub came_back_from : List ℕ → ℕ → ℕ → ℕ → ℕ
came_back_from v first zero i = i
came_back_from v first (suc n) i = swapped (first + n) (pivot_row v (first + n)) (came_back_from v first n i)

-- a column after these exchanges
abbrev pub exchanged_back : List ℕ → ℕ → ℕ → (ℕ → ℕ) → ℕ → ℕ
exchanged_back v first n x i = x (came_back_from v first n i)

-- the words of the transpose
abbrev pub flipped : (ℕ → ℕ → ℕ) → ℕ → ℕ → ℕ
flipped a i j = a j i

-- a column solved with the transpose of the matrix that has the factors a and the pivots v of n rows: the transpose of the upper triangle, then that of the
-- lower one with a diagonal of ones, then the exchanges in falling order
abbrev pub transposed_solved : ℕ → (ℕ → ℕ) → (ℕ → ℕ → ℕ) → List ℕ → ℕ → (ℕ → ℕ) → ℕ → ℕ
transposed_solved p inverse a v n b = exchanged_back v 0 n (upper_solution p inverse true n (flipped a) (solution p inverse false (flipped a) b))

-- B becomes the X with A X = B, or with a transpose the X with A^T X = B, from the factors and the pivots of A (PGETRS with any TRANS)
abbrev pub trans_solved : ℕ → (ℕ → ℕ) → Bool → Matrix → List ℕ → Matrix → Solved
trans_solved p inverse trans a v b = solved_unless (first_zero a) b (if trans then transposed_solved p inverse (entry a) v a.rows else solved_with_factors p inverse (entry a) v a.rows)

-- B becomes the inverse of the matrix with the factors f and the pivots v: what the solve with factors makes of the matrix with ones on the diagonal (PGETRI).
-- Where INFO is not 0 B stays.
abbrev pub inverted : ℕ → (ℕ → ℕ) → Matrix → List ℕ → Matrix → Solved
inverted p inverse f v b = record {
  matrix = if first_zero f == 0 then (factors_solved p inverse f v (identity_matrix f.rows)).matrix else b;
  info = first_zero f;
}
