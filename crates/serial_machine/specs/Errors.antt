-- The errors that flips add to the words of a matrix, modulo p.
use Rattle.std.specs.Prelude.{ℕ, ◌+◌, ◌%◌, ◌==◌, ◌&&◌, if◌then◌else◌, List}
use Rattle.run_data.specs.Matrix.{Matrix, cols, entry, tabulate}
use Rattle.run_data.specs.declared.flips.Flip.{Flip}
use Rattle.serial_model.specs.Wrong.{error_at}

-- what one flip adds to the word of a row and a column, both counted from 0
abbrev pub error_of : Flip → ℕ → ℕ → ℕ
error_of flip i j = if (flip.row == i + 1) && (flip.column == j + 1) then flip.error else 0

-- what some flips add to each word of m rows and n columns
abbrev pub errors_of : ℕ → ℕ → ℕ → List Flip → Matrix
errors_of p m n flips = tabulate m n (λ i j. error_at flips i j % p)

-- errors, after one flip more
abbrev pub with_error : ℕ → Matrix → Flip → Matrix
with_error p errors flip = tabulate errors.rows (cols errors) (λ i j. (entry errors i j + error_of flip i j) % p)
