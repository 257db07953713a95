-- What a substitution makes of a whole matrix.
use Rattle.std.specs.Prelude.{ℕ, Bool, List}
use Rattle.run_data.specs.Matrix.{Matrix, cols, entry, tabulate}
use Rattle.serial_model.specs.Solves.{solved_column}
use Rattle.serial_model.specs.Transposes.{exchanged_back}

-- each column of b is solved by a triangle of a
abbrev pub with_columns_solved : ℕ → (ℕ → ℕ) → Bool → Bool → Matrix → Matrix → Matrix
with_columns_solved p inverse lower unit a b = tabulate b.rows (cols b) (λ i j. solved_column p inverse lower unit a.rows (entry a) (λ k. entry b k j) i)

-- the columns after the exchanges in falling order
abbrev pub with_rows_back : Matrix → List ℕ → ℕ → ℕ → Matrix
with_rows_back x v first n = tabulate x.rows (cols x) (λ i k. exchanged_back v first n (λ r. entry x r k) i)
