-- Matrices, seen as lists of columns.
use Rattle.std.specs.Prelude.{◌≡◌, ℕ, ◌<◌, ◌==◌, ◌&&◌, if◌then◌else◌, List, [], map, length, slice_index_or, refl}
use Rattle.std.specs.Coded.{Coded, code_by, coded×, coded_ℕ, coded_list}
use Rattle.std.specs.List.{range_with_len}

-- a matrix by its columns, each of `rows` words
pub record Matrix : Type 0 where
  pub rows : ℕ
  pub columns : List (List ℕ)

-- a matrix is stored as the pair of its fields
abbrev pub matrix_code : Coded Matrix
matrix_code = code_by (ℕ × List (List ℕ)) (coded× coded_ℕ (coded_list (coded_list coded_ℕ))) (λ a. (a.rows, a.columns)) (λ p. record { rows = p.0; columns = p.1 }) (λ _. refl)

-- the number of columns
abbrev pub cols : Matrix → ℕ
cols a = length a.columns

-- the word at row i and column j, both counted from 0, and 0 outside the matrix
unfoldable pub entry : Matrix → ℕ → ℕ → ℕ
entry a i j = slice_index_or (slice_index_or a.columns j []) i 0

-- each column has as many words as there are rows
unfoldable pub IsShaped : Matrix → Type 0
IsShaped a = (j : ℕ) → j < cols a → length (slice_index_or a.columns j []) ≡ a.rows

-- each word is below p
pub record AreWords (p : ℕ) (a : Matrix) : Type 0 where
  pub below : (i j : ℕ) → entry a i j < p

-- the matrix of m rows and n columns whose word at row i and column j is f i j
unfoldable pub tabulate : ℕ → ℕ → (ℕ → ℕ → ℕ) → Matrix
tabulate m n f = record { rows = m; columns = map (λ j. map (λ i. f i j) (range_with_len 0 m)) (range_with_len 0 n) }

-- the matrix of m rows and n columns of zeros
abbrev pub zero_matrix : ℕ → ℕ → Matrix
zero_matrix m n = tabulate m n (λ i j. 0)

-- the matrix with the word at row i and column j replaced
abbrev pub with_entry : Matrix → ℕ → ℕ → ℕ → Matrix
with_entry a i j x = tabulate a.rows (cols a) (λ r c. if (r == i) && (c == j) then x else entry a r c)
