-- Gaussian elimination by columns, on words modulo p as a function of row and column, both counted from 0. Over a prime field no word is
-- larger than another, so the pivot of a column is its first word at or below the diagonal that is not 0 (as LAPACK's xGETF2, but for that rule).
-- `inverse` gives each word its inverse.
use Rattle.std.specs.Prelude.{ℕ, zero, suc, ◌+◌, ◌-◌, ◌*◌, ◌%◌, ◌==◌, if◌then◌else◌, nat_lt, Option, Some, None, List, [], ◌∷◌, ◌++◌, slice_index_or, min}
use Rattle.run_data.specs.Matrix.{Matrix, cols, entry, tabulate}
use Rattle.local_blas.specs.Kernels.{swapped}

-- the first row from i on, of the next count rows, whose word in the column c is not 0
unfoldable pub pivot_from : (ℕ → ℕ) → ℕ → ℕ → Option ℕ
pivot_from c i zero = None
pivot_from c i (suc count) = if c i == 0 then pivot_from c (i + 1) count else Some i

-- the words a, where rows i and j have changed places
abbrev pub exchange : ℕ → ℕ → (ℕ → ℕ → ℕ) → ℕ → ℕ → ℕ
exchange i j a r k = a (swapped i j r) k

-- the words a, where each word below the diagonal of column j is divided by the one on it
unfoldable pub divide : ℕ → (ℕ → ℕ) → ℕ → (ℕ → ℕ → ℕ) → ℕ → ℕ → ℕ
divide p inverse j a i k = if k == j then (if nat_lt j i then (a i j * inverse (a j j)) % p else a i k) else a i k

-- the words a, where each word below row j and right of column j loses the product of those that stand in its row in column j and in its column in row j
unfoldable pub subtract : ℕ → ℕ → (ℕ → ℕ → ℕ) → ℕ → ℕ → ℕ
subtract p j a i k = if nat_lt j k then (if nat_lt j i then (a i k + (p - 1) * (a i j * a j k)) % p else a i k) else a i k

-- what the elimination has made: the words, the pivots' row numbers from 1, and the number of the first column without a pivot, or 0
pub record Eliminated : Type 0 where
  pub words : ℕ → ℕ → ℕ
  pub pivots : List ℕ
  pub info : ℕ

-- column j, with the row of its pivot
unfoldable pub with_pivot : ℕ → (ℕ → ℕ) → ℕ → Eliminated → Option ℕ → Eliminated
with_pivot p inverse j s None = record { words = s.words; pivots = s.pivots ++ ((j + 1) ∷ []); info = if s.info == 0 then j + 1 else s.info }
with_pivot p inverse j s (Some r) = record { words = subtract p j (divide p inverse j (exchange j r s.words)); pivots = s.pivots ++ ((r + 1) ∷ []); info = s.info }

-- column j of m rows: the pivot is the first word at or below the diagonal that is not 0
unfoldable pub eliminate_column : ℕ → (ℕ → ℕ) → ℕ → ℕ → Eliminated → Eliminated
eliminate_column p inverse m j s = with_pivot p inverse j s (pivot_from (λ i. s.words i j) j (m - j))

-- the next n columns from `first` on
unfoldable pub eliminate_columns : ℕ → (ℕ → ℕ) → ℕ → ℕ → ℕ → Eliminated → Eliminated
eliminate_columns p inverse m first zero s = s
eliminate_columns p inverse m first (suc n) s = eliminate_column p inverse m (first + n) (eliminate_columns p inverse m first n s)

-- nothing done yet
abbrev pub untouched : (ℕ → ℕ → ℕ) → Eliminated
untouched a = record { words = a; pivots = []; info = 0 }

-- the elimination of m rows and n columns
unfoldable pub elimination : ℕ → (ℕ → ℕ) → ℕ → ℕ → (ℕ → ℕ → ℕ) → Eliminated
elimination p inverse m n a = eliminate_columns p inverse m 0 (min m n) (untouched a)

-- the number, from 1, of the first of the words c 0, .., c (n - 1) that is 0, or 0 where none is
unfoldable pub least_zero : (ℕ → ℕ) → ℕ → ℕ
least_zero c zero = 0
least_zero c (suc n) = let before = least_zero c n in if before == 0 then (if c n == 0 then n + 1 else 0) else before

-- the words on the diagonal
abbrev pub diagonal : (ℕ → ℕ → ℕ) → ℕ → ℕ
diagonal a i = a i i

-- the elimination of a matrix
abbrev pub elimination_of : ℕ → (ℕ → ℕ) → Matrix → Eliminated
elimination_of p inverse a = elimination p inverse a.rows (cols a) (entry a)

-- the matrix that it leaves
abbrev pub eliminated_matrix : ℕ → (ℕ → ℕ) → Matrix → Matrix
eliminated_matrix p inverse a = tabulate a.rows (cols a) (elimination_of p inverse a).words

-- the row, from 0, of the pivot of column j
unfoldable pub pivot_row : List ℕ → ℕ → ℕ
pivot_row v j = slice_index_or v j 0 - 1

-- where the word of a row comes from, after the exchanges of rows first, .., first + n - 1 with the rows that v gives, in order
unfoldable pub came_from : List ℕ → ℕ → ℕ → ℕ → ℕ
came_from v first zero i = i
came_from v first (suc n) i = came_from v first n (swapped (first + n) (pivot_row v (first + n)) i)

-- a column after these exchanges
abbrev pub exchanged : List ℕ → ℕ → ℕ → (ℕ → ℕ) → ℕ → ℕ
exchanged v first n x i = x (came_from v first n i)
