-- Panels on one matrix, whose strips are matrices of their own.
use Rattle.std.specs.Prelude.{ℕ, ◌+◌, ◌-◌, ◌<◌, ◌≤◌, if◌then◌else◌, nat_lt, min, slice_index, List}
use Rattle.run_data.specs.Matrix.{Matrix, cols, entry, tabulate}
use Rattle.serial_model.specs.Elimination.{Eliminated, exchanged}
use Rattle.elimination.specs.Panels.{carried}

-- the numbers of the list from first to first + n - 1 are rows, from 1 to m
pub record AreRows (v : List ℕ) (first n m : ℕ) : Type 0 where
  pub from : (k : ℕ) → first ≤ k → k < first + n → 0 < slice_index v k
  pub to : (k : ℕ) → first ≤ k → k < first + n → slice_index v k ≤ m

-- the columns after the exchanges
abbrev pub with_rows_exchanged : Matrix → List ℕ → ℕ → ℕ → Matrix
with_rows_exchanged x v first n = tabulate x.rows (cols x) (λ i k. exchanged v first n (λ r. entry x r k) i)

-- the columns after a panel went over them, whose words stand in l from column 0 on
abbrev pub with_carried : ℕ → (ℕ → ℕ) → Matrix → Matrix → List ℕ → ℕ → ℕ → Matrix
with_carried p inverse x l v first n = tabulate x.rows (cols x) (λ i k. carried p inverse (λ i k. entry l i (k - first)) v first n (λ r. entry x r k) i)

-- the columns from c0 to c1 - 1, as a matrix of their own
abbrev pub cut_columns : Matrix → ℕ → ℕ → Matrix
cut_columns a c0 c1 = tabulate a.rows (c1 - c0) (λ i j. entry a i (c0 + j))

-- the columns of b in place of those of a from c0 to c1 - 1
abbrev pub with_columns : Matrix → ℕ → ℕ → Matrix → Matrix
with_columns a c0 c1 b = tabulate a.rows (cols a) (λ i k. if nat_lt k c0 then entry a i k else if nat_lt k c1 then entry b i (k - c0) else entry a i k)

-- the words of a strip that begins at column `first`, by the columns of the whole matrix
abbrev pub strip_words : ℕ → Matrix → ℕ → ℕ → ℕ
strip_words first a i k = entry a i (k - first)

-- the strip of m rows and n columns from column `first` on
abbrev pub strip_of_words : ℕ → ℕ → ℕ → (ℕ → ℕ → ℕ) → Matrix
strip_of_words m n first f = tabulate m n (λ i k. f i (first + k))

-- the strip as a state of the elimination, after the pivots v
abbrev pub strip_state : ℕ → Matrix → List ℕ → Eliminated
strip_state first a v = record { words = strip_words first a; pivots = v; info = 0 }

-- a matrix as a state of the elimination, after the pivots v
abbrev pub whole_state : Matrix → List ℕ → Eliminated
whole_state a v = record { words = entry a; pivots = v; info = 0 }

-- how many columns the panel of at most nb columns that begins at column `first` eliminates
abbrev pub panel_count : Matrix → ℕ → ℕ → ℕ
panel_count a first nb = min nb (min a.rows (cols a) - first)
