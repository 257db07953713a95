-- Triangles of words, and the factors that an elimination leaves in its matrix. Rows and columns count from 0.
use Rattle.std.specs.Prelude.{◌≡◌, ◌≢◌, ℕ, ◌*◌, ◌%◌, ◌<◌, ◌==◌, if◌then◌else◌, nat_lt, min, Bool, true, false}
use Rattle.run_data.specs.Matrix.{Matrix, cols, entry, tabulate}
use Rattle.serial_model.specs.Transposes.{transposed}

-- `inverse` gives each word but 0 a word whose product with it is 1
pub record Inverts (p : ℕ) (inverse : ℕ → ℕ) : Type 0 where
  pub product : (x : ℕ) → x ≢ 0 → x < p → (x * inverse x) % p ≡ 1

-- the word of a triangle of the words f, the lower or the upper one: zeros outside of it, and a diagonal of ones where `unit`
unfoldable pub triangle_word : Bool → Bool → (ℕ → ℕ → ℕ) → ℕ → ℕ → ℕ
triangle_word lower unit f i j =
    if i == j then (if unit then 1 else f i j) else if (if lower then nat_lt j i else nat_lt i j) then f i j else 0

-- a matrix by this triangle of its words
abbrev pub triangle_of : Bool → Bool → Matrix → Matrix
triangle_of lower unit a = tabulate a.rows (cols a) (triangle_word lower unit (entry a))

-- the lower factor that an elimination leaves: the multipliers in its first min(M, N) columns, and ones on the diagonal
abbrev pub lower_factor : Matrix → Matrix
lower_factor f = tabulate f.rows (min f.rows (cols f)) (triangle_word true true (entry f))

-- the upper factor: the words on and above the diagonal in its first min(M, N) rows
abbrev pub upper_factor : Matrix → Matrix
upper_factor f = tabulate (min f.rows (cols f)) (cols f) (triangle_word false false (entry f))

-- a matrix, or its transpose
abbrev pub transposed_if : Bool → Matrix → Matrix
transposed_if trans a = if trans then transposed a else a

-- each word times alpha
abbrev pub multiplied : ℕ → ℕ → Matrix → Matrix
multiplied p alpha b = tabulate b.rows (cols b) (λ i j. (entry b i j * alpha) % p)
