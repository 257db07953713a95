-- What the kernels make of a matrix. All of them compute modulo p; those that divide take beside it the function that gives each word its inverse.
use Rattle.std.specs.Prelude.{◌≡◌, ◌==◌, ◌&&◌, if◌then◌else◌, Bool, true, nat_le, zero, suc, ℕ, ◌+◌, ◌-◌, ◌*◌, ◌%◌}
use Rattle.field_core.specs.Sums.{sum_to}
use Rattle.run_data.specs.declared.matrix.Part.{Part}
use Rattle.run_data.specs.Matrix.{Matrix, cols, entry, tabulate}
use Rattle.run_data.specs.Parts.{part_entry, with_part}
pub use Rattle.run_data.specs.Matrix.{AreWords}
pub use Rattle.run_data.specs.Parts.{part_entry, with_copy}

-- the shapes of a product: the part `at` is as large as `lp` times `rp`
pub record ShapesMultiply (at lp rp : Part) : Type 0 where
  pub rows : at.r1 - at.r0 ≡ lp.r1 - lp.r0
  pub columns : at.c1 - at.c0 ≡ rp.c1 - rp.c0
  pub inner : lp.c1 - lp.c0 ≡ rp.r1 - rp.r0

-- the shapes of a triangular solve: the block is square, with as many rows as the part `at`
pub record ShapesSolve (at bp : Part) : Type 0 where
  pub square : bp.r1 - bp.r0 ≡ bp.c1 - bp.c0
  pub rows : at.r1 - at.r0 ≡ bp.r1 - bp.r0

-- the part gets a function of the word there and of its row and column, counted from 0 in the part
abbrev pub with_words_of : Matrix → Part → (ℕ → ℕ → ℕ → ℕ) → Matrix
with_words_of dst at f = with_part dst at (λ i j. f (entry dst i j) (i - at.r0) (j - at.c0))

-- each word of the part is multiplied by a
abbrev pub with_scaled : ℕ → Matrix → Part → ℕ → Matrix
with_scaled p dst at a = with_words_of dst at (λ x i j. (x * a) % p)

-- each word of the part gains a times the other part's, where a test of its place in the whole matrix holds
abbrev pub with_added : ℕ → Matrix → Part → ℕ → Matrix → Part → (ℕ → ℕ → Bool) → Matrix
with_added p dst at a src sp test = with_words_of dst at (λ x i j. if test (at.r0 + i) (at.c0 + j) then (x + a * part_entry src sp i j) % p else x)

-- the test that always holds
abbrev pub everywhere : ℕ → ℕ → Bool
everywhere i j = true

-- the word at row i and column j of the product of two parts, as a sum of whole numbers
abbrev pub product_word : Matrix → Part → Matrix → Part → ℕ → ℕ → ℕ
product_word left lp right rp i j = sum_to (lp.c1 - lp.c0) (λ k. part_entry left lp i k * part_entry right rp k j)

-- the part gains a times the product
abbrev pub with_product : ℕ → Matrix → Part → ℕ → Matrix → Part → Matrix → Part → Matrix
with_product p dst at a left lp right rp = with_words_of dst at (λ x i j. (x + a * product_word left lp right rp i j) % p)

-- x divided by d, or x itself where the diagonal counts as 1
abbrev pub divided : ℕ → (ℕ → ℕ) → Bool → ℕ → ℕ → ℕ
divided p inverse unit d x = if unit then x else (x * inverse d) % p

-- the first n words of the solution of l * x = b for a lower triangle l: each is that of b less what the earlier ones give, divided by the diagonal
unfoldable pub substituted : ℕ → (ℕ → ℕ) → Bool → (ℕ → ℕ → ℕ) → (ℕ → ℕ) → ℕ → ℕ → ℕ
substituted p inverse unit l b zero k = 0
substituted p inverse unit l b (suc n) k =
    if k == n then divided p inverse unit (l n n) ((b n + (p - 1) * sum_to n (λ m. l n m * substituted p inverse unit l b n m)) % p) else substituted p inverse unit l b n k

-- word i of that solution
unfoldable pub solution : ℕ → (ℕ → ℕ) → Bool → (ℕ → ℕ → ℕ) → (ℕ → ℕ) → ℕ → ℕ
solution p inverse unit l b i = substituted p inverse unit l b (suc i) i

-- each column of the part is solved by the lower triangle of a block
abbrev pub with_solved_lower : ℕ → (ℕ → ℕ) → Matrix → Part → Matrix → Part → Bool → Matrix
with_solved_lower p inverse dst at block bp unit =
    with_words_of dst at (λ x i j. solution p inverse unit (part_entry block bp) (λ k. part_entry dst at k j) i)

-- row i of n rows counted from the last one
abbrev pub from_last : ℕ → ℕ → ℕ
from_last n i = n - 1 - i

-- word i of the solution of u * x = b for an upper triangle u of n rows: with rows and columns counted from the last one, u is a lower triangle
abbrev pub upper_solution : ℕ → (ℕ → ℕ) → Bool → ℕ → (ℕ → ℕ → ℕ) → (ℕ → ℕ) → ℕ → ℕ
upper_solution p inverse unit n u b i = solution p inverse unit (λ r k. u (from_last n r) (from_last n k)) (λ k. b (from_last n k)) (from_last n i)

-- each column of the part is solved by the upper triangle of a block
abbrev pub with_solved_upper : ℕ → (ℕ → ℕ) → Matrix → Part → Matrix → Part → Bool → Matrix
with_solved_upper p inverse dst at block bp unit =
    with_words_of dst at (λ x i j. upper_solution p inverse unit (at.r1 - at.r0) (part_entry block bp) (λ k. part_entry dst at k j) i)

-- the row that row r's words come from when rows i and j change places
abbrev pub swapped : ℕ → ℕ → ℕ → ℕ
swapped i j r = if r == i then j else if r == j then i else r

-- rows i and j change places in all columns
abbrev pub with_rows_swapped : Matrix → ℕ → ℕ → Matrix
with_rows_swapped a i j = tabulate a.rows (cols a) (λ r c. entry a (swapped i j r) c)

-- the multiplier of row i: its word in column j, divided by the pivot
abbrev pub multiplier : ℕ → (ℕ → ℕ) → Matrix → ℕ → ℕ → ℕ → ℕ
multiplier p inverse a j pivot i = (entry a i j * inverse pivot) % p

-- the word at row i and column k after row i lost its multiple of a pivot row: the multiplier in column j, and right of it what is left
abbrev pub eliminated_word : ℕ → (ℕ → ℕ) → Matrix → ℕ → (ℕ → ℕ) → ℕ → ℕ → ℕ
eliminated_word p inverse a j row i k =
    let m = multiplier p inverse a j (row j) i in
    if k == j then m else (entry a i k + (p - 1) * (m * row k)) % p

-- column j is eliminated in the rows that pass a test, by the first row of a part: the words left of column j stay
abbrev pub with_eliminated : ℕ → (ℕ → ℕ) → Matrix → (ℕ → Bool) → ℕ → Matrix → Part → Matrix
with_eliminated p inverse a below j row rp =
    tabulate a.rows (cols a) (λ i k. if below i && nat_le j k then eliminated_word p inverse a j (part_entry row rp 0) i k else entry a i k)
