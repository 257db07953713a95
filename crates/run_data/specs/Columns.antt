-- Lending all words of a matrix, column by column.
use Rattle.std.specs.Prelude.{ℕ, ◌+◌, ◌*◌, List, slice_index_or}
use Rattle.std.specs.Borrow.{Lends, MutBor, Fml, Array, u32 as word}
use Rattle.run_data.specs.Matrix.{Matrix, cols, entry, tabulate}
use Rattle.run_data.specs.contracts.matrix.Mat.{the_row}

-- the matrix of that shape with these words, column by column, and its own past their end
abbrev pub with_words : Matrix → List ℕ → Matrix
with_words a w = tabulate a.rows (cols a) (λ i j. slice_index_or w (j * a.rows + i) (entry a i j))

-- m ends with the words that are left behind r
abbrev pub LendsWords : MutBor Matrix → MutBor (List ℕ) → Fml
LendsWords m r = Lends the_row (Array word 0) m r (with_words m.now)
