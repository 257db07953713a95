-- Rectangular parts of matrices.
use Rattle.std.specs.Prelude.{◌≡◌, ℕ, ◌+◌, ◌-◌, ◌≤◌, ◌&&◌, if◌then◌else◌, Bool, nat_lt, nat_le}
use Rattle.run_data.specs.declared.matrix.Part.{Part}
use Rattle.run_data.specs.Matrix.{Matrix, cols, entry, tabulate}

-- the part lies in the matrix
pub record IsWithin (at : Part) (a : Matrix) : Type 0 where
  pub rows_ordered : at.r0 ≤ at.r1
  pub rows_end : at.r1 ≤ a.rows
  pub columns_ordered : at.c0 ≤ at.c1
  pub columns_end : at.c1 ≤ cols a

-- two parts have as many rows and as many columns
pub record SameShape (at sp : Part) : Type 0 where
  pub rows : at.r1 - at.r0 ≡ sp.r1 - sp.r0
  pub columns : at.c1 - at.c0 ≡ sp.c1 - sp.c0

-- whether row i and column j of the matrix are in the part
abbrev pub in_part : Part → ℕ → ℕ → Bool
in_part at i j = nat_le at.r0 i && nat_lt i at.r1 && nat_le at.c0 j && nat_lt j at.c1

-- all of a matrix, as a part
abbrev pub whole_part : Matrix → Part
whole_part a = record { r0 = 0; r1 = a.rows; c0 = 0; c1 = cols a }

-- the words f inside the part, and those of g outside
unfoldable pub patched : Part → (ℕ → ℕ → ℕ) → (ℕ → ℕ → ℕ) → ℕ → ℕ → ℕ
patched at f g i j = if in_part at i j then f i j else g i j

-- the matrix with the words f in the part, by the places of the whole matrix, and its own words elsewhere
abbrev pub with_part : Matrix → Part → (ℕ → ℕ → ℕ) → Matrix
with_part a at f = tabulate a.rows (cols a) (patched at f (entry a))

-- the word at row i and column j of a part, both counted from 0 in the part
abbrev pub part_entry : Matrix → Part → ℕ → ℕ → ℕ
part_entry a at i j = entry a (at.r0 + i) (at.c0 + j)

-- the part as a matrix of its own
abbrev pub part_of : Matrix → Part → Matrix
part_of a at = tabulate (at.r1 - at.r0) (at.c1 - at.c0) (part_entry a at)

-- the matrix with the words of a part of another in the part `at`
abbrev pub with_copy : Matrix → Part → Matrix → Part → Matrix
with_copy dst at src sp = with_part dst at (λ i j. part_entry src sp (i - at.r0) (j - at.c0))
