-- A column of a matrix, and of a part.
use Rattle.std.specs.Prelude.{ℕ, ◌+◌}
use Rattle.run_data.specs.declared.matrix.Part.{Part}
use Rattle.run_data.specs.Matrix.{Matrix}

-- the rows of a part in one column
abbrev pub column_in : Part → ℕ → Part
column_in at j = record { r0 = at.r0; r1 = at.r1; c0 = j; c1 = j + 1 }

-- a column of a matrix, as a part
abbrev pub column : Matrix → ℕ → Part
column m j = record { r0 = 0; r1 = m.rows; c0 = j; c1 = j + 1 }
