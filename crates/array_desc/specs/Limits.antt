-- The limits of a descriptor and of the grid that it lies on.
use Rattle.std.specs.Prelude.{ℕ}

-- the greatest number of rows and of columns of a matrix
abbrev pub size_limit : ℕ
size_limit = 1024

-- the greatest number of rows and of columns of a block
abbrev pub block_limit : ℕ
block_limit = 128

-- the greatest number of process rows and of process columns
abbrev pub process_limit : ℕ
process_limit = 16
