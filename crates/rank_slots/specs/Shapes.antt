-- Rectangles, and the entries that a cut reaches.
use Rattle.std.specs.Prelude.{ℕ, ◌-◌, ◌+◌, ◌==◌, ◌||◌, Bool, true, false, not, nat_lt, nat_le}
use Rattle.run_data.specs.declared.matrix.Part.{Part}
use Rattle.run_data.specs.Matrix.{Matrix, entry}
use Rattle.rank_machine.specs.declared.layout.Layout.{Layout}
use Rattle.rank_machine.specs.Setting.{all_below, global_row, global_col}

-- the rectangle of the same shape in the first row and column
abbrev pub from_corner : Part → Part
from_corner at = record { r0 = 0; r1 = at.r1 - at.r0; c0 = 0; c1 = at.c1 - at.c0 }

-- whether an entry of a block column stands on or above the diagonal, or below it
abbrev pub is_in_triangle : Layout → ℕ → Bool → ℕ → ℕ → ℕ → Bool
is_in_triangle d rank true block i j = nat_le (global_row d rank i) (global_col d block j)
is_in_triangle d rank false block i j = nat_lt (global_col d block j) (global_row d rank i)

-- the diagonal of a square part counts as 1, or has no zero
abbrev pub has_nonzero_diagonal : Matrix → Part → Bool → Bool
has_nonzero_diagonal m at unit = unit || all_below (at.r1 - at.r0) (λ i. not (entry m (at.r0 + i) (at.c0 + i) == 0))
