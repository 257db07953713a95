-- The limits of a grid, and which of them is broken first.
use Rattle.std.specs.Prelude.{ℕ, ◌+◌, ◌*◌, ◌≤◌, Bool, ◌&&◌, not, nat_le, Option, List, [], ◌∷◌, find, option_map}
use Rattle.blacs_grid.specs.declared.Grid.{Grid}
use Rattle.blacs_grid.specs.declared.GridFault.{GridFault}
use Rattle.blacs_grid.specs.declared.GridFault.TheVariants.{Rows, Cols, Code, Ranks}
use Rattle.blacs_grid.specs.Places.{size}

-- the greatest number of process rows and of data columns
abbrev pub process_limit : ℕ
process_limit = 16

-- the greatest number of code columns
abbrev pub code_column_limit : ℕ
code_column_limit = 4

-- the greatest number of ranks of all grids of a run
abbrev pub rank_limit : ℕ
rank_limit = 64

-- a grid within the limits: 1 to 16 process rows, 1 to 16 data columns, at most 4 code columns, and no rank beyond the 64 of a run
pub record IsGrid (g : Grid) : Type 0 where
  pub some_rows : 1 ≤ g.p
  pub rows : g.p ≤ process_limit
  pub some_columns : 1 ≤ g.q
  pub columns : g.q ≤ process_limit
  pub code_columns : g.f ≤ code_column_limit
  pub ranks : g.first + size g ≤ rank_limit

-- the limits in the order in which they are tested, each with whether it is met
abbrev pub checked_limits : ℕ → ℕ → ℕ → ℕ → List (GridFault × Bool)
checked_limits p q f first =
    (Rows, nat_le 1 p && nat_le p process_limit) ∷ (Cols, nat_le 1 q && nat_le q process_limit)
    ∷ (Code, nat_le f code_column_limit) ∷ (Ranks, nat_le (first + p * (q + f)) rank_limit) ∷ []

-- the first limit that is broken, if there is one
abbrev pub first_fault : ℕ → ℕ → ℕ → ℕ → Option GridFault
first_fault p q f first = option_map (λ limit. limit.0) (find (λ limit. not limit.1) (checked_limits p q f first))
