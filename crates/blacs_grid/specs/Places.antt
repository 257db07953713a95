-- The places of a process grid (BLACS routines BLACS_GRIDINIT, BLACS_PNUM and BLACS_PCOORD, row-major). Rows and columns
-- count from 0, the ranks of a grid follow one another row by row, and data columns come before code columns.
use Rattle.std.specs.Prelude.{◌≡◌, ℕ, ◌+◌, ◌-◌, ◌*◌, ◌/◌, ◌%◌, ◌<◌, Bool, ◌&&◌, ◌==◌, nat_lt, nat_le, IsTrue}
use Rattle.blacs_grid.specs.declared.Grid.{Grid}
use Rattle.blacs_grid.specs.declared.Scope.{Scope}
use Rattle.blacs_grid.specs.declared.Scope.TheVariants.{Row, Column, All}

-- how many process columns there are, data and code
abbrev pub width : Grid → ℕ
width g = g.q + g.f

-- how many ranks there are
abbrev pub size : Grid → ℕ
size g = g.p * width g

-- the rank at a row and a column
abbrev pub rank_at : Grid → ℕ → ℕ → ℕ
rank_at g row col = g.first + row * width g + col

-- whether a rank is one of the grid's
abbrev pub is_member : Grid → ℕ → Bool
is_member g rank = nat_le g.first rank && nat_lt rank (g.first + size g)

-- the row and the column of a rank of the grid
abbrev pub row_of : Grid → ℕ → ℕ
row_of g rank = (rank - g.first) / width g

abbrev pub col_of : Grid → ℕ → ℕ
col_of g rank = (rank - g.first) % width g

-- whether a rank is one of the grid's on a data column, and on a code column
abbrev pub is_data_rank : Grid → ℕ → Bool
is_data_rank g rank = is_member g rank && nat_lt (col_of g rank) g.q

abbrev pub is_code_rank : Grid → ℕ → Bool
is_code_rank g rank = is_member g rank && nat_le g.q (col_of g rank)

-- a scope names a row or a column of the grid
abbrev pub IsScopeOf : Grid → Scope → Type 0
IsScopeOf g (Row row) = row < g.p
IsScopeOf g (Column col) = col < width g
IsScopeOf g All = Unit {0}

-- whether a rank is meant by a scope: the ranks of one row with its code ranks, those of one column, or all data ranks
abbrev pub is_in_scope : Grid → Scope → ℕ → Bool
is_in_scope g (Row row) rank = is_member g rank && (row_of g rank == row)
is_in_scope g (Column col) rank = is_member g rank && (col_of g rank == col)
is_in_scope g All rank = is_data_rank g rank

-- how many members a scope has
abbrev pub members : Grid → Scope → ℕ
members g (Row row) = width g
members g (Column col) = g.p
members g All = g.p * g.q

-- a member of a scope by its number: along the row, down the column, or row by row
abbrev pub member : Grid → Scope → ℕ → ℕ
member g (Row row) i = rank_at g row i
member g (Column col) i = rank_at g i col
member g All i = rank_at g (i / g.q) (i % g.q)

-- the number of a rank among the members of a scope
abbrev pub number_in : Grid → Scope → ℕ → ℕ
number_in g (Row row) rank = col_of g rank
number_in g (Column col) rank = row_of g rank
number_in g All rank = row_of g rank * g.q + col_of g rank

-- the members of a scope are the ranks that it means, each once
pub record AreMembers (g : Grid) (scope : Scope) (count : ℕ) : Type 0 where
  pub inside : (i : ℕ) → i < count → IsTrue (is_in_scope g scope (member g scope i))
  pub distinct : (i j : ℕ) → i < count → j < count → member g scope i ≡ member g scope j → i ≡ j
  pub each : (rank : ℕ) → IsTrue (is_in_scope g scope rank) → (i : ℕ) × (i < count) × (member g scope i ≡ rank)
