-- Whole matrices and their strips.
use Rattle.std.specs.Prelude.{◌≡◌, ℕ, ◌/◌, ◌%◌, ◌<◌, ◌≤◌, ◌&&◌, ◌==◌, if◌then◌else◌, Bool, List, [], ◌∷◌, map, Contains, IsTrue}
use Rattle.std.specs.List.{flat_map, range_with_len}
use Rattle.run_data.specs.Matrix.{Matrix, cols, entry, tabulate}
use Rattle.array_desc.specs.declared.Desc.{Desc}
use Rattle.array_desc.specs.Maps.{owner, local, group_of}
use Rattle.blacs_grid.specs.declared.Grid.{Grid}
use Rattle.blacs_grid.specs.declared.Scope.TheVariants.{All}
use Rattle.blacs_grid.specs.Places.{row_of, col_of, rank_at, is_data_rank, member, members}
use Rattle.rank_machine.specs.declared.layout.Layout.{Layout}
use Rattle.rank_machine.specs.Setting.{group_count, strip_rows, strip_of, block_at, global_col}

-- how a matrix of this descriptor lies on this grid
abbrev pub layout_of : Grid → Desc → Layout
layout_of grid desc = record { grid = grid; desc = desc }

-- the matrix has the rows and columns of the descriptor
pub record HasShape (d : Layout) (m : Matrix) : Type 0 where
  pub rows : m.rows ≡ d.desc.m
  pub columns : cols m ≡ d.desc.n

-- a data rank of the grid and a group of the matrix
pub record NamesStrip (d : Layout) (rank group : ℕ) : Type 0 where
  pub data_rank : IsTrue (is_data_rank d.grid rank)
  pub group_in : group < group_count d

-- the data rank and the group of the strip in which the entry at row i and column j lies
abbrev pub rank_of_entry : Layout → ℕ → ℕ → ℕ
rank_of_entry d i j = rank_at d.grid (owner i d.desc.mb d.desc.rsrc d.grid.p) (owner j d.desc.nb d.desc.csrc d.grid.q)

abbrev pub group_of_entry : Layout → ℕ → ℕ
group_of_entry d j = group_of (j / d.desc.nb) d.grid.q

-- whether the entry at row i and column j lies in the strip of a group on a rank: at its local row, and at the remainder of its
-- column by the width of a block
abbrev pub holds_entry : Layout → ℕ → ℕ → ℕ → ℕ → Bool
holds_entry d rank group i j =
    ((owner i d.desc.mb d.desc.rsrc d.grid.p == row_of d.grid rank) && (owner j d.desc.nb d.desc.csrc d.grid.q == col_of d.grid rank))
    && (group_of (j / d.desc.nb) d.grid.q == group)

-- the word of a strip at the place where the entry at row i and column j lies
abbrev pub word_in_strip : Layout → Matrix → ℕ → ℕ → ℕ
word_in_strip d strip i j = entry strip (local i d.desc.mb d.grid.p) (j % d.desc.nb)

-- the entry lies in one strip, of a data rank and a group of the matrix, at a local row and a column of that strip
pub record LiesInOneStrip (d : Layout) (i j : ℕ) : Type 0 where
  pub names : NamesStrip d (rank_of_entry d i j) (group_of_entry d j)
  pub holds : IsTrue (holds_entry d (rank_of_entry d i j) (group_of_entry d j) i j)
  pub only : (rank group : ℕ) → NamesStrip d rank group → IsTrue (holds_entry d rank group i j) → (rank ≡ rank_of_entry d i j) × (group ≡ group_of_entry d j)
  pub row : local i d.desc.mb d.grid.p < strip_rows d (row_of d.grid (rank_of_entry d i j))
  pub column : j % d.desc.nb < d.desc.nb

-- the strip has the words of the entries that lie in it
abbrev pub HoldsEntries : Layout → Matrix → ℕ → ℕ → Matrix → Type 0
HoldsEntries d m rank group strip = (i j : ℕ) → i < d.desc.m → j < d.desc.n → IsTrue (holds_entry d rank group i j) → word_in_strip d strip i j ≡ entry m i j

-- the matrix with the words of a strip at the entries that lie in it, and its own words elsewhere
abbrev pub with_strip : Layout → Matrix → ℕ → ℕ → Matrix → Matrix
with_strip d out rank group strip =
    tabulate out.rows (cols out) (λ i j. if holds_entry d rank group i j then word_in_strip d strip i j else entry out i j)

-- the strip has the shape of one on that rank
pub record HasStripShape (d : Layout) (rank : ℕ) (strip : Matrix) : Type 0 where
  pub rows : strip.rows ≡ strip_rows d (row_of d.grid rank)
  pub columns : cols strip ≡ d.desc.nb

-- the strip has zeros past the last column of the matrix
abbrev pub IsPadded : Layout → ℕ → ℕ → Matrix → Type 0
IsPadded d rank group strip = (i j : ℕ) → i < strip.rows → j < cols strip → d.desc.n ≤ global_col d (block_at d group (col_of d.grid rank)) j → entry strip i j ≡ 0

-- the matrix after the strips of another were placed in it, one after the other; a strip is named by its rank and its group
abbrev pub with_strips : Layout → Matrix → Matrix → List (ℕ × ℕ) → Matrix
with_strips d m out [] = out
with_strips d m out (at ∷ rest) = with_strips d m (with_strip d out at.0 at.1 (strip_of d m at.0 at.1)) rest

-- no strip is missing in the list
abbrev pub HasEveryStrip : Layout → List (ℕ × ℕ) → Type 0
HasEveryStrip d strips = (rank group : ℕ) → NamesStrip d rank group → Contains strips (rank, group)

-- the strips of a group, the data ranks row by row
abbrev pub strips_of_group : Layout → ℕ → List (ℕ × ℕ)
strips_of_group d group = map (λ i. (member d.grid All i, group)) (range_with_len 0 (members d.grid All))

-- all strips: the groups by rising number, and of each group the data ranks row by row
abbrev pub all_strips : Layout → List (ℕ × ℕ)
all_strips d = flat_map (strips_of_group d) (range_with_len 0 (group_count d))
