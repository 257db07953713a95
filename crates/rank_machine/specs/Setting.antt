-- What a journal is judged by: the field, the grids, the losses, the matrices of the files, and what each line of the script asks of the machine, its names resolved.
use Rattle.std.specs.Prelude.{ℕ, zero, suc, ◌+◌, ◌*◌, Bool, true, false, ◌&&◌, ◌||◌, if◌then◌else◌, ◌==◌, nat_lt, min, Option, None, is_some, unwrap_or, List, [], ◌∷◌, slice_index_or}
use Rattle.run_data.specs.Matrix.{Matrix, entry, tabulate}
use Rattle.array_desc.specs.Descriptors.{desc_of}
use Rattle.array_desc.specs.Maps.{global, numroc, ceil_div, groups, block_in}
use Rattle.blacs_grid.specs.declared.Grid.{Grid}
use Rattle.blacs_grid.specs.Places.{size, is_member, row_of, col_of}
use Rattle.rank_machine.specs.declared.layout.Layout.{Layout}
use Rattle.rank_machine.specs.declared.record.Loss.{Loss}

-- ---- what the machine needs of a script
-- where the sends of a line may go: anywhere, or in a product to the next member of a row or column, to the one before, or to any
pub data Path : Type 0 where
  anywhere : Path
  forwards : Path
  backwards : Path
  members : Path

-- what a line that makes records asks of the machine. Lines count from 1, and 0 is no line.
pub record Job : Type 0 where
  pub line : ℕ
  -- the layout of the matrix that it makes
  pub makes : Option Layout
  -- the line of the matrix that it factors
  pub factors : ℕ
  -- the line that made what it drops
  pub drops : ℕ
  -- the line of the matrix that it prints
  pub prints : ℕ
  -- ALPHA and BETA
  pub scalars : List ℕ
  pub path : Path

pub record Setting : Type 0 where
  pub modulus : ℕ
  -- the word whose product with a word is 1
  pub inverse : ℕ → ℕ
  pub grids : List Grid
  -- the lines that make records, in script order
  pub jobs : List Job
  -- how many messages a link holds
  pub capacity : ℕ
  -- the losses that the script asks for, in script order
  pub losses : List Loss
  -- how many lost ranks can be replaced, or None where there is no limit
  pub spares : Option ℕ
  -- the matrix of the file of each matrix line
  pub files : ℕ → Matrix

-- ---- tests of the numbers below n and of jobs, and sums over jobs
abbrev pub all_below : ℕ → (ℕ → Bool) → Bool
all_below zero f = true
all_below (suc n) f = all_below n f && f n

abbrev pub some_below : ℕ → (ℕ → Bool) → Bool
some_below zero f = false
some_below (suc n) f = some_below n f || f n

abbrev pub all_jobs : List Job → (Job → Bool) → Bool
all_jobs [] f = true
all_jobs (j ∷ js) f = f j && all_jobs js f

abbrev pub some_job : List Job → (Job → Bool) → Bool
some_job [] f = false
some_job (j ∷ js) f = f j || some_job js f

-- ---- ranks and grids
abbrev pub sizes : List Grid → ℕ
sizes [] = 0
sizes (g ∷ gs) = size g + sizes gs

-- the ranks of all grids
abbrev pub ranks : Setting → ℕ
ranks s = sizes s.grids

abbrev pub no_grid : Grid
no_grid = record { p = 1; q = 1; f = 0; first = 0 }

abbrev pub grid_in : List Grid → ℕ → Grid
grid_in [] rank = no_grid
grid_in (g ∷ gs) rank = if is_member g rank then g else grid_in gs rank

-- the grid of a rank
abbrev pub grid_of_rank : Setting → ℕ → Grid
grid_of_rank s rank = grid_in s.grids rank

-- the grid of a number, which counts from 0
abbrev pub grid_numbered : Setting → ℕ → Grid
grid_numbered s number = slice_index_or s.grids number no_grid

-- ---- lines
abbrev pub no_job : ℕ → Job
no_job line = record { line = line; makes = None; factors = 0; drops = 0; prints = 0; scalars = []; path = anywhere }

abbrev pub job_in : List Job → ℕ → Job
job_in [] line = no_job line
job_in (j ∷ js) line = if j.line == line then j else job_in js line

-- what a line asks of the machine
abbrev pub job : Setting → ℕ → Job
job s line = job_in s.jobs line

-- a line makes records
abbrev pub is_job : Setting → ℕ → Bool
is_job s line = some_job s.jobs (λ j. j.line == line)

abbrev pub no_layout : Layout
no_layout = record { grid = no_grid; desc = desc_of 0 1 1 1 1 1 1 0 0 }

-- the layout of the matrix that a line makes
abbrev pub layout : Setting → ℕ → Layout
layout s line = unwrap_or (job s line).makes no_layout

abbrev pub is_matrix : Setting → ℕ → Bool
is_matrix s line = is_some (job s line).makes

-- the line of the matrix that a line factors, or 0
abbrev pub factored : Setting → ℕ → ℕ
factored s line = (job s line).factors

-- ---- strips: a rank holds of each group of block columns the rows of its process row
abbrev pub blocks : Layout → ℕ
blocks d = ceil_div d.desc.n d.desc.nb

abbrev pub group_count : Layout → ℕ
group_count d = groups d.desc.n d.desc.nb d.grid.q

-- how many block columns have a pivot
abbrev pub panels : Layout → ℕ
panels d = ceil_div (min d.desc.m d.desc.n) d.desc.nb

-- the rows of a strip on a process row
abbrev pub strip_rows : Layout → ℕ → ℕ
strip_rows d row = numroc d.desc.m d.desc.mb row d.desc.rsrc d.grid.p

-- the block column of a group on a process column
abbrev pub block_at : Layout → ℕ → ℕ → ℕ
block_at d group col = block_in group col d.desc.csrc d.grid.q

-- the global row of a local row on a rank, and the global column of a local column of a block column
abbrev pub global_row : Layout → ℕ → ℕ → ℕ
global_row d rank i = global i d.desc.mb (row_of d.grid rank) d.desc.rsrc d.grid.p

abbrev pub global_col : Layout → ℕ → ℕ → ℕ
global_col d block j = block * d.desc.nb + j

-- the strip of a group of a matrix on a data rank, with zeros past the last column
abbrev pub strip_of : Layout → Matrix → ℕ → ℕ → Matrix
strip_of d m rank group =
    let block = block_at d group (col_of d.grid rank) in
    tabulate (strip_rows d (row_of d.grid rank)) d.desc.nb (λ i j. if nat_lt (global_col d block j) d.desc.n then entry m (global_row d rank i) (global_col d block j) else 0)
