-- How many records a recovery may have made, by how far it has come. A grid's number counts from 0, and lines are taken in the order of the script.
use Rattle.std.specs.Prelude.{◌≤◌, ℕ, ◌+◌, ◌*◌, ◌<◌, ◌&&◌, ◌==◌, if◌then◌else◌, slice_index_or, length}
use Rattle.field_core.specs.Sums.{sum_to}
use Rattle.rank_machine.specs.declared.mark.Mark.{Mark}
use Rattle.rank_machine.specs.declared.layout.Layout.{Layout}
use Rattle.rank_machine.specs.Setting.{Job, Setting, layout, no_job, group_count}
use Rattle.rank_machine.specs.State.{State}
use Rattle.rank_machine.specs.Effect.{is_live_matrix, is_live_list}
use Rattle.rank_machine.specs.Losses.{lost_in}
use Rattle.run_laws.specs.Traces.{matrix_most, list_most}

-- ---- a matrix, and a list
-- a round: what one process row lost of one group
abbrev pub round_most : Layout → ℕ
round_most d = d.grid.f * ((9 * d.grid.q + 9 * d.grid.f) + 3)

-- all groups of the rows before a row, and its groups before a group
abbrev pub matrix_so_far : Layout → ℕ → ℕ → ℕ
matrix_so_far d row group = (row * group_count d + group) * round_most d

-- a list's copies in the rows before a row
abbrev pub list_so_far : Layout → ℕ → ℕ
list_so_far d row = (2 * row) * d.grid.f

-- each process row lost at most as many ranks as there are code columns
abbrev pub FewAreLost : State → Layout → Type 0
FewAreLost st d = (row : ℕ) → row < d.grid.p → lost_in st d.grid row ≤ d.grid.f

-- ---- a grid
abbrev pub job_at : Setting → ℕ → Job
job_at s i = slice_index_or s.jobs i (no_job 0)

-- the matrix of a line, and its list, where they are live and lie on the grid of a number
abbrev pub matrix_on : Setting → Mark → ℕ → Job → ℕ
matrix_on s mark number j = if is_live_matrix s mark j.line && ((layout s j.line).desc.ctxt == number) then matrix_most (layout s j.line) else 0

abbrev pub list_on : Setting → Mark → ℕ → Job → ℕ
list_on s mark number j = if is_live_list s mark j.line && ((layout s j.factors).desc.ctxt == number) then list_most (layout s j.factors) else 0

-- the same of the first n jobs of the script
abbrev pub matrices_so_far : Setting → Mark → ℕ → ℕ → ℕ
matrices_so_far s mark number n = sum_to n (λ i. matrix_on s mark number (job_at s i))

abbrev pub lists_so_far : Setting → Mark → ℕ → ℕ → ℕ
lists_so_far s mark number n = sum_to n (λ i. list_on s mark number (job_at s i))

-- all that is live on the grid of a number
abbrev pub grid_most : Setting → Mark → ℕ → ℕ
grid_most s mark number = matrices_so_far s mark number (length s.jobs) + lists_so_far s mark number (length s.jobs)

-- ---- a recovery
-- all that is live on the first n grids
abbrev pub grids_so_far : Setting → Mark → ℕ → ℕ
grids_so_far s mark n = sum_to n (grid_most s mark)
