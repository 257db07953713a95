-- The setting of an accepted script and its files.
use Rattle.std.specs.Prelude.{ℕ, ◌+◌, ◌*◌, Bool, ◌||◌, if◌then◌else◌, nat_lt, Option, Some, unwrap_or, List, [], ◌∷◌, ◌++◌, slice_index_or}
use Rattle.std.specs.Str.{bytes_eq}
use Rattle.std.specs.Ordering.{nat_cmp}
use Rattle.std.specs.FinMap as map
use Rattle.field_core.specs.Residue.{inverse}
use Rattle.run_data.specs.Matrix.{Matrix, zero_matrix}
use Rattle.run_data.specs.Script.{Numbered, commands_of, makes_records, modulus_of, operand, spares_of}
use Rattle.run_data.specs.declared.command.Command.{Command}
use Rattle.run_data.specs.declared.command.Command.TheVariants as c
use Rattle.array_desc.specs.Descriptors.{desc_of}
use Rattle.blacs_grid.specs.declared.Grid.{Grid}
use Rattle.rank_machine.specs.declared.record.Loss.{Loss}
use Rattle.rank_machine.specs.declared.layout.Layout.{Layout}
use Rattle.rank_machine.specs.Setting.{Setting, Job, Path, forwards, backwards, members, no_job, no_grid}

-- ---- grids: their ranks follow those of the grids before
abbrev pub grid_made : Command → ℕ → List Grid
grid_made (c.Grid name p q f) first = record { p = p; q = q; f = f; first = first } ∷ []
grid_made _ first = []

abbrev pub ranks_made : Command → ℕ
ranks_made (c.Grid name p q f) = p * (q + f)
ranks_made _ = 0

abbrev pub grids_from : ℕ → List Numbered → List Grid
grids_from first [] = []
grids_from first (n ∷ ns) = grid_made n.command first ++ grids_from (first + ranks_made n.command) ns

-- ---- settings of the whole run
-- how many messages a link holds: what the links line says, and 1 where there is none
abbrev pub capacity_after : Command → ℕ → ℕ
capacity_after (c.Links n) before = n
capacity_after _ before = before

abbrev pub capacity_from : ℕ → List Numbered → ℕ
capacity_from before [] = before
capacity_from before (n ∷ ns) = capacity_from (capacity_after n.command before) ns

abbrev pub loss_made : Command → List Loss
loss_made (c.Lose at rank) = record { at = at; rank = rank } ∷ []
loss_made _ = []

abbrev pub losses_in : List Numbered → List Loss
losses_in [] = []
losses_in (n ∷ ns) = loss_made n.command ++ losses_in ns

-- ---- topologies: the letter I, D or T in either case; at first I
abbrev pub is_letter : List ℕ → ℕ → Bool
is_letter word letter = bytes_eq word (letter ∷ []) || bytes_eq word ((letter + 32) ∷ [])

abbrev pub path_of : List ℕ → Path
path_of word = if is_letter word 68 then backwards else if is_letter word 84 then members else forwards

abbrev pub path_after : Command → Path → Path
path_after (c.Topology kind) before = path_of kind
path_after _ before = before

-- the path of the topology that holds for a line
abbrev pub path_from : Path → List Numbered → ℕ → Path
path_from before [] line = before
path_from before (n ∷ ns) line = path_from (if nat_lt n.line line then path_after n.command before else before) ns line

-- ---- lines
-- the line that made what a word of a line names, or 0
abbrev pub line_meant : List Numbered → ℕ → ℕ → ℕ
line_meant ns line word = unwrap_or (operand ns line word) 0

-- a matrix on the grid of a number
abbrev pub layout_on : ℕ → Grid → ℕ → ℕ → ℕ → ℕ → ℕ → ℕ → Layout
layout_on number g m n mb nb rsrc csrc = record { grid = g; desc = desc_of number g.p g.q m n mb nb rsrc csrc }

abbrev pub layout_named : List Grid → ℕ → ℕ → ℕ → ℕ → ℕ → ℕ → ℕ → Layout
layout_named grids number m n mb nb rsrc csrc = layout_on number (slice_index_or grids number no_grid) m n mb nb rsrc csrc

abbrev pub job_of : List Numbered → List Grid → ℕ → Command → Job
job_of ns grids line (c.Matrix name grid m n mb nb rsrc csrc file) = record (no_job line) { makes = Some (layout_named grids (line_meant ns line 2) m n mb nb rsrc csrc) }
job_of ns grids line (c.Pgemm transa transb m n k alpha a ia ja b ib jb beta x ic jc) = record (no_job line) { scalars = alpha ∷ beta ∷ []; path = path_from forwards ns line }
job_of ns grids line (c.Ptrsm side uplo transa diag m n alpha a ia ja b ib jb) = record (no_job line) { scalars = alpha ∷ [] }
job_of ns grids line (c.Pgetrf m n a ia ja v) = record (no_job line) { factors = line_meant ns line 3 }
job_of ns grids line (c.Discard name) = record (no_job line) { drops = line_meant ns line 1 }
job_of ns grids line (c.Print name) = record (no_job line) { prints = line_meant ns line 1 }
job_of ns grids line (c.Grid name p q f) = no_job line
job_of ns grids line (c.Pgetrs trans n nrhs a ia ja v b ib jb) = no_job line
job_of ns grids line (c.Pgemr2d m n a ia ja b ib jb ctxt) = no_job line
job_of ns grids line (c.Pivots name) = no_job line
job_of ns grids line (c.Topology kind) = no_job line
job_of ns grids line (c.Links n) = no_job line
job_of ns grids line (c.Order numbers) = no_job line
job_of ns grids line (c.Lose at rank) = no_job line
job_of ns grids line (c.Spares n) = no_job line
job_of ns grids line (c.Field n) = no_job line
job_of ns grids line (c.Ptran m n alpha a ia ja beta x ic jc) = record (no_job line) { scalars = alpha ∷ beta ∷ [] }
job_of ns grids line (c.Pgetri n a ia ja v b ib jb) = no_job line
job_of ns grids line (c.Flip name i j x) = no_job line
job_of ns grids line (c.Pverify name) = no_job line

abbrev pub jobs_from : List Numbered → List Grid → List Numbered → List Job
jobs_from ns grids [] = []
jobs_from ns grids (n ∷ more) = if makes_records n.command then job_of ns grids n.line n.command ∷ jobs_from ns grids more else jobs_from ns grids more

-- ---- the setting
-- for the words modulo p under these inverses, and for the matrices of the files by line
abbrev pub setting_over : ℕ → (ℕ → ℕ) → List Numbered → (ℕ → Matrix) → Setting
setting_over p inverses ns files = let grids = grids_from 0 ns in record {
  modulus = p;
  inverse = inverses;
  grids = grids;
  jobs = jobs_from ns grids ns;
  capacity = capacity_from 1 ns;
  losses = losses_in ns;
  spares = spares_of ns;
  files = files;
}

abbrev pub Matrices : Type 0
Matrices = map.FinMap nat_cmp Matrix

abbrev pub file_of : Matrices → ℕ → Matrix
file_of files line = unwrap_or (map.get files line) (zero_matrix 0 0)

abbrev pub setting_of : List (Option Command) → Matrices → Setting
setting_of script files = let ns = commands_of script in setting_over (modulus_of ns) (inverse (modulus_of ns)) ns (file_of files)
