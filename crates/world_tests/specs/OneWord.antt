-- A script of one grid of one rank, with a matrix of one word that is fed and printed, and no losses.
use Rattle.std.specs.Prelude.{ℕ, Option, Some, None, List, [], ◌∷◌, codes}
use Rattle.std.specs.FinMap as map
use Rattle.field_core.specs.Residue.{inverse}
use Rattle.run_data.specs.Matrix.{Matrix, zero_matrix, with_entry}
use Rattle.run_data.specs.declared.command.Command.{Command}
use Rattle.run_data.specs.declared.command.Command.TheVariants as c
use Rattle.rank_machine.specs.declared.layout.Layout.{Layout}
use Rattle.rank_machine.specs.Setting.{Setting, Job, no_job}
use Rattle.rank_machine.specs.Scripts.{Matrices, file_of, layout_on}
use Rattle.world_tests.specs.OneMatrix.{grid}

unfoldable pub lines : List (Option Command)
lines = Some (c.Grid (codes "g") 1 1 0) ∷ Some (c.Matrix (codes "A") (codes "g") 1 1 1 1 0 0 (codes "a")) ∷ Some (c.Print (codes "A")) ∷ []

-- the file's matrix
unfoldable pub matrix : Matrix
matrix = with_entry (zero_matrix 1 1) 0 0 7

unfoldable pub files : Matrices
files = map.insert map.empty 2 matrix

-- ---- the setting of the script
abbrev pub where_it_lies : Layout
where_it_lies = layout_on 0 (grid 0) 1 1 1 1 0 0

abbrev pub jobs : List Job
jobs = record (no_job 2) { makes = Some where_it_lies } ∷ record (no_job 3) { prints = 2 } ∷ []

unfoldable pub setting : Setting
setting = record {
  modulus = 65537;
  inverse = inverse 65537;
  grids = grid 0 ∷ [];
  jobs = jobs;
  capacity = 1;
  losses = [];
  spares = None;
  files = file_of files;
}
