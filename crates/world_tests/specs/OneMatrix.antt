-- A script of two grids of one rank each, with a matrix on the first that is fed and printed, and two losses.
use Rattle.std.specs.Prelude.{ℕ, Option, Some, None, List, [], ◌∷◌, codes}
use Rattle.std.specs.FinMap as map
use Rattle.field_core.specs.Residue.{inverse}
use Rattle.run_data.specs.Matrix.{Matrix, zero_matrix, with_entry}
use Rattle.run_data.specs.declared.command.Command.{Command}
use Rattle.run_data.specs.declared.command.Command.TheVariants as c
use Rattle.blacs_grid.specs.declared.Grid.{Grid}
use Rattle.rank_machine.specs.declared.record.Loss.{Loss}
use Rattle.rank_machine.specs.declared.layout.Layout.{Layout}
use Rattle.rank_machine.specs.Setting.{Setting, Job, no_job}
use Rattle.rank_machine.specs.Scripts.{Matrices, file_of, layout_on}

-- the limit of replacements, or a line without words
abbrev pub limit : Option ℕ → Option Command
limit None = None
limit (Some n) = Some (c.Spares n)

abbrev pub lose : Loss → Option Command
lose l = Some (c.Lose l.at l.rank)

unfoldable pub lines : Loss → Loss → Option ℕ → List (Option Command)
lines first second spares =
    Some (c.Grid (codes "g") 1 1 0) ∷ Some (c.Matrix (codes "A") (codes "g") 2 3 2 3 0 0 (codes "a.txt")) ∷ Some (c.Print (codes "A"))
    ∷ Some (c.Grid (codes "h") 1 1 0) ∷ lose first ∷ lose second ∷ limit spares ∷ []

-- the file's matrix
unfoldable pub matrix : Matrix
matrix = with_entry (zero_matrix 2 3) 0 0 7

unfoldable pub files : Matrices
files = map.insert map.empty 2 matrix

-- ---- the setting of the script
abbrev pub grid : ℕ → Grid
grid first = record { p = 1; q = 1; f = 0; first = first }

abbrev pub where_it_lies : Layout
where_it_lies = layout_on 0 (grid 0) 2 3 2 3 0 0

abbrev pub jobs : List Job
jobs = record (no_job 2) { makes = Some where_it_lies } ∷ record (no_job 3) { prints = 2 } ∷ []

unfoldable pub setting : Loss → Loss → Option ℕ → Setting
setting first second spares = record {
  modulus = 65537;
  inverse = inverse 65537;
  grids = grid 0 ∷ grid 1 ∷ [];
  jobs = jobs;
  capacity = 1;
  losses = first ∷ second ∷ [];
  spares = spares;
  files = file_of files;
}
