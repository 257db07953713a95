-- Where the matrices of a script lie.
use Rattle.std.specs.Prelude.{ℕ, Bool, List, [], ◌∷◌, Option, is_some, unwrap_or}
use Rattle.run_data.specs.declared.command.Command.{Command}
use Rattle.run_data.specs.Script.{commands_of}
use Rattle.array_desc.specs.Descriptors.{IsDesc}
use Rattle.blacs_grid.specs.declared.Grid.{Grid}
use Rattle.blacs_grid.specs.Limits.{IsGrid}
use Rattle.rank_machine.specs.declared.layout.Layout.{Layout}
use Rattle.rank_machine.specs.Setting as machine
use Rattle.rank_machine.specs.Scripts.{grids_from, jobs_from}

-- a grid within the limits and a descriptor on it
pub record IsLayout (d : Layout) : Type 0 where
  pub grid : IsGrid d.grid
  pub desc : IsDesc d.grid.p d.grid.q d.desc

-- each grid is within its limits
abbrev pub AreGrids : List Grid → Type 0
AreGrids [] = Unit {0}
AreGrids (g ∷ gs) = IsGrid g × AreGrids gs

-- what the lines of a script ask of the machine
abbrev pub jobs_of : List (Option Command) → List machine.Job
jobs_of script = let ns = commands_of script in jobs_from ns (grids_from 0 ns) ns

-- whether a line makes a matrix, and where that matrix lies
abbrev pub makes_matrix : List (Option Command) → ℕ → Bool
makes_matrix script line = is_some (machine.job_in (jobs_of script) line).makes

abbrev pub layout_in : List (Option Command) → ℕ → Layout
layout_in script line = unwrap_or (machine.job_in (jobs_of script) line).makes machine.no_layout
