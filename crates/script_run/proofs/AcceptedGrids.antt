-- The grids of a script that keeps the rules are within their limits.
use Rattle.std.proofs.Common.{◌≡◌, ℕ, ◌+◌, ◌*◌, ◌≤◌, List, [], ◌∷◌, ◌++◌, Option, Some, arith}
use Rattle.run_data.specs.declared.command.Command.{Command}
use Rattle.run_data.specs.declared.command.Command.TheVariants as c
use Rattle.run_data.specs.Script.{Numbered, commands_of, command_at}
use Rattle.blacs_grid.specs.declared.Grid.{Grid}
use Rattle.blacs_grid.specs.Limits.{IsGrid, rank_limit}
use Rattle.rank_machine.specs.Setting.{sizes}
use Rattle.rank_machine.specs.Scripts.{grid_made, ranks_made, grids_from}
use Rattle.script_bounds.specs.Accepted.{KeepsRules}
use Rattle.script_bounds.proofs.Limits.{HasLimits, limits_of_grid, ranks_few}
use Rattle.script_lines.specs.Layouts.{AreGrids}
use Rattle.script_recovery.proofs.GridsAt.{sizes-made, sizes-from}
use Rattle.script_run.proofs.EachCommand.{AreThere, there-all, there-first, there-later}

-- ---- the ranks of the grids
pub sizes-few : (script : List (Option Command)) → KeepsRules script → sizes (grids_from 0 (commands_of script)) ≤ rank_limit
sizes-few script h = let few = ranks_few script h in let same = sizes-from [] (commands_of script) 0 in omega (arith, few, same)

-- ---- limits
abbrev IsLimited : Command → Type 0
IsLimited (c.Grid name p q f) = HasLimits p q f
IsLimited _ = Unit {0}

limited : (script : List (Option Command)) (line : ℕ) (command : Command) → KeepsRules script → command_at (commands_of script) line ≡ Some command → IsLimited command
limited script line (c.Grid name p q f) h e = limits_of_grid script line name p q f h e
limited script line command h e = tt

pub IsGrid-from_limits : (p q f first : ℕ) → HasLimits p q f → first + p * (q + f) ≤ rank_limit → IsGrid (record { p = p; q = q; f = f; first = first })
IsGrid-from_limits p q f first limits few = record {
  some_rows = limits.some_rows;
  rows = limits.rows;
  some_columns = limits.some_columns;
  columns = limits.columns;
  code_columns = limits.code_columns;
  ranks = few;
}

grids_more : (command : Command) (first : ℕ) (rest : List Grid) → IsLimited command → first + ranks_made command ≤ rank_limit → AreGrids rest → AreGrids (grid_made command first ++ rest)
grids_more (c.Grid name p q f) first rest limits few all = (IsGrid-from_limits p q f first limits few, all)
grids_more command first rest limits few all = all

grids-within : (script : List (Option Command)) (more : List Numbered) (first : ℕ) → KeepsRules script → AreThere (commands_of script) more → first + sizes (grids_from first more) ≤ rank_limit → AreGrids (grids_from first more)
grids-within script [] first h all few = tt
grids-within script (n ∷ more) first h all few =
    let here = sizes-made n.command first (grids_from (first + ranks_made n.command) more) in
    grids_more n.command first (grids_from (first + ranks_made n.command) more) (limited script n.line n.command h (there-first (commands_of script) more n all)) (omega (arith, here, few))
    (grids-within script more (first + ranks_made n.command) h (there-later (commands_of script) more n all) (omega (arith, here, few)))

pub accepted-grids : (script : List (Option Command)) → KeepsRules script → AreGrids (grids_from 0 (commands_of script))
accepted-grids script h = grids-within script (commands_of script) 0 h (there-all script) (let few = sizes-few script h in omega (arith, few))
