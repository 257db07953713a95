-- A script that keeps the rules is one that a recovery can be told of.
use Rattle.std.proofs.Common.{ℕ, List, Option}
use Rattle.run_data.specs.declared.command.Command.{Command}
use Rattle.rank_machine.specs.Scripts.{Matrices, setting_of}
use Rattle.script_bounds.specs.Accepted.{KeepsRules}
use Rattle.script_lines.specs.Sound.{IsSound}
use Rattle.script_laws.proofs.Factoring.{accepted-sensible}
use Rattle.script_laws.proofs.GridLines.{matrix-lies}
use Rattle.script_recovery.proofs.FactoredLines.{factors-matrix}
use Rattle.world_heal.specs.Mended.{IsMendable}

pub accepted-mendable : (script : List (Option Command)) (files : Matrices) (p : ℕ) → KeepsRules script → IsSound p (setting_of script files) → IsMendable (setting_of script files)
accepted-mendable script files p kept sound = record {
  sensible = accepted-sensible script files p kept sound;
  there = λ line made. (matrix-lies script files p line kept sound made).there;
  on_grid = λ line made. (matrix-lies script files p line kept sound made).numbered;
  of_run = λ line made. (matrix-lies script files p line kept sound made).of_run;
  matrices = λ line some. factors-matrix script files line kept some;
}
