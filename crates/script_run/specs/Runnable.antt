-- What the run of a script on the ranks asks of it and of its files.
use Rattle.std.specs.Prelude.{◌≡◌, ℕ, true, List, Option, Some, None}
use Rattle.std.specs.FinMap as map
use Rattle.run_data.specs.Matrix.{IsShaped, AreWords}
use Rattle.run_data.specs.declared.command.Command.{Command}
use Rattle.run_data.specs.Script.{commands_of, modulus_of}
use Rattle.rank_machine.specs.Scripts.{Matrices, file_of}
use Rattle.script_rules.specs.Runs.{first_unrunnable}
use Rattle.script_bounds.specs.Accepted.{IsAccepted}
use Rattle.script_lines.specs.Layouts.{makes_matrix, layout_in}
use Rattle.dist_matrix.specs.Strips.{HasShape}

-- a matrix line has its file, of the line's shape, with words of the field of the script
pub record HasFile (script : List (Option Command)) (files : Matrices) (line : ℕ) : Type 0 where
  pub there : map.get files line ≡ Some (file_of files line)
  pub shaped : IsShaped (file_of files line)
  pub shape : HasShape (layout_in script line) (file_of files line)
  pub words : AreWords (modulus_of (commands_of script)) (file_of files line)

-- an accepted script without a line that the ranks can't run, and the file of each of its matrix lines
pub record IsRunnable (script : List (Option Command)) (files : Matrices) : Type 0 where
  pub accepted : IsAccepted script
  pub runs : first_unrunnable (commands_of script) ≡ None
  pub has_files : (line : ℕ) → makes_matrix script line ≡ true → HasFile script files line
