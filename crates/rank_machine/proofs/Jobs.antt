-- The jobs of a script's lines.
use Rattle.std.proofs.Common.{◌≡◌, ℕ, List, refl}
use Rattle.run_data.specs.declared.command.Command.{Command}
use Rattle.run_data.specs.declared.command.Command.TheVariants as c
use Rattle.run_data.specs.Script.{Numbered}
use Rattle.blacs_grid.specs.declared.Grid.{Grid}
use Rattle.rank_machine.specs.Scripts.{job_of}

-- a line's job has its number
pub job_of-line : (ns : List Numbered) (grids : List Grid) (line : ℕ) (command : Command) → (job_of ns grids line command).line ≡ line
job_of-line ns grids line (c.Grid name p q f) = refl
job_of-line ns grids line _ = refl
