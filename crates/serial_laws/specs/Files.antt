-- The files of a script's matrix lines.
use Rattle.std.specs.Prelude.{◌≡◌, ℕ, List, Option, Some}
use Rattle.std.specs.FinMap as map
use Rattle.run_data.specs.declared.command.Command.{Command}
use Rattle.run_data.specs.declared.command.Command.TheVariants as c
use Rattle.run_data.specs.Script.{commands_of, command_at, modulus_of}
use Rattle.rank_machine.specs.Scripts.{Matrices, file_of}
use Rattle.script_words.specs.MatrixFile.{HasResidues}

-- the file of a line is there, with m rows and n columns of words modulo p
pub record HasSizedFile (p m n : ℕ) (files : Matrices) (line : ℕ) : Type 0 where
  pub there : map.get files line ≡ Some (file_of files line)
  pub residues : HasResidues p m n (file_of files line)

-- the same where the line's command is a matrix line
abbrev pub FileFits : ℕ → Option Command → Matrices → ℕ → Type 0
FileFits p (Some (c.Matrix name grid m n mb nb rsrc csrc file)) files line = HasSizedFile p m n files line
FileFits p _ files line = Unit {0}

-- each matrix line of a script has its file, over the script's field
abbrev pub HasFiles : List (Option Command) → Matrices → Type 0
HasFiles script files = (line : ℕ) → FileFits (modulus_of (commands_of script)) (command_at (commands_of script) line) files line
