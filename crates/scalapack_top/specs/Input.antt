-- What the work comes to by what the reads answer: the input that is run, or the first fault or refusal.
use Rattle.std.specs.Prelude.{ℕ, List, [], ◌∷◌, Option, Some, None, Result, Ok, Err, pos}
use Rattle.std.specs.FinMap as map
use Rattle.io_edge.specs.declared.shelf.ShelfFault.{ShelfFault}
use Rattle.io_edge.specs.declared.shelf.ShelfFault.TheVariants as shelf
use Rattle.run_data.specs.Matrix.{Matrix}
use Rattle.run_data.specs.declared.command.Command.{Command}
use Rattle.run_data.specs.declared.command.Command.TheVariants as c
use Rattle.run_data.specs.Script.{Numbered, commands_of, modulus_of}
use Rattle.rank_machine.specs.Scripts.{Matrices}
use Rattle.script_words.specs.declared.fault.Refused.{Refused}
use Rattle.script_text.specs.Script.{script_of}
use Rattle.script_words.specs.MatrixFile.{matrix_of}
use Rattle.script_rules.specs.Runs.{first_unrunnable}
use Rattle.scalapack_top.specs.declared.status.Status.{Status}
use Rattle.scalapack_top.specs.declared.status.Status.TheVariants as status
use Rattle.scalapack_top.specs.declared.words.Machine.{Machine}
use Rattle.scalapack_top.specs.declared.words.Machine.TheVariants as machine
use Rattle.scalapack_top.specs.Words.{machine_of, script_name}
use Rattle.scalapack_top.specs.Readings.{Readings, later}

-- the first status that ends the work ends the whole
infixl 10 ◌>>=◌
abbrev pub ◌>>=◌ : {A B : Type 0} → Result A Status → (A → Result B Status) → Result B Status
(Ok x) >>= f = f x
(Err e) >>= f = Err e

-- a script and the whole matrices of its files, by line
pub record Input : Type 0 where
  pub script : List (Option Command)
  pub files : Matrices

-- words of no form are a wrong usage
abbrev pub of_words : Option (List ℕ) → Result (List ℕ) Status
of_words None = Err status.Usage
of_words (Some name) = Ok name

-- what a read of a file comes to; file 0 is the script
abbrev pub of_read : ℕ → Result (List ℕ) ShelfFault → Result (List ℕ) Status
of_read file (Ok bytes) = Ok bytes
of_read file (Err shelf.Failed) = Err (status.ReadFault file)
of_read file (Err shelf.TooLong) = Err (status.Refused file 0 (pos 12))
of_read file (Err shelf.NoMemory) = Err status.NoMemory

abbrev pub of_text : {X : Type 0} → Result X Refused → Result X Status
of_text (Ok x) = Ok x
of_text (Err r) = Err (status.Refused r.file r.line r.code)

-- a script, unless a line of it is refused
abbrev pub unless_line : Option ℕ → List (Option Command) → Result (List (Option Command)) Status
unless_line None script = Ok script
unless_line (Some line) script = Err (status.Refused 0 line (pos 18))

-- the ranks can't run every command yet: the first line that they can't run is refused
abbrev pub runnable_by : Machine → List (Option Command) → Result (List (Option Command)) Status
runnable_by machine.Ranks script = unless_line (first_unrunnable (commands_of script)) script
runnable_by machine.Serial script = Ok script

-- the script that bytes spell, for what is to run it
abbrev pub script_in : Machine → List ℕ → Result (List (Option Command)) Status
script_in m bytes = of_text (script_of bytes) >>= λ script. runnable_by m script

-- the script that a read gives, for what is to run it
abbrev pub script_from : Machine → Result (List ℕ) ShelfFault → Result (List (Option Command)) Status
script_from m answer = of_read 0 answer >>= λ bytes. script_in m bytes

-- the matrix of m rows and n columns of words modulo p that a read gives, for a matrix line
abbrev pub matrix_from : ℕ → ℕ → ℕ → ℕ → Result (List ℕ) ShelfFault → Result Matrix Status
matrix_from p line m n answer = of_read line answer >>= λ bytes. of_text (matrix_of p bytes line m n)

-- the file of a command's line is read, and then the rest goes on
abbrev pub file_then : ℕ → ℕ → Command → Readings → Matrices → (Readings → Matrices → Result Matrices Status) → Result Matrices Status
file_then p line (c.Matrix name grid m n mb nb rsrc csrc file) readings files rest = matrix_from p line m n (readings 0 file) >>= λ matrix. rest (later readings) (map.insert files line matrix)
file_then p line _ readings files rest = rest readings files

-- the matrix files of commands, in their order, beside those that are there, of words modulo p
abbrev pub files_from : ℕ → List Numbered → Readings → Matrices → Result Matrices Status
files_from p [] readings files = Ok files
files_from p (n ∷ ns) readings files = file_then p n.line n.command readings files (λ r m. files_from p ns r m)

-- the input of a script of this name, for what is to run it
unfoldable pub input_from : Machine → List ℕ → Readings → Result Input Status
input_from m name readings = script_from m (readings 0 name) >>= λ script. files_from (modulus_of (commands_of script)) (commands_of script) (later readings) map.empty >>= λ files. Ok (record { script = script; files = files })

-- the input that the words ask for
abbrev pub input_of : List (List ℕ) → Readings → Result Input Status
input_of words readings = of_words (script_name words) >>= λ name. input_from (machine_of words) name readings
