-- What the parts of the reading come to.
use Rattle.std.specs.Prelude.{◌≡◌, ℕ, ◌≤◌, List, Option, Some, None, Result, Ok, Err, Vec, IfErr, pos}
use Rattle.std.specs.FinMap as map
use Rattle.std.specs.Str.{IsUtf8}
use Rattle.std.specs.declared.alloc.Global.{Global}
use Rattle.io_edge.specs.declared.shelf.ShelfFault.{ShelfFault}
use Rattle.io_edge.specs.declared.shelf.ShelfFault.TheVariants as shelf
use Rattle.io_edge.specs.Shelf.{Held}
use Rattle.run_data.specs.Matrix.{Matrix}
use Rattle.run_data.specs.declared.command.Command.{Command}
use Rattle.run_data.specs.declared.command.Command.TheVariants as c
use Rattle.run_data.specs.Script.{commands_of, command_at, modulus_of}
use Rattle.rank_machine.specs.Scripts.{Matrices, file_of}
use Rattle.script_bounds.specs.Accepted.{IsAccepted}
use Rattle.script_rules.specs.Runs.{first_unrunnable}
use Rattle.script_words.specs.MatrixFile.{HasResidues}
use Rattle.serial_laws.specs.Files.{HasFiles}
use Rattle.scalapack_top.specs.declared.status.Status.{Status}
use Rattle.scalapack_top.specs.declared.status.Status.TheVariants as status
use Rattle.scalapack_top.specs.declared.words.Machine.{Machine}
use Rattle.scalapack_top.specs.declared.words.Machine.TheVariants as machine
use Rattle.scalapack_top.specs.declared.input.Prepared.{Prepared}
use Rattle.scalapack_top.specs.Readings.{Readings, AreOf}
use Rattle.scalapack_top.specs.Input.{◌>>=◌, Input, matrix_from, files_from}
use Rattle.scalapack_top.specs.Reads.{names_from, WasRead}
use Rattle.scalapack_top.specs.Causes.{Comes, IsCaused, IsFailure, IsStep}

-- what became of the work, where a part of it answered this
abbrev pub status_of : {X : Type 0} → Result X Status → Status
status_of (Ok x) = status.Done
status_of (Err e) = e

-- A part of the reading: its answer is what is due by what the reads answered, which is what the shelf tells where it tells its
-- files; the names that are due were read, the counts of faults don't fall, and a fault has raised its own.
pub record IsPart {X Y : Type 0} (view : X → Y) (due : Readings → Result Y Status) (names : Readings → List (List ℕ)) (told told' : Option Held) (faults faults' longs longs' : ℕ) (result : Result X Status) : Type 0 where
  pub readings : Readings
  pub are_told : AreOf told readings
  pub comes : Comes view result (due readings)
  pub read : WasRead (status_of result) (names readings) told told'
  pub failure : IfErr result IsFailure
  pub faults_stay : faults ≤ faults'
  pub longs_stay : longs ≤ longs'
  pub caused : IfErr result (IsCaused faults faults' longs longs')

-- what an answer of the shelf comes to; file 0 is the script
abbrev pub settled : ℕ → Result (Vec ℕ Global) ShelfFault → Result (Vec ℕ Global) Status
settled file (Ok v) = Ok v
settled file (Err shelf.Failed) = Err (status.ReadFault file)
settled file (Err shelf.TooLong) = Err (status.Refused file 0 (pos 12))
settled file (Err shelf.NoMemory) = Err status.NoMemory

-- the files with that of one matrix line, of words modulo p
abbrev pub file_due : ℕ → ℕ → ℕ → ℕ → Matrices → Result (List ℕ) ShelfFault → Result Matrices Status
file_due p line m n files answer = matrix_from p line m n answer >>= λ a. Ok (map.insert files line a)

-- nothing was read, and nothing has failed
pub record IsNoRead {X : Type 0} (told told' : Option Held) (faults faults' longs longs' : ℕ) (result : Result X Status) : Type 0 where
  pub ok : IfErr result (λ e. ⊥)
  pub leaves : told' ≡ told
  pub faults_stay : faults ≤ faults'
  pub longs_stay : longs ≤ longs'

-- the files of matrix lines are read, and those of no other commands
abbrev pub IsLine : {X : Type 0} → ℕ → ℕ → Command → Matrices → Matrices → Option Held → Option Held → ℕ → ℕ → ℕ → ℕ → Result X Status → Type 0
IsLine p line (c.Matrix name grid m n mb nb rsrc csrc file) old new told told' f f' l l' result = IsStep (λ u. new) file (file_due p line m n old) told told' f f' l l' result
IsLine p line _ old new told told' f f' l l' result = IsNoRead told told' f f' l l' result

-- the files of a script, and their names
abbrev pub files_read : List (Option Command) → Readings → Result Matrices Status
files_read script readings = files_from (modulus_of (commands_of script)) (commands_of script) readings map.empty

abbrev pub files_names : List (Option Command) → Readings → List (List ℕ)
files_names script readings = names_from (modulus_of (commands_of script)) (commands_of script) readings

abbrev pub input_read : Prepared → Input
input_read p = record { script = p.script; files = p.files }

-- a matrix of m rows and n columns of words modulo p was put for a line
pub record IsPut (p m n line : ℕ) (old new : Matrices) : Type 0 where
  pub matrix : Matrix
  pub residues : HasResidues p m n matrix
  pub put : new ≡ map.insert old line matrix

-- the same where the line's command is a matrix line, and nothing else
abbrev pub IsAdded : ℕ → ℕ → Command → Matrices → Matrices → Type 0
IsAdded p line (c.Matrix name grid m n mb nb rsrc csrc file) old new = IsPut p m n line old new
IsAdded p line _ old new = new ≡ old

-- a matrix line's FILE is text
abbrev pub NamesText : Command → Type 0
NamesText (c.Matrix name grid m n mb nb rsrc csrc file) = IsUtf8 file
NamesText _ = Unit {0}

-- a script has no line that it can't run
abbrev pub RunsOn : Machine → List (Option Command) → Type 0
RunsOn machine.Ranks script = first_unrunnable (commands_of script) ≡ None
RunsOn machine.Serial script = Unit {0}

-- an accepted script that can be run so, with the file of each of its matrix lines
pub record IsPrepared (m : Machine) (script : List (Option Command)) (files : Matrices) : Type 0 where
  pub accepted : IsAccepted script
  pub runs : RunsOn m script
  pub file : HasFiles script files
