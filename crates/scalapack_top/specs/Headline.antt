-- What the top call promises: its table of answers.
use Rattle.std.specs.Prelude.{◌≡◌, ◌≢◌, ℕ, ◌≤◌, List, [], ◌++◌, Option, None, Ok, Err}
use Rattle.io_edge.specs.Shelf.{Held}
use Rattle.run_data.specs.Script.{commands_of}
use Rattle.rank_machine.specs.Scripts.{file_of}
use Rattle.serial_model.specs.Serial.{serial_text}
use Rattle.scalapack_top.specs.declared.status.Status.{Status}
use Rattle.scalapack_top.specs.declared.status.Status.TheVariants as status
use Rattle.scalapack_top.specs.declared.words.Machine.{Machine}
use Rattle.scalapack_top.specs.declared.words.Machine.TheVariants as machine
use Rattle.scalapack_top.specs.Words.{script_name}
use Rattle.scalapack_top.specs.Readings.{Readings, AreOf}
use Rattle.scalapack_top.specs.Input.{Input, input_of}
use Rattle.scalapack_top.specs.Status.{error_text}
use Rattle.scalapack_top.specs.Causes.{IsCaused}
use Rattle.scalapack_top.specs.Writes.{Output}
use Rattle.whole_run.specs.WholeRun.{Ending, done, beyond, no_spare, IsRunOf, Completes}

-- nothing but the text on err
abbrev pub IsEnd : Status → Output → Type 0
IsEnd answer output = output ≡ record { out = []; err = error_text answer; journal = [] }

-- a run of an input on the ranks that ended so, to its end or cut short: the text of the serial run begins with what was printed; a script whose losses leave time between them, with
-- spares for all of them, goes to its end; and on err stands the text of the answer
pub record IsRan (input : Input) (ending : Ending) (answer : Status) (output : Output) : Type 0 where
  pub run : IsRunOf input.script input.files ending output.out output.journal
  pub begins : (rest : List ℕ) × (serial_text (file_of input.files) (commands_of input.script) ≡ output.out ++ rest)
  pub complete : Completes input.script input.files ending
  pub err : output.err ≡ error_text answer

-- a whole run of an input on the ranks: the printed text is that of the serial run of the whole script
pub record IsDone (input : Input) (output : Output) : Type 0 where
  pub ran : IsRan input done status.Done output
  pub serial : output.out ≡ serial_text (file_of input.files) (commands_of input.script)

-- the text of the serial run of an input, and nothing on err and in the journal
pub record IsDoneSerially (input : Input) (output : Output) : Type 0 where
  pub text : output.out ≡ serial_text (file_of input.files) (commands_of input.script)
  pub silent : output.err ≡ []
  pub no_journal : output.journal ≡ []

-- the run of an input by this machine
abbrev pub IsDoneBy : Machine → Input → Output → Type 0
IsDoneBy machine.Ranks input output = IsDone input output
IsDoneBy machine.Serial input output = IsDoneSerially input output

-- the same where it was cut short: the printed text is that of the lines that had ended; a serial run never is
abbrev pub IsCutBy : Machine → Input → Ending → Status → Output → Type 0
IsCutBy machine.Ranks input ending answer output = IsRan input ending answer output
IsCutBy machine.Serial input ending answer output = ⊥

-- What an answer says, for what runs the script, the words and what the reads answer, and what is to be written then.
abbrev pub IsAnswer : Machine → List (List ℕ) → Readings → Status → Output → Type 0
-- a whole run of the input that the words and the files that were read give
IsAnswer m words readings status.Done output = (script_name words ≢ None) × ((input : Input) × (input_of words readings ≡ Ok input) × IsDoneBy m input output)
-- a run of that input that was cut short
IsAnswer m words readings (status.Beyond grid row) output =
    (script_name words ≢ None) × ((input : Input) × (input_of words readings ≡ Ok input) × IsCutBy m input (beyond grid row) (status.Beyond grid row) output)
IsAnswer m words readings (status.NoSpare rank) output =
    (script_name words ≢ None) × ((input : Input) × (input_of words readings ≡ Ok input) × IsCutBy m input (no_spare rank) (status.NoSpare rank) output)
-- the words are of no form
IsAnswer m words readings status.Usage output = (script_name words ≡ None) × IsEnd status.Usage output
-- the files that were read give this fault, or this refusal, first
IsAnswer m words readings (status.ReadFault file) output = (script_name words ≢ None) × (input_of words readings ≡ Err (status.ReadFault file)) × IsEnd (status.ReadFault file) output
IsAnswer m words readings (status.Refused file line code) output =
    (script_name words ≢ None) × (input_of words readings ≡ Err (status.Refused file line code)) × IsEnd (status.Refused file line code) output
-- free, but not for words of no form
IsAnswer m words readings status.NoMemory output = (script_name words ≢ None) × IsEnd status.NoMemory output
-- only the writes can answer this
IsAnswer m words readings status.WriteFault output = ⊥

-- an answer by what the reads answered, which is what the shelf tells where it tells its files
abbrev pub IsAnswered : Machine → List (List ℕ) → Option Held → Status → Output → Type 0
IsAnswered m words told answer output = (readings : Readings) × AreOf told readings × IsAnswer m words readings answer output

-- what the work did to the shelf: its counts never fall, and a fault has raised its own
pub record HasCause (faults faults' longs longs' : ℕ) (answer : Status) : Type 0 where
  pub faults_stay : faults ≤ faults'
  pub longs_stay : longs ≤ longs'
  pub caused : IsCaused faults faults' longs longs' answer
