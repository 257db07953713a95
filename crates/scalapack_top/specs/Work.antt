-- What the work hands to the writes.
use Rattle.std.specs.Prelude.{◌≡◌, ◌⊎◌, ℕ, List, [], Option, Ok}
use Rattle.io_edge.specs.Shelf.{Held}
use Rattle.script_run.specs.declared.running.Ran.{Ran}
use Rattle.scalapack_top.specs.declared.status.Status.{Status}
use Rattle.scalapack_top.specs.declared.status.Status.TheVariants as status
use Rattle.scalapack_top.specs.declared.call.Work.{Work}
use Rattle.scalapack_top.specs.declared.words.Machine.{Machine}
use Rattle.scalapack_top.specs.Writes.{Output}
use Rattle.scalapack_top.specs.Status.{error_text, answer_of}
use Rattle.scalapack_top.specs.Readings.{Readings, AreOf}
use Rattle.scalapack_top.specs.Input.{Input, input_from}
use Rattle.scalapack_top.specs.Reads.{names_read, WasRead}
use Rattle.scalapack_top.specs.Causes.{FailsAs}
use Rattle.scalapack_top.specs.Headline.{IsDoneBy, IsCutBy}
use Rattle.whole_run.specs.WholeRun.{beyond, no_spare}
use Rattle.world_heal.specs.declared.healing.Drove.{Drove}
use Rattle.world_heal.specs.declared.healing.Drove.TheVariants as d

-- the text on err: two are fixed, since there may be no memory for them
abbrev pub error_of : Status → List ℕ → List ℕ
error_of status.Usage made = error_text status.Usage
error_of status.NoMemory made = error_text status.NoMemory
error_of status.Done made = made
error_of (status.Beyond grid row) made = made
error_of (status.NoSpare rank) made = made
error_of status.WriteFault made = made
error_of (status.ReadFault file) made = made
error_of (status.Refused file line code) made = made

abbrev pub output_of : Work → Output
output_of w = record { out = w.out.items; err = error_of w.answer w.made.items; journal = w.journal.items }

-- a run of an input by this machine ended so, with this output
abbrev pub EndsBy : Machine → Input → Drove → Output → Type 0
EndsBy m input d.Done output = IsDoneBy m input output
EndsBy m input (d.Beyond grid row) output = IsCutBy m input (beyond grid row) (status.Beyond grid row) output
EndsBy m input (d.NoSpare rank) output = IsCutBy m input (no_spare rank) (status.NoSpare rank) output

-- what a run hands to the writes
abbrev pub output_ran : Ran → Output
output_ran ran = record { out = ran.out.items; err = error_text (answer_of ran.ending); journal = ran.journal.items }

-- a run is answered by how it ended, with its texts; or memory ran out for the text of the answer
abbrev pub IsWorkOf : Ran → Work → Type 0
IsWorkOf ran w =
    ((w.answer ≡ answer_of ran.ending) × (output_of w ≡ output_ran ran)) ⊎ ((w.answer ≡ status.NoMemory) × (output_of w ≡ record { out = []; err = error_text status.NoMemory; journal = [] }))

-- the input of a script of this name, by what the reads answered, was run by this machine
abbrev pub IsRanBy : Machine → List ℕ → Option Held → Ran → Type 0
IsRanBy m name told ran = (readings : Readings) × AreOf told readings × ((input : Input) × (input_from m name readings ≡ Ok input) × EndsBy m input ran.ending (output_ran ran))

-- the work for a script of this name failed so, by what the reads answered
abbrev pub HasFailed : Machine → List ℕ → Option Held → Status → Type 0
HasFailed m name told e = (readings : Readings) × AreOf told readings × FailsAs e (input_from m name readings)

-- the names that are due for a script of this name were read
abbrev pub HasReadFor : Machine → List ℕ → Option Held → Option Held → Status → Type 0
HasReadFor m name told told' answer = (readings : Readings) × AreOf told readings × WasRead answer (names_read m name readings) told told'
