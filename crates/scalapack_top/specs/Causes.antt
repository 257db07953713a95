-- The causes of the answers that come from outside, and what the steps of the work answer.
use Rattle.std.specs.Prelude.{◌≡◌, ◌≢◌, ℕ, ◌≤◌, List, Option, Result, Ok, Err, MatchOption, ⊤, IfErr, pos}
use Rattle.std.specs.Option.{option_map}
use Rattle.io_edge.specs.Causes.{Rose}
use Rattle.io_edge.specs.declared.shelf.ShelfFault.{ShelfFault}
use Rattle.io_edge.specs.Shelf.{Held, read_answer}
use Rattle.scalapack_top.specs.declared.status.Status.{Status}
use Rattle.scalapack_top.specs.declared.status.Status.TheVariants as status
use Rattle.scalapack_top.specs.Readings.{after_read}

-- the status is what is due, unless memory ran out
abbrev pub FailsAs : {Y : Type 0} → Status → Result Y Status → Type 0
FailsAs status.NoMemory due = Unit {0}
FailsAs status.Done due = ⊥
FailsAs (status.Beyond grid row) due = ⊥
FailsAs (status.NoSpare rank) due = ⊥
FailsAs status.WriteFault due = ⊥
FailsAs status.Usage due = due ≡ Err status.Usage
FailsAs (status.ReadFault file) due = due ≡ Err (status.ReadFault file)
FailsAs (status.Refused file line code) due = due ≡ Err (status.Refused file line code)

-- what was answered is what is due, seen by a view, unless memory ran out
abbrev pub Comes : {X Y : Type 0} → (X → Y) → Result X Status → Result Y Status → Type 0
Comes view (Ok x) due = due ≡ Ok (view x)
Comes view (Err e) due = FailsAs e due

-- a fault of reading, and a file that is too long, come only where their counts rose
abbrev pub IsCaused : ℕ → ℕ → ℕ → ℕ → Status → Type 0
IsCaused faults faults' longs longs' (status.ReadFault file) = Rose faults faults'
IsCaused faults faults' longs longs' (status.Refused file line code) = code ≡ pos 12 → Rose longs longs'
IsCaused faults faults' longs longs' status.Done = Unit {0}
IsCaused faults faults' longs longs' (status.Beyond grid row) = Unit {0}
IsCaused faults faults' longs longs' (status.NoSpare rank) = Unit {0}
IsCaused faults faults' longs longs' status.Usage = Unit {0}
IsCaused faults faults' longs longs' status.WriteFault = Unit {0}
IsCaused faults faults' longs longs' status.NoMemory = Unit {0}

-- what reading can fail with
abbrev pub IsFailure : Status → Type 0
IsFailure status.NoMemory = Unit {0}
IsFailure (status.Refused file line code) = Unit {0}
IsFailure (status.ReadFault file) = Unit {0}
IsFailure status.Done = ⊥
IsFailure (status.Beyond grid row) = ⊥
IsFailure (status.NoSpare rank) = ⊥
IsFailure status.Usage = ⊥
IsFailure status.WriteFault = ⊥

-- what a text that was read can fail with: it breaks a rule, and none of them is that it is too long; or memory ran out
abbrev pub IsOfText : Status → Type 0
IsOfText status.NoMemory = Unit {0}
IsOfText (status.Refused file line code) = code ≢ pos 12
IsOfText status.Done = ⊥
IsOfText (status.Beyond grid row) = ⊥
IsOfText (status.NoSpare rank) = ⊥
IsOfText status.Usage = ⊥
IsOfText status.WriteFault = ⊥
IsOfText (status.ReadFault file) = ⊥

-- The read of a file of this name, and what is made of it: the answer is what is due by what the shelf answered, which is what it
-- tells where it tells its files; the read was counted, the counts of faults don't fall, and a fault has raised its own.
pub record IsStep {X Y : Type 0} (view : X → Y) (name : List ℕ) (due : Result (List ℕ) ShelfFault → Result Y Status) (told told' : Option Held) (faults faults' longs longs' : ℕ) (result : Result X Status) : Type 0 where
  pub answer : Result (List ℕ) ShelfFault
  pub is_told : MatchOption told ⊤ (λ held. read_answer held name ≡ answer)
  pub comes : Comes view result (due answer)
  pub leaves : told' ≡ option_map after_read told
  pub failure : IfErr result IsFailure
  pub faults_stay : faults ≤ faults'
  pub longs_stay : longs ≤ longs'
  pub caused : IfErr result (IsCaused faults faults' longs longs')
