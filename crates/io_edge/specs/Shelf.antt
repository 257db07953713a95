-- What a shelf that tells its files keeps, and what a read of any shelf answers.
use Rattle.std.specs.Prelude.{◌≡◌, ℕ, ◌≤◌, if◌then◌else◌, nat_lt, List, length, Option, Some, None, Result, Ok, Err, Vec}
use Rattle.std.specs.declared.alloc.Global.{Global}
use Rattle.io_edge.specs.declared.shelf.ShelfFault.{ShelfFault}
use Rattle.io_edge.specs.declared.shelf.ShelfFault.TheVariants.{Failed, TooLong, NoMemory}
use Rattle.io_edge.specs.Limits.{file_limit}
use Rattle.io_edge.specs.Causes.{counted, Rose, is_planned}

-- what a shelf that tells keeps: the bytes of each name that it has, the number of its reads so far, and the numbers of the reads that are to fail
pub record Held : Type 0 where
  pub files : List ℕ → Option (List ℕ)
  pub calls : ℕ
  pub planned : List ℕ

-- the answer for a file that is there or not
abbrev pub file_answer : Option (List ℕ) → Result (List ℕ) ShelfFault
file_answer None = Err Failed
file_answer (Some bytes) = if nat_lt file_limit (length bytes) then Err TooLong else Ok bytes

-- what the next read of this name answers, memory aside
abbrev pub read_answer : Held → List ℕ → Result (List ℕ) ShelfFault
read_answer held name = if is_planned held.planned held.calls then Err Failed else file_answer (held.files name)

-- the answer is the one that is due, or memory ran out
abbrev pub Answers : Result (List ℕ) ShelfFault → Result (Vec ℕ Global) ShelfFault → Type 0
Answers due (Ok v) = due ≡ Ok v.items
Answers due (Err NoMemory) = Unit {0}
Answers due (Err Failed) = due ≡ Err Failed
Answers due (Err TooLong) = due ≡ Err TooLong

-- a read of this name: it answers what is due, counts the call, and leaves the files and the plan as they are
pub record Read (name : List ℕ) (old new : Held) (result : Result (Vec ℕ Global) ShelfFault) : Type 0 where
  pub files_are : new.files ≡ old.files
  pub calls_is : new.calls ≡ counted old.calls
  pub planned_is : new.planned ≡ old.planned
  pub answers : Answers (read_answer old name) result

-- the same where the shelf tells; a shelf that tells goes on telling, and one that doesn't begins at no call
abbrev pub ReadTold : List ℕ → Option Held → Option Held → Result (Vec ℕ Global) ShelfFault → Type 0
ReadTold name None None result = Unit {0}
ReadTold name (Some old) (Some new) result = Read name old new result
ReadTold name None (Some new) result = ⊥
ReadTold name (Some old) None result = ⊥

-- the counts of a shelf before and after a read: neither falls, and a fault has raised its own
pub record ReadCause (faults faults' longs longs' : ℕ) (result : Result (Vec ℕ Global) ShelfFault) : Type 0 where
  pub faults_never_fall : faults ≤ faults'
  pub longs_never_fall : longs ≤ longs'
  pub failed : result ≡ Err Failed → Rose faults faults'
  pub too_long : result ≡ Err TooLong → Rose longs longs'
