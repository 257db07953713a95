-- Which files are read, and how a shelf is left by that.
use Rattle.std.specs.Prelude.{◌≡◌, ℕ, List, [], ◌∷◌, ◌++◌, Option, Some, None, Result, Ok, Err}
use Rattle.std.specs.Option.{option_map}
use Rattle.io_edge.specs.Shelf.{Held}
use Rattle.run_data.specs.declared.command.Command.{Command}
use Rattle.run_data.specs.declared.command.Command.TheVariants as c
use Rattle.run_data.specs.Script.{Numbered, commands_of, modulus_of}
use Rattle.scalapack_top.specs.declared.status.Status.{Status}
use Rattle.scalapack_top.specs.declared.status.Status.TheVariants as status
use Rattle.scalapack_top.specs.declared.words.Machine.{Machine}
use Rattle.scalapack_top.specs.Words.{machine_of, script_name}
use Rattle.scalapack_top.specs.Readings.{Readings, later, after_reads, AreOf}
use Rattle.scalapack_top.specs.Input.{script_from, matrix_from}

-- what else is read after a part of the work: nothing, where that ended the work
abbrev pub unless_ended : {A : Type 0} → Result A Status → (A → List (List ℕ)) → List (List ℕ)
unless_ended (Ok a) rest = rest a
unless_ended (Err e) rest = []

-- the file of a command's line, where it is a matrix line, and then the rest
abbrev pub name_then : ℕ → ℕ → Command → Readings → (Readings → List (List ℕ)) → List (List ℕ)
name_then p line (c.Matrix name grid m n mb nb rsrc csrc file) readings rest = file ∷ unless_ended (matrix_from p line m n (readings 0 file)) (λ matrix. rest (later readings))
name_then p line _ readings rest = rest readings

-- the names of the matrix files that are read for commands over the field of modulus p, in order, up to the first that ends the work
abbrev pub names_from : ℕ → List Numbered → Readings → List (List ℕ)
names_from p [] readings = []
names_from p (n ∷ ns) readings = name_then p n.line n.command readings (λ r. names_from p ns r)

-- the names that are read for a script of this name: its own, and unless it is refused those of its matrix lines
unfoldable pub names_read : Machine → List ℕ → Readings → List (List ℕ)
names_read m name readings = name ∷ unless_ended (script_from m (readings 0 name)) (λ script. names_from (modulus_of (commands_of script)) (commands_of script) (later readings))

-- the same where the words name a script, and nothing else
abbrev pub names_for : Machine → Option (List ℕ) → Readings → List (List ℕ)
names_for m None readings = []
names_for m (Some name) readings = names_read m name readings

-- the names that are read for words, in order
abbrev pub names_of : List (List ℕ) → Readings → List (List ℕ)
names_of words readings = names_for (machine_of words) (script_name words) readings

-- the names that were read are those that are due; where memory ran out they are some first ones of these, and where a put failed too, which may be that of the text for want of memory
abbrev pub AreMade : Status → List (List ℕ) → List (List ℕ) → Type 0
AreMade status.Done due made = due ≡ made
AreMade (status.Beyond grid row) due made = due ≡ made
AreMade (status.NoSpare rank) due made = due ≡ made
AreMade (status.Refused file line code) due made = due ≡ made
AreMade status.Usage due made = due ≡ made
AreMade (status.ReadFault file) due made = due ≡ made
AreMade status.WriteFault due made = (rest : List (List ℕ)) × (due ≡ made ++ rest)
AreMade status.NoMemory due made = (rest : List (List ℕ)) × (due ≡ made ++ rest)

-- the shelf was read for the names that are due, and not otherwise
pub record WasRead (answer : Status) (due : List (List ℕ)) (told told' : Option Held) : Type 0 where
  pub made : List (List ℕ)
  pub are : AreMade answer due made
  pub after : told' ≡ option_map (after_reads made) told

-- the same for the names that words ask for
abbrev pub HasRead : List (List ℕ) → Option Held → Option Held → Status → Type 0
HasRead words told told' answer = (readings : Readings) × AreOf told readings × WasRead answer (names_of words readings) told told'
