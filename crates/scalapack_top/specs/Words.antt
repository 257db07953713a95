-- The words of the command line.
use Rattle.std.specs.Prelude.{ℕ, ◌==◌, if◌then◌else◌, Bool, false, not, ◌&&◌, ◌||◌, List, [], ◌∷◌, map, codes, length, slice_get, unwrap_or, Option, Some, None, String}
use Rattle.std.specs.Option.{option_map, option_and_then}
use Rattle.std.specs.declared.alloc.Global.{Global}
use Rattle.std.specs.String.{string_bytes}
use Rattle.std.specs.Str.{bytes_eq}
use Rattle.scalapack_top.specs.declared.words.Machine.{Machine}
use Rattle.scalapack_top.specs.declared.words.Machine.TheVariants as machine
use Rattle.scalapack_top.specs.declared.words.Places.{Places}

-- not empty, and without a dash in front
abbrev pub is_plain : List ℕ → Bool
is_plain [] = false
is_plain (b ∷ bs) = not (b == 45)

abbrev pub is_journal : List ℕ → Bool
is_journal word = bytes_eq word (codes "--journal")

abbrev pub is_serial : List ℕ → Bool
is_serial word = bytes_eq word (codes "--serial")

abbrev pub word_at : List (List ℕ) → ℕ → List ℕ
word_at words i = unwrap_or (slice_get words i) []

-- `S`
abbrev pub is_script : List (List ℕ) → Bool
is_script words = length words == 1 && is_plain (word_at words 0)

-- `S --journal J`
abbrev pub is_journal_last : List (List ℕ) → Bool
is_journal_last words = length words == 3 && is_plain (word_at words 0) && is_journal (word_at words 1) && is_plain (word_at words 2)

-- `--journal J S`
abbrev pub is_journal_first : List (List ℕ) → Bool
is_journal_first words = length words == 3 && is_journal (word_at words 0) && is_plain (word_at words 1) && is_plain (word_at words 2)

-- `S --serial`
abbrev pub is_serial_last : List (List ℕ) → Bool
is_serial_last words = length words == 2 && is_plain (word_at words 0) && is_serial (word_at words 1)

-- `--serial S`
abbrev pub is_serial_first : List (List ℕ) → Bool
is_serial_first words = length words == 2 && is_serial (word_at words 0) && is_plain (word_at words 1)

-- the words ask for the serial machine
abbrev pub runs_serially : List (List ℕ) → Bool
runs_serially words = is_serial_last words || is_serial_first words

-- what runs the script of words that are of a form
abbrev pub machine_of : List (List ℕ) → Machine
machine_of words = if runs_serially words then machine.Serial else machine.Ranks

-- the places of the names, and what runs the script
abbrev pub on_ranks : ℕ → Option ℕ → Places
on_ranks script journal = record { machine = machine.Ranks; script = script; journal = journal }

abbrev pub serially : ℕ → Places
serially script = record { machine = machine.Serial; script = script; journal = None }

-- the forms that run a script on the ranks: the place of its name, and of the journal's name where there is one
abbrev pub ranks_places : List (List ℕ) → Option Places
ranks_places words =
    if is_script words then Some (on_ranks 0 None)
    else (if is_journal_last words then Some (on_ranks 0 (Some 2))
    else (if is_journal_first words then Some (on_ranks 2 (Some 1))
    else None))

-- all forms that run a script
abbrev pub places_of : List (List ℕ) → Option Places
places_of words =
    if is_serial_last words then Some (serially 0)
    else (if is_serial_first words then Some (serially 1)
    else ranks_places words)

-- the script's name
abbrev pub script_name : List (List ℕ) → Option (List ℕ)
script_name words = option_map (λ p. word_at words p.script) (places_of words)

-- the journal's name
abbrev pub journal_name : List (List ℕ) → Option (List ℕ)
journal_name words = option_and_then (λ p. option_map (word_at words) p.journal) (places_of words)

abbrev pub texts : List (String Global) → List (List ℕ)
texts words = map string_bytes words
