-- What the reads of a call answer: over a shelf that tells its files what it tells, and else whatever they answered.
use Rattle.std.specs.Prelude.{◌≡◌, ℕ, zero, suc, List, [], ◌∷◌, Option, Result, MatchOption, ⊤}
use Rattle.io_edge.specs.declared.shelf.ShelfFault.{ShelfFault}
use Rattle.io_edge.specs.Causes.{counted}
use Rattle.io_edge.specs.Shelf.{Held, read_answer}

-- what each read answers for a name, memory aside; the next read is number 0
abbrev pub Readings : Type 0
Readings = ℕ → List ℕ → Result (List ℕ) ShelfFault

-- the reads after the next
abbrev pub later : Readings → Readings
later readings = λ k. readings (suc k)

-- a shelf after one more read
abbrev pub after_read : Held → Held
after_read held = record held { calls = counted held.calls }

-- a shelf after reads of these names
abbrev pub after_reads : List (List ℕ) → Held → Held
after_reads [] held = held
after_reads (name ∷ names) held = after_reads names (after_read held)

-- the reads of a shelf that tells its files
abbrev pub readings_of : Held → Readings
readings_of held zero = read_answer held
readings_of held (suc k) = readings_of (after_read held) k

-- the reads are those that the shelf tells, where it tells its files
abbrev pub AreOf : Option Held → Readings → Type 0
AreOf told readings = MatchOption told ⊤ (λ held. readings ≡ readings_of held)
