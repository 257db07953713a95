-- The commands of a script by their first words, and what the other words of each stand for.
use Rattle.std.specs.Prelude.{ℕ, ◌==◌, if◌then◌else◌, Bool, true, false, nat_le, List, [], ◌∷◌, length, codes, Option, Some, None}
use Rattle.std.specs.Option.{option_or}
use Rattle.std.specs.Str.{bytes_eq}
use Rattle.script_words.specs.declared.kinds.CommandWord.{CommandWord}
use Rattle.script_words.specs.declared.kinds.CommandWord.TheVariants as w
use Rattle.script_words.specs.declared.kinds.Kind.{Kind}
use Rattle.script_words.specs.declared.kinds.Kind.TheVariants.{NewName, GridName, MatrixName, ListName, ThingName, Number, FileName, Letter}

-- the commands of the script's own
abbrev pub own_words : List (List ℕ × CommandWord)
own_words =
    (codes "grid", w.Grid) ∷ (codes "matrix", w.Matrix) ∷ (codes "print", w.Print) ∷ (codes "pivots", w.Pivots) ∷ (codes "drop", w.Discard)
    ∷ (codes "topology", w.Topology) ∷ (codes "links", w.Links) ∷ (codes "order", w.Order) ∷ (codes "lose", w.Lose) ∷ (codes "spares", w.Spares)
    ∷ (codes "field", w.Field) ∷ (codes "flip", w.Flip) ∷ []

-- the routines of the library
abbrev pub routine_words : List (List ℕ × CommandWord)
routine_words =
    (codes "pgemm", w.Pgemm) ∷ (codes "ptrsm", w.Ptrsm) ∷ (codes "pgetrf", w.Pgetrf) ∷ (codes "pgetrs", w.Pgetrs) ∷ (codes "pgemr2d", w.Pgemr2d)
    ∷ (codes "ptran", w.Ptran) ∷ (codes "pgetri", w.Pgetri) ∷ (codes "pverify", w.Pverify) ∷ []

-- the command that a table has at a word
abbrev pub command_in : List (List ℕ × CommandWord) → List ℕ → Option CommandWord
command_in [] word = None
command_in (row ∷ rows) word = if bytes_eq word row.0 then Some row.1 else command_in rows word

-- the command that a first word is
unfoldable pub command_word : List ℕ → Option CommandWord
command_word word = option_or (command_in own_words word) (command_in routine_words word)

-- what the words after the first stand for
abbrev pub kinds_of : CommandWord → List Kind
kinds_of w.Grid = NewName ∷ Number ∷ Number ∷ Number ∷ []
kinds_of w.Matrix = NewName ∷ GridName ∷ Number ∷ Number ∷ Number ∷ Number ∷ Number ∷ Number ∷ FileName ∷ []
kinds_of w.Pgemm =
    Letter ∷ Letter ∷ Number ∷ Number ∷ Number ∷ Number ∷ MatrixName ∷ Number ∷ Number ∷ MatrixName ∷ Number ∷ Number ∷ Number ∷ MatrixName ∷ Number ∷ Number ∷ []
kinds_of w.Ptrsm = Letter ∷ Letter ∷ Letter ∷ Letter ∷ Number ∷ Number ∷ Number ∷ MatrixName ∷ Number ∷ Number ∷ MatrixName ∷ Number ∷ Number ∷ []
kinds_of w.Pgetrf = Number ∷ Number ∷ MatrixName ∷ Number ∷ Number ∷ NewName ∷ []
kinds_of w.Pgetrs = Letter ∷ Number ∷ Number ∷ MatrixName ∷ Number ∷ Number ∷ ListName ∷ MatrixName ∷ Number ∷ Number ∷ []
kinds_of w.Pgemr2d = Number ∷ Number ∷ MatrixName ∷ Number ∷ Number ∷ MatrixName ∷ Number ∷ Number ∷ Letter ∷ []
kinds_of w.Print = MatrixName ∷ []
kinds_of w.Pivots = ListName ∷ []
kinds_of w.Discard = ThingName ∷ []
kinds_of w.Topology = Letter ∷ []
kinds_of w.Links = Number ∷ []
kinds_of w.Order = Number ∷ []
kinds_of w.Lose = Number ∷ Number ∷ []
kinds_of w.Spares = Number ∷ []
kinds_of w.Field = Number ∷ []
kinds_of w.Ptran = Number ∷ Number ∷ Number ∷ MatrixName ∷ Number ∷ Number ∷ Number ∷ MatrixName ∷ Number ∷ Number ∷ []
kinds_of w.Pgetri = Number ∷ MatrixName ∷ Number ∷ Number ∷ ListName ∷ MatrixName ∷ Number ∷ Number ∷ []
kinds_of w.Flip = MatrixName ∷ Number ∷ Number ∷ Number ∷ []
kinds_of w.Pverify = MatrixName ∷ []

-- whether further words may follow, of the last one's kind
abbrev pub takes_more : CommandWord → Bool
takes_more w.Order = true
takes_more c = false

-- whether a command may have n words after its first
abbrev pub has_count : CommandWord → ℕ → Bool
has_count c n = if takes_more c then nat_le (length (kinds_of c)) n else n == length (kinds_of c)
