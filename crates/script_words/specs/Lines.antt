-- A text as lines, and a line as words.
use Rattle.std.specs.Prelude.{ℕ, ◌==◌, if◌then◌else◌, Bool, true, false, ◌||◌, not, List, [], ◌∷◌, filter, map}
use Rattle.std.specs.List.{onto_first, slice_split}
use Rattle.std.specs.Str.Lines.{strip_carriage_return}
use Rattle.script_words.specs.declared.lines.Stop.{Stop}
use Rattle.script_words.specs.declared.lines.Stop.TheVariants.{LineFeed, Hash, Blank, NonBlank}

-- the lines of a text, each ended by a line feed or by the end of the text
abbrev pub lines_of : List ℕ → List (List ℕ)
lines_of [] = []
lines_of (b ∷ bs) = if b == 10 then [] ∷ lines_of bs else onto_first b (lines_of bs)

abbrev pub is_line_feed : ℕ → Bool
is_line_feed b = b == 10

abbrev pub is_hash : ℕ → Bool
is_hash b = b == 35

-- a space or a tab
abbrev pub is_blank : ℕ → Bool
is_blank b = b == 32 || b == 9

abbrev pub is_non_blank : ℕ → Bool
is_non_blank b = not (is_blank b)

-- which bytes a stop is
abbrev pub stops_at : Stop → ℕ → Bool
stops_at LineFeed = is_line_feed
stops_at Hash = is_hash
stops_at Blank = is_blank
stops_at NonBlank = is_non_blank

-- what stands before the first byte that passes the test
abbrev pub until : (ℕ → Bool) → List ℕ → List ℕ
until stops [] = []
until stops (b ∷ bs) = if stops b then [] else b ∷ until stops bs

-- what stands from the first byte that passes the test on
abbrev pub from_on : (ℕ → Bool) → List ℕ → List ℕ
from_on stops [] = []
from_on stops (b ∷ bs) = if stops b then b ∷ bs else from_on stops bs

-- a list that is not empty
abbrev pub has_items : {X : Type 0} → List X → Bool
has_items [] = false
has_items (x ∷ xs) = true

-- the words of a text: what stands between spaces and tabs
abbrev pub words_of : List ℕ → List (List ℕ)
words_of text = filter has_items (slice_split is_blank text)

-- the words of a line. One carriage return at its end does not count, nor what follows the first `#`.
abbrev pub line_words : List ℕ → List (List ℕ)
line_words line = words_of (until is_hash (strip_carriage_return line))

-- the lines of a text, each as its words
unfoldable pub word_lines : List ℕ → List (List (List ℕ))
word_lines bytes = map line_words (lines_of bytes)
