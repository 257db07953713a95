-- The matrix of words modulo p that a file is, or the first rule that it breaks.
use Rattle.std.specs.Prelude.{◌≡◌, ◌<◌, ◌⊎◌, ℕ, suc, ◌==◌, if◌then◌else◌, Bool, true, false, nat_lt, List, [], ◌∷◌, length, filter, slice_index_or, Option, Some, None, Result, Ok, Err, ℤ, pos}
use Rattle.std.specs.List.{list_all}
use Rattle.run_data.specs.Matrix.{Matrix, cols, entry, tabulate, IsShaped, AreWords}
use Rattle.script_words.specs.declared.fault.Refused.{Refused}
use Rattle.script_words.specs.Lines.{has_items, word_lines}
use Rattle.script_words.specs.Numbers.{number_of}
use Rattle.script_words.specs.Tables.{first_code}

-- a number below p
abbrev pub is_residue : ℕ → Option ℕ → Bool
is_residue p None = false
is_residue p (Some n) = nat_lt n p

abbrev pub is_residue_word : ℕ → List ℕ → Bool
is_residue_word p word = is_residue p (number_of word)

-- the rules of a line with words, where i rows stand before it
abbrev pub row_rules : ℕ → ℕ → ℕ → ℕ → List (List ℕ) → List (ℤ × Bool)
row_rules p m n i words = (pos 13, nat_lt i m) ∷ (pos 14, length words == n) ∷ (pos 15, list_all (is_residue_word p) words) ∷ []

abbrev pub by_code : ℕ → ℕ → Option ℤ → Option Refused → Option Refused
by_code file line None rest = rest
by_code file line (Some code) rest = Some (record { file = file; line = line; code = code })

-- the refusal of a file that has too few rows
abbrev pub too_few : ℕ → Refused
too_few file = record { file = file; line = 0; code = pos 13 }

-- the first rule that the lines from number `line` on break, where i rows stand before them
abbrev pub refused_after : ℕ → ℕ → ℕ → ℕ → ℕ → ℕ → List (List (List ℕ)) → Option Refused
refused_after p file m n i line [] = if nat_lt i m then Some (too_few file) else None
refused_after p file m n i line (words ∷ lines) =
    if has_items words then by_code file line (first_code (row_rules p m n i words)) (refused_after p file m n (suc i) (suc line) lines)
    else refused_after p file m n i (suc line) lines

-- the rows of a matrix file: its lines with words
unfoldable pub rows_of : List ℕ → List (List (List ℕ))
rows_of bytes = filter has_items (word_lines bytes)

-- a number below p, and 0 for everything else
abbrev pub residue_or_zero : ℕ → Option ℕ → ℕ
residue_or_zero p None = 0
residue_or_zero p (Some n) = if nat_lt n p then n else 0

-- the numbers of a row
abbrev pub row_number : ℕ → List (List ℕ) → ℕ → ℕ
row_number p words j = residue_or_zero p (number_of (slice_index_or words j []))

-- the matrix with row i replaced by the numbers of a row
abbrev pub with_row : ℕ → Matrix → ℕ → List (List ℕ) → Matrix
with_row p a i words = tabulate a.rows (cols a) (λ r c. if r == i then row_number p words c else entry a r c)

-- a line is read after i rows: without words it is no row, and otherwise it is the next
abbrev pub IsRead : ℕ → Matrix → Matrix → ℕ → ℕ → List (List ℕ) → Type 0
IsRead p a b i more words =
    ((has_items words ≡ false) × (b ≡ a) × (more ≡ i))
    ⊎ ((has_items words ≡ true) × (i < a.rows) × (first_code (row_rules p a.rows (cols a) i words) ≡ None) × (b ≡ with_row p a i words) × (more ≡ suc i))

-- a line is a row that breaks a rule
abbrev pub IsBroken : ℕ → Matrix → ℕ → List (List ℕ) → ℤ → Type 0
IsBroken p a i words code = (has_items words ≡ true) × (first_code (row_rules p a.rows (cols a) i words) ≡ Some code)

-- the number at row i and column j
abbrev pub number_in : ℕ → List (List (List ℕ)) → ℕ → ℕ → ℕ
number_in p rows i j = row_number p (slice_index_or rows i []) j

abbrev pub matrix_or : Option Refused → Matrix → Result Matrix Refused
matrix_or None matrix = Ok matrix
matrix_or (Some r) matrix = Err r

-- the matrix of m rows and n columns that the bytes of a file spell, or the first rule that they break
unfoldable pub matrix_of : ℕ → List ℕ → ℕ → ℕ → ℕ → Result Matrix Refused
matrix_of p bytes file m n = matrix_or (refused_after p file m n 0 1 (word_lines bytes)) (tabulate m n (number_in p (rows_of bytes)))

-- a matrix of m rows and n columns of numbers below p
pub record HasResidues (p m n : ℕ) (a : Matrix) : Type 0 where
  pub rows : a.rows ≡ m
  pub columns : cols a ≡ n
  pub shaped : IsShaped a
  pub words : AreWords p a
