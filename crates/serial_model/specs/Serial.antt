-- The serial run: the commands of a script one after another on whole matrices by name, and the text that they print. Words are
-- numbers modulo p, and `inverse` gives each word its inverse. A command sees the script that it stands in: of it the pending flips of a matrix are known.
use Rattle.std.specs.Prelude.{ℕ, if◌then◌else◌, Bool, nat_le, ◌||◌, Option, Some, None, List, [], ◌∷◌, ◌++◌, codes}
use Rattle.std.specs.Str.{bytes_eq}
use Rattle.field_core.specs.Residue.{inverse}
use Rattle.run_data.specs.Matrix.{Matrix, cols, zero_matrix}
use Rattle.run_data.specs.Script.{Numbered, modulus_of}
use Rattle.run_data.specs.Flips.{pending}
use Rattle.run_data.specs.declared.command.Command.{Command}
use Rattle.run_data.specs.declared.command.Command.TheVariants as c
use Rattle.serial_model.specs.Text.{matrix_text, pivots_text, info_text, wrong_text}
use Rattle.serial_model.specs.Elimination.{Eliminated, elimination_of, eliminated_matrix}
use Rattle.serial_model.specs.Solves.{Solved, product_of, window_copied}
use Rattle.serial_model.specs.Transposes.{side_solved, trans_solved, transpose_added, inverted}
use Rattle.serial_model.specs.Wrong.{wrong_words}

-- what a name means: a matrix, or a pivot list
pub data Value : Type 0 where
  whole : Matrix → Value
  rows : List ℕ → Value

abbrev pub Values : Type 0
Values = List ℕ → Option Value

-- the same but for one name
abbrev pub with_value : Values → List ℕ → Option Value → Values
with_value values name value other = if bytes_eq name other then value else values other

-- the same but for one matrix
abbrev pub with_matrix : Values → List ℕ → Matrix → Values
with_matrix values name m = with_value values name (Some (whole m))

-- the matrix that a name means; one without rows and columns where it means none
abbrev pub matrix_in : Option Value → Matrix
matrix_in (Some (whole m)) = m
matrix_in (Some (rows v)) = zero_matrix 0 0
matrix_in None = zero_matrix 0 0

-- the pivot list that a name means; the empty one where it means none
abbrev pub list_in : Option Value → List ℕ
list_in (Some (rows v)) = v
list_in (Some (whole m)) = []
list_in None = []

-- whether an option is the letter L, in either case
abbrev pub is_lower : List ℕ → Bool
is_lower word = bytes_eq word (codes "L") || bytes_eq word (codes "l")

-- whether an option is the letter U, in either case
abbrev pub is_unit : List ℕ → Bool
is_unit word = bytes_eq word (codes "U") || bytes_eq word (codes "u")

-- whether a side is the letter L, in either case
abbrev pub is_left : List ℕ → Bool
is_left word = bytes_eq word (codes "L") || bytes_eq word (codes "l")

-- whether an option asks for the transpose: the letter T, in either case
abbrev pub is_transposed : List ℕ → Bool
is_transposed word = bytes_eq word (codes "T") || bytes_eq word (codes "t")

-- what PGETRF makes of the matrix of a name
abbrev pub factored : ℕ → (ℕ → ℕ) → Values → List ℕ → Eliminated
factored p inverse values a = elimination_of p inverse (matrix_in (values a))

-- what PTRSM makes of the matrix of the name b
abbrev pub solved_by_triangle : ℕ → (ℕ → ℕ) → Values → List ℕ → List ℕ → List ℕ → List ℕ → ℕ → List ℕ → List ℕ → Solved
solved_by_triangle p inverse values side uplo transa diag alpha a b =
    side_solved p inverse (is_left side) (is_transposed transa) (is_lower uplo) (is_unit diag) alpha (matrix_in (values a)) (matrix_in (values b))

-- what PGETRS makes of the matrix of the name b
abbrev pub solved_by_factors : ℕ → (ℕ → ℕ) → Values → List ℕ → List ℕ → List ℕ → List ℕ → Solved
solved_by_factors p inverse values trans a v b = trans_solved p inverse (is_transposed trans) (matrix_in (values a)) (list_in (values v)) (matrix_in (values b))

-- what PGETRI makes of the matrix of the name b
abbrev pub inverted_by_factors : ℕ → (ℕ → ℕ) → Values → List ℕ → List ℕ → List ℕ → Solved
inverted_by_factors p inverse values a v b = inverted p inverse (matrix_in (values a)) (list_in (values v)) (matrix_in (values b))

-- how many words of a matrix of a name are wrong as seen from a line of a script
abbrev pub wrong_in : ℕ → List Numbered → ℕ → List ℕ → Matrix → ℕ
wrong_in p script line name m = wrong_words p m.rows (cols m) (pending script line name)

-- the values after a command on a line; the matrices of the files are given by line
abbrev pub values_under : ℕ → (ℕ → ℕ) → (ℕ → Matrix) → ℕ → Command → Values → Values
values_under p inverse files line (c.Matrix name grid m n mb nb rsrc csrc file) values = with_matrix values name (files line)
values_under p inverse files line (c.Pgemm transa transb m n k alpha a ia ja b ib jb beta x ic jc) values =
    with_matrix values x (product_of p alpha (matrix_in (values a)) (matrix_in (values b)) beta (matrix_in (values x)))
values_under p inverse files line (c.Ptrsm side uplo transa diag m n alpha a ia ja b ib jb) values =
    with_matrix values b (solved_by_triangle p inverse values side uplo transa diag alpha a b).matrix
values_under p inverse files line (c.Pgetrf m n a ia ja v) values =
    with_value (with_matrix values a (eliminated_matrix p inverse (matrix_in (values a)))) v (Some (rows (factored p inverse values a).pivots))
values_under p inverse files line (c.Pgetrs trans n nrhs a ia ja v b ib jb) values = with_matrix values b (solved_by_factors p inverse values trans a v b).matrix
values_under p inverse files line (c.Pgemr2d m n a ia ja b ib jb ctxt) values =
    with_matrix values b (window_copied m n (matrix_in (values a)) ia ja (matrix_in (values b)) ib jb)
values_under p inverse files line (c.Discard name) values = with_value values name None
values_under p inverse files line (c.Grid name down across f) values = values
values_under p inverse files line (c.Print name) values = values
values_under p inverse files line (c.Pivots name) values = values
values_under p inverse files line (c.Topology kind) values = values
values_under p inverse files line (c.Links n) values = values
values_under p inverse files line (c.Order numbers) values = values
values_under p inverse files line (c.Lose at rank) values = values
values_under p inverse files line (c.Spares n) values = values
values_under p inverse files line (c.Field n) values = values
values_under p inverse files line (c.Ptran m n alpha a ia ja beta x ic jc) values =
    with_matrix values x (transpose_added p alpha (matrix_in (values a)) beta (matrix_in (values x)))
values_under p inverse files line (c.Pgetri n a ia ja v b ib jb) values = with_matrix values b (inverted_by_factors p inverse values a v b).matrix
values_under p inverse files line (c.Flip name i j x) values = values
values_under p inverse files line (c.Pverify name) values = values

-- the text of a value that is printed
abbrev pub value_text : List ℕ → Option Value → List ℕ
value_text name None = []
value_text name (Some (whole m)) = matrix_text name m
value_text name (Some (rows v)) = pivots_text name v

-- the text that a command on a line of a script adds
abbrev pub text_under : ℕ → (ℕ → ℕ) → List Numbered → ℕ → Command → Values → List ℕ
text_under p inverse script line (c.Print name) values = value_text name (values name)
text_under p inverse script line (c.Pivots name) values = value_text name (values name)
text_under p inverse script line (c.Ptrsm side uplo transa diag m n alpha a ia ja b ib jb) values =
    info_text (codes "ptrsm") b (solved_by_triangle p inverse values side uplo transa diag alpha a b).info
text_under p inverse script line (c.Pgetrf m n a ia ja v) values = info_text (codes "pgetrf") a (factored p inverse values a).info
text_under p inverse script line (c.Pgetrs trans n nrhs a ia ja v b ib jb) values = info_text (codes "pgetrs") b (solved_by_factors p inverse values trans a v b).info
text_under p inverse script line (c.Grid name down across f) values = []
text_under p inverse script line (c.Matrix name grid m n mb nb rsrc csrc file) values = []
text_under p inverse script line (c.Pgemm transa transb m n k alpha a ia ja b ib jb beta x ic jc) values = []
text_under p inverse script line (c.Pgemr2d m n a ia ja b ib jb ctxt) values = []
text_under p inverse script line (c.Discard name) values = []
text_under p inverse script line (c.Topology kind) values = []
text_under p inverse script line (c.Links n) values = []
text_under p inverse script line (c.Order numbers) values = []
text_under p inverse script line (c.Lose at rank) values = []
text_under p inverse script line (c.Spares n) values = []
text_under p inverse script line (c.Field n) values = []
text_under p inverse script line (c.Ptran m n alpha a ia ja beta x ic jc) values = []
text_under p inverse script line (c.Pgetri n a ia ja v b ib jb) values = info_text (codes "pgetri") b (inverted_by_factors p inverse values a v b).info
text_under p inverse script line (c.Flip name i j x) values = []
text_under p inverse script line (c.Pverify name) values = wrong_text name (wrong_in p script line name (matrix_in (values name)))

-- the text of commands of a script, from these values on
abbrev pub texts_under : ℕ → (ℕ → ℕ) → List Numbered → (ℕ → Matrix) → List Numbered → Values → List ℕ
texts_under p inverse script files [] values = []
texts_under p inverse script files (n ∷ ns) values =
    text_under p inverse script n.line n.command values ++ texts_under p inverse script files ns (values_under p inverse files n.line n.command values)

-- no name means anything
abbrev pub no_values : Values
no_values name = None

-- ---- over the field of the script
-- the text of some commands of a script, from these values on
abbrev pub text_from : (ℕ → Matrix) → List Numbered → List Numbered → Values → List ℕ
text_from files script ns values = texts_under (modulus_of script) (inverse (modulus_of script)) script files ns values

-- the text of the serial run
abbrev pub serial_text : (ℕ → Matrix) → List Numbered → List ℕ
serial_text files script = text_from files script script no_values

-- the commands of lines 1 to k
abbrev pub up_to : ℕ → List Numbered → List Numbered
up_to k [] = []
up_to k (n ∷ ns) = if nat_le n.line k then n ∷ up_to k ns else up_to k ns

-- the text of lines 1 to k of the serial run
abbrev pub text_to : (ℕ → Matrix) → List Numbered → ℕ → List ℕ
text_to files script k = text_from files script (up_to k script) no_values
