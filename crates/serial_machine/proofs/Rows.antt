-- The serial run evaluated on worked scripts. Their texts were worked out by hand.
use Rattle.std.proofs.Common.{◌≡◌, ℕ, ◌==◌, List, [], ◌∷◌, map, Option, Some, refl}
use Rattle.std.specs.Prelude.{if◌then◌else◌, codes}
use Rattle.std.specs.Fmt.{digits}
use Rattle.field_core.specs.Sums.{sum_to}
use Rattle.field_core.proofs.Computing.{quick_inverse, inverse_walk}
use Rattle.run_data.specs.Matrix.{Matrix, entry, tabulate}
use Rattle.run_data.specs.Parts.{patched}
use Rattle.run_data.specs.Script.{Numbered, commands_of, modulus_of}
use Rattle.run_data.specs.declared.command.Command.{Command}
use Rattle.run_data.specs.declared.command.Command.TheVariants as c
use Rattle.local_blas.specs.Kernels.{substituted, solution}
use Rattle.serial_model.specs.Elimination.{pivot_from, divide, subtract, with_pivot, eliminate_column, eliminate_columns, elimination, least_zero, pivot_row, came_from}
use Rattle.serial_model.specs.Transposes.{came_back_from}
use Rattle.serial_model.specs.Serial.{texts_under, no_values}

-- a `matrix` line
abbrev made : List ℕ → Option Command
made name = Some (c.Matrix name (codes "g") 1 1 1 1 0 0 (codes "f"))

-- the text of a script with these files, by line, over its field
abbrev said : (ℕ → Matrix) → List Numbered → List ℕ
said files script = texts_under (modulus_of script) (quick_inverse (modulus_of script)) script files script no_values

-- the text of a script whose first lines make A, B and C of these matrices
abbrev printed : Matrix → Matrix → Matrix → List Command → List ℕ
printed a b x more =
    said (λ line. if line == 1 then a else if line == 2 then b else x) (commands_of (made (codes "A") ∷ made (codes "B") ∷ made (codes "C") ∷ map (λ command. Some command) more))

-- the same over the field of 65521, with A and B alone
abbrev printed_over : Matrix → Matrix → List Command → List ℕ
printed_over a b more = said (λ line. if line == 2 then a else b) (commands_of (Some (c.Field 65521) ∷ made (codes "A") ∷ made (codes "B") ∷ map (λ command. Some command) more))

factor : ℕ → ℕ → Command
factor m n = c.Pgetrf m n (codes "A") 1 1 (codes "V")

solve : ℕ → Command
solve n = c.Pgetrs (codes "N") n 1 (codes "A") 1 1 (codes "V") (codes "B") 1 1

triangle : List ℕ → Command
triangle diag = c.Ptrsm (codes "L") (codes "L") (codes "N") diag 2 1 1 (codes "A") 1 1 (codes "B") 1 1

product : ℕ → ℕ → ℕ → Command
product n alpha beta = c.Pgemm (codes "N") (codes "N") n n n alpha (codes "A") 1 1 (codes "B") 1 1 beta (codes "C") 1 1

-- a matrix by its columns
columns : ℕ → List (List ℕ) → Matrix
columns m cs = record { rows = m; columns = cs }

none : Matrix
none = columns 0 []

-- factor, print, solve, print
abbrev solved : Matrix → Matrix → List ℕ
solved a b = printed a b none (factor 2 2 ∷ c.Pivots (codes "V") ∷ c.Print (codes "A") ∷ solve 2 ∷ c.Print (codes "B") ∷ [])

-- factor and print
abbrev factored : ℕ → ℕ → Matrix → List ℕ
factored m n a = printed a none none (factor m n ∷ c.Pivots (codes "V") ∷ c.Print (codes "A") ∷ [])

words_wrap : solved (columns 2 ((2 ∷ 1 ∷ []) ∷ (1 ∷ 1 ∷ []) ∷ [])) (columns 2 ((5 ∷ 3 ∷ []) ∷ []))
    ≡ codes "pgetrf A info 0\nV 2\n1 2\nA 2 2\n2 1\n32769 32769\npgetrs B info 0\nB 2 1\n2\n1\n"
unfolding digits elimination eliminate_columns eliminate_column with_pivot pivot_from divide subtract quick_inverse inverse_walk entry tabulate sum_to substituted solution least_zero came_from pivot_row factor solve columns none
words_wrap = refl

exchanged : solved (columns 2 ((0 ∷ 2 ∷ []) ∷ (1 ∷ 3 ∷ []) ∷ [])) (columns 2 ((4 ∷ 11 ∷ []) ∷ []))
    ≡ codes "pgetrf A info 0\nV 2\n2 2\nA 2 2\n2 3\n0 1\npgetrs B info 0\nB 2 1\n32768\n4\n"
unfolding digits elimination eliminate_columns eliminate_column with_pivot pivot_from divide subtract quick_inverse inverse_walk entry tabulate sum_to substituted solution least_zero came_from pivot_row factor solve columns none
exchanged = refl

singular : solved (columns 2 ((1 ∷ 2 ∷ []) ∷ (2 ∷ 4 ∷ []) ∷ [])) (columns 2 ((3 ∷ 4 ∷ []) ∷ []))
    ≡ codes "pgetrf A info 2\nV 2\n1 2\nA 2 2\n1 2\n2 0\npgetrs B info 2\nB 2 1\n3\n4\n"
unfolding digits elimination eliminate_columns eliminate_column with_pivot pivot_from divide subtract quick_inverse inverse_walk entry tabulate sum_to substituted solution least_zero came_from pivot_row factor solve columns none
singular = refl

zeros : factored 3 3 (columns 3 ((0 ∷ 0 ∷ 0 ∷ []) ∷ (0 ∷ 0 ∷ 0 ∷ []) ∷ (0 ∷ 0 ∷ 0 ∷ []) ∷ [])) ≡ codes "pgetrf A info 1\nV 3\n1 2 3\nA 3 3\n0 0 0\n0 0 0\n0 0 0\n"
unfolding digits elimination eliminate_columns eliminate_column with_pivot pivot_from divide subtract quick_inverse inverse_walk entry tabulate factor columns none
zeros = refl

more_columns : factored 3 5 (columns 3 ((1 ∷ 2 ∷ 1 ∷ []) ∷ (2 ∷ 4 ∷ 3 ∷ []) ∷ (3 ∷ 7 ∷ 3 ∷ []) ∷ (4 ∷ 8 ∷ 5 ∷ []) ∷ (5 ∷ 9 ∷ 6 ∷ []) ∷ []))
    ≡ codes "pgetrf A info 0\nV 3\n1 3 3\nA 3 5\n1 2 3 4 5\n1 1 0 1 1\n2 0 1 0 65536\n"
unfolding digits elimination eliminate_columns eliminate_column with_pivot pivot_from divide subtract quick_inverse inverse_walk entry tabulate factor columns none
more_columns = refl

more_rows : factored 5 3 (columns 5 ((1 ∷ 2 ∷ 3 ∷ 4 ∷ 5 ∷ []) ∷ (2 ∷ 4 ∷ 7 ∷ 8 ∷ 9 ∷ []) ∷ (1 ∷ 3 ∷ 3 ∷ 5 ∷ 6 ∷ []) ∷ []))
    ≡ codes "pgetrf A info 0\nV 3\n1 3 3\nA 5 3\n1 2 1\n3 1 0\n2 0 1\n4 0 1\n5 65536 1\n"
unfolding digits elimination eliminate_columns eliminate_column with_pivot pivot_from divide subtract quick_inverse inverse_walk entry tabulate factor columns none
more_rows = refl

wrapped : printed (columns 1 ((65536 ∷ []) ∷ [])) (columns 1 ((65536 ∷ []) ∷ [])) (columns 1 ((1 ∷ []) ∷ [])) (product 1 65536 65536 ∷ c.Print (codes "C") ∷ []) ≡ codes "C 1 1\n65535\n"
unfolding digits entry tabulate sum_to product columns
wrapped = refl

multiplied : printed (columns 2 ((1 ∷ 3 ∷ []) ∷ (2 ∷ 4 ∷ []) ∷ [])) (columns 2 ((5 ∷ 7 ∷ []) ∷ (6 ∷ 8 ∷ []) ∷ [])) (columns 2 ((9 ∷ 9 ∷ []) ∷ (9 ∷ 9 ∷ []) ∷ [])) (product 2 1 0 ∷ c.Print (codes "C") ∷ [])
    ≡ codes "C 2 2\n19 22\n43 50\n"
unfolding digits entry tabulate sum_to product columns
multiplied = refl

copied : printed (columns 3 ((11 ∷ 21 ∷ 31 ∷ []) ∷ (12 ∷ 22 ∷ 32 ∷ []) ∷ (13 ∷ 23 ∷ 33 ∷ []) ∷ (14 ∷ 24 ∷ 34 ∷ []) ∷ []))
    (columns 3 ((0 ∷ 0 ∷ 0 ∷ []) ∷ (0 ∷ 0 ∷ 0 ∷ []) ∷ (0 ∷ 0 ∷ 0 ∷ []) ∷ (0 ∷ 0 ∷ 0 ∷ []) ∷ [])) none
    (c.Pgemr2d 3 3 (codes "A") 1 2 (codes "B") 1 1 (codes "all") ∷ c.Print (codes "B") ∷ [])
    ≡ codes "B 3 4\n12 13 14 0\n22 23 24 0\n32 33 34 0\n"
unfolding digits entry tabulate patched columns none
copied = refl

-- a triangle of two rows
abbrev triangular : Matrix → List ℕ → List ℕ
triangular a diag = printed a (columns 2 ((3 ∷ 5 ∷ []) ∷ [])) none (triangle diag ∷ c.Print (codes "B") ∷ [])

divided_rows : triangular (columns 2 ((2 ∷ 1 ∷ []) ∷ (0 ∷ 1 ∷ []) ∷ [])) (codes "N") ≡ codes "ptrsm B info 0\nB 2 1\n32770\n32772\n"
unfolding digits entry tabulate sum_to substituted solution least_zero quick_inverse inverse_walk triangle columns none
divided_rows = refl

ones : triangular (columns 2 ((2 ∷ 1 ∷ []) ∷ (0 ∷ 1 ∷ []) ∷ [])) (codes "U") ≡ codes "ptrsm B info 0\nB 2 1\n3\n2\n"
unfolding digits entry tabulate sum_to substituted solution least_zero quick_inverse inverse_walk triangle columns none
ones = refl

no_triangle : triangular (columns 2 ((1 ∷ 4 ∷ []) ∷ (0 ∷ 0 ∷ []) ∷ [])) (codes "N") ≡ codes "ptrsm B info 2\nB 2 1\n3\n5\n"
unfolding digits entry tabulate sum_to substituted solution least_zero quick_inverse inverse_walk triangle columns none
no_triangle = refl

-- ---- the other field
smaller_words : printed_over (columns 2 ((2 ∷ 1 ∷ []) ∷ (1 ∷ 1 ∷ []) ∷ [])) (columns 2 ((5 ∷ 3 ∷ []) ∷ [])) (factor 2 2 ∷ c.Pivots (codes "V") ∷ c.Print (codes "A") ∷ solve 2 ∷ c.Print (codes "B") ∷ [])
    ≡ codes "pgetrf A info 0\nV 2\n1 2\nA 2 2\n2 1\n32761 32761\npgetrs B info 0\nB 2 1\n2\n1\n"
unfolding digits elimination eliminate_columns eliminate_column with_pivot pivot_from divide subtract quick_inverse inverse_walk entry tabulate sum_to substituted solution least_zero came_from pivot_row factor solve columns
smaller_words = refl

-- ---- transposes
turned_and_added : printed (columns 2 ((1 ∷ 4 ∷ []) ∷ (2 ∷ 5 ∷ []) ∷ (3 ∷ 6 ∷ []) ∷ [])) none (columns 3 ((1 ∷ 1 ∷ 1 ∷ []) ∷ (1 ∷ 1 ∷ 1 ∷ []) ∷ [])) (c.Ptran 3 2 2 (codes "A") 1 1 1 (codes "C") 1 1 ∷ c.Print (codes "C") ∷ [])
    ≡ codes "C 3 2\n3 9\n5 11\n7 13\n"
unfolding digits entry tabulate columns none
turned_and_added = refl

turned_triangle : printed (columns 2 ((1 ∷ 2 ∷ []) ∷ (0 ∷ 1 ∷ []) ∷ [])) (columns 2 ((5 ∷ 2 ∷ []) ∷ [])) none
    (c.Ptrsm (codes "L") (codes "L") (codes "T") (codes "U") 2 1 1 (codes "A") 1 1 (codes "B") 1 1 ∷ c.Print (codes "B") ∷ [])
    ≡ codes "ptrsm B info 0\nB 2 1\n1\n2\n"
unfolding digits entry tabulate sum_to substituted solution least_zero quick_inverse inverse_walk columns none
turned_triangle = refl

right_triangle : printed (columns 2 ((2 ∷ 0 ∷ []) ∷ (1 ∷ 1 ∷ []) ∷ [])) (columns 1 ((4 ∷ []) ∷ (5 ∷ []) ∷ [])) none
    (c.Ptrsm (codes "R") (codes "U") (codes "N") (codes "N") 1 2 1 (codes "A") 1 1 (codes "B") 1 1 ∷ c.Print (codes "B") ∷ [])
    ≡ codes "ptrsm B info 0\nB 1 2\n2 3\n"
unfolding digits entry tabulate sum_to substituted solution least_zero quick_inverse inverse_walk columns none
right_triangle = refl

turned_factors : printed (columns 2 ((0 ∷ 2 ∷ []) ∷ (1 ∷ 3 ∷ []) ∷ [])) (columns 2 ((4 ∷ 11 ∷ []) ∷ [])) none
    (factor 2 2 ∷ c.Pgetrs (codes "T") 2 1 (codes "A") 1 1 (codes "V") (codes "B") 1 1 ∷ c.Print (codes "B") ∷ [])
    ≡ codes "pgetrf A info 0\npgetrs B info 0\nB 2 1\n5\n2\n"
unfolding digits elimination eliminate_columns eliminate_column with_pivot pivot_from divide subtract quick_inverse inverse_walk entry tabulate sum_to substituted solution least_zero came_from came_back_from pivot_row factor columns none
turned_factors = refl

-- ---- inverses
-- factor, invert, print
abbrev inverted : Matrix → List ℕ
inverted a =
    printed a (columns 2 ((0 ∷ 0 ∷ []) ∷ (0 ∷ 0 ∷ []) ∷ [])) none (factor 2 2 ∷ c.Pgetri 2 (codes "A") 1 1 (codes "V") (codes "B") 1 1 ∷ c.Print (codes "B") ∷ [])

inverse_wraps : inverted (columns 2 ((2 ∷ 1 ∷ []) ∷ (1 ∷ 1 ∷ []) ∷ [])) ≡ codes "pgetrf A info 0\npgetri B info 0\nB 2 2\n1 65536\n65536 2\n"
unfolding digits elimination eliminate_columns eliminate_column with_pivot pivot_from divide subtract quick_inverse inverse_walk entry tabulate sum_to substituted solution least_zero came_from pivot_row factor columns none
inverse_wraps = refl

inverse_exchanged : inverted (columns 2 ((0 ∷ 2 ∷ []) ∷ (1 ∷ 3 ∷ []) ∷ [])) ≡ codes "pgetrf A info 0\npgetri B info 0\nB 2 2\n32767 32769\n1 0\n"
unfolding digits elimination eliminate_columns eliminate_column with_pivot pivot_from divide subtract quick_inverse inverse_walk entry tabulate sum_to substituted solution least_zero came_from pivot_row factor columns none
inverse_exchanged = refl

no_inverse : inverted (columns 2 ((1 ∷ 2 ∷ []) ∷ (2 ∷ 4 ∷ []) ∷ [])) ≡ codes "pgetrf A info 2\npgetri B info 2\nB 2 2\n0 0\n0 0\n"
unfolding digits elimination eliminate_columns eliminate_column with_pivot pivot_from divide subtract quick_inverse inverse_walk entry tabulate sum_to substituted solution least_zero came_from pivot_row factor columns none
no_inverse = refl

-- ---- wrong words
flip : List ℕ → ℕ → ℕ → ℕ → Command
flip name i j x = c.Flip name i j x

verify : Command
verify = c.Pverify (codes "A")

-- A from a file once more
made_again : Command
made_again = c.Matrix (codes "A") (codes "g") 2 2 1 1 0 0 (codes "f")

-- A and B of two rows and two columns, and the flips
abbrev flipped : List Command → List ℕ
flipped more = printed (columns 2 ((1 ∷ 2 ∷ []) ∷ (3 ∷ 4 ∷ []) ∷ [])) (columns 2 ((5 ∷ 6 ∷ []) ∷ (7 ∷ 8 ∷ []) ∷ [])) none more

-- two flips of one word undo each other; those of another matrix are none of this one
flips_add : flipped (flip (codes "A") 1 1 5 ∷ flip (codes "A") 2 1 3 ∷ flip (codes "B") 2 2 9 ∷ flip (codes "A") 1 1 65532 ∷ flip (codes "A") 1 2 0 ∷ verify ∷ c.Print (codes "A") ∷ [])
    ≡ codes "pverify A wrong 1\nA 2 2\n1 3\n2 4\n"
unfolding digits entry tabulate sum_to flip verify columns none
flips_add = refl

verified_once : flipped (flip (codes "A") 1 1 5 ∷ verify ∷ flip (codes "A") 1 2 6 ∷ flip (codes "A") 2 2 7 ∷ verify ∷ verify ∷ []) ≡ codes "pverify A wrong 1\npverify A wrong 2\npverify A wrong 0\n"
unfolding digits entry tabulate sum_to flip verify columns none
verified_once = refl

dropped_flips : flipped (flip (codes "A") 1 1 5 ∷ c.Discard (codes "A") ∷ made_again ∷ verify ∷ []) ≡ codes "pverify A wrong 0\n"
unfolding digits entry tabulate sum_to flip verify made_again columns none
dropped_flips = refl
