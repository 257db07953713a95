-- The rules of a script's lines, and the first that a line breaks. A rule is its code, and whether it is kept.
use Rattle.std.specs.Prelude.{ℕ, ◌+◌, ◌-◌, ◌*◌, ◌/◌, ◌%◌, ◌==◌, if◌then◌else◌, Bool, true, false, ◌&&◌, ◌||◌, not, nat_le, nat_lt, List, [], ◌∷◌, ◌++◌, length, map, codes, is_some, is_none, Option, Some, None, ℤ, pos, negsuc}
use Rattle.std.specs.Option.{option_or}
use Rattle.std.specs.Str.{bytes_eq, is_utf8}
use Rattle.std.specs.List.{list_all}
use Rattle.array_desc.specs.Descriptors.{checked_entries, is_between_one_and}
use Rattle.blacs_grid.specs.Limits.{process_limit, code_column_limit, rank_limit}
use Rattle.run_data.specs.declared.command.Command.{Command}
use Rattle.run_data.specs.declared.command.Command.TheVariants as c
use Rattle.run_data.specs.declared.flips.Flip.{Flip}
use Rattle.run_data.specs.Script.{Numbered, command_at, maker, is_grid_line, modulus_of}
use Rattle.run_data.specs.Flips.{pending}
use Rattle.script_words.specs.declared.kinds.Kind.{Kind}
use Rattle.script_words.specs.declared.kinds.Kind.TheVariants.{NewName, GridName, MatrixName, ListName, ThingName, Number, FileName, Letter}
use Rattle.script_rules.specs.declared.distributions.Distribution.{Distribution}
use Rattle.script_rules.specs.declared.told.Told.{Told}
use Rattle.script_words.specs.Limits.{live_limit, matrix_limit, printed_limit, capacity_limit, order_limit, orders_limit, spares_limit}
use Rattle.script_words.specs.Names.{is_name}
use Rattle.script_words.specs.Numbers.{number_of}
use Rattle.script_rules.specs.Routines.{is_option, pgemm_rules, ptrsm_rules, pgetrf_rules, pgetrs_rules, pgemr2d_rules, ptran_rules, pgetri_rules}
use Rattle.script_words.specs.Tables.{first_code}

-- ---- what names mean, after the commands of earlier lines

abbrev pub command_on : List Numbered → Option ℕ → Option Command
command_on cs None = None
command_on cs (Some line) = command_at cs line

-- the command that made what a name means as seen from a line
abbrev pub maker_command : List Numbered → ℕ → List ℕ → Option Command
maker_command cs line name = command_on cs (maker cs line name)

abbrev pub is_matrix_line : Option Command → Bool
is_matrix_line (Some (c.Matrix name grid m n mb nb rsrc csrc file)) = true
is_matrix_line _ = false

abbrev pub is_list_line : Option Command → Bool
is_list_line (Some (c.Pgetrf m n a ia ja v)) = true
is_list_line _ = false

-- the process rows and the process columns of a grid
abbrev pub process_rows : Option Command → ℕ
process_rows (Some (c.Grid name p q f)) = p
process_rows _ = 0

abbrev pub process_columns : Option Command → ℕ
process_columns (Some (c.Grid name p q f)) = q
process_columns _ = 0

-- the words of a matrix
abbrev pub matrix_words : Option Command → ℕ
matrix_words (Some (c.Matrix name grid m n mb nb rsrc csrc file)) = m * n
matrix_words _ = 0

-- ---- the matrices that names mean

-- what a name that means no matrix has
abbrev pub no_distribution : Distribution
no_distribution = record { grid = 0; p = 0; q = 0; f = 0; m = 0; n = 0; mb = 0; nb = 0; rsrc = 0; csrc = 0 }

-- a matrix on a grid, by the grid's line and command
abbrev pub distribution_on : Option ℕ → Option Command → ℕ → ℕ → ℕ → ℕ → ℕ → ℕ → Distribution
distribution_on (Some grid) (Some (c.Grid name p q f)) m n mb nb rsrc csrc = record { grid = grid; p = p; q = q; f = f; m = m; n = n; mb = mb; nb = nb; rsrc = rsrc; csrc = csrc }
distribution_on grid command m n mb nb rsrc csrc = no_distribution

-- the matrix that the command on a line made
abbrev pub distribution_made : List Numbered → Option ℕ → Option Command → Distribution
distribution_made cs (Some at) (Some (c.Matrix name grid m n mb nb rsrc csrc file)) = distribution_on (maker cs at grid) (maker_command cs at grid) m n mb nb rsrc csrc
distribution_made cs at command = no_distribution

-- the matrix that a name means as seen from a line
abbrev pub distribution_of : List Numbered → ℕ → List ℕ → Distribution
distribution_of cs line name = distribution_made cs (maker cs line name) (maker_command cs line name)

-- the matrix whose factorization made the pivot list that a name means as seen from a line
abbrev pub factored_made : List Numbered → Option ℕ → Option Command → Distribution
factored_made cs (Some at) (Some (c.Pgetrf m n a ia ja v)) = distribution_of cs at a
factored_made cs at command = no_distribution

abbrev pub factored : List Numbered → ℕ → List ℕ → Distribution
factored cs line name = factored_made cs (maker cs line name) (maker_command cs line name)

-- ---- the words of a line

-- the rules of a word of a line by its kind
abbrev pub word_rules : List Numbered → ℕ → Kind → List ℕ → List (ℤ × Bool)
word_rules cs line NewName word = (pos 4, is_name word) ∷ (pos 5, is_none (maker cs line word)) ∷ []
word_rules cs line GridName word = (pos 6, is_grid_line (maker_command cs line word)) ∷ []
word_rules cs line MatrixName word = (pos 6, is_matrix_line (maker_command cs line word)) ∷ []
word_rules cs line ListName word = (pos 6, is_list_line (maker_command cs line word)) ∷ []
word_rules cs line ThingName word = (pos 6, is_matrix_line (maker_command cs line word) || is_list_line (maker_command cs line word)) ∷ []
word_rules cs line Number word = (pos 3, is_some (number_of word)) ∷ []
word_rules cs line FileName word = (pos 4, is_utf8 word) ∷ []
word_rules cs line Letter word = []

-- the code of the first word, from left to right, that breaks a rule
abbrev pub words_code : List Numbered → ℕ → List Kind → List (List ℕ) → Option ℤ
words_code cs line [] words = None
words_code cs line (kind ∷ kinds) [] = None
words_code cs line (kind ∷ kinds) (word ∷ words) = option_or (first_code (word_rules cs line kind word)) (words_code cs line kinds words)

-- where further words may follow, all of them are numbers
abbrev pub is_number : List ℕ → Bool
is_number word = is_some (number_of word)

abbrev pub more_rules : Bool → List (List ℕ) → List (ℤ × Bool)
more_rules takes_more words = (pos 3, not takes_more || list_all is_number words) ∷ []

-- ---- what the lines so far count

-- the sum of what each command counts, seen with the commands before it
abbrev pub total_after : (List Numbered → Numbered → ℕ) → List Numbered → List Numbered → ℕ
total_after count cs [] = 0
total_after count cs (n ∷ ns) = count cs n + total_after count (cs ++ n ∷ []) ns

abbrev pub total : (List Numbered → Numbered → ℕ) → List Numbered → ℕ
total count ns = total_after count [] ns

abbrev pub ranks_made : Command → ℕ
ranks_made (c.Grid name p q f) = p * (q + f)
ranks_made _ = 0

abbrev pub matrices_made : Command → ℕ
matrices_made (c.Matrix name grid m n mb nb rsrc csrc file) = 1
matrices_made _ = 0

abbrev pub matrices_dropped : List Numbered → ℕ → Command → ℕ
matrices_dropped cs line (c.Discard name) = if is_matrix_line (maker_command cs line name) then 1 else 0
matrices_dropped cs line _ = 0

abbrev pub lists_made : Command → ℕ
lists_made (c.Pgetrf m n a ia ja v) = 1
lists_made _ = 0

abbrev pub lists_dropped : List Numbered → ℕ → Command → ℕ
lists_dropped cs line (c.Discard name) = if is_list_line (maker_command cs line name) then 1 else 0
lists_dropped cs line _ = 0

abbrev pub links_set : Command → ℕ
links_set (c.Links n) = 1
links_set _ = 0

abbrev pub spares_set : Command → ℕ
spares_set (c.Spares n) = 1
spares_set _ = 0

abbrev pub fields_set : Command → ℕ
fields_set (c.Field n) = 1
fields_set _ = 0

abbrev pub numbers_ordered : Command → ℕ
numbers_ordered (c.Order numbers) = length numbers
numbers_ordered _ = 0

abbrev pub words_printed : List Numbered → ℕ → Command → ℕ
words_printed cs line (c.Print name) = matrix_words (maker_command cs line name)
words_printed cs line _ = 0

-- the ranks of all grids
abbrev pub ranks_of : List Numbered → ℕ
ranks_of cs = total (λ before n. ranks_made n.command) cs

-- the `matrix` lines, and the matrices that were dropped
abbrev pub matrix_lines : List Numbered → ℕ
matrix_lines cs = total (λ before n. matrices_made n.command) cs

abbrev pub dropped_matrices : List Numbered → ℕ
dropped_matrices cs = total (λ before n. matrices_dropped before n.line n.command) cs

-- the matrices that were made and not dropped
abbrev pub live_matrices : List Numbered → ℕ
live_matrices cs = matrix_lines cs - dropped_matrices cs

-- the words of the matrices that `print` lines name, together
abbrev pub printed_words : List Numbered → ℕ
printed_words cs = total (λ before n. words_printed before n.line n.command) cs

-- the pivot lists that were made and not dropped
abbrev pub list_lines : List Numbered → ℕ
list_lines cs = total (λ before n. lists_made n.command) cs

abbrev pub dropped_lists : List Numbered → ℕ
dropped_lists cs = total (λ before n. lists_dropped before n.line n.command) cs

abbrev pub live_lists : List Numbered → ℕ
live_lists cs = list_lines cs - dropped_lists cs

-- the `links` lines
abbrev pub link_lines : List Numbered → ℕ
link_lines cs = total (λ before n. links_set n.command) cs

-- the `spares` lines
abbrev pub spares_lines : List Numbered → ℕ
spares_lines cs = total (λ before n. spares_set n.command) cs

-- the `field` lines
abbrev pub field_lines : List Numbered → ℕ
field_lines cs = total (λ before n. fields_set n.command) cs

-- the numbers of all `order` lines
abbrev pub ordered_numbers : List Numbered → ℕ
ordered_numbers cs = total (λ before n. numbers_ordered n.command) cs

-- ---- the rules of the commands

-- the code of a descriptor entry that is out of its range is the negative of its number
abbrev pub entry_rules : List (ℕ × Bool) → List (ℤ × Bool)
entry_rules entries = map (λ entry. (negsuc (entry.0 - 1), entry.1)) entries

-- the shape of a grid is in range
abbrev pub is_shape : ℕ → ℕ → ℕ → Bool
is_shape p q f = is_between_one_and process_limit p && is_between_one_and process_limit q && nat_le f code_column_limit

abbrev pub grid_rules : ℕ → ℕ → ℕ → ℕ → List (ℤ × Bool)
grid_rules ranks p q f = (pos 8, is_shape p q f) ∷ (pos 9, nat_le (ranks + p * (q + f)) rank_limit) ∷ []

abbrev pub matrix_rules : ℕ → ℕ → ℕ → ℕ → ℕ → ℕ → ℕ → ℕ → ℕ → ℕ → List (ℤ × Bool)
matrix_rules live lines p q m n mb nb rsrc csrc =
    entry_rules (checked_entries p q m n mb nb rsrc csrc) ++ (pos 10, nat_lt live live_limit && nat_lt lines matrix_limit) ∷ []

abbrev pub print_rules : ℕ → ℕ → List (ℤ × Bool)
print_rules printed words = (pos 10, nat_le (printed + words) printed_limit) ∷ []

-- a new list after so many live ones
abbrev pub list_rules : ℕ → List (ℤ × Bool)
list_rules live = (pos 10, nat_lt live live_limit) ∷ []

abbrev pub topology_rules : List ℕ → List (ℤ × Bool)
topology_rules kind = (pos 8, is_option (codes "I") (codes "i") kind || is_option (codes "D") (codes "d") kind || is_option (codes "T") (codes "t") kind) ∷ []

abbrev pub links_rules : ℕ → ℕ → List (ℤ × Bool)
links_rules lines n = (pos 8, is_between_one_and capacity_limit n) ∷ (pos 16, lines == 0) ∷ []

abbrev pub is_order_number : ℕ → Bool
is_order_number n = nat_le n order_limit

abbrev pub order_rules : ℕ → List ℕ → List (ℤ × Bool)
order_rules ordered numbers = (pos 8, list_all is_order_number numbers && nat_le (ordered + length numbers) orders_limit) ∷ []

abbrev pub lose_rules : ℕ → ℕ → List (ℤ × Bool)
lose_rules ranks rank = (pos 8, nat_lt rank ranks) ∷ []

abbrev pub spares_rules : ℕ → ℕ → List (ℤ × Bool)
spares_rules lines n = (pos 8, nat_le n spares_limit) ∷ (pos 21, lines == 0) ∷ []

-- a field after so many field lines and so many matrix lines: that of one of two primes
abbrev pub field_rules : ℕ → ℕ → ℕ → List (ℤ × Bool)
field_rules lines matrices n = (pos 8, (n == 65537) || (n == 65521)) ∷ (pos 19, lines == 0) ∷ (pos 20, matrices == 0) ∷ []

-- where a column of a matrix lies, counted from 1: the group of its block column, and the place in its block
abbrev pub group_of : Distribution → ℕ → ℕ
group_of a j = ((j - 1) / a.nb) / a.q

abbrev pub place_of : Distribution → ℕ → ℕ
place_of a j = (j - 1) % a.nb

-- a word of a matrix and one that a flip names may be wrong at once: the code of a row says of no two words in one group and at one place of their blocks
-- which of them is wrong
abbrev pub is_apart : Distribution → ℕ → ℕ → Flip → Bool
is_apart a i j flip = not ((flip.row == i) && not (flip.column == j) && (group_of a flip.column == group_of a j) && (place_of a flip.column == place_of a j))

-- a flip of a matrix modulo p, where these are pending
abbrev pub flip_rules : ℕ → Distribution → List Flip → ℕ → ℕ → ℕ → List (ℤ × Bool)
flip_rules p a flips i j x =
    (pos 8, is_between_one_and a.m i && is_between_one_and a.n j && nat_lt x p) ∷ (pos 23, nat_le 2 a.f) ∷ (pos 24, list_all (is_apart a i j) flips) ∷ []

abbrev pub pverify_rules : Distribution → List (ℤ × Bool)
pverify_rules a = (pos 22, nat_le 1 a.f) ∷ []

-- the rules of each routine on a line over the field of modulus p, by the matrices that its names mean; another command has none of them
abbrev pub pgemm_line : ℕ → List Numbered → ℕ → Command → List (ℤ × Bool)
pgemm_line p cs line (c.Pgemm transa transb m n k alpha a ia ja b ib jb beta x ic jc) =
    pgemm_rules p transa transb m n k alpha ia ja ib jb beta (not (bytes_eq x a) && not (bytes_eq x b)) ic jc (distribution_of cs line a) (distribution_of cs line b) (distribution_of cs line x)
pgemm_line p cs line _ = []

abbrev pub ptrsm_line : ℕ → List Numbered → ℕ → Command → List (ℤ × Bool)
ptrsm_line p cs line (c.Ptrsm side uplo transa diag m n alpha a ia ja b ib jb) =
    ptrsm_rules p side uplo transa diag m n alpha ia ja (not (bytes_eq b a)) ib jb (distribution_of cs line a) (distribution_of cs line b)
ptrsm_line p cs line _ = []

abbrev pub pgetrf_line : List Numbered → ℕ → Command → List (ℤ × Bool)
pgetrf_line cs line (c.Pgetrf m n a ia ja v) = pgetrf_rules m n ia ja (distribution_of cs line a)
pgetrf_line cs line _ = []

abbrev pub pgetrs_line : List Numbered → ℕ → Command → List (ℤ × Bool)
pgetrs_line cs line (c.Pgetrs trans n nrhs a ia ja v b ib jb) =
    pgetrs_rules trans n nrhs ia ja (not (bytes_eq b a)) ib jb (distribution_of cs line a) (factored cs line v) (distribution_of cs line b)
pgetrs_line cs line _ = []

abbrev pub pgemr2d_line : List Numbered → ℕ → Command → List (ℤ × Bool)
pgemr2d_line cs line (c.Pgemr2d m n a ia ja b ib jb ctxt) =
    pgemr2d_rules m n ia ja (not (bytes_eq b a)) ib jb ctxt (distribution_of cs line a) (distribution_of cs line b)
pgemr2d_line cs line _ = []

abbrev pub ptran_line : ℕ → List Numbered → ℕ → Command → List (ℤ × Bool)
ptran_line p cs line (c.Ptran m n alpha a ia ja beta x ic jc) =
    ptran_rules p m n alpha ia ja beta (not (bytes_eq x a)) ic jc (distribution_of cs line a) (distribution_of cs line x)
ptran_line p cs line _ = []

abbrev pub pgetri_line : List Numbered → ℕ → Command → List (ℤ × Bool)
pgetri_line cs line (c.Pgetri n a ia ja v b ib jb) = pgetri_rules n ia ja (not (bytes_eq b a)) ib jb (distribution_of cs line a) (factored cs line v) (distribution_of cs line b)
pgetri_line cs line _ = []

abbrev pub routine_rules : ℕ → List Numbered → ℕ → Command → List (ℤ × Bool)
routine_rules p cs line command =
    pgemm_line p cs line command ++ ptrsm_line p cs line command ++ pgetrf_line cs line command ++ pgetrs_line cs line command ++ pgemr2d_line cs line command
    ++ ptran_line p cs line command ++ pgetri_line cs line command

-- the rules of a command of the script's own
abbrev pub own_rules : Told → List Numbered → ℕ → Command → List (ℤ × Bool)
own_rules told cs line (c.Grid name p q f) = grid_rules (ranks_of cs) p q f
own_rules told cs line (c.Matrix name grid m n mb nb rsrc csrc file) =
    matrix_rules (live_matrices cs) (matrix_lines cs) (process_rows (maker_command cs line grid)) (process_columns (maker_command cs line grid)) m n mb nb rsrc csrc
own_rules told cs line (c.Pgetrf m n a ia ja v) = list_rules (live_lists cs)
own_rules told cs line (c.Print name) = print_rules (printed_words cs) (matrix_words (maker_command cs line name))
own_rules told cs line (c.Topology kind) = topology_rules kind
own_rules told cs line (c.Links n) = links_rules (link_lines cs) n
own_rules told cs line (c.Order numbers) = order_rules (ordered_numbers cs) numbers
own_rules told cs line (c.Lose at rank) = lose_rules told.ranks rank
own_rules told cs line (c.Spares n) = spares_rules (spares_lines cs) n
own_rules told cs line (c.Field n) = field_rules (field_lines cs) (matrix_lines cs) n
own_rules told cs line (c.Flip name i j x) = flip_rules (modulus_of cs) (distribution_of cs line name) (pending cs line name) i j x
own_rules told cs line (c.Pverify name) = pverify_rules (distribution_of cs line name)
own_rules told cs line (c.Pgemm transa transb m n k alpha a ia ja b ib jb beta x ic jc) = []
own_rules told cs line (c.Ptrsm side uplo transa diag m n alpha a ia ja b ib jb) = []
own_rules told cs line (c.Pgetrs trans n nrhs a ia ja v b ib jb) = []
own_rules told cs line (c.Pgemr2d m n a ia ja b ib jb ctxt) = []
own_rules told cs line (c.Ptran m n alpha a ia ja beta x ic jc) = []
own_rules told cs line (c.Pgetri n a ia ja v b ib jb) = []
own_rules told cs line (c.Pivots name) = []
own_rules told cs line (c.Discard name) = []

-- the rules of a command on a line, after those of its words: of the routine, and then of what a script may hold; what the whole script
-- tells beforehand is `told`
abbrev pub rules : Told → List Numbered → ℕ → Command → List (ℤ × Bool)
rules told cs line command = routine_rules (modulus_of cs) cs line command ++ own_rules told cs line command
