-- How many records a script makes at most.
use Rattle.std.specs.Prelude.{ℕ, ◌+◌, ◌*◌, ◌==◌, if◌then◌else◌, Bool, false, ◌||◌, max, List, [], ◌∷◌, length, Option, Some, None}
use Rattle.std.specs.List.{sum_by}
use Rattle.array_desc.specs.Maps.{groups}
use Rattle.run_data.specs.declared.command.Command.{Command}
use Rattle.run_data.specs.declared.command.Command.TheVariants as c
use Rattle.run_data.specs.Script.{Numbered, maker, name_made}
use Rattle.run_data.specs.Flips.{pending}
use Rattle.script_rules.specs.Rules.{maker_command, distribution_of, distribution_on, ranks_of}
use Rattle.script_bounds.specs.declared.steps.Steps.{Steps}
use Rattle.script_bounds.specs.Steps.{one_phase, pgemm_steps, ptrsm_steps, pgetrf_steps, pgetrs_steps, pgemr2d_steps, ptran_steps, pgetri_steps, pverify_steps, matrix_recovery, list_recovery}

-- a `matrix` line on a grid of p process rows, q data columns and f code columns: each group is fed and its code columns are made, and a commit
abbrev pub matrix_records : ℕ → ℕ → ℕ → ℕ → ℕ
matrix_records p q f groups = p * groups * (q + f * (3 * q + 1)) + 1

-- a `print` line: each data strip is taken, and a commit
abbrev pub print_records : ℕ → ℕ → ℕ → ℕ
print_records p q groups = p * q * groups + 1

-- the two for a matrix of n columns in blocks of nb on a grid
abbrev pub records_of_matrix : Option Command → ℕ → ℕ → ℕ
records_of_matrix (Some (c.Grid name p q f)) n nb = matrix_records p q f (groups n nb q)
records_of_matrix _ n nb = 0

abbrev pub print_on : Option Command → ℕ → ℕ → ℕ
print_on (Some (c.Grid name p q f)) n nb = print_records p q (groups n nb q)
print_on _ n nb = 0

-- a `print` line of the matrix that a line made
abbrev pub records_of_print : List Numbered → Option ℕ → Option Command → ℕ
records_of_print cs (Some line) (Some (c.Matrix name grid m n mb nb rsrc csrc file)) = print_on (maker_command cs line grid) n nb
records_of_print cs line command = 0

-- the records of a command on a line
abbrev pub steps_in : List Numbered → ℕ → Command → Steps
steps_in cs line (c.Matrix name grid m n mb nb rsrc csrc file) = one_phase (records_of_matrix (maker_command cs line grid) n nb)
steps_in cs line (c.Pgemm transa transb m n k alpha a ia ja b ib jb beta x ic jc) = pgemm_steps k (distribution_of cs line a) (distribution_of cs line x)
steps_in cs line (c.Ptrsm side uplo transa diag m n alpha a ia ja b ib jb) = ptrsm_steps side transa m n (distribution_of cs line a) (distribution_of cs line b)
steps_in cs line (c.Pgetrf m n a ia ja v) = pgetrf_steps m n (distribution_of cs line a)
steps_in cs line (c.Pgetrs trans n nrhs a ia ja v b ib jb) = pgetrs_steps trans n (distribution_of cs line a) (distribution_of cs line b)
steps_in cs line (c.Pgemr2d m n a ia ja b ib jb ctxt) = pgemr2d_steps m n (distribution_of cs line a) (distribution_of cs line b)
steps_in cs line (c.Ptran m n alpha a ia ja beta x ic jc) = ptran_steps m n (distribution_of cs line a) (distribution_of cs line x)
steps_in cs line (c.Pgetri n a ia ja v b ib jb) = pgetri_steps n (distribution_of cs line a) (distribution_of cs line b)
steps_in cs line (c.Pverify name) = pverify_steps (distribution_of cs line name) (length (pending cs line name))
steps_in cs line (c.Print name) = one_phase (records_of_print cs (maker cs line name) (maker_command cs line name))
steps_in cs line (c.Pivots name) = one_phase 2
steps_in cs line (c.Discard name) = one_phase 1
steps_in cs line (c.Grid name p q f) = one_phase 0
steps_in cs line (c.Topology kind) = one_phase 0
steps_in cs line (c.Links n) = one_phase 0
steps_in cs line (c.Order numbers) = one_phase 0
steps_in cs line (c.Lose at rank) = one_phase 0
steps_in cs line (c.Spares n) = one_phase 0
steps_in cs line (c.Field n) = one_phase 0
steps_in cs line (c.Flip name i j x) = one_phase 0

abbrev pub records_in : List Numbered → ℕ → Command → ℕ
records_in cs line command = (steps_in cs line command).count

-- the records of all lines when no rank is lost
unfoldable pub plain_bound : List Numbered → ℕ
plain_bound cs = sum_by (λ n. records_in cs n.line n.command) cs

-- the greatest of what each command has, and 0 of none
abbrev pub greatest : (Numbered → ℕ) → List Numbered → ℕ
greatest f [] = 0
greatest f (n ∷ ns) = max (f n) (greatest f ns)

-- the records of the longest phase
unfoldable pub phase_steps : List Numbered → ℕ
phase_steps cs = greatest (λ n. (steps_in cs n.line n.command).phase) cs

-- ---- after a loss

-- the records that bring back what a command makes
abbrev pub recovery_made : List Numbered → ℕ → Command → ℕ
recovery_made cs line (c.Matrix name grid m n mb nb rsrc csrc file) = matrix_recovery (distribution_on (maker cs line grid) (maker_command cs line grid) m n mb nb rsrc csrc)
recovery_made cs line (c.Pgetrf m n a ia ja v) = list_recovery (distribution_of cs line a)
recovery_made cs line _ = 0

-- the records that bring back what a command drops
abbrev pub recovery_on : List Numbered → Option ℕ → Option Command → ℕ
recovery_on cs (Some at) (Some command) = recovery_made cs at command
recovery_on cs at command = 0

abbrev pub recovery_dropped : List Numbered → ℕ → Command → ℕ
recovery_dropped cs line (c.Discard name) = recovery_on cs (maker cs line name) (maker_command cs line name)
recovery_dropped cs line _ = 0

abbrev pub is_line : Option ℕ → ℕ → Bool
is_line None line = false
is_line (Some at) line = at == line

-- the name that the command on a line made still means what it made, as seen from another line
abbrev pub still_means : List Numbered → ℕ → Option (List ℕ) → ℕ → Bool
still_means cs line None at = false
still_means cs line (Some name) at = is_line (maker cs line name) at

-- whether what a command made lives before or after a line: that very line made it, or its name still means it there
abbrev pub lives : List Numbered → ℕ → Numbered → Bool
lives cs line n = (n.line == line) || still_means cs line (name_made n.command) n.line

-- the records that bring back all that lives before or after a line
abbrev pub live_recovery : List Numbered → ℕ → ℕ
live_recovery cs line = sum_by (λ n. if lives cs line n then recovery_made cs n.line n.command else 0) cs

-- the records of a recovery at most: the restore and the commit, the ranks that come again, and what lives around a line
unfoldable pub recovery_steps : List Numbered → ℕ
recovery_steps cs = 2 + ranks_of cs + greatest (λ n. live_recovery cs n.line) cs

abbrev pub losses_made : Command → ℕ
losses_made (c.Lose at rank) = 1
losses_made _ = 0

-- the `lose` lines
unfoldable pub losses : List Numbered → ℕ
losses cs = sum_by (λ n. losses_made n.command) cs

-- the records of all lines, and for each loss those of a phase that is made again and of a recovery
unfoldable pub bound : List Numbered → ℕ
bound cs = plain_bound cs + losses cs * (phase_steps cs + recovery_steps cs)
