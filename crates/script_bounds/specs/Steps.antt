-- How many records the lines of a script make, by the matrices that they name. Each line's count is the number of its records when no rank
-- is lost; it is exact for `matrix`, `print`, `pivots` and `drop`, and an upper bound for the others. A phase ends with a commit.
use Rattle.std.specs.Prelude.{ℕ, ◌+◌, ◌-◌, ◌*◌, ◌/◌, ◌≤◌, if◌then◌else◌, max, min, List, codes}
use Rattle.array_desc.specs.Maps.{ceil_div, groups}
use Rattle.blacs_grid.specs.Limits.{process_limit, code_column_limit}
use Rattle.script_rules.specs.declared.distributions.Distribution.{Distribution}
use Rattle.script_rules.specs.Routines.{is_option}
use Rattle.script_bounds.specs.declared.steps.Steps.{Steps}

-- a matrix in range on a grid in range
pub record IsInRange (a : Distribution) : Type 0 where
  pub rows : a.p ≤ process_limit
  pub some_columns : 1 ≤ a.q
  pub columns : a.q ≤ process_limit
  pub code_columns : a.f ≤ code_column_limit
  pub size : a.n ≤ 1024
  pub some_block_rows : 1 ≤ a.mb
  pub some_block_columns : 1 ≤ a.nb
  pub block_columns : a.nb ≤ 128

-- a line of one phase
abbrev pub one_phase : ℕ → Steps
one_phase count = record { phase = count; count = count }

-- the groups of a matrix, and the ranks of a process row of its grid
abbrev pub groups_in : Distribution → ℕ
groups_in a = groups a.n a.nb a.q

abbrev pub row_ranks : Distribution → ℕ
row_ranks a = a.q + a.f

-- the test of a diagonal for zeros
abbrev pub diagonal_test : Distribution → ℕ
diagonal_test a = 4 * a.p * a.q + 2

-- a group of a matrix on the grid of `a`, changed by so many block columns: it is saved and scaled, and each block is spread and added
abbrev pub sweep : Distribution → ℕ → ℕ
sweep a blocks = 1 + a.p * row_ranks a * (2 + 6 * blocks)

-- PGEMM: a phase for each group of C
abbrev pub pgemm_steps : ℕ → Distribution → Distribution → Steps
pgemm_steps k a c = record { phase = sweep c (ceil_div k a.nb); count = groups_in c * sweep c (ceil_div k a.nb) }

-- the same by the transpose of a triangle, so many block columns wide: each pair of blocks is spread and added by itself
abbrev pub turned_sweep : Distribution → ℕ → ℕ
turned_sweep a blocks = 1 + 2 * a.p * row_ranks a + blocks * (1 + 3 * row_ranks a + 2 * a.p * row_ranks a) + blocks * blocks * (3 + 3 * row_ranks a)

-- the same by a triangle of so many block columns that stands on the right: its code columns are made anew
abbrev pub right_sweep : Distribution → ℕ → ℕ
right_sweep a blocks = 1 + 2 * a.p * row_ranks a + a.p * a.f * (1 + 3 * a.q) + 6 * a.p * a.q * (blocks + 2)

-- a group of B that is solved by a triangle in its form: on the left as it stands or turned, or on the right
abbrev pub solve_phase : List ℕ → List ℕ → ℕ → ℕ → Distribution → ℕ
solve_phase side transa m n a =
    if is_option (codes "L") (codes "l") side
    then (if is_option (codes "N") (codes "n") transa then sweep a (ceil_div m a.mb) else turned_sweep a (ceil_div m a.mb))
    else right_sweep a (ceil_div n a.nb)

-- PTRSM: the test, and a phase for each group of B
abbrev pub ptrsm_steps : List ℕ → List ℕ → ℕ → ℕ → Distribution → Distribution → Steps
ptrsm_steps side transa m n a b = record {
  phase = max (diagonal_test a) (solve_phase side transa m n a);
  count = diagonal_test a + groups_in b * solve_phase side transa m n a;
}

-- PGETRF: the start; for each panel its elimination and then an update of each group; a merge of each group; the test
abbrev pub start_phase : Distribution → ℕ
start_phase a = 1 + a.p * row_ranks a * (groups_in a + 1)

abbrev pub panel_phase : Distribution → ℕ
panel_phase a = 1 + a.nb * (11 * a.p + 5) + 12 * a.p * row_ranks a

abbrev pub update_phase : Distribution → ℕ
update_phase a = 1 + 10 * a.nb * row_ranks a + 12 * a.p * row_ranks a

abbrev pub merge_phase : Distribution → ℕ
merge_phase a = 1 + 3 * a.p * a.f

abbrev pub pgetrf_steps : ℕ → ℕ → Distribution → Steps
pgetrf_steps m n a = record {
  phase = max (start_phase a) (max (panel_phase a) (max (update_phase a) (max (merge_phase a) (diagonal_test a))));
  count = start_phase a + ceil_div (min m n) a.nb * (panel_phase a + groups_in a * update_phase a) + groups_in a * merge_phase a + diagonal_test a;
}

-- PGETRS: the test, and for each group of B its exchanges of rows and two solves
abbrev pub exchange_phase : ℕ → Distribution → ℕ
exchange_phase n a = 2 + a.p * row_ranks a + 5 * n * row_ranks a

-- each of the two solves by the factors as they stand, or turned
abbrev pub factor_phase : List ℕ → ℕ → Distribution → ℕ
factor_phase trans n a = if is_option (codes "N") (codes "n") trans then sweep a (ceil_div n a.mb) else turned_sweep a (ceil_div n a.mb)

abbrev pub pgetrs_steps : List ℕ → ℕ → Distribution → Distribution → Steps
pgetrs_steps trans n a b = record {
  phase = max (diagonal_test a) (max (exchange_phase n a) (factor_phase trans n a));
  count = diagonal_test a + groups_in b * (exchange_phase n a + 2 * factor_phase trans n a);
}

-- PGETRI: the test, and for each group of B its ones on the diagonal, and then as PGETRS
abbrev pub unit_phase : Distribution → Distribution → ℕ
unit_phase a b = 2 + a.p * row_ranks a + 3 * a.p * a.q + a.q * b.nb + a.p * a.f * (1 + 3 * a.q)

abbrev pub pgetri_steps : ℕ → Distribution → Distribution → Steps
pgetri_steps n a b = record {
  phase = max (diagonal_test a) (max (unit_phase a b) (max (exchange_phase n a) (sweep a (ceil_div n a.mb))));
  count = diagonal_test a + groups_in b * (unit_phase a b + exchange_phase n a + 2 * sweep a (ceil_div n a.mb));
}

-- PGEMR2D: the rectangles of a window that lie in one block of A and one of B, and for each group of B its saves and its code columns
abbrev pub cuts : ℕ → ℕ → ℕ → ℕ
cuts count block block' = (count - 1) / block + (count - 1) / block' + 3

abbrev pub rectangles : ℕ → ℕ → Distribution → Distribution → ℕ
rectangles m n a b = cuts m a.mb b.mb * cuts n a.nb b.nb

abbrev pub copied_group : Distribution → ℕ
copied_group b = 1 + b.p * row_ranks b + b.p * b.f * (1 + 3 * b.q)

abbrev pub pgemr2d_steps : ℕ → ℕ → Distribution → Distribution → Steps
pgemr2d_steps m n a b = record {
  phase = copied_group b + 2 * rectangles m n a b;
  count = groups_in b * copied_group b + 2 * rectangles m n a b;
}

-- PTRAN: the rectangles of C that lie in one of its blocks and one of the transpose of A, and for each group of C its saves and its code columns
abbrev pub whole_cuts : ℕ → ℕ → ℕ → ℕ
whole_cuts count block block' = (count - 1) / block + (count - 1) / block' + 1

abbrev pub turned_rectangles : ℕ → ℕ → Distribution → Distribution → ℕ
turned_rectangles m n a c = whole_cuts m c.mb a.nb * whole_cuts n c.nb a.mb

abbrev pub turned_group : Distribution → ℕ
turned_group c = 1 + 2 * c.p * c.q + c.p * c.f + c.p * c.f * (1 + 3 * c.q)

abbrev pub ptran_steps : ℕ → ℕ → Distribution → Distribution → Steps
ptran_steps m n a c = record {
  phase = turned_group c + 4 * turned_rectangles m n a c;
  count = groups_in c * turned_group c + 4 * turned_rectangles m n a c;
}

-- PVERIFY with so many pending flips: each is made and mended once; each group is saved, and its strips are compared with two code columns
abbrev pub verified_group : Distribution → ℕ
verified_group a = 1 + a.p * a.q + 2 * a.p * (3 * a.q + 3)

abbrev pub pverify_steps : Distribution → ℕ → Steps
pverify_steps a flips = record {
  phase = verified_group a + 4 * flips;
  count = groups_in a * verified_group a + 4 * flips;
}

-- the records that bring back a live matrix, and a live pivot list on the grid of the matrix that was factored
abbrev pub matrix_recovery : Distribution → ℕ
matrix_recovery a = a.p * groups_in a * a.f * (9 * a.q + 9 * a.f + 3)

abbrev pub list_recovery : Distribution → ℕ
list_recovery a = 2 * a.p * a.f
