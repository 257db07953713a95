-- Which entries lie in a strip, and at which places.
use Rattle.std.proofs.Common.{◌≡◌, ℕ, ◌+◌, ◌*◌, ◌/◌, ◌%◌, ◌<◌, ◌==◌, ◌&&◌, Bool, true, refl, sym, ◌∙◌, ap, subst, arith, eq-eqb}
use Rattle.std.proofs.Math.Nat.{div-add-mod, mod-lt}
use Rattle.std.proofs.lemmas.Nat.{div-mul-add, mod-mul-add}
use Rattle.std.proofs.lemmas.Bool.{and_parts, and_from, eqb-true}
use Rattle.run_data.specs.Matrix.{Matrix, entry}
use Rattle.array_desc.specs.Maps.{owner, local, distance, global, group_of, block_in}
use Rattle.array_desc.proofs.MapLaws.{owner-lt, global-local, owner-global, local-global}
use Rattle.array_desc.proofs.CountLaws.{local-lt, global-lt}
use Rattle.array_desc.proofs.GroupLaws.{owner-in_group, group_of-block_in, only-block_in, group_of_column-lt}
use Rattle.blacs_grid.specs.Places.{row_of, col_of, rank_at, width}
use Rattle.blacs_grid.proofs.PlaceLaws.{width-pos, row_of-lt, row_of-rank_at, col_of-rank_at, rank_at-coords, is_data_rank-member, is_data_rank-col, is_data_rank-rank_at}
use Rattle.rank_machine.specs.declared.layout.Layout.{Layout}
use Rattle.rank_machine.specs.Setting.{strip_rows, block_at, global_row, global_col}
use Rattle.dist_matrix.specs.Strips.{NamesStrip, LiesInOneStrip, holds_entry, word_in_strip, rank_of_entry, group_of_entry}
use Rattle.script_lines.specs.Layouts.{IsLayout}

-- ---- sizes
pub some_block_row : (d : Layout) → IsLayout d → 0 < d.desc.mb
some_block_row d is = omega (arith, is.desc.some_block_rows)

pub some_block_column : (d : Layout) → IsLayout d → 0 < d.desc.nb
some_block_column d is = omega (arith, is.desc.some_block_columns)

pub some_process_row : (d : Layout) → IsLayout d → 0 < d.grid.p
some_process_row d is = omega (arith, is.grid.some_rows)

pub some_process_column : (d : Layout) → IsLayout d → 0 < d.grid.q
some_process_column d is = omega (arith, is.grid.some_columns)

-- a data rank is on a process row and a data column
pub row_in : (d : Layout) (rank group : ℕ) → IsLayout d → NamesStrip d rank group → row_of d.grid rank < d.grid.p
row_in d rank group is names = row_of-lt d.grid rank (width-pos d.grid is.grid) (is_data_rank-member d.grid rank names.data_rank)

pub column_in : (d : Layout) (rank group : ℕ) → NamesStrip d rank group → col_of d.grid rank < d.grid.q
column_in d rank group names = is_data_rank-col d.grid rank names.data_rank

-- ---- what is said of an entry that lies in a strip
pub holds_entry-row : (d : Layout) (rank group i j : ℕ) → holds_entry d rank group i j ≡ true → owner i d.desc.mb d.desc.rsrc d.grid.p ≡ row_of d.grid rank
holds_entry-row d rank group i j holds =
    let on_row : Bool = owner i d.desc.mb d.desc.rsrc d.grid.p == row_of d.grid rank in
    let on_column : Bool = owner j d.desc.nb d.desc.csrc d.grid.q == col_of d.grid rank in
    let in_group : Bool = group_of (j / d.desc.nb) d.grid.q == group in
    eqb-true (owner i d.desc.mb d.desc.rsrc d.grid.p) (row_of d.grid rank) (and_parts on_row on_column (and_parts (on_row && on_column) in_group holds).0).0

pub holds_entry-column : (d : Layout) (rank group i j : ℕ) → holds_entry d rank group i j ≡ true → owner j d.desc.nb d.desc.csrc d.grid.q ≡ col_of d.grid rank
holds_entry-column d rank group i j holds =
    let on_row : Bool = owner i d.desc.mb d.desc.rsrc d.grid.p == row_of d.grid rank in
    let on_column : Bool = owner j d.desc.nb d.desc.csrc d.grid.q == col_of d.grid rank in
    let in_group : Bool = group_of (j / d.desc.nb) d.grid.q == group in
    eqb-true (owner j d.desc.nb d.desc.csrc d.grid.q) (col_of d.grid rank) (and_parts on_row on_column (and_parts (on_row && on_column) in_group holds).0).1

pub holds_entry-group : (d : Layout) (rank group i j : ℕ) → holds_entry d rank group i j ≡ true → group_of (j / d.desc.nb) d.grid.q ≡ group
holds_entry-group d rank group i j holds =
    let on_row : Bool = owner i d.desc.mb d.desc.rsrc d.grid.p == row_of d.grid rank in
    let on_column : Bool = owner j d.desc.nb d.desc.csrc d.grid.q == col_of d.grid rank in
    let in_group : Bool = group_of (j / d.desc.nb) d.grid.q == group in
    eqb-true (group_of (j / d.desc.nb) d.grid.q) group (and_parts (on_row && on_column) in_group holds).1

pub holds_entry-from : (d : Layout) (rank group i j : ℕ) → owner i d.desc.mb d.desc.rsrc d.grid.p ≡ row_of d.grid rank
    → owner j d.desc.nb d.desc.csrc d.grid.q ≡ col_of d.grid rank → group_of (j / d.desc.nb) d.grid.q ≡ group → holds_entry d rank group i j ≡ true
holds_entry-from d rank group i j row column group_is =
    let on_row : Bool = owner i d.desc.mb d.desc.rsrc d.grid.p == row_of d.grid rank in
    let on_column : Bool = owner j d.desc.nb d.desc.csrc d.grid.q == col_of d.grid rank in
    let in_group : Bool = group_of (j / d.desc.nb) d.grid.q == group in
    and_from (on_row && on_column) in_group
    (and_from on_row on_column (eq-eqb (owner i d.desc.mb d.desc.rsrc d.grid.p) (row_of d.grid rank) row) (eq-eqb (owner j d.desc.nb d.desc.csrc d.grid.q) (col_of d.grid rank) column))
    (eq-eqb (group_of (j / d.desc.nb) d.grid.q) group group_is)

-- its row is the one at its local row
pub row-from_local : (d : Layout) (rank group i j : ℕ) → IsLayout d → holds_entry d rank group i j ≡ true → global_row d rank (local i d.desc.mb d.grid.p) ≡ i
row-from_local d rank group i j is holds =
    ap (λ row. global (local i d.desc.mb d.grid.p) d.desc.mb row d.desc.rsrc d.grid.p) (sym (holds_entry-row d rank group i j holds))
    ∙ global-local i d.desc.mb d.desc.rsrc d.grid.p (some_block_row d is) is.desc.row_source

-- its local row is one of the strip's
pub local-below : (d : Layout) (rank group i j : ℕ) → IsLayout d → holds_entry d rank group i j ≡ true → i < d.desc.m → local i d.desc.mb d.grid.p < strip_rows d (row_of d.grid rank)
local-below d rank group i j is holds inside =
    local-lt i d.desc.m d.desc.mb (row_of d.grid rank) d.desc.rsrc d.grid.p (some_block_row d is) is.desc.row_source inside (holds_entry-row d rank group i j holds)

-- its column is the one of the strip's block column at the remainder by the width of a block
pub column-from_local : (d : Layout) (rank group i j : ℕ) → IsLayout d → holds_entry d rank group i j ≡ true → global_col d (block_at d group (col_of d.grid rank)) (j % d.desc.nb) ≡ j
column-from_local d rank group i j is holds =
    let block : j / d.desc.nb ≡ block_at d group (col_of d.grid rank) =
    only-block_in group (col_of d.grid rank) d.desc.csrc d.grid.q (j / d.desc.nb) is.desc.column_source (holds_entry-group d rank group i j holds) (holds_entry-column d rank group i j holds) in
    ap (λ b. b * d.desc.nb + j % d.desc.nb) (sym block) ∙ (let split : d.desc.nb * (j / d.desc.nb) + j % d.desc.nb ≡ j = div-add-mod j d.desc.nb in omega arith)

-- ---- the entry at a place of a strip
pub holds_entry-at : (d : Layout) (rank group i k : ℕ) → IsLayout d → NamesStrip d rank group → k < d.desc.nb
    → holds_entry d rank group (global_row d rank i) (global_col d (block_at d group (col_of d.grid rank)) k) ≡ true
holds_entry-at d rank group i k is names inside =
    let block = block_at d group (col_of d.grid rank) in
    holds_entry-from d rank group (global_row d rank i) (global_col d block k)
    (owner-global i d.desc.mb (row_of d.grid rank) d.desc.rsrc d.grid.p (some_block_row d is) is.desc.row_source (row_in d rank group is names))
    (owner-in_group group (col_of d.grid rank) d.desc.csrc d.grid.q d.desc.nb k is.desc.column_source (column_in d rank group names) inside)
    (ap (λ b. group_of b d.grid.q) (div-mul-add block d.desc.nb k inside) ∙ group_of-block_in group (col_of d.grid rank) d.desc.csrc d.grid.q (some_process_column d is))

pub local-global_row : (d : Layout) (rank i : ℕ) → IsLayout d → local (global_row d rank i) d.desc.mb d.grid.p ≡ i
local-global_row d rank i is = local-global i d.desc.mb (row_of d.grid rank) d.desc.rsrc d.grid.p (some_block_row d is) (some_process_row d is)

pub mod-global_col : (d : Layout) (block k : ℕ) → k < d.desc.nb → global_col d block k % d.desc.nb ≡ k
mod-global_col d block k inside = mod-mul-add block d.desc.nb k inside

pub word_in_strip-at : (d : Layout) (s : Matrix) (rank block i k : ℕ) → IsLayout d → k < d.desc.nb → word_in_strip d s (global_row d rank i) (global_col d block k) ≡ entry s i k
word_in_strip-at d s rank block i k is inside =
    ap (λ r. entry s r (global_col d block k % d.desc.nb)) (local-global_row d rank i is) ∙ ap (λ c. entry s i c) (mod-global_col d block k inside)

pub global_row-lt : (d : Layout) (rank group i : ℕ) → IsLayout d → NamesStrip d rank group → i < strip_rows d (row_of d.grid rank) → global_row d rank i < d.desc.m
global_row-lt d rank group i is names inside =
    global-lt i d.desc.m d.desc.mb (row_of d.grid rank) d.desc.rsrc d.grid.p (some_block_row d is) is.desc.row_source (row_in d rank group is names) inside

-- ---- the one strip in which an entry lies
pub NamesStrip-of_entry : (d : Layout) (i j : ℕ) → IsLayout d → j < d.desc.n → NamesStrip d (rank_of_entry d i j) (group_of_entry d j)
NamesStrip-of_entry d i j is inside = record {
  data_rank = is_data_rank-rank_at d.grid (owner i d.desc.mb d.desc.rsrc d.grid.p) (owner j d.desc.nb d.desc.csrc d.grid.q)
      (owner-lt i d.desc.mb d.desc.rsrc d.grid.p (some_process_row d is)) (owner-lt j d.desc.nb d.desc.csrc d.grid.q (some_process_column d is));
  group_in = group_of_column-lt j d.desc.n d.desc.nb d.grid.q (some_block_column d is) (some_process_column d is) inside;
}

pub holds_entry-of_entry : (d : Layout) (i j : ℕ) → IsLayout d → holds_entry d (rank_of_entry d i j) (group_of_entry d j) i j ≡ true
holds_entry-of_entry d i j is =
    let row = owner i d.desc.mb d.desc.rsrc d.grid.p in
    let column = owner j d.desc.nb d.desc.csrc d.grid.q in
    let below : column < d.grid.q = owner-lt j d.desc.nb d.desc.csrc d.grid.q (some_process_column d is) in
    let within : column < width d.grid = omega arith in
    holds_entry-from d (rank_of_entry d i j) (group_of_entry d j) i j (sym (row_of-rank_at d.grid row column within)) (sym (col_of-rank_at d.grid row column within)) refl

pub only_strip : (d : Layout) (rank group i j : ℕ) → NamesStrip d rank group → holds_entry d rank group i j ≡ true → (rank ≡ rank_of_entry d i j) × (group ≡ group_of_entry d j)
only_strip d rank group i j names holds = (
  sym (rank_at-coords d.grid rank (is_data_rank-member d.grid rank names.data_rank))
      ∙ ap (λ row. rank_at d.grid row (col_of d.grid rank)) (sym (holds_entry-row d rank group i j holds))
      ∙ ap (λ column. rank_at d.grid (owner i d.desc.mb d.desc.rsrc d.grid.p) column) (sym (holds_entry-column d rank group i j holds)),
  sym (holds_entry-group d rank group i j holds),
)

pub LiesInOneStrip-entry : (d : Layout) (i j : ℕ) → IsLayout d → i < d.desc.m → j < d.desc.n → LiesInOneStrip d i j
LiesInOneStrip-entry d i j is row column = record {
  names = NamesStrip-of_entry d i j is column;
  holds = holds_entry-of_entry d i j is;
  only = λ rank group names holds. only_strip d rank group i j names holds;
  row = local-below d (rank_of_entry d i j) (group_of_entry d j) i j is (holds_entry-of_entry d i j is) row;
  column = mod-lt j (some_block_column d is);
}

-- ---- what the code computes
-- the first column of a strip is the index at the first local place of its group
pub first_column : (group nb col src q : ℕ) → 0 < nb → global (group * nb) nb col src q ≡ block_in group col src q * nb
first_column group nb col src q some =
    let from_zero : group * nb ≡ group * nb + 0 = omega arith in
    let far = distance col src q in
    ap (λ l. global l nb col src q) from_zero
    ∙ ap (λ b. nb * (q * b + far) + (group * nb + 0) % nb) (div-mul-add group nb 0 some)
    ∙ ap (λ o. nb * (q * group + far) + o) (mod-mul-add group nb 0 some)
    ∙ (let turned : nb * (q * group + far) + 0 ≡ (group * q + far) * nb = omega arith in turned)

-- the row at a local row is one of the matrix
pub row_below : (d : Layout) (rank group i row rows : ℕ) → IsLayout d → NamesStrip d rank group → row ≡ row_of d.grid rank → rows ≡ strip_rows d (row_of d.grid rank) → i < rows
    → global i d.desc.mb row d.desc.rsrc d.grid.p < d.desc.m
row_below d rank group i row rows is names row_is rows_are inside =
    subst (λ r. global i d.desc.mb r d.desc.rsrc d.grid.p < d.desc.m) (sym row_is) (global_row-lt d rank group i is names (omega (arith, rows_are)))
