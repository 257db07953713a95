-- Ranks and coordinates are inverse to each other.
use Rattle.std.proofs.Common.{◌≡◌, ℕ, ◌+◌, ◌-◌, ◌*◌, ◌<◌, ◌≤◌, ◌⊎◌, nat_lt, nat_le, IsTrue, arith, inl, inr}
use Rattle.std.proofs.Math.Nat.{div-add-mod, mod-lt}
use Rattle.std.proofs.lemmas.Nat.{div-mul-add, mod-mul-add, div_below, mul-add-lt, same_from_place}
use Rattle.std.proofs.lemmas.Bool.{cases_lt, and_parts, and_from, leb-true, ltb-true, le-leb, lt-ltb}
use Rattle.blacs_grid.specs.declared.Grid.{Grid}
use Rattle.blacs_grid.specs.Places.{width, size, rank_at, is_member, row_of, col_of, is_data_rank, is_code_rank}
use Rattle.blacs_grid.specs.Limits.{IsGrid}

-- a grid within the limits has a column
pub width-pos : (g : Grid) → IsGrid g → 0 < width g
width-pos g is = (let some = is.some_columns in omega arith)

-- what membership says
pub is_member-begins : (g : Grid) (rank : ℕ) → IsTrue (is_member g rank) → g.first ≤ rank
is_member-begins g rank is = leb-true g.first rank (and_parts (nat_le g.first rank) (nat_lt rank (g.first + size g)) is).0

pub is_member-ends : (g : Grid) (rank : ℕ) → IsTrue (is_member g rank) → rank < g.first + size g
is_member-ends g rank is = ltb-true rank (g.first + size g) (and_parts (nat_le g.first rank) (nat_lt rank (g.first + size g)) is).1

pub is_member-from : (g : Grid) (rank : ℕ) → g.first ≤ rank → rank < g.first + size g → IsTrue (is_member g rank)
is_member-from g rank begins ends =
    and_from (nat_le g.first rank) (nat_lt rank (g.first + size g)) (le-leb g.first rank begins) (lt-ltb rank (g.first + size g) ends)

-- a rank at a row and a column of the grid is one of the grid's
pub is_member-rank_at : (g : Grid) (row col : ℕ) → row < g.p → col < width g → IsTrue (is_member g (rank_at g row col))
is_member-rank_at g row col row_in col_in =
    let place = mul-add-lt row (width g) col g.p row_in col_in in
    is_member-from g (rank_at g row col) (omega arith) (omega (arith, place))

-- its row and its column are those
pub row_of-rank_at : (g : Grid) (row col : ℕ) → col < width g → row_of g (rank_at g row col) ≡ row
row_of-rank_at g row col col_in =
    let place : rank_at g row col - g.first ≡ row * width g + col = omega arith in
    rw place (div-mul-add row (width g) col col_in)

pub col_of-rank_at : (g : Grid) (row col : ℕ) → col < width g → col_of g (rank_at g row col) ≡ col
col_of-rank_at g row col col_in =
    let place : rank_at g row col - g.first ≡ row * width g + col = omega arith in
    rw place (mod-mul-add row (width g) col col_in)

-- the coordinates of a rank are in the grid
pub row_of-lt : (g : Grid) (rank : ℕ) → 0 < width g → IsTrue (is_member g rank) → row_of g rank < g.p
row_of-lt g rank some is =
    let ends = is_member-ends g rank is in
    let begins = is_member-begins g rank is in
    div_below (rank - g.first) (width g) g.p some (omega arith)

pub col_of-lt : (g : Grid) (rank : ℕ) → 0 < width g → col_of g rank < width g
col_of-lt g rank some = mod-lt (rank - g.first) some

-- the rank at the coordinates of a rank is that rank
pub rank_at-coords : (g : Grid) (rank : ℕ) → IsTrue (is_member g rank) → rank_at g (row_of g rank) (col_of g rank) ≡ rank
rank_at-coords g rank is =
    let split = div-add-mod (rank - g.first) (width g) in
    let begins = is_member-begins g rank is in
    omega (arith, split, begins)

-- different places have different ranks
pub same_place : (g : Grid) (row col other_row other_col : ℕ) → col < width g → other_col < width g → rank_at g row col ≡ rank_at g other_row other_col → (row ≡ other_row) × (col ≡ other_col)
same_place g row col other_row other_col col_in other_in same =
    same_from_place row col other_row other_col (width g) col_in other_in (omega arith)

-- every rank of the grid is a data rank or a code rank, and none is both
pub data_or_code : (g : Grid) (rank : ℕ) → IsTrue (is_member g rank) → IsTrue (is_data_rank g rank) ⊎ IsTrue (is_code_rank g rank)
data_or_code g rank is =
    elim (cases_lt (col_of g rank) g.q) [
      | inl before ↦ inl (and_from (is_member g rank) (nat_lt (col_of g rank) g.q) is (lt-ltb (col_of g rank) g.q before))
      | inr after ↦ inr (and_from (is_member g rank) (nat_le g.q (col_of g rank)) is (le-leb g.q (col_of g rank) after))
    ]

pub not_data_and_code : (g : Grid) (rank : ℕ) → IsTrue (is_data_rank g rank) → IsTrue (is_code_rank g rank) → ⊥
not_data_and_code g rank on_data on_code =
    let before = ltb-true (col_of g rank) g.q (and_parts (is_member g rank) (nat_lt (col_of g rank) g.q) on_data).1 in
    let after = leb-true g.q (col_of g rank) (and_parts (is_member g rank) (nat_le g.q (col_of g rank)) on_code).1 in
    omega arith

-- what a data rank is
pub is_data_rank-member : (g : Grid) (rank : ℕ) → IsTrue (is_data_rank g rank) → IsTrue (is_member g rank)
is_data_rank-member g rank is = (and_parts (is_member g rank) (nat_lt (col_of g rank) g.q) is).0

pub is_data_rank-col : (g : Grid) (rank : ℕ) → IsTrue (is_data_rank g rank) → col_of g rank < g.q
is_data_rank-col g rank is = ltb-true (col_of g rank) g.q (and_parts (is_member g rank) (nat_lt (col_of g rank) g.q) is).1

-- a rank at a row and a data column is a data rank
pub is_data_rank-rank_at : (g : Grid) (row col : ℕ) → row < g.p → col < g.q → IsTrue (is_data_rank g (rank_at g row col))
is_data_rank-rank_at g row col row_in col_in =
    let within : col < width g = omega arith in
    let at_col = col_of-rank_at g row col within in
    and_from (is_member g (rank_at g row col)) (nat_lt (col_of g (rank_at g row col)) g.q)
    (is_member-rank_at g row col row_in within) (lt-ltb (col_of g (rank_at g row col)) g.q (omega (arith, at_col)))

-- a rank at a row and a code column is a code rank
pub is_code_rank-rank_at : (g : Grid) (row col : ℕ) → row < g.p → g.q ≤ col → col < width g → IsTrue (is_code_rank g (rank_at g row col))
is_code_rank-rank_at g row col row_in code within =
    let at_col = col_of-rank_at g row col within in
    and_from (is_member g (rank_at g row col)) (nat_le g.q (col_of g (rank_at g row col)))
    (is_member-rank_at g row col row_in within) (le-leb g.q (col_of g (rank_at g row col)) (omega (arith, at_col)))

-- a grid that begins at or after the end of another has none of its ranks
pub apart : (g h : Grid) (rank : ℕ) → g.first + size g ≤ h.first → IsTrue (is_member g rank) → IsTrue (is_member h rank) → ⊥
apart g h rank after in_g in_h =
    let ends = is_member-ends g rank in_g in
    let begins = is_member-begins h rank in_h in
    omega arith
