-- The members of a scope are the ranks that it means, each once.
use Rattle.std.proofs.Common.{◌≡◌, ℕ, ◌/◌, ◌%◌, ◌<◌, ◌==◌, IsTrue, sym, ◌∙◌, ap, arith}
use Rattle.std.proofs.Math.Nat.{div-add-mod, mod-lt}
use Rattle.std.proofs.lemmas.Nat.{div-mul-add, mod-mul-add, div_below, mul-add-lt}
use Rattle.std.proofs.lemmas.Bool.{and_parts, and_from, eqb-true, eq-eqb}
use Rattle.blacs_grid.specs.declared.Grid.{Grid}
use Rattle.blacs_grid.specs.declared.Scope.{Scope}
use Rattle.blacs_grid.specs.declared.Scope.TheVariants.{Row, Column, All}
use Rattle.blacs_grid.specs.Places.{width, rank_at, is_member, row_of, col_of, IsScopeOf, is_in_scope, members, member, number_in, AreMembers}
use Rattle.blacs_grid.specs.Limits.{IsGrid}
use Rattle.blacs_grid.proofs.PlaceLaws.{width-pos, is_member-rank_at, row_of-rank_at, col_of-rank_at, row_of-lt, col_of-lt, rank_at-coords, is_data_rank-member, is_data_rank-col, is_data_rank-rank_at}

-- a member of a scope is meant by it
pub is_in_scope-member : (g : Grid) (scope : Scope) (i : ℕ) → IsGrid g → IsScopeOf g scope → i < members g scope → IsTrue (is_in_scope g scope (member g scope i))
is_in_scope-member g (Row row) i is row_in i_in =
    and_from (is_member g (rank_at g row i)) (row_of g (rank_at g row i) == row) (is_member-rank_at g row i row_in i_in)
    (eq-eqb (row_of g (rank_at g row i)) row (row_of-rank_at g row i i_in))
is_in_scope-member g (Column col) i is col_in i_in =
    and_from (is_member g (rank_at g i col)) (col_of g (rank_at g i col) == col) (is_member-rank_at g i col i_in col_in)
    (eq-eqb (col_of g (rank_at g i col)) col (col_of-rank_at g i col col_in))
is_in_scope-member g All i is scope_in i_in =
    let some : 0 < g.q = is.some_columns in
    is_data_rank-rank_at g (i / g.q) (i % g.q) (div_below i g.q g.p some i_in) (mod-lt i some)

-- the number of a rank that is meant is below the count
pub number_in-lt : (g : Grid) (scope : Scope) (rank : ℕ) → IsGrid g → IsTrue (is_in_scope g scope rank) → number_in g scope rank < members g scope
number_in-lt g (Row row) rank is meant = col_of-lt g rank (width-pos g is)
number_in-lt g (Column col) rank is meant =
    row_of-lt g rank (width-pos g is) (and_parts (is_member g rank) (col_of g rank == col) meant).0
number_in-lt g All rank is meant =
    let row_in = row_of-lt g rank (width-pos g is) (is_data_rank-member g rank meant) in
    let place = mul-add-lt (row_of g rank) g.q (col_of g rank) g.p row_in (is_data_rank-col g rank meant) in
    omega (arith, place)

-- the member of that number is the rank
pub member-number_in : (g : Grid) (scope : Scope) (rank : ℕ) → IsTrue (is_in_scope g scope rank) → member g scope (number_in g scope rank) ≡ rank
member-number_in g (Row row) rank meant =
    let parts = and_parts (is_member g rank) (row_of g rank == row) meant in
    ap (λ r. rank_at g r (col_of g rank)) (sym (eqb-true (row_of g rank) row parts.1)) ∙ rank_at-coords g rank parts.0
member-number_in g (Column col) rank meant =
    let parts = and_parts (is_member g rank) (col_of g rank == col) meant in
    ap (λ c. rank_at g (row_of g rank) c) (sym (eqb-true (col_of g rank) col parts.1)) ∙ rank_at-coords g rank parts.0
member-number_in g All rank meant =
    let col_in = is_data_rank-col g rank meant in
    ap (λ r. rank_at g r (number_in g All rank % g.q)) (div-mul-add (row_of g rank) g.q (col_of g rank) col_in)
    ∙ ap (λ c. rank_at g (row_of g rank) c) (mod-mul-add (row_of g rank) g.q (col_of g rank) col_in)
    ∙ rank_at-coords g rank (is_data_rank-member g rank meant)

-- the number of a member is its place in the list of members
pub number_in-member : (g : Grid) (scope : Scope) (i : ℕ) → IsGrid g → IsScopeOf g scope → i < members g scope → number_in g scope (member g scope i) ≡ i
number_in-member g (Row row) i is row_in i_in = col_of-rank_at g row i i_in
number_in-member g (Column col) i is col_in i_in = row_of-rank_at g i col col_in
number_in-member g All i is scope_in i_in =
    let some : 0 < g.q = is.some_columns in
    let below = mod-lt i some in
    let within : i % g.q < width g = omega arith in
    let split = div-add-mod i g.q in
    let at_row = row_of-rank_at g (i / g.q) (i % g.q) within in
    let at_col = col_of-rank_at g (i / g.q) (i % g.q) within in
    rw (at_row, at_col) (omega (arith, split))

-- two members of different numbers differ
pub same_member : (g : Grid) (scope : Scope) (i j : ℕ) → IsGrid g → IsScopeOf g scope → i < members g scope → j < members g scope → member g scope i ≡ member g scope j → i ≡ j
same_member g scope i j is scope_in i_in j_in same =
    sym (number_in-member g scope i is scope_in i_in) ∙ ap (number_in g scope) same ∙ number_in-member g scope j is scope_in j_in

-- the members are the ranks that the scope means
pub AreMembers-members : (g : Grid) (scope : Scope) → IsGrid g → IsScopeOf g scope → AreMembers g scope (members g scope)
AreMembers-members g scope is scope_in = record {
  inside = λ i i_in. is_in_scope-member g scope i is scope_in i_in;
  distinct = λ i j i_in j_in same. same_member g scope i j is scope_in i_in j_in same;
  each = λ rank meant. (number_in g scope rank, number_in-lt g scope rank is meant, member-number_in g scope rank meant);
}
