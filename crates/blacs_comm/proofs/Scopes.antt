-- The members of a scope, for positions: how many there are at most, and that they differ.
use Rattle.std.proofs.Common.{◌≡◌, ℕ, ◌+◌, ◌*◌, ◌<◌, ◌≤◌, ◌==◌, IsTrue, arith}
use Rattle.blacs_grid.specs.declared.Grid.{Grid}
use Rattle.blacs_grid.specs.declared.Scope.{Scope}
use Rattle.blacs_grid.specs.declared.Scope.TheVariants.{Row, Column, All}
use Rattle.blacs_grid.specs.Places.{width, size, is_member, row_of, col_of, is_in_scope, IsScopeOf, members, member}
use Rattle.blacs_grid.specs.Limits.{IsGrid}
use Rattle.blacs_grid.proofs.ScopeLaws.{same_member, is_in_scope-member}
use Rattle.blacs_grid.proofs.PlaceLaws.{is_member-ends, is_data_rank-member}
use Rattle.std.proofs.lemmas.Bool.{and_parts}
use Rattle.blacs_comm.specs.Positions.{AreDistinct}
use Rattle.std.proofs.Math.Nat.{mul-le-mul_left, mul-le-mul_right}

-- a scope has no more members than the grid has ranks
pub members_few : (g : Grid) (scope : Scope) → IsGrid g → members g scope ≤ 64
members_few g (Row row) is =
    let wide : 1 * width g ≤ g.p * width g = mul-le-mul_right (width g) is.some_rows in
    let all = is.ranks in
    omega arith
members_few g (Column col) is = let rows = is.rows in omega arith
members_few g All is =
    let wide : g.p * g.q ≤ g.p * width g = mul-le-mul_left g.p (omega arith) in
    let all = is.ranks in
    omega arith

pub members_differ : (g : Grid) (scope : Scope) → IsGrid g → IsScopeOf g scope → AreDistinct (member g scope) (members g scope)
members_differ g scope is scope_in i j lt j_in =
    λ e. let same : i ≡ j = same_member g scope i j is scope_in (omega arith) j_in e in omega arith

-- each member is one of the 64 ranks of a run
pub member_below : (g : Grid) (scope : Scope) (i : ℕ) → IsGrid g → IsScopeOf g scope → i < members g scope → member g scope i < 64
member_below g scope i is scope_in i_in =
    let meant = is_in_scope-member g scope i is scope_in i_in in
    let ends : member g scope i < g.first + size g = is_member-ends g (member g scope i) (is_member-in_scope g scope (member g scope i) meant) in
    let all = is.ranks in
    omega arith
  where
    is_member-in_scope : (g : Grid) (scope : Scope) (rank : ℕ) → IsTrue (is_in_scope g scope rank) → IsTrue (is_member g rank)
    is_member-in_scope g (Row row) rank meant = (and_parts (is_member g rank) (row_of g rank == row) meant).0
    is_member-in_scope g (Column col) rank meant = (and_parts (is_member g rank) (col_of g rank == col) meant).0
    is_member-in_scope g All rank meant = is_data_rank-member g rank meant
