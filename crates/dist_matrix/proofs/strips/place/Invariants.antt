use Rattle.std.proofs.Common.{◌≡◌, ◌+◌}
use Rattle.dist_matrix.specs.Strips.{layout_of}
use Rattle.dist_matrix.proofs.Placing.{with_placed}
use Rattle.dist_matrix.proofs.strips.place.Given as goal

abbrev pub invariant-loop-j : goal.invariant-loop-j
invariant-loop-j l = l.out ≡ with_placed (layout_of l.grid l.d) l.fn.out l.rank l.group l.strip 0 (l.at.first_column + l.j)

abbrev pub invariant-loop-i : goal.invariant-loop-i
invariant-loop-i l = l.out ≡ with_placed (layout_of l.grid l.d) l.fn.out l.rank l.group l.strip l.i (l.at.first_column + l.j)
