use Rattle.std.proofs.Common.{◌≡◌}
use Rattle.elimination.specs.Whole.{with_rows_exchanged}
use Rattle.elimination.proofs.whole.exchange_rows.Given as goal

abbrev pub invariant-loop-j : goal.invariant-loop-j
invariant-loop-j l = l.x ≡ with_rows_exchanged l.fn.x l.pivots l.first l.j
