use Rattle.elimination.specs.Whole.{AreRows}
use Rattle.serial_tests.proofs.checks.check_rows.Given as goal

abbrev pub invariant-loop-k : goal.invariant-loop-k
invariant-loop-k g l = AreRows l.pivots 0 l.k l.n
