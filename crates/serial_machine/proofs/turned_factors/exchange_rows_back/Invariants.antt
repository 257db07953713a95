use Rattle.std.proofs.Common.{◌≡◌, ◌-◌}
use Rattle.serial_machine.specs.Solved.{with_rows_back}
use Rattle.serial_machine.proofs.turned_factors.exchange_rows_back.Given as goal

abbrev pub invariant-loop-k : goal.invariant-loop-k
invariant-loop-k l = l.x ≡ with_rows_back l.fn.x l.pivots (l.n - l.k) l.k
