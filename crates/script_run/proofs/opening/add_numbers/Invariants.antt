use Rattle.std.proofs.Common.{◌≡◌, ◌++◌, drop}
use Rattle.script_run.proofs.opening.add_numbers.Given as goal

abbrev pub invariant-loop-i : goal.invariant-loop-i
invariant-loop-i l = l.order ++ drop l.i l.numbers ≡ l.fn.order ++ l.numbers
