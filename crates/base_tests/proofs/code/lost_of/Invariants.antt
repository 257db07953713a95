use Rattle.std.proofs.Common.{◌≡◌, length}
use Rattle.base_tests.proofs.code.lost_of.Given as goal

abbrev pub invariant-loop-i : goal.invariant-loop-i
invariant-loop-i l = length l.lost.items ≡ l.i
