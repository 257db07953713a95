use Rattle.std.proofs.Common.{◌≡◌}
use Rattle.serial_machine.proofs.Ones.{ones_so_far}
use Rattle.serial_machine.proofs.inverses.identity.Given as goal

abbrev pub invariant-loop-i : goal.invariant-loop-i
invariant-loop-i l = l.ones ≡ ones_so_far l.n l.i
