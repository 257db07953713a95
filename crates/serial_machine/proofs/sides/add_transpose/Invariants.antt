use Rattle.std.proofs.Common.{◌≡◌, ◌+◌, ◌*◌, ◌%◌}
use Rattle.run_data.specs.Matrix.{entry}
use Rattle.run_data.proofs.Fills.{with_filled}
use Rattle.serial_machine.proofs.sides.add_transpose.Given as goal

abbrev pub invariant-loop-j : goal.invariant-loop-j
invariant-loop-j g l = l.c ≡ with_filled l.fn.c l.all (λ i j. (l.alpha * entry l.a j i + l.beta * entry l.fn.c i j) % g.K.Field.MODULUS) l.all.r0 l.j

abbrev pub invariant-loop-i : goal.invariant-loop-i
invariant-loop-i g l = l.c ≡ with_filled l.fn.c l.all (λ i j. (l.alpha * entry l.a j i + l.beta * entry l.fn.c i j) % g.K.Field.MODULUS) l.i l.j
