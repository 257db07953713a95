use Rattle.std.proofs.Common.{◌≡◌}
use Rattle.run_data.specs.Matrix.{entry, zero_matrix}
use Rattle.run_data.proofs.Fills.{with_filled, all_of}
use Rattle.serial_machine.proofs.sides.transpose_of.Given as goal

abbrev pub invariant-loop-j : goal.invariant-loop-j
invariant-loop-j l = l.turned ≡ with_filled (zero_matrix l.rows l.cols) (all_of l.rows l.cols) (λ i j. entry l.a j i) 0 l.j

abbrev pub invariant-loop-i : goal.invariant-loop-i
invariant-loop-i l = l.turned ≡ with_filled (zero_matrix l.rows l.cols) (all_of l.rows l.cols) (λ i j. entry l.a j i) l.i l.j
