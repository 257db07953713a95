use Rattle.std.proofs.Common.{◌≡◌, ℕ, ◌<◌, ◌≤◌}
use Rattle.run_data.specs.Matrix.{entry}
use Rattle.local_blas.proofs.rows.first_nonzero.Given as goal

abbrev pub invariant-loop-i : goal.invariant-loop-i
invariant-loop-i l = (i : ℕ) → l.from ≤ i → i < l.i → entry l.m i l.j ≡ 0
