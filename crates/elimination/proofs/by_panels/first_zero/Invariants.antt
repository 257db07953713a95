use Rattle.std.proofs.Common.{◌≢◌, ℕ, ◌<◌}
use Rattle.run_data.specs.Matrix.{entry}
use Rattle.elimination.proofs.by_panels.first_zero.Given as goal

abbrev pub invariant-loop-i : goal.invariant-loop-i
invariant-loop-i l = (k : ℕ) → k < l.i → entry l.a k k ≢ 0
