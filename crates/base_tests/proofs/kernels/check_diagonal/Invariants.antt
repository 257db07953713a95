use Rattle.std.proofs.Common.{ℕ, ◌<◌, ◌≢◌}
use Rattle.run_data.specs.Parts.{part_entry}
use Rattle.base_tests.proofs.kernels.check_diagonal.Given as goal

abbrev pub invariant-loop-i : goal.invariant-loop-i
invariant-loop-i g l = (k : ℕ) → k < l.i → part_entry l.block l.bp k k ≢ 0
