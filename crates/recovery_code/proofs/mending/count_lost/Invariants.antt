use Rattle.std.proofs.Common.{◌≡◌, ◌+◌, ◌≤◌}
use Rattle.std.specs.Prelude.{drop, count_by}
use Rattle.recovery_code.proofs.mending.count_lost.Given as goal

abbrev pub invariant-loop-i : goal.invariant-loop-i
invariant-loop-i l = (l.count + count_by (λ b. b) (drop l.i l.lost) ≡ count_by (λ b. b) l.lost) × (l.count ≤ l.i)
