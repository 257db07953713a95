use Rattle.std.proofs.Common.{◌≡◌, ◌+◌}
use Rattle.std.specs.Prelude.{drop}
use Rattle.recovery_code.specs.Copies.{first_kept}
use Rattle.recovery_code.proofs.copies.first_kept.Given as goal

abbrev pub invariant-loop-i : goal.invariant-loop-i
invariant-loop-i l = first_kept l.lost ≡ l.i + first_kept (drop l.i l.lost)
