use Rattle.std.proofs.Common.{◌≡◌, ◌++◌}
use Rattle.std.specs.Prelude.{drop}
use Rattle.cauchy_code.specs.Cauchy.{first_live}
use Rattle.recovery_code.proofs.mending.append_first_live.Given as goal

abbrev pub invariant-loop-i : goal.invariant-loop-i
invariant-loop-i l = l.live.items ++ first_live (drop l.i l.lost) l.left ≡ l.initial.live.items ++ first_live l.lost l.count
