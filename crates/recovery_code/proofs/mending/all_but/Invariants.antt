use Rattle.std.proofs.Common.{◌≡◌, ◌++◌, map, not}
use Rattle.std.specs.Prelude.{drop}
use Rattle.recovery_code.proofs.mending.all_but.Given as goal

abbrev pub invariant-loop-i : goal.invariant-loop-i
invariant-loop-i l = l.live.items ++ map not (drop l.i l.lost) ≡ map not l.lost
