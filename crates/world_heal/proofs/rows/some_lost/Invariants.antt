use Rattle.std.proofs.Common.{◌≡◌}
use Rattle.std.specs.Prelude.{drop}
use Rattle.world_heal.specs.Mended.{some_in}
use Rattle.world_heal.proofs.rows.some_lost.Given as goal

abbrev pub invariant-loop-i : goal.invariant-loop-i
invariant-loop-i l = some_in l.lost ≡ some_in (drop l.i l.lost)
