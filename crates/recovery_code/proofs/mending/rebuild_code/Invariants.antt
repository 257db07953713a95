use Rattle.std.proofs.Common.{◌≡◌, ◌++◌}
use Rattle.field_core.specs.Residue.{inverse}
use Rattle.round_laws.specs.Turns.{each_below}
use Rattle.recovery_code.specs.Spots.{spot_seen, part_at}
use Rattle.recovery_code.proofs.mending.rebuild_code.Given as goal

abbrev pub invariant-loop-col : goal.invariant-loop-col
invariant-loop-col g l = l.round ≡ l.initial.round ++ each_below l.col (part_at (inverse g.K.Field.MODULUS) (spot_seen l.place) l.c)
