use Rattle.std.proofs.Common.{◌≡◌, ◌++◌}
use Rattle.field_core.specs.Residue.{inverse}
use Rattle.recovery_code.specs.Spots.{spot_seen, row_code_at}
use Rattle.recovery_code.proofs.mending.mend_codes.Given as goal

abbrev pub invariant-loop-c : goal.invariant-loop-c
invariant-loop-c g l = l.round ≡ l.initial.round ++ row_code_at (inverse g.K.Field.MODULUS) (spot_seen l.place) l.lost l.c
