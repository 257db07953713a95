use Rattle.std.proofs.Common.{◌≡◌, ◌++◌}
use Rattle.field_core.specs.Residue.{inverse}
use Rattle.round_laws.specs.Turns.{each_below}
use Rattle.dist_matrix.specs.Encode.{row_events}
use Rattle.dist_matrix.proofs.encode.encode_group_on.Given as goal

abbrev pub invariant-loop-row : goal.invariant-loop-row
invariant-loop-row g l = l.round ≡ l.initial.round ++ each_below l.row (row_events (inverse g.K.Field.MODULUS) l.at l.line l.group)
