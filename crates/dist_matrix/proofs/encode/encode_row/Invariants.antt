use Rattle.std.proofs.Common.{◌≡◌, ◌++◌}
use Rattle.field_core.specs.Residue.{inverse}
use Rattle.round_laws.specs.Turns.{each_below}
use Rattle.dist_matrix.specs.Encode.{summing_events}
use Rattle.dist_matrix.proofs.encode.encode_row.Given as goal

abbrev pub invariant-loop-column : goal.invariant-loop-column
invariant-loop-column g l = l.round ≡ l.initial.round ++ each_below l.column (summing_events (inverse g.K.Field.MODULUS) l.at l.line l.group l.row)
