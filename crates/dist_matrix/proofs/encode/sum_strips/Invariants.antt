use Rattle.std.proofs.Common.{◌≡◌, ◌++◌}
use Rattle.field_core.specs.Residue.{inverse}
use Rattle.round_laws.specs.Turns.{each_below}
use Rattle.dist_matrix.specs.Encode.{adding_events}
use Rattle.dist_matrix.proofs.encode.sum_strips.Given as goal

abbrev pub invariant-loop-source : goal.invariant-loop-source
invariant-loop-source g l = l.round ≡ l.initial.round ++ each_below l.source (adding_events (inverse g.K.Field.MODULUS) l.at l.line l.group l.row l.column)
