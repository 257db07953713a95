use Rattle.std.proofs.Common.{◌≡◌}
use Rattle.field_core.specs.Residue.{inverse}
use Rattle.run_data.specs.Matrix.{cols}
use Rattle.elimination.specs.Whole.{strip_of_words}
use Rattle.elimination.proofs.WholeLoops.{strip_after}
use Rattle.elimination.proofs.whole.eliminate_narrow_strip.Given as goal

abbrev pub invariant-loop-j : goal.invariant-loop-j
invariant-loop-j g l =
    (l.a ≡ strip_of_words l.fn.a.rows (cols l.fn.a) l.first (strip_after g.K.Field.MODULUS (inverse g.K.Field.MODULUS) l.first l.j l.fn.a l.fn.pivots.items).words) × (l.pivots.items ≡ (strip_after g.K.Field.MODULUS (inverse g.K.Field.MODULUS) l.first l.j l.fn.a l.fn.pivots.items).pivots)
