use Rattle.std.proofs.Common.{◌≡◌, ◌-◌, ◌≤◌}
use Rattle.field_core.specs.Residue.{inverse}
use Rattle.run_data.specs.Matrix.{cols, tabulate}
use Rattle.elimination.proofs.ByPanels.{so_far}
use Rattle.elimination.proofs.by_panels.eliminate_by_panels.Given as goal

abbrev pub invariant-loop-first : goal.invariant-loop-first
invariant-loop-first g l = record {
  inside : l.first ≤ l.last;
  matrix : l.a ≡ tabulate l.fn.a.rows (cols l.fn.a) (so_far g.K.Field.MODULUS (inverse g.K.Field.MODULUS) l.fn.a l.first).words;
  list : l.pivots.items ≡ (so_far g.K.Field.MODULUS (inverse g.K.Field.MODULUS) l.fn.a l.first).pivots;
}

abbrev pub decreases-loop-first : goal.decreases-loop-first
decreases-loop-first g l = l.last - l.first
