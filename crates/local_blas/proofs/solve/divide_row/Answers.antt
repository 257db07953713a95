use Rattle.std.proofs.Common.{arith}
use Rattle.field_core.specs.Residue.{inverse}
use Rattle.run_data.specs.Matrix.{entry}
use Rattle.run_data.specs.Parts.{part_entry}
use Rattle.local_blas.proofs.Halves.{part_kept, no_rows, divided-unit}
use Rattle.local_blas.proofs.solve.divide_row.Goals as goal
use Rattle.local_blas.proofs.solve.divide_row.Goals.{then-unit-via-then-unit, then-unit-via-else-unit+then-at}

pub returns-then-unit : goal.returns-then-unit
returns-then-unit g c =
    elim c.then-unit.branch [
      | then-unit-via-then-unit w ↦ part_kept _ _ _ c.rows-shaped.ensures.shaped (λ r k _ _ _ _. divided-unit g.K.Field.MODULUS (inverse g.K.Field.MODULUS) c.args.unit (part_entry c.args.block.now c.args.bp 0 0) (entry c.args.dst.now r k) w.if-unit.true)
      | then-unit-via-else-unit+then-at w ↦ no_rows _ _ _ c.rows-shaped.ensures.shaped (omega (arith, w.if-at.true))
    ]
