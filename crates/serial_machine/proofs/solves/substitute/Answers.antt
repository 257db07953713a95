use Rattle.std.proofs.Common.{refl}
use Rattle.field_core.specs.Residue.{inverse}
use Rattle.serial_machine.proofs.Whole.{IsWithin-whole, shapes_solve, nonzero_part, lower-is, upper-is}
use Rattle.serial_machine.proofs.solves.substitute.Goals as goal

pub solve_lower-requires-clause-dst_part : goal.solve_lower-requires-clause-dst_part
solve_lower-requires-clause-dst_part g c = IsWithin-whole _ _ _ c.all_of-all.ensures refl refl

pub solve_lower-requires-clause-block_part : goal.solve_lower-requires-clause-block_part
solve_lower-requires-clause-block_part g c = IsWithin-whole _ _ _ c.all_of-block.ensures refl refl

pub solve_lower-requires-clause-shape : goal.solve_lower-requires-clause-shape
solve_lower-requires-clause-shape g c = shapes_solve _ _ _ _ c.all_of-all.ensures c.all_of-block.ensures c.requires.square c.requires.rows

pub solve_lower-requires-clause-nonzero : goal.solve_lower-requires-clause-nonzero
solve_lower-requires-clause-nonzero g c = λ unit. nonzero_part _ _ c.all_of-block.ensures (c.requires.nonzero unit)

pub solve_upper-requires-clause-dst_part : goal.solve_upper-requires-clause-dst_part
solve_upper-requires-clause-dst_part g c = IsWithin-whole _ _ _ c.all_of-all.ensures refl refl

pub solve_upper-requires-clause-block_part : goal.solve_upper-requires-clause-block_part
solve_upper-requires-clause-block_part g c = IsWithin-whole _ _ _ c.all_of-block.ensures refl refl

pub solve_upper-requires-clause-shape : goal.solve_upper-requires-clause-shape
solve_upper-requires-clause-shape g c = shapes_solve _ _ _ _ c.all_of-all.ensures c.all_of-block.ensures c.requires.square c.requires.rows

pub solve_upper-requires-clause-nonzero : goal.solve_upper-requires-clause-nonzero
solve_upper-requires-clause-nonzero g c = λ unit. nonzero_part _ _ c.all_of-block.ensures (c.requires.nonzero unit)

pub returns-then-triangle : goal.returns-then-triangle
returns-then-triangle g c = lower-is g.K.Field.MODULUS (inverse g.K.Field.MODULUS) _ _ _ _ _ _ _ c.if-triangle.true c.all_of-all.ensures c.all_of-block.ensures c.solve_lower.ensures

pub returns-else-triangle : goal.returns-else-triangle
returns-else-triangle g c =
    upper-is g.K.Field.MODULUS (inverse g.K.Field.MODULUS) _ _ _ _ _ _ _ c.if-triangle.false c.requires.rows c.all_of-all.ensures c.all_of-block.ensures c.solve_upper.ensures
