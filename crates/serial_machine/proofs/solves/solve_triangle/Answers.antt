use Rattle.std.proofs.Common.{◌∙◌}
use Rattle.field_core.specs.Residue.{inverse}
use Rattle.serial_machine.proofs.Whole.{rows-scaled, words-scaled, some_modulus, triangle_passes, triangle_done}
use Rattle.serial_machine.proofs.solves.solve_triangle.Goals as goal

pub substitute-requires-clause-rows : goal.substitute-requires-clause-rows
substitute-requires-clause-rows g c = rows-scaled _ _ _ _ _ c.scale.ensures ∙ c.requires.rows

pub substitute-requires-clause-nonzero : goal.substitute-requires-clause-nonzero
substitute-requires-clause-nonzero g c = triangle_passes _ _ _ c.triangle_info-info.ensures c.if-info-eq0.true

pub substitute-requires-clause-b_words : goal.substitute-requires-clause-b_words
substitute-requires-clause-b_words g c = words-scaled _ _ _ _ _ (some_modulus _ g.met.K.Field.at_least) c.requires.b_words c.scale.ensures

pub returns-then-info-eq0-clause-matrix : goal.returns-then-info-eq0-clause-matrix
returns-then-info-eq0-clause-matrix g c =
    triangle_done g.K.Field.MODULUS (inverse g.K.Field.MODULUS) _ _ _ _ _ _ _ _ _ c.triangle_info-info.ensures c.if-info-eq0.true c.requires.rows c.all_of-all.ensures c.scale.ensures c.substitute.ensures
