use Rattle.std.proofs.Common.{true, ◌∙◌}
use Rattle.field_core.specs.Residue.{inverse}
use Rattle.serial_machine.proofs.Whole.{rows-exchanged, words-exchanged, rows-solved, words-solved, some_modulus, factors_pass, factors_done}
use Rattle.serial_machine.proofs.solves.solve_with_factors.Goals as goal

pub substitute-requires-clause-rows : goal.substitute-requires-clause-rows
substitute-requires-clause-rows g c = rows-exchanged _ _ _ _ c.exchange_rows.ensures ∙ c.requires.same_rows

pub substitute-requires-clause-b_words : goal.substitute-requires-clause-b_words
substitute-requires-clause-b_words g c = words-exchanged _ _ _ _ _ (some_modulus _ g.met.K.Field.at_least) c.requires.b_words c.exchange_rows.ensures

pub substitute-requires-then-info-eq0-clause-rows : goal.substitute-requires-then-info-eq0-clause-rows
substitute-requires-then-info-eq0-clause-rows g c =
    rows-solved g.K.Field.MODULUS (inverse g.K.Field.MODULUS) true true c.args.a.now _ _ c.substitute.ensures ∙ rows-exchanged _ _ _ _ c.exchange_rows.ensures ∙ c.requires.same_rows

pub substitute-requires-then-info-eq0-clause-nonzero : goal.substitute-requires-then-info-eq0-clause-nonzero
substitute-requires-then-info-eq0-clause-nonzero g c = λ _. factors_pass _ _ _ c.rows-count.ensures.value c.first_zero-info.ensures c.if-info-eq0.true

pub substitute-requires-then-info-eq0-clause-b_words : goal.substitute-requires-then-info-eq0-clause-b_words
substitute-requires-then-info-eq0-clause-b_words g c =
    words-solved g.K.Field.MODULUS (inverse g.K.Field.MODULUS) true true c.args.a.now _ _ (some_modulus _ g.met.K.Field.at_least) c.substitute.ensures

pub returns-then-info-eq0-clause-matrix : goal.returns-then-info-eq0-clause-matrix
returns-then-info-eq0-clause-matrix g c =
    factors_done g.K.Field.MODULUS (inverse g.K.Field.MODULUS) _ _ _ _ _ _ _ _ c.rows-count.ensures.value c.first_zero-info.ensures c.if-info-eq0.true c.requires.same_rows
    c.exchange_rows.ensures c.substitute.ensures c.substitute-then-info-eq0.ensures
