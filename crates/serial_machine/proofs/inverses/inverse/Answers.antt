use Rattle.std.proofs.Common.{sym, ap, ◌∙◌}
use Rattle.field_core.specs.Residue.{inverse}
use Rattle.serial_model.specs.Elimination.{elimination_of}
use Rattle.serial_machine.proofs.Inverting.{factor_square, factor_count, factor_pivots, factor_words, is_inverse, inverse_makes_ones}
use Rattle.serial_machine.proofs.inverses.inverse.Goals as goal

pub invert_with_factors-requires-clause-square : goal.invert_with_factors-requires-clause-square
invert_with_factors-requires-clause-square g c = factor_square g.K.Field.MODULUS c.args.a.now c.in_ok-factors.factors c.factor.new.a c.deref.result.now (record {
  copied = c.in_ok-factors.ensures;
  matrix = c.in_ok-found.ensures.matrix;
  rows = c.deref.ensures.value ∙ c.in_ok-found.ensures.rows;
  shaped = c.rows-n.ensures.shaped;
  words = c.requires.words;
  square = c.requires.square;
})

pub invert_with_factors-requires-clause-list : goal.invert_with_factors-requires-clause-list
invert_with_factors-requires-clause-list g c = factor_count g.K.Field.MODULUS c.args.a.now c.in_ok-factors.factors c.factor.new.a c.deref.result.now (record {
  copied = c.in_ok-factors.ensures;
  matrix = c.in_ok-found.ensures.matrix;
  rows = c.deref.ensures.value ∙ c.in_ok-found.ensures.rows;
  shaped = c.rows-n.ensures.shaped;
  words = c.requires.words;
  square = c.requires.square;
})

pub invert_with_factors-requires-clause-pivots : goal.invert_with_factors-requires-clause-pivots
invert_with_factors-requires-clause-pivots g c = factor_pivots g.K.Field.MODULUS c.args.a.now c.in_ok-factors.factors c.factor.new.a c.deref.result.now (record {
  copied = c.in_ok-factors.ensures;
  matrix = c.in_ok-found.ensures.matrix;
  rows = c.deref.ensures.value ∙ c.in_ok-found.ensures.rows;
  shaped = c.rows-n.ensures.shaped;
  words = c.requires.words;
  square = c.requires.square;
})

pub invert_with_factors-requires-clause-a_words : goal.invert_with_factors-requires-clause-a_words
invert_with_factors-requires-clause-a_words g c = factor_words g.K.Field.MODULUS c.args.a.now c.in_ok-factors.factors c.factor.new.a c.deref.result.now g.met.K.Field.at_least (record {
  copied = c.in_ok-factors.ensures;
  matrix = c.in_ok-found.ensures.matrix;
  rows = c.deref.ensures.value ∙ c.in_ok-found.ensures.rows;
  shaped = c.rows-n.ensures.shaped;
  words = c.requires.words;
  square = c.requires.square;
})

pub returns-clause-factors : goal.returns-clause-factors
returns-clause-factors g c = is_inverse g.K.Field.MODULUS _ c.args.a.now c.in_ok-factors.factors c.factor.new.a _ _ c.deref.result.now (record {
  copied = c.in_ok-factors.ensures;
  matrix = c.in_ok-found.ensures.matrix;
  rows = c.deref.ensures.value ∙ c.in_ok-found.ensures.rows;
  shaped = c.rows-n.ensures.shaped;
  words = c.requires.words;
  square = c.requires.square;
}) c.in_ok-inverted.ensures c.rows-n.ensures.value c.in_ok-_info.ensures.matrix

pub returns-clause-product : goal.returns-clause-product
returns-clause-product g c = inverse_makes_ones g.K.Field.MODULUS _ c.args.a.now c.in_ok-factors.factors c.factor.new.a _ _ c.deref.result.now g.met.K.Field.prime (record {
  copied = c.in_ok-factors.ensures;
  matrix = c.in_ok-found.ensures.matrix;
  rows = c.deref.ensures.value ∙ c.in_ok-found.ensures.rows;
  shaped = c.rows-n.ensures.shaped;
  words = c.requires.words;
  square = c.requires.square;
}) c.in_ok-inverted.ensures c.rows-n.ensures.value (sym (c.in_ok-found.ensures.info ∙ ap (λ m. (elimination_of g.K.Field.MODULUS (inverse g.K.Field.MODULUS) m).info) c.in_ok-factors.ensures) ∙ c.if-found-ne0.false) c.in_ok-_info.ensures.matrix
