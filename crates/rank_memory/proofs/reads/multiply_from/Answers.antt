use Rattle.std.proofs.Common.{◌∙◌, arith}
use Rattle.local_blas.specs.Kernels.{with_product}
use Rattle.rank_machine.specs.Effect.{area}
use Rattle.rank_slots.proofs.CellWords.{cells_words}
use Rattle.rank_memory.proofs.reads.multiply_from.Goals as goal

pub words_at-x-requires : goal.words_at-x-requires
words_at-x-requires g c =
    c.requires.fit.pair.from_held

pub words_at-y-requires : goal.words_at-y-requires
words_at-y-requires g c =
    c.requires.fit.right_held

pub multiply_words-requires-clause-dst_in : goal.multiply_words-requires-clause-dst_in
multiply_words-requires-clause-dst_in g c =
    c.requires.fit.pair.inside

pub multiply_words-requires-clause-left_in : goal.multiply_words-requires-clause-left_in
multiply_words-requires-clause-left_in g c =
    rw c.words_at-x.ensures c.requires.fit.pair.from_inside

pub multiply_words-requires-clause-right_in : goal.multiply_words-requires-clause-right_in
multiply_words-requires-clause-right_in g c =
    rw c.words_at-y.ensures c.requires.fit.right_inside

pub multiply_words-requires-clause-shape : goal.multiply_words-requires-clause-shape
multiply_words-requires-clause-shape g c =
    rw (c.words_at-x.ensures, c.words_at-y.ensures) c.requires.fit.shape

pub multiply_words-requires-clause-factor : goal.multiply_words-requires-clause-factor
multiply_words-requires-clause-factor g c =
    c.requires.fit.factor

pub multiply_words-requires-clause-dst_words : goal.multiply_words-requires-clause-dst_words
multiply_words-requires-clause-dst_words g c =
    c.requires.dst_words.words

pub multiply_words-requires-clause-left_words : goal.multiply_words-requires-clause-left_words
multiply_words-requires-clause-left_words g c =
    rw c.words_at-x.ensures (cells_words g.K.Field.MODULUS c.args.cells.now c.args.left (omega (arith, c.requires.dst_words.words.below 0 0)) c.requires.residues)

pub multiply_words-requires-clause-right_words : goal.multiply_words-requires-clause-right_words
multiply_words-requires-clause-right_words g c =
    rw c.words_at-y.ensures (cells_words g.K.Field.MODULUS c.args.cells.now c.args.right (omega (arith, c.requires.dst_words.words.below 0 0)) c.requires.residues)

pub returns : goal.returns
returns g c =
    let x = c.words_at-x.ensures in
    let y = c.words_at-y.ensures in
    c.multiply_words.ensures ∙ (λ n. with_product g.K.Field.MODULUS c.args.dst.now (area c.args.to c.args.dst.now) c.args.a (x n) (area c.args.left (x n)) (y n) (area c.args.right (y n)))
