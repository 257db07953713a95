use Rattle.std.proofs.Common.{◌∙◌, ap, arith}
use Rattle.field_core.specs.Residue.{inverse}
use Rattle.run_data.specs.Matrix.{Matrix}
use Rattle.local_blas.specs.Kernels.{with_solved_upper}
use Rattle.rank_machine.specs.Effect.{area}
use Rattle.rank_slots.proofs.CellWords.{cells_words}
use Rattle.rank_memory.proofs.reads.solve_upper_from.Goals as goal

pub words_at-m-requires : goal.words_at-m-requires
words_at-m-requires g c =
    c.requires.fit.pair.from_held

pub solve_words_upper-requires-clause-dst_in : goal.solve_words_upper-requires-clause-dst_in
solve_words_upper-requires-clause-dst_in g c =
    c.requires.fit.pair.inside

pub solve_words_upper-requires-clause-block_in : goal.solve_words_upper-requires-clause-block_in
solve_words_upper-requires-clause-block_in g c =
    rw c.words_at-m.ensures c.requires.fit.pair.from_inside

pub solve_words_upper-requires-clause-shape : goal.solve_words_upper-requires-clause-shape
solve_words_upper-requires-clause-shape g c =
    rw c.words_at-m.ensures c.requires.fit.shape

pub solve_words_upper-requires-clause-dst_words : goal.solve_words_upper-requires-clause-dst_words
solve_words_upper-requires-clause-dst_words g c =
    c.requires.dst_words.words

pub solve_words_upper-requires-clause-block_words : goal.solve_words_upper-requires-clause-block_words
solve_words_upper-requires-clause-block_words g c =
    rw c.words_at-m.ensures (cells_words g.K.Field.MODULUS c.args.cells.now c.args.block (omega (arith, c.requires.dst_words.words.below 0 0)) c.requires.residues)

pub solve_words_upper-requires-clause-divisors : goal.solve_words_upper-requires-clause-divisors
solve_words_upper-requires-clause-divisors g c =
    rw c.words_at-m.ensures c.requires.fit.divisors

pub returns : goal.returns
returns g c =
    c.solve_words_upper.ensures
    ∙ ap (λ (w : Matrix). with_solved_upper g.K.Field.MODULUS (inverse g.K.Field.MODULUS) c.args.dst.now (area c.args.to c.args.dst.now) w (area c.args.block w) c.args.unit) c.words_at-m.ensures
