use Rattle.std.proofs.Common.{◌∙◌, ap, arith}
use Rattle.run_data.specs.Matrix.{Matrix}
use Rattle.local_blas.specs.Kernels.{with_added}
use Rattle.rank_machine.specs.Effect.{slot_of, area, reaches}
use Rattle.script_lines.specs.Lines.{setting_on}
use Rattle.rank_slots.proofs.CellWords.{cells_words}
use Rattle.rank_memory.proofs.reads.add_from.Goals as goal

pub words_at-m-requires : goal.words_at-m-requires
words_at-m-requires g c =
    c.requires.fit.pair.from_held

pub add_words-requires-clause-placed : goal.add_words-requires-clause-placed
add_words-requires-clause-placed g c =
    c.requires.fit.placed

pub add_words-requires-clause-dst_in : goal.add_words-requires-clause-dst_in
add_words-requires-clause-dst_in g c =
    c.requires.fit.pair.inside

pub add_words-requires-clause-src_in : goal.add_words-requires-clause-src_in
add_words-requires-clause-src_in g c =
    rw c.words_at-m.ensures c.requires.fit.pair.from_inside

pub add_words-requires-clause-shape : goal.add_words-requires-clause-shape
add_words-requires-clause-shape g c =
    rw c.words_at-m.ensures c.requires.fit.shape

pub add_words-requires-clause-factor : goal.add_words-requires-clause-factor
add_words-requires-clause-factor g c =
    c.requires.fit.factor

pub add_words-requires-clause-dst_words : goal.add_words-requires-clause-dst_words
add_words-requires-clause-dst_words g c =
    c.requires.dst_words.words

pub add_words-requires-clause-src_words : goal.add_words-requires-clause-src_words
add_words-requires-clause-src_words g c =
    rw c.words_at-m.ensures (cells_words g.K.Field.MODULUS c.args.cells.now c.args.from (omega (arith, c.requires.dst_words.words.below 0 0)) c.requires.residues)

pub returns : goal.returns
returns g c =
    c.add_words.ensures
    ∙ ap (λ (w : Matrix). with_added g.K.Field.MODULUS c.args.dst.now (area c.args.to c.args.dst.now) c.args.a w (area c.args.from w) (reaches (setting_on 0 c.args.table.now) c.args.rank (slot_of c.args.to) c.args.cut)) c.words_at-m.ensures
