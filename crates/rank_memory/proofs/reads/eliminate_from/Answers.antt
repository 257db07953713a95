use Rattle.std.proofs.Common.{◌≡◌, OnOk, nat_lt, subst, arith}
use Rattle.field_core.specs.Residue.{inverse}
use Rattle.run_data.specs.Matrix.{Matrix}
use Rattle.local_blas.specs.Kernels.{with_eliminated}
use Rattle.rank_machine.specs.Setting.{layout, global_row}
use Rattle.rank_machine.specs.Effect.{area}
use Rattle.script_lines.specs.Lines.{setting_on}
use Rattle.rank_slots.proofs.CellWords.{cells_words}
use Rattle.rank_memory.proofs.reads.eliminate_from.Goals as goal

pub words_at-m-requires : goal.words_at-m-requires
words_at-m-requires g c =
    c.requires.fit.row_held

pub eliminate_words-requires-clause-placed : goal.eliminate_words-requires-clause-placed
eliminate_words-requires-clause-placed g c =
    c.requires.fit.placed

pub eliminate_words-requires-clause-row_in : goal.eliminate_words-requires-clause-row_in
eliminate_words-requires-clause-row_in g c =
    rw c.words_at-m.ensures c.requires.fit.row_inside

pub eliminate_words-requires-clause-shape : goal.eliminate_words-requires-clause-shape
eliminate_words-requires-clause-shape g c =
    rw c.words_at-m.ensures c.requires.fit.shape

pub eliminate_words-requires-clause-dst_words : goal.eliminate_words-requires-clause-dst_words
eliminate_words-requires-clause-dst_words g c =
    c.requires.dst_words.words

pub eliminate_words-requires-clause-row_words : goal.eliminate_words-requires-clause-row_words
eliminate_words-requires-clause-row_words g c =
    rw c.words_at-m.ensures (cells_words g.K.Field.MODULUS c.args.cells.now c.args.row (omega (arith, c.requires.dst_words.words.below 0 0)) c.requires.residues)

pub eliminate_words-requires-clause-pivot : goal.eliminate_words-requires-clause-pivot
eliminate_words-requires-clause-pivot g c =
    rw c.words_at-m.ensures c.requires.fit.pivot

pub returns : goal.returns
returns g c =
    subst (λ (w : Matrix). OnOk c.eliminate_words.result (c.eliminate_words.new.dst ≡ with_eliminated g.K.Field.MODULUS (inverse g.K.Field.MODULUS) c.args.dst.now (λ i. nat_lt c.args.above (global_row (layout (setting_on 0 c.args.table.now) c.args.slot.id) c.args.rank i)) c.args.j w (area c.args.row w))) c.words_at-m.ensures c.eliminate_words.ensures
