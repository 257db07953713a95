use Rattle.std.proofs.Common.{◌<◌, ◌∙◌, sym, subst, arith}
use Rattle.run_data.proofs.Fills.{fill_starts, fill_goes_on, fill_ends_column, fill_ends, fill_reads_next}
use Rattle.rank_memory.proofs.RowLaws.{gains_where, column_within, column_still_within}
use Rattle.rank_memory.proofs.kernels.add_column.Goals as goal

pub loop-i-init : goal.loop-i-init
loop-i-init g c = fill_starts _ _ _ c.rows-shaped.ensures.shaped

pub gain-requires-clause-word : goal.gain-requires-clause-word
gain-requires-clause-word g c =
    rw (fill_reads_next _ _ _ _ _ _ _ c.loop-i.invariant c.get-word.ensures (column_within c.args.at c.args.dst.now c.args.j c.requires.dst_part c.requires.last) (omega arith) (omega arith)) (c.requires.dst_words.below c.loop-i.i c.args.j)

pub get-word-requires-clause-row : goal.get-word-requires-clause-row
get-word-requires-clause-row g c =
    let w = column_still_within c.args.dst.now c.loop-i.dst c.args.at c.args.j _ c.loop-i.i c.loop-i.invariant c.requires.dst_part c.requires.last in omega (arith, w.rows_end, c.loop-i-test.true)

pub get-word-requires-clause-column : goal.get-word-requires-clause-column
get-word-requires-clause-column g c =
    let w = column_still_within c.args.dst.now c.loop-i.dst c.args.at c.args.j _ c.loop-i.i c.loop-i.invariant c.requires.dst_part c.requires.last in omega (arith, w.columns_end)

pub overflow_sub-column : goal.overflow_sub-column
overflow_sub-column g c = c.requires.first

pub overflow_sub-i : goal.overflow_sub-i
overflow_sub-i g c = c.loop-i.auto.i

pub word_in-other-requires-clause-within : goal.word_in-other-requires-clause-within
word_in-other-requires-clause-within g c = c.requires.src_part

pub word_in-other-requires-clause-row : goal.word_in-other-requires-clause-row
word_in-other-requires-clause-row g c = omega (arith, c.requires.shape.rows, c.loop-i-test.true, c.loop-i.auto.i)

pub word_in-other-requires-clause-column : goal.word_in-other-requires-clause-column
word_in-other-requires-clause-column g c = omega (arith, c.requires.shape.columns, c.requires.first, c.requires.last)

pub gain-requires-clause-factor : goal.gain-requires-clause-factor
gain-requires-clause-factor g c = c.requires.factor

pub gain-requires-clause-other : goal.gain-requires-clause-other
gain-requires-clause-other g c = subst (λ n. n < g.K.Field.MODULUS) (sym c.word_in-other.ensures) (c.requires.src_words.below _ _)

pub set-requires-clause-row : goal.set-requires-clause-row
set-requires-clause-row g c =
    let w = column_still_within c.args.dst.now c.loop-i.dst c.args.at c.args.j _ c.loop-i.i c.loop-i.invariant c.requires.dst_part c.requires.last in omega (arith, w.rows_end, c.loop-i-test.true)

pub set-requires-clause-column : goal.set-requires-clause-column
set-requires-clause-column g c =
    let w = column_still_within c.args.dst.now c.loop-i.dst c.args.at c.args.j _ c.loop-i.i c.loop-i.invariant c.requires.dst_part c.requires.last in omega (arith, w.columns_end)

pub loop-i-preserved : goal.loop-i-preserved
loop-i-preserved g c =
    fill_goes_on _ _ _ _ _ _ _ _ c.loop-i.invariant c.set.ensures (omega arith) (omega arith) (omega arith) (omega arith)
    (gains_where g.K.Field.MODULUS _ _ _ _ _ _ _ _ c.gain.ensures c.is_on_side.ensures
    (fill_reads_next _ _ _ _ _ _ _ c.loop-i.invariant c.get-word.ensures (column_within c.args.at c.args.dst.now c.args.j c.requires.dst_part c.requires.last) (omega arith) (omega arith))
    c.word_in-other.ensures)

pub returns : goal.returns
returns g c = c.loop-i.invariant ∙ fill_ends_column _ _ _ _ _ (omega arith) ∙ fill_ends _ _ _ _ _ (omega arith)
