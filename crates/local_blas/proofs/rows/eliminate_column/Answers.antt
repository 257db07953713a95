use Rattle.std.proofs.Common.{length, ◌≡◌, ◌+◌, ◌-◌, ◌*◌, ◌%◌, ◌∙◌, refl, arith}
use Rattle.run_data.specs.Matrix.{entry}
use Rattle.run_data.proofs.ColumnWords.{entries_small, part_small, taken_small, front_small, back_small, behind_long, column_in, column_read_before, column_read_behind, column_written_behind}
use Rattle.local_blas.proofs.ColumnSums.{added_from}
use Rattle.local_blas.proofs.rows.eliminate_column.Goals as goal

pub axpy-requires-clause-y_words : goal.axpy-requires-clause-y_words
axpy-requires-clause-y_words g c =
    taken_small c.split_at_mut-before.result.1.now _
    (back_small c.words_mut.result.now c.split_at_mut-before.result.1.now _ c.split_at_mut-before.ensures.back
    (entries_small g.K.Field.MODULUS c.args.dst.now c.words_mut.result.now c.words_mut.ensures.shaped c.words_mut.ensures.size c.words_mut.ensures.words g.met.K.Field.at_least g.met.K.Field.at_most c.requires.words))

pub axpy-requires-clause-x_words : goal.axpy-requires-clause-x_words
axpy-requires-clause-x_words g c =
    part_small c.split_at_mut-before.result.0.now _ _
    (front_small c.words_mut.result.now c.split_at_mut-before.result.0.now _ c.split_at_mut-before.ensures.front
    (entries_small g.K.Field.MODULUS c.args.dst.now c.words_mut.result.now c.words_mut.ensures.shaped c.words_mut.ensures.size c.words_mut.ensures.words g.met.K.Field.at_least g.met.K.Field.at_most c.requires.words))

pub returns : goal.returns
returns g c =
    let dst = c.args.dst.now in
    let at = c.args.at in
    let ws = c.words_mut.result.now in
    let R = c.rows-rows.result in
    let lo = at.c0 * R + at.r0 in
    let n = at.r1 - at.r0 in
    let front = c.split_at_mut-before.ensures.front in
    let back = c.split_at_mut-before.ensures.back in
    let few : length c.axpy.new.y ≡ n = c.axpy.ensures.length ∙ behind_long ws c.split_at_mut-before.result.1.now lo n back (omega (arith, column_in dst at R (length ws) c.requires.part c.requires.column c.rows-rows.ensures.value c.words_mut.ensures.size, c.requires.part.rows_ordered)) in
    column_written_behind dst at ws c.split_at_mut-before.result.0.now c.split_at_mut-before.result.1.now c.axpy.new.y R lo n (λ r k. (entry dst r k + entry dst r c.args.j * c.args.negative) % g.K.Field.MODULUS)
    front back c.requires.part c.requires.column c.rows-rows.ensures.value refl refl c.words_mut.ensures.size c.words_mut.ensures.words few
    (λ m lt. added_from _ c.args.negative _ _ (entry dst (at.r0 + m) at.c0) (entry dst (at.r0 + m) c.args.j) g.K.Field.MODULUS c.MODULUS.result
    (c.axpy.ensures.value m (omega (arith, few, lt, c.axpy.ensures.length)))
    (column_read_behind dst at ws c.split_at_mut-before.result.1.now R lo n m back c.requires.part c.requires.column c.rows-rows.ensures.value refl refl c.words_mut.ensures.words lt)
    (column_read_before dst at c.args.j ws c.split_at_mut-before.result.0.now R lo (c.args.j * R + at.r0) (c.args.j * R + at.r1 - (c.args.j * R + at.r0)) m front c.requires.part c.requires.column c.requires.later c.rows-rows.ensures.value refl refl (omega arith)
    c.words_mut.ensures.words (omega (arith, lt)))
    c.MODULUS.ensures)
