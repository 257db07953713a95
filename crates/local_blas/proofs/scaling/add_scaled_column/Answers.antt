use Rattle.std.proofs.Common.{length, ◌≡◌, ◌≤◌, ◌+◌, ◌-◌, ◌*◌, ◌%◌, ◌∙◌, ap, refl, arith}
use Rattle.run_data.specs.Matrix.{entry}
use Rattle.run_data.specs.Parts.{part_entry}
use Rattle.run_data.proofs.ColumnWords.{entries_small, part_small, part_long, column_in, column_read, column_written}
use Rattle.local_blas.proofs.ColumnSums.{added_from, part_word_at}
use Rattle.local_blas.proofs.scaling.add_scaled_column.Goals as goal

pub axpy-requires-clause-y_words : goal.axpy-requires-clause-y_words
axpy-requires-clause-y_words g c =
    part_small c.words_mut-words.result.now _ _
    (entries_small g.K.Field.MODULUS c.args.dst.now c.words_mut-words.result.now c.words_mut-words.ensures.shaped c.words_mut-words.ensures.size c.words_mut-words.ensures.words
    g.met.K.Field.at_least g.met.K.Field.at_most c.requires.dst_words)

pub returns : goal.returns
returns g c =
    let dst = c.args.dst.now in
    let at = c.args.at in
    let ws = c.words_mut-words.result.now in
    let lo = at.c0 * c.rows.result + at.r0 in
    let n = at.c0 * c.rows.result + at.r1 - lo in
    let e_n : n ≡ at.r1 - at.r0 = omega arith in
    let room : lo + n ≤ length ws = omega (arith, column_in dst at c.rows.result (length ws) c.requires.dst_part c.requires.column c.rows.ensures.value c.words_mut-words.ensures.size, c.requires.dst_part.rows_ordered) in
    let long = part_long ws lo n room in
    column_written dst at ws c.axpy.new.y c.rows.result lo n (λ r k. (entry dst r k + c.args.a * part_entry c.args.src.now c.args.sp (r - at.r0) (k - at.c0)) % g.K.Field.MODULUS)
    c.requires.dst_part c.requires.column c.rows.ensures.value refl e_n c.words_mut-words.ensures.size c.words_mut-words.ensures.words (c.axpy.ensures.length ∙ long)
    (λ m lt. added_from _ c.args.a _ _ (entry dst (at.r0 + m) at.c0) (part_entry c.args.src.now c.args.sp (at.r0 + m - at.r0) (at.c0 - at.c0)) g.K.Field.MODULUS c.MODULUS.result
    (c.axpy.ensures.value m (omega (arith, long, lt)))
    (column_read dst at ws c.rows.result lo n m c.requires.dst_part c.requires.column c.rows.ensures.value refl e_n c.words_mut-words.ensures.words lt)
    (c.column_words-x.ensures.words m (omega (arith, lt, e_n, c.requires.shape.rows)) ∙ part_word_at c.args.src.now c.args.sp m (at.r0 + m - at.r0) (at.c0 - at.c0) (omega arith) (omega arith))
    c.MODULUS.ensures
    ∙ ap (λ s. (entry dst (at.r0 + m) at.c0 + s) % g.K.Field.MODULUS)
    (let e : part_entry c.args.src.now c.args.sp (at.r0 + m - at.r0) (at.c0 - at.c0) * c.args.a ≡ c.args.a * part_entry c.args.src.now c.args.sp (at.r0 + m - at.r0) (at.c0 - at.c0) = omega arith in e))
