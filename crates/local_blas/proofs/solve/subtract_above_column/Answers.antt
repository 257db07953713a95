use Rattle.std.proofs.Common.{length, ◌≡◌, ◌≤◌, ◌+◌, ◌-◌, ◌*◌, ◌%◌, ◌∙◌, take, drop, refl, arith}
use Rattle.run_data.specs.Matrix.{cols, entry}
use Rattle.local_blas.specs.Kernels.{product_word}
use Rattle.run_data.proofs.ColumnWords.{entries_small, part_small, taken_small, front_small, back_small, part_long, behind_long, front_long, column_in, column_read_above, column_read_behind, column_written_behind, take_le}
use Rattle.local_blas.proofs.ColumnSums.{gathered_less, inside_left, product_of_words}
use Rattle.local_blas.proofs.solve.subtract_above_column.Goals as goal

pub add_products-requires-clause-y_words : goal.add_products-requires-clause-y_words
add_products-requires-clause-y_words g c =
    taken_small c.split_at_mut-before.result.1.now _
    (back_small c.words_mut.result.now c.split_at_mut-before.result.1.now _ c.split_at_mut-before.ensures.back
    (entries_small g.K.Field.MODULUS c.args.dst.now c.words_mut.result.now c.words_mut.ensures.shaped c.words_mut.ensures.size c.words_mut.ensures.words g.met.K.Field.at_least g.met.K.Field.at_most c.requires.dst_words))

pub add_products-requires-clause-words : goal.add_products-requires-clause-words
add_products-requires-clause-words g c =
    entries_small g.K.Field.MODULUS c.args.block.now c.words.result.now c.words.ensures.shaped c.words.ensures.size c.words.ensures.words g.met.K.Field.at_least g.met.K.Field.at_most c.requires.block_words

pub add_products-requires-clause-factors : goal.add_products-requires-clause-factors
add_products-requires-clause-factors g c =
    part_small c.split_at_mut-before.result.0.now _ _
    (front_small c.words_mut.result.now c.split_at_mut-before.result.0.now _ c.split_at_mut-before.ensures.front
    (entries_small g.K.Field.MODULUS c.args.dst.now c.words_mut.result.now c.words_mut.ensures.shaped c.words_mut.ensures.size c.words_mut.ensures.words g.met.K.Field.at_least g.met.K.Field.at_most c.requires.dst_words))

pub add_products-requires-clause-inside : goal.add_products-requires-clause-inside
add_products-requires-clause-inside g c k lt =
    let start = c.args.at.c0 * c.rows.result in
    let few : length (take (start + c.args.above.r1 - (start + c.args.above.r0)) (drop (start + c.args.above.r0) c.split_at_mut-before.result.0.now)) ≤ c.args.above.r1 - c.args.above.r0 =
    take_le (start + c.args.above.r1 - (start + c.args.above.r0)) (c.args.above.r1 - c.args.above.r0) (drop (start + c.args.above.r0) c.split_at_mut-before.result.0.now) (omega arith) in
    inside_left c.args.lp.c0 c.args.lp.r0 k (c.args.at.r1 - c.args.at.r0) c.args.block.now.rows c.rows-block_rows.result (cols c.args.block.now) (length c.words.result.now) _ c.rows-block_rows.ensures.value c.words.ensures.size
    (omega (arith, lt, few, c.requires.shapes.inner, c.requires.block_part.columns_ordered, c.requires.block_part.columns_end))
    (omega (arith, c.requires.shapes.rows, c.requires.block_part.rows_ordered, c.requires.block_part.rows_end))
    (take_le (c.args.at.r1 - c.args.at.r0) (c.args.at.r1 - c.args.at.r0) c.split_at_mut-before.result.1.now refl)

pub returns : goal.returns
returns g c =
    let dst = c.args.dst.now in
    let at = c.args.at in
    let ws = c.words_mut.result.now in
    let R = c.rows.result in
    let start = at.c0 * R in
    let lo = start + at.r0 in
    let front = c.split_at_mut-before.result.0.now in
    let back = c.split_at_mut-before.result.1.now in
    let e_front = c.split_at_mut-before.ensures.front in
    let e_back = c.split_at_mut-before.ensures.back in
    let inside = column_in dst at R (length ws) c.requires.dst_part c.requires.column c.rows.ensures.value c.words_mut.ensures.size in
    let n = at.r1 - at.r0 in
    let count = start + c.args.above.r1 - (start + c.args.above.r0) in
    let fs = take count (drop (start + c.args.above.r0) front) in
    let e_count : count ≡ c.args.above.r1 - c.args.above.r0 = omega arith in
    let few : length fs ≡ count = part_long front (start + c.args.above.r0) count (omega (arith, inside, c.requires.above_part.rows_ordered, c.requires.above, c.requires.dst_part.rows_ordered, front_long ws front lo e_front (omega (arith, inside, c.requires.dst_part.rows_ordered)))) in
    let long : length c.add_products.new.y ≡ n = c.add_products.ensures.length ∙ behind_long ws back lo n e_back (omega (arith, inside, c.requires.dst_part.rows_ordered)) in
    column_written_behind dst at ws front back c.add_products.new.y R lo n
    (λ i j. (entry dst i j + (g.K.Field.MODULUS - 1) * product_word c.args.block.now c.args.lp dst c.args.above (i - at.r0) (j - at.c0)) % g.K.Field.MODULUS)
    e_front e_back c.requires.dst_part c.requires.column c.rows.ensures.value refl refl c.words_mut.ensures.size c.words_mut.ensures.words long
    (λ m lt. gathered_less _ c.MODULUS.result c.MODULUS-2.result _ (entry dst (at.r0 + m) at.c0) (length fs) (length fs) g.K.Field.MODULUS _ _
    (c.add_products.ensures.value m (omega (arith, long, lt, c.add_products.ensures.length)))
    (column_read_behind dst at ws back R lo n m e_back c.requires.dst_part c.requires.column c.rows.ensures.value refl refl c.words_mut.ensures.words lt)
    refl
    (product_of_words c.args.block.now dst c.args.lp c.args.above c.words.result.now fs c.rows-block_rows.result _ m (at.r0 + m - at.r0) (at.c0 - at.c0) (length fs) (omega arith) (omega arith)
    c.requires.block_part c.rows-block_rows.ensures.value refl c.words.ensures.words (omega (arith, lt, c.requires.shapes.rows, c.requires.block_part.rows_ordered))
    (few ∙ (let e : count ≡ c.args.lp.c1 - c.args.lp.c0 = omega (arith, e_count, c.requires.shapes.inner) in e))
    (λ k less. column_read_above dst at c.args.above ws front R lo (start + c.args.above.r0) count k e_front c.requires.dst_part c.requires.above_part c.requires.column c.requires.same c.requires.above c.rows.ensures.value refl refl e_count c.words_mut.ensures.words (omega (arith, less, few))))
    c.MODULUS.ensures c.MODULUS-2.ensures)
