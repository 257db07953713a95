use Rattle.std.proofs.Common.{length, ◌≡◌, ◌≤◌, ◌+◌, ◌-◌, ◌*◌, ◌%◌, ◌∙◌, drop, refl, arith}
use Rattle.run_data.specs.Matrix.{cols, entry}
use Rattle.local_blas.specs.Kernels.{product_word}
use Rattle.run_data.proofs.ColumnWords.{entries_small, part_small, part_long, column_in, column_read, column_written, take_le}
use Rattle.local_blas.proofs.ColumnSums.{gathered, inside_left, product_of_words}
use Rattle.local_blas.proofs.product.mul_add_column.Goals as goal

pub add_products-requires-clause-y_words : goal.add_products-requires-clause-y_words
add_products-requires-clause-y_words g c =
    part_small c.words_mut-words.result.now _ _
    (entries_small g.K.Field.MODULUS c.args.dst.now c.words_mut-words.result.now c.words_mut-words.ensures.shaped c.words_mut-words.ensures.size c.words_mut-words.ensures.words
    g.met.K.Field.at_least g.met.K.Field.at_most c.requires.dst_words)

pub add_products-requires-clause-words : goal.add_products-requires-clause-words
add_products-requires-clause-words g c =
    entries_small g.K.Field.MODULUS c.args.left.now c.words.result.now c.words.ensures.shaped c.words.ensures.size c.words.ensures.words g.met.K.Field.at_least g.met.K.Field.at_most c.requires.left_words

pub add_products-requires-clause-inside : goal.add_products-requires-clause-inside
add_products-requires-clause-inside g c k lt =
    let lo = c.args.at.c0 * c.rows.result + c.args.at.r0 in
    inside_left c.args.lp.c0 c.args.lp.r0 k (c.args.at.r1 - c.args.at.r0) c.args.left.now.rows c.rows-left_rows.result (cols c.args.left.now) (length c.words.result.now) _ c.rows-left_rows.ensures.value c.words.ensures.size
    (omega (arith, lt, c.column_words-factors.ensures.length, c.requires.shapes.inner, c.requires.left_part.columns_ordered, c.requires.left_part.columns_end))
    (omega (arith, c.requires.shapes.rows, c.requires.left_part.rows_ordered, c.requires.left_part.rows_end))
    (take_le (c.args.at.c0 * c.rows.result + c.args.at.r1 - lo) (c.args.at.r1 - c.args.at.r0) (drop lo c.words_mut-words.result.now) (omega arith))

pub returns : goal.returns
returns g c =
    let dst = c.args.dst.now in
    let at = c.args.at in
    let ws = c.words_mut-words.result.now in
    let lo = at.c0 * c.rows.result + at.r0 in
    let n = at.c0 * c.rows.result + at.r1 - lo in
    let e_n : n ≡ at.r1 - at.r0 = omega arith in
    let room : lo + n ≤ length ws = omega (arith, column_in dst at c.rows.result (length ws) c.requires.dst_part c.requires.column c.rows.ensures.value c.words_mut-words.ensures.size, c.requires.dst_part.rows_ordered) in
    let long = part_long ws lo n room in
    let fs = c.column_words-factors.result.now in
    column_written dst at ws c.add_products.new.y c.rows.result lo n
    (λ i j. (entry dst i j + c.args.a * product_word c.args.left.now c.args.lp c.args.right.now c.args.rp (i - at.r0) (j - at.c0)) % g.K.Field.MODULUS)
    c.requires.dst_part c.requires.column c.rows.ensures.value refl e_n c.words_mut-words.ensures.size c.words_mut-words.ensures.words (c.add_products.ensures.length ∙ long)
    (λ m lt. gathered _ c.args.a _ (entry dst (at.r0 + m) at.c0) (length fs) (length fs) g.K.Field.MODULUS c.MODULUS.result _ _ (c.add_products.ensures.value m (omega (arith, long, lt)))
    (column_read dst at ws c.rows.result lo n m c.requires.dst_part c.requires.column c.rows.ensures.value refl e_n c.words_mut-words.ensures.words lt)
    refl
    (product_of_words c.args.left.now c.args.right.now c.args.lp c.args.rp c.words.result.now fs c.rows-left_rows.result _ m (at.r0 + m - at.r0) (at.c0 - at.c0) (length fs) (omega arith) (omega arith)
    c.requires.left_part c.rows-left_rows.ensures.value refl c.words.ensures.words (omega (arith, lt, e_n, c.requires.shapes.rows, c.requires.left_part.rows_ordered))
    (c.column_words-factors.ensures.length ∙ (let e : c.args.rp.r1 - c.args.rp.r0 ≡ c.args.lp.c1 - c.args.lp.c0 = omega (arith, c.requires.shapes.inner) in e))
    (λ k few. c.column_words-factors.ensures.words k (omega (arith, few, c.column_words-factors.ensures.length))))
    c.MODULUS.ensures)
