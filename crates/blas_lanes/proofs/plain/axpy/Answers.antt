use Rattle.std.proofs.Common.{◌+◌, ◌*◌, ◌%◌, ap, ◌∙◌, arith, slice_index}
use Rattle.blas_lanes.proofs.Gains.{chunk_small, chunk_word, gained_word, block_stored}
use Rattle.blas_lanes.proofs.plain.axpy.Goals as goal

pub gain-sums-requires-clause-words : goal.gain-sums-requires-clause-words
gain-sums-requires-clause-words c = chunk_small c.args.x.now (c.loop-block.block * 16) (omega (arith, c.requires.lengths, c.loop-block.invariant.0)) c.requires.x_words

pub loop-block-preserved : goal.loop-block-preserved
loop-block-preserved c =
    let at = c.loop-block.block * 16 in
    let mid = c.loop-block.y in
    let both =
    block_stored c.args.y.now mid c.store_reduced.new.y at (λ i. (slice_index c.args.y.now i + slice_index c.args.x.now i * c.args.a) % c.args.modulus) c.loop-block.invariant.1 c.loop-block.invariant.2
    (λ i lt. c.store_reduced.ensures.here i lt
    ∙ ap (λ s. s % c.args.modulus)
    (gained_word _ _ _ _ (slice_index c.args.y.now (at + i)) (slice_index c.args.x.now (at + i)) c.args.a (c.gain-sums.ensures.1 i lt)
    (c.load.ensures.1 i lt ∙ c.loop-block.invariant.2 (at + i) (omega arith)) (chunk_word c.args.x.now at i lt) c.from.ensures))
    c.store_reduced.ensures.before c.store_reduced.ensures.after ((c.loop-block.block + 1) * 16) (omega arith)
    in
    (c.store_reduced.ensures.length ∙ c.loop-block.invariant.0, both.0, both.1)
