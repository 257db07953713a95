use Rattle.std.proofs.Common.{◌≡◌, ◌+◌, ◌*◌, ◌%◌, ap, ◌∙◌, arith, slice_index}
use Rattle.std.proofs.lemmas.Simd.{get_or-replicate}
use Rattle.blas_lanes.proofs.Gains.{chunk_small_from, chunk_word, gained_word, block_stored}
use Rattle.blas_lanes.proofs.plain.scale.Goals as goal

pub gain-sums-requires-clause-words : goal.gain-sums-requires-clause-words
gain-sums-requires-clause-words c =
    chunk_small_from c.args.x.now c.loop-block.x (c.loop-block.block * 16) (omega (arith, c.loop-block.invariant.0)) c.requires.words c.loop-block.invariant.2

pub loop-block-preserved : goal.loop-block-preserved
loop-block-preserved c =
    let at = c.loop-block.block * 16 in
    let mid = c.loop-block.x in
    let both =
    block_stored c.args.x.now mid c.store_reduced.new.y at (λ i. (slice_index c.args.x.now i * c.args.a) % c.args.modulus) c.loop-block.invariant.1 c.loop-block.invariant.2
    (λ i lt. c.store_reduced.ensures.here i lt
    ∙ ap (λ s. s % c.args.modulus)
    (gained_word _ _ _ _ 0 (slice_index c.args.x.now (at + i)) c.args.a (c.gain-sums.ensures.1 i lt) (get_or-replicate 16 i 0 0 lt)
    (chunk_word mid at i lt ∙ c.loop-block.invariant.2 (at + i) (omega arith)) c.from.ensures ∙ (let e : 0 + slice_index c.args.x.now (at + i) * c.args.a ≡ slice_index c.args.x.now (at + i) * c.args.a = omega arith in e)))
    c.store_reduced.ensures.before c.store_reduced.ensures.after ((c.loop-block.block + 1) * 16) (omega arith)
    in
    (c.store_reduced.ensures.length ∙ c.loop-block.invariant.0, both.0, both.1)
