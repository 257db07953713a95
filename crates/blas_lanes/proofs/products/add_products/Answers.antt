use Rattle.std.proofs.Common.{◌+◌, ◌*◌, ◌%◌, ap, ◌∙◌, arith, refl, ◌<◌, slice_index, length}
use Rattle.std.proofs.lemmas.Simd.{get_or-replicate}
use Rattle.field_core.specs.Sums.{sum_to}
use Rattle.blas_lanes.proofs.Gains.{block_stored, reindexed}
use Rattle.blas_lanes.proofs.products.add_products.Goals as goal

pub loop-block-init : goal.loop-block-init
loop-block-init c = (refl, λ i lt. absurd (let no : i < 0 = lt in omega arith), λ i le. refl)

pub gain_all-sums-requires-clause-start : goal.gain_all-sums-requires-clause-start
gain_all-sums-requires-clause-start c = (refl, λ i lt. get_or-replicate 16 i 0 0 lt)

pub loop-block-preserved : goal.loop-block-preserved
loop-block-preserved c =
    let at = c.loop-block.block * 16 in
    let mid = c.loop-block.y in
    let n = length c.args.factors.now in
    let both =
    block_stored c.args.y.now mid c.add_reduced.new.y at (λ i. (slice_index c.args.y.now i + c.args.a * sum_to n (λ k. slice_index c.args.words.now (c.args.from + k * c.args.stride + i) * slice_index c.args.factors.now k)) % c.args.modulus)
    c.loop-block.invariant.1 c.loop-block.invariant.2
    (λ i lt. c.add_reduced.ensures.here i lt
    ∙ ap (λ x. (x + c.args.a * slice_index c.gain_all-sums.result i) % c.args.modulus) (c.loop-block.invariant.2 (at + i) (omega arith))
    ∙ ap (λ s. (slice_index c.args.y.now (at + i) + c.args.a * s) % c.args.modulus)
    (c.gain_all-sums.ensures.1 i lt ∙ reindexed c.args.from at c.args.stride n i (λ k. slice_index c.args.words.now k) (λ k. slice_index c.args.factors.now k)))
    c.add_reduced.ensures.before c.add_reduced.ensures.after ((c.loop-block.block + 1) * 16) (omega arith)
    in
    (c.add_reduced.ensures.length ∙ c.loop-block.invariant.0, both.0, both.1)
