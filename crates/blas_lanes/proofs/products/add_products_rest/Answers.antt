use Rattle.std.proofs.Common.{◌≡◌, ℕ, ◌+◌, ◌*◌, ◌%◌, ap, ◌∙◌, arith, refl, slice_index, length}
use Rattle.field_core.specs.Sums.{sum_to}
use Rattle.blas_lanes.proofs.Gains.{row_reindexed, place_stored, stored_scalar}
use Rattle.blas_lanes.proofs.products.add_products_rest.Goals as goal

pub loop-place-preserved : goal.loop-place-preserved
loop-place-preserved c =
    let place = c.loop-place.place in
    let n = length c.args.factors.now in
    let S = λ (i : ℕ). sum_to n (λ k. slice_index c.args.words.now (c.args.from + k * c.args.stride + i) * slice_index c.args.factors.now k) in
    let e_sum : c.row_sum-sum.result ≡ S place = c.row_sum-sum.ensures ∙ row_reindexed c.args.from place c.args.stride n (λ k. slice_index c.args.words.now k) (λ k. slice_index c.args.factors.now k) in
    place_stored c.args.y.now c.loop-place.y c.args.start place _ (λ i. (slice_index c.args.y.now i + c.args.a * S i) % c.args.modulus) c.loop-place.invariant.0 c.loop-place.invariant.1 c.loop-place.invariant.2 c.loop-place.invariant.3
    (omega (arith, c.loop-place.invariant.0)) (omega arith)
    (stored_scalar c.from-in-loop-place-2.result (slice_index c.args.y.now place) c.row_sum-sum.result c.args.a c.from.result 0 c.args.modulus c.from-in-loop-place.result c.from-in-loop-place-3.result _
    (c.from-in-loop-place-2.ensures ∙ c.loop-place.invariant.3 place (omega arith)) c.from.ensures c.from-in-loop-place.ensures c.from-in-loop-place-3.ensures refl
    ∙ ap (λ s. (slice_index c.args.y.now place + c.args.a * s) % c.args.modulus) e_sum)
