use Rattle.std.proofs.Common.{◌≡◌, ◌≤◌, ◌<◌, ◌^◌, ℕ, ◌+◌, ◌*◌, ◌/◌, refl, ◌∙◌, arith, slice_index, length, w64}
use Rattle.std.specs.Simd.Lanes.{sum_l}
use Rattle.std.proofs.lemmas.Simd.{sum_fits, fold-sum}
use Rattle.blas_lanes.proofs.Gains.{one_more, product_bound, products_sum_small}
use Rattle.blas_lanes.proofs.plain.dot.Goals as goal

pub overflow_add-sum : goal.overflow_add-sum
overflow_add-sum c =
    let small = products_sum_small (length c.args.x.now / 16 * 16) (λ k. slice_index c.args.x.now k) (λ k. slice_index c.args.y.now k) (omega (arith, c.requires.few)) c.requires.x_words c.requires.y_words in
    sum_fits w64 0 c.lane_sums-sum.result (omega (arith, c.lane_sums-sum.ensures.1, small))

pub loop-place-init : goal.loop-place-init
loop-place-init c = fold-sum 0 c.lane_sums-sum.result ∙ (let e : 0 + sum_l c.lane_sums-sum.result ≡ sum_l c.lane_sums-sum.result = omega arith in e) ∙ c.lane_sums-sum.ensures.1

pub overflow_add-sum-in-loop-place : goal.overflow_add-sum-in-loop-place
overflow_add-sum-in-loop-place c =
    let x = λ (k : ℕ). slice_index c.args.x.now k in
    let y = λ (k : ℕ). slice_index c.args.y.now k in
    let k = c.loop-place.place in
    let small : c.loop-place.sum < 2 ^ 63 = rw c.loop-place.invariant (products_sum_small k x y (omega (arith, c.requires.few)) c.requires.x_words c.requires.y_words) in
    let product : c.from.result * c.from-in-loop-place.result ≤ 4294967296 = rw (c.from.ensures, c.from-in-loop-place.ensures) (product_bound (x k) (y k) (c.requires.x_words _) (c.requires.y_words _)) in
    record { fits = omega (arith, small, product) }

pub loop-place-preserved : goal.loop-place-preserved
loop-place-preserved c =
    one_more c.loop-place.sum c.loop-place.place c.from.result c.from-in-loop-place.result (c.loop-place.sum + c.from.result * c.from-in-loop-place.result)
    (λ k. slice_index c.args.x.now k) (λ k. slice_index c.args.y.now k) c.loop-place.invariant c.from.ensures c.from-in-loop-place.ensures refl
