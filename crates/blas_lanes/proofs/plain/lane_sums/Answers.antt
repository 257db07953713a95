use Rattle.std.proofs.Common.{◌≡◌, ℕ, ◌<◌, ◌^◌, ◌+◌, ◌*◌, ap, sym, refl, ◌∙◌, arith, slice_index, length, w64}
use Rattle.std.specs.Simd.Lanes.{zip2, sum_l}
use Rattle.std.proofs.lemmas.Simd.{adds_fit, length-zip2, sum-zip2}
use Rattle.field_core.specs.Sums.{sum_to}
use Rattle.field_core.proofs.Sums.{sum_to-none, sum_to-split}
use Rattle.blas_lanes.proofs.Gains.{lanes_products, lane_products_fit, products_sum_small}
use Rattle.blas_lanes.proofs.plain.lane_sums.Goals as goal

pub loop-block-init : goal.loop-block-init
loop-block-init c = (refl, sym (sum_to-none (λ k. slice_index c.args.x.now k * slice_index c.args.y.now k)))

pub overflow_mul-sums : goal.overflow_mul-sums
overflow_mul-sums c =
    lane_products_fit c.load.result c.load-in-loop-block.result (c.loop-block.block * 16) (λ k. slice_index c.args.x.now k) (λ k. slice_index c.args.y.now k) c.load.ensures.0 c.load-in-loop-block.ensures.0
    c.load.ensures.1 c.load-in-loop-block.ensures.1 c.requires.x_words c.requires.y_words

pub overflow_add-sums : goal.overflow_add-sums
overflow_add-sums c =
    let at = c.loop-block.block * 16 in
    let f = λ (k : ℕ). slice_index c.args.x.now k in
    let g = λ (k : ℕ). slice_index c.args.y.now k in
    let products = zip2 (λ a b. a * b) c.load.result c.load-in-loop-block.result in
    let more : sum_to (at + 16) (λ k. f k * g k) ≡ sum_to at (λ k. f k * g k) + sum_to 16 (λ i. f (at + i) * g (at + i)) = sum_to-split at 16 (λ k. f k * g k) in
    let here : sum_l products ≡ sum_to 16 (λ i. f (at + i) * g (at + i)) =
    lanes_products c.load.result c.load-in-loop-block.result at f g c.load.ensures.0 c.load-in-loop-block.ensures.0 c.load.ensures.1 c.load-in-loop-block.ensures.1
    in
    let small : sum_to (at + 16) (λ k. f k * g k) < 2 ^ 63 = products_sum_small (at + 16) f g (omega (arith, c.requires.few)) c.requires.x_words c.requires.y_words in
    adds_fit w64 c.loop-block.sums products (omega (arith, more, here, small, c.loop-block.invariant.1))

pub loop-block-preserved : goal.loop-block-preserved
loop-block-preserved c =
    let at = c.loop-block.block * 16 in
    let f = λ (k : ℕ). slice_index c.args.x.now k in
    let g = λ (k : ℕ). slice_index c.args.y.now k in
    let products = zip2 (λ a b. a * b) c.load.result c.load-in-loop-block.result in
    let long : length products ≡ 16 = length-zip2 (λ a b. a * b) c.load.result c.load-in-loop-block.result (c.load.ensures.0 ∙ sym c.load-in-loop-block.ensures.0) ∙ c.load.ensures.0 in
    let same = c.loop-block.invariant.0 ∙ sym long in
    let e_at : at + 16 ≡ (c.loop-block.block + 1) * 16 = omega arith in (
      length-zip2 (λ a b. a + b) c.loop-block.sums products same ∙ c.loop-block.invariant.0,
      sum-zip2 c.loop-block.sums products same ∙ ap (λ s. s + sum_l products) c.loop-block.invariant.1
          ∙ ap (λ s. sum_to at (λ k. f k * g k) + s) (lanes_products c.load.result c.load-in-loop-block.result at f g c.load.ensures.0 c.load-in-loop-block.ensures.0 c.load.ensures.1 c.load-in-loop-block.ensures.1)
          ∙ sym (sum_to-split at 16 (λ k. f k * g k)) ∙ ap (λ n. sum_to n (λ k. f k * g k)) e_at,
    )
