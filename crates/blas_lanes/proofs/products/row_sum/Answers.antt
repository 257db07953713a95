use Rattle.std.proofs.Common.{ℕ, ◌^◌, ◌<◌, ◌≤◌, ◌+◌, ◌*◌, arith, refl, sym, slice_index, length}
use Rattle.field_core.proofs.Sums.{sum_to-none}
use Rattle.blas_lanes.proofs.Gains.{one_more, sums_small, product_bound}
use Rattle.blas_lanes.proofs.products.row_sum.Goals as goal

pub loop-k-init : goal.loop-k-init
loop-k-init c = sym (sum_to-none (λ k. slice_index c.args.words.now (c.args.at + k * c.args.stride) * slice_index c.args.factors.now k))

pub overflow_add-sum : goal.overflow_add-sum
overflow_add-sum c =
    let w = λ (k : ℕ). slice_index c.args.words.now (c.args.at + k * c.args.stride) in
    let u = λ (k : ℕ). slice_index c.args.factors.now k in
    let k = c.loop-k.k in
    let small : c.loop-k.sum + 2 ^ 32 < 2 ^ 64 = sums_small c.loop-k.sum k (length c.args.factors.now) w u c.loop-k.invariant c.loop-k-test.true c.requires.few (λ j. c.requires.words _) (λ j. c.requires.factors _) in
    let product : c.from.result * c.from-in-loop-k.result ≤ 4294967296 = rw (c.from.ensures, c.from-in-loop-k.ensures) (product_bound (w k) (u k) (c.requires.words _) (c.requires.factors _)) in
    record { fits = omega (arith, small, product) }

pub loop-k-preserved : goal.loop-k-preserved
loop-k-preserved c =
    one_more c.loop-k.sum c.loop-k.k c.from.result c.from-in-loop-k.result (c.loop-k.sum + c.from.result * c.from-in-loop-k.result)
    (λ k. slice_index c.args.words.now (c.args.at + k * c.args.stride)) (λ k. slice_index c.args.factors.now k) c.loop-k.invariant c.from.ensures c.from-in-loop-k.ensures refl
