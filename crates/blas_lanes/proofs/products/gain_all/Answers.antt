use Rattle.std.proofs.Common.{◌≡◌, ◌+◌, ◌*◌, ap, ◌∙◌, arith, slice_index, length}
use Rattle.std.proofs.lemmas.Simd.{length-chunk, get_or-chunk}
use Rattle.field_core.specs.Sums.{sum_to}
use Rattle.field_core.proofs.Sums.{sum_to-none}
use Rattle.blas_lanes.proofs.Gains.{sums_small, one_more}
use Rattle.blas_lanes.proofs.products.gain_all.Goals as goal

pub loop-k-init : goal.loop-k-init
loop-k-init c = (c.requires.start.0, λ i lt. omega (arith, c.requires.start.1 i lt, sum_to-none (λ k. slice_index c.args.words.now (c.args.from + k * c.args.stride + i) * slice_index c.args.factors.now k)))

pub gain-sums-requires-clause-sums : goal.gain-sums-requires-clause-sums
gain-sums-requires-clause-sums c = (
  c.loop-k.invariant.0,
  λ i lt. sums_small _ c.loop-k.k (length c.args.factors.now) (λ k. slice_index c.args.words.now (c.args.from + k * c.args.stride + i)) (λ k. slice_index c.args.factors.now k) (c.loop-k.invariant.1 i lt) c.loop-k-test.true c.requires.few (λ k. c.requires.words _) (λ k. c.requires.factors _),
)

pub gain-sums-requires-clause-words : goal.gain-sums-requires-clause-words
gain-sums-requires-clause-words c =
    let at = c.args.from + c.loop-k.k * c.args.stride in
    let room = c.requires.inside c.loop-k.k c.loop-k-test.true in (
      length-chunk at 16 c.args.words.now room,
      λ i lt. rw (get_or-chunk at 16 c.args.words.now i 0 lt) (c.requires.words (at + i)),
    )

pub loop-k-preserved : goal.loop-k-preserved
loop-k-preserved c =
    let at = c.args.from + c.loop-k.k * c.args.stride in (
      c.gain-sums.ensures.0,
      λ i lt. one_more _ c.loop-k.k _ _ _ (λ k. slice_index c.args.words.now (c.args.from + k * c.args.stride + i)) (λ k. slice_index c.args.factors.now k) (c.loop-k.invariant.1 i lt)
          (get_or-chunk at 16 c.args.words.now i 0 lt) c.from.ensures (c.gain-sums.ensures.1 i lt),
    )

pub returns : goal.returns
returns c =
    let all : c.loop-k.k ≡ length c.args.factors.now = omega arith in (
      c.loop-k.invariant.0,
      λ i lt. c.loop-k.invariant.1 i lt
          ∙ ap (λ n. sum_to n (λ k. slice_index c.args.words.now (c.args.from + k * c.args.stride + i) * slice_index c.args.factors.now k)) all,
    )
