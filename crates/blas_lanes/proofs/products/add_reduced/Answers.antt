use Rattle.std.proofs.Common.{◌%◌, ◌+◌, arith, slice_index}
use Rattle.std.proofs.Math.Nat.{mod-lt}
use Rattle.std.proofs.lemmas.Simd.{Each2-splat, Each1-all, length-chunk, get_or-chunk}
use Rattle.std.specs.Simd.Lanes.{zip2, chunk}
use Rattle.std.specs.Prelude.{replicate}
use Rattle.blas_lanes.proofs.Gains.{widened, remainders_fit, remainder_at, remainders_long, stored_word}
use Rattle.blas_lanes.proofs.products.add_reduced.Goals as goal

pub nonzero_rem-rest : goal.nonzero_rem-rest
nonzero_rem-rest c = Each2-splat _ c.args.sums 16 c.from.result (Each1-all _ (λ a. omega (arith, c.requires.modulus.0, c.from.ensures)) c.args.sums)

pub overflow_cast-rest : goal.overflow_cast-rest
overflow_cast-rest c = rw c.from.ensures (remainders_fit c.args.sums c.args.modulus c.requires.sums c.requires.modulus.0 c.requires.modulus.1)

pub gain-gained-requires-clause-sums : goal.gain-gained-requires-clause-sums
gain-gained-requires-clause-sums c =
    rw (widened (chunk c.args.at 16 c.args.y.now)) (
      length-chunk c.args.at 16 c.args.y.now c.requires.inside,
      λ i lt. omega (arith, get_or-chunk c.args.at 16 c.args.y.now i 0 lt, c.requires.words (c.args.at + i)),
    )

pub gain-gained-requires-clause-words : goal.gain-gained-requires-clause-words
gain-gained-requires-clause-words c =
    let rest = zip2 (λ a b. a % b) c.args.sums (replicate 16 c.args.modulus) in
    rw (c.from.ensures, widened rest) (
      remainders_long c.args.sums c.args.modulus c.requires.sums,
      λ i lt. omega (arith, remainder_at c.args.sums c.args.modulus i c.requires.sums lt, mod-lt (slice_index c.args.sums i) c.requires.modulus.0, c.requires.modulus.1),
    )

pub returns-clause-here : goal.returns-clause-here
returns-clause-here c i lt =
    let rest = zip2 (λ a b. a % b) c.args.sums (replicate 16 c.args.modulus) in
    stored_word _ _ _ (slice_index c.args.y.now (c.args.at + i)) _ (slice_index c.args.sums i) _ c.args.a c.args.modulus (c.store_reduced.ensures.here i lt) (c.gain-gained.ensures.1 i lt)
    (rw (widened (chunk c.args.at 16 c.args.y.now)) (get_or-chunk c.args.at 16 c.args.y.now i 0 lt))
    (rw (c.from.ensures, widened rest) (remainder_at c.args.sums c.args.modulus i c.requires.sums lt))
    c.from-2.ensures
