use Rattle.std.proofs.Common.{◌%◌, ◌∙◌, arith}
use Rattle.std.proofs.lemmas.Simd.{get_or-put_chunk_at, get_or-put_chunk_below, get_or-put_chunk_above, Each2-splat, Each1-all}
use Rattle.std.specs.Simd.Lanes.{zip2}
use Rattle.std.specs.Prelude.{replicate}
use Rattle.blas_lanes.proofs.Gains.{widened, remainders_fit, remainder_at, remainders_long}
use Rattle.blas_lanes.proofs.lanes.store_reduced.Goals as goal

pub nonzero_rem-rest : goal.nonzero_rem-rest
nonzero_rem-rest c = Each2-splat _ c.args.sums 16 c.from.result (Each1-all _ (λ a. omega (arith, c.requires.modulus.0, c.from.ensures)) c.args.sums)

pub overflow_cast-y : goal.overflow_cast-y
overflow_cast-y c = rw c.from.ensures (remainders_fit c.args.sums c.args.modulus c.requires.sums c.requires.modulus.0 c.requires.modulus.1)

pub returns-clause-here : goal.returns-clause-here
returns-clause-here c i lt =
    let rest = zip2 (λ a b. a % b) c.args.sums (replicate 16 c.args.modulus) in
    let long = remainders_long c.args.sums c.args.modulus c.requires.sums in
    rw (c.from.ensures, widened rest) (get_or-put_chunk_at c.args.at c.args.y.now rest i 0 (omega (arith, long)) (omega (arith, long)) ∙ remainder_at c.args.sums c.args.modulus i c.requires.sums lt)

pub returns-clause-before : goal.returns-clause-before
returns-clause-before c k lt =
    let rest = zip2 (λ a b. a % b) c.args.sums (replicate 16 c.args.modulus) in
    rw (c.from.ensures, widened rest) (get_or-put_chunk_below c.args.at c.args.y.now rest k 0 lt)

pub returns-clause-after : goal.returns-clause-after
returns-clause-after c k le =
    let rest = zip2 (λ a b. a % b) c.args.sums (replicate 16 c.args.modulus) in
    let long = remainders_long c.args.sums c.args.modulus c.requires.sums in
    rw (c.from.ensures, widened rest) (get_or-put_chunk_above c.args.at c.args.y.now rest k 0 (omega (arith, long)))
