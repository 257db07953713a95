use Rattle.std.proofs.lemmas.Simd.{length-chunk, get_or-chunk}
use Rattle.std.specs.Simd.Lanes.{chunk}
use Rattle.blas_lanes.proofs.Gains.{widened}
use Rattle.blas_lanes.proofs.plain.load.Goals as goal

pub returns : goal.returns
returns c =
    rw (widened (chunk c.args.at 16 c.args.words.now)) (length-chunk c.args.at 16 c.args.words.now c.requires, λ i lt. get_or-chunk c.args.at 16 c.args.words.now i 0 lt)
