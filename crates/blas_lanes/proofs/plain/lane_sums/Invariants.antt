use Rattle.std.proofs.Common.{◌≡◌, ◌*◌, length, slice_index}
use Rattle.std.specs.Simd.Lanes.{sum_l}
use Rattle.field_core.specs.Sums.{sum_to}
use Rattle.blas_lanes.proofs.plain.lane_sums.Given as goal

abbrev pub invariant-loop-block : goal.invariant-loop-block
invariant-loop-block l = (length l.sums ≡ 16) × (sum_l l.sums ≡ sum_to (l.block * 16) (λ k. slice_index l.x k * slice_index l.y k))
