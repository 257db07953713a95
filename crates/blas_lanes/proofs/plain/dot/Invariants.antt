use Rattle.std.proofs.Common.{◌≡◌, ◌*◌, slice_index}
use Rattle.field_core.specs.Sums.{sum_to}
use Rattle.blas_lanes.proofs.plain.dot.Given as goal

abbrev pub invariant-loop-place : goal.invariant-loop-place
invariant-loop-place l = l.sum ≡ sum_to l.place (λ k. slice_index l.x k * slice_index l.y k)
