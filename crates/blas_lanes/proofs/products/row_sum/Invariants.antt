use Rattle.std.proofs.Common.{◌≡◌, ◌+◌, ◌*◌, slice_index}
use Rattle.field_core.specs.Sums.{sum_to}
use Rattle.blas_lanes.proofs.products.row_sum.Given as goal

abbrev pub invariant-loop-k : goal.invariant-loop-k
invariant-loop-k l = l.sum ≡ sum_to l.k (λ k. slice_index l.words (l.at + k * l.stride) * slice_index l.factors k)
