use Rattle.std.proofs.Common.{◌≡◌, ℕ, ◌+◌, ◌*◌, ◌<◌, length, slice_index}
use Rattle.field_core.specs.Sums.{sum_to}
use Rattle.blas_lanes.proofs.products.gain_all.Given as goal

abbrev pub invariant-loop-k : goal.invariant-loop-k
invariant-loop-k l =
    (length l.sums ≡ 16) × ((i : ℕ) → i < 16 → slice_index l.sums i ≡ sum_to l.k (λ k. slice_index l.words (l.from + k * l.stride + i) * slice_index l.factors k))
