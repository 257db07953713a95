use Rattle.std.proofs.Common.{◌≡◌, ℕ, ◌+◌, ◌*◌, ◌%◌, ◌<◌, ◌≤◌, length, slice_index}
use Rattle.field_core.specs.Sums.{sum_to}
use Rattle.blas_lanes.proofs.products.add_products.Given as goal

abbrev pub invariant-loop-block : goal.invariant-loop-block
invariant-loop-block l =
    (length l.y ≡ length l.fn.y)
    × ((i : ℕ) → i < l.block * 16 → slice_index l.y i ≡ (slice_index l.fn.y i + l.a * sum_to (length l.factors) (λ k. slice_index l.words (l.from + k * l.stride + i) * slice_index l.factors k)) % l.modulus)
    × ((i : ℕ) → l.block * 16 ≤ i → slice_index l.y i ≡ slice_index l.fn.y i)
