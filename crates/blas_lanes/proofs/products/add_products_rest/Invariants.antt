use Rattle.std.proofs.Common.{◌≡◌, ℕ, ◌+◌, ◌*◌, ◌%◌, ◌<◌, ◌≤◌, length, slice_index}
use Rattle.field_core.specs.Sums.{sum_to}
use Rattle.blas_lanes.proofs.products.add_products_rest.Given as goal

abbrev pub invariant-loop-place : goal.invariant-loop-place
invariant-loop-place l =
    (length l.y ≡ length l.fn.y)
    × ((i : ℕ) → i < l.start → slice_index l.y i ≡ slice_index l.fn.y i)
    × ((i : ℕ) → l.start ≤ i → i < l.place → slice_index l.y i ≡ (slice_index l.fn.y i + l.a * sum_to (length l.factors) (λ k. slice_index l.words (l.from + k * l.stride + i) * slice_index l.factors k)) % l.modulus)
    × ((i : ℕ) → l.place ≤ i → slice_index l.y i ≡ slice_index l.fn.y i)
