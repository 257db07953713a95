use Rattle.std.proofs.Common.{◌≡◌, ℕ, ◌+◌, ◌*◌, ◌%◌, ◌<◌, ◌≤◌, length, slice_index}
use Rattle.blas_lanes.proofs.plain.axpy_rest.Given as goal

abbrev pub invariant-loop-place : goal.invariant-loop-place
invariant-loop-place l =
    (length l.y ≡ length l.fn.y)
    × ((i : ℕ) → i < l.from → slice_index l.y i ≡ slice_index l.fn.y i)
    × ((i : ℕ) → l.from ≤ i → i < l.place → slice_index l.y i ≡ (slice_index l.fn.y i + slice_index l.x i * l.a) % l.modulus)
    × ((i : ℕ) → l.place ≤ i → slice_index l.y i ≡ slice_index l.fn.y i)
