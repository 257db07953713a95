use Rattle.std.proofs.Common.{◌≡◌, ℕ, ◌*◌, ◌%◌, ◌<◌, ◌≤◌, length, slice_index}
use Rattle.blas_lanes.proofs.plain.scale_rest.Given as goal

abbrev pub invariant-loop-place : goal.invariant-loop-place
invariant-loop-place l =
    (length l.x ≡ length l.fn.x)
    × ((i : ℕ) → i < l.from → slice_index l.x i ≡ slice_index l.fn.x i)
    × ((i : ℕ) → l.from ≤ i → i < l.place → slice_index l.x i ≡ (slice_index l.fn.x i * l.a) % l.modulus)
    × ((i : ℕ) → l.place ≤ i → slice_index l.x i ≡ slice_index l.fn.x i)
