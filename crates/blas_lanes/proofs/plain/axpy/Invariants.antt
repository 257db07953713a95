use Rattle.std.proofs.Common.{◌≡◌, ℕ, ◌+◌, ◌*◌, ◌%◌, ◌<◌, ◌≤◌, length, slice_index}
use Rattle.blas_lanes.proofs.plain.axpy.Given as goal

abbrev pub invariant-loop-block : goal.invariant-loop-block
invariant-loop-block l =
    (length l.y ≡ length l.fn.y)
    × ((i : ℕ) → i < l.block * 16 → slice_index l.y i ≡ (slice_index l.fn.y i + slice_index l.x i * l.a) % l.modulus)
    × ((i : ℕ) → l.block * 16 ≤ i → slice_index l.y i ≡ slice_index l.fn.y i)
