use Rattle.std.proofs.Common.{◌≡◌, ℕ, ◌*◌, ◌%◌, ◌<◌, ◌≤◌, length, slice_index}
use Rattle.blas_lanes.proofs.plain.scale.Given as goal

abbrev pub invariant-loop-block : goal.invariant-loop-block
invariant-loop-block l =
    (length l.x ≡ length l.fn.x)
    × ((i : ℕ) → i < l.block * 16 → slice_index l.x i ≡ (slice_index l.fn.x i * l.a) % l.modulus)
    × ((i : ℕ) → l.block * 16 ≤ i → slice_index l.x i ≡ slice_index l.fn.x i)
