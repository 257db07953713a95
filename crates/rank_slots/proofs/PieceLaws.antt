-- Pieces of matrices.
use Rattle.std.proofs.Common.{◌≡◌, ◌+◌, ◌-◌, ◌<◌, sym, ap, ◌∙◌, arith}
use Rattle.run_data.specs.declared.matrix.Part.{Part}
use Rattle.run_data.specs.Matrix.{Matrix, cols, entry, IsShaped}
use Rattle.run_data.specs.Parts.{IsWithin, SameShape, whole_part, part_entry, part_of, with_copy}
use Rattle.run_data.proofs.Matrices.{tabulate_is, entry-tabulate}
use Rattle.run_data.proofs.PartLaws.{with_part-same}
use Rattle.rank_slots.specs.Shapes.{from_corner}

-- a matrix is its whole part
pub whole_is_part : (m : Matrix) → IsShaped m → m ≡ part_of m (whole_part m)
whole_is_part m shaped =
    let r : m.rows ≡ m.rows - 0 = omega arith in
    let c : cols m ≡ cols m - 0 = omega arith in
    tabulate_is m (m.rows - 0) (cols m - 0) (part_entry m (whole_part m)) shaped r c (λ i j _ _. let e : i ≡ 0 + i = omega arith in let f : j ≡ 0 + j = omega arith in ap (λ k. entry m k j) e ∙ ap (λ k. entry m (0 + i) k) f)

-- a copy of a part, by way of the part as a matrix of its own
pub copied_part : (dst src : Matrix) (at sp : Part) → IsWithin at dst → SameShape at sp → with_copy dst at src sp ≡ with_copy dst at (part_of src sp) (from_corner at)
copied_part dst src at sp within shape =
    with_part-same dst at (λ i j. part_entry src sp (i - at.r0) (j - at.c0)) (λ i j. part_entry (part_of src sp) (from_corner at) (i - at.r0) (j - at.c0))
    (λ r c a b d e.
    let x : 0 + (r - at.r0) < sp.r1 - sp.r0 = omega (arith, shape.rows) in
    let y : 0 + (c - at.c0) < sp.c1 - sp.c0 = omega (arith, shape.columns) in
    let u : r - at.r0 ≡ 0 + (r - at.r0) = omega arith in
    let v : c - at.c0 ≡ 0 + (c - at.c0) = omega arith in
    ap (λ k. part_entry src sp k (c - at.c0)) u ∙ ap (λ k. part_entry src sp (0 + (r - at.r0)) k) v
    ∙ sym (entry-tabulate (sp.r1 - sp.r0) (sp.c1 - sp.c0) (part_entry src sp) (0 + (r - at.r0)) (0 + (c - at.c0)) x y))
