-- What the machine's tests say.
use Rattle.std.proofs.Common.{◌≡◌, ◌+◌, ◌-◌, ◌<◌, ◌==◌, ◌&&◌, ◌||◌, ℕ, Bool, true, false, not, nat_lt, nat_le, sym, ap, ◌∙◌}
use Rattle.std.proofs.lemmas.Bool.{and_parts, eqb-true, leb-true, not-true, true≢false, eq-eqb}
use Rattle.run_data.specs.declared.matrix.Part.{Part}
use Rattle.run_data.specs.Matrix.{Matrix, cols, entry}
use Rattle.run_data.specs.Parts.{IsWithin, SameShape, part_entry}
use Rattle.local_blas.specs.Kernels.{ShapesMultiply, ShapesSolve}
use Rattle.blacs_grid.specs.Places.{is_member}
use Rattle.rank_machine.specs.declared.slot.Slot.{Slot}
use Rattle.rank_machine.specs.State.{kind_number}
use Rattle.rank_machine.specs.declared.layout.Layout.{Layout}
use Rattle.rank_machine.specs.Setting.{Setting, layout, is_matrix, all_below}
use Rattle.rank_machine.specs.Legal.{is_inside, same_area, is_square, in_matrix, height, breadth}
use Rattle.rank_machine.proofs.Agree.{all_below-at}
use Rattle.rank_slots.specs.Shapes.{has_nonzero_diagonal}

pub within : (at : Part) (a : Matrix) → is_inside at a ≡ true → IsWithin at a
within at a h =
    let p = and_parts (nat_le at.r0 at.r1 && nat_le at.r1 a.rows) (nat_le at.c0 at.c1 && nat_le at.c1 (cols a)) h in
    let r = and_parts (nat_le at.r0 at.r1) (nat_le at.r1 a.rows) p.0 in
    let c = and_parts (nat_le at.c0 at.c1) (nat_le at.c1 (cols a)) p.1 in
    record {
      rows_ordered = leb-true at.r0 at.r1 r.0;
      rows_end = leb-true at.r1 a.rows r.1;
      columns_ordered = leb-true at.c0 at.c1 c.0;
      columns_end = leb-true at.c1 (cols a) c.1;
    }

pub same_shape : (a b : Part) → same_area a b ≡ true → SameShape a b
same_shape a b h =
    let p = and_parts (height a == height b) (breadth a == breadth b) h in
    record { rows = eqb-true (height a) (height b) p.0; columns = eqb-true (breadth a) (breadth b) p.1 }

pub multiplies : (at lp rp : Part) → ((height at == height lp) && ((breadth lp == height rp) && (breadth at == breadth rp))) ≡ true → ShapesMultiply at lp rp
multiplies at lp rp h =
    let p = and_parts (height at == height lp) ((breadth lp == height rp) && (breadth at == breadth rp)) h in
    let q = and_parts (breadth lp == height rp) (breadth at == breadth rp) p.1 in
    record {
      rows = eqb-true (height at) (height lp) p.0;
      columns = eqb-true (breadth at) (breadth rp) q.1;
      inner = eqb-true (breadth lp) (height rp) q.0;
    }

pub solves : (at to : Part) → is_square at to ≡ true → ShapesSolve to at
solves at to h =
    let p = and_parts (height at == breadth at) (height at == height to) h in
    record { square = eqb-true (height at) (breadth at) p.0; rows = sym (eqb-true (height at) (height to) p.1) }

not_zero : (n : ℕ) → not (n == 0) ≡ true → n ≡ 0 → ⊥
not_zero n h e = true≢false (sym (eq-eqb n 0 e) ∙ not-true (n == 0) h)

or_false : (a b : Bool) → (a || b) ≡ true → a ≡ false → b ≡ true
or_false true b h e = absurd (true≢false e)
or_false false b h e = h

pub diagonal_not_zero : (m : Matrix) (at : Part) (unit : Bool) → has_nonzero_diagonal m at unit ≡ true → unit ≡ false → (i : ℕ) → i < at.r1 - at.r0 → part_entry m at i i ≡ 0 → ⊥
diagonal_not_zero m at unit h e i lt z =
    not_zero (part_entry m at i i) (all_below-at (at.r1 - at.r0) (λ k. not (entry m (at.r0 + k) (at.c0 + k) == 0)) i (or_false unit (all_below (at.r1 - at.r0) (λ k. not (entry m (at.r0 + k) (at.c0 + k) == 0))) h e) lt) z

pub in_matrix-line : (s : Setting) (rank : ℕ) (slot : Slot) → in_matrix s rank slot ≡ true → is_matrix s slot.id ≡ true
in_matrix-line s rank slot h =
    (and_parts (nat_lt (kind_number slot.kind) 4) (is_matrix s slot.id) (and_parts (nat_lt (kind_number slot.kind) 4 && is_matrix s slot.id) (is_member (layout s slot.id).grid rank) h).0).1

pub in_matrix-member : (s : Setting) (rank : ℕ) (slot : Slot) (d : Layout) → layout s slot.id ≡ d → in_matrix s rank slot ≡ true → is_member d.grid rank ≡ true
in_matrix-member s rank slot d e h =
    ap (λ (x : Layout). is_member x.grid rank) (sym e) ∙ (and_parts (nat_lt (kind_number slot.kind) 4 && is_matrix s slot.id) (is_member (layout s slot.id).grid rank) h).1

pub ruleset tests = (within, same_shape, multiplies, solves)
