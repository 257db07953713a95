-- The memory of a rank keeps what it falls back to, and gives what was written.
use Rattle.std.proofs.Common.{◌≡◌, ◌+◌, ◌-◌, ◌<◌, ◌==◌, ◌&&◌, ◌||◌, ℕ, Bool, true, false, not, cond, nat_le, Option, Some, None, is_some, [], ◌∷◌, refl, sym, ap, ◌∙◌, arith}
use Rattle.std.specs.Prelude.{if◌then◌else◌}
use Rattle.std.proofs.lemmas.Bool.{and_parts, and_from, or_left, le-leb, eqb-true}
use Rattle.rank_run.specs.Memory.{KeepsBase, ReadsBack}
use Rattle.run_data.specs.declared.matrix.Part.{Part}
use Rattle.run_data.specs.Matrix.{Matrix, cols, entry, IsShaped}
use Rattle.run_data.specs.Parts.{IsWithin, part_entry, part_of, with_copy, whole_part}
use Rattle.run_data.proofs.Matrices.{tabulate_is, rows-tabulate, cols-tabulate}
use Rattle.run_data.proofs.PartLaws.{entry-with_part_inside}
use Rattle.rank_machine.specs.declared.slot.Slot.{Slot}
use Rattle.rank_machine.specs.declared.slot.Tile.{Tile}
use Rattle.rank_machine.specs.declared.slot.Tile.TheVariants.{Words, Index}
use Rattle.rank_machine.specs.declared.slot.Piece.{Piece}
use Rattle.rank_machine.specs.declared.slot.Piece.TheVariants as piece
use Rattle.rank_machine.specs.State.{or_else}
use Rattle.rank_machine.specs.Effect.{words_of, slot_of, target, cut_out, with_piece, made_by}
use Rattle.rank_machine.specs.Legal.{may_write, may_change, makes, is_inside, holds, holds_words, height, breadth, fits}
use Rattle.rank_machine.proofs.Base.{base-with_tile}
use Rattle.rank_slots.specs.Cells.{tiles_in, saved_in, fresh_in}
use Rattle.script_lines.specs.Lines.{setting_on}
use Rattle.rank_slots.specs.Shapes.{from_corner}
use Rattle.rank_slots.specs.Rank.{Rank, with_tile, state_in, MayWrite, memory, base_in}
use Rattle.rank_slots.proofs.PieceLaws.{whole_is_part}
use Rattle.rank_slots.proofs.TestLaws.{within}
use Rattle.rank_slots.proofs.CellLaws.{same_slot-refl, tiles_in-put, saved_in-put, fresh_in-put}

-- ---- what a rank falls back to
fallback : (sv sv' there there' : Option Tile) (fr fr' : Bool) → sv ≡ sv' → fr ≡ fr' → there ≡ there' → or_else sv (if fr then None else there) ≡ or_else sv' (if fr' then None else there')
fallback sv sv' there there' fr fr' s f t = λ n. or_else (s n) (if f n then None else t n)

pub base_in-put : (m : Rank) (s : Slot) (t : Tile) (x : Piece) → may_write (state_in m) 0 s ≡ true → base_in (with_tile m s t) x ≡ base_in m x
base_in-put m s t x w =
    let q = slot_of x in
    fallback _ _ _ _ _ _ (saved_in-put m.cells s t q) (fresh_in-put m.cells s t q) (tiles_in-put m.cells s t q)
    ∙ base-with_tile (state_in m) 0 s t 0 q w

changed_written : (there : Option Tile) (a b : Bool) → (is_some there && (a || b)) ≡ true → ((a || b) || not (is_some there)) ≡ true
changed_written there a b h = or_left (a || b) (not (is_some there)) (and_parts (is_some there) (a || b) h).1

may_write-changed : (m : Rank) (s : Slot) → may_change (state_in m) 0 s ≡ true → may_write (state_in m) 0 s ≡ true
may_write-changed m s h = changed_written (tiles_in m.cells s) (fresh_in m.cells s) (is_some (saved_in m.cells s)) h

written_by : (b x y : Bool) → (y ≡ true → x ≡ true) → (if b then x else y) ≡ true → x ≡ true
written_by true x y f h = h
written_by false x y f h = f h

fits_written : (m : Rank) (x : Piece) (t : Tile) → fits (state_in m) 0 x (t ∷ []) ≡ true → may_write (state_in m) 0 (slot_of x) ≡ true
fits_written m (piece.Whole slot) t h = h
fits_written m (piece.Part slot at) (Index ns) h = absurd (cc)
fits_written m (piece.Part slot at) (Words w) h =
    may_write-changed m slot
    (and_parts (may_change (state_in m) 0 slot) (holds_words (tiles_in m.cells) (piece.Part slot at))
    (and_parts (may_change (state_in m) 0 slot && holds_words (tiles_in m.cells) (piece.Part slot at)) ((height at == w.rows) && (breadth at == cols w)) h).0).0

pub keeps_base : (p : ℕ) → KeepsBase (memory p) base_in
keeps_base p = record {
  applied = λ m k h. λ n x. base_in-put m (slot_of (target k)) (made_by (setting_on p m.table) m.number (tiles_in m.cells) k) x (written_by (makes k) (may_write (state_in m) 0 (slot_of (target k))) (may_change (state_in m) 0 (slot_of (target k))) (may_write-changed m (slot_of (target k))) h.writable) n;
  written = λ m y t h. λ n x. base_in-put m (slot_of y) (with_piece (tiles_in m.cells (slot_of y)) y t) x (fits_written m y t h.fitting) n;
}

-- ---- what was written
put_there : (m : Rank) (s : Slot) (t : Tile) → tiles_in (with_tile m s t).cells s ≡ Some t
put_there m s t = tiles_in-put m.cells s t s ∙ ap (λ b. cond b (Some t) (tiles_in m.cells s)) (same_slot-refl s)

inside_itself : (m : Matrix) → is_inside (whole_part m) m ≡ true
inside_itself m =
    and_from (nat_le 0 m.rows && nat_le m.rows m.rows) (nat_le 0 (cols m) && nat_le (cols m) (cols m))
    (and_from (nat_le 0 m.rows) (nat_le m.rows m.rows) (le-leb 0 m.rows (omega arith)) (le-leb m.rows m.rows (omega arith)))
    (and_from (nat_le 0 (cols m)) (nat_le (cols m) (cols m)) (le-leb 0 (cols m) (omega arith)) (le-leb (cols m) (cols m) (omega arith)))

same_inside : (at : Part) (a b : Matrix) → a.rows ≡ b.rows → cols a ≡ cols b → is_inside at a ≡ true → is_inside at b ≡ true
same_inside at a b r c h = sym (λ n. (nat_le at.r0 at.r1 && nat_le at.r1 (r n)) && (nat_le at.c0 at.c1 && nat_le at.c1 (c n))) ∙ h

-- the part of a copy is what was copied
copied_back : (a w : Matrix) (at : Part) → IsShaped w → IsWithin at a → at.r1 - at.r0 ≡ w.rows → at.c1 - at.c0 ≡ cols w → part_of (with_copy a at w (from_corner at)) at ≡ w
copied_back a w at shaped within rows columns =
    sym (tabulate_is w (at.r1 - at.r0) (at.c1 - at.c0) (part_entry (with_copy a at w (from_corner at)) at) shaped (sym rows) (sym columns)
    (λ i j x y.
    let in_row : at.r0 + i < at.r1 = omega arith in
    let in_col : at.c0 + j < at.c1 = omega arith in
    let u : i ≡ 0 + (at.r0 + i - at.r0) = omega arith in
    let v : j ≡ 0 + (at.c0 + j - at.c0) = omega arith in
    (λ n. entry w (u n) (v n))
    ∙ sym (entry-with_part_inside a at (λ r c. part_entry w (from_corner at) (r - at.r0) (c - at.c0)) (at.r0 + i) (at.c0 + j) within (omega arith) in_row (omega arith) in_col)))

-- ---- what is read of a tile after it was written
part_held : (m : Rank) (slot : Slot) (at : Part) (w : Matrix) → fits (state_in m) 0 (piece.Part slot at) (Words w ∷ []) ≡ true → holds_words (tiles_in m.cells) (piece.Part slot at) ≡ true
part_held m slot at w h =
    (and_parts (may_change (state_in m) 0 slot) (holds_words (tiles_in m.cells) (piece.Part slot at))
    (and_parts (may_change (state_in m) 0 slot && holds_words (tiles_in m.cells) (piece.Part slot at)) ((height at == w.rows) && (breadth at == cols w)) h).0).1

part_inside : (m : Rank) (slot : Slot) (at : Part) (w : Matrix) → fits (state_in m) 0 (piece.Part slot at) (Words w ∷ []) ≡ true → is_inside at (words_of (tiles_in m.cells slot)) ≡ true
part_inside m slot at w h = (and_parts _ (is_inside at (words_of (tiles_in m.cells slot))) (part_held m slot at w h)).1

part_shape : (m : Rank) (slot : Slot) (at : Part) (w : Matrix) → fits (state_in m) 0 (piece.Part slot at) (Words w ∷ []) ≡ true → (height at ≡ w.rows) × (breadth at ≡ cols w)
part_shape m slot at w h =
    let p = and_parts (height at == w.rows) (breadth at == cols w) (and_parts (may_change (state_in m) 0 slot && holds_words (tiles_in m.cells) (piece.Part slot at)) ((height at == w.rows) && (breadth at == cols w)) h).1 in
    (eqb-true (height at) w.rows p.0, eqb-true (breadth at) (cols w) p.1)

held_back : (p : ℕ) (m : Rank) (x : Piece) (w : Tile) → MayWrite p m x w → holds (λ _. Some (with_piece (tiles_in m.cells (slot_of x)) x w)) x ≡ true
held_back p m (piece.Whole slot) (Words w) h = or_left (is_inside (whole_part w) w) _ (inside_itself w)
held_back p m (piece.Whole slot) (Index ns) h = refl
held_back p m (piece.Part slot at) (Index ns) h = let f = h.fitting in absurd (cc)
held_back p m (piece.Part slot at) (Words w) h =
    let old = words_of (tiles_in m.cells slot) in
    or_left (is_inside at (with_copy old at w (from_corner at))) _
    (same_inside at old (with_copy old at w (from_corner at)) (sym (rows-tabulate old.rows (cols old) _)) (sym (cols-tabulate old.rows (cols old) _)) (part_inside m slot at w h.fitting))

read_back : (p : ℕ) (m : Rank) (x : Piece) (w : Tile) → MayWrite p m x w → cut_out x (Some (with_piece (tiles_in m.cells (slot_of x)) x w)) ≡ w
read_back p m (piece.Whole slot) (Words w) h = ap Words (sym (whole_is_part w h.residues.shaped))
read_back p m (piece.Whole slot) (Index ns) h = refl
read_back p m (piece.Part slot at) (Index ns) h = let f = h.fitting in absurd (cc)
read_back p m (piece.Part slot at) (Words w) h =
    let s = part_shape m slot at w h.fitting in
    ap Words (copied_back (words_of (tiles_in m.cells slot)) w at h.residues.shaped (within at (words_of (tiles_in m.cells slot)) (part_inside m slot at w h.fitting)) s.0 s.1)

pub reads_back : (p : ℕ) → ReadsBack (memory p)
reads_back p = record {
  can = λ m x w h. record {
    live = h.live;
    held = ap (λ o. holds (λ _. o) x) (put_there m (slot_of x) (with_piece (tiles_in m.cells (slot_of x)) x w)) ∙ held_back p m x w h;
  };
  same = λ m x w h. ap (cut_out x) (put_there m (slot_of x) (with_piece (tiles_in m.cells (slot_of x)) x w)) ∙ read_back p m x w h;
}
