-- The round of a product for one block column turns the ranks' holdings into ones whose strips hold the words that gained the product.
use Rattle.std.proofs.Common.{◌≡◌, ◌≢◌, ◌+◌, ◌-◌, ◌*◌, ◌%◌, ◌<◌, ◌==◌, ◌&&◌, ◌||◌, ℕ, Bool, true, false, not, nat_le, Some, [], ◌∷◌, refl, sym, ap, subst, ◌∙◌, inl, inr, arith}
use Rattle.std.specs.Prelude.{if◌then◌else◌}
use Rattle.std.proofs.lemmas.Bool.{and_from, or_left}
use Rattle.std.proofs.lemmas.Bool.Decides.{eqb_tells}
use Rattle.run_data.specs.Matrix.{Matrix, cols, entry}
use Rattle.run_data.specs.Parts.{whole_part, part_of, part_entry}
use Rattle.run_data.proofs.Matrices.{rows-tabulate, cols-tabulate, entry-tabulate}
use Rattle.run_data.proofs.PartLaws.{rows-with_part, cols-with_part}
use Rattle.local_blas.specs.Kernels.{product_word}
use Rattle.rank_run.specs.declared.round.Event.TheVariants.{Local}
use Rattle.blacs_comm.specs.Positions as positions
use Rattle.blacs_comm.specs.Positions.{sender_of}
use Rattle.blacs_comm.specs.Moves.{broadcast_moves}
use Rattle.blacs_grid.specs.declared.Grid.{Grid}
use Rattle.blacs_grid.specs.declared.Scope.TheVariants.{Column}
use Rattle.blacs_grid.specs.Places.{width, rank_at, is_member, is_in_scope, member}
use Rattle.blacs_grid.proofs.PlaceLaws.{width-pos}
use Rattle.rank_machine.specs.declared.slot.Slot.{Slot}
use Rattle.rank_machine.specs.declared.slot.Tile.{Tile}
use Rattle.rank_machine.specs.declared.slot.Tile.TheVariants.{Words}
use Rattle.rank_machine.specs.declared.slot.Piece.{Piece}
use Rattle.rank_machine.specs.declared.slot.Piece.TheVariants as piece
use Rattle.rank_machine.specs.Setting.{Setting}
use Rattle.rank_machine.specs.State.{State, same_slot}
use Rattle.rank_machine.specs.Effect.{Memory, words_of, slot_of, is_words, matrix_in, area, area_in, cut_out, made_by, replay}
use Rattle.rank_machine.specs.Legal.{IsLegalFrom, is_inside, holds_words, height, breadth}
use Rattle.rank_slots.specs.Stands.{records_of}
use Rattle.rank_slots.proofs.CellLaws.{same_slot-refl}
use Rattle.rank_slots.proofs.TestLaws.{within}
use Rattle.elimination.specs.Strips.{RowMap, IsRowMap, rows_below, row_at, HaveGained}
use Rattle.elimination.proofs.StripLaws.{hold-strips, gain-held}
use Rattle.phase_laws.specs.Columns.{rows_of, strips_in, AreUpdated}
use Rattle.phase_laws.proofs.Columns.{row_map}
use Rattle.phase_laws.proofs.KernelLaws.{words_are, update-made}
use Rattle.round_laws.specs.Holdings.{Holding, put, CanRun, holdings}
use Rattle.round_laws.specs.Turns.{Turns, IsQuiet, each_below, on_grid, held_on}
use Rattle.round_laws.specs.Changes.{ChangesOnly, TurnsGrid, ChangesGrid}
use Rattle.round_laws.proofs.Holds.{put-here, put-other, put-free_here}
use Rattle.round_laws.proofs.Laws.{turns_then}
use Rattle.round_laws.proofs.Grids.{turns_rows, turns_columns, turns_row_broadcast, turns_column_broadcast, turns_column_works}
use Rattle.round_laws.proofs.Factors.{factor_scalar, row_goes, column_goes}
use Rattle.round_laws.proofs.Pieces.{inside_itself, holds_whole, holds_part, words_held, part_held, put_whole, alter, equal}
use Rattle.round_laws.proofs.Changes.{unchanged, changed_put, changed_then, changed_wider, grid_legal, grid_held, grid_changes}
use Rattle.phase_rounds.specs.Strips.{HoldsWords, work}
use Rattle.phase_rounds.specs.Products.{BlockProduct, left_piece, right_piece, product_kernel, product_row, product_column, product_events, MayMultiply, CanMultiply, product_slots, product_words}
use Rattle.phase_rounds.proofs.Standing.{stands_same}

-- ---- copies
-- a matrix with the words of another
record IsCopy (m x : Matrix) : Type 0 where
  rows : x.rows ≡ m.rows
  columns : cols x ≡ cols m
  words : (i j : ℕ) → i < m.rows → j < cols m → entry x i j ≡ entry m i j

copy_same : (m : Matrix) → IsCopy m m
copy_same m = record { rows = refl; columns = refl; words = λ i j hi hj. refl }

copy_sent : (m : Matrix) → IsCopy m (part_of m (whole_part m))
copy_sent m = record {
  rows = rows-tabulate (m.rows - 0) (cols m - 0) (part_entry m (whole_part m)) ∙ (let e : m.rows - 0 ≡ m.rows = omega arith in e);
  columns = cols-tabulate (m.rows - 0) (cols m - 0) (part_entry m (whole_part m)) ∙ (let e : cols m - 0 ≡ cols m = omega arith in e);
  words = λ i j hi hj.
      entry-tabulate (m.rows - 0) (cols m - 0) (part_entry m (whole_part m)) i j (omega arith) (omega arith)
      ∙ (let u : 0 + i ≡ i = omega arith in let v : 0 + j ≡ j = omega arith in λ t. entry m (u t) (v t));
}

-- a piece that lies in words is held
piece_held : (mem : Memory) (y : Piece) (a : Matrix) → mem (slot_of y) ≡ Some (Words a) → is_inside (area y a) a ≡ true → holds_words mem y ≡ true
piece_held mem (piece.Whole slot) a e i = holds_whole mem slot a e
piece_held mem (piece.Part slot at) a e i = holds_part mem slot at a e i

module _ (s : Setting) (st : State) (x : BlockProduct) (l : ℕ → ℕ → ℕ) (n : ℕ) (y words : ℕ → ℕ → ℕ → ℕ) (f : ℕ → ℕ → Holding) (may : MayMultiply s st x) (can : CanMultiply x l n y words f) where
  abbrev g : Grid
  g = x.at.grid

  abbrev d : RowMap
  d = rows_of x.at

  -- the strips
  abbrev ma : ℕ → Matrix
  ma row = words_of ((f row x.q).tiles x.a)

  abbrev mb : ℕ → Matrix
  mb col = words_of ((f x.r col).tiles (x.b col))

  abbrev mc : ℕ → ℕ → Matrix
  mc row col = words_of ((f row col).tiles (x.c col))

  a_is : (row : ℕ) → row < g.p → (f row x.q).tiles x.a ≡ Some (Words (ma row))
  a_is row hr = words_are ((f row x.q).tiles x.a) (can.a_there row hr)

  b_is : (col : ℕ) → col < width g → (f x.r col).tiles (x.b col) ≡ Some (Words (mb col))
  b_is col hc = words_are ((f x.r col).tiles (x.b col)) (can.b_there col hc)

  c_is : (row col : ℕ) → row < g.p → col < width g → (f row col).tiles (x.c col) ≡ Some (Words (mc row col))
  c_is row col hr hc = words_are ((f row col).tiles (x.c col)) ((can.stands col hc).there row hr)

  -- after the broadcasts along rows, after those down columns, and in the end
  abbrev rowed : ℕ → ℕ → Holding
  rowed row col = if col == x.q then f row col else (holdings s st).written (f row col) (piece.Whole (work 0)) ((holdings s st).read (f row x.q) (piece.Whole x.a))

  abbrev columned : ℕ → ℕ → Holding
  columned row col = if row == x.r then rowed row col else (holdings s st).written (rowed row col) (piece.Whole (work 1)) ((holdings s st).read (rowed x.r col) (piece.Part (x.b col) x.right))

  abbrev multiplied : ℕ → ℕ → Holding
  multiplied row col = (holdings s st).applied (columned row col) (product_kernel x row col)

  -- ---- what the ranks hold on the way
  sent_row : (row col : ℕ) → col ≢ x.q → rowed row col ≡ (holdings s st).written (f row col) (piece.Whole (work 0)) ((holdings s st).read (f row x.q) (piece.Whole x.a))
  sent_row row col ne = elim (eqb_tells col x.q) [ inl p ↦ absurd (ne p.1) | inr p ↦ ap (λ b. if b then f row col else (holdings s st).written (f row col) (piece.Whole (work 0)) ((holdings s st).read (f row x.q) (piece.Whole x.a))) p.0 ]

  own_row : (row col : ℕ) → col ≡ x.q → rowed row col ≡ f row col
  own_row row col e = ap (λ b. if b then f row col else (holdings s st).written (f row col) (piece.Whole (work 0)) ((holdings s st).read (f row x.q) (piece.Whole x.a))) (equal col x.q e)

  sent_column : (row col : ℕ) → row ≢ x.r → columned row col ≡ (holdings s st).written (rowed row col) (piece.Whole (work 1)) ((holdings s st).read (rowed x.r col) (piece.Part (x.b col) x.right))
  sent_column row col ne = elim (eqb_tells row x.r) [ inl p ↦ absurd (ne p.1) | inr p ↦ ap (λ b. if b then rowed row col else (holdings s st).written (rowed row col) (piece.Whole (work 1)) ((holdings s st).read (rowed x.r col) (piece.Part (x.b col) x.right))) p.0 ]

  own_column : (row col : ℕ) → row ≡ x.r → columned row col ≡ rowed row col
  own_column row col e = ap (λ b. if b then rowed row col else (holdings s st).written (rowed row col) (piece.Whole (work 1)) ((holdings s st).read (rowed x.r col) (piece.Part (x.b col) x.right))) (equal row x.r e)

  -- the broadcasts change the two work slots alone
  abbrev works : Slot → Bool
  works slot = same_slot slot (work 0) || same_slot slot (work 1)

  no_works : (slot : Slot) → ((k : ℕ) → same_slot slot (work k) ≡ false) → works slot ≡ false
  no_works slot apart = (λ i. apart 0 i || apart 1 i)

  rowed_changes : (row col : ℕ) → ChangesOnly works (f row col) (rowed row col)
  rowed_changes row col =
      elim (eqb_tells col x.q) [
        | inl p ↦ subst (ChangesOnly works (f row col)) (sym (own_row row col p.1)) (unchanged works (f row col))
        | inr p ↦ subst (ChangesOnly works (f row col)) (sym (sent_row row col p.1)) (changed_put works (f row col) (work 0) ((holdings s st).read (f row x.q) (piece.Whole x.a)) refl)
      ]

  columned_changes : (row col : ℕ) → ChangesOnly works (f row col) (columned row col)
  columned_changes row col =
      elim (eqb_tells row x.r) [
        | inl p ↦ subst (ChangesOnly works (f row col)) (sym (own_column row col p.1)) (rowed_changes row col)
        | inr p ↦
            subst (ChangesOnly works (f row col)) (sym (sent_column row col p.1))
            (changed_then works (f row col) (rowed row col) (put (rowed row col) (work 1) ((holdings s st).read (rowed x.r col) (piece.Part (x.b col) x.right))) (rowed_changes row col)
            (changed_put works (rowed row col) (work 1) ((holdings s st).read (rowed x.r col) (piece.Part (x.b col) x.right)) refl))
      ]

  b_rowed : (col : ℕ) → col < width g → (rowed x.r col).tiles (x.b col) ≡ Some (Words (mb col))
  b_rowed col hc = (rowed_changes x.r col).but.tiles (x.b col) (no_works (x.b col) (may.b_no_work col)) ∙ b_is col hc

  c_kept : (row col : ℕ) → (columned row col).tiles (x.c col) ≡ (f row col).tiles (x.c col)
  c_kept row col = (columned_changes row col).but.tiles (x.c col) (no_works (x.c col) (may.c_no_work col))

  c_columned : (row col : ℕ) → row < g.p → col < width g → (columned row col).tiles (x.c col) ≡ Some (Words (mc row col))
  c_columned row col hr hc = c_kept row col ∙ c_is row col hr hc

  -- ---- the left side: the own strip, or what was sent of it
  abbrev left_slot : ℕ → Slot
  left_slot col = if col == x.q then x.a else work 0

  first_kept : (row col : ℕ) → (columned row col).tiles (work 0) ≡ (rowed row col).tiles (work 0)
  first_kept row col =
      elim (eqb_tells row x.r) [
        | inl p ↦ ap (λ h. h.tiles (work 0)) (own_column row col p.1)
        | inr p ↦ ap (λ h. h.tiles (work 0)) (sent_column row col p.1) ∙ put-other (rowed row col) (work 1) (work 0) ((holdings s st).read (rowed x.r col) (piece.Part (x.b col) x.right)) refl
      ]

  record IsLeft (row col : ℕ) : Type 0 where
    matrix : Matrix
    there : (columned row col).tiles (left_slot col) ≡ Some (Words matrix)
    copy : IsCopy (ma row) matrix
    not_c : same_slot (x.c col) (left_slot col) ≡ false

  the_left : (row col : ℕ) → row < g.p → col < width g → IsLeft row col
  the_left row col hr hc =
      elim (eqb_tells col x.q) [
        | inl p ↦
            let slot : left_slot col ≡ x.a = ap (λ b. if b then x.a else work 0) p.0 in
            record {
              matrix = ma row;
              there = ap (λ z. (columned row col).tiles z) slot ∙ (columned_changes row col).but.tiles x.a (no_works x.a may.a_no_work) ∙ ap (λ c. (f row c).tiles x.a) p.1 ∙ a_is row hr;
              copy = copy_same (ma row);
              not_c = ap (same_slot (x.c col)) slot ∙ may.c_not_a col;
            }
        | inr p ↦
            let slot : left_slot col ≡ work 0 = ap (λ b. if b then x.a else work 0) p.0 in
            record {
              matrix = part_of (ma row) (whole_part (ma row));
              there =
                  ap (λ z. (columned row col).tiles z) slot ∙ first_kept row col ∙ ap (λ h. h.tiles (work 0)) (sent_row row col p.1)
                  ∙ put-here (f row col) (work 0) ((holdings s st).read (f row x.q) (piece.Whole x.a)) ∙ ap Some (ap (cut_out (piece.Whole x.a)) (a_is row hr));
              copy = copy_sent (ma row);
              not_c = ap (same_slot (x.c col)) slot ∙ may.c_no_work col 0;
            }
      ]

  -- ---- the right side: the part of the own strip, or what was sent of it
  record IsRight (row col : ℕ) : Type 0 where
    matrix : Matrix
    there : (columned row col).tiles (slot_of (right_piece x row col)) ≡ Some (Words matrix)
    inside : is_inside (area (right_piece x row col) matrix) matrix ≡ true
    rows : height (area (right_piece x row col) matrix) ≡ height x.right
    columns : breadth (area (right_piece x row col) matrix) ≡ breadth x.right
    same : (i j : ℕ) → i < height x.right → j < breadth x.right → part_entry matrix (area (right_piece x row col) matrix) i j ≡ part_entry (mb col) x.right i j
    not_c : same_slot (x.c col) (slot_of (right_piece x row col)) ≡ false

  the_right : (row col : ℕ) → row < g.p → col < width g → IsRight row col
  the_right row col hr hc =
      elim (eqb_tells row x.r) [
        | inl p ↦
            let is : right_piece x row col ≡ piece.Part (x.b col) x.right = ap (λ b. if b then piece.Part (x.b col) x.right else piece.Whole (work 1)) p.0 in
            record {
              matrix = mb col;
              there = ap (λ z. (columned row col).tiles (slot_of z)) is ∙ ap (λ h. h.tiles (x.b col)) (own_column row col p.1) ∙ ap (λ r. (rowed r col).tiles (x.b col)) p.1 ∙ b_rowed col hc;
              inside = ap (λ z. is_inside (area z (mb col)) (mb col)) is ∙ can.right_in col hc;
              rows = ap (λ z. height (area z (mb col))) is;
              columns = ap (λ z. breadth (area z (mb col))) is;
              same = λ i j hi hj. ap (λ z. part_entry (mb col) (area z (mb col)) i j) is;
              not_c = ap (λ z. same_slot (x.c col) (slot_of z)) is ∙ may.c_not_b col;
            }
        | inr p ↦
            let is : right_piece x row col ≡ piece.Whole (work 1) = ap (λ b. if b then piece.Part (x.b col) x.right else piece.Whole (work 1)) p.0 in
            let sent = part_of (mb col) x.right in
            let tall : sent.rows ≡ height x.right = rows-tabulate (height x.right) (breadth x.right) (part_entry (mb col) x.right) in
            let wide : cols sent ≡ breadth x.right = cols-tabulate (height x.right) (breadth x.right) (part_entry (mb col) x.right) in
            record {
              matrix = sent;
              there =
                  ap (λ z. (columned row col).tiles (slot_of z)) is ∙ ap (λ h. h.tiles (work 1)) (sent_column row col p.1)
                  ∙ put-here (rowed row col) (work 1) ((holdings s st).read (rowed x.r col) (piece.Part (x.b col) x.right)) ∙ ap Some (ap (cut_out (piece.Part (x.b col) x.right)) (b_rowed col hc));
              inside = ap (λ z. is_inside (area z sent) sent) is ∙ inside_itself sent;
              rows = ap (λ z. height (area z sent)) is ∙ (let e : sent.rows - 0 ≡ height x.right = omega (arith, tall) in e);
              columns = ap (λ z. breadth (area z sent)) is ∙ (let e : cols sent - 0 ≡ breadth x.right = omega (arith, wide) in e);
              same = λ i j hi hj.
                  ap (λ z. part_entry sent (area z sent) i j) is
                  ∙ (let u : 0 + i ≡ i = omega arith in let v : 0 + j ≡ j = omega arith in λ t. entry sent (u t) (v t))
                  ∙ entry-tabulate (height x.right) (breadth x.right) (part_entry (mb col) x.right) i j hi hj;
              not_c = ap (λ z. same_slot (x.c col) (slot_of z)) is ∙ may.c_no_work col 1;
            }
      ]

  -- ---- the kernel
  c_rows : (row col : ℕ) → row < g.p → col < width g → (mc row col).rows ≡ rows_below d x.at.desc.m row
  c_rows row col hr hc = (can.stands col hc).hold.rows row hr

  c_columns : (row col : ℕ) → row < g.p → col < width g → cols (mc row col) ≡ x.at.desc.nb
  c_columns row col hr hc = (can.stands col hc).hold.columns row hr

  can_multiply : (row col : ℕ) → row < g.p → col < width g → CanRun s st (columned row col) (product_kernel x row col)
  can_multiply row col hr hc =
      let h = columned row col in
      let left = the_left row col hr hc in
      let right = the_right row col hr hc in
      let c = mc row col in
      let lp = x.left row in
      let rp = right_piece x row col in
      let there = c_columned row col hr hc in
      let left_in : is_inside lp left.matrix ≡ true = (λ i. (nat_le lp.r0 lp.r1 && nat_le lp.r1 (left.copy.rows i)) && (nat_le lp.c0 lp.c1 && nat_le lp.c1 (left.copy.columns i))) ∙ can.left_in row hr in
      let right_area : area_in h.tiles rp ≡ area rp right.matrix = ap (λ o. area rp (words_of o)) right.there in
      let tall : height (whole_part (words_of (h.tiles (x.c col)))) ≡ height lp =
      ap (λ o. height (whole_part (words_of o))) there ∙ (let same = c_rows row col hr hc in let e : c.rows - 0 ≡ rows_below d x.at.desc.m row = omega (arith, same) in e) ∙ sym (can.left_rows row hr) in
      let inner : breadth lp ≡ height (area_in h.tiles rp) = can.left_columns row hr ∙ sym can.right_rows ∙ sym right.rows ∙ ap height (sym right_area) in
      let wide : breadth (whole_part (words_of (h.tiles (x.c col)))) ≡ breadth (area_in h.tiles rp) =
      ap (λ o. breadth (whole_part (words_of o))) there ∙ (let same = c_columns row col hr hc in let e : cols c - 0 ≡ x.at.desc.nb = omega (arith, same) in e) ∙ sym can.right_columns ∙ sym right.columns ∙ ap breadth (sym right_area) in
      record {
        held = and_from (holds_words h.tiles (piece.Whole (x.c col)) && holds_words h.tiles (left_piece x row col)) (holds_words h.tiles rp)
            (and_from (holds_words h.tiles (piece.Whole (x.c col))) (holds_words h.tiles (left_piece x row col)) (holds_whole h.tiles (x.c col) c there) (holds_part h.tiles (left_slot col) lp left.matrix left.there left_in))
            (piece_held h.tiles rp right.matrix right.there right.inside);
        writable = alter h (x.c col) (Words c) there ((columned_changes row col).free (x.c col) ((can.stands col hc).free row hr));
        apart = and_from (not (same_slot (x.c col) (left_slot col))) (not (same_slot (x.c col) (slot_of rp)) && true) (ap not left.not_c) (and_from (not (same_slot (x.c col) (slot_of rp))) true (ap not right.not_c) refl);
        shaped = and_from (height (area_in h.tiles (piece.Whole (x.c col))) == height lp) ((breadth lp == height (area_in h.tiles rp)) && (breadth (area_in h.tiles (piece.Whole (x.c col))) == breadth (area_in h.tiles rp)))
            (equal (height (area_in h.tiles (piece.Whole (x.c col)))) (height lp) tall)
            (and_from (breadth lp == height (area_in h.tiles rp)) (breadth (area_in h.tiles (piece.Whole (x.c col))) == breadth (area_in h.tiles rp)) (equal (breadth lp) (height (area_in h.tiles rp)) inner) (equal (breadth (area_in h.tiles (piece.Whole (x.c col)))) (breadth (area_in h.tiles rp)) wide));
        divisors = refl;
        placed = refl;
        strips = refl;
        factor = factor_scalar s st h.number x.alpha may.factor;
      }

  -- ---- the round
  turns : Turns s st (is_member g) (product_events x) (on_grid g f) (on_grid g multiplied)
  turns =
      turns_then s st (is_member g) (each_below g.p (product_row x)) (each_below (width g) (product_column x)) (on_grid g f) (on_grid g rowed) (on_grid g multiplied)
      (turns_rows s st g may.own_grid (product_row x) f rowed
      (λ row hr.
      turns_row_broadcast s st g may.own_grid row x.topology x.q (piece.Whole x.a) (piece.Whole (work 0)) f rowed hr may.q_in
      (row_goes s st g may.own_grid x.topology may.path row x.q (width g - 1) (piece.Whole x.a) (piece.Whole (work 0)) hr may.q_in (let wide = width-pos g may.own_grid.grid in omega arith))
      (words_held (f row x.q).tiles x.a (ma row) (a_is row hr))
      (λ col hc ne. put_whole (f row col) (work 0) (f row x.q).tiles (can.first_free row col hr hc) (piece.Whole x.a))
      (λ col hc ne. sent_row row col ne)
      (own_row row x.q refl)))
      (turns_columns s st g may.own_grid (product_column x) rowed multiplied
      (λ col hc.
      turns_then s st (is_in_scope g (Column col)) (broadcast_moves (positions.rank_at (member g (Column col)) g.p x.topology x.r) (sender_of x.topology) (piece.Part (x.b col) x.right) (piece.Whole (work 1)) (g.p - 1))
      (each_below g.p (λ row. Local (rank_at g row col) (product_kernel x row col) ∷ [])) (on_grid g rowed) (on_grid g columned) (on_grid g multiplied)
      (turns_column_broadcast s st g may.own_grid col x.topology x.r (piece.Part (x.b col) x.right) (piece.Whole (work 1)) rowed columned hc may.r_in
      (column_goes s st g may.own_grid x.topology may.path col x.r (g.p - 1) (piece.Part (x.b col) x.right) (piece.Whole (work 1)) hc may.r_in (let some = may.r_in in omega arith))
      (part_held (rowed x.r col).tiles (x.b col) x.right (mb col) (b_rowed col hc) (can.right_in col hc))
      (λ row hr ne. put_whole (rowed row col) (work 1) (rowed x.r col).tiles ((rowed_changes row col).may (work 1) (can.second_free row col hr hc)) (piece.Part (x.b col) x.right))
      (λ row hr ne. sent_column row col ne)
      (own_column x.r col refl))
      (turns_column_works s st g may.own_grid col (λ row. product_kernel x row col) columned multiplied hc (λ row hr. can_multiply row col hr hc) (λ row hr. refl))))

  abbrev made_tile : ℕ → ℕ → Tile
  made_tile row col = made_by s (columned row col).number (columned row col).tiles (product_kernel x row col)

  c_tested : (col : ℕ) → product_slots x col (x.c col) ≡ true
  c_tested col = or_left (same_slot (x.c col) (x.c col)) (same_slot (x.c col) (work 0) || same_slot (x.c col) (work 1)) (same_slot-refl (x.c col))

  works_wide : (col : ℕ) (slot : Slot) → product_slots x col slot ≡ false → works slot ≡ false
  works_wide col slot e = no_right (same_slot slot (x.c col)) (works slot) e
    where
      no_right : (a b : Bool) → (a || b) ≡ false → b ≡ false
      no_right true b u = absurd (cc)
      no_right false b u = u

  changes : (row col : ℕ) → ChangesOnly (product_slots x col) (f row col) (multiplied row col)
  changes row col =
      changed_then (product_slots x col) (f row col) (columned row col) (multiplied row col)
      (changed_wider works (product_slots x col) (f row col) (columned row col) (works_wide col) (columned_changes row col))
      (changed_put (product_slots x col) (columned row col) (x.c col) (made_tile row col) (c_tested col))

  -- ---- the words, by the laws of kernels and of strips
  map : IsRowMap d
  map = row_map x.at may.desc

  abbrev mem : ℕ → ℕ → Memory
  mem col row = (columned row col).tiles

  abbrev mem' : ℕ → ℕ → Memory
  mem' col row = (multiplied row col).tiles

  c_made : (row col : ℕ) → mem' col row (x.c col) ≡ Some (made_tile row col)
  c_made row col = put-here (columned row col) (x.c col) (made_tile row col)

  abbrev gain : (row col : ℕ) → ℕ → ℕ → ℕ
  gain row col i j =
      let h = (columned row col).tiles in
      (entry (words_of (h (x.c col))) i j + x.alpha * product_word (matrix_in h (left_piece x row col)) (x.left row) (matrix_in h (right_piece x row col)) (area_in h (right_piece x row col)) (i - 0) (j - 0)) % s.modulus

  updated : (col : ℕ) → col < width g → AreUpdated s x.at col x.at.desc.nb (x.c col) x.alpha 0 x.at.desc.m (λ row. piece.Whole (x.c col)) (λ row. left_piece x row col) (λ row. right_piece x row col) (mem col) (mem' col)
  updated col hc = record {
    in_slot = λ row hr some. refl;
    at_rows = λ row hr some.
        (let rows : (words_of (mem col row (x.c col))).rows ≡ rows_below d x.at.desc.m row = ap (λ o. (words_of o).rows) (c_kept row col) ∙ c_rows row col hr hc in
        let columns : cols (words_of (mem col row (x.c col))) ≡ x.at.desc.nb = ap (λ o. cols (words_of o)) (c_kept row col) ∙ c_columns row col hr hc in
        λ i. record { r0 = 0; r1 = rows i; c0 = 0; c1 = columns i });
    made = λ row hr some. c_made row col;
    other_rows = λ row hr none. ap (λ o. (words_of o).rows) (c_made row col) ∙ rows-with_part (words_of (mem col row (x.c col))) (whole_part (words_of (mem col row (x.c col)))) (gain row col);
    other_columns = λ row hr none. ap (λ o. cols (words_of o)) (c_made row col) ∙ cols-with_part (words_of (mem col row (x.c col))) (whole_part (words_of (mem col row (x.c col)))) (gain row col);
    other_words = λ row r c hr none hl hw. absurd (let z : ⊥ = omega (arith, none, hl) in z);
  }

  gained : (col : ℕ) → col < width g → HaveGained d x.at.desc.nb s.modulus x.alpha l n (y col) 0 x.at.desc.m (λ row. matrix_in (mem col row) (left_piece x row col)) (λ row. area_in (mem col row) (left_piece x row col)) (λ row. matrix_in (mem col row) (right_piece x row col)) (λ row. area_in (mem col row) (right_piece x row col)) (strips_in (mem col) (x.c col)) (strips_in (mem' col) (x.c col))
  gained col hc =
      update-made s x.at col x.at.desc.nb (x.c col) x.alpha l n (y col) 0 x.at.desc.m (λ row. piece.Whole (x.c col)) (λ row. left_piece x row col) (λ row. right_piece x row col) (mem col) (mem' col) (updated col hc)
      (λ row hr some. can.left_columns row hr)
      (λ row i q hr some hq.
      let left = the_left row col hr hc in
      let lp = x.left row in
      let within_left = within lp (ma row) (can.left_in row hr) in
      let tall = can.left_rows row hr in
      let broad = can.left_columns row hr in
      let same : 0 + i ≡ i = omega arith in
      let hi : i < rows_below d x.at.desc.m row = subst (λ k. k < rows_below d x.at.desc.m row) same some in
      ap (λ o. part_entry (words_of o) lp i q) left.there
      ∙ left.copy.words (lp.r0 + i) (lp.c0 + q) (omega (arith, within_left.rows_end, tall, hi)) (omega (arith, within_left.columns_end, broad, hq))
      ∙ can.left_words row i q hr hi hq ∙ ap (λ k. l (row_at d row k) q) (sym same))
      (λ row q c hr some hq hw.
      let right = the_right row col hr hc in
      let rp = right_piece x row col in
      let tall = can.right_rows in
      let broad = can.right_columns in
      ap (λ o. part_entry (words_of o) (area rp (words_of o)) q c) right.there ∙ right.same q c (omega (arith, tall, hq)) (omega (arith, broad, hw)) ∙ can.right_words col q c hc hq hw)

  holds : (col : ℕ) → col < width g → HoldsWords x.at (x.c col) (product_words s x l n y words col) (λ row. multiplied row col)
  holds col hc = record {
    there = λ row hr. ap (λ o. is_words o) (c_made row col);
    free = λ row hr. put-free_here (columned row col) (x.c col) (made_tile row col);
    hold = gain-held d x.at.desc.nb s.modulus x.alpha l n (y col) (words col) 0 x.at.desc.m (λ row. matrix_in (mem col row) (left_piece x row col)) (λ row. area_in (mem col row) (left_piece x row col)) (λ row. matrix_in (mem col row) (right_piece x row col)) (λ row. area_in (mem col row) (right_piece x row col)) (strips_in (mem col) (x.c col)) (strips_in (mem' col) (x.c col)) map (gained col hc)
        (hold-strips d x.at.desc.nb (words col) (strips_in (λ row. (f row col).tiles) (x.c col)) (strips_in (mem col) (x.c col)) (λ row hr. ap words_of (c_kept row col)) (can.stands col hc).hold);
  }

  pub multiplies : (h : TurnsGrid s st g (product_slots x) (product_events x) f) × ((col : ℕ) → col < width g → HoldsWords x.at (x.c col) (product_words s x l n y words col) (λ row. h.after row col))
  multiplies = (record { after = multiplied; turns = turns; changed = λ row col hr hc. changes row col }, holds)

-- ---- from a quiet state
module _ (s : Setting) (st : State) (x : BlockProduct) (l : ℕ → ℕ → ℕ) (n : ℕ) (y words : ℕ → ℕ → ℕ → ℕ) (quiet : IsQuiet s st) (may : MayMultiply s st x) (can : CanMultiply x l n y words (held_on st x.at.grid)) where
  abbrev round : TurnsGrid s st x.at.grid (product_slots x) (product_events x) (held_on st x.at.grid)
  round = (multiplies s st x l n y words (held_on st x.at.grid) may can).0

  pub product_legal : IsLegalFrom s st (records_of (product_events x))
  product_legal = (grid_legal s st x.at.grid (product_slots x) may.own_grid quiet (product_events x) round).legal

  pub product_held : (col : ℕ) → col < width x.at.grid → HoldsWords x.at (x.c col) (product_words s x l n y words col) (λ row. held_on (replay s st (records_of (product_events x))) x.at.grid row col)
  product_held col hc =
      stands_same x.at (x.c col) (product_words s x l n y words col) (λ row. round.after row col) (λ row. held_on (replay s st (records_of (product_events x))) x.at.grid row col)
      (λ row hr. grid_held s st x.at.grid (product_slots x) may.own_grid quiet (product_events x) round row col hr hc) ((multiplies s st x l n y words (held_on st x.at.grid) may can).1 col hc)

  pub product_changes : ChangesGrid s x.at.grid (product_slots x) st (replay s st (records_of (product_events x)))
  product_changes = grid_changes s st x.at.grid (product_slots x) may.own_grid quiet (product_events x) round
