-- What kernels and messages on the ranks of a process column are to the strips that these hold.
use Rattle.std.proofs.Common.{◌≡◌, ◌≢◌, ℕ, ◌+◌, ◌-◌, ◌*◌, ◌%◌, ◌<◌, ◌≤◌, Bool, true, false, if◌then◌else◌, nat_lt, nat_le, Option, Some, None, refl, ◌∙◌, ap, arith, inl, inr}
use Rattle.std.proofs.Math.Nat.{mod-mod}
use Rattle.std.proofs.lemmas.Bool.{cases_lt, lt-ltb, le-ltb, le-leb, lt-leb, false≢true}
use Rattle.run_data.specs.declared.matrix.Part.{Part}
use Rattle.run_data.specs.Matrix.{cols, entry}
use Rattle.run_data.specs.Parts.{part_entry, part_of, whole_part}
use Rattle.run_data.proofs.Matrices.{rows-tabulate, cols-tabulate, entry-tabulate}
use Rattle.local_blas.specs.Kernels.{with_scaled, with_product, with_eliminated}
use Rattle.array_desc.specs.Descriptors.{IsDesc}
use Rattle.array_desc.specs.Maps.{global}
use Rattle.blacs_grid.specs.Places.{rank_at}
use Rattle.blacs_grid.proofs.PlaceLaws.{row_of-rank_at}
use Rattle.rank_machine.specs.declared.slot.Slot.{Slot}
use Rattle.rank_machine.specs.declared.slot.Tile.{Tile}
use Rattle.rank_machine.specs.declared.slot.Tile.TheVariants.{Words, Index}
use Rattle.rank_machine.specs.declared.slot.Piece.{Piece}
use Rattle.rank_machine.specs.declared.slot.Piece.TheVariants as piece
use Rattle.rank_machine.specs.declared.kernel.Cut.{Cut}
use Rattle.rank_machine.specs.declared.kernel.Cut.TheVariants as cut
use Rattle.rank_machine.specs.declared.kernel.Kernel.TheVariants as k
use Rattle.rank_machine.specs.declared.layout.Layout.{Layout}
use Rattle.rank_machine.specs.Setting.{Setting, layout, global_row, global_col}
use Rattle.rank_machine.specs.Effect.{Memory, words_of, is_words, matrix_in, area_in, cut_out, piece_in, with_piece, reaches, made_by}
use Rattle.elimination.specs.CodeLaw.{upper, lower}
use Rattle.elimination.specs.Strips.{RowMap, rows_below, row_at, row_owner, row_place, Hold, AreExchanged, block_rows, AreSolved, AreUpperSolved, HaveGained, AreEliminated, HaveAdded, added_words, one_row}
use Rattle.elimination.proofs.StripLaws.{exchanged-on_one, exchanged-on_two}
use Rattle.phase_laws.specs.Columns.{rows_of, strips_in, cut_test, AreUpdated}
use Rattle.phase_laws.proofs.Columns.{row_map, row_on_rank}

-- ---- kernels
pub scale-made : (s : Setting) (d : Layout) (col : ℕ) (slot : Slot) (a : ℕ) (mem mem' : ℕ → Memory) → ((row : ℕ) → row < d.grid.p → mem' row slot ≡ Some (made_by s (rank_at d.grid row col) (mem row) (k.Scale (piece.Whole slot) a))) → (row : ℕ) → row < d.grid.p → strips_in mem' slot row ≡ with_scaled s.modulus (strips_in mem slot row) (whole_part (strips_in mem slot row)) a
scale-made s d col slot a mem mem' made row h = ap words_of (made row h)

pub update-made : (s : Setting) (d : Layout) (col width : ℕ) (slot : Slot) (a : ℕ) (l : ℕ → ℕ → ℕ) (n : ℕ) (y : ℕ → ℕ → ℕ) (lo hi : ℕ) (target left right : ℕ → Piece) (mem mem' : ℕ → Memory) → AreUpdated s d col width slot a lo hi target left right mem mem' → ((row : ℕ) → row < d.grid.p → rows_below (rows_of d) lo row < rows_below (rows_of d) hi row → (area_in (mem row) (left row)).c1 - (area_in (mem row) (left row)).c0 ≡ n) → ((row i q : ℕ) → row < d.grid.p → rows_below (rows_of d) lo row + i < rows_below (rows_of d) hi row → q < n → part_entry (matrix_in (mem row) (left row)) (area_in (mem row) (left row)) i q ≡ l (row_at (rows_of d) row (rows_below (rows_of d) lo row + i)) q) → ((row q c : ℕ) → row < d.grid.p → rows_below (rows_of d) lo row < rows_below (rows_of d) hi row → q < n → c < width → part_entry (matrix_in (mem row) (right row)) (area_in (mem row) (right row)) q c ≡ y q c) → HaveGained (rows_of d) width s.modulus a l n y lo hi (λ row. matrix_in (mem row) (left row)) (λ row. area_in (mem row) (left row)) (λ row. matrix_in (mem row) (right row)) (λ row. area_in (mem row) (right row)) (strips_in mem slot) (strips_in mem' slot)
update-made s d col width slot a l n y lo hi target left right mem mem' done inner left_words right_words =
    record {
      made = λ row h some.
          ap words_of (done.made row h some)
          ∙ ap (λ x. with_product s.modulus (words_of (mem row x)) (area_in (mem row) (target row)) a (matrix_in (mem row) (left row)) (area_in (mem row) (left row)) (matrix_in (mem row) (right row)) (area_in (mem row) (right row))) (done.in_slot row h some)
          ∙ ap (λ at. with_product s.modulus (words_of (mem row slot)) at a (matrix_in (mem row) (left row)) (area_in (mem row) (left row)) (matrix_in (mem row) (right row)) (area_in (mem row) (right row))) (done.at_rows row h some);
      other_rows = done.other_rows;
      other_columns = done.other_columns;
      other_words = done.other_words;
      inner = inner;
      left_words = left_words;
      right_words = right_words;
    }

pub lower-made : (s : Setting) (d : Layout) (col width : ℕ) (slot : Slot) (unit : Bool) (l : ℕ → ℕ → ℕ) (first n : ℕ) (block : Piece) (mem mem' : ℕ → Memory) → mem' (row_owner (rows_of d) first) slot ≡ Some (made_by s (rank_at d.grid (row_owner (rows_of d) first) col) (mem (row_owner (rows_of d) first)) (k.Lower (piece.Part slot (block_rows (rows_of d) first n width)) block unit)) → ((row : ℕ) → row < d.grid.p → row ≢ row_owner (rows_of d) first → mem' row slot ≡ mem row slot) → ((i q : ℕ) → i < n → q < n → part_entry (matrix_in (mem (row_owner (rows_of d) first)) block) (area_in (mem (row_owner (rows_of d) first)) block) i q ≡ l (first + i) (first + q)) → AreSolved (rows_of d) width s.modulus s.inverse unit l first n (matrix_in (mem (row_owner (rows_of d) first)) block) (area_in (mem (row_owner (rows_of d) first)) block) (strips_in mem slot) (strips_in mem' slot)
lower-made s d col width slot unit l first n block mem mem' made others triangle = record { made = ap words_of made; others = λ row h other. ap words_of (others row h other); triangle = triangle }

pub upper-made : (s : Setting) (d : Layout) (col width : ℕ) (slot : Slot) (unit : Bool) (u : ℕ → ℕ → ℕ) (first n : ℕ) (block : Piece) (mem mem' : ℕ → Memory) → mem' (row_owner (rows_of d) first) slot ≡ Some (made_by s (rank_at d.grid (row_owner (rows_of d) first) col) (mem (row_owner (rows_of d) first)) (k.Upper (piece.Part slot (block_rows (rows_of d) first n width)) block unit)) → ((row : ℕ) → row < d.grid.p → row ≢ row_owner (rows_of d) first → mem' row slot ≡ mem row slot) → ((i q : ℕ) → i < n → q < n → part_entry (matrix_in (mem (row_owner (rows_of d) first)) block) (area_in (mem (row_owner (rows_of d) first)) block) i q ≡ u (first + i) (first + q)) → AreUpperSolved (rows_of d) width s.modulus s.inverse unit u first n (matrix_in (mem (row_owner (rows_of d) first)) block) (area_in (mem (row_owner (rows_of d) first)) block) (strips_in mem slot) (strips_in mem' slot)
upper-made s d col width slot unit u first n block mem mem' made others triangle = record { made = ap words_of made; others = λ row h other. ap words_of (others row h other); triangle = triangle }

-- the rows that a kernel names on a rank are global rows of its process row
row_on : (s : Setting) (d : Layout) (row col : ℕ) (slot : Slot) (l : ℕ) → col < d.grid.q + d.grid.f → layout s slot.id ≡ d → global_row (layout s slot.id) (rank_at d.grid row col) l ≡ row_at (rows_of d) row l
row_on s d row col slot l hc laid = ap (λ x. global_row x (rank_at d.grid row col) l) laid ∙ row_on_rank d row col l hc

pub elim-made : (s : Setting) (d : Layout) (col width : ℕ) (slot : Slot) (above j : ℕ) (f : ℕ → ℕ → ℕ) (line : ℕ → Piece) (mem mem' : ℕ → Memory) → col < d.grid.q + d.grid.f → layout s slot.id ≡ d → ((row : ℕ) → row < d.grid.p → mem' row slot ≡ Some (made_by s (rank_at d.grid row col) (mem row) (k.Elim slot j above (line row)))) → ((row c : ℕ) → row < d.grid.p → c < width → part_entry (matrix_in (mem row) (line row)) (area_in (mem row) (line row)) 0 c ≡ f above c) → AreEliminated (rows_of d) width s.modulus s.inverse above j f (λ row. matrix_in (mem row) (line row)) (λ row. area_in (mem row) (line row)) (strips_in mem slot) (strips_in mem' slot)
elim-made s d col width slot above j f line mem mem' hc laid made pivot_words =
    record {
      made = λ row h.
          ap words_of (made row h)
          ∙ ap (λ x. with_eliminated s.modulus s.inverse (words_of (mem row slot)) (λ i. nat_lt above (global_row x (rank_at d.grid row col) i)) j (matrix_in (mem row) (line row)) (area_in (mem row) (line row))) laid
          ∙ ap (λ r. with_eliminated s.modulus s.inverse (words_of (mem row slot)) (λ i. nat_lt above (global i d.desc.mb r d.desc.rsrc d.grid.p)) j (matrix_in (mem row) (line row)) (area_in (mem row) (line row))) (row_of-rank_at d.grid row col hc);
      pivot_words = pivot_words;
    }

reach : (s : Setting) (d : Layout) (row col : ℕ) (slot : Slot) (at : Cut) (l c : ℕ) → col < d.grid.q + d.grid.f → layout s slot.id ≡ d → reaches s (rank_at d.grid row col) slot at l c ≡ cut_test d at (row_at (rows_of d) row l) c
reach s d row col slot cut.Whole l c hc laid = refl
reach s d row col slot (cut.Upper block) l c hc laid =
    ap (λ x. nat_le (global_row x (rank_at d.grid row col) l) (global_col x block c)) laid ∙ ap (λ r. nat_le r (global_col d block c)) (row_on_rank d row col l hc)
reach s d row col slot (cut.Lower block) l c hc laid =
    ap (λ x. nat_lt (global_col x block c) (global_row x (rank_at d.grid row col) l)) laid ∙ ap (λ r. nat_lt (global_col d block c) r) (row_on_rank d row col l hc)

pub add-made : (s : Setting) (d : Layout) (col width : ℕ) (slot : Slot) (a : ℕ) (g : ℕ → ℕ → ℕ) (at : Cut) (source : ℕ → Piece) (mem mem' : ℕ → Memory) → col < d.grid.q + d.grid.f → layout s slot.id ≡ d → ((row : ℕ) → row < d.grid.p → mem' row slot ≡ Some (made_by s (rank_at d.grid row col) (mem row) (k.Add (piece.Whole slot) a (source row) at))) → ((row l c : ℕ) → row < d.grid.p → l < rows_below (rows_of d) d.desc.m row → c < width → part_entry (matrix_in (mem row) (source row)) (area_in (mem row) (source row)) l c ≡ g (row_at (rows_of d) row l) c) → HaveAdded (rows_of d) width s.modulus a g (cut_test d at) (λ row. matrix_in (mem row) (source row)) (λ row. area_in (mem row) (source row)) (λ row. reaches s (rank_at d.grid row col) slot at) (strips_in mem slot) (strips_in mem' slot)
add-made s d col width slot a g at source mem mem' hc laid made source_words =
    record {
      made = λ row h. ap words_of (made row h);
      source_words = source_words;
      tests = λ row l c h hl hw. reach s d row col slot at l c hc laid;
    }

pub swap-made : (s : Setting) (d : Layout) (col width i j : ℕ) (slot : Slot) (f : ℕ → ℕ → ℕ) (mem mem' : ℕ → Memory) → IsDesc d.grid.p d.grid.q d.desc → i < d.desc.m → j < d.desc.m → Hold (rows_of d) width f (strips_in mem slot) → row_owner (rows_of d) j ≡ row_owner (rows_of d) i → mem' (row_owner (rows_of d) i) slot ≡ Some (made_by s (rank_at d.grid (row_owner (rows_of d) i) col) (mem (row_owner (rows_of d) i)) (k.Swap slot (row_place (rows_of d) i) (row_place (rows_of d) j))) → ((row : ℕ) → row < d.grid.p → row ≢ row_owner (rows_of d) i → mem' row slot ≡ mem row slot) → AreExchanged (rows_of d) width i j (strips_in mem slot) (strips_in mem' slot)
swap-made s d col width i j slot f mem mem' desc hi hj hold together made others =
    exchanged-on_one (rows_of d) width i j f (strips_in mem slot) (strips_in mem' slot) (row_map d desc) hi hj hold together (ap words_of made) (λ row h other. ap words_of (others row h other))

-- ---- messages
pub words_are : (t : Option Tile) → is_words t ≡ true → t ≡ Some (Words (words_of t))
words_are None e = absurd (false≢true e)
words_are (Some (Words m)) e = refl
words_are (Some (Index ns)) e = absurd (false≢true e)

-- the words of a tile that was cut out of another
pub part-sent : (mem : Memory) (slot : Slot) (at : Part) (i j : ℕ) → is_words (mem slot) ≡ true → i < at.r1 - at.r0 → j < at.c1 - at.c0 → entry (words_of (Some (piece_in mem (piece.Part slot at)))) i j ≡ entry (words_of (mem slot)) (at.r0 + i) (at.c0 + j)
part-sent mem slot at i j e hi hj =
    ap (λ t. entry (words_of (Some (cut_out (piece.Part slot at) t))) i j) (words_are (mem slot) e) ∙ entry-tabulate (at.r1 - at.r0) (at.c1 - at.c0) (part_entry (words_of (mem slot)) at) i j hi hj

whole_sent : (mem : Memory) (slot : Slot) → is_words (mem slot) ≡ true → words_of (Some (piece_in mem (piece.Whole slot))) ≡ part_of (words_of (mem slot)) (whole_part (words_of (mem slot)))
whole_sent mem slot e = ap (λ t. words_of (Some (cut_out (piece.Whole slot) t))) (words_are (mem slot) e)

-- strips that were sent whole hold the same words
pub strips-sent : (d : RowMap) (width : ℕ) (slot : Slot) (f : ℕ → ℕ → ℕ) (mem : ℕ → Memory) → ((row : ℕ) → row < d.procs → is_words (mem row slot) ≡ true) → Hold d width f (strips_in mem slot) → Hold d width f (λ row. words_of (Some (piece_in (mem row) (piece.Whole slot))))
strips-sent d width slot f mem are hold =
    record {
      rows = λ row h.
          (let m = words_of (mem row slot) in
          ap (λ x. x.rows) (whole_sent (mem row) slot (are row h)) ∙ rows-tabulate (m.rows - 0) (cols m - 0) (part_entry m (whole_part m)) ∙ (let e : m.rows - 0 ≡ m.rows = omega arith in e) ∙ hold.rows row h);
      columns = λ row h.
          (let m = words_of (mem row slot) in
          ap cols (whole_sent (mem row) slot (are row h)) ∙ cols-tabulate (m.rows - 0) (cols m - 0) (part_entry m (whole_part m)) ∙ (let e : cols m - 0 ≡ cols m = omega arith in e) ∙ hold.columns row h);
      words = λ row l c h hl hc.
          (let m = words_of (mem row slot) in
          let rows : m.rows ≡ rows_below d d.m row = hold.rows row h in
          let columns : cols m ≡ width = hold.columns row h in
          ap (λ x. entry x l c) (whole_sent (mem row) slot (are row h)) ∙ entry-tabulate (m.rows - 0) (cols m - 0) (part_entry m (whole_part m)) l c (omega arith) (omega arith)
          ∙ ap (λ r. entry m r (0 + c)) (let e : 0 + l ≡ l = omega arith in e) ∙ ap (entry m l) (let e : 0 + c ≡ c = omega arith in e) ∙ hold.words row l c h hl hc);
    }

row_sent : (mem : Memory) (slot : Slot) (at width c : ℕ) → is_words (mem slot) ≡ true → c < width → entry (words_of (Some (piece_in mem (piece.Part slot (one_row at width))))) (0 + 0) (0 + c) ≡ entry (words_of (mem slot)) at c
row_sent mem slot at width c e hc =
    ap (λ k. entry (words_of (Some (piece_in mem (piece.Part slot (one_row at width))))) (0 + 0) k) (let z : 0 + c ≡ c = omega arith in z)
    ∙ part-sent mem slot (one_row at width) 0 c e (omega arith) (omega arith)
    ∙ ap (λ r. entry (words_of (mem slot)) r (0 + c)) (let z : at + 0 ≡ at = omega arith in z) ∙ ap (entry (words_of (mem slot)) at) (let z : 0 + c ≡ c = omega arith in z)

-- two rows of two process rows change places, where each strip gets the other's row by a message
pub rows-sent : (d : Layout) (width i j : ℕ) (slot : Slot) (f : ℕ → ℕ → ℕ) (mem mem' : ℕ → Memory) → IsDesc d.grid.p d.grid.q d.desc → i < d.desc.m → j < d.desc.m → Hold (rows_of d) width f (strips_in mem slot) → row_owner (rows_of d) j ≢ row_owner (rows_of d) i → is_words (mem (row_owner (rows_of d) i) slot) ≡ true → is_words (mem (row_owner (rows_of d) j) slot) ≡ true → mem' (row_owner (rows_of d) i) slot ≡ Some (with_piece (mem (row_owner (rows_of d) i) slot) (piece.Part slot (one_row (row_place (rows_of d) i) width)) (piece_in (mem (row_owner (rows_of d) j)) (piece.Part slot (one_row (row_place (rows_of d) j) width)))) → mem' (row_owner (rows_of d) j) slot ≡ Some (with_piece (mem (row_owner (rows_of d) j) slot) (piece.Part slot (one_row (row_place (rows_of d) j) width)) (piece_in (mem (row_owner (rows_of d) i)) (piece.Part slot (one_row (row_place (rows_of d) i) width)))) → ((row : ℕ) → row < d.grid.p → row ≢ row_owner (rows_of d) i → row ≢ row_owner (rows_of d) j → mem' row slot ≡ mem row slot) → AreExchanged (rows_of d) width i j (strips_in mem slot) (strips_in mem' slot)
rows-sent d width i j slot f mem mem' desc hi hj hold apart words_i words_j made_i made_j others =
    let r = rows_of d in
    let a = row_owner r i in
    let b = row_owner r j in
    let at_i = row_place r i in
    let at_j = row_place r j in
    exchanged-on_two r width i j f
    (words_of (Some (piece_in (mem b) (piece.Part slot (one_row at_j width))))) (words_of (Some (piece_in (mem a) (piece.Part slot (one_row at_i width)))))
    (record { r0 = 0; r1 = at_i + 1 - at_i; c0 = 0; c1 = width - 0 }) (record { r0 = 0; r1 = at_j + 1 - at_j; c0 = 0; c1 = width - 0 })
    (strips_in mem slot) (strips_in mem' slot) (row_map d desc) hi hj hold apart (ap words_of made_i) (ap words_of made_j)
    (λ c hc. row_sent (mem b) slot at_j width c words_j hc) (λ c hc. row_sent (mem a) slot at_i width c words_i hc)
    (λ row h not_i not_j. ap words_of (others row h not_i not_j))

-- ---- the closing of a panel
same_added : (b : Bool) (p x y : ℕ) → (if b then (x + 1 * y) % p else x) % p ≡ (x + (if b then y else 0)) % p
same_added true p x y = mod-mod (x + 1 * y) p ∙ ap (λ z. (x + z) % p) (let e : 1 * y ≡ y = omega arith in e)
same_added false p x y = ap (λ z. z % p) (let e : x ≡ x + 0 = omega arith in e)

upper_is : (d i y : ℕ) → (if nat_le i d then y else 0) ≡ upper d (λ _. y) i
upper_is d i y =
    elim (cases_lt d i) [
      | inl below ↦ (let t : nat_le i d ≡ false = lt-leb i d below in let u : nat_lt d i ≡ true = lt-ltb d i below in simp (t, u))
      | inr above ↦ (let t : nat_le i d ≡ true = le-leb i d above in let u : nat_lt d i ≡ false = le-ltb d i above in simp (t, u))
    ]

-- what an add by the upper or the lower part of a block column adds is what the closing law adds
pub upper-added : (p : ℕ) (d : Layout) (block c : ℕ) (f g : ℕ → ℕ → ℕ) (i : ℕ) → added_words p 1 g (cut_test d (cut.Upper block)) f i c % p ≡ (f i c + upper (global_col d block c) (λ r. g r c) i) % p
upper-added p d block c f g i = same_added (nat_le i (global_col d block c)) p (f i c) (g i c) ∙ ap (λ z. (f i c + z) % p) (upper_is (global_col d block c) i (g i c))

pub lower-added : (p : ℕ) (d : Layout) (block c : ℕ) (f g : ℕ → ℕ → ℕ) (i : ℕ) → added_words p 1 g (cut_test d (cut.Lower block)) f i c % p ≡ (f i c + lower (global_col d block c) (λ r. g r c) i) % p
lower-added p d block c f g i = same_added (nat_lt (global_col d block c) i) p (f i c) (g i c)

pub all-added : (p a : ℕ) (d : Layout) (c : ℕ) (f g : ℕ → ℕ → ℕ) (i : ℕ) → added_words p a g (cut_test d cut.Whole) f i c % p ≡ (f i c + a * g i c) % p
all-added p a d c f g i = mod-mod (f i c + a * g i c) p
