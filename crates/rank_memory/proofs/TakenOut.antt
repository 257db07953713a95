-- A tile that is out of its slot, what a kernel makes of it, and the words of the cells then.
use Rattle.std.proofs.Common.{◌≡◌, ◌<◌, ℕ, true, false, cond, Some, List, Result, Ok, Err, OnOk, OnErr, sym, ap, subst, ◌∙◌, ⊎_elim}
use Rattle.std.proofs.lemmas.Bool.{cases_Bool}
use Rattle.rank_machine.specs.declared.slot.Slot.{Slot}
use Rattle.run_data.specs.declared.matrix.Part.{Part}
use Rattle.run_data.specs.Matrix.{Matrix}
use Rattle.run_data.specs.Parts.{with_copy}
use Rattle.rank_machine.specs.declared.slot.Tile.{Tile}
use Rattle.rank_machine.specs.declared.slot.Tile.TheVariants.{Words}
use Rattle.rank_machine.specs.declared.slot.Piece.TheVariants as piece
use Rattle.rank_machine.specs.declared.kernel.Kernel.{Kernel}
use Rattle.rank_machine.specs.Setting.{Setting}
use Rattle.rank_machine.specs.State.{same_slot}
use Rattle.rank_machine.specs.Effect.{words_of, slot_of, target, with_piece, made_by}
use Rattle.rank_machine.proofs.Base.{same_slot-true}
use Rattle.script_lines.specs.declared.lines.Line.{Line}
use Rattle.script_lines.specs.Lines.{setting_on}
use Rattle.rank_slots.specs.declared.cells.Cell.{Cell}
use Rattle.rank_slots.specs.Cells.{tiles_in, with_tile_in, with_slot, empty_tile, IsMatrixOf, IsTileOf, IsSomeTileOf, AreCellsOf}
use Rattle.rank_slots.specs.Rank.{IsFit}
use Rattle.rank_slots.specs.Shapes.{from_corner}
use Rattle.rank_slots.proofs.CellLaws.{tiles_in-put, put-put}
use Rattle.rank_slots.proofs.CellWords.{cells_tile, cells_put}
use Rattle.rank_slots.proofs.Residues.{piece_residues, made_residues}

-- cells that changed as they should, or not at all
pub either : {T E : Type 0} (r : Result T E) (P : List Cell → Type 0) (old good new : List Cell) → OnOk r (new ≡ good) → OnErr r (new ≡ old) → P good → P old → P new
either (Ok x) P old good new done kept g h = subst P (sym done) g
either (Err e) P old good new done kept g h = subst P (sym kept) h

-- with its tile beside it, a slot that was emptied holds what it held
slot_again : (xs : List Cell) (s : Slot) (t : Tile) (q : Slot) → tiles_in xs s ≡ Some t → with_slot (tiles_in (with_tile_in xs s empty_tile)) s t q ≡ tiles_in xs q
slot_again xs s t q h =
    ⊎_elim
    (λ (e : same_slot q s ≡ true). ap (λ b. cond b (Some t) (tiles_in (with_tile_in xs s empty_tile) q)) e ∙ sym h ∙ ap (tiles_in xs) (sym (same_slot-true q s e)))
    (λ (e : same_slot q s ≡ false).
    ap (λ b. cond b (Some t) (tiles_in (with_tile_in xs s empty_tile) q)) e ∙ tiles_in-put xs s empty_tile q ∙ ap (λ b. cond b (Some empty_tile) (tiles_in xs q)) e)
    (cases_Bool (same_slot q s))

pub held_again : (xs : List Cell) (s : Slot) (t : Tile) → tiles_in xs s ≡ Some t → with_slot (tiles_in (with_tile_in xs s empty_tile)) s t ≡ tiles_in xs
held_again xs s t h = λ n q. slot_again xs s t q h n

-- what a kernel asks of the slots, it asks of its tile and of the others
pub fit_out : (p : ℕ) (s : Setting) (rank : ℕ) (xs ys : List Cell) (k : Kernel) (to : Slot) (t : Tile) → to ≡ slot_of (target k) → tiles_in xs to ≡ Some t → ys ≡ with_tile_in xs to empty_tile
    → IsFit p s rank (tiles_in xs) k → IsFit p s rank (with_slot (tiles_in ys) (slot_of (target k)) t) k
fit_out p s rank xs ys k to t is there out h =
    subst (λ q. IsFit p s rank (with_slot (tiles_in ys) q t) k) is
    (subst (λ zs. IsFit p s rank (with_slot (tiles_in zs) to t) k) (sym out)
    (subst (λ holding. IsFit p s rank holding k) (sym (held_again xs to t there)) h))

-- what it makes of them, back in its slot
pub put_back : (s : Setting) (rank : ℕ) (xs ys : List Cell) (k : Kernel) (to : Slot) (t made : Tile) → to ≡ slot_of (target k) → tiles_in xs to ≡ Some t → ys ≡ with_tile_in xs to empty_tile
    → made ≡ made_by s rank (with_slot (tiles_in ys) (slot_of (target k)) t) k → with_tile_in ys to made ≡ with_tile_in xs (slot_of (target k)) (made_by s rank (tiles_in xs) k)
put_back s rank xs ys k to t made is there out e =
    let same : made ≡ made_by s rank (tiles_in xs) k =
    e ∙ sym (ap (λ q. made_by s rank (with_slot (tiles_in ys) q t) k) is)
    ∙ ap (λ zs. made_by s rank (with_slot (tiles_in zs) to t) k) out
    ∙ ap (λ holding. made_by s rank holding k) (held_again xs to t there) in
    ap (λ zs. with_tile_in zs to made) out
    ∙ put-put xs to empty_tile made
    ∙ ap (with_tile_in xs to) same
    ∙ ap (λ q. with_tile_in xs q (made_by s rank (tiles_in xs) k)) is

-- what a kernel makes of cells of residues are residues
pub makes_residues : (p : ℕ) (table : List Line) (rank : ℕ) (xs : List Cell) (k : Kernel) → 0 < p → AreCellsOf p xs → IsTileOf p (made_by (setting_on p table) rank (tiles_in xs) k)
makes_residues p table rank xs k some h = made_residues (setting_on p table) rank (tiles_in xs) k some (λ slot. cells_tile p xs slot h)

-- a tile that was taken out, and the cells that are left
pub taken_residues : (p : ℕ) (xs : List Cell) (s : Slot) (t : Tile) → tiles_in xs s ≡ Some t → AreCellsOf p xs → IsTileOf p t
taken_residues p xs s t there h = subst (IsSomeTileOf p) there (cells_tile p xs s h)

pub left_residues : (p : ℕ) (xs ys : List Cell) (s : Slot) → ys ≡ with_tile_in xs s empty_tile → AreCellsOf p xs → AreCellsOf p ys
left_residues p xs ys s out h = subst (AreCellsOf p) (sym out) (cells_put p xs s empty_tile tt h)

-- ---- words that were written into a part of a tile
pub part_back : (xs ys : List Cell) (slot : Slot) (t : Tile) (m new words : Matrix) (at : Part) → tiles_in xs slot ≡ Some t → t ≡ Words m → ys ≡ with_tile_in xs slot empty_tile → new ≡ with_copy m at words (from_corner at)
    → with_tile_in ys slot (Words new) ≡ with_tile_in xs slot (with_piece (tiles_in xs slot) (piece.Part slot at) (Words words))
part_back xs ys slot t m new words at there is out e =
    ap (λ zs. with_tile_in zs slot (Words new)) out
    ∙ put-put xs slot empty_tile (Words new)
    ∙ ap (λ w. with_tile_in xs slot (Words w)) e
    ∙ ap (λ o. with_tile_in xs slot (Words (with_copy (words_of o) at words (from_corner at)))) (sym (there ∙ ap Some is))

pub part_residues : (p : ℕ) (xs : List Cell) (slot : Slot) (at : Part) (words : Matrix) → 0 < p → IsMatrixOf p words → AreCellsOf p xs → AreCellsOf p (with_tile_in xs slot (with_piece (tiles_in xs slot) (piece.Part slot at) (Words words)))
part_residues p xs slot at words some w h =
    cells_put p xs slot (with_piece (tiles_in xs slot) (piece.Part slot at) (Words words)) (piece_residues p (tiles_in xs slot) (piece.Part slot at) (Words words) some (cells_tile p xs slot h) w) h
