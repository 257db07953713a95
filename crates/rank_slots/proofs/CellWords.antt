-- The words of a rank's cells: they are residues, and stay so.
use Rattle.std.proofs.Common.{◌<◌, ℕ, Bool, Option, Some, None, IfSome, List, Result, Ok, Err, OnOk}
use Rattle.run_data.specs.Matrix.{AreWords}
use Rattle.rank_machine.specs.declared.slot.Slot.{Slot}
use Rattle.rank_machine.specs.declared.slot.Tile.{Tile}
use Rattle.rank_machine.specs.declared.slot.Piece.{Piece}
use Rattle.rank_machine.specs.Effect.{slot_of, matrix_in}
use Rattle.rank_slots.specs.declared.cells.Cell.{Cell}
use Rattle.rank_slots.specs.Cells.{cell_in, tile_of, tiles_in, cell_with, with_tile_in, with_saved_cell, with_saved_in, kept_in, IsTileOf, IsCellOf, IsSomeTileOf, AreCellsOf}
use Rattle.rank_slots.proofs.PlaceLaws.{all_with, all_found, all_kept}
use Rattle.rank_slots.proofs.Residues.{words_of_tile}

-- the tile of a cell that is there is one of residues, and so is what was saved of it
tile_words : (p : ℕ) (o : Option Cell) → IfSome o (IsCellOf p) → IsSomeTileOf p (tile_of o)
tile_words p None h = tt
tile_words p (Some x) h = h.tile

-- what a slot holds are residues
pub cells_tile : (p : ℕ) (xs : List Cell) (s : Slot) → AreCellsOf p xs → IsSomeTileOf p (tiles_in xs s)
cells_tile p xs s h = tile_words p (cell_in xs s) (all_found (IsCellOf p) xs s h)

pub cells_words : (p : ℕ) (xs : List Cell) (x : Piece) → 0 < p → AreCellsOf p xs → AreWords p (matrix_in (tiles_in xs) x)
cells_words p xs x some h = words_of_tile p (tiles_in xs (slot_of x)) some (cells_tile p xs (slot_of x) h)

-- ---- cells of residues stay so
cell_put : (p : ℕ) (o : Option Cell) (s : Slot) (t : Tile) → IsTileOf p t → IfSome o (IsCellOf p) → IsCellOf p (cell_with o s t)
cell_put p None s t f h = record { tile = f; saved = tt }
cell_put p (Some x) s t f h = record { tile = f; saved = h.saved }

pub cells_put : (p : ℕ) (xs : List Cell) (s : Slot) (t : Tile) → IsTileOf p t → AreCellsOf p xs → AreCellsOf p (with_tile_in xs s t)
cells_put p xs s t f h = all_with (IsCellOf p) xs (cell_with (cell_in xs s) s t) h (cell_put p (cell_in xs s) s t f (all_found (IsCellOf p) xs s h))

save_cell : (p : ℕ) (xs : List Cell) (o : Option Cell) → IfSome o (IsCellOf p) → AreCellsOf p xs → AreCellsOf p (with_saved_cell xs o)
save_cell p xs None f h = h
save_cell p xs (Some x) f h = all_with (IsCellOf p) xs (record { slot = x.slot; tile = x.tile; saved = Some x.tile; fresh = x.fresh }) h (record { tile = f.tile; saved = f.tile })

pub cells_save : (p : ℕ) (xs : List Cell) (s : Slot) → AreCellsOf p xs → AreCellsOf p (with_saved_in xs s)
cells_save p xs s h = save_cell p xs (cell_in xs s) (all_found (IsCellOf p) xs s h) h

pub cells_kept : (p : ℕ) (test : Slot → Bool) (xs : List Cell) → AreCellsOf p xs → AreCellsOf p (kept_in test xs)
cells_kept p test xs h = all_kept (IsCellOf p) test xs (λ x c. record { tile = c.tile; saved = tt }) h

pub on_ok : {T E : Type 0} (r : Result T E) (P Q : Type 0) → (P → Q) → OnOk r P → OnOk r Q
on_ok (Ok x) P Q f h = f h
on_ok (Err e) P Q f h = h
