-- What a kernel that changes a tile asks of that tile and of the slots that it reads.
use Rattle.std.specs.Prelude.{◌≡◌, ◌+◌, ◌<◌, ◌==◌, ◌&&◌, ℕ, Bool, true, not, nat_lt, Option, Some}
use Rattle.run_data.specs.Matrix.{Matrix, cols, entry}
use Rattle.rank_machine.specs.declared.slot.Slot.{Slot}
use Rattle.rank_machine.specs.declared.slot.Tile.{Tile}
use Rattle.rank_machine.specs.declared.slot.Piece.{Piece}
use Rattle.rank_machine.specs.declared.kernel.Cut.{Cut}
use Rattle.rank_machine.specs.Setting.{Setting}
use Rattle.rank_machine.specs.Effect.{is_index, slot_of, area, matrix_in, area_in}
use Rattle.rank_machine.specs.Legal.{is_inside, holds_words, is_number, same_area, is_square, is_cut_placed, in_matrix, height, breadth}
use Rattle.rank_slots.specs.Shapes.{has_nonzero_diagonal}

-- a piece of a tile, and a factor
pub record OneFit (p : ℕ) (m : Matrix) (to : Piece) (a : ℕ) : Type 0 where
  pub inside : is_inside (area to m) m ≡ true
  pub factor : a < p

-- the piece is held, lies in its tile, and so does the one that is changed
pub record PairFit (holding : Slot → Option Tile) (m : Matrix) (to from : Piece) : Type 0 where
  pub from_held : holds_words holding from ≡ true
  pub inside : is_inside (area to m) m ≡ true
  pub from_inside : is_inside (area_in holding from) (matrix_in holding from) ≡ true

-- an addition
pub record AddFit (p : ℕ) (s : Setting) (rank : ℕ) (holding : Slot → Option Tile) (m : Matrix) (to : Piece) (a : ℕ) (from : Piece) (cut : Cut) : Type 0 where
  pub pair : PairFit holding m to from
  pub shape : same_area (area to m) (area_in holding from) ≡ true
  pub placed : is_cut_placed s rank (slot_of to) cut ≡ true
  pub factor : a < p

-- a product
pub record ProductFit (p : ℕ) (holding : Slot → Option Tile) (m : Matrix) (to : Piece) (a : ℕ) (left right : Piece) : Type 0 where
  pub pair : PairFit holding m to left
  pub right_held : holds_words holding right ≡ true
  pub right_inside : is_inside (area_in holding right) (matrix_in holding right) ≡ true
  pub shape : ((height (area to m) == height (area_in holding left)) && ((breadth (area_in holding left) == height (area_in holding right)) && (breadth (area to m) == breadth (area_in holding right)))) ≡ true
  pub factor : a < p

-- a solution with a triangle
pub record SolveFit (holding : Slot → Option Tile) (m : Matrix) (to block : Piece) (unit : Bool) : Type 0 where
  pub pair : PairFit holding m to block
  pub shape : is_square (area_in holding block) (area to m) ≡ true
  pub divisors : has_nonzero_diagonal (matrix_in holding block) (area_in holding block) unit ≡ true

-- an elimination
pub record ElimFit (s : Setting) (rank : ℕ) (holding : Slot → Option Tile) (m : Matrix) (to : Slot) (j : ℕ) (row : Piece) : Type 0 where
  pub row_held : holds_words holding row ≡ true
  pub row_inside : is_inside (area_in holding row) (matrix_in holding row) ≡ true
  pub shape : (((height (area_in holding row) == 1) && (breadth (area_in holding row) == cols m)) && nat_lt j (cols m)) ≡ true
  pub pivot : not (entry (matrix_in holding row) (area_in holding row).r0 ((area_in holding row).c0 + j) == 0) ≡ true
  pub placed : in_matrix s rank to ≡ true

-- the lesser of two numbers
pub record LeastFit (holding : Slot → Option Tile) (t : Tile) (from : Piece) : Type 0 where
  pub number : is_number (Some t) ≡ true
  pub from_number : is_number (holding (slot_of from)) ≡ true

-- a number that goes last in a list
pub record PushFit (holding : Slot → Option Tile) (t : Tile) (from : Piece) : Type 0 where
  pub index : is_index (Some t) ≡ true
  pub from_number : is_number (holding (slot_of from)) ≡ true
