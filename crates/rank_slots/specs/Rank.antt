-- The memory of a rank, by the rank machine's own words.
use Rattle.std.specs.Prelude.{ℕ, Bool, true, false, not, if◌then◌else◌, nat_lt, Option, Some, None, List, [], ◌∷◌, IsTrue}
use Rattle.rank_run.specs.Memory.{Memory}
use Rattle.rank_machine.specs.declared.slot.Slot.{Slot}
use Rattle.rank_machine.specs.declared.slot.Tile.{Tile}
use Rattle.rank_machine.specs.declared.slot.Piece.{Piece}
use Rattle.rank_machine.specs.declared.kernel.Kernel.{Kernel}
use Rattle.rank_machine.specs.declared.kernel.Kernel.TheVariants as k
use Rattle.rank_machine.specs.Setting.{Setting}
use Rattle.rank_machine.specs.State.{State, first_mark, or_else}
use Rattle.rank_machine.specs.Effect.{slot_of, is_whole, target, piece_in, with_piece, made_by}
use Rattle.rank_machine.specs.Legal.{may_write, may_change, holds, reads, makes, is_apart, is_held, is_shaped, has_divisors, is_placed, has_strips, factor_of, fits}
use Rattle.script_lines.specs.declared.lines.Line.{Line}
use Rattle.rank_slots.specs.declared.cells.Cell.{Cell}
use Rattle.script_lines.specs.Lines.{setting_on, AreSound}
use Rattle.rank_slots.specs.Cells.{tiles_in, saved_in, fresh_in, with_tile_in, with_saved_in, IsTileOf, AreCellsOf}

-- where the matrices of the script lie, the rank's number, whether it is live, and its slots
pub record Rank : Type 0 where
  pub table : List Line
  pub number : ℕ
  pub live : Bool
  pub cells : List Cell

abbrev pub with_cells : Rank → List Cell → Rank
with_cells m cells = record { table = m.table; number = m.number; live = m.live; cells = cells }

-- a slot gets a tile, and the tile of a slot is saved
abbrev pub with_tile : Rank → Slot → Tile → Rank
with_tile m slot t = with_cells m (with_tile_in m.cells slot t)

abbrev pub with_save : Rank → Slot → Rank
with_save m slot = with_cells m (with_saved_in m.cells slot)

-- a state of the machine in which each rank is this one
abbrev pub state_in : Rank → State
state_in m = record {
  live = λ _. m.live;
  tiles = λ _. tiles_in m.cells;
  saved = λ _. saved_in m.cells;
  fresh = λ _. fresh_in m.cells;
  links = λ _ _. [];
  mark = first_mark;
  lost = λ _. false;
  spawned = 0;
  taken = [];
  committed = [];
}

abbrev pub is_below : ℕ → Option ℕ → Bool
is_below p None = true
is_below p (Some a) = nat_lt a p

-- what a kernel asks of what the rank holds, and a factor that is a residue
pub record IsFit (p : ℕ) (s : Setting) (rank : ℕ) (holding : Slot → Option Tile) (k : Kernel) : Type 0 where
  pub held : IsTrue (is_held holding k)
  pub apart : IsTrue (is_apart (slot_of (target k)) (reads k))
  pub shaped : IsTrue (is_shaped holding k)
  pub divisors : IsTrue (has_divisors holding k)
  pub placed : IsTrue (is_placed s rank k)
  pub strips : IsTrue (has_strips s rank holding k)
  pub factor : IsTrue (is_below p (factor_of k))

-- a kernel may be applied: what the machine asks of the rank
pub record MayApply (p : ℕ) (m : Rank) (k : Kernel) : Type 0 where
  pub live : IsTrue m.live
  pub writable : IsTrue (if makes k then may_write (state_in m) m.number (slot_of (target k)) else may_change (state_in m) m.number (slot_of (target k)))
  pub fit : IsFit p (setting_on p m.table) m.number (tiles_in m.cells) k

pub record MayRead (m : Rank) (x : Piece) : Type 0 where
  pub live : IsTrue m.live
  pub held : IsTrue (holds (tiles_in m.cells) x)

-- a message may be written into a piece: it fits there, and its words are residues
pub record MayWrite (p : ℕ) (m : Rank) (x : Piece) (t : Tile) : Type 0 where
  pub live : IsTrue m.live
  pub fitting : IsTrue (fits (state_in m) m.number x (t ∷ []))
  pub residues : IsTileOf p t

abbrev pub memory : ℕ → Memory Rank Kernel Piece Tile
memory p = record {
  can_apply = MayApply p;
  applied = λ m k. with_tile m (slot_of (target k)) (made_by (setting_on p m.table) m.number (tiles_in m.cells) k);
  can_read = MayRead;
  read = λ m x. piece_in (tiles_in m.cells) x;
  can_write = MayWrite p;
  written = λ m x t. with_tile m (slot_of x) (with_piece (tiles_in m.cells (slot_of x)) x t);
}

-- what a rank holds when its saved tiles are put back and its fresh slots removed
abbrev pub base_in : Rank → Piece → Option Tile
base_in m x = or_else (saved_in m.cells (slot_of x)) (if fresh_in m.cells (slot_of x) then None else tiles_in m.cells (slot_of x))

-- a kernel that changes words
abbrev pub changes_words : Kernel → Bool
changes_words (k.Zero to rows columns) = false
changes_words (k.Copy to from) = not (is_whole to)
changes_words (k.First to from j above) = false
changes_words (k.Diag to from n) = false
changes_words (k.Least to from) = false
changes_words (k.Push to from above) = false
changes_words (k.Scale to a) = true
changes_words (k.Add to a from cut) = true
changes_words (k.MulAdd to a left right) = true
changes_words (k.Lower to block unit) = true
changes_words (k.Upper to block unit) = true
changes_words (k.Swap to i j) = true
changes_words (k.Elim to j above row) = true
changes_words (k.Trans to from) = false

-- the places of matrices are within their limits, and all words are residues
pub record IsRank (p : ℕ) (table : List Line) (cells : List Cell) : Type 0 where
  pub sound : AreSound table
  pub residues : AreCellsOf p cells
