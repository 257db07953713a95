-- The events of a pivot search in a process column: each rank finds its first row, the least of these is combined at one rank, and goes to all.
use Rattle.std.specs.Prelude.{ℕ, ◌-◌, ◌||◌, Bool, List, [], ◌∷◌, ◌++◌}
use Rattle.rank_run.specs.declared.round.Event.{Event}
use Rattle.rank_run.specs.declared.round.Event.TheVariants.{Local}
use Rattle.blacs_comm.specs.Positions as positions
use Rattle.blacs_comm.specs.Positions.{sender_of}
use Rattle.blacs_comm.specs.Moves.{joined_at, combine_moves, broadcast_moves}
use Rattle.blacs_comm.specs.declared.topology.Topology.{Topology}
use Rattle.blacs_grid.specs.declared.Grid.{Grid}
use Rattle.blacs_grid.specs.declared.Scope.TheVariants.{Column}
use Rattle.blacs_grid.specs.Places.{rank_at, member}
use Rattle.rank_machine.specs.declared.slot.Slot.{Slot}
use Rattle.rank_machine.specs.declared.slot.Tile.{Tile}
use Rattle.rank_machine.specs.declared.slot.Piece.{Piece}
use Rattle.rank_machine.specs.declared.slot.Piece.TheVariants as piece
use Rattle.rank_machine.specs.declared.kernel.Kernel.{Kernel}
use Rattle.rank_machine.specs.declared.kernel.Kernel.TheVariants as k
use Rattle.rank_machine.specs.Setting.{Setting}
use Rattle.rank_machine.specs.State.{same_slot}
use Rattle.rank_machine.specs.Effect.{least_of, first_row}
use Rattle.rank_slots.specs.Rank.{Rank}
use Rattle.round_laws.specs.Holdings.{Holding}
use Rattle.round_laws.specs.Turns.{each_below}

-- a search: the process column of a grid, the slot with the words, two work slots for the numbers, the column of the strips and the row above it, and by
-- which topology and at which process row the least is combined
pub record Search : Type 0 where
  pub grid : Grid
  pub col : ℕ
  pub slot : Slot
  pub first : Slot
  pub second : Slot
  pub j : ℕ
  pub above : ℕ
  pub topology : Topology
  pub root : ℕ

abbrev pub find_kernel : Search → Kernel
find_kernel x = k.First x.first (piece.Whole x.slot) x.j x.above

abbrev pub find_events : Search → List (Event Rank Kernel Piece Tile)
find_events x = each_below x.grid.p (λ row. Local (rank_at x.grid row x.col) (find_kernel x) ∷ [])

abbrev pub least_events : Search → List (Event Rank Kernel Piece Tile)
least_events x =
    combine_moves (positions.rank_at (member x.grid (Column x.col)) x.grid.p x.topology x.root) (joined_at x.topology) x.grid.p (piece.Whole x.first) (piece.Whole x.second) (k.Least x.first (piece.Whole x.second)) x.grid.p

-- a slot of one process row goes to the others of a process column
abbrev pub spread_events : Grid → ℕ → Topology → ℕ → Slot → List (Event Rank Kernel Piece Tile)
spread_events g col t root slot = broadcast_moves (positions.rank_at (member g (Column col)) g.p t root) (sender_of t) (piece.Whole slot) (piece.Whole slot) (g.p - 1)

abbrev pub search_events : Search → List (Event Rank Kernel Piece Tile)
search_events x = find_events x ++ (least_events x ++ spread_events x.grid x.col x.topology x.root x.first)

-- the slots that a search changes
abbrev pub search_slots : Search → Slot → Bool
search_slots x slot = same_slot slot x.first || same_slot slot x.second

-- the least of the numbers that the ranks of the column find
abbrev pub number_of_search : Setting → Search → (ℕ → ℕ → Holding) → ℕ
number_of_search s x f = least_of x.grid.p (λ row. first_row s (f row x.col).number (f row x.col).tiles (piece.Whole x.slot) x.j x.above)
