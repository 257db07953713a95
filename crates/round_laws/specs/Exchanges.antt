-- The events by which two process rows exchange a part of what they hold in a slot.
use Rattle.std.specs.Prelude.{ℕ, List, [], ◌∷◌}
use Rattle.run_data.specs.declared.matrix.Part.{Part}
use Rattle.rank_run.specs.declared.round.Event.{Event}
use Rattle.rank_run.specs.declared.round.Event.TheVariants.{Local, Move}
use Rattle.blacs_grid.specs.declared.Grid.{Grid}
use Rattle.blacs_grid.specs.Places.{rank_at}
use Rattle.rank_machine.specs.declared.slot.Slot.{Slot}
use Rattle.rank_machine.specs.declared.slot.Tile.{Tile}
use Rattle.rank_machine.specs.declared.slot.Piece.{Piece}
use Rattle.rank_machine.specs.declared.slot.Piece.TheVariants as piece
use Rattle.rank_machine.specs.declared.kernel.Kernel.{Kernel}
use Rattle.rank_machine.specs.declared.kernel.Kernel.TheVariants as k
use Rattle.rank_slots.specs.Rank.{Rank}

-- the part `at` of the first goes into a work slot of the second, the part `at'` of the second into the place of `at` on the first, and from the work slot the
-- first's part into the place of `at'`
abbrev pub exchange_events : Grid → ℕ → ℕ → ℕ → Slot → Slot → Part → Part → List (Event Rank Kernel Piece Tile)
exchange_events g row row' col slot work at at' =
    Move (rank_at g row col) (rank_at g row' col) (piece.Part slot at) (piece.Whole work)
    ∷ Move (rank_at g row' col) (rank_at g row col) (piece.Part slot at') (piece.Part slot at)
    ∷ Local (rank_at g row' col) (k.Copy (piece.Part slot at') (piece.Whole work)) ∷ []
