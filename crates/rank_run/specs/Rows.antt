-- A step as three numbers, as the tests keep it: its kind (0 an operation, 1 a send, 2 a receive), the rank that takes it, and the other rank, or the same one.
use Rattle.std.specs.Prelude.{ℕ}
use Rattle.rank_run.specs.Action.{Action, Works, Sends, Receives}

module _ {Op Piece : Type 0} where
  abbrev pub kind_of : Action Op Piece → ℕ
  kind_of (Works rank op) = 0
  kind_of (Sends from to piece) = 1
  kind_of (Receives to from piece) = 2

  abbrev pub other_of : Action Op Piece → ℕ
  other_of (Works rank op) = rank
  other_of (Sends from to piece) = to
  other_of (Receives to from piece) = from
