-- A step by its values: what a rank does in it.
use Rattle.std.specs.Prelude.{ℕ}
use Rattle.rank_run.specs.declared.round.Step.{Step}
use Rattle.rank_run.specs.declared.round.Step.TheVariants.{Local, Send, Recv}

-- an operation on one rank, a piece read out and sent to another rank, a message of another rank written in
pub data Action (Op Piece : Type 0) : Type 0 where
  Works : (rank : ℕ) (op : Op) → Action Op Piece
  Sends : (from to : ℕ) (piece : Piece) → Action Op Piece
  Receives : (to from : ℕ) (piece : Piece) → Action Op Piece

module _ {Mem Op Piece Msg : Type 0} where
  -- what a step says
  abbrev pub action_of : Step Mem Op Piece Msg → Action Op Piece
  action_of (Local r op) = Works r op.now
  action_of (Send from to piece) = Sends from to piece.now
  action_of (Recv to from piece) = Receives to from piece.now
