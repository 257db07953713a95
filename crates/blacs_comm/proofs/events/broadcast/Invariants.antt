use Rattle.blacs_grid.specs.Places.{member, members}
use Rattle.std.proofs.Common.{◌≡◌, ◌-◌, ◌++◌}
use Rattle.blacs_comm.specs.Moves.{broadcast_moves}
use Rattle.blacs_comm.specs.Positions.{sender_of, rank_at}
use Rattle.blacs_comm.proofs.events.broadcast.Given as goal

abbrev pub invariant-loop-i : goal.invariant-loop-i
invariant-loop-i g l = l.round ≡ l.initial.round ++ broadcast_moves (rank_at (member l.grid l.scope) (members l.grid l.scope) l.topology l.root) (sender_of l.topology) l.source l.work (l.i - 1)
