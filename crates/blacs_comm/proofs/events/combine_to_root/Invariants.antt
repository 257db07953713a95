use Rattle.blacs_grid.specs.Places.{member, members}
use Rattle.std.proofs.Common.{◌≡◌, ◌≤◌, ◌++◌}
use Rattle.blacs_comm.specs.Moves.{joined_at, combine_moves}
use Rattle.blacs_comm.specs.Positions.{rank_at}
use Rattle.blacs_comm.proofs.events.combine_to_root.Given as goal

abbrev pub invariant-loop-parent : goal.invariant-loop-parent
invariant-loop-parent g l =
    (l.parent ≤ members l.joins.grid l.joins.scope)
    × (l.round ++ combine_moves (rank_at (member l.joins.grid l.joins.scope) (members l.joins.grid l.joins.scope) l.joins.topology l.joins.root) (joined_at l.joins.topology) (members l.joins.grid l.joins.scope) l.joins.own l.joins.work l.joins.join l.parent
    ≡ l.initial.round ++ combine_moves (rank_at (member l.joins.grid l.joins.scope) (members l.joins.grid l.joins.scope) l.joins.topology l.joins.root) (joined_at l.joins.topology) (members l.joins.grid l.joins.scope) l.joins.own l.joins.work l.joins.join (members l.joins.grid l.joins.scope))

abbrev pub decreases-loop-parent : goal.decreases-loop-parent
decreases-loop-parent g l = l.parent
