use Rattle.std.proofs.Common.{◌≡◌, ◌++◌, drop}
use Rattle.blacs_comm.specs.Works.{work_events}
use Rattle.blacs_comm.proofs.events.work_each.Given as goal

abbrev pub invariant-loop-i : goal.invariant-loop-i
invariant-loop-i g l = l.round ++ work_events (drop l.i l.ranks) (drop l.i l.ops) ≡ l.initial.round ++ work_events l.ranks l.ops
