use Rattle.script_bounds.proofs.Living.{IsLive}
use Rattle.script_bounds.proofs.recovery.greatest_recovery.Given as goal

abbrev pub invariant-loop-i : goal.invariant-loop-i
invariant-loop-i l = IsLive l.fn.script l.lines l.i l.live l.greatest
