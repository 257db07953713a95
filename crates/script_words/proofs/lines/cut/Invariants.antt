use Rattle.std.proofs.Common.{◌-◌, ◌≤◌, length}
use Rattle.script_words.specs.Lines.{stops_at}
use Rattle.script_words.proofs.Cuts.{PassesTo}
use Rattle.script_words.proofs.lines.cut.Given as goal

abbrev pub invariant-loop-i : goal.invariant-loop-i
invariant-loop-i l = (l.i ≤ length l.bytes) × PassesTo (stops_at l.stop) l.bytes l.i

abbrev pub decreases-loop-i : goal.decreases-loop-i
decreases-loop-i l = length l.bytes - l.i
