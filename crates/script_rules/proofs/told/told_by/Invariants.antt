use Rattle.std.proofs.Common.{length}
use Rattle.script_rules.proofs.ToldLines.{AreTold}
use Rattle.script_rules.proofs.told.told_by.Given as goal

abbrev pub invariant-loop-rest : goal.invariant-loop-rest
invariant-loop-rest l = AreTold l.bytes l.rest l.all

abbrev pub decreases-loop-rest : goal.decreases-loop-rest
decreases-loop-rest l = length l.rest
