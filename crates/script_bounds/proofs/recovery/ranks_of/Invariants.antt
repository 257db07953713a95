use Rattle.run_data.specs.Script.{commands_of}
use Rattle.script_rules.specs.Rules.{ranks_made, ranks_of}
use Rattle.script_bounds.proofs.Summing.{IsSummed}
use Rattle.script_bounds.proofs.recovery.ranks_of.Given as goal

abbrev pub invariant-loop-i : goal.invariant-loop-i
invariant-loop-i l = IsSummed (λ n. ranks_made n.command) l.lines 320 l.i l.ranks (ranks_of (commands_of l.fn.script))
