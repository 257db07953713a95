use Rattle.run_data.specs.Script.{commands_of}
use Rattle.script_bounds.specs.Bounds.{plain_bound, records_in}
use Rattle.script_bounds.proofs.Summing.{IsSummed}
use Rattle.script_bounds.proofs.bounds.plain_bound.Given as goal

abbrev pub invariant-loop-i : goal.invariant-loop-i
invariant-loop-i l = IsSummed (λ n. records_in (commands_of l.fn.script) n.line n.command) l.lines 1099511627775 l.i l.sum (plain_bound (commands_of l.fn.script))
