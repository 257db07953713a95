use Rattle.run_data.specs.Script.{commands_of}
use Rattle.script_bounds.specs.Bounds.{losses, losses_made}
use Rattle.script_bounds.proofs.Summing.{IsSummed}
use Rattle.script_bounds.proofs.bounds.losses.Given as goal

abbrev pub invariant-loop-i : goal.invariant-loop-i
invariant-loop-i l = IsSummed (λ n. losses_made n.command) l.lines 1 l.i l.count (losses (commands_of l.fn.script))
