use Rattle.run_data.specs.Script.{commands_of}
use Rattle.script_bounds.specs.Bounds.{phase_steps, steps_in}
use Rattle.script_bounds.proofs.Summing.{IsGreatest}
use Rattle.script_bounds.proofs.bounds.phase_steps.Given as goal

abbrev pub invariant-loop-i : goal.invariant-loop-i
invariant-loop-i l = IsGreatest (λ n. (steps_in (commands_of l.fn.script) n.line n.command).phase) l.lines 1099511627775 l.i l.greatest (phase_steps (commands_of l.fn.script))
