use Rattle.run_data.specs.Script.{commands_of}
use Rattle.script_bounds.specs.Bounds.{phase_steps, steps_in}
use Rattle.script_bounds.proofs.Summing.{greatest_start}
use Rattle.script_bounds.proofs.bounds.phase_steps.Goals as goal

pub loop-i-init : goal.loop-i-init
unfolding phase_steps
loop-i-init c = greatest_start (λ n. (steps_in (commands_of c.args.script.now) n.line n.command).phase) c.args.script.now c.as_slice-lines.result.now 1099511627775 c.as_slice-lines.ensures
