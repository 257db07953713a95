use Rattle.run_data.specs.Script.{commands_of}
use Rattle.script_bounds.specs.Bounds.{plain_bound, records_in}
use Rattle.script_bounds.proofs.Summing.{summed_start}
use Rattle.script_bounds.proofs.bounds.plain_bound.Goals as goal

pub loop-i-init : goal.loop-i-init
unfolding plain_bound
loop-i-init c = summed_start (λ n. records_in (commands_of c.args.script.now) n.line n.command) c.args.script.now c.as_slice-lines.result.now 1099511627775 c.as_slice-lines.ensures
