use Rattle.script_bounds.specs.Bounds.{losses, losses_made}
use Rattle.script_bounds.proofs.Summing.{summed_start}
use Rattle.script_bounds.proofs.bounds.losses.Goals as goal

pub loop-i-init : goal.loop-i-init
unfolding losses
loop-i-init c = summed_start (λ n. losses_made n.command) c.args.script.now c.as_slice-lines.result.now 1 c.as_slice-lines.ensures
