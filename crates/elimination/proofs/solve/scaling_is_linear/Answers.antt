use Rattle.elimination.proofs.SolveLaws.{scaled-keeps}
use Rattle.elimination.proofs.solve.scaling_is_linear.Goals as goal

pub returns : goal.returns
returns c = scaled-keeps
