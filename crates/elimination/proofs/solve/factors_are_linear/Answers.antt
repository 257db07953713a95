use Rattle.elimination.proofs.SolveLaws.{factors-keep}
use Rattle.elimination.proofs.solve.factors_are_linear.Goals as goal

pub returns : goal.returns
returns c = factors-keep
