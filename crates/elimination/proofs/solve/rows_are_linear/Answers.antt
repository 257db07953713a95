use Rattle.elimination.proofs.CodeLaws.{reduced-weighted}
use Rattle.elimination.proofs.solve.rows_are_linear.Goals as goal

pub returns : goal.returns
returns c = reduced-weighted
