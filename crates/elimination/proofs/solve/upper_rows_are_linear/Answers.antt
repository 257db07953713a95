use Rattle.elimination.proofs.UpperLaws.{upper_reduced-weighted}
use Rattle.elimination.proofs.solve.upper_rows_are_linear.Goals as goal

pub returns : goal.returns
returns c = upper_reduced-weighted
