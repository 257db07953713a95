use Rattle.elimination.proofs.UpperLaws.{upper_reduced-all}
use Rattle.elimination.proofs.solve.all_upper_rows_solve.Goals as goal

pub returns : goal.returns
returns c = upper_reduced-all
