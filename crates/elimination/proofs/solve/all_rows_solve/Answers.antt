use Rattle.elimination.proofs.SolveLaws.{reduced-all}
use Rattle.elimination.proofs.solve.all_rows_solve.Goals as goal

pub returns : goal.returns
returns c = reduced-all
