use Rattle.elimination.proofs.SolveLaws.{solved_column-keeps}
use Rattle.elimination.proofs.solve.triangles_are_linear.Goals as goal

pub returns : goal.returns
returns c = solved_column-keeps
