use Rattle.std.proofs.Common.{◌-◌}
use Rattle.local_blas.proofs.solve.+solve_lower.Given as goal

abbrev pub decreases-solve_lower : goal.decreases-solve_lower
decreases-solve_lower g l = l.at.r1 - l.at.r0
