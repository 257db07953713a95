use Rattle.std.proofs.Common.{◌-◌}
use Rattle.local_blas.proofs.solve.+solve_upper.Given as goal

abbrev pub decreases-solve_upper : goal.decreases-solve_upper
decreases-solve_upper g l = l.at.r1 - l.at.r0
