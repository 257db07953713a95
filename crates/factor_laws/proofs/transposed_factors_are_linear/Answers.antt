use Rattle.factor_laws.proofs.Unique.{transposed_solved-keeps}
use Rattle.factor_laws.proofs.transposed_factors_are_linear.Goals as goal

pub returns : goal.returns
returns c = transposed_solved-keeps
