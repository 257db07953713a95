use Rattle.field_core.specs.Residue.{inverse}
use Rattle.factor_laws.proofs.Matrices.{first_zero-is_info}
use Rattle.factor_laws.proofs.solve_has_the_info.Goals as goal

pub returns : goal.returns
returns c = λ p a b v shaped words square. first_zero-is_info p (inverse p) a shaped words square
