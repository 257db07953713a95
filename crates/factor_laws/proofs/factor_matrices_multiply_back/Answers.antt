use Rattle.field_core.specs.Residue.{inverse}
use Rattle.factor_laws.proofs.Triangles.{inverts}
use Rattle.factor_laws.proofs.Matrices.{factor_matrices-multiply}
use Rattle.factor_laws.proofs.factor_matrices_multiply_back.Goals as goal

pub returns : goal.returns
returns c = λ p a d prime. factor_matrices-multiply p (inverse p) a d (inverts p prime)
