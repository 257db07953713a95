use Rattle.field_core.specs.Residue.{inverse}
use Rattle.factor_laws.proofs.Triangles.{inverts}
use Rattle.factor_laws.proofs.Matrices.{inverse-multiplies}
use Rattle.factor_laws.proofs.inverse_multiplies_to_ones.Goals as goal

pub returns : goal.returns
returns c = λ p a b d prime. inverse-multiplies p (inverse p) a b d prime.above_one (inverts p prime)
