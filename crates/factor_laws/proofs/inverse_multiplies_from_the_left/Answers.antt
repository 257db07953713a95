use Rattle.field_core.specs.Residue.{inverse}
use Rattle.factor_laws.proofs.Triangles.{inverts}
use Rattle.factor_laws.proofs.Unique.{inverse-multiplies_left}
use Rattle.factor_laws.proofs.inverse_multiplies_from_the_left.Goals as goal

pub returns : goal.returns
returns c = λ p a b d prime. inverse-multiplies_left p (inverse p) a b d prime.above_one (inverts p prime)
