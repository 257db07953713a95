use Rattle.field_core.specs.Residue.{inverse}
use Rattle.factor_laws.proofs.Triangles.{inverts}
use Rattle.factor_laws.proofs.Matrices.{system-solved}
use Rattle.factor_laws.proofs.systems_are_solved.Goals as goal

pub returns : goal.returns
returns c = λ p a b d prime. system-solved p (inverse p) a b d (inverts p prime)
