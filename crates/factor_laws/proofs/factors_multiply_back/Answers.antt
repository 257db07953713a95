use Rattle.field_core.specs.Residue.{inverse}
use Rattle.factor_laws.proofs.Triangles.{inverts}
use Rattle.factor_laws.proofs.Factors.{factors-multiply}
use Rattle.factor_laws.proofs.factors_multiply_back.Goals as goal

pub returns : goal.returns
returns c = λ p m n a i j prime ready h. factors-multiply p (inverse p) m n a i j (inverts p prime) ready h
