use Rattle.std.proofs.Common.{◌<◌, arith, ℕ}
use Rattle.field_core.specs.Residue.{IsPrime, inverse}
use Rattle.factor_laws.proofs.Triangles.{inverts}
use Rattle.factor_laws.proofs.Sides.{left-solves, right-solves}
use Rattle.factor_laws.proofs.triangles_are_solved.Goals as goal

positive : (p : ℕ) → IsPrime p → 0 < p
positive p prime = omega (arith, prime.above_one)

pub returns : goal.returns
returns c = record {
  left = λ p trans lower unit alpha a b d prime. left-solves p (inverse p) trans lower unit alpha a b d (positive p prime) (inverts p prime);
  right = λ p trans lower unit alpha a b d prime. right-solves p (inverse p) trans lower unit alpha a b d (positive p prime) (inverts p prime);
}
