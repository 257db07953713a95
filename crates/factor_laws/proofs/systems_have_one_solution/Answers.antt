use Rattle.field_core.specs.Residue.{inverse}
use Rattle.serial_model.specs.Elimination.{elimination}
use Rattle.factor_laws.proofs.Triangles.{inverts}
use Rattle.factor_laws.proofs.Solves.{factored-of}
use Rattle.factor_laws.proofs.Unique.{one-solution}
use Rattle.factor_laws.proofs.systems_have_one_solution.Goals as goal

pub returns : goal.returns
returns c = λ p n a x y prime ready none.
    one-solution p (inverse p) n a (elimination p (inverse p) n n a).words (elimination p (inverse p) n n a).pivots x y (factored-of p (inverse p) n a (inverts p prime) ready none)
