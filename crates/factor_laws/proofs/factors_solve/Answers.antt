use Rattle.field_core.specs.Residue.{inverse}
use Rattle.serial_model.specs.Elimination.{elimination}
use Rattle.factor_laws.proofs.Triangles.{inverts}
use Rattle.factor_laws.proofs.Solves.{factored-of, factors-solve}
use Rattle.factor_laws.proofs.factors_solve.Goals as goal

pub returns : goal.returns
returns c = λ p n a b i prime ready none h.
    factors-solve p (inverse p) n a (elimination p (inverse p) n n a).words (elimination p (inverse p) n n a).pivots b i (factored-of p (inverse p) n a (inverts p prime) ready none) h
