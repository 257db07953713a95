use Rattle.std.proofs.Common.{refl}
use Rattle.factor_laws.proofs.plain_solves_are_the_same.Goals as goal

pub returns : goal.returns
returns c = record { triangle = λ p lower unit alpha a b. refl; factors = λ p a b v. refl }
