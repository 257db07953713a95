use Rattle.field_core.specs.Residue.{inverse}
use Rattle.factor_laws.proofs.Sides.{side-info, side-stays}
use Rattle.factor_laws.proofs.sides_have_the_info.Goals as goal

pub returns : goal.returns
returns c = record { info = λ p. side-info p (inverse p); stays = λ p. side-stays p (inverse p) }
