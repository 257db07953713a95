use Rattle.factor_laws.proofs.Unique.{exchanged_back-keeps}
use Rattle.factor_laws.proofs.falling_exchanges_are_linear.Goals as goal

pub returns : goal.returns
returns c = exchanged_back-keeps
