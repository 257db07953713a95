use Rattle.factor_laws.proofs.Unique.{exchanged_back-next}
use Rattle.factor_laws.proofs.falling_exchanges_go_on.Goals as goal

pub returns : goal.returns
returns c = exchanged_back-next
