use Rattle.elimination.proofs.StripLaws.{exchanged-on_two}
use Rattle.elimination.proofs.strip.two_strips_exchange.Goals as goal

pub returns : goal.returns
returns c = exchanged-on_two
