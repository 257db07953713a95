use Rattle.elimination.proofs.StripLaws.{exchanged-on_one}
use Rattle.elimination.proofs.strip.one_strip_exchanges.Goals as goal

pub returns : goal.returns
returns c = exchanged-on_one
