use Rattle.elimination.proofs.StripLaws.{exchanges-held}
use Rattle.elimination.proofs.strip.exchanges_go_on.Goals as goal

pub returns : goal.returns
returns c = exchanges-held
