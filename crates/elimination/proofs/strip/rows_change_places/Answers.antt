use Rattle.elimination.proofs.StripLaws.{exchange-held}
use Rattle.elimination.proofs.strip.rows_change_places.Goals as goal

pub returns : goal.returns
returns c = exchange-held
