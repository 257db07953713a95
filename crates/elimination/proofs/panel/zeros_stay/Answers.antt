use Rattle.elimination.proofs.Words.{zero-column}
use Rattle.elimination.proofs.panel.zeros_stay.Goals as goal

pub returns : goal.returns
returns c = zero-column
