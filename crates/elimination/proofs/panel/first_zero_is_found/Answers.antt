use Rattle.elimination.proofs.Info.{least_zero-first}
use Rattle.elimination.proofs.panel.first_zero_is_found.Goals as goal

pub returns : goal.returns
returns c = least_zero-first
