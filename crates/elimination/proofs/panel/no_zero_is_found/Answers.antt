use Rattle.elimination.proofs.Info.{least_zero-none}
use Rattle.elimination.proofs.panel.no_zero_is_found.Goals as goal

pub returns : goal.returns
returns c = least_zero-none
