use Rattle.phase_laws.proofs.Diagonals.{least-info}
use Rattle.phase_laws.proofs.search.least_zero_is_info.Goals as goal

pub returns : goal.returns
returns c = least-info
