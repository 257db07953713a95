use Rattle.phase_laws.proofs.Searches.{least-pivot}
use Rattle.phase_laws.proofs.search.least_number_is_the_pivot.Goals as goal

pub returns : goal.returns
returns c = least-pivot
