use Rattle.phase_laws.proofs.Searches.{found-none}
use Rattle.phase_laws.proofs.search.none_found_is_no_pivot.Goals as goal

pub returns : goal.returns
returns c = found-none
