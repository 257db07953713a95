use Rattle.phase_laws.proofs.Searches.{found-row}
use Rattle.phase_laws.proofs.search.found_row_is_the_pivot.Goals as goal

pub returns : goal.returns
returns c = found-row
