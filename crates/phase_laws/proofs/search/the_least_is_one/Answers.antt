use Rattle.phase_laws.proofs.Searches.{least-unique}
use Rattle.phase_laws.proofs.search.the_least_is_one.Goals as goal

pub returns : goal.returns
returns c = least-unique
