use Rattle.phase_laws.proofs.Searches.{least_of-is}
use Rattle.phase_laws.proofs.search.smaller_of_two_gives_the_least.Goals as goal

pub returns : goal.returns
returns c = least_of-is
