use Rattle.phase_rounds.proofs.Searches.{searches}
use Rattle.phase_rounds.proofs.rounds.searches_find_pivots.Goals as goal

pub returns : goal.returns
returns c = searches
