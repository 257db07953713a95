use Rattle.phase_laws.proofs.Searches.{push-made}
use Rattle.phase_laws.proofs.search.push_appends_the_pivot.Goals as goal

pub returns : goal.returns
returns c = push-made
