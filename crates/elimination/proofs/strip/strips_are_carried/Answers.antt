use Rattle.elimination.proofs.StripColumns.{carried-held}
use Rattle.elimination.proofs.strip.strips_are_carried.Goals as goal

pub returns : goal.returns
returns c = carried-held
