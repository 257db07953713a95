use Rattle.elimination.proofs.StripColumns.{group-outside}
use Rattle.elimination.proofs.strip.groups_are_outside.Goals as goal

pub returns : goal.returns
returns c = group-outside
