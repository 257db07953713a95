use Rattle.elimination.proofs.StripColumns.{group-own}
use Rattle.elimination.proofs.strip.own_group_has_the_panel.Goals as goal

pub returns : goal.returns
returns c = group-own
