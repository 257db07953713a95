use Rattle.elimination.proofs.PanelLaws.{columns-split}
use Rattle.elimination.proofs.panel.columns_follow_one_another.Goals as goal

pub returns : goal.returns
returns c = columns-split
