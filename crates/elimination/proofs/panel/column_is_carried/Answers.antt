use Rattle.elimination.proofs.PanelLaws.{column-carried_by}
use Rattle.elimination.proofs.panel.column_is_carried.Goals as goal

pub returns : goal.returns
returns c = column-carried_by
