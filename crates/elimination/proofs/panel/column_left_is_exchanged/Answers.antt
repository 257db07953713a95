use Rattle.elimination.proofs.PanelLaws.{column-exchanged_by}
use Rattle.elimination.proofs.panel.column_left_is_exchanged.Goals as goal

pub returns : goal.returns
returns c = column-exchanged_by
