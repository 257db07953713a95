use Rattle.elimination.proofs.PanelLaws.{panel-is_columns}
use Rattle.elimination.proofs.panel.panel_eliminates.Goals as goal

pub returns : goal.returns
returns c = panel-is_columns
