use Rattle.elimination.proofs.PanelLaws.{columns-pivots}
use Rattle.elimination.proofs.panel.pivots_are_rows.Goals as goal

pub returns : goal.returns
returns c = columns-pivots
