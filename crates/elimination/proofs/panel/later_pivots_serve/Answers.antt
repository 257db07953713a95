use Rattle.elimination.proofs.PanelLaws.{panel-later}
use Rattle.elimination.proofs.panel.later_pivots_serve.Goals as goal

pub returns : goal.returns
returns c = panel-later
