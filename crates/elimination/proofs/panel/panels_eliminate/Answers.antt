use Rattle.elimination.proofs.PanelLaws.{panels-are_elimination}
use Rattle.elimination.proofs.panel.panels_eliminate.Goals as goal

pub returns : goal.returns
returns c = panels-are_elimination
