use Rattle.elimination.proofs.PanelLaws.{ready-columns}
use Rattle.elimination.proofs.panel.columns_stay_ready.Goals as goal

pub returns : goal.returns
returns c = ready-columns
