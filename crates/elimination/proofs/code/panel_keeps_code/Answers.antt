use Rattle.elimination.proofs.Stages.{panel-law}
use Rattle.elimination.proofs.code.panel_keeps_code.Goals as goal

pub returns : goal.returns
returns c = panel-law
