use Rattle.elimination.proofs.CodeLaws.{carried-weighted}
use Rattle.elimination.proofs.code.panel_is_linear.Goals as goal

pub returns : goal.returns
returns c = carried-weighted
