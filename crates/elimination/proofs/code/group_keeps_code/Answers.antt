use Rattle.elimination.proofs.Stages.{group-law}
use Rattle.elimination.proofs.code.group_keeps_code.Goals as goal

pub returns : goal.returns
returns c = group-law
