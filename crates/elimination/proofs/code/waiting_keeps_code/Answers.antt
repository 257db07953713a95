use Rattle.elimination.proofs.Stages.{waiting-law}
use Rattle.elimination.proofs.code.waiting_keeps_code.Goals as goal

pub returns : goal.returns
returns c = waiting-law
