use Rattle.elimination.proofs.Stages.{close-law}
use Rattle.elimination.proofs.code.closing_keeps_code.Goals as goal

pub returns : goal.returns
returns c = close-law
