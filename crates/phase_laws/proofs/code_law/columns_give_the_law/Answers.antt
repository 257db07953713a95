use Rattle.phase_laws.proofs.CodeLaws.{coded-law}
use Rattle.phase_laws.proofs.code_law.columns_give_the_law.Goals as goal

pub returns : goal.returns
returns c = coded-law
