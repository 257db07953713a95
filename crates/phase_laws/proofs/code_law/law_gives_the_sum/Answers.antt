use Rattle.phase_laws.proofs.CodeLaws.{law-summed}
use Rattle.phase_laws.proofs.code_law.law_gives_the_sum.Goals as goal

pub returns : goal.returns
returns c = law-summed
