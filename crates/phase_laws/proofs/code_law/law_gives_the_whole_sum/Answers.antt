use Rattle.phase_laws.proofs.CodeLaws.{law-whole}
use Rattle.phase_laws.proofs.code_law.law_gives_the_whole_sum.Goals as goal

pub returns : goal.returns
returns c = law-whole
