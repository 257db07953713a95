use Rattle.phase_laws.proofs.CodeLaws.{law-coded}
use Rattle.phase_laws.proofs.code_law.law_gives_the_code.Goals as goal

pub returns : goal.returns
returns c = law-coded
