use Rattle.phase_laws.proofs.CodeLaws.{making-coded}
use Rattle.phase_laws.proofs.code_law.making_gives_the_code.Goals as goal

pub returns : goal.returns
returns c = making-coded
