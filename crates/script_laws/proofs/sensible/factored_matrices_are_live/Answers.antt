use Rattle.script_laws.proofs.Factoring.{factored-live}
use Rattle.script_laws.proofs.sensible.factored_matrices_are_live.Goals as goal

pub returns : goal.returns
returns c = factored-live
