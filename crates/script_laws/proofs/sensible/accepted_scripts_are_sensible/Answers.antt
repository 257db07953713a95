use Rattle.script_laws.proofs.Factoring.{accepted-sensible}
use Rattle.script_laws.proofs.sensible.accepted_scripts_are_sensible.Goals as goal

pub returns : goal.returns
returns c = accepted-sensible
