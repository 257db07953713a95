use Rattle.script_laws.proofs.FieldLines.{accepted-prime}
use Rattle.script_laws.proofs.fields.accepted_scripts_have_prime_fields.Goals as goal

pub returns : goal.returns
returns c = accepted-prime
