use Rattle.script_laws.proofs.FieldLines.{accepted-field}
use Rattle.script_laws.proofs.fields.accepted_scripts_have_one_of_two_fields.Goals as goal

pub returns : goal.returns
returns c = accepted-field
