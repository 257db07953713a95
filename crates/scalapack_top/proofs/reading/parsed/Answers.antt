use Rattle.script_text.proofs.Codes.{code_of_script}
use Rattle.scalapack_top.proofs.reading.parsed.Goals as goal

pub returns-in-Err-Refused-clause-fault : goal.returns-in-Err-Refused-clause-fault
returns-in-Err-Refused-clause-fault c = rw c.refused.ensures (code_of_script c.args.bytes.now c.in-Err-Refused.r (rw c.in-Err-Refused.field-0-is at c.in-Err-Refused.ensures.read))
