use Rattle.script_text.proofs.Codes.{code_of_matrix}
use Rattle.scalapack_top.proofs.reading.matrix_in.Goals as goal

pub returns-in-Err-Refused-clause-fault : goal.returns-in-Err-Refused-clause-fault
returns-in-Err-Refused-clause-fault c =
    rw c.refused.ensures (code_of_matrix c.args.modulus c.args.bytes.now c.args.file c.args.m c.args.n c.in-Err-Refused.r (rw c.in-Err-Refused.field-0-is at c.in-Err-Refused.ensures.read))
