use Rattle.run_data.specs.Matrix.{Matrix}
use Rattle.script_words.specs.MatrixFile.{matrix_of}
use Rattle.scalapack_top.specs.Input.{of_text}
use Rattle.scalapack_top.proofs.OneRead.{step_text, step_unread}
use Rattle.scalapack_top.proofs.reading.read_matrix.Goals as goal

pub returns-in-Ok-clause-read : goal.returns-in-Ok-clause-read
returns-in-Ok-clause-read g c =
    step_text c.args.line c.args.name.now (λ (a : Matrix). a) (λ bytes. of_text (matrix_of c.args.modulus bytes c.args.line c.args.m c.args.n)) _ _ _ _ _ _ c.in-Ok.bytes c.matrix_in.result c.in-Ok.ensures.read (rw c.deref.ensures.value at c.matrix_in.ensures.due) c.matrix_in.ensures.fault

pub returns-in-Err-clause-read : goal.returns-in-Err-clause-read
returns-in-Err-clause-read g c = step_unread c.args.line c.args.name.now (λ (a : Matrix). a) (λ bytes. of_text (matrix_of c.args.modulus bytes c.args.line c.args.m c.args.n)) _ _ _ _ _ _ c.in-Err.e c.in-Err.ensures.read
