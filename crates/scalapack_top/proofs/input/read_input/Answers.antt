use Rattle.scalapack_top.proofs.Steps.{input_fails, input_then_fails, input_ok}
use Rattle.scalapack_top.proofs.input.read_input.Goals as goal

pub returns-in-Err-clause-read : goal.returns-in-Err-clause-read
returns-in-Err-clause-read g c = input_fails c.args.machine c.args.name.now _ _ _ _ _ _ c.in-Err.e c.in-Err.ensures.read

pub returns-in-Ok-files_of-clause-read : goal.returns-in-Ok-files_of-clause-read
returns-in-Ok-files_of-clause-read g c = input_ok c.args.machine c.args.name.now _ _ _ _ _ _ c.in-Ok.script c.in-Ok.ensures.read _ _ _ c.in-Ok-files_of.files c.in-Ok-files_of.ensures.read

pub returns-in-Err-files_of-clause-read : goal.returns-in-Err-files_of-clause-read
returns-in-Err-files_of-clause-read g c = input_then_fails c.args.machine c.args.name.now _ _ _ _ _ _ c.in-Ok.script c.in-Ok.ensures.read _ _ _ c.in-Err-files_of.e c.in-Err-files_of.ensures.read
