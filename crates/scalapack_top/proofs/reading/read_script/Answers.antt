use Rattle.std.proofs.Common.{List, Option}
use Rattle.run_data.specs.declared.command.Command.{Command}
use Rattle.scalapack_top.specs.Input.{script_in}
use Rattle.scalapack_top.proofs.OneRead.{step_text, step_unread}
use Rattle.scalapack_top.proofs.reading.read_script.Goals as goal

pub returns-in-Ok-clause-read : goal.returns-in-Ok-clause-read
returns-in-Ok-clause-read g c = step_text 0 c.args.name.now (λ (s : List (Option Command)). s) (script_in c.args.machine) _ _ _ _ _ _ c.in-Ok.bytes c.script_in.result c.in-Ok.ensures.read (rw c.deref.ensures.value at c.script_in.ensures.due) c.script_in.ensures.fault

pub returns-in-Err-clause-read : goal.returns-in-Err-clause-read
returns-in-Err-clause-read g c = step_unread 0 c.args.name.now (λ (s : List (Option Command)). s) (script_in c.args.machine) _ _ _ _ _ _ c.in-Err.e c.in-Err.ensures.read
