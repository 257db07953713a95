use Rattle.std.proofs.Common.{[], sym, ap, ◌∙◌, arith, List, Option}
use Rattle.run_data.specs.Script.{commands_of}
use Rattle.run_data.specs.declared.command.Command.{Command}
use Rattle.script_bounds.specs.Flipping.{count_from}
use Rattle.script_bounds.proofs.Flipping.{count-from}
use Rattle.script_bounds.proofs.flips.pending_flips.Goals as goal

pub loop-i-init : goal.loop-i-init
loop-i-init c =
    (ap (λ (ls : List (Option Command)). count_from (commands_of ls) c.args.line c.args.name.now 0) c.as_slice-lines.ensures ∙ sym (count-from (commands_of c.args.script.now) c.args.line c.args.name.now []), omega arith)
