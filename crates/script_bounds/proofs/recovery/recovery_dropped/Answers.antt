use Rattle.std.proofs.Common.{◌+◌, ◌∙◌, arith}
use Rattle.script_bounds.proofs.Living.{dropped_there, dropped_is}
use Rattle.script_bounds.proofs.recovery.recovery_dropped.Goals as goal

pub overflow_sub-at : goal.overflow_sub-at
overflow_sub-at c = (dropped_there c.args.script.now (c.args.place + 1) c.in-Some.at c.bytes.result.now c.in-Some-command.made.now c.in-Some.ensures c.in-Some-command.ensures).low

pub recovery_made-requires-clause-there : goal.recovery_made-requires-clause-there
recovery_made-requires-clause-there c = (dropped_there c.args.script.now (c.args.place + 1) c.in-Some.at c.bytes.result.now c.in-Some-command.made.now c.in-Some.ensures c.in-Some-command.ensures).there

pub recovery_made-requires-clause-few : goal.recovery_made-requires-clause-few
recovery_made-requires-clause-few c =
    let h = dropped_there c.args.script.now (c.args.place + 1) c.in-Some.at c.bytes.result.now c.in-Some-command.made.now c.in-Some.ensures c.in-Some-command.ensures in
    omega (arith, h.early, h.low)

pub returns-in-Some-command-clause-value : goal.returns-in-Some-command-clause-value
returns-in-Some-command-clause-value c =
    c.recovery_made.ensures.value
    ∙ dropped_is c.args.script.now c.args.place (c.args.place + 1) c.in-Some.at c.in-Discard.name c.bytes.result.now c.args.command.now c.in-Some-command.made.now (omega arith) c.bytes.ensures c.in-Discard.is c.in-Some.ensures c.in-Some-command.ensures
