use Rattle.std.proofs.Common.{◌≡◌, ◌++◌, suc, drop}
use Rattle.run_data.specs.Script.{commands_from, commands_of}
use Rattle.script_run.specs.Orders.{numbers_in}
use Rattle.script_run.proofs.opening.order_of.Given as goal

abbrev pub invariant-loop-i : goal.invariant-loop-i
invariant-loop-i l = l.order ++ numbers_in (commands_from (suc l.i) (drop l.i l.lines)) ≡ numbers_in (commands_of l.lines)
