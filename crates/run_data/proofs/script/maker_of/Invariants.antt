use Rattle.std.proofs.Common.{◌≡◌, suc, drop}
use Rattle.run_data.specs.Script.{commands_from, commands_of, maker_from, maker}
use Rattle.run_data.proofs.script.maker_of.Given as goal

abbrev pub invariant-loop-i : goal.invariant-loop-i
invariant-loop-i l = maker_from (commands_from (suc l.i) (drop l.i l.lines)) l.line l.name l.maker ≡ maker (commands_of l.lines) l.line l.name
