use Rattle.std.proofs.Common.{◌≡◌, suc, drop}
use Rattle.std.specs.List.{list_all}
use Rattle.run_data.specs.Script.{commands_from, commands_of}
use Rattle.run_data.specs.Flips.{pending}
use Rattle.script_rules.specs.Rules.{is_apart}
use Rattle.script_rules.specs.Flipping.{all_from}
use Rattle.script_rules.proofs.flips.are_apart.Given as goal

abbrev pub invariant-loop-at : goal.invariant-loop-at
invariant-loop-at l = all_from (commands_from (suc l.at) (drop l.at l.script)) l.line l.name (is_apart l.a l.i l.j) l.apart ≡ list_all (is_apart l.a l.i l.j) (pending (commands_of l.script) l.line l.name)
