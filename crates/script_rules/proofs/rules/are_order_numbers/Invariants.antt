use Rattle.std.proofs.Common.{◌≡◌, drop}
use Rattle.std.specs.List.{list_all}
use Rattle.script_rules.specs.Rules.{is_order_number}
use Rattle.script_rules.proofs.rules.are_order_numbers.Given as goal

abbrev pub invariant-loop-i : goal.invariant-loop-i
invariant-loop-i l = list_all is_order_number (drop l.i l.numbers) ≡ list_all is_order_number l.numbers
