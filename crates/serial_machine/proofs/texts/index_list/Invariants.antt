use Rattle.std.proofs.Common.{◌≡◌, take}
use Rattle.serial_machine.proofs.texts.index_list.Given as goal

abbrev pub invariant-loop-i : goal.invariant-loop-i
invariant-loop-i l = l.list ≡ take l.i l.numbers
