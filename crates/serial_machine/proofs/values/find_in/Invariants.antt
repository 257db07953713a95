use Rattle.std.proofs.Common.{◌≡◌, drop}
use Rattle.serial_machine.specs.Values.{values_of}
use Rattle.serial_machine.proofs.values.find_in.Given as goal

abbrev pub invariant-loop-entry : goal.invariant-loop-entry
invariant-loop-entry l = values_of (drop l.entry-index l.entries) l.name ≡ values_of l.entries l.name
