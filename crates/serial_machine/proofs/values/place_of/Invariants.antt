use Rattle.std.proofs.Common.{◌≡◌, ◌+◌, ◌-◌, drop, length}
use Rattle.serial_machine.specs.Values.{place_in}
use Rattle.serial_machine.proofs.values.place_of.Given as goal

abbrev pub invariant-loop-at : goal.invariant-loop-at
invariant-loop-at l = place_in l.entries l.name ≡ l.at + place_in (drop l.at l.entries) l.name

abbrev pub decreases-loop-at : goal.decreases-loop-at
decreases-loop-at l = length l.entries - l.at
