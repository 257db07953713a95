use Rattle.std.proofs.Common.{◌≡◌, take}
use Rattle.serial_machine.specs.Errors.{errors_of}
use Rattle.serial_machine.proofs.wrong.errors_of.Given as goal

abbrev pub invariant-loop-flip : goal.invariant-loop-flip
invariant-loop-flip g l = l.errors ≡ errors_of g.K.Field.MODULUS l.rows l.cols (take l.flip-index l.flips)
