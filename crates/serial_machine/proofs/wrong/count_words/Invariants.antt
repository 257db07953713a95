use Rattle.std.proofs.Common.{◌≡◌, ◌≤◌}
use Rattle.field_core.specs.Sums.{sum_to}
use Rattle.serial_machine.proofs.Errors.{counts}
use Rattle.serial_machine.proofs.wrong.count_words.Given as goal

abbrev pub invariant-loop-word : goal.invariant-loop-word
invariant-loop-word l = record { within : l.count ≤ l.word-index; counted : l.count ≡ sum_to l.word-index (counts l.words) }
