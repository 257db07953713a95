use Rattle.std.proofs.Common.{◌≡◌, ◌<◌, ◌≤◌, ◌^◌, length, drop}
use Rattle.std.specs.Str.{all_ascii_digits}
use Rattle.script_words.specs.Numbers.{value_on}
use Rattle.script_words.proofs.numbers.number_of.Given as goal

abbrev pub invariant-loop-b : goal.invariant-loop-b
invariant-loop-b l = (value_on l.value (drop l.b-index l.word) ≡ value_on 0 l.word) × (all_ascii_digits (drop l.b-index l.word) ≡ all_ascii_digits l.word) × (l.value < 10 ^ l.b-index) × (length l.word ≤ 10)
