use Rattle.std.proofs.Common.{◌≡◌, map, drop, take, length}
use Rattle.script_words.specs.Commands.{word_at, numbers_of}
use Rattle.script_words.proofs.Numbering.{onto}
use Rattle.script_words.proofs.commands.numbers_at.Given as goal

abbrev pub invariant-loop-i : goal.invariant-loop-i
invariant-loop-i g l =
    (length l.numbers ≡ length l.places)
    × (onto (take l.i l.numbers) (numbers_of (drop l.i (map (word_at l.words) l.places))) ≡ numbers_of (map (word_at l.words) l.places))
