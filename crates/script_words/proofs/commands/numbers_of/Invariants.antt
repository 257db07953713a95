use Rattle.std.proofs.Common.{◌≡◌, drop}
use Rattle.script_words.specs.Commands.{numbers_of}
use Rattle.script_words.proofs.Numbering.{onto}
use Rattle.script_words.proofs.commands.numbers_of.Given as goal

abbrev pub invariant-loop-word : goal.invariant-loop-word
invariant-loop-word l = onto l.numbers (numbers_of (drop l.word-index l.words)) ≡ numbers_of l.words
