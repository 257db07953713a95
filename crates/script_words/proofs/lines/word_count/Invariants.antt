use Rattle.std.proofs.Common.{◌≡◌, ◌+◌, ◌≤◌, length}
use Rattle.script_words.specs.Lines.{words_of}
use Rattle.script_words.proofs.lines.word_count.Given as goal

abbrev pub invariant-loop-after : goal.invariant-loop-after
invariant-loop-after l = (l.count + length (words_of l.rest) ≡ length (words_of l.text)) × (l.count + length l.rest ≤ length l.text)

abbrev pub decreases-loop-after : goal.decreases-loop-after
decreases-loop-after l = length l.rest
