use Rattle.std.proofs.Common.{◌≡◌, ◌<◌, ◌++◌, true, length, get_or}
use Rattle.script_words.specs.Lines.{is_non_blank, words_of}
use Rattle.script_words.proofs.lines.words_in.Given as goal

abbrev pub invariant-loop-rest : goal.invariant-loop-rest
invariant-loop-rest l = (l.words.items ++ words_of l.rest ≡ words_of l.text) × (0 < length l.rest → is_non_blank (get_or l.rest 0 0) ≡ true)

abbrev pub decreases-loop-rest : goal.decreases-loop-rest
decreases-loop-rest l = length l.rest
