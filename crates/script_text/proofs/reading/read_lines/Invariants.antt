use Rattle.std.proofs.Common.{◌≡◌, ◌≤◌, [], length}
use Rattle.run_data.specs.Script.{commands_of}
use Rattle.script_words.specs.Limits.{line_limit}
use Rattle.script_rules.specs.Counted.{AreCounts}
use Rattle.script_text.specs.Script.{script_after}
use Rattle.script_words.specs.Lines.{word_lines}
use Rattle.script_text.proofs.reading.read_lines.Given as goal

abbrev pub invariant-loop-rest : goal.invariant-loop-rest
invariant-loop-rest l =
    (script_after l.told l.script (word_lines l.rest) ≡ script_after l.told [] (word_lines l.bytes))
    × AreCounts l.counts (length l.script) (commands_of l.script)
    × (length l.script ≤ line_limit)

abbrev pub decreases-loop-rest : goal.decreases-loop-rest
decreases-loop-rest l = length l.rest
