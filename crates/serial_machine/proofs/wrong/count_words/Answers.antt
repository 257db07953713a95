use Rattle.std.proofs.Common.{◌≡◌, ◌∙◌, length, sym, arith}
use Rattle.field_core.proofs.Sums.{sum_to-none}
use Rattle.serial_machine.proofs.Errors.{counts, words-counted, one-counted, none-counted}
use Rattle.serial_machine.proofs.wrong.count_words.Goals as goal
use Rattle.serial_machine.proofs.wrong.count_words.Goals.{then-word-ne0, else-word-ne0}

pub loop-word-init : goal.loop-word-init
loop-word-init c = record { within = omega arith; counted = sym (sum_to-none (counts c.words-words.result.now)) }

pub loop-word-preserved : goal.loop-word-preserved
loop-word-preserved c =
    elim c.if-word-ne0.branch [
      | then-word-ne0 w ↦ record { within = omega arith; counted = w.count-is ∙ one-counted c.words-words.result.now c.loop-word.word-index c.loop-word.count w.if-word-ne0.true c.loop-word.invariant.counted }
      | else-word-ne0 w ↦ record { within = omega arith; counted = w.count-is ∙ none-counted c.words-words.result.now c.loop-word.word-index c.loop-word.count w.if-word-ne0.false c.loop-word.invariant.counted }
    ]

pub returns : goal.returns
returns c =
    let all : c.loop-word.word-index ≡ length c.words-words.result.now = omega arith in
    words-counted c.args.m.now c.words-words.result.now c.loop-word.count c.loop-word.word-index all c.words-words.ensures.size c.words-words.ensures.words c.loop-word.invariant.counted
