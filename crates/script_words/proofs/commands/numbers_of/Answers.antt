use Rattle.std.proofs.Common.{◌≡◌, length, sym, ap, ◌∙◌, arith}
use Rattle.script_words.specs.Numbers.{number_of}
use Rattle.script_words.proofs.Numbering.{numbers_more, numbers_fail, numbers_end}
use Rattle.script_words.proofs.commands.numbers_of.Goals as goal

pub returns-in_default : goal.returns-in_default
returns-in_default c =
    numbers_fail c.loop-word.numbers c.args.words.now c.loop-word.word-index _ _ c.loop-word-test.true
    (sym (ap number_of (c.bytes.ensures ∙ c.word-item.is)) ∙ sym c.number_of.ensures ∙ c.in_default.is) c.loop-word.invariant

pub loop-word-preserved : goal.loop-word-preserved
loop-word-preserved c =
    numbers_more c.loop-word.numbers c.push.new.self c.args.words.now c.loop-word.word-index c.in-Some.n _ _ c.loop-word-test.true
    (sym (ap number_of (c.bytes.ensures ∙ c.word-item.is)) ∙ sym c.number_of.ensures ∙ c.in-Some.is) c.in_ok-push.ensures.pushed c.loop-word.invariant

pub returns : goal.returns
returns c =
    let all : c.loop-word.word-index ≡ length c.args.words.now = omega (arith, c.loop-word-test.false, c.loop-word.auto.word-index-end) in
    numbers_end c.loop-word.numbers c.args.words.now c.loop-word.word-index _ all c.loop-word.invariant
