use Rattle.std.proofs.Common.{◌≡◌, ◌<◌, length, sym, ◌∙◌, arith}
use Rattle.std.proofs.lemmas.Bool.{eqb-true, eqb-false}
use Rattle.script_words.proofs.Cuts.{words_of-blanks, words_of-first}
use Rattle.script_words.proofs.lines.next_word.Goals as goal

pub returns-then-is_empty-clause-none : goal.returns-then-is_empty-clause-none
returns-then-is_empty-clause-none c = words_of-blanks c.args.text.now c.cut.result.1.now c.cut.ensures.back (eqb-true _ _ (sym c.is_empty.ensures ∙ c.if-is_empty.true))

pub returns-clause-some : goal.returns-clause-some
returns-clause-some c =
    let rest = c.cut.result.1.now in
    let ne : length rest ≡ 0 → ⊥ = eqb-false _ _ (sym c.is_empty.ensures ∙ c.if-is_empty.false) in
    let lt : 0 < length rest = omega arith in
    words_of-first c.args.text.now rest c.cut-2.result.0.now c.cut-2.result.1.now c.cut.ensures.back lt (c.cut.ensures.begins lt) c.cut-2.ensures.front c.cut-2.ensures.back
