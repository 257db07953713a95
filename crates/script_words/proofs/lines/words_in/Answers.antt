use Rattle.std.proofs.Common.{◌≡◌, ◌<◌, ◌++◌, length, sym, ap, ◌∙◌, arith}
use Rattle.std.proofs.lemmas.Bool.{eqb-false}
use Rattle.script_words.specs.Lines.{words_of}
use Rattle.script_words.proofs.Cuts.{words_of-skip, words_more}
use Rattle.script_words.proofs.lines.words_in.Goals as goal

pub loop-rest-init : goal.loop-rest-init
loop-rest-init c = (ap (λ ws. ws ++ words_of c.cut.result.1.now) c.new-words.ensures.items ∙ ap words_of c.cut.ensures.back ∙ words_of-skip c.args.text.now, c.cut.ensures.begins)

pub loop-rest-preserved : goal.loop-rest-preserved
loop-rest-preserved c =
    let rest = c.loop-rest.rest.now in
    let ne : length rest ≡ 0 → ⊥ = eqb-false _ _ (sym c.is_empty.ensures ∙ c.loop-rest-test.true) in
    let lt : 0 < length rest = omega arith in (
      words_more c.loop-rest.words.items c.push.new.self.items _ rest c.in_ok-new.field-0 c.cut-in-loop-rest.result.1.now c.cut-in-loop-rest-2.result.1.now
          c.in_ok-push.ensures.items lt (c.loop-rest.invariant.1 lt) (c.in_ok-new.ensures ∙ c.cut-in-loop-rest.ensures.front) c.cut-in-loop-rest.ensures.back c.cut-in-loop-rest-2.ensures.back c.loop-rest.invariant.0,
      c.cut-in-loop-rest-2.ensures.begins,
    )
