use Rattle.std.proofs.Common.{◌≡◌, ◌<◌, ◌≤◌, length, sym, ◌∙◌, arith}
use Rattle.std.proofs.lemmas.Bool.{eqb-true, eqb-false}
use Rattle.script_rules.specs.Told.{ranks_told}
use Rattle.script_rules.proofs.ToldLines.{told_more, told_end}
use Rattle.script_rules.proofs.told.told_by.Goals as goal

pub loop-rest-preserved : goal.loop-rest-preserved
loop-rest-preserved c =
    let rest = c.loop-rest.rest.now in
    let all = c.loop-rest.all in
    let words = c.deref.result.now in
    let ne : length rest ≡ 0 → ⊥ = eqb-false _ _ (sym c.is_empty.ensures ∙ c.loop-rest-test.true) in
    let lt : 0 < length rest = omega arith in
    let ranks : c.ranks_told.result ≡ ranks_told words = c.ranks_told.ensures.value in
    let few : ranks_told words ≤ 320 = omega (arith, ranks, c.ranks_told.ensures.few) in
    told_more c.args.bytes.now rest c.cut.result.0.now c.cut.result.1.now c.skip_one-rest.result.now words all _ lt c.cut.ensures.front c.cut.ensures.back c.skip_one-rest.ensures c.cut.ensures.parts
    (c.deref.ensures.value ∙ c.in_ok-words.ensures) (omega (arith, ranks, c.from.ensures)) few c.loop-rest.invariant

pub returns : goal.returns
returns c = told_end c.args.bytes.now c.loop-rest.rest.now c.loop-rest.all (eqb-true _ _ (sym c.is_empty.ensures ∙ c.loop-rest-test.false)) c.loop-rest.invariant
