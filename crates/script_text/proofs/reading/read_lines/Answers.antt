use Rattle.std.proofs.Common.{◌≡◌, ◌<◌, suc, length, drop, subst, refl, sym, ap, ◌∙◌, arith}
use Rattle.std.proofs.lemmas.Bool.{eqb-true, eqb-false}
use Rattle.run_data.specs.Script.{commands_of}
use Rattle.script_rules.specs.Counted.{AreCounts}
use Rattle.script_rules.proofs.Before.{length-more}
use Rattle.script_text.proofs.ScriptLoop.{goes_on, stops, ends}
use Rattle.script_text.proofs.reading.read_lines.Goals as goal

pub returns-in-Err : goal.returns-in-Err
returns-in-Err c =
    let rest = c.loop-rest.rest.now in
    let ne : length rest ≡ 0 → ⊥ = eqb-false _ _ (sym c.is_empty.ensures ∙ c.loop-rest-test.true) in
    let lt : 0 < length rest = omega arith in
    stops c.args.told c.loop-rest.script rest c.cut.result.0.now c.cut.result.1.now (drop 1 c.cut.result.1.now) c.deref.result.now c.in-Err.fault _ lt c.cut.ensures.front c.cut.ensures.back refl
    (c.deref.ensures.value ∙ c.in_ok-words.ensures) c.in-Err.ensures.refused c.loop-rest.invariant.0

pub loop-rest-preserved : goal.loop-rest-preserved
loop-rest-preserved c =
    let rest = c.loop-rest.rest.now in
    let script = c.loop-rest.script in
    let ne : length rest ≡ 0 → ⊥ = eqb-false _ _ (sym c.is_empty.ensures ∙ c.loop-rest-test.true) in
    let lt : 0 < length rest = omega arith in
    let pushed = c.in_ok-push.ensures.pushed in
    let size : length c.push.new.self ≡ suc (length script) = ap length pushed ∙ length-more script _ in (
      goes_on c.args.told script c.push.new.self rest c.cut.result.0.now c.cut.result.1.now c.skip_one-rest.result.now c.deref.result.now _ _ lt c.cut.ensures.front c.cut.ensures.back c.skip_one-rest.ensures
          (c.deref.ensures.value ∙ c.in_ok-words.ensures) c.in-Ok.ensures.line pushed c.loop-rest.invariant.0,
      subst (λ n. AreCounts c.in-Ok.read.counts n (commands_of c.push.new.self)) (sym size) (subst (λ s. AreCounts c.in-Ok.read.counts (suc (length script)) (commands_of s)) (sym pushed) c.in-Ok.ensures.counted),
      omega (arith, size, c.in-Ok.ensures.few),
    )

pub returns : goal.returns
returns c = ends c.args.told c.loop-rest.script c.loop-rest.rest.now _ (eqb-true _ _ (sym c.is_empty.ensures ∙ c.loop-rest-test.false)) c.loop-rest.invariant.0
