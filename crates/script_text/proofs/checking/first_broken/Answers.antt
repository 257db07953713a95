use Rattle.std.proofs.Common.{◌≡◌, suc, ◌+◌, ◌<◌, [], length, sym, ap, ◌∙◌, arith}
use mir.Val.{SFits}
use mir.Syntax.{w32}
use Rattle.std.proofs.Common.{rules as search_rules}
use Rattle.std.proofs.lemmas.Int.{to_z-of_z}
use Rattle.std.specs.Prelude.{Some}
use Rattle.run_data.specs.Script.{commands_of}
use Rattle.script_rules.specs.declared.told.Told.{Told}
use Rattle.script_text.specs.Script.{refused}
use Rattle.script_text.specs.Check.{told_of, first_broken}
use Rattle.script_text.proofs.Places.{checked_more, checked_stops, checked_end}
use Rattle.script_text.proofs.checking.first_broken.Goals as goal

pub returns-in-Err : goal.returns-in-Err
returns-in-Err c =
    let script = c.args.script.now in
    let told : Told = record { ranks = c.all_ranks.result } in
    let same : told ≡ told_of (commands_of script) = λ i. record { ranks = c.all_ranks.ensures i } in
    let fits : SFits w32 c.in-Err.code = search search_rules in
    let within : c.loop-place.place < length script = omega (arith, c.loop-place-test.true, c.lines-place-end.ensures) in
    let line : suc c.loop-place.place ≡ c.loop-place.place + 1 = omega arith in
    ap (λ z. Some (refused (c.loop-place.place + 1) z)) (to_z-of_z w32 c.in-Err.code fits) ∙ ap (λ n. Some (refused n c.in-Err.code)) (sym line)
    ∙ sym (checked_stops told script c.loop-place.place c.loop-place.counts c.in-Err.code within c.in-Err.ensures.broken c.loop-place.invariant)
    ∙ ap (λ t. first_broken t [] script) same

pub loop-place-preserved : goal.loop-place-preserved
loop-place-preserved c =
    let within : c.loop-place.place < length c.args.script.now = omega (arith, c.loop-place-test.true, c.lines-place-end.ensures) in
    checked_more (record { ranks = c.all_ranks.result }) c.args.script.now c.loop-place.place c.loop-place.counts c.in-Ok.after within c.in-Ok.ensures.kept
    c.in-Ok.ensures.counted c.loop-place.invariant

pub returns : goal.returns
returns c =
    let script = c.args.script.now in
    let told : Told = record { ranks = c.all_ranks.result } in
    let same : told ≡ told_of (commands_of script) = λ i. record { ranks = c.all_ranks.ensures i } in
    let all : c.loop-place.place ≡ length script = omega (arith, c.loop-place-test.false, c.loop-place.auto.place-end, c.lines-place-end.ensures) in
    sym (checked_end told script c.loop-place.place c.loop-place.counts all c.loop-place.invariant) ∙ ap (λ t. first_broken t [] script) same
