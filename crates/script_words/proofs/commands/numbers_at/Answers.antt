use Rattle.std.proofs.Common.{◌≡◌, ℕ, ◌<◌, List, [], map, length, Some, sym, ap, ◌∙◌, arith}
use Rattle.std.proofs.lemmas.List.{get_or-map, take_more_set, length-map, length-set}
use Rattle.script_words.specs.Numbers.{number_of}
use Rattle.script_words.specs.Commands.{word_at}
use Rattle.script_words.proofs.Cuts.{take_whole}
use Rattle.script_words.proofs.Numbering.{numbers_more, numbers_fail, numbers_end}
use Rattle.script_words.proofs.commands.numbers_at.Goals as goal

pub returns-in_err-numbers : goal.returns-in_err-numbers
returns-in_err-numbers g c =
    let places = c.args.places in
    let f = word_at c.args.words.now in
    let lt : c.loop-i.i < length places = omega (arith, c.loop-i-test.true, c.loop-i.invariant.0) in
    let lt' : c.loop-i.i < length (map f places) = omega (arith, lt, length-map places f) in
    c.from_residual.ensures ∙ numbers_fail _ (map f places) c.loop-i.i [] _ lt' (ap number_of (get_or-map f places c.loop-i.i 0 [] lt) ∙ sym c.in_err-numbers.ensures) c.loop-i.invariant.1

pub loop-i-preserved : goal.loop-i-preserved
loop-i-preserved g c =
    let places = c.args.places in
    let f = word_at c.args.words.now in
    let lt : c.loop-i.i < length places = omega (arith, c.loop-i-test.true, c.loop-i.invariant.0) in
    let lt' : c.loop-i.i < length (map f places) = omega (arith, lt, length-map places f) in
    let room : c.loop-i.i < length c.loop-i.numbers = omega (arith, lt, c.loop-i.invariant.0) in (
      length-set c.loop-i.numbers c.loop-i.i c.in_ok-numbers.field-0 ∙ c.loop-i.invariant.0,
      numbers_more _ _ (map f places) c.loop-i.i c.in_ok-numbers.field-0 [] _ lt' (ap number_of (get_or-map f places c.loop-i.i 0 [] lt) ∙ sym c.in_ok-numbers.ensures)
          (take_more_set c.loop-i.numbers c.loop-i.i c.in_ok-numbers.field-0 room) c.loop-i.invariant.1,
    )

pub returns : goal.returns
returns g c =
    let places = c.args.places in
    let f = word_at c.args.words.now in
    let end : c.loop-i.i ≡ length c.loop-i.numbers = omega (arith, c.loop-i-test.false, c.loop-i.auto.i-end, c.loop-i.invariant.0) in
    let end' : c.loop-i.i ≡ length (map f places) = omega (arith, end, c.loop-i.invariant.0, length-map places f) in
    ap (λ (ns : List ℕ). Some ns) (sym (take_whole c.loop-i.numbers c.loop-i.i end)) ∙ numbers_end _ (map f places) c.loop-i.i _ end' c.loop-i.invariant.1
