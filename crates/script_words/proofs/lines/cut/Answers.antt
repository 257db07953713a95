use Rattle.std.proofs.Common.{◌≡◌, true, length, get_or, subst, sym, ◌∙◌, arith}
use Rattle.script_words.specs.Lines.{stops_at}
use Rattle.script_words.proofs.Cuts.{PassesTo, until_at, until_end, take_whole, drop_whole}
use Rattle.script_words.proofs.lines.cut.Goals as goal

pub returns-then-is_stop-clause-front : goal.returns-then-is_stop-clause-front
returns-then-is_stop-clause-front c =
    let e : stops_at c.args.stop (get_or c.args.bytes.now c.loop-i.i 0) ≡ true = sym c.is_stop.ensures ∙ c.if-is_stop.true in
    c.split_at.ensures.front ∙ sym (until_at (stops_at c.args.stop) c.args.bytes.now c.loop-i.i c.loop-i-test.true c.loop-i.invariant.1 e).0

pub returns-then-is_stop-clause-back : goal.returns-then-is_stop-clause-back
returns-then-is_stop-clause-back c =
    let e : stops_at c.args.stop (get_or c.args.bytes.now c.loop-i.i 0) ≡ true = sym c.is_stop.ensures ∙ c.if-is_stop.true in
    c.split_at.ensures.back ∙ sym (until_at (stops_at c.args.stop) c.args.bytes.now c.loop-i.i c.loop-i-test.true c.loop-i.invariant.1 e).1

pub returns-clause-front : goal.returns-clause-front
returns-clause-front c =
    let bs = c.args.bytes.now in
    let all : c.loop-i.i ≡ length bs = omega (arith, c.loop-i.invariant.0) in
    c.split_at-2.ensures.front ∙ take_whole bs c.loop-i.i all ∙ sym (until_end (stops_at c.args.stop) bs (subst (PassesTo (stops_at c.args.stop) bs) all c.loop-i.invariant.1)).0

pub returns-clause-back : goal.returns-clause-back
returns-clause-back c =
    let bs = c.args.bytes.now in
    let all : c.loop-i.i ≡ length bs = omega (arith, c.loop-i.invariant.0) in
    c.split_at-2.ensures.back ∙ drop_whole bs c.loop-i.i all ∙ sym (until_end (stops_at c.args.stop) bs (subst (PassesTo (stops_at c.args.stop) bs) all c.loop-i.invariant.1)).1
