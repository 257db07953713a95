use Rattle.std.proofs.Common.{◌≡◌, ◌<◌, arith}
use Rattle.printed_text.proofs.Texts.{rows_more, rows_all}
use Rattle.printed_text.proofs.values.matrix_text.Goals as goal

pub loop-i-preserved : goal.loop-i-preserved
loop-i-preserved c =
    let m = c.args.m.now in
    let lt : c.loop-i.i < m.rows = omega (arith, c.rows-rows.ensures.value) in
    rows_more m c.in_ok-out.out.items c.loop-i.out.items c.add_row.new.out.items c.loop-i.i lt c.loop-i.invariant c.in_ok-add_row.ensures

pub returns : goal.returns
returns c =
    let m = c.args.m.now in
    let all : c.loop-i.i ≡ m.rows = omega (arith, c.rows-rows.ensures.value) in
    rows_all m _ c.in_ok-out.out.items c.loop-i.out.items c.loop-i.i all c.loop-i.invariant c.in_ok-out.ensures
