use Rattle.printed_text.proofs.Texts.{row_more}
use Rattle.printed_text.proofs.values.add_row.Goals as goal

pub loop-j-preserved : goal.loop-j-preserved
loop-j-preserved c =
    row_more c.args.m.now c.args.i c.args.out.now.items c.loop-j.out.items c.add_gap.new.out.items c.add_number.new.out.items c.loop-j.j c.get.result
    c.get.ensures c.loop-j.invariant c.in_ok-add_gap.ensures c.in_ok-add_number.ensures
