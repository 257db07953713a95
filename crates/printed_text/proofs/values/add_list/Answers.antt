use Rattle.printed_text.proofs.Texts.{list_more}
use Rattle.printed_text.proofs.values.add_list.Goals as goal

pub loop-j-preserved : goal.loop-j-preserved
loop-j-preserved c =
    list_more c.args.v.now c.args.out.now.items c.loop-j.out.items c.add_gap.new.out.items c.add_number.new.out.items _ c.loop-j.j c.get.result
    c.len-count.ensures c.loop-j-test.true c.get.ensures c.loop-j.invariant c.in_ok-add_gap.ensures c.in_ok-add_number.ensures
