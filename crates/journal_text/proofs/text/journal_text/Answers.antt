use Rattle.journal_text.proofs.Lines.{goes_on}
use Rattle.journal_text.proofs.text.journal_text.Goals as goal

pub loop-rec-preserved : goal.loop-rec-preserved
loop-rec-preserved c =
    goes_on c.args.journal.now c.loop-rec.rec-index _ c.loop-rec.n c.number_after-n.result c.loop-rec.out.items c.add_line.new.out.items c.loop-rec-test.true c.loop-rec.invariant.0 c.loop-rec.invariant.1 c.number_after-n.ensures c.in_ok-add_line.ensures
