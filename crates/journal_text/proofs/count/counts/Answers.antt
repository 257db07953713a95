use Rattle.journal_text.proofs.Counting.{counts_on}
use Rattle.journal_text.proofs.count.counts.Goals as goal

pub loop-rec-preserved : goal.loop-rec-preserved
loop-rec-preserved c =
    let before = c.loop-rec.invariant in
    let inside = c.loop-rec-test.true in
    record {
      records = counts_on _ _ _ _ _ _ _ before.records inside c.is_numbered.ensures c.count_on-records.ensures;
      sends = counts_on _ _ _ _ _ _ _ before.sends inside c.is_send.ensures c.count_on-sends.ensures;
      losses = counts_on _ _ _ _ _ _ _ before.losses inside c.is_loss.ensures c.count_on-losses.ensures;
      healed = counts_on _ _ _ _ _ _ _ before.healed inside c.is_healed.ensures c.count_on-healed.ensures;
      commits = counts_on _ _ _ _ _ _ _ before.commits inside c.is_commit.ensures c.count_on-commits.ensures;
    }
