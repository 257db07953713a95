use Rattle.rank_machine.specs.Losses.{is_numbered}
use Rattle.journal_text.specs.RecordKinds.{is_send, is_loss, is_commit, is_healed}
use Rattle.journal_text.proofs.Counting.{IsCount}
use Rattle.journal_text.proofs.count.counts.Given as goal

abbrev pub invariant-loop-rec : goal.invariant-loop-rec
invariant-loop-rec l = record {
  records : IsCount is_numbered l.records l.rec-index l.journal;
  sends : IsCount is_send l.sends l.rec-index l.journal;
  losses : IsCount is_loss l.losses l.rec-index l.journal;
  healed : IsCount is_healed l.healed l.rec-index l.journal;
  commits : IsCount is_commit l.commits l.rec-index l.journal;
}
