use Rattle.std.proofs.Common.{◌≡◌, ◌≤◌, ◌++◌, drop}
use Rattle.rank_machine.specs.JournalText.{records_text}
use Rattle.journal_text.proofs.text.journal_text.Given as goal

abbrev pub invariant-loop-rec : goal.invariant-loop-rec
invariant-loop-rec l = (l.n ≤ l.rec-index) × (l.out.items ++ records_text l.n (drop l.rec-index l.journal) ≡ records_text 0 l.journal)
