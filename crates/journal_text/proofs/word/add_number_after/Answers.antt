use Rattle.std.proofs.Common.{refl}
use Rattle.journal_text.proofs.Appending.{then_appended}
use Rattle.journal_text.proofs.word.add_number_after.Goals as goal

pub returns : goal.returns
returns c = then_appended _ _ _ _ _ _ _ c.in_ok-push.ensures.items refl c.add_number.ensures
