use Rattle.std.proofs.Common.{[], ◌∷◌}
use Rattle.std.specs.Prelude.{decimal}
use Rattle.rank_machine.specs.JournalText.{slot_text, piece_text}
use Rattle.journal_text.proofs.Appending.{then_appended, words_joined}
use Rattle.journal_text.proofs.kernel.add_read.Goals as goal

pub returns : goal.returns
returns c = then_appended _ _ _ _ _ _ _ c.in_ok-add_slot_head.ensures (words_joined c.args.name.now (decimal c.args.rank ∷ slot_text c.args.to ∷ []) (piece_text c.args.from) []) c.add_next_piece.ensures
