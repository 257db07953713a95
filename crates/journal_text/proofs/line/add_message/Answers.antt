use Rattle.std.proofs.Common.{[], ◌∷◌}
use Rattle.std.specs.Prelude.{decimal}
use Rattle.rank_machine.specs.JournalText.{piece_text}
use Rattle.journal_text.proofs.Appending.{both_appended, then_appended, words_joined}
use Rattle.journal_text.proofs.line.add_message.Goals as goal

pub returns : goal.returns
returns c =
    then_appended _ _ _ _ _ _ _ (both_appended _ _ _ _ _ _ c.in_ok-add_head.ensures c.in_ok-add_next_number.ensures (words_joined c.args.name.now (decimal c.args.rank ∷ []) (decimal c.args.other) []))
    (words_joined c.args.name.now (decimal c.args.rank ∷ decimal c.args.other ∷ []) (piece_text c.args.piece) []) c.add_next_piece.ensures
