use Rattle.std.proofs.Common.{[], ◌∷◌}
use Rattle.std.specs.Prelude.{codes, decimal}
use Rattle.rank_machine.specs.JournalText.{piece_text}
use Rattle.journal_text.proofs.Appending.{both_appended, then_appended, words_joined}
use Rattle.journal_text.proofs.kernel.add_product.Goals as goal

pub returns : goal.returns
returns c =
    then_appended _ _ _ _ _ _ _
    (both_appended _ _ _ _ _ _ c.in_ok-add_factor.ensures c.in_ok-add_next_piece.ensures (words_joined (codes "muladd") (decimal c.args.rank ∷ piece_text c.args.to ∷ decimal c.args.factor ∷ []) (piece_text c.args.left) []))
    (words_joined (codes "muladd") (decimal c.args.rank ∷ piece_text c.args.to ∷ decimal c.args.factor ∷ piece_text c.args.left ∷ []) (piece_text c.args.right) []) c.add_next_piece-2.ensures
