use Rattle.std.proofs.Common.{[], ◌∷◌}
use Rattle.std.specs.Prelude.{decimal}
use Rattle.rank_machine.specs.JournalText.{slot_text}
use Rattle.journal_text.proofs.Appending.{both_appended, then_appended, words_joined}
use Rattle.journal_text.proofs.kernel.add_slot_numbers.Goals as goal

pub returns : goal.returns
returns c =
    let words = decimal c.args.rank ∷ slot_text c.args.slot ∷ [] in
    then_appended _ _ _ _ _ _ _ (both_appended _ _ _ _ _ _ c.in_ok-add_slot_head.ensures c.in_ok-add_next_number.ensures (words_joined c.args.name.now words (decimal c.args.i) []))
    (words_joined c.args.name.now (decimal c.args.rank ∷ slot_text c.args.slot ∷ decimal c.args.i ∷ []) (decimal c.args.j) []) c.add_next_number-2.ensures
