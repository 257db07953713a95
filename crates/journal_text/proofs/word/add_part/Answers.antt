use Rattle.std.proofs.Common.{[], ◌∷◌}
use Rattle.std.specs.Prelude.{decimal}
use Rattle.journal_text.proofs.Appending.{five_appended}
use Rattle.journal_text.proofs.word.add_part.Goals as goal

pub returns : goal.returns
returns c =
    five_appended c.args.out.now.items _ _ _ _ _
    (91 ∷ decimal c.args.part.r0) (58 ∷ decimal c.args.part.r1) (44 ∷ decimal c.args.part.c0) (58 ∷ decimal c.args.part.c1) (93 ∷ [])
    c.in_ok-add_number_after.ensures c.in_ok-add_number_after-2.ensures c.in_ok-add_number_after-3.ensures c.in_ok-add_number_after-4.ensures c.in_ok-push.ensures.items
