use Rattle.std.proofs.Common.{◌∙◌, ◌-◌, ◌^◌, min, ap, sym, subst, length, refl}
use Rattle.std.proofs.lemmas.Option.{slice_get_read, slice_get_past}
use Rattle.rank_slots.specs.Cells.{AreOrdered, words_of_cells}
use Rattle.block_world.proofs.Words.{cells_there, cells_at-get}
use Rattle.block_world.proofs.ranks.words_on.Goals as goal

pub returns-in-Some : goal.returns-in-Some
returns-in-Some g c =
    let ms = c.args.mems.now in
    let found = c.in-Some.ensures.lookup in
    let cells = ap cells_there (sym (slice_get_read ms (length ms) c.args.rank c.in-Some.mem.now refl found.3.0 found.1)) ∙ sym (cells_at-get ms c.args.rank) in
    record { ordered = subst AreOrdered cells c.words.ensures.ordered; count = c.words.ensures.count ∙ ap (λ xs. min (words_of_cells xs) (2 ^ 64 - 1)) cells }

pub returns-in-None : goal.returns-in-None
returns-in-None g c =
    let ms = c.args.mems.now in
    let cells = ap cells_there (sym (slice_get_past ms c.args.rank c.in-None.ensures.lookup.3)) ∙ sym (cells_at-get ms c.args.rank) in
    record { ordered = subst AreOrdered cells tt; count = ap (λ xs. min (words_of_cells xs) (2 ^ 64 - 1)) cells }
