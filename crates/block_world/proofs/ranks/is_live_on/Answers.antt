use Rattle.std.proofs.Common.{◌∙◌, ap, sym, length, refl}
use Rattle.std.proofs.lemmas.Option.{slice_get_read, slice_get_past}
use Rattle.rank_slots.proofs.Steps.{live_there, live_at-get}
use Rattle.block_world.proofs.ranks.is_live_on.Goals as goal

pub returns-in-Some : goal.returns-in-Some
returns-in-Some g c =
    let ms = c.args.mems.now in
    let found = c.in-Some.ensures.lookup in
    c.is_live.ensures ∙ ap live_there (sym (slice_get_read ms (length ms) c.args.rank c.in-Some.mem.now refl found.3.0 found.1)) ∙ sym (live_at-get ms c.args.rank)

pub returns-in-None : goal.returns-in-None
returns-in-None g c = let ms = c.args.mems.now in ap live_there (sym (slice_get_past ms c.args.rank c.in-None.ensures.lookup.3)) ∙ sym (live_at-get ms c.args.rank)
