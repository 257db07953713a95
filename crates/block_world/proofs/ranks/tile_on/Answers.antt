use Rattle.std.proofs.Common.{◌∙◌, ap, sym, length, refl}
use Rattle.std.proofs.lemmas.Option.{slice_get_read, slice_get_past}
use Rattle.rank_slots.proofs.Steps.{tiles_there, tiles_at-get}
use Rattle.block_world.proofs.ranks.tile_on.Goals as goal

pub returns-in-Some : goal.returns-in-Some
returns-in-Some g c =
    let ms = c.args.mems.now in
    let found = c.in-Some.ensures.lookup in
    c.tile.ensures ∙ ap (tiles_there c.args.slot) (sym (slice_get_read ms (length ms) c.args.rank c.in-Some.mem.now refl found.3.0 found.1)) ∙ sym (tiles_at-get ms c.args.rank c.args.slot)

pub returns-in-None : goal.returns-in-None
returns-in-None g c = let ms = c.args.mems.now in ap (tiles_there c.args.slot) (sym (slice_get_past ms c.args.rank c.in-None.ensures.lookup.3)) ∙ sym (tiles_at-get ms c.args.rank c.args.slot)
