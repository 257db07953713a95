use Rattle.std.proofs.Common.{◌∙◌, ap, sym, length, refl}
use Rattle.std.proofs.lemmas.Option.{slice_get_read, slice_get_past}
use Rattle.block_world.proofs.Falling.{flag_there, flag_at-get}
use Rattle.block_world.proofs.ranks.flag_on.Goals as goal

pub returns-in-Some : goal.returns-in-Some
returns-in-Some c =
    let bs = c.args.lost.now in
    let found = c.in-Some.ensures.lookup in
    ap flag_there (sym (slice_get_read bs (length bs) c.args.rank c.in-Some.flag.now refl found.3.0 found.1)) ∙ sym (flag_at-get bs c.args.rank)

pub returns-in-None : goal.returns-in-None
returns-in-None c = let bs = c.args.lost.now in ap flag_there (sym (slice_get_past bs c.args.rank c.in-None.ensures.lookup.3)) ∙ sym (flag_at-get bs c.args.rank)
