use Rattle.std.proofs.Common.{◌∙◌, ap, subst}
use Rattle.std.specs.Prelude.{IsSome}
use Rattle.std.proofs.lemmas.Result.{on_ok_weaker}
use Rattle.std.proofs.lemmas.Option.{slice_get-get_or}
use Rattle.rank_run.proofs.Ranks.{set-on_rank}
use Rattle.rank_slots.specs.Rank.{with_save}
use Rattle.rank_slots.proofs.Steps.{tiles_there, tiles_at-get}
use Rattle.block_world.proofs.ranks.save_on.Goals as goal

pub save-requires : goal.save-requires
save-requires g c =
    let ms = c.args.mems.now in
    subst IsSome (tiles_at-get ms c.args.rank c.args.slot ∙ ap (tiles_there c.args.slot) (slice_get-get_or ms c.args.rank c.index-mems-rank.result c.requires.rank)) c.requires.there

pub returns-clause-done : goal.returns-clause-done
returns-clause-done g c =
    on_ok_weaker c.save.result
    (λ is. set-on_rank c.args.mems.now c.args.rank (λ m. with_save m c.args.slot) c.index-mems-rank.result c.save.new.self c.requires.rank is)
    c.save.ensures.done
