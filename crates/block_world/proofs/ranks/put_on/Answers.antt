use Rattle.std.proofs.lemmas.Result.{on_ok_weaker}
use Rattle.rank_run.proofs.Ranks.{set-on_rank}
use Rattle.rank_slots.specs.Rank.{with_tile}
use Rattle.block_world.proofs.ranks.put_on.Goals as goal

pub returns-clause-done : goal.returns-clause-done
returns-clause-done g c =
    on_ok_weaker c.put.result
    (λ is. set-on_rank c.args.mems.now c.args.rank (λ m. with_tile m c.args.slot c.args.tile) c.index-mems-rank.result c.put.new.self c.requires.rank is)
    c.put.ensures.done
