use Rattle.rank_run.proofs.Ranks.{set-on_rank}
use Rattle.rank_slots.specs.Lost.{lost_rank}
use Rattle.block_world.proofs.ranks.lose_on.Goals as goal

pub returns : goal.returns
returns g c = set-on_rank c.args.mems.now c.args.rank lost_rank c.index-mems-rank.result c.lose.new.self c.requires c.lose.ensures
