use Rattle.rank_run.proofs.Ranks.{set-on_rank}
use Rattle.rank_slots.specs.Lost.{spawned}
use Rattle.block_world.proofs.ranks.spawn_on.Goals as goal

pub returns : goal.returns
returns g c = set-on_rank c.args.mems.now c.args.rank spawned c.index-mems-rank.result c.spawn.new.self c.requires c.spawn.ensures
