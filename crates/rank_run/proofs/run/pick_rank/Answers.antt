use Rattle.std.proofs.Common.{arith}
use Rattle.rank_run.proofs.Ranks.{read_at_number}
use Rattle.rank_run.proofs.run.pick_rank.Goals as goal

pub find_ready-requires-clause-ranks : goal.find_ready-requires-clause-ranks
find_ready-requires-clause-ranks g c = c.requires.ranks

pub find_ready-requires-clause-within : goal.find_ready-requires-clause-within
find_ready-requires-clause-within g c = c.requires.within

pub find_ready-requires-clause-own : goal.find_ready-requires-clause-own
find_ready-requires-clause-own g c = c.requires.own

pub returns-clause-picked : goal.returns-clause-picked
returns-clause-picked g c =
    read_at_number _ c.find_ready.new.ready.items _ c.take.result c.len.result c.index.result.now c.in_ok-find_ready.ensures c.take.ensures.value (omega (arith, c.len.ensures)) c.requires.some c.index.ensures
