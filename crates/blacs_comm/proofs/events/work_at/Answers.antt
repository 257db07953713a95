use Rattle.std.proofs.lemmas.Result.{on_ok_weaker}
use Rattle.blacs_comm.proofs.Leading.{extends_work}
use Rattle.blacs_comm.proofs.events.work_at.Goals as goal

pub returns-clause-leads : goal.returns-clause-leads
returns-clause-leads g c =
    on_ok_weaker c.push.result (extends_work g.S.Store.memory c.args.round.now c.push.new.self c.args.rank c.args.op) c.push.ensures.ok
