use Rattle.std.proofs.lemmas.Result.{on_ok_weaker}
use Rattle.blacs_comm.proofs.Leading.{extends_move}
use Rattle.blacs_comm.proofs.events.send_piece.Goals as goal

pub returns-clause-leads : goal.returns-clause-leads
returns-clause-leads g c =
    on_ok_weaker c.push.result (extends_move g.S.Store.memory c.args.round.now c.push.new.self c.args.from c.args.a c.args.to c.args.b c.requires) c.push.ensures.ok
