use Rattle.blacs_comm.proofs.Working.{extends_each, all_worked}
use Rattle.blacs_comm.proofs.events.work_each.Goals as goal

pub returns-clause-leads : goal.returns-clause-leads
returns-clause-leads g c =
    extends_each g.S.Store.memory c.args.round.now c.loop-i.round c.args.ranks.now c.args.ops.now c.requires.apart
    (all_worked c.args.ranks.now c.args.ops.now c.loop-i.i c.loop-i.round _ c.loop-i-test.false c.loop-i.invariant)
