use Rattle.plain_phases.proofs.EndSteps.{end_goes_on}
use Rattle.plain_phases.proofs.ending.EndPhasePhase.next.Goals as goal

pub returns-clause-goes_on : goal.returns-clause-goes_on
returns-clause-goes_on g c s base now start stands handed = end_goes_on {K = g.row.K.Denot} c.args.self.now.mark c.args.self.now.calls s base now start stands
