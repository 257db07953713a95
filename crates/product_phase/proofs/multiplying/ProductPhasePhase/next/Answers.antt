use Rattle.std.proofs.Common.{◌<◌, sym, subst}
use Rattle.product_laws.specs.Multiplying.{ProductView, product_task}
use Rattle.product_laws.proofs.Steps.{product_progresses, product_goes_on}
use Rattle.product_phase.proofs.multiplying.ProductPhasePhase.next.Goals as goal

pub returns-clause-progress : goal.returns-clause-progress
returns-clause-progress g c =
    rw (c.in_ok-next.ensures, ← c.self.view_is)
    (product_progresses g.row.K.Denot c.self.inside.product c.self.inside.mark.line c.self.inside.calls c.args._taken c.self.invariant (subst (λ (v : ProductView). v.calls < 2) (sym c.self.view_is) c.requires))

pub returns-clause-goes_on : goal.returns-clause-goes_on
returns-clause-goes_on g c =
    rw (c.in_ok-next.ensures, ← c.self.view_is)
    (λ s base now start stands taken. product_goes_on {K = g.row.K.Denot} (product_task c.self.inside.product c.self.inside.mark) c.self.inside.calls s base now (subst (λ (v : ProductView). v.calls < 2) (sym c.self.view_is) c.requires) start stands)
