use Rattle.product_laws.specs.Multiplying.{product_task}
use Rattle.product_laws.proofs.Steps.{product_begins}
use Rattle.product_phase.proofs.multiplying.ProductPhasePhase.start.Goals as goal

pub returns-clause-stands : goal.returns-clause-stands
returns-clause-stands g c = rw (← c.self.view_is) (λ s base can. product_begins s base (product_task c.self.inside.product c.self.inside.mark))
