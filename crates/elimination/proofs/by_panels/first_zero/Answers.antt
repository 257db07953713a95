use Rattle.std.proofs.Common.{◌∙◌, sym, arith, below_more}
use Rattle.run_data.specs.Matrix.{entry}
use Rattle.serial_model.specs.Elimination.{diagonal}
use Rattle.elimination.proofs.Info.{least_zero-first, least_zero-none}
use Rattle.elimination.proofs.by_panels.first_zero.Goals as goal

pub returns-then-get-eq0 : goal.returns-then-get-eq0
returns-then-get-eq0 c = sym (least_zero-first (diagonal (entry c.args.a.now)) c.args.n c.loop-i.i (omega arith) (sym c.get.ensures ∙ c.if-get-eq0.true) c.loop-i.invariant)

pub loop-i-preserved : goal.loop-i-preserved
loop-i-preserved c = below_more _ _ c.loop-i.invariant (λ e. c.if-get-eq0.false (c.get.ensures ∙ e))

pub returns : goal.returns
returns c = sym (least_zero-none (diagonal (entry c.args.a.now)) c.args.n (λ i h. c.loop-i.invariant i (omega arith)))
