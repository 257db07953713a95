use Rattle.std.proofs.Common.{◌+◌, ◌-◌, ◌*◌, ◌%◌, ap, ◌∙◌, arith}
use Rattle.field_core.specs.Residue.{inverse}
use Rattle.cauchy_code.specs.Solving.{column_sum}
use Rattle.cauchy_code.proofs.Modular.{pivot_own}
use Rattle.cauchy_code.proofs.decode.add_pivot.Goals as goal

pub returns-clause-own : goal.returns-clause-own
returns-clause-own g c =
    pivot_own g.K.Field.MODULUS (c.args.x - c.args.col) (column_sum (inverse g.K.Field.MODULUS) (c.args.x + 1) c.unscale.new.code c.args.col) c.mul.result c.neg.result (omega (arith, g.met.K.Field.at_least))
    (c.mul.ensures ∙ ap (λ n. ((c.args.x - c.args.col) * n) % g.K.Field.MODULUS) c.column_total-total.ensures) c.neg.ensures
