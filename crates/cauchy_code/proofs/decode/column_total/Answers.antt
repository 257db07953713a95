use Rattle.std.proofs.Common.{◌+◌, arith}
use Rattle.std.proofs.Math.Nat.{mod-lt}
use Rattle.field_core.specs.Residue.{inverse}
use Rattle.cauchy_code.proofs.Loops.{total_more}
use Rattle.cauchy_code.proofs.decode.column_total.Goals as goal

pub loop-k-preserved : goal.loop-k-preserved
loop-k-preserved g c =
    record {
      place = omega arith;
      residue = omega (arith, c.add-sum.ensures, mod-lt (c.loop-k.sum + c.mul.result) {m = g.K.Field.MODULUS} (omega (arith, g.met.K.Field.at_least)));
      so_far = total_more g.K.Field.MODULUS (inverse g.K.Field.MODULUS) c.args.x c.loop-k.at c.args.col c.loop-k.k-index c.loop-k.sum c.mul.result c.add-sum.result c.args.code.now c.loop-k-test.true (cc) c.add-sum.ensures c.loop-k.invariant.so_far;
    }
