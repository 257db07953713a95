use Rattle.std.proofs.Common.{◌≢◌, ◌*◌, ◌-◌, ◌+◌, ◌<◌, length, arith, get_or-set_other, get_or-set_same, below_more, get_or}
use Rattle.std.proofs.lemmas.List.Elements.{All-set}
use Rattle.std.proofs.Math.Nat.{mod-lt}
use Rattle.cauchy_code.proofs.Loops.{scaled_from, unscale_here}
use Rattle.cauchy_code.proofs.Inverses.{small_inverse}
use Rattle.cauchy_code.proofs.decode.unscale.Goals as goal

pub loop-k-preserved : goal.loop-k-preserved
loop-k-preserved g c =
    let lt : c.loop-k.k-index < length c.loop-k.code = omega (arith, c.loop-k.auto.code) in
    record {
      place = omega arith;
      residues = All-set (λ k. k < g.K.Field.MODULUS) c.loop-k.code c.loop-k.k-index c.mul-in-loop-k.result
          (omega (arith, c.mul-in-loop-k.ensures, mod-lt (c.mul.result * c.inv.result) {m = g.K.Field.MODULUS} (omega (arith, g.met.K.Field.at_least)))) c.loop-k.invariant.residues;
      done = below_more _ _
          (λ k h. let ne : k ≢ c.loop-k.k-index = omega arith in rw get_or-set_other (c.loop-k.invariant.done k h))
          (rw get_or-set_same (unscale_here g.K.Field.MODULUS c.args.x c.args.col c.loop-k.at c.loop-k.k-index _ (get_or c.loop-k.code c.loop-k.k-index 0) c.inv.result c.mul.result c.mul-in-loop-k.result c.loop-k.invariant.place (c.loop-k.invariant.left c.loop-k.k-index (omega arith)) c.mul.ensures c.mul-in-loop-k.ensures
          (rw c.inv.ensures.value (small_inverse g.K.Field.MODULUS g.met.K.Field.at_least g.met.K.Field.is_field (c.loop-k.at - c.args.x) (omega arith) (omega arith)))));
      left = λ i h. let ne : i ≢ c.loop-k.k-index = omega arith in rw get_or-set_other (c.loop-k.invariant.left i (omega arith));
    }

pub returns-clause-scaled : goal.returns-clause-scaled
returns-clause-scaled g c = scaled_from g.K.Field.MODULUS c.args.x c.args.col (c.args.x + 1) c.loop-k.code c.args.code.now c.loop-k.auto.code (λ i h. c.loop-k.invariant.done i (omega arith))
