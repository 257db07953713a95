use Rattle.std.proofs.Common.{◌≡◌, ◌+◌, ◌%◌, ◌<◌, drop}
use Rattle.field_core.specs.Residue.{inverse}
use Rattle.cauchy_code.specs.Solving.{column_sum}
use Rattle.cauchy_code.proofs.decode.column_total.Given as goal

abbrev pub invariant-loop-k : goal.invariant-loop-k
invariant-loop-k g l =
    record {
      place : l.at ≡ l.x + l.k-index;
      residue : l.sum < g.K.Field.MODULUS;
      so_far : (l.sum + column_sum (inverse g.K.Field.MODULUS) l.at (drop l.k-index l.code) l.col) % g.K.Field.MODULUS ≡ column_sum (inverse g.K.Field.MODULUS) l.x l.code l.col % g.K.Field.MODULUS;
    }
