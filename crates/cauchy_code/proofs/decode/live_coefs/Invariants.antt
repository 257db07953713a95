use Rattle.std.proofs.Common.{◌≡◌, ◌++◌, drop}
use Rattle.field_core.specs.Residue.{inverse}
use Rattle.cauchy_code.specs.Solving.{data_coefs}
use Rattle.cauchy_code.proofs.decode.live_coefs.Given as goal

abbrev pub invariant-loop-is_lost : goal.invariant-loop-is_lost
invariant-loop-is_lost g l =
    record {
      place : l.col ≡ l.is_lost-index;
      so_far : l.coefs.items ++ data_coefs g.K.Field.MODULUS (inverse g.K.Field.MODULUS) l.q l.code l.col (drop l.is_lost-index l.lost) ≡ data_coefs g.K.Field.MODULUS (inverse g.K.Field.MODULUS) l.q l.code 0 l.lost;
    }
