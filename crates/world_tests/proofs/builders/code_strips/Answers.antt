use Rattle.std.proofs.Common.{◌≡◌, true, refl, sym, subst}
use Rattle.run_data.specs.Matrix.{tabulate, entry}
use Rattle.field_core.specs.Residue.{inverse}
use Rattle.field_core.proofs.Computing.{quick_inverse, inverse_walk}
use Rattle.world_tests.specs.FedStrips.{Events, matrix, files, work, encode_round, MayLook}
use Rattle.world_tests.proofs.FedStrips.{looks, may_look}
use Rattle.world_tests.proofs.builders.code_strips.Goals as goal

first : looks (encode_round (quick_inverse 65537) 1) 1 (work 1) ≡ true
unfolding tabulate entry matrix files quick_inverse inverse_walk
first = refl

second : looks (encode_round (quick_inverse 65537) 3) 3 (work 1) ≡ true
unfolding tabulate entry matrix files quick_inverse inverse_walk
second = refl

pub number_after-requires : goal.number_after-requires
number_after-requires g c = subst (λ (es : Events). MayLook (inverse 65537) es 1 (work 1)) (sym c.in_ok-one.ensures) (may_look (λ invert. encode_round invert 1) 1 (work 1) first)

pub number_after-requires-2 : goal.number_after-requires-2
number_after-requires-2 g c = subst (λ (es : Events). MayLook (inverse 65537) es 3 (work 1)) (sym c.in_ok-other.ensures) (may_look (λ invert. encode_round invert 3) 3 (work 1) second)
