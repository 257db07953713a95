use Rattle.std.proofs.Common.{◌≡◌, ◌++◌, ℕ, List}
use Rattle.field_core.specs.Residue.{inverse}
use Rattle.recovery_code.specs.Spots.{spot_seen, row_data_at, Decode}
use Rattle.recovery_code.proofs.mending.mend_strips.Given as goal

abbrev pub invariant-loop-which : goal.invariant-loop-which
invariant-loop-which g l = (coefs : ℕ → List ℕ) × Decode g.K.Field.MODULUS (inverse g.K.Field.MODULUS) (spot_seen l.place) l.lost l.which coefs × (l.round ≡ l.initial.round ++ row_data_at (spot_seen l.place) l.lost coefs l.which)
