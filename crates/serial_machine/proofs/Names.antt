-- What names mean, evaluated: a name that was given no value has none, and nor has one whose value was taken out.
use Rattle.std.proofs.Common.{◌≡◌, [], ◌∷◌, Some, None, refl}
use Rattle.std.specs.Prelude.{codes}
use Rattle.run_data.specs.Matrix.{Matrix}
use Rattle.serial_model.specs.Serial as model
use Rattle.serial_model.specs.Serial.{Values, with_value}

-- A means a matrix, and V a pivot list
abbrev two_names : Matrix → Values
two_names m = with_value (with_value (λ name. None) (codes "A") (Some (model.whole m))) (codes "V") (Some (model.rows (1 ∷ [])))

-- the same, with the matrix of A taken out
abbrev one_name : Matrix → Values
one_name m = with_value (two_names m) (codes "A") None

never_given : (m : Matrix) → two_names m (codes "B") ≡ None
never_given m = refl

given : (m : Matrix) → two_names m (codes "A") ≡ Some (model.whole m)
given m = refl

taken_out : (m : Matrix) → one_name m (codes "A") ≡ None
taken_out m = refl

left_alone : (m : Matrix) → one_name m (codes "V") ≡ Some (model.rows (1 ∷ []))
left_alone m = refl
