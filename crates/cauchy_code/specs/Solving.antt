-- What the steps of decoding keep: coefficients of code columns by what they add up to at each data column. Code columns go by their places here, so a weight is the inverse of a difference of places.
use Rattle.std.specs.List.{AllByRecursion}
use Rattle.std.specs.Prelude.{◌≡◌, ℕ, ◌+◌, ◌-◌, ◌*◌, ◌%◌, ◌<◌, Bool, true, false, List, [], ◌∷◌, length, All, if◌then◌else◌, ◌==◌}
use Rattle.cauchy_code.specs.Cauchy.{ZeroOutside, first_live}

-- the coefficients of the code columns from place x on, each times its weight at a data column, added up
abbrev pub column_sum : (ℕ → ℕ) → ℕ → List ℕ → ℕ → ℕ
column_sum inverse x [] col = 0
column_sum inverse x (k ∷ ks) col = inverse (x - col) * k + column_sum inverse (x + 1) ks col

-- each number of ds times its distance from the place x is the number of es times its distance from col
abbrev pub Scaled : ℕ → ℕ → ℕ → ℕ → List ℕ → List ℕ → Type 0
Scaled p x col at [] [] = Unit {0}
Scaled p x col at [] (e ∷ es) = ⊥
Scaled p x col at (d ∷ ds) [] = ⊥
Scaled p x col at (d ∷ ds) (e ∷ es) = ((d * (at - x)) % p ≡ (e * (at - col)) % p) × Scaled p x col (at + 1) ds es

-- code coefficients, those of the first code columns that are not lost, that add up to 0 at each of the columns and to the target at one more
pub record Solves (p : ℕ) (inverse : ℕ → ℕ) (x : ℕ) (lost : List Bool) (columns : List ℕ) (which target : ℕ) (ks : List ℕ) : Type 0 where
  pub len : length ks ≡ length lost
  pub residues : All (λ k. k < p) ks
  pub zeros : ZeroOutside (first_live lost (length columns + 1)) ks
  pub at_columns : AllByRecursion (λ y. column_sum inverse x ks y % p ≡ 0) columns
  pub at_which : column_sum inverse x ks which % p ≡ target

-- the lost columns but one, in order, the first of the list being column col
abbrev pub lost_but : ℕ → ℕ → List Bool → List ℕ
lost_but which col [] = []
lost_but which col (true ∷ lost) = if col == which then lost_but which (col + 1) lost else col ∷ lost_but which (col + 1) lost
lost_but which col (false ∷ lost) = lost_but which (col + 1) lost

-- the data coefficients that go with code coefficients: with them each column that is not lost adds up to 0
abbrev pub data_coefs : ℕ → (ℕ → ℕ) → ℕ → List ℕ → ℕ → List Bool → List ℕ
data_coefs p inverse x code col [] = []
data_coefs p inverse x code col (true ∷ lost) = 0 ∷ data_coefs p inverse x code (col + 1) lost
data_coefs p inverse x code col (false ∷ lost) = (p - column_sum inverse x code col % p) % p ∷ data_coefs p inverse x code (col + 1) lost
