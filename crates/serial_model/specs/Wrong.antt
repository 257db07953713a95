-- Words of a matrix that are silently wrong.
use Rattle.std.specs.Prelude.{ℕ, ◌+◌, ◌%◌, ◌==◌, ◌&&◌, if◌then◌else◌, List}
use Rattle.std.specs.List.{sum_by}
use Rattle.field_core.specs.Sums.{sum_to}
use Rattle.run_data.specs.declared.flips.Flip.{Flip}

-- what some flips add to the word of a row and a column, both counted from 0
abbrev pub error_at : List Flip → ℕ → ℕ → ℕ
error_at flips i j = sum_by (λ (flip : Flip). if (flip.row == i + 1) && (flip.column == j + 1) then flip.error else 0) flips

-- the words of m rows and n columns to which they add something, modulo p
abbrev pub wrong_words : ℕ → ℕ → ℕ → List Flip → ℕ
wrong_words p m n flips = sum_to m (λ i. sum_to n (λ j. if error_at flips i j % p == 0 then 0 else 1))
