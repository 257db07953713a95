-- What a script tells as a whole, before its lines are read one after another.
use Rattle.std.specs.Prelude.{ℕ, ◌+◌, ◌*◌, if◌then◌else◌, List, [], ◌∷◌, codes, Option, Some}
use Rattle.std.specs.List.{sum_by}
use Rattle.std.specs.Str.{bytes_eq}
use Rattle.run_data.specs.Script.{Numbered}
use Rattle.script_rules.specs.declared.told.Told.{Told}
use Rattle.script_words.specs.Numbers.{number_of}
use Rattle.script_rules.specs.Rules.{is_shape, ranks_of}

-- the ranks of a grid of this shape, if it is in range
abbrev pub shape_ranks : Option ℕ → Option ℕ → Option ℕ → ℕ
shape_ranks (Some p) (Some q) (Some f) = if is_shape p q f then p * (q + f) else 0
shape_ranks p q f = 0

-- the ranks that a line tells: a `grid` line of five words, whose last three are a shape in range, whatever else is refused of it
abbrev pub ranks_told : List (List ℕ) → ℕ
ranks_told (word ∷ name ∷ p ∷ q ∷ f ∷ []) = if bytes_eq word (codes "grid") then shape_ranks (number_of p) (number_of q) (number_of f) else 0
ranks_told words = 0

-- what lines tell, each as its words
abbrev pub told_by : List (List (List ℕ)) → Told
told_by lines = record { ranks = sum_by ranks_told lines }

-- the same of a script that is read
abbrev pub told_of_script : List Numbered → Told
told_of_script cs = record { ranks = ranks_of cs }
