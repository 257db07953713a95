-- Tables of rules. A rule is its code, and whether it is kept.
use Rattle.std.specs.Prelude.{if◌then◌else◌, Bool, List, [], ◌∷◌, Option, Some, None, ℤ}

-- the code of the first rule that is not kept
abbrev pub first_code : List (ℤ × Bool) → Option ℤ
first_code [] = None
first_code (rule ∷ rules) = if rule.1 then first_code rules else Some rule.0
