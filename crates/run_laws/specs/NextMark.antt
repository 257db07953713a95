-- What the next mark of a run has in common with the last one.
use Rattle.std.specs.Prelude.{◌≡◌, ℕ, ◌<◌, ◌==◌, ◌&&◌, nat_lt, Bool, true, List, [], ◌∷◌}
use Rattle.rank_machine.specs.declared.mark.Mark.{Mark}
use Rattle.rank_machine.specs.Setting.{Setting, Job, some_job}
use Rattle.rank_machine.specs.Effect.{factoring}
use Rattle.rank_machine.specs.CodeLaw.{has_low, has_open}

-- each job's line is after that of the one before, and the first one after some line
abbrev pub JobsRise : ℕ → List Job → Type 0
JobsRise least [] = Unit {0}
JobsRise least (j ∷ js) = (least < j.line) × JobsRise j.line js

abbrev pub has_line : List Job → ℕ → Bool
has_line js line = some_job js (λ j. j.line == line)

-- the matrix of a line is being factored
abbrev pub is_factored_under : Setting → Mark → ℕ → Bool
is_factored_under s mark line = nat_lt 0 line && (factoring s mark == line)

-- the same slots of a matrix count under two marks, and as many panels are closed in one that is being factored
pub record CountsSame (s : Setting) (mark mark' : Mark) (line : ℕ) : Type 0 where
  pub low : (group : ℕ) → has_low s mark' line group ≡ has_low s mark line group
  pub opens : has_open s mark' line ≡ has_open s mark line
  pub closed : is_factored_under s mark' line ≡ true → mark'.closed ≡ mark.closed
