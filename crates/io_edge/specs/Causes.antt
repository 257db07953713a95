-- Counts of what went wrong outside and of calls, and the calls that are planned to fail.
use Rattle.std.specs.Prelude.{ℕ, ◌+◌, ◌-◌, ◌^◌, ◌≤◌, min, Bool, List, ◌==◌}
use Rattle.std.specs.List.{list_any}

-- one more, up to the last value of a count, which has 64 bits
abbrev pub counted : ℕ → ℕ
counted n = min (n + 1) (2 ^ 64 - 1)

-- the count rose, or stands at its last value
abbrev pub Rose : ℕ → ℕ → Type 0
Rose before now = counted before ≤ now

-- the call of this number is in the plan
abbrev pub is_planned : List ℕ → ℕ → Bool
is_planned plan call = list_any (λ n. n == call) plan
