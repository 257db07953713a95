-- When the spares of a run suffice, and how many of its records take one.
use Rattle.std.specs.Prelude.{ℕ, Bool, true, false, List, length, filter}
use Rattle.rank_machine.specs.declared.record.Rec.{Rec}
use Rattle.rank_machine.specs.declared.record.Rec.TheVariants as r
use Rattle.rank_machine.specs.Setting.{Setting}
use Rattle.rank_machine.specs.Effect.{state_after}
use Rattle.rank_machine.specs.Losses.{LacksSpare}

abbrev pub is_spawn : Rec → Bool
is_spawn (r.Feed rank slot) = false
is_spawn (r.Kernel rank kernel) = false
is_spawn (r.Send from to x) = false
is_spawn (r.Recv to from x) = false
is_spawn (r.Save rank slot) = false
is_spawn (r.Take rank slot) = false
is_spawn r.Restore = false
is_spawn (r.Spawn rank) = true
is_spawn (r.Commit mark healed) = false
is_spawn (r.Lose rank) = false

-- how many lost ranks have been replaced
abbrev pub spawns : List Rec → ℕ
spawns journal = length (filter is_spawn journal)

-- after a journal the spares suffice for the ranks that are lost now
abbrev pub SparesLast : Setting → List Rec → Type 0
SparesLast s journal = (rank : ℕ) → LacksSpare s (state_after s journal) rank → ⊥
