use Rattle.std.proofs.Common.{◌≡◌, ◌||◌, drop}
use Rattle.block_world.specs.Ranks.{some_flag}
use Rattle.block_world.proofs.ranks.has_flag.Given as goal

-- the flags so far and those that are left
abbrev pub invariant-loop-flag : goal.invariant-loop-flag
invariant-loop-flag l = (l.some || some_flag (drop l.flag-index l.lost)) ≡ some_flag l.lost
