-- How many records healing takes, and that its commit comes in time.
use Rattle.std.specs.Prelude.{◌≤◌, ◌+◌, ℕ}
use Rattle.run_laws.specs.Cuts.{GoesRightly}
use Rattle.run_laws.specs.Traces.{AreShort, AllHeal, AllHealSoFar, AlwaysHold, spent, recovery_under}
use Rattle.phase_words.specs.Resting.{IsMeasured}
use Rattle.recovery_words.specs.Roomy.{IsRoomy}
use Rattle.block_world.specs.World.{WorldView, setting_in, state_of}
use Rattle.world_heal.specs.Ways.{rest_of}

-- where each loss still to fall is counted as a recovery, no more than one is new
abbrev pub Heals : WorldView → WorldView → Type 0
Heals old new = let most = recovery_under (setting_in old) (state_of old).mark in spent most (setting_in old) new.journal ≤ spent most (setting_in old) old.journal + most

-- no numbered record comes where the run is beyond repair, and each healed commit leaves what the commit before it left
abbrev pub KeepsGoing : WorldView → WorldView → Type 0
KeepsGoing old new = GoesRightly (setting_in old) old.journal → GoesRightly (setting_in old) new.journal

-- between two commits with no loss stand at most so many records
abbrev pub KeepsShort : ℕ → WorldView → WorldView → Type 0
KeepsShort phase old new = AreShort phase old.journal → AreShort phase new.journal

-- after a loss a healed commit comes within so many records
abbrev pub KeepsHealing : ℕ → WorldView → WorldView → Type 0
KeepsHealing recovery old new = AllHeal recovery (setting_in old) old.journal → AllHeal recovery (setting_in old) new.journal

-- the same, where the last losses have just fallen
abbrev pub HealsInTime : WorldView → WorldView → Type 0
HealsInTime old new = (recovery : ℕ) → recovery_under (setting_in old) (state_of old).mark ≤ recovery → AllHealSoFar recovery (setting_in old) old.journal → AllHeal recovery (setting_in old) new.journal

-- ---- words
-- in every state each rank holds at most the words that it may
abbrev pub KeepsHolding : WorldView → WorldView → Type 0
KeepsHolding old new = AlwaysHold (setting_in old) old.journal → AlwaysHold (setting_in old) new.journal

-- the same, where what the last commit left is measured
abbrev pub HoldsWords : WorldView → WorldView → Type 0
HoldsWords old new = IsMeasured (setting_in old) (rest_of old) → KeepsHolding old new

-- the same from the rounds of a recovery, which begin where no rank has more than at the last commit, but for a strip in its work slot
abbrev pub HoldsMending : WorldView → WorldView → Type 0
HoldsMending old new = IsRoomy (setting_in old) (rest_of old) (state_of old) → HoldsWords old new

-- the rounds of a recovery leave it so
abbrev pub KeepsRoomy : WorldView → WorldView → Type 0
KeepsRoomy old new = IsRoomy (setting_in old) (rest_of old) (state_of old) → IsRoomy (setting_in old) (rest_of old) (state_of new)
