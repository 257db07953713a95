-- States of a recovery in which no rank holds more than at the last commit, but for one strip in its work slot.
use Rattle.std.specs.Prelude.{◌≡◌, ◌+◌, ◌≤◌, ℕ, if◌then◌else◌, None}
use Rattle.rank_machine.specs.declared.slot.Slot.{Slot}
use Rattle.rank_machine.specs.Setting.{Setting}
use Rattle.rank_machine.specs.State.{State, same_slot}
use Rattle.rank_machine.specs.Held.{size_of}
use Rattle.phases.specs.Words.{live_tile}
use Rattle.recovery_rounds.specs.Mending.{brought}

-- the most words that a rank may have in a slot: as many as at the last commit, and in the work slot as many more as the largest strip of a live matrix has
abbrev pub room_in : Setting → State → ℕ → Slot → ℕ
room_in s last rank slot = size_of (last.tiles rank slot) + (if same_slot slot brought then live_tile s last.mark s.jobs else 0)

-- no slot of a rank has more, and nothing is saved
pub record IsRoomy (s : Setting) (last now : State) : Type 0 where
  pub fits : (rank : ℕ) (slot : Slot) → size_of (now.tiles rank slot) ≤ room_in s last rank slot
  pub saved : (rank : ℕ) (slot : Slot) → now.saved rank slot ≡ None
