-- What became of a call that makes one record.
use Rattle.std.specs.Prelude.{◌≡◌, ℕ, true, false, Some}
use Rattle.rank_machine.specs.declared.slot.Slot.{Slot}
use Rattle.rank_machine.specs.declared.slot.Tile.{Tile}
use Rattle.rank_machine.specs.declared.record.Rec.{Rec}
use Rattle.rank_machine.specs.declared.record.Rec.TheVariants as r
use Rattle.block_world.specs.declared.world.Did.{Did}
use Rattle.block_world.specs.declared.world.Did.TheVariants as did
use Rattle.block_world.specs.declared.world.Taken.{Taken}
use Rattle.block_world.specs.declared.world.Taken.TheVariants as taken
use Rattle.block_world.specs.World.{WorldView, state_of, is_due, noted}

-- no loss was due, and the record is at the journal's end
pub record IsMade (w w' : WorldView) (x : Rec) : Type 0 where
  pub due : is_due w ≡ false
  pub noted : w' ≡ noted w x

-- a loss is due, and nothing has changed
pub record IsStopped (w w' : WorldView) : Type 0 where
  pub due : is_due w ≡ true
  pub kept : w' ≡ w

-- the record was made, or a loss is due
abbrev pub IsDid : Did → WorldView → WorldView → Rec → Type 0
IsDid did.Done w w' x = IsMade w w' x
IsDid did.Hit w w' x = IsStopped w w'

-- the slot's tile was taken
pub record IsTileTaken (w w' : WorldView) (rank : ℕ) (slot : Slot) (t : Tile) : Type 0 where
  pub due : is_due w ≡ false
  pub tile : (state_of w).tiles rank slot ≡ Some t
  pub noted : w' ≡ noted w (r.Take rank slot)

-- a tile was taken, or a loss is due
abbrev pub IsTaken : Taken → WorldView → WorldView → ℕ → Slot → Type 0
IsTaken (taken.Tile t) w w' rank slot = IsTileTaken w w' rank slot t
IsTaken taken.Hit w w' rank slot = IsStopped w w'
