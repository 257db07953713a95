-- How one world has come from another.
use Rattle.std.specs.Prelude.{◌≡◌, ◌≤◌, ◌+◌, ℕ, true, List, ◌++◌, All}
use Rattle.rank_machine.specs.declared.record.Rec.{Rec}
use Rattle.rank_machine.specs.State.{State}
use Rattle.run_laws.specs.Due.{numbered}
use Rattle.run_laws.specs.LastCommit.{is_inner, rest_after}
use Rattle.block_world.specs.World.{WorldView, setting_in, state_of, is_due}
use Rattle.block_world.specs.declared.world.Did.{Did}
use Rattle.block_world.specs.declared.world.Did.TheVariants as did

-- the state that the last commit of a world left, or the opening
abbrev pub rest_of : WorldView → State
rest_of w = rest_after (setting_in w) w.journal

-- the same run, with more records
pub record IsLater (old new : WorldView) : Type 0 where
  pub script : new.script ≡ old.script
  pub files : new.files ≡ old.files
  pub added : List Rec
  pub journal : new.journal ≡ old.journal ++ added

-- records of a phase were made, and no others
pub record IsUnderWay (old new : WorldView) : Type 0 where
  pub script : new.script ≡ old.script
  pub files : new.files ≡ old.files
  pub added : List Rec
  pub journal : new.journal ≡ old.journal ++ added
  pub inner : All (λ x. is_inner x ≡ true) added

-- at most so many of them, and a loss is due
pub record IsHit (most : ℕ) (old new : WorldView) : Type 0 where
  pub under_way : IsUnderWay old new
  pub few : numbered new.journal ≤ numbered old.journal + most
  pub due : is_due new ≡ true

abbrev pub IfDone : Type 0 → Type 0 → Did → Type 0
IfDone P Q did.Done = P
IfDone P Q did.Hit = Q
