-- One recovery, from its restore to its commit, or until a loss is due.
use Rattle.std.specs.Prelude.{◌≡◌, ◌<◌, ◌≤◌, ◌+◌, ℕ, true, false, List, [], ◌∷◌, ◌++◌, length, All}
use Rattle.rank_machine.specs.declared.record.Rec.{Rec}
use Rattle.rank_machine.specs.declared.record.Rec.TheVariants as r
use Rattle.rank_machine.specs.declared.mark.Mark.{Mark}
use Rattle.rank_machine.specs.Setting.{Setting, ranks}
use Rattle.rank_machine.specs.Losses.{is_numbered}
use Rattle.recovery_rounds.specs.Rows.{spawn_records}
use Rattle.run_laws.specs.LastCommit.{is_commit, with_spawned}
use Rattle.run_laws.specs.Cuts.{GoOnFrom}
use Rattle.run_laws.specs.Traces.{recovery_of, recovery_under}
use Rattle.block_world.specs.World.{WorldView, setting_in, state_of, is_due}
use Rattle.world_heal.specs.Ways.{rest_of}
use Rattle.world_heal.specs.Costs.{HoldsWords}

-- at most so many records were made, no losses and no commits, each where the run might go on
pub record HasTried (most : ℕ) (old new : WorldView) : Type 0 where
  pub script : new.script ≡ old.script
  pub files : new.files ≡ old.files
  pub added : List Rec
  pub journal : new.journal ≡ old.journal ++ added
  pub numbered : All (λ x. is_numbered x ≡ true) added
  pub plain : All (λ x. is_commit x ≡ false) added
  pub few : length added ≤ most
  pub goes : GoOnFrom (setting_in old) old.journal added
  pub holds : HoldsWords old new

-- and then a loss is due
pub record IsStoppedWithin (most : ℕ) (old new : WorldView) : Type 0 where
  pub tried : HasTried most old new
  pub due : is_due new ≡ true

-- lost ranks were spawned, and now all ranks are live
pub record HasSpawned (old new : WorldView) : Type 0 where
  pub tried : HasTried (ranks (setting_in old)) old new
  pub numbers : List ℕ
  pub spawns : tried.added ≡ spawn_records numbers
  pub live : (rank : ℕ) → rank < ranks (setting_in old) → (state_of new).live rank ≡ true

-- the most records of a recovery before its commit
abbrev pub attempt_most : Setting → Mark → ℕ
attempt_most s mark = (1 + ranks s) + recovery_of s mark s.jobs

-- a recovery came to its commit, which left the state of the last commit again, but that more ranks may have been spawned
pub record HasRecovered (old new : WorldView) : Type 0 where
  pub script : new.script ≡ old.script
  pub files : new.files ≡ old.files
  pub added : List Rec
  pub journal : new.journal ≡ old.journal ++ (added ++ r.Commit (state_of old).mark true ∷ [])
  pub numbered : All (λ x. is_numbered x ≡ true) added
  pub plain : All (λ x. is_commit x ≡ false) added
  pub few : length added < recovery_under (setting_in old) (state_of old).mark
  pub goes : GoOnFrom (setting_in old) old.journal (added ++ r.Commit (state_of old).mark true ∷ [])
  pub same : state_of new ≡ with_spawned (rest_of old) (state_of new).spawned
  pub holds : HoldsWords old new
