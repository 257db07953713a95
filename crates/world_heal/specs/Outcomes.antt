-- How healing ends.
use Rattle.std.specs.Prelude.{◌≡◌, true, [], Option, Some, None, List}
use Rattle.rank_machine.specs.Setting.{Setting}
use Rattle.rank_machine.specs.State.{State}
use Rattle.rank_machine.specs.Effect.{state_after}
use Rattle.rank_machine.specs.Losses.{IsBeyond, LacksSpare}
use Rattle.rank_machine.specs.declared.record.Rec.{Rec}
use Rattle.run_laws.specs.Due.{has_fallen}
use Rattle.run_laws.specs.LastCommit.{since, with_spawned}
use Rattle.run_laws.specs.Cuts.{IsWithin, MayGoOn}
use Rattle.block_world.specs.World.{WorldView, setting_in, state_of}
use Rattle.world_heal.specs.declared.healing.Drove.{Drove}
use Rattle.world_heal.specs.declared.healing.Drove.TheVariants as d
use Rattle.world_heal.specs.Ways.{IsLater, rest_of}

-- the run ends here: a row is beyond repair, the first one, or none is and a lost rank gets no spare
abbrev pub IsEnding : Setting → State → Drove → Type 0
IsEnding s st d.Done = ⊥
IsEnding s st (d.Beyond grid row) = IsBeyond s st grid row
IsEnding s st (d.NoSpare rank) = IsWithin s st × LacksSpare s st rank

-- the run ends after a journal, or it may go on
abbrev pub EndsOrGoesOn : Setting → List Rec → Option Drove → Type 0
EndsOrGoesOn s journal None = MayGoOn s journal
EndsOrGoesOn s journal (Some drove) = IsEnding s (state_after s journal) drove

-- the run was cut short: losses fell, and no plain commit was made, so that the last commit left the same as before, but that more ranks may have been spawned
pub record IsCutAt (old new : WorldView) (drove : Drove) : Type 0 where
  pub later : IsLater old new
  pub fell : has_fallen new.journal ≡ true
  pub rest : rest_of new ≡ with_spawned (rest_of old) (rest_of new).spawned
  pub ending : IsEnding (setting_in new) (state_of new) drove

-- what the last commit left is there again, on every rank, and nothing else: the state is the same again, but that more ranks may have been spawned
pub record IsHealed (old new : WorldView) : Type 0 where
  pub later : IsLater old new
  pub last : since new.journal ≡ []
  pub same : state_of new ≡ with_spawned (rest_of old) (state_of new).spawned

abbrev pub IfDrove : Type 0 → (Drove → Type 0) → Drove → Type 0
IfDrove P Q d.Done = P
IfDrove P Q (d.Beyond grid row) = Q (d.Beyond grid row)
IfDrove P Q (d.NoSpare rank) = Q (d.NoSpare rank)
