-- What is known after each step of driving a phase.
use Rattle.std.specs.Prelude.{◌≡◌, ◌≤◌, ◌+◌, ℕ, true, false, [], Option, length}
use Rattle.rank_machine.specs.declared.slot.Tile.{Tile}
use Rattle.rank_machine.specs.declared.record.Rec.TheVariants as r
use Rattle.rank_machine.specs.CodeLaw.{CodeLaw}
use Rattle.rank_machine.specs.Effect.{after}
use Rattle.run_laws.specs.Due.{numbered}
use Rattle.block_world.specs.World.{WorldView, setting_in, state_of}
use Rattle.phases.specs.declared.phase.Next.{Next}
use Rattle.loss_recovery.specs.declared.driving.Carried.{Carried}
use Rattle.loss_recovery.specs.declared.driving.Carried.TheVariants as carried
use Rattle.phases.specs.Plans.{Plan, Progress, is_end}
use Rattle.world_heal.specs.Ways.{IsUnderWay, rest_of}

abbrev pub IfCarried : {K : Type 0} → Next K → (Option Tile → Type 0) → Type 0 → Type 0 → Carried → Type 0
IfCarried next P Q R (carried.On taken) = P taken
IfCarried next P Q R carried.Ended = (is_end next ≡ true) × Q
IfCarried next P Q R carried.Hit = R

-- a phase has begun: nothing is on its way, and nothing was taken
pub record HasBegun (w : WorldView) : Type 0 where
  pub links : (from to : ℕ) → (state_of w).links from to ≡ []
  pub taken : (state_of w).taken ≡ []
  pub mark : (state_of w).mark ≡ (rest_of w).mark

-- the phase has ended: its effect will hold once it has committed, and its takes are those made since the last commit
pub record IsRunOut (plan : Plan) (progress : Progress) (old new : WorldView) : Type 0 where
  pub under_way : IsUnderWay old new
  pub ended : progress.ended ≡ true
  pub law : CodeLaw (setting_in old) (state_of new) plan.mark
  pub effect : plan.Effect (setting_in old) (rest_of old) progress.takes (after (setting_in old) (state_of new) (r.Commit plan.mark false))
  pub taken : (state_of new).taken ≡ progress.takes
  pub links : (from to : ℕ) → (state_of new).links from to ≡ []
  pub count : numbered new.journal ≡ numbered old.journal + progress.records
  pub few : progress.records + length plan.listed + 1 ≤ plan.most_records
