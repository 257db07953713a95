-- What driving a phase does.
use Rattle.std.specs.Prelude.{◌≡◌, ◌≤◌, ◌+◌, ℕ, true, false, List, [], ◌∷◌, ◌++◌, Option}
use Rattle.rank_machine.specs.declared.record.Rec.{Rec}
use Rattle.rank_machine.specs.declared.record.Rec.TheVariants as r
use Rattle.rank_machine.specs.declared.slot.Tile.{Tile}
use Rattle.rank_machine.specs.State.{State}
use Rattle.rank_machine.specs.Effect.{replay}
use Rattle.rank_machine.specs.Legal.{IsLegalFrom}
use Rattle.run_laws.specs.Due.{numbered}
use Rattle.run_laws.specs.LastCommit.{since, IsRest}
use Rattle.run_laws.specs.Traces.{HoldFrom, spent, recovery_under}
use Rattle.block_world.specs.World.{WorldView, setting_in, state_of}
use Rattle.world_heal.specs.declared.healing.Drove.{Drove}
use Rattle.world_heal.specs.declared.healing.Drove.TheVariants as d
use Rattle.phases.specs.declared.phase.Next.{Next}
use Rattle.phases.specs.Plans.{Plan, Progress, handed, records_in, steps_in, is_end, asked_by, Brings}
use Rattle.dist_matrix.specs.Site.{SiteView}
use Rattle.world_heal.specs.Ways.{IsLater, IsUnderWay}
use Rattle.world_heal.specs.Costs.{KeepsGoing, KeepsShort, KeepsHealing, KeepsHolding, HoldsWords}
use Rattle.phase_words.specs.Resting.{IsMeasured}

-- what a driver of commands knows of a world: its script, and the last mark
abbrev pub site_at : WorldView → SiteView
site_at w = record { script = w.script; mark = (state_of w).mark }

-- the world stands as its last commit, or the opening, left it, and may be driven on
pub record IsAtRest (w : WorldView) : Type 0 where
  pub last : since w.journal ≡ []
  pub rest : IsRest (setting_in w) (state_of w)

-- ---- costs
-- where each record of a phase and of a recovery is counted, and each loss still to fall as a phase and a recovery, no more than this is new
abbrev pub CostsAtMost : ℕ → ℕ → WorldView → WorldView → ℕ → Type 0
CostsAtMost phase recovery old new extra = spent (phase + recovery) (setting_in old) new.journal ≤ spent (phase + recovery) (setting_in old) old.journal + extra

-- a phase's own records where it has committed, and nothing where the run was cut short
abbrev pub cost_of : Plan → Drove → ℕ
cost_of plan d.Done = plan.most_records
cost_of plan (d.Beyond grid row) = 0
cost_of plan (d.NoSpare rank) = 0

-- where losses fall first, one of them pays for the recovery
abbrev pub Recovers : WorldView → WorldView → Type 0
Recovers old new = let most = recovery_under (setting_in old) (state_of old).mark in spent most (setting_in old) new.journal ≤ spent most (setting_in old) old.journal

-- where losses fall first, each healed commit still comes in time
abbrev pub RecoversInTime : WorldView → WorldView → Type 0
RecoversInTime old new = (recovery : ℕ) → recovery_under (setting_in old) (state_of old).mark ≤ recovery → KeepsHealing recovery old new

-- ---- words
-- where each rank holds at most what it may in the states that some records lead through, it does so in every state on the way
abbrev pub HoldsAlong : List Rec → WorldView → WorldView → Type 0
HoldsAlong records old new = HoldFrom (setting_in old) (state_of old) records → KeepsHolding old new

-- it does so where what the last commit left is measured, and what the phase's own commit left
abbrev pub HoldsDriven : WorldView → WorldView → Type 0
HoldsDriven old new = IsMeasured (setting_in old) (state_of new) → HoldsWords old new

-- ---- inside a phase
-- exactly so many, which led to this state
pub record HasCome (now : State) (steps : ℕ) (old new : WorldView) : Type 0 where
  pub under_way : IsUnderWay old new
  pub state : state_of new ≡ now
  pub count : numbered new.journal ≡ numbered old.journal + steps

-- an answer can be carried out
pub record CanCarry {K : Type 0} (w : WorldView) (next : Next K) : Type 0 where
  pub brings : Brings (setting_in w) next
  pub legal : IsLegalFrom (setting_in w) (state_of w) (records_in next)
  pub links : (from to : ℕ) → (state_of w).links from to ≡ []

-- it was carried out, and the tile of a take is there
pub record HasCarried {K : Type 0} (old new : WorldView) (next : Next K) (taken : Option Tile) : Type 0 where
  pub come : HasCome (replay (setting_in old) (state_of old) (records_in next)) (steps_in next) old new
  pub handed_over : taken ≡ handed (state_of new) (asked_by next)
  pub goes_on : is_end next ≡ false

-- ---- driving
-- The phase has ended and committed. Its effect holds between the state of the last commit and this one for its takes, and these are the committed ones that were added.
pub record IsDriven (plan : Plan) (progress : Progress) (old new : WorldView) : Type 0 where
  pub later : IsLater old new
  pub ended : progress.ended ≡ true
  pub before : List Rec
  pub commit : new.journal ≡ before ++ r.Commit plan.mark false ∷ []
  pub effect : plan.Effect (setting_in old) (state_of old) progress.takes (state_of new)
  pub committed : (state_of new).committed ≡ (state_of old).committed ++ progress.takes
  pub mark : (state_of new).mark ≡ plan.mark
  pub rest : IsAtRest new

-- without a loss, in so few records
pub record IsStraight (plan : Plan) (progress : Progress) (old new : WorldView) : Type 0 where
  pub driven : IsDriven plan progress old new
  pub few : numbered new.journal ≤ numbered old.journal + plan.most_records
  pub goes : KeepsGoing old new
  pub in_time : (recovery : ℕ) → KeepsHealing recovery old new
  pub short : (phase : ℕ) → plan.most_records ≤ phase → KeepsShort phase old new
