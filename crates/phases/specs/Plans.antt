-- What contracts see of a phase.
use Rattle.std.specs.Prelude.{◌≡◌, ℕ, ◌+◌, ◌<◌, ◌≤◌, Bool, true, false, List, [], ◌∷◌, ◌++◌, length, map, Option, Some, None, All}
use Rattle.rank_run.specs.Parts.{IsWithin}
use Rattle.rank_run.specs.Rounds.{steps}
use Rattle.rank_machine.specs.declared.slot.Slot.{Slot}
use Rattle.rank_machine.specs.declared.slot.Tile.{Tile}
use Rattle.rank_machine.specs.declared.slot.Tile.TheVariants.{Words}
use Rattle.rank_machine.specs.declared.mark.Mark.{Mark}
use Rattle.rank_machine.specs.declared.record.Rec.{Rec}
use Rattle.rank_machine.specs.declared.record.Rec.TheVariants as r
use Rattle.rank_machine.specs.Setting.{Setting, ranks}
use Rattle.rank_machine.specs.State.{State, Took}
use Rattle.rank_machine.specs.Effect.{after, replay, strip}
use Rattle.rank_machine.specs.CodeLaw.{CodeLaw}
use Rattle.rank_machine.specs.Legal.{IsLegalFrom}
use Rattle.rank_slots.specs.Stands.{records_of}
use Rattle.run_laws.specs.LastCommit.{IsRest, with_spawned}
use Rattle.phases.specs.declared.phase.Next.{Next}
use Rattle.phases.specs.declared.phase.Next.TheVariants.{Round, Feed, Take, End}
use Rattle.phases.specs.Words.{AddThrough}

-- What is fixed when a phase is made.
pub record Plan : Type 1 where
  -- the states of a last commit from which it may be driven
  pub MayDrive : Setting → State → Type 0
  -- its effect: the state of the last commit, its takes in order, and the state of its own commit
  pub Effect : Setting → State → List Took → State → Type 0
  -- the slots that it saves, with their ranks
  pub listed : List (ℕ × Slot)
  -- the mark of its commit
  pub mark : Mark
  -- the most `next` calls, the most records, its saves and its commit counted, and by rank the most words that it adds
  pub most_nexts : ℕ
  pub most_records : ℕ
  pub most_words : ℕ → ℕ

-- it asks, and says, nothing of how many ranks were spawned
pub record IgnoresSpawns (plan : Plan) : Type 0 where
  pub may : (s : Setting) (base : State) (n : ℕ) → plan.MayDrive s base → plan.MayDrive s (with_spawned base n)
  pub effect : (s : Setting) (base now : State) (takes : List Took) (n : ℕ) → plan.Effect s (with_spawned base n) takes now → plan.Effect s base takes now

-- the state is that of a commit from which the phase may be driven
pub record CanStart (plan : Plan) (s : Setting) (base : State) : Type 0 where
  pub rest : IsRest s base
  pub may : plan.MayDrive s base

-- the records that save slots
abbrev pub saves : List (ℕ × Slot) → List Rec
saves listed = map (λ x. r.Save x.0 x.1) listed

-- What a phase has answered since `start`: the takes that it was handed, the take whose tile it is to be handed next, how many
-- `next` calls there were, how many records its answers make, and whether it has ended.
pub record Progress : Type 0 where
  pub takes : List Took
  pub asked : Option (ℕ × Slot)
  pub nexts : ℕ
  pub records : ℕ
  pub ended : Bool

abbrev pub at_start : Progress
at_start = record { takes = []; asked = None; nexts = 0; records = 0; ended = false }

-- the take whose tile is handed over, made in a line
abbrev pub took_with : ℕ → Option (ℕ × Slot) → Option Tile → List Took
took_with line None tile = []
took_with line (Some p) None = []
took_with line (Some p) (Some tile) = record { line = line; rank = p.0; slot = p.1; tile = Some tile } ∷ []

-- the tile that is to be handed over
abbrev pub handed : State → Option (ℕ × Slot) → Option Tile
handed now None = None
handed now (Some p) = now.tiles p.0 p.1

-- ---- an answer
abbrev pub asked_by : {K : Type 0} → Next K → Option (ℕ × Slot)
asked_by (Round es) = None
asked_by (Feed rank slot m) = None
asked_by (Take rank slot) = Some (rank, slot)
asked_by End = None

abbrev pub is_end : {K : Type 0} → Next K → Bool
is_end (Round es) = false
is_end (Feed rank slot m) = false
is_end (Take rank slot) = false
is_end End = true

-- its records in list order
abbrev pub records_in : {K : Type 0} → Next K → List Rec
records_in (Round es) = records_of es
records_in (Feed rank slot m) = r.Feed rank slot ∷ []
records_in (Take rank slot) = r.Take rank slot ∷ []
records_in End = []

abbrev pub steps_in : {K : Type 0} → Next K → ℕ
steps_in (Round es) = steps es
steps_in (Feed rank slot m) = 1
steps_in (Take rank slot) = 1
steps_in End = 0

abbrev pub after_next : {K : Type 0} → ℕ → Progress → Option Tile → Next K → Progress
after_next line p taken next = record {
  takes = p.takes ++ took_with line p.asked taken;
  asked = asked_by next;
  nexts = p.nexts + 1;
  records = p.records + steps_in next;
  ended = is_end next;
}

-- what a call of the world asks for an answer: its ranks are there, a strip is the file's, and all its records are legal
abbrev pub Brings : {K : Type 0} → Setting → Next K → Type 0
Brings s (Round es) = All (IsWithin (ranks s)) es
Brings s (Feed rank slot m) = strip s rank slot ≡ Words m
Brings s (Take rank slot) = Unit {0}
Brings s End = Unit {0}

-- an answer before the end can be carried out, within the words that the phase adds; then the phase may go on, with `next` calls to spare
pub record GoesFurther {K : Type 0} (plan : Plan) (Stands : Setting → State → State → Type 0) (progress : Progress) (s : Setting) (base now : State) (next : Next K) : Type 0 where
  pub brings : Brings s next
  pub legal : IsLegalFrom s now (records_in next)
  pub words : AddThrough plan.most_words s base now (records_in next)
  pub stands : Stands s base (replay s now (records_in next))
  pub nexts : progress.nexts < plan.most_nexts

-- at the end the code law holds for the phase's mark, and the effect once it has committed
pub record GoesHome (plan : Plan) (progress : Progress) (s : Setting) (base now : State) : Type 0 where
  pub law : CodeLaw s now plan.mark
  pub effect : plan.Effect s base progress.takes (after s now (r.Commit plan.mark false))

abbrev pub GoesAs : {K : Type 0} → Bool → Plan → (Setting → State → State → Type 0) → Progress → Setting → State → State → Next K → Type 0
GoesAs false plan Stands progress s base now next = GoesFurther plan Stands progress s base now next
GoesAs true plan Stands progress s base now next = GoesHome plan progress s base now

-- in both cases the saves, the answers' records and the commit are at most so many
pub record GoesOn {K : Type 0} (plan : Plan) (Stands : Setting → State → State → Type 0) (progress : Progress) (s : Setting) (base now : State) (next : Next K) : Type 0 where
  pub goes : GoesAs (is_end next) plan Stands progress s base now next
  pub few : progress.records + length plan.listed + 1 ≤ plan.most_records
