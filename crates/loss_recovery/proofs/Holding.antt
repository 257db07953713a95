-- How many words ranks hold in each state that a driven phase leads through.
use Rattle.std.proofs.Common.{◌≡◌, ℕ, suc, zero, true, List, [], ◌∷◌, refl, sym, ap, subst, ◌∙◌, arith, All}
use Rattle.std.specs.Prelude.{take}
use Rattle.std.proofs.lemmas.List.Elements.{All-nil, All-cons}
use Rattle.rank_run.specs.declared.round.Event.{Event}
use Rattle.rank_run.specs.declared.round.Event.TheVariants.{Local, Move}
use Rattle.rank_run.specs.declared.run.Ran.{Ran}
use Rattle.rank_run.specs.Action.{Action}
use Rattle.rank_machine.specs.declared.slot.Slot.{Slot}
use Rattle.rank_machine.specs.declared.slot.Tile.{Tile}
use Rattle.rank_machine.specs.declared.slot.Piece.{Piece}
use Rattle.rank_machine.specs.declared.kernel.Kernel.{Kernel}
use Rattle.rank_machine.specs.declared.record.Rec.{Rec}
use Rattle.rank_machine.specs.declared.record.Rec.TheVariants as r
use Rattle.rank_machine.specs.Setting.{Setting}
use Rattle.rank_machine.specs.State.{State}
use Rattle.rank_machine.specs.Effect.{after, replay}
use Rattle.rank_slots.specs.Rank.{Rank}
use Rattle.rank_slots.specs.Stands.{records_of}
use Rattle.run_laws.specs.LastCommit.{is_inner, IsRest, with_spawned}
use Rattle.run_laws.specs.Traces.{AllHold, HoldFrom, AlwaysHold}
use Rattle.run_laws.proofs.Words.{first-HoldFrom, AlwaysHold-end}
use Rattle.block_world.specs.World.{WorldView, setting_in, state_of, noted}
use Rattle.block_world.specs.Rounds.{IsRoundOf}
use Rattle.block_world.proofs.HeldOnTheWay.{hold-listed, always-round, always-noted}
use Rattle.phases.specs.declared.phase.Next.{Next}
use Rattle.phases.specs.declared.phase.Next.TheVariants as n
use Rattle.phases.specs.Plans.{Plan, Progress, saves, records_in, GoesOn}
use Rattle.phases.specs.Words.{AddThrough, HasRoom}
use Rattle.phase_words.specs.Resting.{IsMeasured, HoldAtRest}
use Rattle.phase_words.proofs.Resting.{HoldAtRest-rest}
use Rattle.phase_words.proofs.Holding.{HoldFrom-phase}
use Rattle.recovery_words.proofs.Rooms.{roomy-holds}
use Rattle.world_heal.specs.Ways.{rest_of, IsUnderWay}
use Rattle.world_heal.specs.Costs.{KeepsHolding, HoldsWords}
use Rattle.world_heal.proofs.Ways.{under_way-all, setting-way, rest_way, state_noted}
use Rattle.loss_recovery.specs.Driven.{HoldsAlong, HoldsDriven}

-- ---- one stretch after another
pub holds_then : (old mid new : WorldView) → setting_in mid ≡ setting_in old → KeepsHolding old mid → KeepsHolding mid new → KeepsHolding old new
holds_then old mid new s h k before = subst (λ z. AlwaysHold z new.journal) s (k (subst (λ z. AlwaysHold z mid.journal) (sym s) (h before)))

-- what is measured at the last commit stays so while a phase is under way
measured_way : (old mid : WorldView) → IsUnderWay old mid → IsMeasured (setting_in old) (rest_of old) → IsMeasured (setting_in mid) (rest_of mid)
measured_way old mid u measured =
    subst (λ z. IsMeasured z (rest_of mid)) (sym (setting-way old mid u)) (subst (λ st. IsMeasured (setting_in old) st) (sym (rest_way old mid u)) measured)

pub words_then : (old mid new : WorldView) → IsUnderWay old mid → HoldsWords old mid → HoldsWords mid new → HoldsWords old new
words_then old mid new u h k measured = holds_then old mid new (setting-way old mid u) (h measured) (k (measured_way old mid u measured))

-- how many ranks were spawned is nothing to it
pub measured_spawned : (s : Setting) (st : State) (count : ℕ) → IsMeasured s st → IsMeasured s (with_spawned st count)
measured_spawned s st count h = record { laid_out = h.laid_out; own_grid = h.own_grid; factors_live = h.factors_live; lists = h.lists }

-- what a commit leaves, where it is measured
pub rest_holds : (s : Setting) (st : State) → IsMeasured s st → IsRest s st → AllHold s st
rest_holds s st measured rest = roomy-holds s st st measured rest refl (record { fits = λ rank slot. omega arith; saved = rest.saved })

-- ---- one record, or none
-- One record after those of a phase under way.
pub holds_one : (old mid new : WorldView) (x : Rec) → IsUnderWay old mid → new ≡ noted mid x → AllHold (setting_in old) (state_of new) → KeepsHolding old mid → KeepsHolding old new
holds_one old mid new x u e now h before =
    let s : setting_in mid ≡ setting_in old = setting-way old mid u in
    let held : AllHold (setting_in mid) (after (setting_in mid) (state_of mid) x) = subst (λ st. AllHold (setting_in mid) st) (state_noted mid new x e) (subst (λ z. AllHold z (state_of new)) (sym s) now) in
    let all : AlwaysHold (setting_in mid) (noted mid x).journal = always-noted mid x (subst (λ z. AlwaysHold z mid.journal) (sym s) (h before)) held in
    subst (λ z. AlwaysHold z new.journal) s (subst (λ (v : WorldView). AlwaysHold (setting_in mid) v.journal) (sym e) all)

pub holds_kept : (old mid new : WorldView) → new ≡ mid → KeepsHolding old mid → KeepsHolding old new
holds_kept old mid new e h = subst (λ v. KeepsHolding old v) (sym e) h

pub along_one : (w w' : WorldView) (x : Rec) → w' ≡ noted w x → HoldsAlong (x ∷ []) w w'
along_one w w' x e along before = subst (λ (v : WorldView). AlwaysHold (setting_in w) v.journal) (sym e) (always-noted w x before along.1)

pub along_kept : (w w' : WorldView) (records : List Rec) → w' ≡ w → HoldsAlong records w w'
along_kept w w' records e along = holds_kept w w w' e (λ before. before)

-- a round, or as much of it as was taken
pub along_round : (w w' : WorldView) (es : List (Event Rank Kernel Piece Tile)) (order order' : List ℕ) (ended : Ran) (ts : List (Action Kernel Piece)) → IsRoundOf w w' es order order' ended ts → HoldsAlong (records_of es) w w'
along_round w w' es order order' ended ts round along before =
    subst (λ z. AlwaysHold z w'.journal) (setting-way w w' (under_way-all w w' ts round.records))
    (always-round w w' es order order' ended ts round before (hold-listed (setting_in w) (state_of w) es along))

-- ---- saves
saves-take : (i : ℕ) (xs : List (ℕ × Slot)) → take i (saves xs) ≡ saves (take i xs)
saves-take zero xs = refl
saves-take (suc i) [] = refl
saves-take (suc i) (x ∷ xs) = ap (λ ys. r.Save x.0 x.1 ∷ ys) (saves-take i xs)

-- after the first so many of them
pub saves_hold : (s : Setting) (st : State) (listed : List (ℕ × Slot)) (i : ℕ) → HoldFrom s st (saves listed) → AllHold s (replay s st (saves (take i listed)))
saves_hold s st listed i along = subst (λ xs. AllHold s (replay s st xs)) (saves-take i listed) (first-HoldFrom s st (saves listed) along i)

saves_inner : (xs : List (ℕ × Slot)) → All (λ x. is_inner x ≡ true) (saves xs)
saves_inner [] = All-nil (λ (y : Rec). is_inner y ≡ true)
saves_inner (x ∷ xs) = All-cons (λ (y : Rec). is_inner y ≡ true) (r.Save x.0 x.1) (saves xs) refl (saves_inner xs)

-- the saves of a phase that has room for them
pub saves_fit_in : (plan : Plan) (s : Setting) (base : State) → IsMeasured s base → IsRest s base → HasRoom plan.most_words s base → AddThrough plan.most_words s base base (saves plan.listed) → HoldFrom s base (saves plan.listed)
saves_fit_in plan s base measured rest room fit = HoldFrom-phase s plan.most_words base base (saves plan.listed) (HoldAtRest-rest s base rest measured) room refl (saves_inner plan.listed) fit

-- ---- the answers of a phase
round_inner : (es : List (Event Rank Kernel Piece Tile)) → All (λ x. is_inner x ≡ true) (records_of es)
round_inner [] = All-nil (λ (y : Rec). is_inner y ≡ true)
round_inner (Local rank k ∷ es) = All-cons (λ (y : Rec). is_inner y ≡ true) (r.Kernel rank k) (records_of es) refl (round_inner es)
round_inner (Move from to a b ∷ es) =
    All-cons (λ (y : Rec). is_inner y ≡ true) (r.Send from to a) (r.Recv to from b ∷ records_of es) refl (All-cons (λ (y : Rec). is_inner y ≡ true) (r.Recv to from b) (records_of es) refl (round_inner es))

module _ {K : Type 0} where
  answer_inner : (x : Next K) → All (λ y. is_inner y ≡ true) (records_in x)
  answer_inner (n.Round es) = round_inner es
  answer_inner (n.Feed rank slot m) = All-cons (λ (y : Rec). is_inner y ≡ true) (r.Feed rank slot) [] refl (All-nil (λ (y : Rec). is_inner y ≡ true))
  answer_inner (n.Take rank slot) = All-cons (λ (y : Rec). is_inner y ≡ true) (r.Take rank slot) [] refl (All-nil (λ (y : Rec). is_inner y ≡ true))
  answer_inner n.End = All-nil (λ (y : Rec). is_inner y ≡ true)

  -- the words that an answer adds are within those of its phase
  answer_adds : (plan : Plan) (Stands : Setting → State → State → Type 0) (p : Progress) (s : Setting) (base now : State) (x : Next K) → HoldAtRest s base → HasRoom plan.most_words s base → now.mark ≡ base.mark → AllHold s now → GoesOn plan Stands p s base now x → HoldFrom s now (records_in x)
  answer_adds plan Stands p s base now (n.Round es) rest room mark held g = HoldFrom-phase s plan.most_words base now (records_of es) rest room mark (answer_inner (n.Round es)) g.goes.words
  answer_adds plan Stands p s base now (n.Feed rank slot m) rest room mark held g = HoldFrom-phase s plan.most_words base now (r.Feed rank slot ∷ []) rest room mark (answer_inner (n.Feed rank slot m)) g.goes.words
  answer_adds plan Stands p s base now (n.Take rank slot) rest room mark held g = HoldFrom-phase s plan.most_words base now (r.Take rank slot ∷ []) rest room mark (answer_inner (n.Take rank slot)) g.goes.words
  answer_adds plan Stands p s base now n.End rest room mark held g = held

  -- An answer that is carried out, or as much of it as comes before a loss, keeps every rank within what it may hold.
  pub answer_holds : (plan : Plan) (Stands : Setting → State → State → Type 0) (p : Progress) (x : Next K) (old mid new : WorldView) → IsUnderWay old mid → (state_of mid).mark ≡ (rest_of old).mark → IsRest (setting_in old) (rest_of old) → HasRoom plan.most_words (setting_in old) (rest_of old)
      → GoesOn plan Stands p (setting_in old) (rest_of old) (state_of mid) x → HoldsAlong (records_in x) mid new → HoldsWords old mid → HoldsWords old new
  answer_holds plan Stands p x old mid new u mark rest room g along h measured before =
      let s : setting_in mid ≡ setting_in old = setting-way old mid u in
      let here : AlwaysHold (setting_in mid) mid.journal = subst (λ z. AlwaysHold z mid.journal) (sym s) (h measured before) in
      let held : AllHold (setting_in old) (state_of mid) = subst (λ z. AllHold z (state_of mid)) s (AlwaysHold-end (setting_in mid) mid.journal here) in
      let on = answer_adds plan Stands p (setting_in old) (rest_of old) (state_of mid) x (HoldAtRest-rest (setting_in old) (rest_of old) rest measured) room mark held g in
      subst (λ z. AlwaysHold z new.journal) s (along (subst (λ z. HoldFrom z (state_of mid) (records_in x)) (sym s) on) here)

-- ---- the commit
-- It leaves what is measured, where each rank holds at most what it may.
pub home_holds : (old mid new : WorldView) (x : Rec) → IsUnderWay old mid → new ≡ noted mid x → IsRest (setting_in new) (state_of new) → HoldsWords old mid → HoldsDriven old new
home_holds old mid new x u e rest h there measured =
    let s : setting_in new ≡ setting_in old = ap (λ (v : WorldView). setting_in v) e ∙ setting-way old mid u in
    holds_one old mid new x u e (rest_holds (setting_in old) (state_of new) there (subst (λ z. IsRest z (state_of new)) s rest)) (h measured)
