-- A phase that takes slots in a fixed order.
use Rattle.std.specs.Prelude.{◌≡◌, ℕ, zero, suc, ◌+◌, ◌-◌, ◌<◌, ◌≤◌, ◌^◌, min, nat_lt, List, [], ◌∷◌, length, map, take, slice_get, Option, Some, None, false, IsTrue, refl}
use Rattle.std.proofs.Common.{arith}
use Rattle.rank_machine.specs.declared.mark.Mark.{Mark}
use Rattle.rank_machine.specs.declared.slot.Slot.{Slot}
use Rattle.rank_machine.specs.declared.record.Rec.TheVariants as r
use Rattle.rank_machine.specs.Setting.{Setting}
use Rattle.rank_machine.specs.State.{State, Took}
use Rattle.rank_machine.specs.Effect.{after}
use Rattle.rank_machine.specs.CodeLaw.{CodeLaw}
use Rattle.rank_machine.specs.Legal.{IsTake, IsLegalFrom}
use Rattle.rank_machine.specs.Marks.{follows}
use Rattle.phases.specs.declared.phase.Next.{Next}
use Rattle.phases.specs.declared.phase.Next.TheVariants.{Take, End}
use Rattle.phases.specs.Plans.{Plan, Progress, IgnoresSpawns, CanStart, saves}
use Rattle.run_laws.specs.LastCommit.{with_spawned}
use Rattle.run_laws.proofs.CodeLaws.{CodeLaw-tiles}
use Rattle.phases.specs.Words.{AddThrough, HasRoom}
use Rattle.plain_phases.specs.declared.taking.Got.{Got}
use Rattle.plain_phases.specs.Rooms.{room_at_rest, adds_nothing}

pub record TakeTask : Type 0 where
  pub slots : List (ℕ × Slot)
  pub mark : Mark

abbrev pub take_task : List (ℕ × Slot) → Mark → TakeTask
take_task slots mark = record { slots = slots; mark = mark }

-- each of these slots may be taken
abbrev pub AreTakable : Setting → State → List (ℕ × Slot) → Type 0
AreTakable s base [] = Unit {0}
AreTakable s base (p ∷ ps) = IsTake s base p.0 p.1 × AreTakable s base ps

-- the takes of these slots in a line
abbrev pub takes_of : ℕ → State → List (ℕ × Slot) → List Took
takes_of line base ps = map (λ p. record { line = line; rank = p.0; slot = p.1; tile = base.tiles p.0 p.1 }) ps

pub record MayTake (s : Setting) (base : State) (t : TakeTask) : Type 0 where
  pub follows_last : IsTrue (follows s base.mark t.mark)
  pub law : CodeLaw s base t.mark
  pub takable : AreTakable s base t.slots

-- the host is given each slot in order, and nothing else happens but the commit
abbrev pub take_plan : TakeTask → Plan
take_plan t = record {
  MayDrive = λ s base. MayTake s base t;
  Effect = λ s base takes new. (takes ≡ takes_of t.mark.line base t.slots) × (new.tiles ≡ (after s base (r.Commit t.mark false)).tiles);
  listed = [];
  mark = t.mark;
  most_nexts = length t.slots + 1;
  most_records = length t.slots + 1;
  most_words = λ _. 0;
}

abbrev pub took_from : ℕ → Got → Took
took_from line g = record { line = line; rank = g.rank; slot = g.slot; tile = Some g.tile }

abbrev pub asked_after : List (ℕ × Slot) → ℕ → Option (ℕ × Slot)
asked_after slots zero = None
asked_after slots (suc k) = slice_get slots k

abbrev pub take_progress : List (ℕ × Slot) → Mark → ℕ → List Got → Progress
take_progress slots mark calls got = record { takes = map (took_from mark.line) got; asked = asked_after slots calls; nexts = calls; records = min calls (length slots); ended = nat_lt (length slots) calls }

abbrev pub answer_of : {K : Type 0} → Option (ℕ × Slot) → Next K
answer_of None = End
answer_of (Some p) = Take p.0 p.1

-- the same state with some takes
abbrev pub with_taken : State → List Took → State
with_taken base ts = record base { taken = ts }

abbrev pub TakeStands : TakeTask → ℕ → List Got → Setting → State → State → Type 0
TakeStands t calls got s base now = (now ≡ with_taken base (takes_of t.mark.line base (take calls t.slots))) × (map (took_from t.mark.line) got ≡ takes_of t.mark.line base (take (calls - 1) t.slots))

takable_spawned : (s : Setting) (base : State) (n : ℕ) (ps : List (ℕ × Slot)) → AreTakable s base ps → AreTakable s (with_spawned base n) ps
takable_spawned s base n [] h = tt
takable_spawned s base n (p ∷ ps) h = (record { live = h.0.live; held = h.0.held; allowed = h.0.allowed }, takable_spawned s base n ps h.1)

pub take_ignores_spawns : (x : TakeTask) → IgnoresSpawns (take_plan x)
take_ignores_spawns x = record {
  may = λ s base n h. record { follows_last = h.follows_last; law = CodeLaw-tiles s base (with_spawned base n) x.mark refl h.law; takable = takable_spawned s base n x.slots h.takable };
  effect = λ s base now takes n h. h;
}

pub take_can_save : (x : TakeTask) (s : Setting) (base : State) → CanStart (take_plan x) s base → IsLegalFrom s base (saves (take_plan x).listed)
take_can_save x s base h = tt

pub take_few_saved : (x : TakeTask) (s : Setting) (base : State) → CanStart (take_plan x) s base → length (take_plan x).listed < 2 ^ 32
take_few_saved x s base h = omega arith

pub take_follows : (x : TakeTask) (s : Setting) (base : State) → CanStart (take_plan x) s base → IsTrue (follows s base.mark (take_plan x).mark)
take_follows x s base h = h.may.follows_last

pub take_some_next : (x : TakeTask) (s : Setting) (base : State) → CanStart (take_plan x) s base → 0 < (take_plan x).most_nexts
take_some_next x s base h = omega arith

pub take_enough : (x : TakeTask) (s : Setting) (base : State) → CanStart (take_plan x) s base → length (take_plan x).listed + 1 ≤ (take_plan x).most_records
take_enough x s base h = omega arith

pub take_saves_fit : (x : TakeTask) (s : Setting) (base : State) → CanStart (take_plan x) s base → AddThrough (take_plan x).most_words s base base (saves (take_plan x).listed)
take_saves_fit x s base h = adds_nothing base base refl refl

pub take_has_room : (x : TakeTask) (s : Setting) (base : State) → CanStart (take_plan x) s base → HasRoom (take_plan x).most_words s base
take_has_room x s base h = room_at_rest s base
