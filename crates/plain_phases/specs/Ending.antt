-- A phase that is a commit alone.
use Rattle.std.specs.Prelude.{◌≡◌, ℕ, ◌+◌, ◌<◌, ◌≤◌, ◌^◌, nat_lt, false, [], length, None, IsTrue, refl}
use Rattle.std.proofs.Common.{arith}
use Rattle.rank_machine.specs.declared.mark.Mark.{Mark}
use Rattle.rank_machine.specs.declared.record.Rec.TheVariants as r
use Rattle.rank_machine.specs.Setting.{Setting}
use Rattle.rank_machine.specs.State.{State}
use Rattle.rank_machine.specs.Effect.{after}
use Rattle.rank_machine.specs.CodeLaw.{CodeLaw}
use Rattle.rank_machine.specs.Legal.{IsLegalFrom}
use Rattle.rank_machine.specs.Marks.{follows}
use Rattle.phases.specs.Plans.{Plan, Progress, IgnoresSpawns, CanStart, saves}
use Rattle.run_laws.specs.LastCommit.{with_spawned}
use Rattle.run_laws.proofs.CodeLaws.{CodeLaw-tiles}
use Rattle.phases.specs.Words.{AddThrough, HasRoom}
use Rattle.plain_phases.specs.Rooms.{room_at_rest, adds_nothing}

-- the mark may come next, and the code law holds under it already
pub record MayEnd (s : Setting) (base : State) (mark : Mark) : Type 0 where
  pub follows_last : IsTrue (follows s base.mark mark)
  pub law : CodeLaw s base mark

abbrev pub end_plan : Mark → Plan
end_plan mark = record {
  MayDrive = λ s base. MayEnd s base mark;
  Effect = λ s base takes new. (takes ≡ []) × (new.tiles ≡ (after s base (r.Commit mark false)).tiles);
  listed = [];
  mark = mark;
  most_nexts = 1;
  most_records = 1;
  most_words = λ _. 0;
}

abbrev pub end_progress : ℕ → Progress
end_progress calls = record { takes = []; asked = None; nexts = calls; records = 0; ended = nat_lt 0 calls }

abbrev pub EndStands : Setting → State → State → Type 0
EndStands s base now = now ≡ base

pub end_ignores_spawns : (x : Mark) → IgnoresSpawns (end_plan x)
end_ignores_spawns x = record {
  may = λ s base n h. record { follows_last = h.follows_last; law = CodeLaw-tiles s base (with_spawned base n) x refl h.law };
  effect = λ s base now takes n h. h;
}

pub end_can_save : (x : Mark) (s : Setting) (base : State) → CanStart (end_plan x) s base → IsLegalFrom s base (saves (end_plan x).listed)
end_can_save x s base h = tt

pub end_few_saved : (x : Mark) (s : Setting) (base : State) → CanStart (end_plan x) s base → length (end_plan x).listed < 2 ^ 32
end_few_saved x s base h = omega arith

pub end_follows : (x : Mark) (s : Setting) (base : State) → CanStart (end_plan x) s base → IsTrue (follows s base.mark (end_plan x).mark)
end_follows x s base h = h.may.follows_last

pub end_some_next : (x : Mark) (s : Setting) (base : State) → CanStart (end_plan x) s base → 0 < (end_plan x).most_nexts
end_some_next x s base h = omega arith

pub end_enough : (x : Mark) (s : Setting) (base : State) → CanStart (end_plan x) s base → length (end_plan x).listed + 1 ≤ (end_plan x).most_records
end_enough x s base h = omega arith

pub end_saves_fit : (x : Mark) (s : Setting) (base : State) → CanStart (end_plan x) s base → AddThrough (end_plan x).most_words s base base (saves (end_plan x).listed)
end_saves_fit x s base h = adds_nothing base base refl refl

pub end_has_room : (x : Mark) (s : Setting) (base : State) → CanStart (end_plan x) s base → HasRoom (end_plan x).most_words s base
end_has_room x s base h = room_at_rest s base
