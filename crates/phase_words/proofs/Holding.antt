-- A phase that adds no more words than it may keeps every rank within what it may hold.
use Rattle.std.proofs.Common.{◌≡◌, ℕ, true, List, [], ◌∷◌, refl, ◌∙◌, arith, All}
use Rattle.std.proofs.lemmas.List.Elements.{All-head, All-tail}
use Rattle.rank_machine.specs.declared.record.Rec.{Rec}
use Rattle.rank_machine.specs.declared.record.Rec.TheVariants as r
use Rattle.rank_machine.specs.Setting.{Setting}
use Rattle.rank_machine.specs.State.{State}
use Rattle.rank_machine.specs.Effect.{after}
use Rattle.run_laws.specs.LastCommit.{is_inner}
use Rattle.run_laws.specs.Traces.{AllHold, HoldFrom}
use Rattle.run_laws.proofs.Words.{most_words-mark}
use Rattle.phases.specs.Words.{AddAtMost, AddThrough, HasRoom}
use Rattle.phase_words.specs.Resting.{HoldAtRest}

-- ---- one state, and the states that records lead through
held_now : (s : Setting) (most : ℕ → ℕ) (base now : State) → HoldAtRest s base → HasRoom most s base → now.mark ≡ base.mark → AddAtMost most base now → AllHold s now
held_now s most base now rest room mark adds rank lt slots distinct =
    omega (arith, adds rank slots distinct, rest rank lt slots distinct, room rank lt, most_words-mark s now base rank mark)

inner-mark : (s : Setting) (st : State) (x : Rec) → is_inner x ≡ true → (after s st x).mark ≡ st.mark
inner-mark s st (r.Feed a b) e = refl
inner-mark s st (r.Kernel a b) e = refl
inner-mark s st (r.Send a b c) e = refl
inner-mark s st (r.Recv a b c) e = refl
inner-mark s st (r.Save a b) e = refl
inner-mark s st (r.Take a b) e = refl
inner-mark s st (r.Commit m h) e = absurd (cc)
inner-mark s st r.Restore e = refl
inner-mark s st (r.Spawn a) e = refl
inner-mark s st (r.Lose a) e = refl

-- From a state of a phase, records of the phase that add no more words than it may, where it has room for them over what its last commit left, keep every rank
-- within what it may hold, in each state that they lead through.
pub HoldFrom-phase : (s : Setting) (most : ℕ → ℕ) (base now : State) (xs : List Rec) → HoldAtRest s base → HasRoom most s base → now.mark ≡ base.mark → All (λ x. is_inner x ≡ true) xs → AddThrough most s base now xs → HoldFrom s now xs
HoldFrom-phase s most base now [] rest room mark inner adds = held_now s most base now rest room mark adds
HoldFrom-phase s most base now (x ∷ xs) rest room mark inner adds = (
  held_now s most base now rest room mark adds.0,
  HoldFrom-phase s most base (after s now x) xs rest room (inner-mark s now x (All-head (λ (y : Rec). is_inner y ≡ true) x xs inner) ∙ mark) (All-tail (λ (y : Rec). is_inner y ≡ true) x xs inner) adds.1,
)
