-- The saves of a phase, one after another.
use Rattle.std.proofs.Common.{◌≡◌, ◌+◌, ◌≤◌, ◌<◌, ℕ, zero, suc, Some, None, List, [], ◌∷◌, ◌++◌, length, slice_get, refl, sym, ap, subst, ◌∙◌, arith}
use Rattle.std.specs.Prelude.{take, drop}
use Rattle.rank_machine.specs.declared.slot.Slot.{Slot}
use Rattle.rank_machine.specs.declared.record.Rec.{Rec}
use Rattle.rank_machine.specs.declared.record.Rec.TheVariants as r
use Rattle.rank_machine.specs.Setting.{Setting}
use Rattle.rank_machine.specs.State.{State}
use Rattle.rank_machine.specs.Effect.{after, replay}
use Rattle.rank_machine.specs.Legal.{IsLegalRec, IsLegalFrom}
use Rattle.run_laws.specs.Due.{numbered}
use Rattle.run_laws.specs.Traces.{AllHold}
use Rattle.run_laws.proofs.Journals.{replay-append, IsLegalFrom-later}
use Rattle.block_world.specs.World.{WorldView, setting_in, state_of}
use Rattle.block_world.specs.Did.{IsMade, IsStopped}
use Rattle.phases.specs.Plans.{saves}
use Rattle.world_heal.specs.Ways.{IsUnderWay, IsHit}
use Rattle.world_heal.proofs.Ways.{under_way-then, setting-way}
use Rattle.loss_recovery.specs.Driven.{HasCome, HoldsAlong}
use Rattle.loss_recovery.proofs.Worlds.{come-same, come-one}
use Rattle.loss_recovery.proofs.Holding.{holds_one, holds_kept, saves_hold}

module _ {X : Type 0} where
  split_at : (xs : List X) (i : ℕ) (x : X) → slice_get xs i ≡ Some x → xs ≡ take i xs ++ x ∷ drop (suc i) xs
  split_at [] i x e = absurd (cc)
  split_at (y ∷ xs) zero x e = ap (λ z. z ∷ xs) (some_same y x e)
    where
      some_same : (a b : X) → Some a ≡ Some b → a ≡ b
      some_same a b e = cc
  split_at (y ∷ xs) (suc i) x e = ap (λ zs. y ∷ zs) (split_at xs i x e)

  take_more : (xs : List X) (i : ℕ) (x : X) → slice_get xs i ≡ Some x → take (suc i) xs ≡ take i xs ++ x ∷ []
  take_more [] i x e = absurd (cc)
  take_more (y ∷ xs) zero x e = ap (λ z. z ∷ []) (some_same y x e)
    where
      some_same : (a b : X) → Some a ≡ Some b → a ≡ b
      some_same a b e = cc
  take_more (y ∷ xs) (suc i) x e = ap (λ zs. y ∷ zs) (take_more xs i x e)

  pub below_length : (xs : List X) (i : ℕ) (x : X) → slice_get xs i ≡ Some x → i < length xs
  below_length [] i x e = absurd (cc)
  below_length (y ∷ xs) zero x e = omega arith
  below_length (y ∷ xs) (suc i) x e = omega (arith, below_length xs i x e)

  past_length : (xs : List X) (i : ℕ) → slice_get xs i ≡ None → length xs ≤ i
  past_length [] i e = omega arith
  past_length (y ∷ xs) zero e = absurd (cc)
  past_length (y ∷ xs) (suc i) e = omega (arith, past_length xs i e)

  take_all : (xs : List X) (i : ℕ) → length xs ≤ i → take i xs ≡ xs
  take_all [] zero le = refl
  take_all [] (suc i) le = refl
  take_all (y ∷ xs) zero le = absurd (omega arith)
  take_all (y ∷ xs) (suc i) le = ap (λ zs. y ∷ zs) (take_all xs i (omega arith))

saves-append : (xs ys : List (ℕ × Slot)) → saves (xs ++ ys) ≡ saves xs ++ saves ys
saves-append [] ys = refl
saves-append (x ∷ xs) ys = ap (λ zs. r.Save x.0 x.1 ∷ zs) (saves-append xs ys)

-- the first so many slots are saved
pub record IsSaving (listed : List (ℕ × Slot)) (i : ℕ) (old new : WorldView) : Type 0 where
  pub come : HasCome (replay (setting_in old) (state_of old) (saves (take i listed))) i old new
  pub within : i ≤ length listed
  pub holds : HoldsAlong (saves listed) old new

pub saving_begins : (listed : List (ℕ × Slot)) (w : WorldView) → IsSaving listed 0 w w
saving_begins listed w = record { come = come-same w; within = omega arith; holds = λ along before. before }

-- the next one can be saved
pub saving_legal : (listed : List (ℕ × Slot)) (i rank : ℕ) (slot : Slot) (old new : WorldView) → IsSaving listed i old new → IsLegalFrom (setting_in old) (state_of old) (saves listed) → slice_get listed i ≡ Some (rank, slot)
    → IsLegalRec (setting_in new) (state_of new) (r.Save rank slot)
saving_legal listed i rank slot old new h legal e =
    let parts : saves listed ≡ saves (take i listed) ++ r.Save rank slot ∷ saves (drop (suc i) listed) = ap saves (split_at listed i (rank, slot) e) ∙ saves-append (take i listed) ((rank, slot) ∷ drop (suc i) listed) in
    let later = IsLegalFrom-later (setting_in old) (state_of old) (saves (take i listed)) (r.Save rank slot ∷ saves (drop (suc i) listed)) (subst (λ xs. IsLegalFrom (setting_in old) (state_of old) xs) parts legal) in
    subst (λ s. IsLegalRec s (state_of new) (r.Save rank slot)) (sym (setting-way old new h.come.under_way))
    (subst (λ st. IsLegalRec (setting_in old) st (r.Save rank slot)) (sym h.come.state) later.0)

come-then : (s : Setting) (a b c : WorldView) (st : State) (n : ℕ) (x : Rec) → HasCome st n a b → (u : IsUnderWay b c) → state_of c ≡ after s (state_of b) x → numbered c.journal ≡ numbered b.journal + 1 → HasCome (after s st x) (n + 1) a c
come-then s a b c st n x h u e m = record { under_way = under_way-then a b c h.under_way u; state = e ∙ ap (λ z. after s z x) h.state; count = omega (arith, m, h.count) }

pub saving_goes_on : (listed : List (ℕ × Slot)) (i rank : ℕ) (slot : Slot) (old mid new : WorldView) → IsSaving listed i old mid → slice_get listed i ≡ Some (rank, slot) → IsMade mid new (r.Save rank slot) → IsSaving listed (i + 1) old new
saving_goes_on listed i rank slot old mid new h e gone =
    let step = come-one mid new (r.Save rank slot) refl gone.noted in
    let same : setting_in mid ≡ setting_in old = setting-way old mid h.come.under_way in
    let state : state_of new ≡ after (setting_in old) (state_of mid) (r.Save rank slot) = step.state ∙ ap (λ s. after s (state_of mid) (r.Save rank slot)) same in
    let there = come-then (setting_in old) old mid new (replay (setting_in old) (state_of old) (saves (take i listed))) i (r.Save rank slot) h.come step.under_way state step.count in
    let all : after (setting_in old) (replay (setting_in old) (state_of old) (saves (take i listed))) (r.Save rank slot) ≡ replay (setting_in old) (state_of old) (saves (take (suc i) listed)) =
    sym (replay-append (setting_in old) (state_of old) (saves (take i listed)) (r.Save rank slot ∷ []))
    ∙ ap (replay (setting_in old) (state_of old)) (sym (ap saves (take_more listed i (rank, slot) e) ∙ saves-append (take i listed) ((rank, slot) ∷ []))) in
    let next : i + 1 ≡ suc i = omega arith in
    let come : HasCome (replay (setting_in old) (state_of old) (saves (take (suc i) listed))) (suc i) old new = subst (λ st. HasCome st (suc i) old new) all (rw (sym next) there) in
    rw next (record {
      come = come;
      within = omega (arith, below_length listed i (rank, slot) e);
      holds = λ along. holds_one old mid new (r.Save rank slot) h.come.under_way gone.noted
          (subst (λ st. AllHold (setting_in old) st) (sym come.state) (saves_hold (setting_in old) (state_of old) listed (suc i) along)) (h.holds along);
    })

pub saving_stops : (listed : List (ℕ × Slot)) (i rank : ℕ) (slot : Slot) (old mid new : WorldView) → IsSaving listed i old mid → slice_get listed i ≡ Some (rank, slot) → IsStopped mid new → IsHit (length listed) old new
saving_stops listed i rank slot old mid new h e stop =
    subst (λ w. IsHit (length listed) old w) (sym stop.kept)
    (record { under_way = h.come.under_way; few = omega (arith, h.come.count, below_length listed i (rank, slot) e); due = stop.due })

pub stopped_holds : (listed : List (ℕ × Slot)) (i : ℕ) (old mid new : WorldView) → IsSaving listed i old mid → IsStopped mid new → HoldsAlong (saves listed) old new
stopped_holds listed i old mid new h stop along = holds_kept old mid new stop.kept (h.holds along)

pub saving_ends : (listed : List (ℕ × Slot)) (i : ℕ) (old new : WorldView) → IsSaving listed i old new → slice_get listed i ≡ None → HasCome (replay (setting_in old) (state_of old) (saves listed)) (length listed) old new
saving_ends listed i old new h e =
    let all : take i listed ≡ listed = take_all listed i (past_length listed i e) in
    let n : i ≡ length listed = omega (arith, past_length listed i e, h.within) in
    subst (λ k. HasCome (replay (setting_in old) (state_of old) (saves listed)) k old new) n (subst (λ xs. HasCome (replay (setting_in old) (state_of old) (saves xs)) i old new) all h.come)
