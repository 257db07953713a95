-- Saves before a round: what is saved may be changed, and nothing else about what the ranks hold is.
use Rattle.std.proofs.Common.{◌≡◌, ◌==◌, ◌&&◌, ◌||◌, ℕ, Bool, true, false, None, is_some, List, [], ◌∷◌, refl, ap, ◌∙◌, ⊎_elim, All}
use Rattle.std.specs.Prelude.{if◌then◌else◌}
use Rattle.std.proofs.lemmas.Bool.{cases_Bool, and_from}
use Rattle.std.proofs.lemmas.List.Elements.{All-nil, All-cons, All-head, All-tail}
use Rattle.rank_machine.specs.declared.slot.Slot.{Slot}
use Rattle.rank_machine.specs.declared.record.Rec.{Rec}
use Rattle.rank_machine.specs.declared.record.Rec.TheVariants as r
use Rattle.rank_machine.specs.Setting.{Setting}
use Rattle.rank_machine.specs.State.{State, same_slot}
use Rattle.rank_machine.specs.Effect.{is_live, after, replay}
use Rattle.rank_machine.specs.declared.mark.Mark.{Mark}
use Rattle.rank_machine.specs.declared.slot.SlotKind.TheVariants.{Work}
use Rattle.rank_machine.specs.CodeLaw.{slot_at}
use Rattle.rank_slots.proofs.CellLaws.{same_slot-refl}
use Rattle.round_laws.specs.Holdings.{holding, may_put}
use Rattle.round_laws.specs.Turns.{IsQuiet}
use Rattle.round_laws.proofs.Factors.{or_right, itself}

-- the records that save some slots
abbrev pub saves : List (ℕ × Slot) → List Rec
saves [] = []
saves (x ∷ xs) = r.Save x.0 x.1 ∷ saves xs

-- after saves: the tiles are those from before, a slot that was free is free, and a rank of which each slot that was saved was there
pub record HasSaved (s : Setting) (st st' : State) : Type 0 where
  pub tiles : st'.tiles ≡ st.tiles
  pub fresh : st'.fresh ≡ st.fresh
  pub live : st'.live ≡ st.live
  pub links : st'.links ≡ st.links
  pub mark : st'.mark ≡ st.mark
  pub lost : st'.lost ≡ st.lost
  pub free : (a : ℕ) (x : Slot) → (holding st a).free x ≡ true → (holding st' a).free x ≡ true

one_saved : (s : Setting) (st : State) (rank : ℕ) (slot : Slot) → is_some (st.tiles rank slot) ≡ true → HasSaved s st (after s st (r.Save rank slot))
one_saved s st rank slot there = record {
  tiles = refl;
  fresh = refl;
  live = refl;
  links = refl;
  mark = refl;
  lost = refl;
  free = λ a x f.
      ⊎_elim
      (λ (e : ((a == rank) && same_slot x slot) ≡ true). ap (λ b. st.fresh a x || is_some (if b then st.tiles rank slot else st.saved a x)) e ∙ or_right (st.fresh a x) (is_some (st.tiles rank slot)) there)
      (λ (e : ((a == rank) && same_slot x slot) ≡ false). ap (λ b. st.fresh a x || is_some (if b then st.tiles rank slot else st.saved a x)) e ∙ f)
      (cases_Bool ((a == rank) && same_slot x slot));
}

saved_itself : (s : Setting) (st : State) (rank : ℕ) (slot : Slot) → is_some (st.tiles rank slot) ≡ true → (holding (after s st (r.Save rank slot)) rank).free slot ≡ true
saved_itself s st rank slot there =
    ap (λ b. st.fresh rank slot || is_some (if b then st.tiles rank slot else st.saved rank slot)) (and_from (rank == rank) (same_slot slot slot) (itself rank) (same_slot-refl slot))
    ∙ or_right (st.fresh rank slot) (is_some (st.tiles rank slot)) there

then_saved : (s : Setting) (st st' st'' : State) → HasSaved s st st' → HasSaved s st' st'' → HasSaved s st st''
then_saved s st st' st'' one two = record {
  tiles = two.tiles ∙ one.tiles;
  fresh = two.fresh ∙ one.fresh;
  live = two.live ∙ one.live;
  links = two.links ∙ one.links;
  mark = two.mark ∙ one.mark;
  lost = two.lost ∙ one.lost;
  free = λ a x f. two.free a x (one.free a x f);
}

-- all of some slots that are there: each is free afterwards
pub all_saved : (s : Setting) (st : State) (xs : List (ℕ × Slot)) → All (λ x. is_some (st.tiles x.0 x.1) ≡ true) xs
    → HasSaved s st (replay s st (saves xs)) × All (λ x. (holding (replay s st (saves xs)) x.0).free x.1 ≡ true) xs
all_saved s st [] there = (record { tiles = refl; fresh = refl; live = refl; links = refl; mark = refl; lost = refl; free = λ a x f. f }, All-nil (λ (x : ℕ × Slot). (holding st x.0).free x.1 ≡ true))
all_saved s st (x ∷ xs) there =
    let here = All-head (λ (y : ℕ × Slot). is_some (st.tiles y.0 y.1) ≡ true) x xs there in
    let next = after s st (r.Save x.0 x.1) in
    let rest = all_saved s next xs (All-tail (λ (y : ℕ × Slot). is_some (st.tiles y.0 y.1) ≡ true) x xs there) in (
      then_saved s st next (replay s next (saves xs)) (one_saved s st x.0 x.1 here) rest.0,
      All-cons (λ (y : ℕ × Slot). (holding (replay s next (saves xs)) y.0).free y.1 ≡ true) x xs (rest.0.free x.0 x.1 (saved_itself s st x.0 x.1 here)) rest.1,
    )

-- a state from which a round may begin stays one
pub saved-quiet : (s : Setting) (st st' : State) → HasSaved s st st' → IsQuiet s st → IsQuiet s st'
saved-quiet s st st' h q = record { live = λ a lt. ap (λ f. f a) h.live ∙ q.live a lt; links = λ from to. ap (λ f. f from to) h.links ∙ q.links from to; some = q.some }

-- ---- after a commit
-- work slots are gone, so each may be written
pub works_committed : (s : Setting) (st : State) (mark : Mark) (healed : Bool) (rank n : ℕ) → may_put (holding (after s st (r.Commit mark healed)) rank) (slot_at Work n 0) ≡ true
works_committed s st mark healed rank n = refl

-- and what is live is held as it was, with nothing saved
pub live_committed : (s : Setting) (st : State) (mark : Mark) (healed : Bool) (rank : ℕ) (x : Slot) → is_live s mark rank x ≡ true → (after s st (r.Commit mark healed)).tiles rank x ≡ st.tiles rank x
live_committed s st mark healed rank x e = ap (λ b. if b then st.tiles rank x else None) e

pub committed-quiet : (s : Setting) (st : State) (mark : Mark) (healed : Bool) → IsQuiet s st → IsQuiet s (after s st (r.Commit mark healed))
committed-quiet s st mark healed q = record { live = q.live; links = q.links; some = q.some }
