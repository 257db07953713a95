-- A round leaves alone what it does not write.
use Rattle.std.proofs.Common.{◌≡◌, ◌==◌, ◌&&◌, ◌||◌, not, is_some, ℕ, Bool, true, false, Option, Some, List, [], ◌∷◌, ◌++◌, refl, sym, ap, ◌∙◌, ⊎_elim}
use Rattle.std.specs.Prelude.{if◌then◌else◌}
use Rattle.std.proofs.lemmas.Bool.{cases_Bool, and_parts, eqb-true, true≢false}
use Rattle.rank_run.specs.declared.round.Event.TheVariants.{Local, Move}
use Rattle.rank_machine.specs.declared.slot.Slot.{Slot}
use Rattle.rank_machine.specs.declared.record.Rec.TheVariants as r
use Rattle.rank_machine.specs.Setting.{Setting}
use Rattle.rank_machine.specs.declared.slot.Tile.{Tile}
use Rattle.rank_machine.specs.State.{State, same_slot, at_slot}
use Rattle.rank_machine.specs.Effect.{slot_of, target, with_tile, after, replay}
use Rattle.rank_machine.proofs.Base.{same_slot-true}
use Rattle.rank_slots.specs.Stands.{records_of}
use Rattle.round_laws.specs.Holdings.{holding, may_put}
use Rattle.phase_frames.specs.Touching.{RoundEvent, AllEvents, WritesIn}

-- parts of a round, one after another
pub events_then : (P : RoundEvent → Type 0) (xs ys : List RoundEvent) → AllEvents P xs → AllEvents P ys → AllEvents P (xs ++ ys)
events_then P [] ys h k = k
events_then P (x ∷ xs) ys h k = (h.0, events_then P xs ys h.1 k)

pub elsewhere : {X : Type 0} (may : ℕ → Slot → Bool) (old : ℕ → Slot → X) (rank : ℕ) (slot : Slot) (x : X) (a : ℕ) (y : Slot) → may rank slot ≡ true → may a y ≡ false → at_slot old rank slot x a y ≡ old a y
elsewhere may old rank slot x a y h e =
    ⊎_elim
    (λ (t : ((a == rank) && same_slot y slot) ≡ true).
    let z = and_parts (a == rank) (same_slot y slot) t in
    let p = eqb-true a rank z.0 in
    let q = same_slot-true y slot z.1 in
    absurd (true≢false (sym h ∙ sym (λ i. may (p i) (q i)) ∙ e)))
    (λ (t : ((a == rank) && same_slot y slot) ≡ false). ap (λ b. if b then x else old a y) t)
    (cases_Bool ((a == rank) && same_slot y slot))

pub untouched : (s : Setting) (may : ℕ → Slot → Bool) (st : State) (es : List RoundEvent) → AllEvents (WritesIn may) es → (a : ℕ) (y : Slot) → may a y ≡ false
    → ((replay s st (records_of es)).tiles a y ≡ st.tiles a y) × ((replay s st (records_of es)).fresh a y ≡ st.fresh a y)
untouched s may st [] h a y e = (refl, refl)
untouched s may st (Local rank k ∷ es) h a y e =
    let next = after s st (r.Kernel rank k) in
    let z = untouched s may next es h.1 a y e in
    (z.0 ∙ elsewhere may st.tiles rank (slot_of (target k)) _ a y h.0 e, z.1 ∙ elsewhere may st.fresh rank (slot_of (target k)) _ a y h.0 e)
untouched s may st (Move from to x w ∷ es) h a y e =
    let next = after s (after s st (r.Send from to x)) (r.Recv to from w) in
    let z = untouched s may next es h.1 a y e in
    (z.0 ∙ elsewhere may st.tiles to (slot_of w) _ a y h.0 e, z.1 ∙ elsewhere may st.fresh to (slot_of w) _ a y h.0 e)

-- ---- which slots may be written
one_bit : (free there saved : Bool) → ((free || not there) || saved) || false ≡ (free || saved) || not there
one_bit true there saved = refl
one_bit false true true = refl
one_bit false true false = refl
one_bit false false true = refl
one_bit false false false = refl

one_tile : (st : State) (rank : ℕ) (slot : Slot) (t : Tile) (a : ℕ) (x : Slot) → may_put (holding (with_tile st rank slot t) a) x ≡ may_put (holding st a) x
one_tile st rank slot t a x =
    ⊎_elim
    (λ (e : ((a == rank) && same_slot x slot) ≡ true).
    let z = and_parts (a == rank) (same_slot x slot) e in
    let p = eqb-true a rank z.0 in
    let q = same_slot-true x slot z.1 in
    (λ i. ((if e i then (st.fresh rank slot || not (is_some (st.tiles rank slot))) else st.fresh a x) || is_some (st.saved a x)) || not (is_some (if e i then Some t else st.tiles a x)))
    ∙ ((λ i. ((st.fresh (sym p i) (sym q i) || not (is_some (st.tiles (sym p i) (sym q i)))) || is_some (st.saved a x)) || false)
    ∙ one_bit (st.fresh a x) (is_some (st.tiles a x)) (is_some (st.saved a x))))
    (λ (e : ((a == rank) && same_slot x slot) ≡ false).
    λ i. ((if e i then (st.fresh rank slot || not (is_some (st.tiles rank slot))) else st.fresh a x) || is_some (st.saved a x)) || not (is_some (if e i then Some t else st.tiles a x)))
    (cases_Bool ((a == rank) && same_slot x slot))

-- Whatever a round does, a slot may get a tile after it exactly where it might before.
pub may_put-stays : (s : Setting) (st : State) (es : List RoundEvent) (a : ℕ) (x : Slot) → may_put (holding (replay s st (records_of es)) a) x ≡ may_put (holding st a) x
may_put-stays s st [] a x = refl
may_put-stays s st (Local rank k ∷ es) a x = may_put-stays s (after s st (r.Kernel rank k)) es a x ∙ one_tile st rank (slot_of (target k)) _ a x
may_put-stays s st (Move from to u w ∷ es) a x =
    let sent = after s st (r.Send from to u) in
    may_put-stays s (after s sent (r.Recv to from w)) es a x ∙ one_tile sent to (slot_of w) _ a x
