-- How many words the events of a round add, and each record of it.
use Rattle.std.proofs.Common.{◌≡◌, ◌==◌, ◌&&◌, ◌+◌, ◌≤◌, ℕ, true, false, not, Option, Some, List, [], ◌∷◌, ◌++◌, drop, refl, sym, ap, subst, ◌∙◌, ⊎_elim, arith}
use Rattle.std.specs.Prelude.{if◌then◌else◌}
use Rattle.std.proofs.lemmas.Bool.{cases_Bool, and_parts, and_from, eqb-true, eq-eqb, not-true}
use Rattle.rank_run.specs.declared.round.Event.TheVariants.{Local, Move}
use Rattle.rank_machine.specs.declared.slot.Slot.{Slot}
use Rattle.rank_machine.specs.declared.slot.Tile.{Tile}
use Rattle.rank_machine.specs.declared.record.Rec.TheVariants as r
use Rattle.rank_machine.specs.Setting.{Setting}
use Rattle.rank_machine.specs.State.{State, same_slot, at_slot, at_link}
use Rattle.rank_machine.specs.Effect.{slot_of, target, made_by, piece_in, with_piece, first_message, after, replay, strip}
use Rattle.rank_machine.specs.Held.{size_of, is_new, are_distinct, words_in}
use Rattle.rank_machine.proofs.Base.{same_slot-true}
use Rattle.rank_slots.specs.Stands.{records_of}
use Rattle.phases.specs.Words.{AddAtMost, AddThrough}
use Rattle.phase_frames.specs.Touching.{RoundEvent, AllEvents, IsCapped, KeepsCap, allowed, total, cap_over}

-- ---- distinct slots
abbrev over : List Slot → (Slot → ℕ) → ℕ
over [] f = 0
over (x ∷ xs) f = f x + over xs f

over_none : (xs : List Slot) (y : Slot) (n : ℕ) → is_new xs y ≡ true → over xs (λ x. if same_slot x y then n else 0) ≡ 0
over_none [] y n h = refl
over_none (x ∷ xs) y n h =
    let z = and_parts (not (same_slot x y)) (is_new xs y) h in
    let here : (if same_slot x y then n else 0) ≡ 0 = ap (λ b. if b then n else 0) (not-true (same_slot x y) z.0) in
    omega (arith, here, over_none xs y n z.1)

over_one : (xs : List Slot) (y : Slot) (n : ℕ) → are_distinct xs ≡ true → over xs (λ x. if same_slot x y then n else 0) ≤ n
over_one [] y n h = omega arith
over_one (x ∷ xs) y n h =
    let z = and_parts (is_new xs x) (are_distinct xs) h in
    ⊎_elim
    (λ (e : same_slot x y ≡ true).
    let none = over_none xs y n (ap (is_new xs) (sym (same_slot-true x y e)) ∙ z.0) in
    let here : (if same_slot x y then n else 0) ≡ n = ap (λ b. if b then n else 0) e in
    omega (arith, none, here))
    (λ (e : same_slot x y ≡ false).
    let here : (if same_slot x y then n else 0) ≡ 0 = ap (λ b. if b then n else 0) e in
    omega (arith, here, over_one xs y n z.1))
    (cases_Bool (same_slot x y))

over_sum : (xs : List Slot) (f g : Slot → ℕ) → over xs (λ x. f x + g x) ≡ over xs f + over xs g
over_sum [] f g = refl
over_sum (x ∷ xs) f g = omega (arith, over_sum xs f g)

over_zero : (xs : List Slot) → over xs (λ x. 0) ≡ 0
over_zero [] = refl
over_zero (x ∷ xs) = omega (arith, over_zero xs)

over_allowed : (xs : List Slot) (ps : List (Slot × ℕ)) → are_distinct xs ≡ true → over xs (allowed ps) ≤ total ps
over_allowed xs [] h = omega (arith, over_zero xs)
over_allowed xs (p ∷ ps) h =
    let one = over_one xs p.0 p.1 h in
    let more = over_allowed xs ps h in
    let both = over_sum xs (λ x. if same_slot x p.0 then p.1 else 0) (allowed ps) in
    omega (arith, one, more, both)

words_over : (base now : State) (rank : ℕ) (xs : List Slot) (f : Slot → ℕ)
    → ((x : Slot) → size_of (now.tiles rank x) + size_of (now.saved rank x) ≤ (size_of (base.tiles rank x) + size_of (base.saved rank x)) + f x) → words_in now rank xs ≤ words_in base rank xs + over xs f
words_over base now rank [] f h = omega arith
words_over base now rank (x ∷ xs) f h = omega (arith, h x, words_over base now rank xs f h)

-- where no slot and what is saved of it has more words than before and those that are allowed in it, the words that are added are at most those allowed
pub adds_allowed : (base now : State) (allow : ℕ → List (Slot × ℕ))
    → ((rank : ℕ) (x : Slot) → size_of (now.tiles rank x) + size_of (now.saved rank x) ≤ (size_of (base.tiles rank x) + size_of (base.saved rank x)) + allowed (allow rank) x) → AddAtMost (λ rank. total (allow rank)) base now
adds_allowed base now allow h rank slots distinct = omega (arith, words_over base now rank slots (allowed (allow rank)) (h rank), over_allowed slots (allow rank) distinct)

-- the same where the saved copies are those of before
pub adds_capped : (base now : State) (allow : ℕ → List (Slot × ℕ)) → IsCapped (cap_over base allow) now.tiles → now.saved ≡ base.saved → AddAtMost (λ rank. total (allow rank)) base now
adds_capped base now allow h e = adds_allowed base now allow (λ rank x. let same : size_of (now.saved rank x) ≡ size_of (base.saved rank x) = ap (λ f. size_of (f rank x)) e in omega (arith, same, h rank x))

-- ---- rounds
capped_put : (cap : ℕ → Slot → ℕ) (tiles : ℕ → Slot → Option Tile) (rank : ℕ) (slot : Slot) (t : Tile) → IsCapped cap tiles → size_of (Some t) ≤ cap rank slot → IsCapped cap (at_slot tiles rank slot (Some t))
capped_put cap tiles rank slot t h new a x =
    ⊎_elim
    (λ (e : ((a == rank) && same_slot x slot) ≡ true).
    let z = and_parts (a == rank) (same_slot x slot) e in
    let p = eqb-true a rank z.0 in
    let q = same_slot-true x slot z.1 in
    let size : size_of (at_slot tiles rank slot (Some t) a x) ≡ size_of (Some t) = ap (λ b. size_of (if b then Some t else tiles a x)) e in
    let room : cap a x ≡ cap rank slot = λ i. cap (p i) (q i) in
    omega (arith, size, room, new))
    (λ (e : ((a == rank) && same_slot x slot) ≡ false).
    let size : size_of (at_slot tiles rank slot (Some t) a x) ≡ size_of (tiles a x) = ap (λ b. size_of (if b then Some t else tiles a x)) e in
    omega (arith, size, h a x))
    (cases_Bool ((a == rank) && same_slot x slot))

itself : (n : ℕ) → (n == n) ≡ true
itself n = eq-eqb n n refl

link_back : (old : ℕ → ℕ → List Tile) (from to : ℕ) (ts : List Tile) (a b : ℕ) → ((c d : ℕ) → old c d ≡ []) → at_link (at_link old from to ts) from to [] a b ≡ []
link_back old from to ts a b none =
    ⊎_elim
    (λ (e : ((a == from) && (b == to)) ≡ true). ap (λ v. if v then [] else at_link old from to ts a b) e)
    (λ (e : ((a == from) && (b == to)) ≡ false). ap (λ v. if v then [] else (if v then ts else old a b)) e ∙ none a b)
    (cases_Bool ((a == from) && (b == to)))

-- A round whose events leave no tile larger than it may be, from a state in which none is and nothing is on its way. Whatever the words that such a state adds at most, where the
-- saved copies are these, each state that its records lead through adds no more; and after it no tile is larger than it may be.
pub capped_through : (s : Setting) (cap : ℕ → Slot → ℕ) (most : ℕ → ℕ) (base : State) (kept : ℕ → Slot → Option Tile) → ((now : State) → IsCapped cap now.tiles → now.saved ≡ kept → AddAtMost most base now)
    → (now : State) (es : List RoundEvent) → AllEvents (KeepsCap s cap) es → IsCapped cap now.tiles → now.saved ≡ kept → ((from to : ℕ) → now.links from to ≡ [])
    → AddThrough most s base now (records_of es) × IsCapped cap (replay s now (records_of es)).tiles
capped_through s cap most base kept bound now [] keep capped saved links = (bound now capped saved, capped)
capped_through s cap most base kept bound now (Local rank k ∷ es) keep capped saved links =
    let next = after s now (r.Kernel rank k) in
    let z = capped_through s cap most base kept bound next es keep.1 (capped_put cap now.tiles rank (slot_of (target k)) (made_by s rank (now.tiles rank) k) capped (keep.0 now.tiles capped)) saved links in
    ((bound now capped saved, z.0), z.1)
capped_through s cap most base kept bound now (Move from to a b ∷ es) keep capped saved links =
    let sent_st = after s now (r.Send from to a) in
    let next = after s sent_st (r.Recv to from b) in
    let t = piece_in (now.tiles from) a in
    let sent : sent_st.links from to ≡ t ∷ [] = ap (λ v. if v then now.links from to ++ t ∷ [] else now.links from to) (and_from (from == from) (to == to) (itself from) (itself to)) ∙ ap (λ l. l ++ t ∷ []) (links from to) in
    let small : size_of (Some (with_piece (now.tiles to (slot_of b)) b (first_message (sent_st.links from to)))) ≤ cap to (slot_of b) =
    subst (λ l. size_of (Some (with_piece (now.tiles to (slot_of b)) b (first_message l))) ≤ cap to (slot_of b)) (sym sent) (keep.0 now.tiles capped) in
    let none : (c d : ℕ) → next.links c d ≡ [] = λ c d. ap (λ l. at_link sent_st.links from to (drop 1 l) c d) sent ∙ link_back now.links from to (now.links from to ++ t ∷ []) c d links in
    let z = capped_through s cap most base kept bound next es keep.1 (capped_put cap now.tiles to (slot_of b) (with_piece (now.tiles to (slot_of b)) b (first_message (sent_st.links from to))) capped small) saved none in
    ((bound now capped saved, (bound sent_st capped saved, z.0)), z.1)

-- a feed
pub capped_feed : (s : Setting) (cap : ℕ → Slot → ℕ) (now : State) (rank : ℕ) (slot : Slot) → IsCapped cap now.tiles → size_of (Some (strip s rank slot)) ≤ cap rank slot → IsCapped cap (after s now (r.Feed rank slot)).tiles
capped_feed s cap now rank slot h new = capped_put cap now.tiles rank slot (strip s rank slot) h new
