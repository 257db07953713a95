-- The takes of a print line, after those of earlier lines.
use Rattle.std.proofs.Common.{◌≡◌, ℕ, ◌<◌, ◌==◌, ◌&&◌, Bool, true, List, [], ◌∷◌, ◌++◌, map, Option, Some, None, refl, ap, ◌∙◌, arith}
use Rattle.std.specs.Prelude.{if◌then◌else◌}
use Rattle.std.specs.List.{All, Contains}
use Rattle.std.proofs.lemmas.Bool.{and_parts, eqb-true, eq-eqb}
use Rattle.std.proofs.lemmas.List.{length-map, get_or-map}
use Rattle.std.proofs.lemmas.List.Elements.{All-nil, All-cons, All-head, All-tail, All-weaker}
use Rattle.rank_machine.specs.declared.slot.Slot.{Slot}
use Rattle.rank_machine.specs.declared.slot.SlotKind.TheVariants.{Data}
use Rattle.rank_machine.specs.declared.slot.Tile.{Tile}
use Rattle.rank_machine.specs.Setting.{Setting}
use Rattle.rank_machine.specs.State.{State, Took, same_slot, or_else}
use Rattle.rank_machine.specs.CodeLaw.{slot_at}
use Rattle.rank_machine.specs.Legal.{IsTake}
use Rattle.rank_machine.specs.Printed.{last_take, taken_from}
use Rattle.rank_machine.proofs.Base.{same_slot-true}
use Rattle.plain_phases.specs.Taking.{AreTakable, takes_of}
use Rattle.line_phases.proofs.LastTakes.{Agrees, is_take_of, last_take-agreed}
use Rattle.whole_run.proofs.Later.{AreLater}

-- ---- slots that may be taken
pub takable-from : (s : Setting) (st : State) (ps : List (ℕ × Slot)) → All (λ p. IsTake s st p.0 p.1) ps → AreTakable s st ps
takable-from s st [] h = tt
takable-from s st (p ∷ ps) h = (All-head (λ (p : ℕ × Slot). IsTake s st p.0 p.1) p ps h, takable-from s st ps (All-tail (λ (p : ℕ × Slot). IsTake s st p.0 p.1) p ps h))

-- ---- their takes
abbrev take_one : ℕ → State → ℕ × Slot → Took
take_one line st p = record { line = line; rank = p.0; slot = p.1; tile = st.tiles p.0 p.1 }

-- they are those of a later line
pub takes-later : (before line : ℕ) (st : State) (ps : List (ℕ × Slot)) → before < line → AreLater before (takes_of line st ps)
takes-later before line st [] lt = All-nil (λ (t : Took). before < t.line)
takes-later before line st (p ∷ ps) lt = All-cons (λ (t : Took). before < t.line) (take_one line st p) (takes_of line st ps) lt (takes-later before line st ps lt)

-- each has the tile of its slot
abbrev HasTile : State → Took → Type 0
HasTile st u = u.tile ≡ st.tiles u.rank u.slot

have_tiles : (line : ℕ) (st : State) (ps : List (ℕ × Slot)) → All (HasTile st) (takes_of line st ps)
have_tiles line st [] = All-nil (HasTile st)
have_tiles line st (p ∷ ps) = All-cons (HasTile st) (take_one line st p) (takes_of line st ps) refl (have_tiles line st ps)

agrees : (st : State) (line rank : ℕ) (slot : Slot) (t : Tile) → st.tiles rank slot ≡ Some t → (u : Took) → HasTile st u → Agrees (is_take_of line rank slot) t u
agrees st line rank slot t held u has passes =
    let p = and_parts ((u.line == line) && (u.rank == rank)) (same_slot u.slot slot) passes in
    let on_rank : u.rank ≡ rank = eqb-true u.rank rank (and_parts (u.line == line) (u.rank == rank) p.0).1 in
    let in_slot : u.slot ≡ slot = same_slot-true u.slot slot p.1 in
    has ∙ ((λ n. st.tiles (on_rank n) (in_slot n)) ∙ held)

Contains-map : {X Y : Type 0} (f : X → Y) (xs : List X) (x : X) → Contains xs x → Contains (map f xs) (f x)
Contains-map f xs x h = (h.0, omega (arith, h.1, length-map xs f), get_or-map f xs h.0 x (f x) h.1 ∙ ap f h.2)

passes_own : (line rank what group : ℕ) (t : Option Tile) → is_take_of line rank (slot_at Data what group) (record { line = line; rank = rank; slot = slot_at Data what group; tile = t }) ≡ true
passes_own line rank what group t = rw (eq-eqb line line refl, eq-eqb rank rank refl, eq-eqb what what refl, eq-eqb group group refl) refl

-- the last take that passes a test, where takes of other lines stand before
last_after : (before taken : List Took) (test : Took → Bool) (t : Tile) → last_take taken test ≡ Some t → last_take (before ++ taken) test ≡ Some t
last_after [] taken test t e = e
last_after (u ∷ us) taken test t e = ap (λ o. or_else o (if test u then u.tile else None)) (last_after us taken test t e)

-- a strip among these slots is the one that was taken last from its slot
pub strip-taken : (before : List Took) (line : ℕ) (st : State) (ps : List (ℕ × Slot)) (rank what group : ℕ) (t : Tile) → Contains ps (rank, slot_at Data what group) → st.tiles rank (slot_at Data what group) ≡ Some t
    → taken_from (before ++ takes_of line st ps) line rank (slot_at Data what group) ≡ Some t
strip-taken before line st ps rank what group t there held =
    let slot : Slot = slot_at Data what group in
    last_after before (takes_of line st ps) (is_take_of line rank slot) t
    (last_take-agreed (is_take_of line rank slot) t (takes_of line st ps) (take_one line st (rank, slot))
    (All-weaker (HasTile st) (Agrees (is_take_of line rank slot) t) (agrees st line rank slot t held) (takes_of line st ps) (have_tiles line st ps))
    (Contains-map (take_one line st) ps (rank, slot) there)
    (passes_own line rank what group (st.tiles rank slot)))
