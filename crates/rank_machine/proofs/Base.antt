-- No record but Commit and Lose changes what a rank falls back to.
use Rattle.std.proofs.Common.{◌≡◌, ◌&&◌, ◌||◌, ◌==◌, ℕ, Bool, true, false, not, Option, Some, None, is_some, refl, ⊎_elim, arith, sym, subst}
use Rattle.std.specs.Prelude.{if◌then◌else◌}
use Rattle.rank_machine.specs.declared.slot.SlotKind.{SlotKind}
use Rattle.rank_machine.specs.declared.slot.SlotKind.TheVariants.{Data, Code, Low, Open, Pivots, Work}
use Rattle.rank_machine.specs.declared.slot.Slot.{Slot}
use Rattle.rank_machine.specs.declared.slot.Tile.{Tile}
use Rattle.rank_machine.specs.declared.mark.Mark.{Mark}
use Rattle.rank_machine.specs.declared.record.Rec.TheVariants as r
use Rattle.rank_machine.specs.Setting.{Setting}
use Rattle.rank_machine.specs.State.{kind_number, same_kind, same_slot, State, or_else, base}
use Rattle.rank_machine.specs.Effect.{with_tile, after}
use Rattle.rank_machine.specs.Legal.{may_write}
use Rattle.std.proofs.lemmas.Bool.{eqb-true, and_parts, cases_Bool}

kind_by_number : (a b : SlotKind) → kind_number a ≡ kind_number b → a ≡ b
kind_by_number Data Data h = refl
kind_by_number Code Code h = refl
kind_by_number Low Low h = refl
kind_by_number Open Open h = refl
kind_by_number Pivots Pivots h = refl
kind_by_number Work Work h = refl
kind_by_number _ _ h = absurd (omega arith)

pub same_slot-true : (a b : Slot) → same_slot a b ≡ true → a ≡ b
same_slot-true a b h =
    let p = and_parts (same_kind a.kind b.kind && (a.id == b.id)) (a.group == b.group) h in
    let q = and_parts (same_kind a.kind b.kind) (a.id == b.id) p.0 in
    let k : a.kind ≡ b.kind = kind_by_number a.kind b.kind (eqb-true (kind_number a.kind) (kind_number b.kind) q.0) in
    let i : a.id ≡ b.id = eqb-true a.id b.id q.1 in
    let g : a.group ≡ b.group = eqb-true a.group b.group p.1 in
    λ n. record { kind = k n; id = i n; group = g n }

-- the slot that is written, by what is there of it
kept_here : (sv there : Option Tile) (fr : Bool) (t : Tile) → ((fr || is_some sv) || not (is_some there)) ≡ true → or_else sv (if fr || not (is_some there) then None else Some t) ≡ or_else sv (if fr then None else there)
kept_here (Some u) there fr t h = refl
kept_here None (Some v) true t h = refl
kept_here None (Some v) false t h = absurd (cc)
kept_here None None true t h = refl
kept_here None None false t h = refl

pub base-with_tile : (st : State) (rank : ℕ) (slot : Slot) (t : Tile) (a : ℕ) (x : Slot) → may_write st rank slot ≡ true → base (with_tile st rank slot t) a x ≡ base st a x
base-with_tile st rank slot t a x w =
    ⊎_elim
    (λ (h : ((a == rank) && same_slot x slot) ≡ true).
    let p = and_parts (a == rank) (same_slot x slot) h in
    let e : a ≡ rank = eqb-true a rank p.0 in
    let s : x ≡ slot = same_slot-true x slot p.1 in
    let here = kept_here (st.saved rank slot) (st.tiles rank slot) (st.fresh rank slot) t w in
    rw h (subst (λ n. or_else (st.saved n x) (if st.fresh rank slot || not (is_some (st.tiles rank slot)) then None else Some t) ≡ base st n x) (sym e)
    (subst (λ n. or_else (st.saved rank n) (if st.fresh rank slot || not (is_some (st.tiles rank slot)) then None else Some t) ≡ base st rank n) (sym s) here)))
    (λ (h : ((a == rank) && same_slot x slot) ≡ false). rw h refl)
    (cases_Bool ((a == rank) && same_slot x slot))

-- the takes before a healed commit do not count
pub committed-healed : (s : Setting) (st : State) (mark : Mark) → (after s st (r.Commit mark true)).committed ≡ st.committed
committed-healed s st mark = refl

-- after a restore nothing is saved, so what was saved may not be written
pub saved-restored : (s : Setting) (st : State) (rank : ℕ) (slot : Slot) → (after s st r.Restore).saved rank slot ≡ None
saved-restored s st rank slot = refl
