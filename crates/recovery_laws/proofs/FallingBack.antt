-- Between two commits: a rank that was not lost falls back to what it held at the last commit, and a rank that was lost to nothing.
use Rattle.std.proofs.Common.{◌≡◌, ◌≢◌, ℕ, ◌&&◌, ◌||◌, ◌==◌, Bool, true, false, not, if◌then◌else◌, Option, Some, None, is_some, List, [], ◌∷◌, refl, sym, ◌∙◌, ap, subst, inl, inr}
use Rattle.std.proofs.lemmas.Bool.{cases_Bool, ne_eqb, eqb-true, and_parts}
use Rattle.rank_machine.specs.declared.slot.Slot.{Slot}
use Rattle.rank_machine.specs.declared.slot.Tile.{Tile}
use Rattle.rank_machine.specs.declared.slot.Tile.TheVariants.{Words, Index}
use Rattle.rank_machine.specs.declared.slot.Piece.{Piece}
use Rattle.rank_machine.specs.declared.slot.Piece.TheVariants as piece
use Rattle.rank_machine.specs.declared.record.Rec.{Rec}
use Rattle.rank_machine.specs.declared.record.Rec.TheVariants as r
use Rattle.rank_machine.specs.Setting.{Setting}
use Rattle.rank_machine.specs.State.{same_slot, State, at_slot, or_else, base}
use Rattle.rank_machine.specs.Effect.{slot_of, target, with_piece, first_message, made_by, strip, with_tile, after}
use Rattle.rank_machine.specs.Legal.{may_write, may_change, makes, fits, IsSave, IsLegalRec}
use Rattle.rank_machine.proofs.Base.{base-with_tile, same_slot-true}
use Rattle.recovery_laws.specs.Healed.{FallsBack}
use Rattle.run_laws.specs.LastCommit.{is_commit}

-- ---- what is written
changed-written : (st : State) (rank : ℕ) (slot : Slot) → may_change st rank slot ≡ true → may_write st rank slot ≡ true
changed-written st rank slot h = either (st.fresh rank slot || is_some (st.saved rank slot)) (not (is_some (st.tiles rank slot))) (and_parts (is_some (st.tiles rank slot)) (st.fresh rank slot || is_some (st.saved rank slot)) h).1
  where
    either : (a b : Bool) → a ≡ true → a || b ≡ true
    either true b e = refl
    either false b e = absurd (cc)

elsewhere : {X : Type 0} (old : ℕ → Slot → X) (rank : ℕ) (slot : Slot) (x : X) (a : ℕ) (y : Slot) → a ≢ rank → at_slot old rank slot x a y ≡ old a y
elsewhere old rank slot x a y apart = (let e : (a == rank) ≡ false = ne_eqb a rank apart in rw e refl)

not_live : (st : State) (a rank : ℕ) → st.live a ≡ false → st.live rank ≡ true → a ≢ rank
not_live st a rank dead live e = (let h : st.live rank ≡ false = ap st.live (sym e) ∙ dead in let k : true ≡ false = sym live ∙ h in cc)

module _ (st0 : State) where
  written : (st : State) (rank : ℕ) (slot : Slot) (t : Tile) → FallsBack st0 st → st.live rank ≡ true → may_write st rank slot ≡ true → FallsBack st0 (with_tile st rank slot t)
  written st rank slot t back live may =
      record {
        kept = λ a x h. base-with_tile st rank slot t a x may ∙ back.kept a x h;
        gone = λ a x h. base-with_tile st rank slot t a x may ∙ back.gone a x h;
        dead = λ a x h. (elsewhere st.tiles rank slot (Some t) a x (not_live st a rank h live) ∙ (back.dead a x h).0, (back.dead a x h).1);
        mark = back.mark;
        committed = back.committed;
      }

  saved_here : (there kept : Option Tile) (fresh : Bool) → is_some there ≡ true → not fresh ≡ true → not (is_some kept) ≡ true → or_else there (if fresh then None else there) ≡ or_else kept (if fresh then None else there)
  saved_here (Some t) None false a b c = refl
  saved_here (Some t) (Some u) fresh a b c = absurd (cc)
  saved_here (Some t) None true a b c = absurd (cc)
  saved_here None kept fresh a b c = absurd (cc)

  base-saved : (s : Setting) (st : State) (rank : ℕ) (slot : Slot) (a : ℕ) (x : Slot) → IsSave s st rank slot → base (after s st (r.Save rank slot)) a x ≡ base st a x
  base-saved s st rank slot a x save =
      elim (cases_Bool ((a == rank) && same_slot x slot)) [
        | inl here ↦
            (let parts = and_parts (a == rank) (same_slot x slot) here in
            let is_rank : a ≡ rank = eqb-true a rank parts.0 in
            let is_slot : x ≡ slot = same_slot-true x slot parts.1 in
            let h = saved_here (st.tiles rank slot) (st.saved rank slot) (st.fresh rank slot) save.held save.old save.unsaved in
            rw here
            (subst (λ n. or_else (st.tiles rank slot) (if st.fresh n x then None else st.tiles n x) ≡ or_else (st.saved n x) (if st.fresh n x then None else st.tiles n x)) (sym is_rank)
            (subst (λ y. or_else (st.tiles rank slot) (if st.fresh rank y then None else st.tiles rank y) ≡ or_else (st.saved rank y) (if st.fresh rank y then None else st.tiles rank y)) (sym is_slot) h)))
        | inr there ↦ rw there refl
      ]

  -- what a rank holds after a restore
  empty_base : (kept there : Option Tile) (fresh : Bool) → kept ≡ None → there ≡ None → there ≡ or_else kept (if fresh then None else there)
  empty_base kept there fresh a b = rw (a, b) (either fresh)
    where
      either : (f : Bool) → ◌≡◌ {A = Option Tile} None (if f then None else None)
      either true = refl
      either false = refl

  pub restored-tiles : (s : Setting) (st : State) (rank : ℕ) (slot : Slot) → FallsBack st0 st → (after s st r.Restore).tiles rank slot ≡ base st rank slot
  restored-tiles s st rank slot back =
      elim (cases_Bool (st.live rank)) [
        | inl live ↦ rw live refl
        | inr dead ↦ rw dead (empty_base (st.saved rank slot) (st.tiles rank slot) (st.fresh rank slot) (back.dead rank slot dead).1 (back.dead rank slot dead).0)
      ]

  pub kept-restored : (now : State) (s : Setting) (rank : ℕ) (slot : Slot) → FallsBack st0 now → now.lost rank ≡ false → (after s now r.Restore).tiles rank slot ≡ st0.tiles rank slot
  kept-restored now s rank slot back h = restored-tiles s now rank slot back ∙ back.kept rank slot h

  pub gone-restored : (now : State) (s : Setting) (rank : ℕ) (slot : Slot) → FallsBack st0 now → now.lost rank ≡ true → (after s now r.Restore).tiles rank slot ≡ None
  gone-restored now s rank slot back h = restored-tiles s now rank slot back ∙ back.gone rank slot h

  restored : (s : Setting) (st : State) → FallsBack st0 st → FallsBack st0 (after s st r.Restore)
  restored s st back =
      record {
        kept = λ a x h. restored-tiles s st a x back ∙ back.kept a x h;
        gone = λ a x h. restored-tiles s st a x back ∙ back.gone a x h;
        dead = λ a x h. (restored_dead (st.live a) (base st a x) (st.tiles a x) h ∙ (back.dead a x h).0, refl);
        mark = back.mark;
        committed = back.committed;
      }
    where
      restored_dead : (b : Bool) (x y : Option Tile) → b ≡ false → (if b then x else y) ≡ y
      restored_dead true x y e = absurd (cc)
      restored_dead false x y e = refl

  lost_base : (b : Bool) (kept there : Option Tile) (fresh : Bool) → b ≡ true → or_else (if b then None else kept) (if (if b then false else fresh) then None else (if b then None else there)) ≡ None
  lost_base true kept there fresh e = refl
  lost_base false kept there fresh e = absurd (cc)

  other_base : (b : Bool) (kept there : Option Tile) (fresh : Bool) → b ≡ false → or_else (if b then None else kept) (if (if b then false else fresh) then None else (if b then None else there)) ≡ or_else kept (if fresh then None else there)
  other_base true kept there fresh e = absurd (cc)
  other_base false kept there fresh e = refl

  fallen : (s : Setting) (st : State) (rank : ℕ) → FallsBack st0 st → FallsBack st0 (after s st (r.Lose rank))
  fallen s st rank back =
      record {
        kept = λ a x h.
            elim (cases_Bool (a == rank)) [
              | inl here ↦ absurd (let e : true ≡ false = rw here at h in cc)
              | inr there ↦ (let h' : st.lost a ≡ false = rw there at h in other_base (a == rank) (st.saved a x) (st.tiles a x) (st.fresh a x) there ∙ back.kept a x h')
            ];
        gone = λ a x h.
            elim (cases_Bool (a == rank)) [
              | inl here ↦ lost_base (a == rank) (st.saved a x) (st.tiles a x) (st.fresh a x) here
              | inr there ↦ (let h' : st.lost a ≡ true = rw there at h in other_base (a == rank) (st.saved a x) (st.tiles a x) (st.fresh a x) there ∙ back.gone a x h')
            ];
        dead = λ a x h.
            elim (cases_Bool (a == rank)) [
              | inl here ↦ (rw here refl, rw here refl)
              | inr there ↦ (let h' : st.live a ≡ false = rw there at h in (rw there (back.dead a x h').0, rw there (back.dead a x h').1))
            ];
        mark = back.mark;
        committed = back.committed;
      }

  spawned : (s : Setting) (st : State) (rank : ℕ) → FallsBack st0 st → FallsBack st0 (after s st (r.Spawn rank))
  spawned s st rank back =
      record {
        kept = back.kept;
        gone = back.gone;
        dead = λ a x h.
            elim (cases_Bool (a == rank)) [
              | inl here ↦ absurd (let e : true ≡ false = rw here at h in cc)
              | inr there ↦ (let h' : st.live a ≡ false = rw there at h in back.dead a x h')
            ];
        mark = back.mark;
        committed = back.committed;
      }

  may_receive : (st : State) (rank : ℕ) (x : Piece) (ts : List Tile) → fits st rank x ts ≡ true → may_write st rank (slot_of x) ≡ true
  may_receive st rank x [] h = absurd (cc)
  may_receive st rank (piece.Whole slot) (t ∷ ts) h = h
  may_receive st rank (piece.Part slot at) (Index ns ∷ ts) h = absurd (cc)
  may_receive st rank (piece.Part slot at) (Words m ∷ ts) h = changed-written st rank slot (and_parts (may_change st rank slot) _ (and_parts _ _ h).0).0

  may_run : (b : Bool) (st : State) (rank : ℕ) (slot : Slot) → (if b then may_write st rank slot else may_change st rank slot) ≡ true → may_write st rank slot ≡ true
  may_run true st rank slot h = h
  may_run false st rank slot h = changed-written st rank slot h

  -- every legal record but Commit keeps it
  pub goes-on : (st : State) (s : Setting) (x : Rec) → is_commit x ≡ false → IsLegalRec s st x → FallsBack st0 st → FallsBack st0 (after s st x)
  goes-on st s (r.Feed rank slot) e legal back = written st rank slot (strip s rank slot) back legal.live legal.writable
  goes-on st s (r.Kernel rank k) e legal back = written st rank (slot_of (target k)) (made_by s rank (st.tiles rank) k) back legal.live (may_run (makes k) st rank (slot_of (target k)) legal.writable)
  goes-on st s (r.Send from to x) e legal back = record { kept = back.kept; gone = back.gone; dead = back.dead; mark = back.mark; committed = back.committed }
  goes-on st s (r.Recv to from x) e legal back =
      let now = written st to (slot_of x) (with_piece (st.tiles to (slot_of x)) x (first_message (st.links from to))) back legal.live (may_receive st to x (st.links from to) legal.fitting) in
      record { kept = now.kept; gone = now.gone; dead = now.dead; mark = now.mark; committed = now.committed }
  goes-on st s (r.Save rank slot) e legal back =
      record {
        kept = λ a x h. base-saved s st rank slot a x legal ∙ back.kept a x h;
        gone = λ a x h. base-saved s st rank slot a x legal ∙ back.gone a x h;
        dead = λ a x h. ((back.dead a x h).0, elsewhere st.saved rank slot (st.tiles rank slot) a x (not_live st a rank h legal.live) ∙ (back.dead a x h).1);
        mark = back.mark;
        committed = back.committed;
      }
  goes-on st s (r.Take rank slot) e legal back = record { kept = back.kept; gone = back.gone; dead = back.dead; mark = back.mark; committed = back.committed }
  goes-on st s r.Restore e legal back = restored s st back
  goes-on st s (r.Spawn rank) e legal back = spawned s st rank back
  goes-on st s (r.Commit mark healed) e legal back = absurd (cc)
  goes-on st s (r.Lose rank) e legal back = fallen s st rank back
