-- What is not live holds nothing, in every state that a legal journal leads to.
use Rattle.std.proofs.Common.{◌≡◌, ◌==◌, ℕ, Bool, true, false, Option, None, List, [], ◌∷◌, refl, sym, ap, ◌∙◌, ⊎_elim}
use Rattle.std.specs.Prelude.{if◌then◌else◌}
use Rattle.std.proofs.lemmas.Bool.{cases_Bool, true≢false, eqb-true}
use Rattle.rank_machine.specs.declared.slot.Slot.{Slot}
use Rattle.rank_machine.specs.declared.slot.Tile.{Tile}
use Rattle.rank_machine.specs.declared.record.Rec.{Rec}
use Rattle.rank_machine.specs.declared.record.Rec.TheVariants as r
use Rattle.rank_machine.specs.Setting.{Setting}
use Rattle.rank_machine.specs.State.{State, opened, base}
use Rattle.rank_machine.specs.Effect.{is_live, with_tile, after, replay, state_after}
use Rattle.rank_machine.specs.Legal.{IsLegalRec, IsLegalFrom, IsLegal}
use Rattle.rank_slots.specs.Lost.{LostAreBare}

-- a live rank and one that is not are two
apart : (live : ℕ → Bool) (a b : ℕ) → live b ≡ true → live a ≡ false → (a == b) ≡ false
apart live a b h g =
    ⊎_elim
    (λ (e : (a == b) ≡ true). absurd (true≢false (sym h ∙ sym (ap live (eqb-true a b e)) ∙ g)))
    (λ (e : (a == b) ≡ false). e)
    (cases_Bool (a == b))

bare-tile : (st : State) (rank : ℕ) (slot : Slot) (t : Tile) → st.live rank ≡ true → LostAreBare st → LostAreBare (with_tile st rank slot t)
bare-tile st rank slot t live h a q lost =
    let e = apart st.live a rank live lost in
    let b = h a q lost in
    record { tiles = rw e b.tiles; saved = b.saved; fresh = rw e b.fresh }

either : {X : Type 0} (b : Bool) (x : X) → (if b then x else x) ≡ x
either true x = refl
either false x = refl

pub bare-after : (s : Setting) (st : State) (x : Rec) → IsLegalRec s st x → LostAreBare st → LostAreBare (after s st x)
bare-after s st (r.Feed rank slot) legal h = bare-tile st rank slot _ legal.live h
bare-after s st (r.Kernel rank kernel) legal h = bare-tile st rank _ _ legal.live h
bare-after s st (r.Send from to x) legal h = λ a q lost. let b = h a q lost in record { tiles = b.tiles; saved = b.saved; fresh = b.fresh }
bare-after s st (r.Recv to from x) legal h = λ a q lost. let b = bare-tile st to _ _ legal.live h a q lost in record { tiles = b.tiles; saved = b.saved; fresh = b.fresh }
bare-after s st (r.Save rank slot) legal h = λ a q lost. let e = apart st.live a rank legal.live lost in let b = h a q lost in record { tiles = b.tiles; saved = rw e b.saved; fresh = b.fresh }
bare-after s st (r.Take rank slot) legal h = λ a q lost. let b = h a q lost in record { tiles = b.tiles; saved = b.saved; fresh = b.fresh }
bare-after s st r.Restore legal h = λ a q lost. let b = h a q lost in record { tiles = ap (λ (l : Bool). if l then base st a q else st.tiles a q) lost ∙ b.tiles; saved = refl; fresh = refl }
bare-after s st (r.Spawn rank) legal h = λ a q lost. let b = h a q (was (a == rank) (st.live a) lost) in record { tiles = b.tiles; saved = b.saved; fresh = b.fresh }
  where
    was : (c d : Bool) → (if c then true else d) ≡ false → d ≡ false
    was true d e = absurd (true≢false e)
    was false d e = e
bare-after s st (r.Commit mark healed) legal h = λ a q lost. let b = h a q lost in record { tiles = ap (λ (o : Option Tile). if is_live s mark a q then o else None) b.tiles ∙ either (is_live s mark a q) None; saved = refl; fresh = refl }
bare-after s st (r.Lose rank) legal h = λ a q lost.
    ⊎_elim
    (λ (e : (a == rank) ≡ true). record { tiles = rw e refl; saved = rw e refl; fresh = rw e refl })
    (λ (e : (a == rank) ≡ false). let b = h a q (sym (ap (λ (c : Bool). if c then false else st.live a) e) ∙ lost) in record { tiles = rw e b.tiles; saved = rw e b.saved; fresh = rw e b.fresh })
    (cases_Bool (a == rank))

bare-from : (s : Setting) (st : State) (xs : List Rec) → IsLegalFrom s st xs → LostAreBare st → LostAreBare (replay s st xs)
bare-from s st [] legal h = h
bare-from s st (x ∷ xs) legal h = bare-from s (after s st x) xs legal.1 (bare-after s st x legal.0 h)

pub lost_are_bare : (s : Setting) (journal : List Rec) → IsLegal s journal → LostAreBare (state_after s journal)
lost_are_bare s journal legal = bare-from s (opened s) journal legal (λ a q lost. record { tiles = refl; saved = refl; fresh = refl })
