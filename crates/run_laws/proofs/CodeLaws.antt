-- The code law stays where the tiles that it speaks of stay.
use Rattle.std.proofs.Common.{◌≡◌, ℕ, Bool, true, Option, None, refl, sym, ap, subst}
use Rattle.std.specs.Prelude.{if◌then◌else◌}
use Rattle.rank_machine.specs.declared.mark.Mark.{Mark}
use Rattle.rank_machine.specs.declared.slot.Slot.{Slot}
use Rattle.rank_machine.specs.declared.slot.Tile.{Tile}
use Rattle.rank_machine.specs.declared.record.Rec.TheVariants as r
use Rattle.rank_machine.specs.Setting.{Setting}
use Rattle.rank_machine.specs.State.{State}
use Rattle.rank_machine.specs.Effect.{after, is_live}
use Rattle.rank_machine.specs.CodeLaw.{CodeLaw}
use Rattle.run_laws.specs.LastCommit.{IsRest, IsScripted, with_spawned}
use Rattle.run_laws.proofs.LawFrame.{MatrixLaw-kept, ListLaw-kept}

-- the law of a state is that of any other with its tiles
with_tiles_of : (s : Setting) (st now : State) (mark : Mark) → CodeLaw s st mark → CodeLaw s (record now { tiles = st.tiles }) mark
with_tiles_of s st now mark law = record {
  matrices = λ line live. let h = law.matrices line live in record {
    data_strips = h.data_strips;
    code_strips = h.code_strips;
    low_strips = h.low_strips;
    open_strips = h.open_strips;
    padding = h.padding;
    code = h.code;
    low = h.low;
    panel = h.panel;
  };
  lists = λ line live. let h = law.lists line live in record { same = h.same; at_least = h.at_least; at_most = h.at_most; whole = h.whole };
}

-- Two states with the same tiles obey the code law together.
pub CodeLaw-tiles : (s : Setting) (st now : State) (mark : Mark) → now.tiles ≡ st.tiles → CodeLaw s st mark → CodeLaw s now mark
CodeLaw-tiles s st now mark same law = subst (λ (t : ℕ → Slot → Option Tile). CodeLaw s (record now { tiles = t }) mark) (sym same) (with_tiles_of s st now mark law)

-- Where the tiles of all live slots stay, the code law stays.
pub CodeLaw-live : (s : Setting) (st now : State) (mark : Mark) → IsScripted s → ((rank : ℕ) (slot : Slot) → is_live s mark rank slot ≡ true → now.tiles rank slot ≡ st.tiles rank slot) → CodeLaw s st mark → CodeLaw s now mark
CodeLaw-live s st now mark scripted same law = record {
  matrices = λ line live. MatrixLaw-kept s st now mark mark scripted line live (λ rank slot id. same rank slot) (record { low = λ group. refl; opens = refl; closed = λ e. refl }) (law.matrices line live);
  lists = λ line live. ListLaw-kept s st now mark mark scripted line live (λ rank slot id. same rank slot) (λ e. e) (law.lists line live);
}

-- A commit removes only what is not live, so the code law stays.
pub CodeLaw-commit : (s : Setting) (st : State) (mark : Mark) (healed : Bool) → IsScripted s → CodeLaw s st mark → CodeLaw s (after s st (r.Commit mark healed)) mark
CodeLaw-commit s st mark healed scripted law = CodeLaw-live s st (after s st (r.Commit mark healed)) mark scripted (λ rank slot live. ap (λ b. if b then st.tiles rank slot else None) live) law

-- A state as a commit leaves it stays one, however many ranks were spawned.
pub IsRest-spawned : (s : Setting) (st : State) (n : ℕ) → IsRest s st → IsRest s (with_spawned st n)
IsRest-spawned s st n h = record {
  live = h.live;
  lost = h.lost;
  saved = h.saved;
  fresh = h.fresh;
  links = h.links;
  taken = h.taken;
  law = CodeLaw-tiles s st (with_spawned st n) st.mark refl h.law;
  nothing_else = h.nothing_else;
}
