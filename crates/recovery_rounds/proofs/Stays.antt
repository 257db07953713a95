-- What is healed stays healed, and lists are healed.
use Rattle.std.proofs.Common.{◌≡◌, ◌≢◌, ℕ, ◌+◌, ◌-◌, ◌/◌, ◌<◌, ◌≤◌, ◌==◌, ◌&&◌, Bool, true, false, Some, List, [], ◌∷◌, refl, sym, ◌∙◌, ap, subst, arith, inl, inr}
use Rattle.std.proofs.lemmas.Bool.{cases_Bool, cases_eq, ne_eqb, eqb-true, and_parts, true≢false, or_left}
use Rattle.blacs_grid.specs.Places.{width, size, rank_at, is_member}
use Rattle.blacs_grid.proofs.PlaceLaws.{is_member-rank_at, same_place, is_member-from, is_member-begins, is_member-ends}
use Rattle.rank_machine.specs.declared.slot.Slot.{Slot}
use Rattle.rank_machine.specs.declared.slot.SlotKind.{SlotKind}
use Rattle.rank_machine.specs.declared.slot.SlotKind.TheVariants.{Data, Code, Low, Open, Pivots}
use Rattle.rank_machine.specs.declared.slot.Tile.TheVariants.{Index}
use Rattle.rank_machine.specs.Setting.{Setting, some_below, ranks, layout, factored}
use Rattle.rank_machine.specs.State.{State, same_kind, same_slot}
use Rattle.rank_machine.specs.Effect.{replay, is_live_list}
use Rattle.rank_machine.specs.Legal.{some_lost, IsLegalFrom}
use Rattle.rank_machine.specs.CodeLaw.{slot_at, has_open, is_open_group, pivots_of}
use Rattle.rank_slots.specs.Stands.{records_of}
use Rattle.round_laws.specs.Holdings.{Holding, holding}
use Rattle.round_laws.specs.Turns.{Replays, IsGridOf}
use Rattle.round_laws.proofs.Legal.{turns_replay}
use Rattle.recovery_rounds.specs.Mending.{brought, copy_events, AreCopies, IsCopiedTo}
use Rattle.recovery_rounds.specs.Rows.{IsHealing, IsRowHealed, IsListHealed, LeavesOthers, IsElsewhere, GoToLost, ReachAllLost}
use Rattle.recovery_rounds.proofs.StateRounds.{mending, no_commits}
use Rattle.recovery_rounds.proofs.ListRounds.{Copied, copied}

other_line : (a b : SlotKind) (line line' group group' : ℕ) → line' ≢ line → same_slot (slot_at a line' group') (slot_at b line group) ≡ false
other_line a b line line' group group' ne = (let e : (line' == line) ≡ false = ne_eqb line' line ne in rw e (none (same_kind a b) (group' == group)))
  where
    none : (x y : Bool) → (x && false) && y ≡ false
    none true y = refl
    none false y = refl

other_group : (a b : SlotKind) (line line' group group' : ℕ) → group' ≢ group → same_slot (slot_at a line' group') (slot_at b line group) ≡ false
other_group a b line line' group group' ne = (let e : (group' == group) ≡ false = ne_eqb group' group ne in rw e (none (same_kind a b && (line' == line))))
  where
    none : (x : Bool) → x && false ≡ false
    none true = refl
    none false = refl

module _ (s : Setting) (st now then : State) (line row group : ℕ) (left : LeavesOthers s st now then line row group) (line' row' group' : ℕ) (of : IsGridOf s (layout s line').grid) (hr : row' < (layout s line').grid.p) where
  inside : (col : ℕ) → col < width (layout s line').grid → rank_at (layout s line').grid row' col < ranks s
  inside col h = of.ranks (rank_at (layout s line').grid row' col) (is_member-rank_at (layout s line').grid row' col hr h)

  -- a slot of a matrix that is not among those that the round may write
  slot_stays : (r : ℕ) (slot : Slot) → r < ranks s → same_slot slot (slot_at Data line group) ≡ false → same_slot slot (slot_at Code line group) ≡ false → same_slot slot (slot_at Low line group) ≡ false → same_slot slot (slot_at Open line 0) ≡ false → same_slot slot brought ≡ false
      → now.tiles r slot ≡ st.tiles r slot → then.tiles r slot ≡ st.tiles r slot
  slot_stays r slot h a b c d e k = left.other_slots r slot h a b c d e ∙ k

  by_line : line' ≢ line → IsRowHealed s st now line' row' group' → IsRowHealed s st then line' row' group'
  by_line ne healed = record {
    data_strips = λ col h. slot_stays _ (slot_at Data line' group') (inside col (omega arith)) (other_line Data Data line line' group group' ne) (other_line Data Code line line' group group' ne) (other_line Data Low line line' group group' ne) (other_line Data Open line line' 0 group' ne) refl (healed.data_strips col h);
    code_strips = λ c h. slot_stays _ (slot_at Code line' group') (inside ((layout s line').grid.q + c) (omega arith)) (other_line Code Data line line' group group' ne) (other_line Code Code line line' group group' ne) (other_line Code Low line line' group group' ne) (other_line Code Open line line' 0 group' ne) refl (healed.code_strips c h);
    low_strips = λ c h low. slot_stays _ (slot_at Low line' group') (inside ((layout s line').grid.q + c) (omega arith)) (other_line Low Data line line' group group' ne) (other_line Low Code line line' group group' ne) (other_line Low Low line line' group group' ne) (other_line Low Open line line' 0 group' ne) refl (healed.low_strips c h low);
    open_strips = λ c h opened. slot_stays _ (slot_at Open line' 0) (inside ((layout s line').grid.q + c) (omega arith)) (other_line Open Data line line' group 0 ne) (other_line Open Code line line' group 0 ne) (other_line Open Low line line' group 0 ne) (other_line Open Open line line' 0 0 ne) refl (healed.open_strips c h opened);
  }

  by_group : line' ≡ line → group' ≢ group → IsRowHealed s st now line' row' group' → IsRowHealed s st then line' row' group'
  by_group same ne healed = record {
    data_strips = λ col h. slot_stays _ (slot_at Data line' group') (inside col (omega arith)) (other_group Data Data line line' group group' ne) refl refl refl refl (healed.data_strips col h);
    code_strips = λ c h. slot_stays _ (slot_at Code line' group') (inside ((layout s line').grid.q + c) (omega arith)) refl (other_group Code Code line line' group group' ne) refl refl refl (healed.code_strips c h);
    low_strips = λ c h low. slot_stays _ (slot_at Low line' group') (inside ((layout s line').grid.q + c) (omega arith)) refl refl (other_group Low Low line line' group group' ne) refl refl (healed.low_strips c h low);
    open_strips = λ c h opened.
        (let rank = rank_at (layout s line').grid row' ((layout s line').grid.q + c) in
        let closed = st.mark.closed / (layout s line').grid.q in
        let at : group' ≡ closed = eqb-true group' closed (and_parts (has_open s st.mark line') (group' == closed) opened).1 in
        let shut' : is_open_group s st.mark line' (layout s line') group ≡ false = and_none (has_open s st.mark line') (group == closed) (ne_eqb group closed (λ e. ne (at ∙ sym e))) in
        let shut : is_open_group s st.mark line (layout s line) group ≡ false = subst (λ l. is_open_group s st.mark l (layout s l) group ≡ false) same shut' in
        subst (λ l. then.tiles rank (slot_at Open l 0) ≡ now.tiles rank (slot_at Open l 0)) (sym same) (left.open_panel rank (inside ((layout s line').grid.q + c) (omega arith)) shut)
        ∙ healed.open_strips c h opened);
  }
    where
      and_none : (x y : Bool) → y ≡ false → x && y ≡ false
      and_none true y e = e
      and_none false y e = refl

  by_row : line' ≡ line → row' ≢ row → IsRowHealed s st now line' row' group' → IsRowHealed s st then line' row' group'
  by_row same ne healed =
      let apart : (a : ℕ) → a < width (layout s line').grid → (col : ℕ) → col < width (layout s line).grid → now.lost (rank_at (layout s line).grid row col) ≡ true → rank_at (layout s line').grid row' a ≡ rank_at (layout s line).grid row col → ⊥ =
      λ a ha col hc lost e. ne (same_place (layout s line').grid row' a row col ha (subst (λ l. col < width (layout s l).grid) (sym same) hc) (e ∙ ap (λ l. rank_at (layout s l).grid row col) (sym same))).0 in
      record {
        data_strips = λ col h. left.other_ranks _ (slot_at Data line' group') (inside col (omega arith)) (apart col (omega arith)) ∙ healed.data_strips col h;
        code_strips = λ c h. left.other_ranks _ (slot_at Code line' group') (inside ((layout s line').grid.q + c) (omega arith)) (apart ((layout s line').grid.q + c) (omega arith)) ∙ healed.code_strips c h;
        low_strips = λ c h low. left.other_ranks _ (slot_at Low line' group') (inside ((layout s line').grid.q + c) (omega arith)) (apart ((layout s line').grid.q + c) (omega arith)) ∙ healed.low_strips c h low;
        open_strips = λ c h opened. left.other_ranks _ (slot_at Open line' 0) (inside ((layout s line').grid.q + c) (omega arith)) (apart ((layout s line').grid.q + c) (omega arith)) ∙ healed.open_strips c h opened;
      }

  pub row-stays : IsElsewhere line row group line' row' group' → IsRowHealed s st now line' row' group' → IsRowHealed s st then line' row' group'
  row-stays away healed =
      elim (cases_eq line' line) [
        | inl same ↦
            elim (cases_eq group' group) [
              | inl same_group ↦ by_row same (away.differ same same_group) healed
              | inr ne ↦ by_group same ne healed
            ]
        | inr ne ↦ by_line ne healed
      ]

-- ---- lists
module _ (s : Setting) (st now : State) (line : ℕ) (pairs : List (ℕ × ℕ)) (healing : IsHealing s st now) (live : is_live_list s st.mark line ≡ true) (of : IsGridOf s (layout s (factored s line)).grid) (copies : ReachAllLost now (layout s (factored s line)).grid pairs) where
  numbers : List ℕ
  numbers = pivots_of st line (layout s (factored s line))

  before : (r : ℕ) → is_member (layout s (factored s line)).grid r ≡ true → st.tiles r (slot_at Pivots line 0) ≡ Some (Index numbers)
  unfolding numbers
  before r m =
      let g = (layout s (factored s line)).grid in
      let from : g.first ≤ r = is_member-begins g r m in
      let end : r < g.first + size g = is_member-ends g r m in
      let at : g.first + (r - g.first) ≡ r = omega arith in
      subst (λ k. st.tiles k (slot_at Pivots line 0) ≡ Some (Index (pivots_of st line (layout s (factored s line))))) at ((healing.known.rest.law.lists line live).same (r - g.first) (omega arith))

  kept : (r : ℕ) → is_member (layout s (factored s line)).grid r ≡ true → now.lost r ≡ false → (holding now r).tiles (slot_at Pivots line 0) ≡ Some (Index numbers)
  kept r m alive = healing.kept r (slot_at Pivots line 0) (of.ranks r m) alive refl ∙ before r m

  lost_target : (r : ℕ) (ps : List (ℕ × ℕ)) → GoToLost now (layout s (factored s line)).grid ps → IsCopiedTo r ps → now.lost r ≡ true
  lost_target r [] good to = absurd to
  lost_target r (x ∷ xs) good (inl here) = ap now.lost here ∙ good.0.3
  lost_target r (x ∷ xs) good (inr later) = lost_target r xs good.1 later

  are_copies : (ps : List (ℕ × ℕ)) → GoToLost now (layout s (factored s line)).grid ps → AreCopies (ranks s) (slot_at Pivots line 0) numbers (holding now) ps
  are_copies [] good = tt
  are_copies (x ∷ xs) good =
      ((of.ranks x.0 good.0.0, of.ranks x.1 good.0.2, (λ e. true≢false (sym good.0.3 ∙ ap now.lost (sym e) ∙ good.0.1)), kept x.0 good.0.0 good.0.1, mending st now x.1 healing.back good.0.3), are_copies xs good.1)

  all : (g : ℕ → Holding) × Copied s now (slot_at Pivots line 0) numbers (λ from to. or_left (some_lost s now) _ healing.some) pairs (holding now) g
  all = copied s now (slot_at Pivots line 0) numbers (λ from to. or_left (some_lost s now) _ healing.some) pairs (holding now) (are_copies pairs copies.go)

  replays : Replays s now (λ r. true) (copy_events (slot_at Pivots line 0) pairs) all.0
  replays = turns_replay s now (λ r. true) (copy_events (slot_at Pivots line 0) pairs) all.0 healing.quiet all.1.turns

  pub list-legal : IsLegalFrom s now (records_of (copy_events (slot_at Pivots line 0) pairs))
  list-legal = replays.legal

  pub list-heals : IsListHealed s st (replay s now (records_of (copy_events (slot_at Pivots line 0) pairs))) line
  list-heals = record {
    same = λ place h.
        (let g = (layout s (factored s line)).grid in
        let r = g.first + place in
        let m : is_member g r ≡ true = is_member-from g r (omega arith) (omega arith) in
        let there : (all.0 r).tiles (slot_at Pivots line 0) ≡ Some (Index numbers) =
        elim (cases_Bool (now.lost r)) [ inl lost ↦ all.1.got r (copies.each r m lost) | inr alive ↦ all.1.kept r (kept r m alive) ] in
        ap (λ z. z.tiles (slot_at Pivots line 0)) (replays.turned r (of.ranks r m) refl) ∙ there ∙ sym (before r m));
  }

  -- all other slots are as they were
  pub list-leaves : (r : ℕ) (slot : Slot) → r < ranks s → same_slot slot (slot_at Pivots line 0) ≡ false → (replay s now (records_of (copy_events (slot_at Pivots line 0) pairs))).tiles r slot ≡ now.tiles r slot
  list-leaves r slot h other = ap (λ z. z.tiles slot) (replays.turned r h refl) ∙ all.1.others r slot other

  pub list-goes_on : IsHealing s st (replay s now (records_of (copy_events (slot_at Pivots line 0) pairs)))
  list-goes_on = record {
    sensible = healing.sensible;
    known = healing.known;
    back = no_commits s st now (copy_events (slot_at Pivots line 0) pairs) replays.legal healing.back;
    live = λ a. ap (λ l. l a) replays.live ∙ healing.live a;
    quiet = record { live = λ a h. ap (λ l. l a) replays.live ∙ healing.quiet.live a h; links = replays.links; some = healing.quiet.some };
    some = ap (λ l. some_below (ranks s) l) replays.lost ∙ healing.some;
    kept = λ a slot h live_a kind.
        (let alive : now.lost a ≡ false = sym (ap (λ l. l a) replays.lost) ∙ live_a in
        ap (λ z. z.tiles slot) (replays.turned a h refl ∙ all.1.stay a (λ to. true≢false (sym (lost_target a pairs copies.go to) ∙ alive))) ∙ healing.kept a slot h alive kind);
  }
