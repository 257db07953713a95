-- Holdings of a process column and of a grid, one event after another, with what may have changed.
use Rattle.std.proofs.Common.{◌≡◌, ◌≢◌, ◌<◌, ◌==◌, ◌||◌, ℕ, Bool, true, false, not, is_some, List, [], ◌∷◌, ◌++◌, refl, sym, ap, subst, ◌∙◌, inl, inr, ⊎_elim, IsTrue}
use Rattle.std.specs.Prelude.{if◌then◌else◌}
use Rattle.std.proofs.lemmas.Bool.{cases_Bool, or_left}
use Rattle.std.proofs.lemmas.Bool.Decides.{eqb_tells}
use Rattle.rank_run.specs.declared.round.Event.{Event}
use Rattle.rank_run.specs.declared.round.Event.TheVariants.{Local}
use Rattle.blacs_grid.specs.declared.Grid.{Grid}
use Rattle.blacs_grid.specs.declared.Scope.TheVariants.{Column}
use Rattle.blacs_grid.specs.Places.{width, rank_at, is_member, is_in_scope}
use Rattle.blacs_comm.specs.declared.topology.Topology.{Topology}
use Rattle.rank_machine.specs.declared.slot.Slot.{Slot}
use Rattle.rank_machine.specs.declared.slot.Tile.{Tile}
use Rattle.rank_machine.specs.declared.slot.Piece.{Piece}
use Rattle.rank_machine.specs.declared.slot.Piece.TheVariants as piece
use Rattle.rank_machine.specs.declared.kernel.Kernel.{Kernel}
use Rattle.rank_machine.specs.Setting.{Setting}
use Rattle.rank_machine.specs.State.{State, same_slot}
use Rattle.rank_machine.specs.Effect.{slot_of, target, made_by, replay}
use Rattle.rank_machine.specs.Legal.{is_path, holds}
use Rattle.rank_slots.specs.Rank.{Rank}
use Rattle.rank_slots.specs.Stands.{records_of}
use Rattle.round_laws.specs.Holdings.{Holding, put, may_put, CanRun, holdings}
use Rattle.round_laws.specs.Turns.{Replays, IsQuiet, each_below, on_grid, at_place, IsGridOf, held_on}
use Rattle.round_laws.specs.Changes.{ChangesOnly, TurnsColumn, TurnsGrid, ChangesGrid}
use Rattle.round_laws.specs.Searches.{spread_events}
use Rattle.round_laws.proofs.Holds.{put-other, put-free_other, but_same, but_put, but_then}
use Rattle.round_laws.proofs.Laws.{path_anywhere, turns_none, turns_then}
use Rattle.round_laws.proofs.Grids.{at_place-here, at_place-else, in_column, of_column, turns_place_work, turns_column_works, turns_column_broadcast, grid_replays, grid_turned}
use Rattle.round_laws.proofs.Pieces.{put_whole, equal}
use Rattle.round_laws.proofs.ForEachColumn.{turns_columns_each}

-- ---- what may be written stays so
pub free_put : (h : Holding) (slot : Slot) (t : Tile) (x : Slot) → h.free x ≡ true → (put h slot t).free x ≡ true
free_put h slot t x e =
    ⊎_elim (λ (u : same_slot x slot ≡ true). ap (λ b. if b then true else h.free x) u) (λ (u : same_slot x slot ≡ false). put-free_other h slot x t u ∙ e) (cases_Bool (same_slot x slot))

pub may_put_put : (h : Holding) (slot : Slot) (t : Tile) (x : Slot) → may_put h x ≡ true → may_put (put h slot t) x ≡ true
may_put_put h slot t x e =
    ⊎_elim (λ (u : same_slot x slot ≡ true). or_left ((put h slot t).free x) (not (is_some ((put h slot t).tiles x))) (ap (λ b. if b then true else h.free x) u))
    (λ (u : same_slot x slot ≡ false). (λ i. put-free_other h slot x t u i || not (is_some (put-other h slot x t u i))) ∙ e) (cases_Bool (same_slot x slot))

pub unchanged : (test : Slot → Bool) (h : Holding) → ChangesOnly test h h
unchanged test h = record { but = but_same test h; free = λ x e. e; may = λ x e. e }

pub changed_put : (test : Slot → Bool) (h : Holding) (slot : Slot) (t : Tile) → test slot ≡ true → ChangesOnly test h (put h slot t)
changed_put test h slot t e = record { but = but_put test h slot t e; free = λ x u. free_put h slot t x u; may = λ x u. may_put_put h slot t x u }

pub changed_then : (test : Slot → Bool) (h h' h'' : Holding) → ChangesOnly test h h' → ChangesOnly test h' h'' → ChangesOnly test h h''
changed_then test h h' h'' one two = record { but = but_then test h h' h'' one.but two.but; free = λ x e. two.free x (one.free x e); may = λ x e. two.may x (one.may x e) }

-- a wider test
pub changed_wider : (test more : Slot → Bool) (h h' : Holding) → ((x : Slot) → more x ≡ false → test x ≡ false) → ChangesOnly test h h' → ChangesOnly more h h'
changed_wider test more h h' wide c = record {
  but = record { number = c.but.number; tiles = λ x e. c.but.tiles x (wide x e); free = λ x e. c.but.free x (wide x e) };
  free = c.free;
  may = c.may;
}

module _ (s : Setting) (st : State) (g : Grid) (col : ℕ) where
  abbrev pub column_none : (test : Slot → Bool) (f : ℕ → ℕ → Holding) → TurnsColumn s st g col test [] f
  column_none test f = record {
    after = f;
    turns = turns_none s st (is_in_scope g (Column col)) (on_grid g f) (on_grid g f) (λ r e. refl);
    changed = λ row h. unchanged test (f row col);
  }

  abbrev pub column_then : (test : Slot → Bool) (es es' : List (Event Rank Kernel Piece Tile)) (f : ℕ → ℕ → Holding) (one : TurnsColumn s st g col test es f) → TurnsColumn s st g col test es' one.after → TurnsColumn s st g col test (es ++ es') f
  column_then test es es' f one two = record {
    after = two.after;
    turns = turns_then s st (is_in_scope g (Column col)) es es' (on_grid g f) (on_grid g one.after) (on_grid g two.after) one.turns two.turns;
    changed = λ row h. changed_then test (f row col) (one.after row col) (two.after row col) (one.changed row h) (two.changed row h);
  }

  abbrev pub column_wider : (test more : Slot → Bool) (es : List (Event Rank Kernel Piece Tile)) (f : ℕ → ℕ → Holding) → ((x : Slot) → more x ≡ false → test x ≡ false) → TurnsColumn s st g col test es f → TurnsColumn s st g col more es f
  column_wider test more es f wide one = record {
    after = one.after;
    turns = one.turns;
    changed = λ row h. changed_wider test more (f row col) (one.after row col) wide (one.changed row h);
  }

  -- holdings of the column alone, with others elsewhere
  abbrev pub on_column : (ℕ → Holding) → (ℕ → ℕ → Holding) → ℕ → ℕ → Holding
  on_column h f a b = if b == col then h a else f a b

  pub on_column-here : (h : ℕ → Holding) (f : ℕ → ℕ → Holding) (a : ℕ) → on_column h f a col ≡ h a
  on_column-here h f a = ap (λ b. if b then h a else f a col) (equal col col refl)

  pub on_column-else : (h : ℕ → Holding) (f : ℕ → ℕ → Holding) (a b : ℕ) → (b ≡ col → ⊥) → on_column h f a b ≡ f a b
  on_column-else h f a b ne = elim (eqb_tells b col) [ inl p ↦ absurd (ne p.1) | inr p ↦ ap (λ v. if v then h a else f a b) p.0 ]

  -- a kernel on each rank of the column
  pub column_works : (of : IsGridOf s g) (test : Slot → Bool) (k : ℕ → Kernel) (f : ℕ → ℕ → Holding) → col < width g → ((row : ℕ) → row < g.p → CanRun s st (f row col) (k row)) → ((row : ℕ) → row < g.p → test (slot_of (target (k row))) ≡ true)
      → (x : TurnsColumn s st g col test (each_below g.p (λ row. Local (rank_at g row col) (k row) ∷ [])) f) × ((row : ℕ) → x.after row col ≡ (holdings s st).applied (f row col) (k row))
  column_works of test k f lt can in_test =
      let h : ℕ → ℕ → Holding = on_column (λ row. (holdings s st).applied (f row col) (k row)) f in
      let here : (row : ℕ) → h row col ≡ (holdings s st).applied (f row col) (k row) = λ row. on_column-here (λ row. (holdings s st).applied (f row col) (k row)) f row in (
        record {
          after = h;
          turns = turns_column_works s st g of col k f h lt can (λ row hr. here row);
          changed = λ row hr. subst (ChangesOnly test (f row col)) (sym (here row)) (changed_put test (f row col) (slot_of (target (k row))) (made_by s (f row col).number (f row col).tiles (k row)) (in_test row hr));
        },
        here,
      )

  -- what a rank of the column holds in a slot goes to all others
  abbrev spread_to : Slot → ℕ → (ℕ → ℕ → Holding) → ℕ → Holding
  spread_to slot root f row = if row == root then f row col else (holdings s st).written (f row col) (piece.Whole slot) ((holdings s st).read (f root col) (piece.Whole slot))

  pub column_spreads : (of : IsGridOf s g) (anywhere : (from to : ℕ) → IsTrue (is_path s st from to)) (test : Slot → Bool) (t : Topology) (root : ℕ) (slot : Slot) (f : ℕ → ℕ → Holding) → col < width g → root < g.p → test slot ≡ true
      → holds (f root col).tiles (piece.Whole slot) ≡ true → ((row : ℕ) → row < g.p → may_put (f row col) slot ≡ true)
      → (x : TurnsColumn s st g col test (spread_events g col t root slot) f)
      × ((row : ℕ) → row ≢ root → x.after row col ≡ put (f row col) slot ((holdings s st).read (f root col) (piece.Whole slot))) × (x.after root col ≡ f root col)
  column_spreads of anywhere test t root slot f lt hr in_test there may =
      let es = spread_events g col t root slot in
      let sent = (holdings s st).read (f root col) (piece.Whole slot) in
      let h : ℕ → ℕ → Holding = on_column (spread_to slot root f) f in
      let other : (row : ℕ) → row ≢ root → h row col ≡ put (f row col) slot sent =
      λ row ne. on_column-here (spread_to slot root f) f row ∙ elim (eqb_tells row root) [ inl p ↦ absurd (ne p.1) | inr p ↦ ap (λ b. if b then f row col else put (f row col) slot sent) p.0 ] in
      let own : h root col ≡ f root col = on_column-here (spread_to slot root f) f root ∙ ap (λ b. if b then f root col else put (f root col) slot sent) (equal root root refl) in (
        record {
          after = h;
          turns = turns_column_broadcast s st g of col t root (piece.Whole slot) (piece.Whole slot) f h lt hr (path_anywhere s st anywhere es) there
              (λ row hr' ne. put_whole (f row col) slot (f root col).tiles (may row hr') (piece.Whole slot)) (λ row hr' ne. other row ne) own;
          changed = λ row hr'.
              elim (eqb_tells row root) [
                | inl p ↦ subst (ChangesOnly test (f row col)) (sym (ap (λ r. h r col) p.1 ∙ own ∙ ap (λ r. f r col) (sym p.1))) (unchanged test (f row col))
                | inr p ↦ subst (ChangesOnly test (f row col)) (sym (other row p.1)) (changed_put test (f row col) slot sent in_test)
              ];
        },
        other,
        own,
      )

  -- a kernel on one rank of the column
  pub column_place : (of : IsGridOf s g) (test : Slot → Bool) (row : ℕ) (k : Kernel) (f : ℕ → ℕ → Holding) → col < width g → row < g.p → CanRun s st (f row col) k → test (slot_of (target k)) ≡ true
      → (x : TurnsColumn s st g col test (Local (rank_at g row col) k ∷ []) f) × (x.after row col ≡ (holdings s st).applied (f row col) k) × ((a : ℕ) → a ≢ row → x.after a col ≡ f a col)
  column_place of test row k f lt hr can in_test =
      let made = (holdings s st).applied (f row col) k in
      let here : at_place f row col made row col ≡ made = at_place-here f row col made in
      let other : (a : ℕ) → a ≢ row → at_place f row col made a col ≡ f a col = λ a ne. at_place-else f row col made a col (λ u v. ne u) in (
        record {
          after = at_place f row col made;
          turns = turns_place_work s st g of (is_in_scope g (Column col)) row col k f (at_place f row col made) hr lt (in_column g row col hr lt) (λ r e. (of_column g col r e).0) can here (λ a b ne. at_place-else f row col made a b ne);
          changed = λ a ha.
              elim (eqb_tells a row) [
                | inl p ↦
                    subst (λ r. ChangesOnly test (f r col) (at_place f row col made r col)) (sym p.1)
                    (subst (ChangesOnly test (f row col)) (sym here) (changed_put test (f row col) (slot_of (target k)) (made_by s (f row col).number (f row col).tiles k) in_test))
                | inr p ↦ subst (ChangesOnly test (f a col)) (sym (other a p.1)) (unchanged test (f a col))
              ];
        },
        here,
        other,
      )

-- ---- on a whole grid
module _ (s : Setting) (st : State) (g : Grid) (test : ℕ → Slot → Bool) where
  abbrev pub grid_none : (f : ℕ → ℕ → Holding) → TurnsGrid s st g test [] f
  grid_none f = record { after = f; turns = turns_none s st (is_member g) (on_grid g f) (on_grid g f) (λ r e. refl); changed = λ row col hr hc. unchanged (test col) (f row col) }

  abbrev pub grid_then : (es es' : List (Event Rank Kernel Piece Tile)) (f : ℕ → ℕ → Holding) (one : TurnsGrid s st g test es f) → TurnsGrid s st g test es' one.after → TurnsGrid s st g test (es ++ es') f
  grid_then es es' f one two = record {
    after = two.after;
    turns = turns_then s st (is_member g) es es' (on_grid g f) (on_grid g one.after) (on_grid g two.after) one.turns two.turns;
    changed = λ row col hr hc. changed_then (test col) (f row col) (one.after row col) (two.after row col) (one.changed row col hr hc) (two.changed row col hr hc);
  }

  -- a part for each process column
  pub grid_of_columns : IsGridOf s g → (es : ℕ → List (Event Rank Kernel Piece Tile)) (f : ℕ → ℕ → Holding) → ((col : ℕ) → col < width g → TurnsColumn s st g col (test col) (es col) f) → TurnsGrid s st g test (each_below (width g) es) f
  grid_of_columns of es f each =
      let z = turns_columns_each s st g of es f (λ col at. (row : ℕ) → row < g.p → ChangesOnly (test col) (f row col) (at row)) (λ col hc. let x = each col hc in (x.after, x.turns, x.changed)) in
      record { after = z.0; turns = z.1; changed = λ row col hr hc. z.2 col hc row hr }

  -- from a quiet state: the records of the round are legal, and the state after it differs from the one before only as the round says
  module _ (of : IsGridOf s g) (quiet : IsQuiet s st) (es : List (Event Rank Kernel Piece Tile)) (h : TurnsGrid s st g test es (held_on st g)) where
    pub grid_legal : Replays s st (is_member g) es (on_grid g h.after)
    grid_legal = grid_replays s st g es h.after of quiet h.turns

    pub grid_held : (row col : ℕ) → row < g.p → col < width g → held_on (replay s st (records_of es)) g row col ≡ h.after row col
    grid_held row col hr hc = grid_turned s st g es h.after of grid_legal row col hr hc

    pub grid_changes : ChangesGrid s g test st (replay s st (records_of es))
    grid_changes = record {
      quiet = record { live = λ r lt. ap (λ l. l r) grid_legal.live ∙ quiet.live r lt; links = grid_legal.links; some = quiet.some };
      mark = grid_legal.mark;
      lost = grid_legal.lost;
      saved = grid_legal.saved;
      on_it = λ row col hr hc. subst (ChangesOnly (test col) (held_on st g row col)) (sym (grid_held row col hr hc)) (h.changed row col hr hc);
      elsewhere = grid_legal.kept;
    }
