-- Memories and links stand for the state after each record that no round makes; what a rank falls back to; the words that it holds.
use Rattle.std.proofs.Common.{◌≡◌, ◌+◌, ◌*◌, ◌<◌, ◌≤◌, ◌==◌, ◌&&◌, ◌⊎◌, ℕ, zero, suc, Bool, true, false, not, cond, nat_lt, Option, Some, None, is_some, IfSome, List, [], ◌∷◌, map, get_or, slice_get, refl, sym, ap, subst, ◌∙◌, ⊎_elim, inl, inr, All, arith}
use Rattle.std.specs.Prelude.{if◌then◌else◌}
use Rattle.std.specs.List.{range_with_len}
use Rattle.std.specs.Option.{option_map}
use Rattle.std.proofs.lemmas.Bool.{cases_Bool, cases_lt, true≢false, lt-ltb, le-ltb}
use Rattle.std.proofs.lemmas.List.{length-map, length-replicate}
use Rattle.std.proofs.lemmas.List.Elements.{All-nil, All-cons, All-head, All-tail, All-map, All-replicate, All-weaker}
use Rattle.std.proofs.lemmas.List.FromFn.{length-map-range_with_len, get_or-map-range_with_len}
use Rattle.std.proofs.lemmas.Option.{slice_get-map, slice_get-get_or, slice_get_past}
use Rattle.rank_link.specs.Traffic.{empty_traffic}
use Rattle.rank_run.specs.Machine.{Machine, machine}
use Rattle.rank_run.specs.Rounds.{on_rank}
use Rattle.rank_run.proofs.Ranks.{length-on_rank}
use Rattle.rank_run.proofs.Runs.{empty_links}
use Rattle.rank_machine.specs.declared.slot.Slot.{Slot}
use Rattle.rank_machine.specs.declared.slot.Tile.{Tile}
use Rattle.rank_machine.specs.declared.slot.Piece.{Piece}
use Rattle.rank_machine.specs.declared.slot.Piece.TheVariants as piece
use Rattle.rank_machine.specs.declared.mark.Mark.{Mark}
use Rattle.rank_machine.specs.declared.record.Rec.TheVariants as r
use Rattle.rank_machine.specs.Setting.{Setting, ranks}
use Rattle.rank_machine.specs.State.{same_slot, State, opened, or_else, base}
use Rattle.rank_machine.specs.Effect.{is_live, after}
use Rattle.rank_machine.specs.Held.{size_of, is_new, are_distinct, words_in}
use Rattle.rank_machine.proofs.Base.{same_slot-true}
use Rattle.script_lines.specs.declared.lines.Line.{Line}
use Rattle.script_lines.specs.Lines.{setting_on, IsTableOf}
use Rattle.script_lines.proofs.TableLaws.{is_live_on}
use Rattle.rank_slots.specs.declared.cells.Cell.{Cell}
use Rattle.rank_slots.specs.Cells.{cell_in, tile_of, saved_of, tiles_in, saved_in, is_before, AreOrdered, kept_in, words_of_cells, IsTileOf, IsCellOf, AreCellsOf}
use Rattle.rank_slots.specs.Rank.{Rank, with_cells, with_tile, with_save, memory, base_in}
use Rattle.rank_slots.specs.Stands.{live_at, tiles_at, saved_at, fresh_at, AreNumbered, Stands, AreResidues}
use Rattle.rank_slots.proofs.CellLaws.{same_slot-refl, same_either, tiles_in-save, saved_in-save, fresh_in-save, tiles_in-kept, saved_in-kept, fresh_in-kept}
use Rattle.rank_slots.proofs.CellWords.{cells_put, cells_save, cells_kept}
use Rattle.rank_slots.proofs.ListOrder.{alike_at}
use Rattle.rank_slots.proofs.PlaceLaws.{first_there, past_first, there_later, is_there}
use Rattle.rank_slots.proofs.SlotOrder.{before_other, other_turned}
use Rattle.rank_slots.proofs.Steps.{live_there, tiles_there, saved_there, fresh_there, live_at-get, tiles_at-get, saved_at-get, fresh_at-get, links-among, on_rank-keeps, on_rank-turns, KeepsPlace, numbered_there, numbered-on_rank}

-- ---- what a rank falls back to
-- what a rank that may be there falls back to in a slot
abbrev pub base_there : Slot → Option Rank → Option Tile
base_there slot None = None
base_there slot (Some m) = base_in m (piece.Whole slot)

-- read slot by slot
base_at : (slot : Slot) (o : Option Rank) → or_else (saved_there slot o) (if fresh_there slot o then None else tiles_there slot o) ≡ base_there slot o
base_at slot None = refl
base_at slot (Some m) = refl

-- it is what the state says
pub same_base : (s : Setting) (table : List Line) (x : Machine Rank Tile) (st : State) → Stands s table x st → (rank : ℕ) (slot : Slot) → base st rank slot ≡ base_there slot (slice_get x.mems rank)
same_base s table x st h rank slot =
    let saved : st.saved rank slot ≡ saved_there slot (slice_get x.mems rank) = sym (h.saved rank slot) ∙ saved_at-get x.mems rank slot in
    let fresh : st.fresh rank slot ≡ fresh_there slot (slice_get x.mems rank) = sym (h.fresh rank slot) ∙ fresh_at-get x.mems rank slot in
    let tiles : st.tiles rank slot ≡ tiles_there slot (slice_get x.mems rank) = sym (h.tiles rank slot) ∙ tiles_at-get x.mems rank slot in
    (λ i. or_else (saved i) (if fresh i then None else tiles i)) ∙ base_at slot (slice_get x.mems rank)

-- by the list of what the ranks fall back to
abbrev base_of : Slot → Option (Piece → Option Tile) → Option Tile
base_of slot None = None
base_of slot (Some f) = f (piece.Whole slot)

base_mapped : (slot : Slot) (o : Option Rank) → base_there slot o ≡ base_of slot (option_map base_in o)
base_mapped slot None = refl
base_mapped slot (Some m) = refl

base_listed : (ms : List Rank) (rank : ℕ) (slot : Slot) → base_there slot (slice_get ms rank) ≡ base_of slot (slice_get (map base_in ms) rank)
base_listed ms rank slot = base_mapped slot (slice_get ms rank) ∙ ap (base_of slot) (sym (slice_get-map base_in ms rank))

-- where the memories fall back to the same, so do the states
pub base_kept : (s : Setting) (table : List Line) (a b : Machine Rank Tile) (sa sb : State) → map base_in a.mems ≡ map base_in b.mems → Stands s table a sa → Stands s table b sb → (rank : ℕ) (slot : Slot) → base sb rank slot ≡ base sa rank slot
base_kept s table a b sa sb same h g rank slot =
    same_base s table b sb g rank slot
    ∙ base_listed b.mems rank slot
    ∙ ap (λ fs. base_of slot (slice_get fs rank)) (sym same)
    ∙ sym (base_listed a.mems rank slot)
    ∙ sym (same_base s table a sa h rank slot)

-- ---- one rank changes
module _ {X : Type 0} where
  -- what each has, and the change keeps, each has after it
  pub All-on_rank : (P : X → Type 0) (xs : List X) (r : ℕ) (f : X → X) → ((x : X) → P x → P (f x)) → All P xs → All P (on_rank xs r f)
  All-on_rank P [] r f g h = h
  All-on_rank P (x ∷ xs) zero f g h = All-cons P (f x) xs (g x (All-head P x xs h)) (All-tail P x xs h)
  All-on_rank P (x ∷ xs) (suc r) f g h = All-cons P x (on_rank xs r f) (All-head P x xs h) (All-on_rank P xs r f g (All-tail P x xs h))

-- a tile is put, and all words stay residues
pub residues-put : (p : ℕ) (x : Machine Rank Tile) (rank : ℕ) (slot : Slot) (t : Tile) → IsTileOf p t → AreResidues p x → AreResidues p (machine (on_rank x.mems rank (λ m. with_tile m slot t)) x.links)
residues-put p x rank slot t g h = record { mems = All-on_rank (λ m. AreCellsOf p m.cells) x.mems rank (λ m. with_tile m slot t) (λ m. cells_put p m.cells slot t g) h.mems; links = h.links }

-- a rank that is live is there
pub live_is_there : (ms : List Rank) (rank : ℕ) → live_at ms rank ≡ true → (m : Rank) × (slice_get ms rank ≡ Some m)
live_is_there [] rank h = absurd (true≢false (sym h))
live_is_there (m ∷ ms) zero h = (m, refl)
live_is_there (m ∷ ms) (suc rank) h = live_is_there ms rank h

-- ---- Take
-- no rank and no link changes
pub stands-taken : (s : Setting) (table : List Line) (x : Machine Rank Tile) (st : State) (rank : ℕ) (slot : Slot) → Stands s table x st → Stands s table x (after s st (r.Take rank slot))
stands-taken s table x st rank slot h = record {
  count = h.count;
  sides = h.sides;
  pairs = h.pairs;
  capacity = h.capacity;
  numbered = h.numbered;
  live = h.live;
  tiles = h.tiles;
  saved = h.saved;
  fresh = h.fresh;
  links = h.links;
  no_links = h.no_links;
}

-- ---- Save
-- a rank that may be there, after a slot was saved
place_saved : (slot : Slot) (o : Option Rank) → IfSome o (KeepsPlace (λ m. with_save m slot))
place_saved slot None = tt
place_saved slot (Some m) = (refl, refl)

live_saved : (slot : Slot) (o : Option Rank) → live_there (option_map (λ m. with_save m slot) o) ≡ live_there o
live_saved slot None = refl
live_saved slot (Some m) = refl

tiles_saved : (slot q : Slot) (o : Option Rank) → tiles_there q (option_map (λ m. with_save m slot) o) ≡ tiles_there q o
tiles_saved slot q None = refl
tiles_saved slot q (Some m) = tiles_in-save m.cells slot q

saved_saved : (slot q : Slot) (o : Option Rank) → saved_there q (option_map (λ m. with_save m slot) o) ≡ cond (same_slot q slot) (tiles_there slot o) (saved_there q o)
saved_saved slot q None = same_either (same_slot q slot) None
saved_saved slot q (Some m) = saved_in-save m.cells slot q

fresh_saved : (slot q : Slot) (o : Option Rank) → fresh_there q (option_map (λ m. with_save m slot) o) ≡ fresh_there q o
fresh_saved slot q None = refl
fresh_saved slot q (Some m) = fresh_in-save m.cells slot q

-- a slot of a rank is saved
pub stands-saved : (s : Setting) (table : List Line) (x : Machine Rank Tile) (st : State) (rank : ℕ) (slot : Slot) → Stands s table x st → Stands s table (machine (on_rank x.mems rank (λ m. with_save m slot)) x.links) (after s st (r.Save rank slot))
stands-saved s table x st rank slot h =
    let f : Rank → Rank = λ m. with_save m slot in
    record {
      count = length-on_rank x.mems rank f ∙ h.count;
      sides = h.sides;
      pairs = h.pairs;
      capacity = h.capacity;
      numbered = numbered-on_rank table x.mems rank f (place_saved slot (slice_get x.mems rank)) h.numbered;
      live = λ a. live_at-get (on_rank x.mems rank f) a ∙ on_rank-keeps live_there x.mems rank a f (live_saved slot (slice_get x.mems rank)) ∙ sym (live_at-get x.mems a) ∙ h.live a;
      tiles = λ a q. tiles_at-get (on_rank x.mems rank f) a q ∙ on_rank-keeps (tiles_there q) x.mems rank a f (tiles_saved slot q (slice_get x.mems rank)) ∙ sym (tiles_at-get x.mems a q) ∙ h.tiles a q;
      saved = λ a q.
          saved_at-get (on_rank x.mems rank f) a q
          ∙ on_rank-turns (saved_there q) x.mems rank a f (same_slot q slot) (tiles_there slot (slice_get x.mems rank)) (saved_saved slot q (slice_get x.mems rank))
          ∙ (λ i. if (a == rank) && same_slot q slot then (sym (tiles_at-get x.mems rank slot) ∙ h.tiles rank slot) i else (sym (saved_at-get x.mems a q) ∙ h.saved a q) i);
      fresh = λ a q. fresh_at-get (on_rank x.mems rank f) a q ∙ on_rank-keeps (fresh_there q) x.mems rank a f (fresh_saved slot q (slice_get x.mems rank)) ∙ sym (fresh_at-get x.mems a q) ∙ h.fresh a q;
      links = h.links;
      no_links = h.no_links;
    }

-- and all words stay residues
pub residues-saved : (p : ℕ) (x : Machine Rank Tile) (rank : ℕ) (slot : Slot) → AreResidues p x → AreResidues p (machine (on_rank x.mems rank (λ m. with_save m slot)) x.links)
residues-saved p x rank slot h = record { mems = All-on_rank (λ m. AreCellsOf p m.cells) x.mems rank (λ m. with_save m slot) (λ m. cells_save p m.cells slot) h.mems; links = h.links }

-- ---- Commit
module _ (s : Setting) (table : List Line) (mark : Mark) (lines : IsTableOf s.jobs table) where
  -- what a rank keeps is what is live by the script
  kept_at : (rank : ℕ) (m : Rank) (slot : Slot) → m.table ≡ table → m.number ≡ rank → is_live (setting_on 0 m.table) mark m.number slot ≡ is_live s mark rank slot
  kept_at rank m slot e n = (λ i. is_live (setting_on 0 (e i)) mark (n i) slot) ∙ is_live_on s table 0 lines mark rank slot

  -- a rank that may be there, after the commit
  tiles_committed : (rank : ℕ) (slot : Slot) (o : Option Rank) → IfSome o (λ m. (m.table ≡ table) × (m.number ≡ rank)) → tiles_there slot (option_map (λ m. with_cells m (kept_in (is_live (setting_on 0 m.table) mark m.number) m.cells)) o) ≡ (if is_live s mark rank slot then tiles_there slot o else None)
  tiles_committed rank slot None h = same_either (is_live s mark rank slot) None
  tiles_committed rank slot (Some m) h = tiles_in-kept (is_live (setting_on 0 m.table) mark m.number) m.cells slot ∙ ap (λ b. cond b (tiles_in m.cells slot) None) (kept_at rank m slot h.0 h.1)

place_committed : (mark : Mark) (o : Option Rank) → IfSome o (KeepsPlace (λ m. with_cells m (kept_in (is_live (setting_on 0 m.table) mark m.number) m.cells)))
place_committed mark None = tt
place_committed mark (Some m) = (refl, refl)

live_committed : (mark : Mark) (o : Option Rank) → live_there (option_map (λ m. with_cells m (kept_in (is_live (setting_on 0 m.table) mark m.number) m.cells)) o) ≡ live_there o
live_committed mark None = refl
live_committed mark (Some m) = refl

saved_committed : (mark : Mark) (slot : Slot) (o : Option Rank) → saved_there slot (option_map (λ m. with_cells m (kept_in (is_live (setting_on 0 m.table) mark m.number) m.cells)) o) ≡ None
saved_committed mark slot None = refl
saved_committed mark slot (Some m) = saved_in-kept (is_live (setting_on 0 m.table) mark m.number) m.cells slot

fresh_committed : (mark : Mark) (slot : Slot) (o : Option Rank) → fresh_there slot (option_map (λ m. with_cells m (kept_in (is_live (setting_on 0 m.table) mark m.number) m.cells)) o) ≡ false
fresh_committed mark slot None = refl
fresh_committed mark slot (Some m) = fresh_in-kept (is_live (setting_on 0 m.table) mark m.number) m.cells slot

-- each rank keeps what is live under a mark; the links stay as they are
pub stands-committed : (s : Setting) (table : List Line) (x : Machine Rank Tile) (st : State) (mark : Mark) (healed : Bool) → IsTableOf s.jobs table → Stands s table x st
    → Stands s table (machine (map (λ m. with_cells m (kept_in (is_live (setting_on 0 m.table) mark m.number) m.cells)) x.mems) x.links) (after s st (r.Commit mark healed))
stands-committed s table x st mark healed lines h =
    let f : Rank → Rank = λ m. with_cells m (kept_in (is_live (setting_on 0 m.table) mark m.number) m.cells) in
    record {
      count = length-map x.mems f ∙ h.count;
      sides = h.sides;
      pairs = h.pairs;
      capacity = h.capacity;
      numbered = λ a. subst (λ o. IfSome o (λ m. (m.table ≡ table) × (m.number ≡ a))) (sym (slice_get-map f x.mems a)) (numbered_there table a f (slice_get x.mems a) (place_committed mark (slice_get x.mems a)) (h.numbered a));
      live = λ a. live_at-get (map f x.mems) a ∙ ap live_there (slice_get-map f x.mems a) ∙ live_committed mark (slice_get x.mems a) ∙ sym (live_at-get x.mems a) ∙ h.live a;
      tiles = λ a q.
          tiles_at-get (map f x.mems) a q ∙ ap (tiles_there q) (slice_get-map f x.mems a) ∙ tiles_committed s table mark lines a q (slice_get x.mems a) (h.numbered a)
          ∙ ap (λ o. if is_live s mark a q then o else None) (sym (tiles_at-get x.mems a q) ∙ h.tiles a q);
      saved = λ a q. saved_at-get (map f x.mems) a q ∙ ap (saved_there q) (slice_get-map f x.mems a) ∙ saved_committed mark q (slice_get x.mems a);
      fresh = λ a q. fresh_at-get (map f x.mems) a q ∙ ap (fresh_there q) (slice_get-map f x.mems a) ∙ fresh_committed mark q (slice_get x.mems a);
      links = h.links;
      no_links = h.no_links;
    }

-- and all words stay residues
pub residues-committed : (p : ℕ) (x : Machine Rank Tile) (mark : Mark) → AreResidues p x → AreResidues p (machine (map (λ m. with_cells m (kept_in (is_live (setting_on 0 m.table) mark m.number) m.cells)) x.mems) x.links)
residues-committed p x mark h =
    let P : Rank → Type 0 = λ m. AreCellsOf p m.cells in
    let f : Rank → Rank = λ m. with_cells m (kept_in (is_live (setting_on 0 m.table) mark m.number) m.cells) in
    record { mems = All-map P f x.mems (All-weaker P (λ m. P (f m)) (λ m. cells_kept p (is_live (setting_on 0 m.table) mark m.number) m.cells) x.mems h.mems); links = h.links }

-- ---- the beginning
-- a list by its places
numbered_list : {X : Type 0} (f : ℕ → X) (n k : ℕ) → ((k < n) × (slice_get (map f (range_with_len 0 n)) k ≡ Some (f k))) ⊎ ((n ≤ k) × (slice_get (map f (range_with_len 0 n)) k ≡ None))
numbered_list f n k =
    let long = length-map-range_with_len f 0 n in
    elim (cases_lt k n) [
      | inl lt ↦ inl (lt, slice_get-get_or (map f (range_with_len 0 n)) k (f 0) (omega arith) ∙ ap Some (get_or-map-range_with_len f 0 n k k (f 0) lt (omega arith)))
      | inr le ↦ inr (le, slice_get_past (map f (range_with_len 0 n)) k (omega arith))
    ]

-- a live rank that holds nothing
abbrev empty_at : List Line → ℕ → Rank
empty_at table k = record { table = table; number = k; live = true; cells = [] }

module _ (table : List Line) (n : ℕ) where
  abbrev all_empty : List Rank
  all_empty = map (empty_at table) (range_with_len 0 n)

  -- what is read of the ranks
  empty_numbered : AreNumbered table all_empty
  empty_numbered k =
      elim (numbered_list (empty_at table) n k) [
        | inl h ↦ subst (λ o. IfSome o (λ m. (m.table ≡ table) × (m.number ≡ k))) (sym h.1) (refl, refl)
        | inr h ↦ subst (λ o. IfSome o (λ m. (m.table ≡ table) × (m.number ≡ k))) (sym h.1) tt
      ]

  empty_live : (k : ℕ) → live_at all_empty k ≡ nat_lt k n
  empty_live k =
      live_at-get all_empty k
      ∙ elim (numbered_list (empty_at table) n k) [
        | inl h ↦ ap live_there h.1 ∙ sym (lt-ltb k n h.0)
        | inr h ↦ ap live_there h.1 ∙ sym (le-ltb k n h.0)
      ]

  empty_tiles : (k : ℕ) (slot : Slot) → tiles_at all_empty k slot ≡ None
  empty_tiles k slot =
      tiles_at-get all_empty k slot
      ∙ elim (numbered_list (empty_at table) n k) [ inl h ↦ ap (tiles_there slot) h.1 | inr h ↦ ap (tiles_there slot) h.1 ]

  empty_saved : (k : ℕ) (slot : Slot) → saved_at all_empty k slot ≡ None
  empty_saved k slot =
      saved_at-get all_empty k slot
      ∙ elim (numbered_list (empty_at table) n k) [ inl h ↦ ap (saved_there slot) h.1 | inr h ↦ ap (saved_there slot) h.1 ]

  empty_fresh : (k : ℕ) (slot : Slot) → fresh_at all_empty k slot ≡ false
  empty_fresh k slot =
      fresh_at-get all_empty k slot
      ∙ elim (numbered_list (empty_at table) n k) [ inl h ↦ ap (fresh_there slot) h.1 | inr h ↦ ap (fresh_there slot) h.1 ]

-- live ranks that hold nothing, and empty links
pub stands-opened : (s : Setting) (table : List Line) → Stands s table (machine (map (λ n. record { table = table; number = n; live = true; cells = [] }) (range_with_len 0 (ranks s))) (empty_traffic (ranks s) s.capacity)) (opened s)
stands-opened s table = record {
  count = length-map-range_with_len (empty_at table) 0 (ranks s);
  sides = refl;
  pairs = length-replicate (ranks s * ranks s) [];
  capacity = refl;
  numbered = empty_numbered table (ranks s);
  live = empty_live table (ranks s);
  tiles = empty_tiles table (ranks s);
  saved = empty_saved table (ranks s);
  fresh = empty_fresh table (ranks s);
  links = λ from to u v. alike_at (ranks s * ranks s) (from * ranks s + to) [];
  no_links = λ from to h. refl;
}

-- no words at all
pub residues-opened : (p : ℕ) (table : List Line) (n capacity : ℕ) → AreResidues p (machine (map (λ n. record { table = table; number = n; live = true; cells = [] }) (range_with_len 0 n)) (empty_traffic n capacity))
residues-opened p table n capacity = record {
  mems = All-map (λ (m : Rank). AreCellsOf p m.cells) (empty_at table) (range_with_len 0 n) (λ i d lt. All-nil (IsCellOf p));
  links = All-replicate (λ ts. All (IsTileOf p) ts) (n * n) [] (All-nil (IsTileOf p));
}

-- ---- links on which nothing is on its way
pub links_empty : (s : Setting) (table : List Line) (x : Machine Rank Tile) (st : State) → Stands s table x st → ((from to : ℕ) → st.links from to ≡ []) → x.links ≡ empty_traffic x.links.ranks x.links.capacity
links_empty s table x st h none =
    empty_links (memory 0) (ranks s) x.links (links-among s table x st h) (λ from to u v. h.links from to u v ∙ none from to)
    ∙ ap (λ n. empty_traffic n x.links.capacity) (sym h.sides)

-- ---- the words that a rank holds
-- in order, each cell is the one that is found by its slot
each_own : (xs : List Cell) → AreOrdered xs → All (λ (y : Cell). cell_in xs y.slot ≡ Some y) xs
each_own [] o = All-nil (λ (y : Cell). cell_in [] y.slot ≡ Some y)
each_own (x ∷ xs) o =
    All-cons (λ (y : Cell). cell_in (x ∷ xs) y.slot ≡ Some y) x xs (first_there x xs x.slot (same_slot-refl x.slot))
    (λ i d lt. there_later x xs (get_or xs i d).slot (o.0 i d lt) ∙ each_own xs o.1 i d lt)

-- cells that a state reads
words_read : (st : State) (rank : ℕ) (xs : List Cell) → All (λ (y : Cell). (st.tiles rank y.slot ≡ Some y.tile) × (st.saved rank y.slot ≡ y.saved)) xs → words_of_cells xs ≡ words_in st rank (map (λ (y : Cell). y.slot) xs)
words_read st rank [] h = refl
words_read st rank (x ∷ xs) h =
    let here = All-head (λ (y : Cell). (st.tiles rank y.slot ≡ Some y.tile) × (st.saved rank y.slot ≡ y.saved)) x xs h in
    let rest = words_read st rank xs (All-tail (λ (y : Cell). (st.tiles rank y.slot ≡ Some y.tile) × (st.saved rank y.slot ≡ y.saved)) x xs h) in
    λ i. (size_of (sym here.0 i) + size_of (sym here.1 i)) + rest i

-- the words of a rank's cells are those of their slots
pub words_held : (st : State) (rank : ℕ) (xs : List Cell) → AreOrdered xs → ((slot : Slot) → tiles_in xs slot ≡ st.tiles rank slot) → ((slot : Slot) → saved_in xs slot ≡ st.saved rank slot) → words_of_cells xs ≡ words_in st rank (map (λ (y : Cell). y.slot) xs)
words_held st rank xs o tiles saved =
    words_read st rank xs
    (λ i d lt. let y = get_or xs i d in let own = each_own xs o i d lt in (sym (tiles y.slot) ∙ ap tile_of own, sym (saved y.slot) ∙ ap saved_of own))

-- their slots are all different
new_slot : (x : Slot) (xs : List Cell) → All (λ (y : Cell). is_before x y.slot ≡ true) xs → is_new (map (λ (y : Cell). y.slot) xs) x ≡ true
new_slot x [] h = refl
new_slot x (y ∷ ys) h =
    let other = other_turned x y.slot (before_other x y.slot (All-head (λ (z : Cell). is_before x z.slot ≡ true) y ys h)) in
    let rest = new_slot x ys (All-tail (λ (z : Cell). is_before x z.slot ≡ true) y ys h) in
    λ i. not (other i) && rest i

pub slots_distinct : (xs : List Cell) → AreOrdered xs → are_distinct (map (λ (y : Cell). y.slot) xs) ≡ true
slots_distinct [] o = refl
slots_distinct (x ∷ xs) o = λ i. new_slot x.slot xs o.0 i && slots_distinct xs o.1 i

-- every slot that is held is among them
among_slots : (xs : List Cell) (slot : Slot) → is_some (cell_in xs slot) ≡ true → is_new (map (λ (y : Cell). y.slot) xs) slot ≡ false
among_slots [] slot h = absurd (true≢false (sym h))
among_slots (x ∷ xs) slot h =
    ⊎_elim
    (λ (e : same_slot slot x.slot ≡ true). let turned : same_slot x.slot slot ≡ true = ap (λ q. same_slot x.slot q) (same_slot-true slot x.slot e) ∙ same_slot-refl x.slot in rw turned refl)
    (λ (e : same_slot slot x.slot ≡ false). ap (λ b. not (same_slot x.slot slot) && b) (among_slots xs slot (sym (ap is_some (past_first x xs slot e)) ∙ h)) ∙ and_false (not (same_slot x.slot slot)))
    (cases_Bool (same_slot slot x.slot))
  where
    and_false : (b : Bool) → (b && false) ≡ false
    and_false true = refl
    and_false false = refl

-- by a state that reads them
pub slots_held : (st : State) (rank : ℕ) (xs : List Cell) → ((slot : Slot) → tiles_in xs slot ≡ st.tiles rank slot) → (slot : Slot) → is_some (st.tiles rank slot) ≡ true → is_new (map (λ (y : Cell). y.slot) xs) slot ≡ false
slots_held st rank xs tiles slot h = among_slots xs slot (is_there xs slot (ap is_some (tiles slot) ∙ h))
