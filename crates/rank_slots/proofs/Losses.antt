-- Memories and links stand for the state after a loss, a restore and a spawn.
use Rattle.std.proofs.Common.{◌≡◌, ◌+◌, ◌*◌, ◌<◌, ◌==◌, ◌&&◌, ◌||◌, ℕ, zero, suc, Bool, true, false, Option, Some, None, IfSome, List, [], ◌∷◌, length, map, slice_get, refl, sym, ap, subst, ◌∙◌, ⊎_elim, All}
use Rattle.std.specs.Prelude.{if◌then◌else◌}
use Rattle.std.specs.Option.{option_map}
use Rattle.std.proofs.lemmas.Bool.{cases_Bool}
use Rattle.std.proofs.lemmas.List.{length-map, length-replicate}
use Rattle.std.proofs.lemmas.List.Elements.{All-nil, All-head, All-tail, All-map, All-replicate, All-weaker}
use Rattle.std.proofs.lemmas.Option.{slice_get-map}
use Rattle.rank_link.specs.Traffic.{Traffic, messages, empty_traffic}
use Rattle.rank_run.specs.Machine.{Machine, machine}
use Rattle.rank_run.specs.Rounds.{on_rank}
use Rattle.rank_run.proofs.Ranks.{length-on_rank}
use Rattle.rank_machine.specs.declared.slot.Slot.{Slot}
use Rattle.rank_machine.specs.declared.slot.Tile.{Tile}
use Rattle.rank_machine.specs.declared.record.Rec.TheVariants as r
use Rattle.rank_machine.specs.Setting.{Setting, ranks}
use Rattle.rank_machine.specs.State.{State, or_else, base}
use Rattle.rank_machine.specs.Effect.{after}
use Rattle.script_lines.specs.declared.lines.Line.{Line}
use Rattle.rank_slots.specs.Cells.{AreOrdered, IsTileOf, IsCellOf, AreCellsOf}
use Rattle.rank_slots.specs.Rank.{Rank}
use Rattle.rank_slots.specs.Lost.{lost_rank, restored, spawned, LostAreBare}
use Rattle.rank_slots.specs.Stands.{Stands, AreResidues}
use Rattle.rank_slots.proofs.ListOrder.{alike_at}
use Rattle.rank_slots.proofs.Steps.{live_there, tiles_there, saved_there, fresh_there, live_at-get, tiles_at-get, saved_at-get, fresh_at-get, on_rank-keeps, on_rank-turns, KeepsPlace, numbered_there, numbered-on_rank}
use Rattle.rank_slots.proofs.Undone.{tiles_in-undone, saved_in-undone, fresh_in-undone, cells_undone}
use Rattle.rank_slots.proofs.Worlds.{All-on_rank}

and_true : (b : Bool) → (b && true) ≡ b
and_true true = refl
and_true false = refl

module _ {X Y : Type 0} where
  -- what a change makes of one rank, the list has at that rank
  turned : (g : Option X → Y) (xs : List X) (r a : ℕ) (f : X → X) (y : Y) → g (option_map f (slice_get xs r)) ≡ y → g (slice_get (on_rank xs r f) a) ≡ (if a == r then y else g (slice_get xs a))
  turned g xs r a f y h = on_rank-turns g xs r a f true y h ∙ ap (λ (b : Bool). if b then y else g (slice_get xs a)) (and_true (a == r))

module _ {X : Type 0} where
  -- what each has, the one at a place has
  got : (P : X → Type 0) (xs : List X) (a : ℕ) → All P xs → IfSome (slice_get xs a) P
  got P [] a h = tt
  got P (x ∷ xs) zero h = All-head P x xs h
  got P (x ∷ xs) (suc a) h = got P xs a (All-tail P x xs h)

-- ---- Lose
place_lost : (o : Option Rank) → IfSome o (KeepsPlace lost_rank)
place_lost None = tt
place_lost (Some m) = (refl, refl)

live_lost : (o : Option Rank) → live_there (option_map lost_rank o) ≡ false
live_lost None = refl
live_lost (Some m) = refl

tiles_lost : (q : Slot) (o : Option Rank) → tiles_there q (option_map lost_rank o) ≡ None
tiles_lost q None = refl
tiles_lost q (Some m) = refl

saved_lost : (q : Slot) (o : Option Rank) → saved_there q (option_map lost_rank o) ≡ None
saved_lost q None = refl
saved_lost q (Some m) = refl

fresh_lost : (q : Slot) (o : Option Rank) → fresh_there q (option_map lost_rank o) ≡ false
fresh_lost q None = refl
fresh_lost q (Some m) = refl

either : {X : Type 0} (b : Bool) (x : X) → (if b then x else x) ≡ x
either true x = refl
either false x = refl

-- the links after a loss: those from and to the rank are empty
pub record AreCut (n rank : ℕ) (l l' : Traffic Tile) : Type 0 where
  pub sides : l'.ranks ≡ l.ranks
  pub pairs : length l'.lists ≡ length l.lists
  pub capacity : l'.capacity ≡ l.capacity
  pub messages_are : (a b : ℕ) → a < n → b < n → messages l' a b ≡ (if (a == rank) || (b == rank) then [] else messages l a b)
  pub keeps : (p : ℕ) → All (λ ts. All (IsTileOf p) ts) l.lists → All (λ ts. All (IsTileOf p) ts) l'.lists

pub stands-lost : (s : Setting) (table : List Line) (x : Machine Rank Tile) (st : State) (rank : ℕ) (l : Traffic Tile) → AreCut (ranks s) rank x.links l → Stands s table x st → Stands s table (machine (on_rank x.mems rank lost_rank) l) (after s st (r.Lose rank))
stands-lost s table x st rank l cut h =
    let ms = x.mems in
    record {
      count = length-on_rank ms rank lost_rank ∙ h.count;
      sides = cut.sides ∙ h.sides;
      pairs = cut.pairs ∙ h.pairs;
      capacity = cut.capacity ∙ h.capacity;
      numbered = numbered-on_rank table ms rank lost_rank (place_lost (slice_get ms rank)) h.numbered;
      live = λ a.
          live_at-get (on_rank ms rank lost_rank) a ∙ turned live_there ms rank a lost_rank false (live_lost (slice_get ms rank))
          ∙ ap (λ (o : Bool). if a == rank then false else o) (sym (live_at-get ms a) ∙ h.live a);
      tiles = λ a q.
          tiles_at-get (on_rank ms rank lost_rank) a q ∙ turned (tiles_there q) ms rank a lost_rank None (tiles_lost q (slice_get ms rank))
          ∙ ap (λ (o : Option Tile). if a == rank then None else o) (sym (tiles_at-get ms a q) ∙ h.tiles a q);
      saved = λ a q.
          saved_at-get (on_rank ms rank lost_rank) a q ∙ turned (saved_there q) ms rank a lost_rank None (saved_lost q (slice_get ms rank))
          ∙ ap (λ (o : Option Tile). if a == rank then None else o) (sym (saved_at-get ms a q) ∙ h.saved a q);
      fresh = λ a q.
          fresh_at-get (on_rank ms rank lost_rank) a q ∙ turned (fresh_there q) ms rank a lost_rank false (fresh_lost q (slice_get ms rank))
          ∙ ap (λ (o : Bool). if a == rank then false else o) (sym (fresh_at-get ms a q) ∙ h.fresh a q);
      links = λ a b u v. cut.messages_are a b u v ∙ ap (λ (ts : List Tile). if (a == rank) || (b == rank) then [] else ts) (h.links a b u v);
      no_links = λ a b e. ap (λ (ts : List Tile). if (a == rank) || (b == rank) then [] else ts) (h.no_links a b e) ∙ either ((a == rank) || (b == rank)) [];
    }

pub residues-lost : (p n : ℕ) (x : Machine Rank Tile) (rank : ℕ) (l : Traffic Tile) → AreCut n rank x.links l → AreResidues p x → AreResidues p (machine (on_rank x.mems rank lost_rank) l)
residues-lost p n x rank l cut h = record {
  mems = All-on_rank (λ m. AreCellsOf p m.cells) x.mems rank lost_rank (λ m _. All-nil (IsCellOf p)) h.mems;
  links = cut.keeps p h.links;
}

-- ---- Restore
-- a rank that may be there, by what it falls back to
tiles_back : (q : Slot) (o : Option Rank) → IfSome o (λ m. AreOrdered m.cells) → tiles_there q (option_map restored o) ≡ or_else (saved_there q o) (if fresh_there q o then None else tiles_there q o)
tiles_back q None h = refl
tiles_back q (Some m) h = tiles_in-undone m.cells q h

saved_back : (q : Slot) (o : Option Rank) → IfSome o (λ m. AreOrdered m.cells) → saved_there q (option_map restored o) ≡ None
saved_back q None h = refl
saved_back q (Some m) h = saved_in-undone m.cells q h

fresh_back : (q : Slot) (o : Option Rank) → IfSome o (λ m. AreOrdered m.cells) → fresh_there q (option_map restored o) ≡ false
fresh_back q None h = refl
fresh_back q (Some m) h = fresh_in-undone m.cells q h

live_back : (o : Option Rank) → live_there (option_map restored o) ≡ live_there o
live_back None = refl
live_back (Some m) = refl

place_back : (o : Option Rank) → IfSome o (KeepsPlace restored)
place_back None = tt
place_back (Some m) = (refl, refl)

-- what a rank falls back to where it is not live is what it holds: nothing
base_of_lost : (st : State) (a : ℕ) (q : Slot) → LostAreBare st → base st a q ≡ (if st.live a then base st a q else st.tiles a q)
base_of_lost st a q bare =
    ⊎_elim
    (λ (e : st.live a ≡ true). rw e refl)
    (λ (e : st.live a ≡ false). let b = bare a q e in (λ i. or_else (b.saved i) (if b.fresh i then None else st.tiles a q)) ∙ sym (ap (λ (l : Bool). if l then base st a q else st.tiles a q) e))
    (cases_Bool (st.live a))

pub stands-restored : (s : Setting) (table : List Line) (x : Machine Rank Tile) (st : State) → LostAreBare st → All (λ (m : Rank). AreOrdered m.cells) x.mems → Stands s table x st
    → Stands s table (machine (map restored x.mems) (empty_traffic x.links.ranks x.links.capacity)) (after s st r.Restore)
stands-restored s table x st bare ordered h =
    let ms = x.mems in
    let own = λ (a : ℕ). got (λ (m : Rank). AreOrdered m.cells) ms a ordered in
    record {
      count = length-map ms restored ∙ h.count;
      sides = h.sides;
      pairs = length-replicate (x.links.ranks * x.links.ranks) [] ∙ (λ i. h.sides i * h.sides i);
      capacity = h.capacity;
      numbered = λ a. subst (λ o. IfSome o (λ m. (m.table ≡ table) × (m.number ≡ a))) (sym (slice_get-map restored ms a)) (numbered_there table a restored (slice_get ms a) (place_back (slice_get ms a)) (h.numbered a));
      live = λ a. live_at-get (map restored ms) a ∙ ap live_there (slice_get-map restored ms a) ∙ live_back (slice_get ms a) ∙ sym (live_at-get ms a) ∙ h.live a;
      tiles = λ a q.
          let saved : saved_there q (slice_get ms a) ≡ st.saved a q = sym (saved_at-get ms a q) ∙ h.saved a q in
          let fresh : fresh_there q (slice_get ms a) ≡ st.fresh a q = sym (fresh_at-get ms a q) ∙ h.fresh a q in
          let tiles : tiles_there q (slice_get ms a) ≡ st.tiles a q = sym (tiles_at-get ms a q) ∙ h.tiles a q in
          tiles_at-get (map restored ms) a q ∙ ap (tiles_there q) (slice_get-map restored ms a) ∙ tiles_back q (slice_get ms a) (own a)
          ∙ (λ i. or_else (saved i) (if fresh i then None else tiles i))
          ∙ base_of_lost st a q bare;
      saved = λ a q. saved_at-get (map restored ms) a q ∙ ap (saved_there q) (slice_get-map restored ms a) ∙ saved_back q (slice_get ms a) (own a);
      fresh = λ a q. fresh_at-get (map restored ms) a q ∙ ap (fresh_there q) (slice_get-map restored ms a) ∙ fresh_back q (slice_get ms a) (own a);
      links = λ a b u v. alike_at (x.links.ranks * x.links.ranks) (a * x.links.ranks + b) [];
      no_links = λ a b e. refl;
    }

pub residues-restored : (p : ℕ) (x : Machine Rank Tile) → AreResidues p x → AreResidues p (machine (map restored x.mems) (empty_traffic x.links.ranks x.links.capacity))
residues-restored p x h =
    let P : Rank → Type 0 = λ m. AreCellsOf p m.cells in
    record {
      mems = All-map P restored x.mems (All-weaker P (λ m. P (restored m)) (λ m. cells_undone p m.cells) x.mems h.mems);
      links = All-replicate (λ ts. All (IsTileOf p) ts) (x.links.ranks * x.links.ranks) [] (All-nil (IsTileOf p));
    }

-- ---- Spawn
place_spawned : (o : Option Rank) → IfSome o (KeepsPlace spawned)
place_spawned None = tt
place_spawned (Some m) = (refl, refl)

tiles_spawned : (q : Slot) (o : Option Rank) → tiles_there q (option_map spawned o) ≡ tiles_there q o
tiles_spawned q None = refl
tiles_spawned q (Some m) = refl

saved_spawned : (q : Slot) (o : Option Rank) → saved_there q (option_map spawned o) ≡ saved_there q o
saved_spawned q None = refl
saved_spawned q (Some m) = refl

fresh_spawned : (q : Slot) (o : Option Rank) → fresh_there q (option_map spawned o) ≡ fresh_there q o
fresh_spawned q None = refl
fresh_spawned q (Some m) = refl

pub stands-spawned : (s : Setting) (table : List Line) (x : Machine Rank Tile) (st : State) (rank : ℕ) (m : Rank) → slice_get x.mems rank ≡ Some m → Stands s table x st
    → Stands s table (machine (on_rank x.mems rank spawned) x.links) (after s st (r.Spawn rank))
stands-spawned s table x st rank m is h =
    let ms = x.mems in
    record {
      count = length-on_rank ms rank spawned ∙ h.count;
      sides = h.sides;
      pairs = h.pairs;
      capacity = h.capacity;
      numbered = numbered-on_rank table ms rank spawned (place_spawned (slice_get ms rank)) h.numbered;
      live = λ a.
          live_at-get (on_rank ms rank spawned) a ∙ turned live_there ms rank a spawned true (ap (λ o. live_there (option_map spawned o)) is)
          ∙ ap (λ (o : Bool). if a == rank then true else o) (sym (live_at-get ms a) ∙ h.live a);
      tiles = λ a q. tiles_at-get (on_rank ms rank spawned) a q ∙ on_rank-keeps (tiles_there q) ms rank a spawned (tiles_spawned q (slice_get ms rank)) ∙ sym (tiles_at-get ms a q) ∙ h.tiles a q;
      saved = λ a q. saved_at-get (on_rank ms rank spawned) a q ∙ on_rank-keeps (saved_there q) ms rank a spawned (saved_spawned q (slice_get ms rank)) ∙ sym (saved_at-get ms a q) ∙ h.saved a q;
      fresh = λ a q. fresh_at-get (on_rank ms rank spawned) a q ∙ on_rank-keeps (fresh_there q) ms rank a spawned (fresh_spawned q (slice_get ms rank)) ∙ sym (fresh_at-get ms a q) ∙ h.fresh a q;
      links = h.links;
      no_links = h.no_links;
    }

pub residues-spawned : (p : ℕ) (x : Machine Rank Tile) (rank : ℕ) → AreResidues p x → AreResidues p (machine (on_rank x.mems rank spawned) x.links)
residues-spawned p x rank h = record { mems = All-on_rank (λ m. AreCellsOf p m.cells) x.mems rank spawned (λ m c. c) h.mems; links = h.links }
