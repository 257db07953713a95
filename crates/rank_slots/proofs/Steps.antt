-- A step of a round keeps that memories and links stand for the replay of its record.
use Rattle.std.proofs.Common.{◌≡◌, ◌<◌, ◌==◌, ◌&&◌, ◌||◌, ◌++◌, ℕ, zero, suc, Bool, true, false, not, cond, min, nat_lt, nat_le, Option, Some, None, is_some, IfSome, List, [], ◌∷◌, drop, map, slice_get, refl, sym, ap, subst, ◌∙◌, ⊎_elim, inl, inr, All}
use Rattle.std.specs.Prelude.{if◌then◌else◌, ◌+◌, ◌*◌, ◌-◌, ◌/◌, ◌%◌}
use Rattle.std.specs.Option.{option_map, IsSomeAnd}
use Rattle.std.proofs.lemmas.Bool.{cases_Bool, true≢false, and_from, and_parts, lt-ltb, ltb-true}
use Rattle.std.proofs.lemmas.Bool.Decides.{eqb_tells}
use Rattle.std.proofs.lemmas.List.Elements.{All-head, All-tail}
use Rattle.std.proofs.lemmas.List.{length-set}
use Rattle.run_data.specs.Matrix.{entry}
use Rattle.local_blas.specs.Kernels.{with_scaled, with_added, with_product, with_solved_lower, with_solved_upper, with_eliminated}
use Rattle.array_desc.specs.Maps.{owner, local}
use Rattle.blacs_grid.specs.Places.{row_of, col_of}
use Rattle.rank_link.specs.Traffic.{Traffic, messages, with_messages}
use Rattle.rank_run.specs.declared.round.Event.{Event}
use Rattle.rank_run.specs.declared.round.Event.TheVariants.{Local, Move}
use Rattle.rank_run.specs.Action.{Action, Works, Sends, Receives}
use Rattle.rank_run.specs.Machine.{Machine, machine, after_send, after_step, after_steps, MayStep, MaySteps}
use Rattle.rank_run.specs.Rounds.{on_rank, written_in, read_out}
use Rattle.rank_run.proofs.Ranks.{get-on_rank_same, get-on_rank_other, length-on_rank, pair_tells, some_of}
use Rattle.rank_run.proofs.OnLinks.{IsAmong, messages-with_same, messages-with_other}
use Rattle.rank_machine.specs.declared.slot.SlotKind.TheVariants.{Data}
use Rattle.rank_machine.specs.declared.slot.Slot.{Slot}
use Rattle.rank_machine.specs.declared.slot.Tile.{Tile}
use Rattle.rank_machine.specs.declared.slot.Tile.TheVariants.{Words, Index}
use Rattle.rank_machine.specs.declared.slot.Piece.{Piece}
use Rattle.rank_machine.specs.declared.kernel.Cut.{Cut}
use Rattle.rank_machine.specs.declared.kernel.Cut.TheVariants as cut
use Rattle.rank_machine.specs.declared.kernel.Kernel.{Kernel}
use Rattle.rank_machine.specs.declared.kernel.Kernel.TheVariants as k
use Rattle.rank_machine.specs.declared.layout.Layout.{Layout}
use Rattle.rank_machine.specs.Setting.{Setting, ranks, layout, global_row, global_col}
use Rattle.rank_machine.specs.State.{same_slot, State, at_link}
use Rattle.rank_machine.specs.Effect.{words_of, slot_of, matrix_in, area_in, cut_out, piece_in, with_piece, target, reaches, least_of, number_if, diagonal, made_by, with_tile, first_message, after, replay}
use Rattle.script_lines.specs.declared.lines.Line.{Line}
use Rattle.script_lines.specs.Lines.{setting_on}
use Rattle.rank_slots.specs.Cells.{tiles_in, saved_in, fresh_in}
use Rattle.rank_slots.specs.Rank.{Rank, memory, with_tile as with_tile_on}
use Rattle.rank_slots.specs.Stands.{rec_of, records_of, live_at, tiles_at, saved_at, fresh_at, AgreesOn, IsStepWithin, AreNumbered, Stands}
use Rattle.rank_slots.proofs.CellLaws.{tiles_in-put, saved_in-put, fresh_in-put}

-- ---- what the ranks of a list hold, by the rank that may be there
abbrev pub live_there : Option Rank → Bool
live_there None = false
live_there (Some m) = m.live

abbrev pub tiles_there : Slot → Option Rank → Option Tile
tiles_there slot None = None
tiles_there slot (Some m) = tiles_in m.cells slot

abbrev pub saved_there : Slot → Option Rank → Option Tile
saved_there slot None = None
saved_there slot (Some m) = saved_in m.cells slot

abbrev pub fresh_there : Slot → Option Rank → Bool
fresh_there slot None = false
fresh_there slot (Some m) = fresh_in m.cells slot

-- each lookup is that of the rank
pub live_at-get : (ms : List Rank) (a : ℕ) → live_at ms a ≡ live_there (slice_get ms a)
live_at-get [] a = refl
live_at-get (m ∷ ms) zero = refl
live_at-get (m ∷ ms) (suc a) = live_at-get ms a

pub tiles_at-get : (ms : List Rank) (a : ℕ) (slot : Slot) → tiles_at ms a slot ≡ tiles_there slot (slice_get ms a)
tiles_at-get [] a slot = refl
tiles_at-get (m ∷ ms) zero slot = refl
tiles_at-get (m ∷ ms) (suc a) slot = tiles_at-get ms a slot

pub saved_at-get : (ms : List Rank) (a : ℕ) (slot : Slot) → saved_at ms a slot ≡ saved_there slot (slice_get ms a)
saved_at-get [] a slot = refl
saved_at-get (m ∷ ms) zero slot = refl
saved_at-get (m ∷ ms) (suc a) slot = saved_at-get ms a slot

pub fresh_at-get : (ms : List Rank) (a : ℕ) (slot : Slot) → fresh_at ms a slot ≡ fresh_there slot (slice_get ms a)
fresh_at-get [] a slot = refl
fresh_at-get (m ∷ ms) zero slot = refl
fresh_at-get (m ∷ ms) (suc a) slot = fresh_at-get ms a slot

-- ---- what is read at a rank after the value of one rank changed
module _ {X Y : Type 0} where
  -- what the change keeps, every rank has as before
  pub on_rank-keeps : (g : Option X → Y) (xs : List X) (r a : ℕ) (f : X → X) → g (option_map f (slice_get xs r)) ≡ g (slice_get xs r) → g (slice_get (on_rank xs r f) a) ≡ g (slice_get xs a)
  on_rank-keeps g xs r a f h =
      elim (eqb_tells a r) [
        | inl p ↦ ap (λ n. g (slice_get (on_rank xs r f) n)) p.1 ∙ ap g (get-on_rank_same xs r f) ∙ h ∙ ap (λ n. g (slice_get xs n)) (sym p.1)
        | inr p ↦ ap g (get-on_rank_other xs r a f p.1)
      ]

  -- what it turns where a test holds, the list has at its rank where the test holds
  pub on_rank-turns : (g : Option X → Y) (xs : List X) (r a : ℕ) (f : X → X) (b : Bool) (y : Y) → g (option_map f (slice_get xs r)) ≡ cond b y (g (slice_get xs r)) → g (slice_get (on_rank xs r f) a) ≡ (if (a == r) && b then y else g (slice_get xs a))
  on_rank-turns g xs r a f b y h =
      elim (eqb_tells a r) [
        | inl p ↦
            ap (λ n. g (slice_get (on_rank xs r f) n)) p.1 ∙ ap g (get-on_rank_same xs r f) ∙ h
            ∙ ap (λ n. cond b y (g (slice_get xs n))) (sym p.1)
            ∙ ap (λ (t : Bool). if t && b then y else g (slice_get xs a)) (sym p.0)
        | inr p ↦ ap g (get-on_rank_other xs r a f p.1) ∙ ap (λ (t : Bool). if t && b then y else g (slice_get xs a)) (sym p.0)
      ]

  -- the same of a value that is there
  on_rank-same : (g : Option X → Y) (xs : List X) (r a : ℕ) (f : X → X) (x : X) → slice_get xs r ≡ Some x → g (Some (f x)) ≡ g (Some x) → g (slice_get (on_rank xs r f) a) ≡ g (slice_get xs a)
  on_rank-same g xs r a f x is h = on_rank-keeps g xs r a f (subst (λ o. g (option_map f o) ≡ g o) (sym is) h)

  on_rank-put : (g : Option X → Y) (xs : List X) (r a : ℕ) (f : X → X) (x : X) (b : Bool) (y : Y) → slice_get xs r ≡ Some x → g (Some (f x)) ≡ cond b y (g (Some x)) → g (slice_get (on_rank xs r f) a) ≡ (if (a == r) && b then y else g (slice_get xs a))
  on_rank-put g xs r a f x b y is h = on_rank-turns g xs r a f b y (subst (λ o. g (option_map f o) ≡ cond b y (g o)) (sym is) h)

-- a change that keeps where the matrices lie, and the number
abbrev pub KeepsPlace : (Rank → Rank) → Rank → Type 0
KeepsPlace f m = ((f m).table ≡ m.table) × ((f m).number ≡ m.number)

pub numbered_there : (table : List Line) (rank : ℕ) (f : Rank → Rank) (o : Option Rank) → IfSome o (KeepsPlace f) → IfSome o (λ m. (m.table ≡ table) × (m.number ≡ rank)) → IfSome (option_map f o) (λ m. (m.table ≡ table) × (m.number ≡ rank))
numbered_there table rank f None same h = tt
numbered_there table rank f (Some m) same h = (same.0 ∙ h.0, same.1 ∙ h.1)

pub numbered-on_rank : (table : List Line) (ms : List Rank) (r : ℕ) (f : Rank → Rank) → IfSome (slice_get ms r) (KeepsPlace f) → AreNumbered table ms → AreNumbered table (on_rank ms r f)
numbered-on_rank table ms r f same h a =
    elim (eqb_tells a r) [
      | inl p ↦
          subst (λ n. IfSome (slice_get (on_rank ms r f) n) (λ m. (m.table ≡ table) × (m.number ≡ n))) (sym p.1)
          (subst (λ o. IfSome o (λ m. (m.table ≡ table) × (m.number ≡ r))) (sym (get-on_rank_same ms r f)) (numbered_there table r f (slice_get ms r) same (h r)))
      | inr p ↦ subst (λ o. IfSome o (λ m. (m.table ≡ table) × (m.number ≡ a))) (sym (get-on_rank_other ms r a f p.1)) (h a)
    ]

-- ---- one rank
-- a rank holds what a state says of its number
pub record StandsAt (lines : List Line) (st : State) (rank : ℕ) (m : Rank) : Type 0 where
  pub table : m.table ≡ lines
  pub number : m.number ≡ rank
  pub live : m.live ≡ st.live rank
  pub tiles : (slot : Slot) → tiles_in m.cells slot ≡ st.tiles rank slot
  pub saved : (slot : Slot) → saved_in m.cells slot ≡ st.saved rank slot
  pub fresh : (slot : Slot) → fresh_in m.cells slot ≡ st.fresh rank slot

pub stands_at : (s : Setting) (table : List Line) (x : Machine Rank Tile) (st : State) (rank : ℕ) (m : Rank) → Stands s table x st → slice_get x.mems rank ≡ Some m → StandsAt table st rank m
stands_at s table x st rank m h e =
    let n : (m.table ≡ table) × (m.number ≡ rank) = subst (λ o. IfSome o (λ y. (y.table ≡ table) × (y.number ≡ rank))) e (h.numbered rank) in
    record {
      table = n.0;
      number = n.1;
      live = ap live_there (sym e) ∙ sym (live_at-get x.mems rank) ∙ h.live rank;
      tiles = λ slot. ap (tiles_there slot) (sym e) ∙ sym (tiles_at-get x.mems rank slot) ∙ h.tiles rank slot;
      saved = λ slot. ap (saved_there slot) (sym e) ∙ sym (saved_at-get x.mems rank slot) ∙ h.saved rank slot;
      fresh = λ slot. ap (fresh_there slot) (sym e) ∙ sym (fresh_at-get x.mems rank slot) ∙ h.fresh rank slot;
    }

-- ---- what a kernel makes, by a table of the same matrices
-- the entries that a cut reaches, by a layout
abbrev reaches_on : Layout → ℕ → Cut → ℕ → ℕ → Bool
reaches_on d rank cut.Whole i j = true
reaches_on d rank (cut.Upper block) i j = nat_le (global_row d rank i) (global_col d block j)
reaches_on d rank (cut.Lower block) i j = nat_lt (global_col d block j) (global_row d rank i)

-- they are what the machine reads
reaches-on : (s : Setting) (rank : ℕ) (slot : Slot) (c : Cut) (i j : ℕ) → reaches s rank slot c i j ≡ reaches_on (layout s slot.id) rank c i j
reaches-on s rank slot cut.Whole i j = refl
reaches-on s rank slot (cut.Upper block) i j = refl
reaches-on s rank slot (cut.Lower block) i j = refl

reaches-agrees : (s : Setting) (p : ℕ) (table : List Line) (rank : ℕ) (slot : Slot) (c : Cut) (i j : ℕ) → AgreesOn s p table → reaches (setting_on p table) rank slot c i j ≡ reaches s rank slot c i j
reaches-agrees s p table rank slot c i j h = reaches-on (setting_on p table) rank slot c i j ∙ ap (λ d. reaches_on d rank c i j) (h.layouts slot.id) ∙ sym (reaches-on s rank slot c i j)

-- whether a diagonal entry is a zero on a rank
abbrev zero_on : Layout → ℕ → (Slot → Option Tile) → ℕ → ℕ → Bool
zero_on d rank mem line i =
    let m = words_of (mem (record { kind = Data; id = line; group = (i / d.desc.nb) / d.grid.q })) in
    ((owner i d.desc.mb d.desc.rsrc d.grid.p == row_of d.grid rank) && (owner i d.desc.nb d.desc.csrc d.grid.q == col_of d.grid rank)) && (entry m (local i d.desc.mb d.grid.p) (i % d.desc.nb) == 0)

-- the first row of a column of a piece that has a word
abbrev first_on : Layout → ℕ → (Slot → Option Tile) → Piece → ℕ → ℕ → ℕ
first_on d rank mem x j above =
    let m = matrix_in mem x in
    let at = area_in mem x in
    least_of (at.r1 - at.r0) (λ i. let row = global_row d rank (at.r0 + i) + 1 in number_if (not (entry m (at.r0 + i) (at.c0 + j) == 0) && nat_lt above row) row)

-- a setting's kernel makes what it makes by the table
pub made-agrees : (s : Setting) (p : ℕ) (table : List Line) (rank : ℕ) (mem : Slot → Option Tile) (x : Kernel) → AgreesOn s p table → made_by (setting_on p table) rank mem x ≡ made_by s rank mem x
made-agrees s p table rank mem (k.Zero to rows columns) h = refl
made-agrees s p table rank mem (k.Copy to from) h = refl
made-agrees s p table rank mem (k.Scale to a) h = ap (λ q. Words (with_scaled q (matrix_in mem to) (area_in mem to) a)) (sym h.modulus)
made-agrees s p table rank mem (k.Add to a from cut) h =
    let e = sym h.modulus in
    λ n. Words (with_added (e n) (matrix_in mem to) (area_in mem to) a (matrix_in mem from) (area_in mem from) (λ i j. reaches-agrees s p table rank (slot_of to) cut i j h n))
made-agrees s p table rank mem (k.MulAdd to a left right) h = ap (λ q. Words (with_product q (matrix_in mem to) (area_in mem to) a (matrix_in mem left) (area_in mem left) (matrix_in mem right) (area_in mem right))) (sym h.modulus)
made-agrees s p table rank mem (k.Lower to block unit) h =
    let e = sym h.modulus in
    let f = sym h.inverses in
    λ n. Words (with_solved_lower (e n) (f n) (matrix_in mem to) (area_in mem to) (matrix_in mem block) (area_in mem block) unit)
made-agrees s p table rank mem (k.Upper to block unit) h =
    let e = sym h.modulus in
    let f = sym h.inverses in
    λ n. Words (with_solved_upper (e n) (f n) (matrix_in mem to) (area_in mem to) (matrix_in mem block) (area_in mem block) unit)
made-agrees s p table rank mem (k.Swap to i j) h = refl
made-agrees s p table rank mem (k.First to from j above) h = ap (λ d. Index (first_on d rank mem from j above ∷ [])) (h.layouts (slot_of from).id)
made-agrees s p table rank mem (k.Diag to from c) h =
    ap (λ d. Index (least_of (min c (diagonal d)) (λ i. number_if (zero_on d rank mem (slot_of from).id i) (i + 1)) ∷ [])) (h.layouts (slot_of from).id)
made-agrees s p table rank mem (k.Least to from) h = refl
made-agrees s p table rank mem (k.Elim to j above row) h =
    let e = sym h.modulus in
    let f = sym h.inverses in
    let l = h.layouts to.id in
    λ n. Words (with_eliminated (e n) (f n) (words_of (mem to)) (λ i. nat_lt above (global_row (l n) rank i)) j (matrix_in mem row) (area_in mem row))
made-agrees s p table rank mem (k.Push to from above) h = refl
made-agrees s p table rank mem (k.Trans to from) h = refl

-- a kernel reads what is held slot by slot
pub made-same : (s : Setting) (rank : ℕ) (f g : Slot → Option Tile) (x : Kernel) → ((slot : Slot) → f slot ≡ g slot) → made_by s rank f x ≡ made_by s rank g x
made-same s rank f g x h = ap (λ mem. made_by s rank mem x) (λ n slot. h slot n)

-- ---- a rank gets a tile
-- a tile more, and it is as live as before
put_live : (m : Rank) (slot : Slot) (t : Tile) (y : Rank) → y ≡ with_tile_on m slot t → y.live ≡ m.live
put_live m slot t y e = ap (λ (z : Rank). z.live) e

-- the state's rank gets the tile too
pub stands-put : (s : Setting) (table : List Line) (x : Machine Rank Tile) (st : State) (r : ℕ) (f : Rank → Rank) (m : Rank) (slot : Slot) (t : Tile)
    → slice_get x.mems r ≡ Some m → f m ≡ with_tile_on m slot t → Stands s table x st → Stands s table (machine (on_rank x.mems r f) x.links) (with_tile st r slot t)
stands-put s table x st r f m slot t is e h =
    let own = stands_at s table x st r m h is in
    let held = own.tiles slot in
    let was_fresh = own.fresh slot in
    record {
      count = length-on_rank x.mems r f ∙ h.count;
      sides = h.sides;
      pairs = h.pairs;
      capacity = h.capacity;
      numbered = numbered-on_rank table x.mems r f (subst (λ o. IfSome o (KeepsPlace f)) (sym is) (ap (λ (z : Rank). z.table) e, ap (λ (z : Rank). z.number) e)) h.numbered;
      live = λ a. live_at-get (on_rank x.mems r f) a ∙ on_rank-same live_there x.mems r a f m is (put_live m slot t (f m) e) ∙ sym (live_at-get x.mems a) ∙ h.live a;
      tiles = λ a q.
          tiles_at-get (on_rank x.mems r f) a q
          ∙ on_rank-put (tiles_there q) x.mems r a f m (same_slot q slot) (Some t) is (ap (λ (y : Rank). tiles_in y.cells q) e ∙ tiles_in-put m.cells slot t q)
          ∙ ap (λ o. if (a == r) && same_slot q slot then Some t else o) (sym (tiles_at-get x.mems a q) ∙ h.tiles a q);
      saved = λ a q.
          saved_at-get (on_rank x.mems r f) a q
          ∙ on_rank-same (saved_there q) x.mems r a f m is (ap (λ (y : Rank). saved_in y.cells q) e ∙ saved_in-put m.cells slot t q)
          ∙ sym (saved_at-get x.mems a q) ∙ h.saved a q;
      fresh = λ a q.
          let now : Bool = fresh_in m.cells slot || not (is_some (tiles_in m.cells slot)) in
          fresh_at-get (on_rank x.mems r f) a q
          ∙ on_rank-put (fresh_there q) x.mems r a f m (same_slot q slot) now is (ap (λ (y : Rank). fresh_in y.cells q) e ∙ fresh_in-put m.cells slot t q)
          ∙ ap (λ o. if (a == r) && same_slot q slot then now else o) (sym (fresh_at-get x.mems a q) ∙ h.fresh a q)
          ∙ (λ n. if (a == r) && same_slot q slot then was_fresh n || not (is_some (held n)) else st.fresh a q);
      links = h.links;
      no_links = h.no_links;
    }

-- ---- a link gets other messages
-- two ranks that are there
there_are : (a b n : ℕ) → a < n → b < n → (nat_lt a n && nat_lt b n) ≡ true
there_are a b n p q = and_from (nat_lt a n) (nat_lt b n) (lt-ltb a n p) (lt-ltb b n q)

-- links of ranks that aren't there stay empty
no_links-put : (n : ℕ) (links : ℕ → ℕ → List Tile) (from to a b : ℕ) (ts : List Tile) → from < n → to < n → ((nat_lt a n && nat_lt b n) ≡ false → links a b ≡ []) → (nat_lt a n && nat_lt b n) ≡ false → at_link links from to ts a b ≡ []
no_links-put n links from to a b ts p q h e =
    elim (pair_tells a from b to) [
      | inl g ↦ absurd (true≢false (sym (there_are from to n p q) ∙ (λ i. nat_lt (sym g.1 i) n && nat_lt (sym g.2 i) n) ∙ e))
      | inr g ↦ ap (λ (v : Bool). if v then ts else links a b) g.0 ∙ h e
    ]

-- the messages of each pair
links-put : (n : ℕ) (l : Traffic Tile) (links : ℕ → ℕ → List Tile) (from to a b : ℕ) (ts us : List Tile) → IsAmong n l → ts ≡ us → from < n → to < n → b < n → messages l a b ≡ links a b → messages (with_messages l from to ts) a b ≡ at_link links from to us a b
links-put n l links from to a b ts us among e p q u h =
    elim (pair_tells a from b to) [
      | inl g ↦ (λ i. messages (with_messages l from to ts) (g.1 i) (g.2 i)) ∙ messages-with_same n l from to ts among p q ∙ e ∙ sym (ap (λ (v : Bool). if v then us else links a b) g.0)
      | inr g ↦ messages-with_other n l from to a b ts among q u g.1 ∙ h ∙ sym (ap (λ (v : Bool). if v then us else links a b) g.0)
    ]

-- the links are those among the ranks
pub links-among : (s : Setting) (table : List Line) (x : Machine Rank Tile) (st : State) → Stands s table x st → IsAmong (ranks s) x.links
links-among s table x st h = record { ranks = h.sides; pairs = h.pairs }

-- the state's link gets the messages too
pub stands-linked : (s : Setting) (table : List Line) (x : Machine Rank Tile) (st : State) (from to : ℕ) (ts us : List Tile)
    → ts ≡ us → from < ranks s → to < ranks s → Stands s table x st → Stands s table (machine x.mems (with_messages x.links from to ts)) (record st { links = at_link st.links from to us })
stands-linked s table x st from to ts us e p q h = record {
  count = h.count;
  sides = h.sides;
  pairs = length-set x.links.lists (from * x.links.ranks + to) ts ∙ h.pairs;
  capacity = h.capacity;
  numbered = h.numbered;
  live = h.live;
  tiles = h.tiles;
  saved = h.saved;
  fresh = h.fresh;
  links = λ a b u v. links-put (ranks s) x.links st.links from to a b ts us (links-among s table x st h) e p q v (h.links a b u v);
  no_links = λ a b. no_links-put (ranks s) st.links from to a b us p q (h.no_links a b);
}

-- ---- a step
-- an operation puts what the machine's kernel makes
worked : (s : Setting) (p : ℕ) (table : List Line) (x : Machine Rank Tile) (st : State) (r : ℕ) (m : Rank) (op : Kernel)
    → AgreesOn s p table → Stands s table x st → slice_get x.mems r ≡ Some m → (memory p).applied m op ≡ with_tile_on m (slot_of (target op)) (made_by s r (st.tiles r) op)
worked s p table x st r m op agrees h is =
    let own = stands_at s table x st r m h is in
    ap (λ t. with_tile_on m (slot_of (target op)) t)
    ((λ n. made_by (setting_on p (own.table n)) (own.number n) (tiles_in m.cells) op) ∙ made-agrees s p table r (tiles_in m.cells) op agrees ∙ made-same s r (tiles_in m.cells) (st.tiles r) op own.tiles)

-- a send puts what the machine's piece has last on its link
sent : (s : Setting) (p : ℕ) (table : List Line) (x : Machine Rank Tile) (st : State) (from to : ℕ) (m : Rank) (y : Piece)
    → Stands s table x st → from < ranks s → to < ranks s → slice_get x.mems from ≡ Some m
    → Stands s table (machine x.mems (after_send x.links from to (read_out (memory p) (slice_get x.mems from) y))) (after s st (rec_of (Sends from to y)))
sent s p table x st from to m y h u v is =
    subst (λ o. Stands s table (machine x.mems (after_send x.links from to (read_out (memory p) o y))) (after s st (rec_of (Sends from to y)))) (sym is)
    (stands-linked s table x st from to (messages x.links from to ++ piece_in (tiles_in m.cells) y ∷ []) (st.links from to ++ piece_in (st.tiles from) y ∷ [])
    (λ n. h.links from to u v n ++ cut_out y ((stands_at s table x st from m h is).tiles (slot_of y) n) ∷ []) u v h)

-- the message that is there is the first
first_is : (ts : List Tile) (t : Tile) → slice_get ts 0 ≡ Some t → first_message ts ≡ t
first_is [] t e = absurd (cc)
first_is (u ∷ ts) t e = cc

-- a receive takes the first message off its link and into a piece
received : (s : Setting) (p : ℕ) (table : List Line) (x : Machine Rank Tile) (st : State) (to from : ℕ) (t : Tile) (m : Rank) (y : Piece)
    → Stands s table x st → to < ranks s → from < ranks s → slice_get (messages x.links from to) 0 ≡ Some t → slice_get x.mems to ≡ Some m
    → Stands s table (machine (written_in (memory p) x.mems to y (slice_get (messages x.links from to) 0)) (with_messages x.links from to (drop 1 (messages x.links from to)))) (after s st (rec_of (Receives to from y)))
received s p table x st to from t m y h u v first is =
    let same = h.links from to v u in
    let next = stands-linked s table x st from to (drop 1 (messages x.links from to)) (drop 1 (st.links from to)) (ap (drop 1) same) v u h in
    let msg : t ≡ first_message (st.links from to) = sym (first_is (messages x.links from to) t first) ∙ ap first_message same in
    let new : Tile = with_piece (st.tiles to (slot_of y)) y (first_message (st.links from to)) in
    let put : (memory p).written m y t ≡ with_tile_on m (slot_of y) new = (λ n. with_tile_on m (slot_of y) (with_piece ((stands_at s table x st to m h is).tiles (slot_of y) n) y (msg n))) in
    subst (λ o. Stands s table (machine (written_in (memory p) x.mems to y o) (with_messages x.links from to (drop 1 (messages x.links from to)))) (after s st (rec_of (Receives to from y)))) (sym first)
    (stands-put s table (machine x.mems (with_messages x.links from to (drop 1 (messages x.links from to)))) (record st { links = at_link st.links from to (drop 1 (st.links from to)) }) to (λ z. (memory p).written z y t) m (slot_of y) new is put next)

-- after a step they stand for the state after its record
pub step : (s : Setting) (p : ℕ) (table : List Line) (x : Machine Rank Tile) (st : State) (t : Action Kernel Piece)
    → AgreesOn s p table → Stands s table x st → IsStepWithin (ranks s) t → MayStep (memory p) x t → Stands s table (after_step (memory p) x t) (after s st (rec_of t))
step s p table x st (Works r op) agrees h within may =
    let m = some_of (slice_get x.mems r) (λ y. (memory p).can_apply y op) may in
    stands-put s table x st r (λ y. (memory p).applied y op) m.0 (slot_of (target op)) (made_by s r (st.tiles r) op) m.1 (worked s p table x st r m.0 op agrees h m.1) h
step s p table x st (Sends from to y) agrees h within may =
    let m = some_of (slice_get x.mems from) (λ z. (memory p).can_read z y) may.0 in
    sent s p table x st from to m.0 y h within.0 within.1 m.1
step s p table x st (Receives to from y) agrees h within may =
    let t = some_of (slice_get (messages x.links from to) 0) (λ msg. IsSomeAnd (slice_get x.mems to) (λ z. (memory p).can_write z y msg)) may in
    let m = some_of (slice_get x.mems to) (λ z. (memory p).can_write z y t.0) t.2 in
    received s p table x st to from t.0 m.0 y h within.0 within.1 t.1 m.1

-- ---- steps
-- after steps they stand for the state after their records
pub steps : (s : Setting) (p : ℕ) (table : List Line) (x : Machine Rank Tile) (st : State) (ts : List (Action Kernel Piece))
    → AgreesOn s p table → Stands s table x st → All (IsStepWithin (ranks s)) ts → MaySteps (memory p) x ts → Stands s table (after_steps (memory p) x ts) (replay s st (map rec_of ts))
steps s p table x st [] agrees h within may = h
steps s p table x st (t ∷ ts) agrees h within may =
    steps s p table (after_step (memory p) x t) (after s st (rec_of t)) ts agrees
    (step s p table x st t agrees h (All-head (IsStepWithin (ranks s)) t ts within) may.0) (All-tail (IsStepWithin (ranks s)) t ts within) may.1

-- ---- what a state says beyond what memories and links stand for
pub record SameMarks (a b : State) : Type 0 where
  pub mark : a.mark ≡ b.mark
  pub lost : a.lost ≡ b.lost
  pub spawned : a.spawned ≡ b.spawned
  pub taken : a.taken ≡ b.taken
  pub committed : a.committed ≡ b.committed

-- no step changes it
pub marks_stay : (s : Setting) (st : State) (t : Action Kernel Piece) → SameMarks (after s st (rec_of t)) st
marks_stay s st (Works r op) = record { mark = refl; lost = refl; spawned = refl; taken = refl; committed = refl }
marks_stay s st (Sends from to y) = record { mark = refl; lost = refl; spawned = refl; taken = refl; committed = refl }
marks_stay s st (Receives to from y) = record { mark = refl; lost = refl; spawned = refl; taken = refl; committed = refl }

-- the same as what has the same
then_marks : (a b c : State) → SameMarks a b → SameMarks b c → SameMarks a c
then_marks a b c h g = record { mark = h.mark ∙ g.mark; lost = h.lost ∙ g.lost; spawned = h.spawned ∙ g.spawned; taken = h.taken ∙ g.taken; committed = h.committed ∙ g.committed }

-- nor do steps
pub all_marks_stay : (s : Setting) (st : State) (ts : List (Action Kernel Piece)) → SameMarks (replay s st (map rec_of ts)) st
all_marks_stay s st [] = record { mark = refl; lost = refl; spawned = refl; taken = refl; committed = refl }
all_marks_stay s st (t ∷ ts) = then_marks (replay s (after s st (rec_of t)) (map rec_of ts)) (after s st (rec_of t)) st (all_marks_stay s (after s st (rec_of t)) ts) (marks_stay s st t)

-- nor do the events of a round
pub events_marks_stay : (s : Setting) (st : State) (es : List (Event Rank Kernel Piece Tile)) → SameMarks (replay s st (records_of es)) st
events_marks_stay s st [] = record { mark = refl; lost = refl; spawned = refl; taken = refl; committed = refl }
events_marks_stay s st (Local r op ∷ es) =
    let next = after s st (rec_of (Works r op)) in
    then_marks (replay s next (records_of es)) next st (events_marks_stay s next es) (marks_stay s st (Works r op))
events_marks_stay s st (Move from to a b ∷ es) =
    let sent_st = after s st (rec_of (Sends from to a)) in
    let next = after s sent_st (rec_of (Receives to from b)) in
    then_marks (replay s next (records_of es)) next st (events_marks_stay s next es) (then_marks next sent_st st (marks_stay s sent_st (Receives to from b)) (marks_stay s st (Sends from to a)))

-- two states with the marks of a third have the same
pub both_marks : (a b st : State) → SameMarks a st → SameMarks b st → SameMarks a b
both_marks a b st h g = record { mark = h.mark ∙ sym g.mark; lost = h.lost ∙ sym g.lost; spawned = h.spawned ∙ sym g.spawned; taken = h.taken ∙ sym g.taken; committed = h.committed ∙ sym g.committed }

-- the messages of each pair are those of the memories and links
links_same : (s : Setting) (table : List Line) (x : Machine Rank Tile) (a b : State) (from to : ℕ) → Stands s table x a → Stands s table x b → a.links from to ≡ b.links from to
links_same s table x a b from to h g =
    ⊎_elim
    (λ (e : (nat_lt from (ranks s) && nat_lt to (ranks s)) ≡ true).
    let among = and_parts (nat_lt from (ranks s)) (nat_lt to (ranks s)) e in
    let u = ltb-true from (ranks s) among.0 in
    let v = ltb-true to (ranks s) among.1 in
    sym (h.links from to u v) ∙ g.links from to u v)
    (λ (e : (nat_lt from (ranks s) && nat_lt to (ranks s)) ≡ false). h.no_links from to e ∙ sym (g.no_links from to e))
    (cases_Bool (nat_lt from (ranks s) && nat_lt to (ranks s)))

-- memories and links stand for one state at most, under one mark
pub same_state : (s : Setting) (table : List Line) (x : Machine Rank Tile) (a b : State) → Stands s table x a → Stands s table x b → SameMarks a b → a ≡ b
same_state s table x a b h g same =
    let mark = same.mark in
    let lost = same.lost in
    let spawned = same.spawned in
    let taken = same.taken in
    let committed = same.committed in
    λ n. record {
      live = λ r. (sym (h.live r) ∙ g.live r) n;
      tiles = λ r q. (sym (h.tiles r q) ∙ g.tiles r q) n;
      saved = λ r q. (sym (h.saved r q) ∙ g.saved r q) n;
      fresh = λ r q. (sym (h.fresh r q) ∙ g.fresh r q) n;
      links = λ from to. links_same s table x a b from to h g n;
      mark = mark n;
      lost = lost n;
      spawned = spawned n;
      taken = taken n;
      committed = committed n;
    }
