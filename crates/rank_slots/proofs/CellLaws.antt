-- A slot of a rank after a tile was put or saved, and after slots were let go.
use Rattle.std.proofs.Common.{◌≡◌, ◌==◌, ◌&&◌, ◌||◌, Bool, true, false, not, cond, Option, Some, None, is_some, List, [], ◌∷◌, refl, sym, ap, subst, ◌∙◌, ⊎_elim}
use Rattle.std.proofs.lemmas.Bool.{cases_Bool, true≢false, eq-eqb, and_from}
use Rattle.rank_machine.specs.declared.slot.Slot.{Slot}
use Rattle.rank_machine.specs.declared.slot.Tile.{Tile}
use Rattle.rank_machine.specs.State.{kind_number, same_kind, same_slot}
use Rattle.rank_machine.proofs.Base.{same_slot-true}
use Rattle.rank_slots.specs.declared.cells.Cell.{Cell}
use Rattle.rank_slots.specs.Cells.{cell_in, tile_of, saved_of, fresh_of, tiles_in, saved_in, fresh_in, is_before, with_cell, cell_with, with_tile_in, with_saved_cell, with_saved_in, kept_in}

pub same_slot-refl : (s : Slot) → same_slot s s ≡ true
same_slot-refl s =
    and_from (same_kind s.kind s.kind && (s.id == s.id)) (s.group == s.group)
    (and_from (same_kind s.kind s.kind) (s.id == s.id) (eq-eqb (kind_number s.kind) (kind_number s.kind) refl) (eq-eqb s.id s.id refl)) (eq-eqb s.group s.group refl)

-- a slot that is another one is not also this one
pub not_both : (x s h : Slot) → same_slot s h ≡ false → same_slot x s ≡ true → same_slot x h ≡ true → ⊥
not_both x s h apart a b = true≢false (sym (subst (λ n. same_slot n h ≡ true) (same_slot-true x s a) b) ∙ apart)

-- what is said of a slot holds of one that is the same
by_slot : {A : Type 0} (f : Slot → A) (q s : Slot) (b : Bool) → same_slot q s ≡ b → cond b (f s) (f q) ≡ f q
by_slot f q s true e = ap f (sym (same_slot-true q s e))
by_slot f q s false e = refl

-- one value, whichever way a test turns out
pub same_either : {X : Type 0} (b : Bool) (x : X) → x ≡ cond b x x
same_either true x = refl
same_either false x = refl

-- ---- a cell in its place
with_here : (a b : Bool) (x c : Cell) (rest : Option Cell) → b ≡ a → cond a (Some c) rest ≡ cond a (Some c) (cond b (Some x) rest)
with_here true b x c rest h = refl
with_here false false x c rest h = refl
with_here false true x c rest h = absurd (true≢false h)

with_past : (a b : Bool) (x c : Cell) (new old : Option Cell) → (a ≡ true → b ≡ true → ⊥) → new ≡ cond a (Some c) old → cond b (Some x) new ≡ cond a (Some c) (cond b (Some x) old)
with_past true true x c new old h e = absurd (h refl refl)
with_past false true x c new old h e = refl
with_past a false x c new old h e = e

-- its slot has the cell, and each other slot what it had
pub cell_in-with : (xs : List Cell) (c : Cell) (q : Slot) → cell_in (with_cell xs c) q ≡ cond (same_slot q c.slot) (Some c) (cell_in xs q)
cell_in-with [] c q = refl
cell_in-with (x ∷ xs) c q =
    ⊎_elim
    (λ (e : same_slot c.slot x.slot ≡ true). rw e (with_here (same_slot q c.slot) (same_slot q x.slot) x c (cell_in xs q) (ap (λ n. same_slot q n) (sym (same_slot-true c.slot x.slot e)))))
    (λ (e : same_slot c.slot x.slot ≡ false).
    rw e
    (⊎_elim
    (λ (f : is_before c.slot x.slot ≡ true). rw f refl)
    (λ (f : is_before c.slot x.slot ≡ false). rw f (with_past (same_slot q c.slot) (same_slot q x.slot) x c (cell_in (with_cell xs c) q) (cell_in xs q) (not_both q c.slot x.slot e) (cell_in-with xs c q)))
    (cases_Bool (is_before c.slot x.slot))))
    (cases_Bool (same_slot c.slot x.slot))

-- a cell that is found is of the slot
abbrev slot_or : Slot → Option Cell → Slot
slot_or s None = s
slot_or s (Some x) = x.slot

found_slot : (b : Bool) (s : Slot) (y x : Cell) (rest : Option Cell) → same_slot s y.slot ≡ b → (rest ≡ Some x → x.slot ≡ s) → cond b (Some y) rest ≡ Some x → x.slot ≡ s
found_slot true s y x rest e f h = sym (same_slot-true s y.slot e ∙ ap (λ o. slot_or s o) h)
found_slot false s y x rest e f h = f h

pub cell_in-slot : (xs : List Cell) (s : Slot) (x : Cell) → cell_in xs s ≡ Some x → x.slot ≡ s
cell_in-slot [] s x h = absurd (cc)
cell_in-slot (y ∷ ys) s x h = found_slot (same_slot s y.slot) s y x (cell_in ys s) refl (cell_in-slot ys s x) h

-- of two cells put in one slot the later one stays
pub with_cell-twice : (xs : List Cell) (c d : Cell) → c.slot ≡ d.slot → with_cell (with_cell xs c) d ≡ with_cell xs d
with_cell-twice [] c d h = let e : same_slot d.slot c.slot ≡ true = ap (λ s. same_slot d.slot s) h ∙ same_slot-refl d.slot in rw e refl
with_cell-twice (x ∷ xs) c d h =
    let again : same_slot d.slot c.slot ≡ true = ap (λ s. same_slot d.slot s) h ∙ same_slot-refl d.slot in
    ⊎_elim
    (λ (e : same_slot c.slot x.slot ≡ true). let e' : same_slot d.slot x.slot ≡ true = ap (λ s. same_slot s x.slot) (sym h) ∙ e in rw e (rw e' (rw again refl)))
    (λ (e : same_slot c.slot x.slot ≡ false).
    let e' : same_slot d.slot x.slot ≡ false = ap (λ s. same_slot s x.slot) (sym h) ∙ e in
    rw e
    (rw e'
    (⊎_elim
    (λ (f : is_before c.slot x.slot ≡ true). let f' : is_before d.slot x.slot ≡ true = ap (λ s. is_before s x.slot) (sym h) ∙ f in rw f (rw f' (rw again refl)))
    (λ (f : is_before c.slot x.slot ≡ false). let f' : is_before d.slot x.slot ≡ false = ap (λ s. is_before s x.slot) (sym h) ∙ f in rw f (rw f' (rw e' (ap (λ l. x ∷ l) (with_cell-twice xs c d h)))))
    (cases_Bool (is_before c.slot x.slot)))))
    (cases_Bool (same_slot c.slot x.slot))

-- ---- what is read of a cell that is chosen
tile_cond : (b : Bool) (x : Cell) (o : Option Cell) → tile_of (cond b (Some x) o) ≡ cond b (Some x.tile) (tile_of o)
tile_cond true x o = refl
tile_cond false x o = refl

saved_cond : (b : Bool) (x : Cell) (o : Option Cell) → saved_of (cond b (Some x) o) ≡ cond b x.saved (saved_of o)
saved_cond true x o = refl
saved_cond false x o = refl

fresh_cond : (b : Bool) (x : Cell) (o : Option Cell) → fresh_of (cond b (Some x) o) ≡ cond b x.fresh (fresh_of o)
fresh_cond true x o = refl
fresh_cond false x o = refl

-- ---- a tile that is put
slot_with : (o : Option Cell) (s : Slot) (t : Tile) → (cell_with o s t).slot ≡ s
slot_with None s t = refl
slot_with (Some x) s t = refl

tile_with : (o : Option Cell) (s : Slot) (t : Tile) → (cell_with o s t).tile ≡ t
tile_with None s t = refl
tile_with (Some x) s t = refl

saved_with : (o : Option Cell) (s : Slot) (t : Tile) → (cell_with o s t).saved ≡ saved_of o
saved_with None s t = refl
saved_with (Some x) s t = refl

fresh_with : (o : Option Cell) (s : Slot) (t : Tile) → (cell_with o s t).fresh ≡ (fresh_of o || not (is_some (tile_of o)))
fresh_with None s t = refl
fresh_with (Some x) s t = or_nothing x.fresh
  where
    or_nothing : (f : Bool) → f ≡ (f || false)
    or_nothing true = refl
    or_nothing false = refl

pub cell_in-put : (xs : List Cell) (s : Slot) (t : Tile) (q : Slot) → cell_in (with_tile_in xs s t) q ≡ cond (same_slot q s) (Some (cell_with (cell_in xs s) s t)) (cell_in xs q)
cell_in-put xs s t q = cell_in-with xs (cell_with (cell_in xs s) s t) q ∙ ap (λ n. cond (same_slot q n) (Some (cell_with (cell_in xs s) s t)) (cell_in xs q)) (slot_with (cell_in xs s) s t)

pub tiles_in-put : (xs : List Cell) (s : Slot) (t : Tile) (q : Slot) → tiles_in (with_tile_in xs s t) q ≡ cond (same_slot q s) (Some t) (tiles_in xs q)
tiles_in-put xs s t q =
    ap tile_of (cell_in-put xs s t q)
    ∙ tile_cond (same_slot q s) (cell_with (cell_in xs s) s t) (cell_in xs q)
    ∙ ap (λ u. cond (same_slot q s) (Some u) (tiles_in xs q)) (tile_with (cell_in xs s) s t)

pub saved_in-put : (xs : List Cell) (s : Slot) (t : Tile) (q : Slot) → saved_in (with_tile_in xs s t) q ≡ saved_in xs q
saved_in-put xs s t q =
    ap saved_of (cell_in-put xs s t q)
    ∙ saved_cond (same_slot q s) (cell_with (cell_in xs s) s t) (cell_in xs q)
    ∙ ap (λ u. cond (same_slot q s) u (saved_in xs q)) (saved_with (cell_in xs s) s t)
    ∙ by_slot (saved_in xs) q s (same_slot q s) refl

pub fresh_in-put : (xs : List Cell) (s : Slot) (t : Tile) (q : Slot) → fresh_in (with_tile_in xs s t) q ≡ cond (same_slot q s) (fresh_in xs s || not (is_some (tiles_in xs s))) (fresh_in xs q)
fresh_in-put xs s t q =
    ap fresh_of (cell_in-put xs s t q)
    ∙ fresh_cond (same_slot q s) (cell_with (cell_in xs s) s t) (cell_in xs q)
    ∙ ap (λ u. cond (same_slot q s) u (fresh_in xs q)) (fresh_with (cell_in xs s) s t)

with_again : (o : Option Cell) (s : Slot) (a b : Tile) → cell_with (Some (cell_with o s a)) s b ≡ cell_with o s b
with_again None s a b = refl
with_again (Some x) s a b = refl

-- of two tiles put in one slot the later one stays
pub put-put : (xs : List Cell) (s : Slot) (a b : Tile) → with_tile_in (with_tile_in xs s a) s b ≡ with_tile_in xs s b
put-put xs s a b =
    let o = cell_in xs s in
    let c = cell_with o s a in
    let there : cell_in (with_tile_in xs s a) s ≡ Some c = cell_in-put xs s a s ∙ ap (λ h. cond h (Some c) o) (same_slot-refl s) in
    ap (λ r. with_cell (with_tile_in xs s a) (cell_with r s b)) there
    ∙ ap (λ d. with_cell (with_tile_in xs s a) d) (with_again o s a b)
    ∙ with_cell-twice xs c (cell_with o s b) (slot_with o s a ∙ sym (slot_with o s b))

-- ---- a tile that is saved
abbrev pub saved_cell : Option Cell → Option Cell
saved_cell None = None
saved_cell (Some x) = Some (record { slot = x.slot; tile = x.tile; saved = Some x.tile; fresh = x.fresh })

save_by : (xs : List Cell) (s : Slot) (q : Slot) (o : Option Cell) → cell_in xs s ≡ o → cell_in (with_saved_cell xs o) q ≡ cond (same_slot q s) (saved_cell o) (cell_in xs q)
save_by xs s q None h = sym (by_slot (cell_in xs) q s (same_slot q s) refl) ∙ ap (λ o. cond (same_slot q s) o (cell_in xs q)) h
save_by xs s q (Some x) h =
    let c : Cell = record { slot = x.slot; tile = x.tile; saved = Some x.tile; fresh = x.fresh } in
    cell_in-with xs c q ∙ ap (λ n. cond (same_slot q n) (Some c) (cell_in xs q)) (cell_in-slot xs s x h)

pub cell_in-save : (xs : List Cell) (s : Slot) (q : Slot) → cell_in (with_saved_in xs s) q ≡ cond (same_slot q s) (saved_cell (cell_in xs s)) (cell_in xs q)
cell_in-save xs s q = save_by xs s q (cell_in xs s) refl

tile_saved : (b : Bool) (a o : Option Cell) → tile_of (cond b (saved_cell a) o) ≡ cond b (tile_of a) (tile_of o)
tile_saved true None o = refl
tile_saved true (Some x) o = refl
tile_saved false a o = refl

saved_saved : (b : Bool) (a o : Option Cell) → saved_of (cond b (saved_cell a) o) ≡ cond b (tile_of a) (saved_of o)
saved_saved true None o = refl
saved_saved true (Some x) o = refl
saved_saved false a o = refl

fresh_saved : (b : Bool) (a o : Option Cell) → fresh_of (cond b (saved_cell a) o) ≡ cond b (fresh_of a) (fresh_of o)
fresh_saved true None o = refl
fresh_saved true (Some x) o = refl
fresh_saved false a o = refl

pub tiles_in-save : (xs : List Cell) (s : Slot) (q : Slot) → tiles_in (with_saved_in xs s) q ≡ tiles_in xs q
tiles_in-save xs s q = ap tile_of (cell_in-save xs s q) ∙ tile_saved (same_slot q s) (cell_in xs s) (cell_in xs q) ∙ by_slot (tiles_in xs) q s (same_slot q s) refl

pub saved_in-save : (xs : List Cell) (s : Slot) (q : Slot) → saved_in (with_saved_in xs s) q ≡ cond (same_slot q s) (tiles_in xs s) (saved_in xs q)
saved_in-save xs s q = ap saved_of (cell_in-save xs s q) ∙ saved_saved (same_slot q s) (cell_in xs s) (cell_in xs q)

pub fresh_in-save : (xs : List Cell) (s : Slot) (q : Slot) → fresh_in (with_saved_in xs s) q ≡ fresh_in xs q
fresh_in-save xs s q = ap fresh_of (cell_in-save xs s q) ∙ fresh_saved (same_slot q s) (cell_in xs s) (cell_in xs q) ∙ by_slot (fresh_in xs) q s (same_slot q s) refl

-- ---- slots that are kept
abbrev pub kept_cell : Option Cell → Option Cell
kept_cell None = None
kept_cell (Some x) = Some (record { slot = x.slot; tile = x.tile; saved = None; fresh = false })

kept_here : (b t : Bool) (x : Cell) (new old : Option Cell) → new ≡ cond t (kept_cell old) None → (b ≡ true → t ≡ true) → cond b (kept_cell (Some x)) new ≡ cond t (kept_cell (cond b (Some x) old)) None
kept_here true true x new old e h = refl
kept_here true false x new old e h = absurd (true≢false (sym (h refl)))
kept_here false t x new old e h = e

kept_gone : (b t : Bool) (x : Cell) (new old : Option Cell) → new ≡ cond t (kept_cell old) None → (b ≡ true → t ≡ false) → new ≡ cond t (kept_cell (cond b (Some x) old)) None
kept_gone true true x new old e h = absurd (true≢false (h refl))
kept_gone true false x new old e h = e
kept_gone false t x new old e h = e

-- a slot that passes the test keeps its tile, and no other slot is there
pub cell_in-kept : (test : Slot → Bool) (xs : List Cell) (q : Slot) → cell_in (kept_in test xs) q ≡ cond (test q) (kept_cell (cell_in xs q)) None
cell_in-kept test [] q = same_either (test q) None
cell_in-kept test (x ∷ xs) q =
    ⊎_elim
    (λ (e : test x.slot ≡ true). rw e (kept_here (same_slot q x.slot) (test q) x (cell_in (kept_in test xs) q) (cell_in xs q) (cell_in-kept test xs q) (λ h. ap test (same_slot-true q x.slot h) ∙ e)))
    (λ (e : test x.slot ≡ false). rw e (kept_gone (same_slot q x.slot) (test q) x (cell_in (kept_in test xs) q) (cell_in xs q) (cell_in-kept test xs q) (λ h. ap test (same_slot-true q x.slot h) ∙ e)))
    (cases_Bool (test x.slot))

tile_kept : (b : Bool) (o : Option Cell) → tile_of (cond b (kept_cell o) None) ≡ cond b (tile_of o) None
tile_kept true None = refl
tile_kept true (Some x) = refl
tile_kept false o = refl

saved_kept : (b : Bool) (o : Option Cell) → saved_of (cond b (kept_cell o) None) ≡ None
saved_kept true None = refl
saved_kept true (Some x) = refl
saved_kept false o = refl

fresh_kept : (b : Bool) (o : Option Cell) → fresh_of (cond b (kept_cell o) None) ≡ false
fresh_kept true None = refl
fresh_kept true (Some x) = refl
fresh_kept false o = refl

pub tiles_in-kept : (test : Slot → Bool) (xs : List Cell) (q : Slot) → tiles_in (kept_in test xs) q ≡ cond (test q) (tiles_in xs q) None
tiles_in-kept test xs q = ap tile_of (cell_in-kept test xs q) ∙ tile_kept (test q) (cell_in xs q)

pub saved_in-kept : (test : Slot → Bool) (xs : List Cell) (q : Slot) → saved_in (kept_in test xs) q ≡ None
saved_in-kept test xs q = ap saved_of (cell_in-kept test xs q) ∙ saved_kept (test q) (cell_in xs q)

pub fresh_in-kept : (test : Slot → Bool) (xs : List Cell) (q : Slot) → fresh_in (kept_in test xs) q ≡ false
fresh_in-kept test xs q = ap fresh_of (cell_in-kept test xs q) ∙ fresh_kept (test q) (cell_in xs q)
