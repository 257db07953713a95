-- Where the cell of a slot stands among cells in order.
use Rattle.std.proofs.Common.{◌≡◌, ◌<◌, ◌≤◌, ℕ, zero, suc, Bool, true, false, Option, Some, None, is_some, IfSome, List, [], ◌∷◌, length, set, get_or, refl, sym, ap, subst, ◌∙◌, arith, ⊎_elim, All}
use Rattle.std.specs.List.{insert}
use Rattle.std.specs.List.Sorted.{IsPartitionedBy, IsPartitionPoint}
use Rattle.std.proofs.lemmas.Bool.{cases_Bool, true≢false, cases_lt}
use Rattle.std.proofs.lemmas.List.Elements.{All-head, All-tail, All-cons, All-nil, All-weaker}
use Rattle.rank_machine.specs.declared.slot.Slot.{Slot}
use Rattle.rank_machine.specs.declared.slot.Tile.{Tile}
use Rattle.rank_machine.specs.State.{same_slot}
use Rattle.rank_machine.proofs.Base.{same_slot-true}
use Rattle.rank_slots.specs.declared.cells.Cell.{Cell}
use Rattle.rank_slots.specs.Cells.{cell_in, tile_of, tiles_in, is_before, AreOrdered, place_in, with_cell, cell_with, with_tile_in, with_saved_cell, with_saved_in, kept_in}
use Rattle.rank_slots.proofs.CellLaws.{same_slot-refl, cell_in-slot}
use Rattle.rank_slots.proofs.Kept.{settled}
use Rattle.rank_slots.proofs.SlotOrder.{before-trans, before_other, before_first, before_else, other_turned}

-- ---- the first of some cells, or one after it
pub first_there : (x : Cell) (xs : List Cell) (s : Slot) → same_slot s x.slot ≡ true → cell_in (x ∷ xs) s ≡ Some x
first_there x xs s e = rw e refl

pub past_first : (x : Cell) (xs : List Cell) (s : Slot) → same_slot s x.slot ≡ false → cell_in (x ∷ xs) s ≡ cell_in xs s
past_first x xs s e = rw e refl

-- cells that come after a slot do not have it
pub after_none : (s : Slot) (xs : List Cell) → All (λ (y : Cell). is_before s y.slot ≡ true) xs → cell_in xs s ≡ None
after_none s [] h = refl
after_none s (x ∷ xs) h =
    past_first x xs s (before_other s x.slot (All-head (λ (y : Cell). is_before s y.slot ≡ true) x xs h))
    ∙ after_none s xs (All-tail (λ (y : Cell). is_before s y.slot ≡ true) x xs h)

-- a slot that is there and that the first does not come before is the first's
is_first : (x : Cell) (xs : List Cell) (s : Slot) → AreOrdered (x ∷ xs) → is_before x.slot s ≡ false → is_some (cell_in (x ∷ xs) s) ≡ true → same_slot s x.slot ≡ true
is_first x xs s o b h =
    ⊎_elim
    (λ (e : same_slot s x.slot ≡ true). e)
    (λ (e : same_slot s x.slot ≡ false).
    let earlier = before_else x.slot s b e in
    let none = after_none s xs (All-weaker (λ (y : Cell). is_before x.slot y.slot ≡ true) (λ (y : Cell). is_before s y.slot ≡ true) (λ y. before-trans s x.slot y.slot earlier) xs o.0) in
    absurd (true≢false (sym h ∙ ap is_some (past_first x xs s e ∙ none))))
    (cases_Bool (same_slot s x.slot))

-- ---- the place of a slot
first_place : (x : Cell) (xs : List Cell) (s : Slot) → is_before x.slot s ≡ false → place_in (x ∷ xs) s ≡ 0
first_place x xs s b = rw b refl

later_place : (x : Cell) (xs : List Cell) (s : Slot) → is_before x.slot s ≡ true → place_in (x ∷ xs) s ≡ suc (place_in xs s)
later_place x xs s b = rw b refl

-- a slot that the first comes before is there if it is among the others
pub there_later : (x : Cell) (xs : List Cell) (s : Slot) → is_before x.slot s ≡ true → cell_in (x ∷ xs) s ≡ cell_in xs s
there_later x xs s b = past_first x xs s (other_turned x.slot s (before_other x.slot s b))

pub place_below : (xs : List Cell) (s : Slot) → AreOrdered xs → is_some (cell_in xs s) ≡ true → place_in xs s < length xs
place_below [] s o h = absurd (true≢false (sym h))
place_below (x ∷ xs) s o h =
    ⊎_elim
    (λ (b : is_before x.slot s ≡ true).
    let k = later_place x xs s b in
    let below = place_below xs s o.1 (sym (ap is_some (there_later x xs s b)) ∙ h) in
    omega arith)
    (λ (b : is_before x.slot s ≡ false). let k = first_place x xs s b in omega arith)
    (cases_Bool (is_before x.slot s))

-- a cell that is there stands at the place of its slot
pub found_at : (xs : List Cell) (s : Slot) (d : Cell) → AreOrdered xs → is_some (cell_in xs s) ≡ true → cell_in xs s ≡ Some (get_or xs (place_in xs s) d)
found_at [] s d o h = absurd (true≢false (sym h))
found_at (x ∷ xs) s d o h =
    ⊎_elim
    (λ (b : is_before x.slot s ≡ true).
    there_later x xs s b
    ∙ found_at xs s d o.1 (sym (ap is_some (there_later x xs s b)) ∙ h)
    ∙ ap (λ k. Some (get_or (x ∷ xs) k d)) (sym (later_place x xs s b)))
    (λ (b : is_before x.slot s ≡ false). first_there x xs s (is_first x xs s o b h) ∙ ap (λ k. Some (get_or (x ∷ xs) k d)) (sym (first_place x xs s b)))
    (cases_Bool (is_before x.slot s))

-- a slot that a cell has is there
pub present : (xs : List Cell) (s : Slot) (k : ℕ) (d : Cell) → k < length xs → same_slot s (get_or xs k d).slot ≡ true → is_some (cell_in xs s) ≡ true
present [] s k d lt e = absurd (omega arith)
present (x ∷ xs) s zero d lt e = ap is_some (first_there x xs s e)
present (x ∷ xs) s (suc k) d lt e =
    ⊎_elim
    (λ (f : same_slot s x.slot ≡ true). ap is_some (first_there x xs s f))
    (λ (f : same_slot s x.slot ≡ false). ap is_some (past_first x xs s f) ∙ present xs s k d (omega arith) e)
    (cases_Bool (same_slot s x.slot))

-- a slot is missing that comes after all cells, or has not the cell at its place
pub missing_end : (xs : List Cell) (s : Slot) → AreOrdered xs → length xs ≤ place_in xs s → is_some (cell_in xs s) ≡ false
missing_end xs s o le =
    ⊎_elim
    (λ (e : is_some (cell_in xs s) ≡ true). let lt = place_below xs s o e in absurd (omega arith))
    (λ (e : is_some (cell_in xs s) ≡ false). e)
    (cases_Bool (is_some (cell_in xs s)))

pub missing_here : (xs : List Cell) (s : Slot) (d : Cell) → AreOrdered xs → same_slot s (get_or xs (place_in xs s) d).slot ≡ false → is_some (cell_in xs s) ≡ false
missing_here xs s d o f =
    ⊎_elim
    (λ (e : is_some (cell_in xs s) ≡ true).
    let x = get_or xs (place_in xs s) d in
    let same = cell_in-slot xs s x (found_at xs s d o e) in
    absurd (true≢false (sym (ap (λ n. same_slot s n) same ∙ same_slot-refl s) ∙ f)))
    (λ (e : is_some (cell_in xs s) ≡ false). e)
    (cases_Bool (is_some (cell_in xs s)))

-- ---- a search by halving
far_before : (xs : List Cell) (i j : ℕ) (d : Cell) → AreOrdered xs → i < j → j < length xs → is_before (get_or xs i d).slot (get_or xs j d).slot ≡ true
far_before [] i j d o lt in_range = absurd (omega arith)
far_before (x ∷ xs) i zero d o lt in_range = absurd (omega arith)
far_before (x ∷ xs) zero (suc j) d o lt in_range = o.0 j d (omega arith)
far_before (x ∷ xs) (suc i) (suc j) d o lt in_range = far_before xs i j d o.1 (omega arith) (omega arith)

-- whatever stands before a cell that comes before a slot comes before it too
pub parted : (xs : List Cell) (s : Slot) → AreOrdered xs → IsPartitionedBy (λ (y : Cell). is_before y.slot s) xs
parted xs s o i j d le lt b =
    ⊎_elim
    (λ (l : i < j). before-trans (get_or xs i d).slot (get_or xs j d).slot s (far_before xs i j d o l lt) b)
    (λ (l : j ≤ i). let e : j ≡ i = omega arith in ap (λ k. is_before (get_or xs k d).slot s) (sym e) ∙ b)
    (cases_lt i j)

-- the place where the cells that come before a slot end
pub place_is : (xs : List Cell) (s : Slot) (i : ℕ) → i ≤ length xs → IsPartitionPoint (λ (y : Cell). is_before y.slot s ≡ true) (λ (y : Cell). is_before y.slot s ≡ false) xs i → i ≡ place_in xs s
place_is [] s i le h = omega arith
place_is (x ∷ xs) s zero le h = sym (first_place x xs s (h.1 0 x (omega arith) (omega arith)))
place_is (x ∷ xs) s (suc i) le h =
    let rest : IsPartitionPoint (λ (y : Cell). is_before y.slot s ≡ true) (λ (y : Cell). is_before y.slot s ≡ false) xs i = (λ k d lo hi. h.0 (suc k) d (omega arith) (omega arith), λ k d lo hi. h.1 (suc k) d (omega arith) (omega arith)) in
    ap (λ k. suc k) (place_is xs s i (omega arith) rest) ∙ sym (later_place x xs s (h.0 0 x (omega arith) (omega arith)))

-- ---- a cell that is put at its place
pub put_there : (xs : List Cell) (c : Cell) → AreOrdered xs → is_some (cell_in xs c.slot) ≡ true → set xs (place_in xs c.slot) c ≡ with_cell xs c
put_there [] c o h = absurd (true≢false (sym h))
put_there (x ∷ xs) c o h =
    ⊎_elim
    (λ (b : is_before x.slot c.slot ≡ true).
    let other = other_turned x.slot c.slot (before_other x.slot c.slot b) in
    let later = before_first x.slot c.slot b in
    let rest = put_there xs c o.1 (sym (ap is_some (there_later x xs c.slot b)) ∙ h) in
    rw b (rw other (rw later (ap (λ l. x ∷ l) rest))))
    (λ (b : is_before x.slot c.slot ≡ false). let same = is_first x xs c.slot o b h in rw b (rw same refl))
    (cases_Bool (is_before x.slot c.slot))

pub put_new : (xs : List Cell) (c : Cell) → is_some (cell_in xs c.slot) ≡ false → insert xs (place_in xs c.slot) c ≡ with_cell xs c
put_new [] c h = refl
put_new (x ∷ xs) c h =
    let other : same_slot c.slot x.slot ≡ false = ⊎_elim (λ (e : same_slot c.slot x.slot ≡ true). absurd (true≢false (sym (ap is_some (first_there x xs c.slot e)) ∙ h))) (λ (e : same_slot c.slot x.slot ≡ false). e) (cases_Bool (same_slot c.slot x.slot)) in
    ⊎_elim
    (λ (b : is_before x.slot c.slot ≡ true).
    let later = before_first x.slot c.slot b in
    let rest = put_new xs c (sym (ap is_some (there_later x xs c.slot b)) ∙ h) in
    rw b (rw other (rw later (ap (λ l. x ∷ l) rest))))
    (λ (b : is_before x.slot c.slot ≡ false). let earlier = before_else x.slot c.slot b other in rw b (rw other (rw earlier refl)))
    (cases_Bool (is_before x.slot c.slot))

-- ---- what each cell has
pub all_with : (P : Cell → Type 0) (xs : List Cell) (c : Cell) → All P xs → P c → All P (with_cell xs c)
all_with P [] c h p = All-cons P c [] p h
all_with P (x ∷ xs) c h p =
    ⊎_elim
    (λ (e : same_slot c.slot x.slot ≡ true). rw e (All-cons P c xs p (All-tail P x xs h)))
    (λ (e : same_slot c.slot x.slot ≡ false).
    rw e
    (⊎_elim
    (λ (b : is_before c.slot x.slot ≡ true). rw b (All-cons P c (x ∷ xs) p h))
    (λ (b : is_before c.slot x.slot ≡ false). rw b (All-cons P x (with_cell xs c) (All-head P x xs h) (all_with P xs c (All-tail P x xs h) p)))
    (cases_Bool (is_before c.slot x.slot))))
    (cases_Bool (same_slot c.slot x.slot))

-- what each cell has, the one of a slot that is there has
pub all_found : (P : Cell → Type 0) (xs : List Cell) (s : Slot) → All P xs → IfSome (cell_in xs s) P
all_found P [] s h = tt
all_found P (x ∷ xs) s h =
    ⊎_elim
    (λ (e : same_slot s x.slot ≡ true). rw e (All-head P x xs h))
    (λ (e : same_slot s x.slot ≡ false). rw e (all_found P xs s (All-tail P x xs h)))
    (cases_Bool (same_slot s x.slot))

-- and those that are kept have it, where a cell that is settled does
pub all_kept : (P : Cell → Type 0) (test : Slot → Bool) (xs : List Cell) → ((x : Cell) → P x → P (settled x)) → All P xs → All P (kept_in test xs)
all_kept P test [] f h = h
all_kept P test (x ∷ xs) f h =
    let rest = all_kept P test xs f (All-tail P x xs h) in
    ⊎_elim
    (λ (e : test x.slot ≡ true). rw e (All-cons P (settled x) (kept_in test xs) (f x (All-head P x xs h)) rest))
    (λ (e : test x.slot ≡ false). rw e rest)
    (cases_Bool (test x.slot))

-- ---- cells stay in order
pub ordered-with : (xs : List Cell) (c : Cell) → AreOrdered xs → AreOrdered (with_cell xs c)
ordered-with [] c o = (All-nil (λ (y : Cell). is_before c.slot y.slot ≡ true), tt)
ordered-with (x ∷ xs) c o =
    ⊎_elim
    (λ (e : same_slot c.slot x.slot ≡ true). rw e (subst (λ (s : Slot). All (λ (y : Cell). is_before s y.slot ≡ true) xs) (sym (same_slot-true c.slot x.slot e)) o.0, o.1))
    (λ (e : same_slot c.slot x.slot ≡ false).
    rw e
    (⊎_elim
    (λ (b : is_before c.slot x.slot ≡ true).
    rw b
    (All-cons (λ (y : Cell). is_before c.slot y.slot ≡ true) x xs b (All-weaker (λ (y : Cell). is_before x.slot y.slot ≡ true) (λ (y : Cell). is_before c.slot y.slot ≡ true) (λ y. before-trans c.slot x.slot y.slot b) xs o.0), o))
    (λ (b : is_before c.slot x.slot ≡ false).
    rw b (all_with (λ (y : Cell). is_before x.slot y.slot ≡ true) xs c o.0 (before_else c.slot x.slot b (other_turned c.slot x.slot e)), ordered-with xs c o.1))
    (cases_Bool (is_before c.slot x.slot))))
    (cases_Bool (same_slot c.slot x.slot))

pub ordered-kept : (test : Slot → Bool) (xs : List Cell) → AreOrdered xs → AreOrdered (kept_in test xs)
ordered-kept test [] o = tt
ordered-kept test (x ∷ xs) o =
    ⊎_elim
    (λ (e : test x.slot ≡ true). rw e (all_kept (λ (y : Cell). is_before x.slot y.slot ≡ true) test xs (λ y h. h) o.0, ordered-kept test xs o.1))
    (λ (e : test x.slot ≡ false). rw e (ordered-kept test xs o.1))
    (cases_Bool (test x.slot))

-- ---- at a place that was searched in a list zs, which is xs
tile_there : (o : Option Cell) → is_some (tile_of o) ≡ is_some o
tile_there None = refl
tile_there (Some x) = refl

-- a slot that has a tile is there
pub is_there : (xs : List Cell) (s : Slot) → is_some (tiles_in xs s) ≡ true → is_some (cell_in xs s) ≡ true
is_there xs s h = sym (tile_there (cell_in xs s)) ∙ h

none_if : (o : Option Cell) → is_some o ≡ false → o ≡ None
none_if None h = refl
none_if (Some x) h = absurd (true≢false h)

pub place_within : (xs : List Cell) (s : Slot) → place_in xs s ≤ length xs
place_within [] s = omega arith
place_within (x ∷ xs) s =
    let rest = place_within xs s in
    ⊎_elim (λ (b : is_before x.slot s ≡ true). let k = later_place x xs s b in omega arith) (λ (b : is_before x.slot s ≡ false). let k = first_place x xs s b in omega arith) (cases_Bool (is_before x.slot s))

pub below_found : (zs xs : List Cell) (s : Slot) (at : ℕ) → zs ≡ xs → AreOrdered xs → at ≡ place_in zs s → is_some (cell_in xs s) ≡ true → at < length zs
below_found zs xs s at e o is h =
    let lt = place_below zs s (subst AreOrdered (sym e) o) (ap (λ l. is_some (cell_in l s)) e ∙ h) in
    omega arith

pub cell_found : (zs xs : List Cell) (s : Slot) (at : ℕ) (x : Cell) → zs ≡ xs → AreOrdered xs → at ≡ place_in zs s → is_some (cell_in xs s) ≡ true → x ≡ get_or xs at x → cell_in xs s ≡ Some x
cell_found zs xs s at x e o is h value =
    found_at xs s x o h
    ∙ ap (λ k. Some (get_or xs k x)) (sym (is ∙ ap (λ l. place_in l s) e))
    ∙ ap (λ y. Some y) (sym value)

-- another cell of the slot takes the place of the one that was found
put_other : (xs : List Cell) (s : Slot) (at : ℕ) (x c : Cell) → AreOrdered xs → at ≡ place_in xs s → cell_in xs s ≡ Some x → c.slot ≡ s → set xs at c ≡ with_cell xs c
put_other xs s at x c o is found same =
    ap (λ k. set xs k c) (is ∙ ap (λ n. place_in xs n) (sym same))
    ∙ put_there xs c o (ap (λ n. is_some (cell_in xs n)) same ∙ ap (λ r. is_some r) found)

pub put_found : (zs xs : List Cell) (s : Slot) (at : ℕ) (x : Cell) (t : Tile) → zs ≡ xs → AreOrdered xs → at ≡ place_in zs s → is_some (cell_in xs s) ≡ true → x ≡ get_or xs at x → set xs at (record { slot = x.slot; tile = t; saved = x.saved; fresh = x.fresh }) ≡ with_tile_in xs s t
put_found zs xs s at x t e o is h value =
    let found = cell_found zs xs s at x e o is h value in
    let same = cell_in-slot xs s x found in
    put_other xs s at x (record { slot = x.slot; tile = t; saved = x.saved; fresh = x.fresh }) o (is ∙ ap (λ l. place_in l s) e) found same
    ∙ ap (λ (n : Slot). with_cell xs (record { slot = n; tile = t; saved = x.saved; fresh = x.fresh })) same
    ∙ ap (λ r. with_cell xs (cell_with r s t)) (sym found)

pub save_found : (zs xs : List Cell) (s : Slot) (at : ℕ) (x : Cell) (t : Tile) → zs ≡ xs → AreOrdered xs → at ≡ place_in zs s → is_some (cell_in xs s) ≡ true → x ≡ get_or xs at x → t ≡ x.tile → set xs at (record { slot = x.slot; tile = x.tile; saved = Some t; fresh = x.fresh }) ≡ with_saved_in xs s
save_found zs xs s at x t e o is h value copied =
    let found = cell_found zs xs s at x e o is h value in
    let same = cell_in-slot xs s x found in
    put_other xs s at x (record { slot = x.slot; tile = x.tile; saved = Some t; fresh = x.fresh }) o (is ∙ ap (λ l. place_in l s) e) found same
    ∙ ap (λ (u : Tile). with_cell xs (record { slot = x.slot; tile = x.tile; saved = Some u; fresh = x.fresh })) copied
    ∙ ap (λ r. with_saved_cell xs r) (sym found)

-- a new cell goes to the place of a slot that is missing
pub put_missing : (zs xs : List Cell) (s : Slot) (at : ℕ) (t : Tile) → zs ≡ xs → at ≡ place_in zs s → is_some (cell_in zs s) ≡ false → insert xs at (record { slot = s; tile = t; saved = None; fresh = true }) ≡ with_tile_in xs s t
put_missing zs xs s at t e is h =
    let c : Cell = record { slot = s; tile = t; saved = None; fresh = true } in
    let gone : is_some (cell_in xs s) ≡ false = ap (λ l. is_some (cell_in l s)) (sym e) ∙ h in
    ap (λ k. insert xs k c) (is ∙ ap (λ l. place_in l s) e)
    ∙ put_new xs c gone
    ∙ ap (λ r. with_cell xs (cell_with r s t)) (sym (none_if (cell_in xs s) gone))

-- ---- what was put, saved and kept stays in order
pub ordered-put : (xs : List Cell) (s : Slot) (t : Tile) → AreOrdered xs → AreOrdered (with_tile_in xs s t)
ordered-put xs s t o = ordered-with xs (cell_with (cell_in xs s) s t) o

ordered-saved_cell : (xs : List Cell) (r : Option Cell) → AreOrdered xs → AreOrdered (with_saved_cell xs r)
ordered-saved_cell xs None o = o
ordered-saved_cell xs (Some x) o = ordered-with xs (record { slot = x.slot; tile = x.tile; saved = Some x.tile; fresh = x.fresh }) o

pub ordered-save : (xs : List Cell) (s : Slot) → AreOrdered xs → AreOrdered (with_saved_in xs s)
ordered-save xs s o = ordered-saved_cell xs (cell_in xs s) o
