-- What the cells of a rank fall back to, slot by slot.
use Rattle.std.proofs.Common.{◌≡◌, ◌≤◌, ℕ, Bool, true, false, Option, Some, None, List, [], ◌∷◌, ◌++◌, length, map, take, drop, refl, ap, ◌∙◌, ⊎_elim, All}
use Rattle.std.specs.Prelude.{if◌then◌else◌, unwrap_or}
use Rattle.std.specs.List.{filter}
use Rattle.std.proofs.lemmas.Bool.{cases_Bool}
use Rattle.std.proofs.lemmas.List.{take_all, drop_all, append-nil}
use Rattle.std.proofs.lemmas.List.Elements.{All-head, All-tail, All-cons}
use Rattle.rank_machine.specs.declared.slot.Slot.{Slot}
use Rattle.rank_machine.specs.declared.slot.Tile.{Tile}
use Rattle.rank_machine.specs.State.{same_slot, or_else}
use Rattle.rank_machine.proofs.Base.{same_slot-true}
use Rattle.rank_slots.specs.declared.cells.Cell.{Cell}
use Rattle.rank_slots.specs.Cells.{cell_in, tile_of, saved_of, fresh_of, tiles_in, saved_in, fresh_in, is_before, AreOrdered, IsTileOf, IsSomeTileOf, IsCellOf, AreCellsOf}
use Rattle.rank_slots.specs.Undone.{stays, undone, undone_in}
use Rattle.rank_slots.proofs.PlaceLaws.{after_none}

-- ---- the cells that stay, each undone
undone_are_left : (xs : List Cell) → map undone (filter stays xs) ≡ undone_in xs
undone_are_left [] = refl
undone_are_left (x ∷ xs) =
    ⊎_elim
    (λ (e : stays x ≡ true). rw e (ap (λ l. undone x ∷ l) (undone_are_left xs)))
    (λ (e : stays x ≡ false). rw e (undone_are_left xs))
    (cases_Bool (stays x))

pub undone_is : (old passed zs : List Cell) (k : ℕ) → passed ≡ filter stays old → length passed ≤ k → zs ≡ map undone (take k passed) ++ drop k passed → zs ≡ undone_in old
undone_is old passed zs k e le h =
    h
    ∙ ap (λ l. map undone l ++ drop k passed) (take_all k passed le)
    ∙ ap (λ l. map undone passed ++ l) (drop_all k passed le)
    ∙ append-nil (map undone passed)
    ∙ ap (map undone) e
    ∙ undone_are_left old

-- what each cell has, those that are undone have
pub all_undone : (P : Cell → Type 0) (xs : List Cell) → ((x : Cell) → P x → P (undone x)) → All P xs → All P (undone_in xs)
all_undone P [] f h = h
all_undone P (x ∷ xs) f h =
    let rest = all_undone P xs f (All-tail P x xs h) in
    ⊎_elim
    (λ (e : stays x ≡ true). rw e (All-cons P (undone x) (undone_in xs) (f x (All-head P x xs h)) rest))
    (λ (e : stays x ≡ false). rw e rest)
    (cases_Bool (stays x))

pub ordered-undone : (xs : List Cell) → AreOrdered xs → AreOrdered (undone_in xs)
ordered-undone [] o = tt
ordered-undone (x ∷ xs) o =
    ⊎_elim
    (λ (e : stays x ≡ true). rw e (all_undone (λ (y : Cell). is_before x.slot y.slot ≡ true) xs (λ y h. h) o.0, ordered-undone xs o.1))
    (λ (e : stays x ≡ false). rw e (ordered-undone xs o.1))
    (cases_Bool (stays x))

undone_words : (p : ℕ) (s : Option Tile) (t : Tile) → IsTileOf p t → IsSomeTileOf p s → IsTileOf p (unwrap_or s t)
undone_words p None t h g = h
undone_words p (Some u) t h g = g

pub cells_undone : (p : ℕ) (xs : List Cell) → AreCellsOf p xs → AreCellsOf p (undone_in xs)
cells_undone p xs h = all_undone (IsCellOf p) xs (λ x c. record { tile = undone_words p x.saved x.tile c.tile c.saved; saved = tt }) h

-- ---- slot by slot
abbrev undone_cell : Option Cell → Option Cell
undone_cell None = None
undone_cell (Some x) = if stays x then Some (undone x) else None

cell_in-undone : (xs : List Cell) (q : Slot) → AreOrdered xs → cell_in (undone_in xs) q ≡ undone_cell (cell_in xs q)
cell_in-undone [] q o = refl
cell_in-undone (x ∷ xs) q o =
    let rest = cell_in-undone xs q o.1 in
    ⊎_elim
    (λ (s : same_slot q x.slot ≡ true).
    let none : cell_in xs q ≡ None = ap (cell_in xs) (same_slot-true q x.slot s) ∙ after_none x.slot xs o.0 in
    ⊎_elim
    (λ (e : stays x ≡ true). rw e (rw s (rw e refl)))
    (λ (e : stays x ≡ false). rw e (rw s (rw e (rest ∙ ap undone_cell none))))
    (cases_Bool (stays x)))
    (λ (s : same_slot q x.slot ≡ false).
    ⊎_elim
    (λ (e : stays x ≡ true). rw e (rw s rest))
    (λ (e : stays x ≡ false). rw e (rw s rest))
    (cases_Bool (stays x)))
    (cases_Bool (same_slot q x.slot))

back_to : (c : Slot) (t : Tile) (sv : Option Tile) (fr : Bool)
    → tile_of (undone_cell (Some (record { slot = c; tile = t; saved = sv; fresh = fr }))) ≡ or_else sv (if fr then None else Some t)
back_to c t (Some u) true = refl
back_to c t (Some u) false = refl
back_to c t None true = refl
back_to c t None false = refl

tile_undone : (o : Option Cell) → tile_of (undone_cell o) ≡ or_else (saved_of o) (if fresh_of o then None else tile_of o)
tile_undone None = refl
tile_undone (Some x) = back_to x.slot x.tile x.saved x.fresh

saved_undone : (o : Option Cell) → saved_of (undone_cell o) ≡ None
saved_undone None = refl
saved_undone (Some x) = ⊎_elim (λ (e : stays x ≡ true). rw e refl) (λ (e : stays x ≡ false). rw e refl) (cases_Bool (stays x))

fresh_undone : (o : Option Cell) → fresh_of (undone_cell o) ≡ false
fresh_undone None = refl
fresh_undone (Some x) = ⊎_elim (λ (e : stays x ≡ true). rw e refl) (λ (e : stays x ≡ false). rw e refl) (cases_Bool (stays x))

pub tiles_in-undone : (xs : List Cell) (q : Slot) → AreOrdered xs → tiles_in (undone_in xs) q ≡ or_else (saved_in xs q) (if fresh_in xs q then None else tiles_in xs q)
tiles_in-undone xs q o = ap tile_of (cell_in-undone xs q o) ∙ tile_undone (cell_in xs q)

pub saved_in-undone : (xs : List Cell) (q : Slot) → AreOrdered xs → saved_in (undone_in xs) q ≡ None
saved_in-undone xs q o = ap saved_of (cell_in-undone xs q o) ∙ saved_undone (cell_in xs q)

pub fresh_in-undone : (xs : List Cell) (q : Slot) → AreOrdered xs → fresh_in (undone_in xs) q ≡ false
fresh_in-undone xs q o = ap fresh_of (cell_in-undone xs q o) ∙ fresh_undone (cell_in xs q)
