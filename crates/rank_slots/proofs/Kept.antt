-- The cells that are kept: those that pass a test, each with nothing saved and not fresh.
use Rattle.std.proofs.Common.{◌≡◌, ℕ, Bool, true, false, not, None, List, [], ◌∷◌, ◌++◌, length, map, take, drop, refl, sym, ap, ◌∙◌, ⊎_elim}
use Rattle.std.specs.List.{filter}
use Rattle.std.proofs.Math.Seq.{take-append_seam}
use Rattle.std.proofs.lemmas.Bool.{cases_Bool}
use Rattle.rank_machine.specs.declared.slot.Slot.{Slot}
use Rattle.rank_slots.specs.declared.cells.Cell.{Cell}
use Rattle.rank_slots.specs.Cells.{judged, kept_in}

abbrev pub settled : Cell → Cell
settled x = record { slot = x.slot; tile = x.tile; saved = None; fresh = false }

-- cells that are judged by a test, and those of them that are fresh let go
pub judged_are_kept : (test : Slot → Bool) (xs : List Cell) → filter (λ (x : Cell). not x.fresh) (map (judged test) xs) ≡ kept_in test xs
judged_are_kept test [] = refl
judged_are_kept test (x ∷ xs) =
    ⊎_elim
    (λ (e : test x.slot ≡ true). rw e (ap (λ l. settled x ∷ l) (judged_are_kept test xs)))
    (λ (e : test x.slot ≡ false). rw e (judged_are_kept test xs))
    (cases_Bool (test x.slot))

-- a list that was lent as a slice comes back whole
pub lent_back : {X : Type 0} (xs old : List X) (n : ℕ) → length xs ≡ n → take n (xs ++ drop (length xs) old) ≡ xs
lent_back xs old n e = ap (λ k. take k (xs ++ drop (length xs) old)) (sym e) ∙ take-append_seam xs (drop (length xs) old)

-- cells that were lent to be judged, and those that are fresh let go
pub kept_of_lent : (test : Slot → Bool) (old lent zs rest : List Cell) (n : ℕ) → lent ≡ old → zs ≡ map (judged test) lent → length zs ≡ n
    → filter (λ (x : Cell). not x.fresh) (take n (zs ++ drop (length zs) rest)) ≡ kept_in test old
kept_of_lent test old lent zs rest n same judge long =
    ap (λ l. filter (λ (x : Cell). not x.fresh) l) (lent_back zs rest n long ∙ judge ∙ ap (map (judged test)) same) ∙ judged_are_kept test old
