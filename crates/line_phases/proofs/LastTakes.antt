-- The last take that passes a test, where those that pass have one tile.
use Rattle.std.proofs.Common.{◌≡◌, ℕ, zero, suc, ◌<◌, ◌==◌, Bool, true, false, ◌&&◌, List, [], ◌∷◌, length, get_or, Option, Some, None, refl, ap, ◌∙◌, arith, ◌⊎◌, inl, inr}
use Rattle.std.specs.Prelude.{if◌then◌else◌}
use Rattle.std.specs.List.{All, Contains}
use Rattle.std.proofs.lemmas.List.Elements.{All-head, All-tail}
use Rattle.rank_machine.specs.declared.slot.Slot.{Slot}
use Rattle.rank_machine.specs.declared.slot.Tile.{Tile}
use Rattle.rank_machine.specs.State.{Took, same_slot, or_else}
use Rattle.rank_machine.specs.Printed.{last_take}

-- the takes of a line from a slot of a rank
abbrev pub is_take_of : ℕ → ℕ → Slot → Took → Bool
is_take_of line rank slot t = ((t.line == line) && (t.rank == rank)) && same_slot t.slot slot

either : (rest : Option Tile) (b : Bool) (own : Option Tile) (t : Tile) → (rest ≡ Some t) ⊎ (rest ≡ None) → (b ≡ true → own ≡ Some t)
    → (or_else rest (if b then own else None) ≡ Some t) ⊎ (or_else rest (if b then own else None) ≡ None)
either rest b own t (inl e) h = inl (rw e refl)
either rest true own t (inr e) h = inl (rw e (h refl))
either rest false own t (inr e) h = inr (rw e refl)

own_or_later : (rest own : Option Tile) (t : Tile) → (rest ≡ Some t) ⊎ (rest ≡ None) → own ≡ Some t → or_else rest own ≡ Some t
own_or_later rest own t (inl e) h = rw e refl
own_or_later rest own t (inr e) h = rw e h

abbrev pub Agrees : (Took → Bool) → Tile → Took → Type 0
Agrees test t u = test u ≡ true → u.tile ≡ Some t

tile_or_none : (test : Took → Bool) (t : Tile) (ts : List Took) → All (Agrees test t) ts → (last_take ts test ≡ Some t) ⊎ (last_take ts test ≡ None)
tile_or_none test t [] agree = inr refl
tile_or_none test t (u ∷ us) agree = either (last_take us test) (test u) u.tile t (tile_or_none test t us (All-tail (Agrees test t) u us agree)) (All-head (Agrees test t) u us agree)

take_at : (test : Took → Bool) (t : Tile) (ts : List Took) (k : ℕ) (u : Took) → All (Agrees test t) ts → k < length ts → get_or ts k u ≡ u → test u ≡ true → last_take ts test ≡ Some t
take_at test t [] k u agree l e passes = absurd (omega arith)
take_at test t (v ∷ vs) zero u agree l e passes =
    let p : test v ≡ true = ap test e ∙ passes in
    own_or_later (last_take vs test) (if test v then v.tile else None) t (tile_or_none test t vs (All-tail (Agrees test t) v vs agree)) (rw p (All-head (Agrees test t) v vs agree p))
take_at test t (v ∷ vs) (suc k) u agree l e passes =
    own_or_later_rest (last_take vs test) (if test v then v.tile else None) t (take_at test t vs k u (All-tail (Agrees test t) v vs agree) (omega arith) e passes)
  where
    own_or_later_rest : (rest own : Option Tile) (t : Tile) → rest ≡ Some t → or_else rest own ≡ Some t
    own_or_later_rest rest own t e = rw e refl

pub last_take-agreed : (test : Took → Bool) (t : Tile) (ts : List Took) (u : Took) → All (Agrees test t) ts → Contains ts u → test u ≡ true → last_take ts test ≡ Some t
last_take-agreed test t ts u agree h passes = take_at test t ts h.0 u agree h.1 h.2 passes
