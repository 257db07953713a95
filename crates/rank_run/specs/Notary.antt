-- A notary, who hears of one step after another.
use Rattle.std.specs.Prelude.{◌≡◌, Bool, false, List, [], ◌∷◌}
use Rattle.rank_run.specs.Action.{Action}

module _ {Op Piece N : Type 0} where
  -- a notary that has heard of these steps
  abbrev pub notary_after : (N → Action Op Piece → N) → N → List (Action Op Piece) → N
  notary_after noting n [] = n
  notary_after noting n (t ∷ ts) = notary_after noting (noting n t) ts

  -- nothing was due before any of these steps
  abbrev pub NotDue : (N → Action Op Piece → N) → (N → Bool) → N → List (Action Op Piece) → Type 0
  NotDue noting is_due n [] = Unit {0}
  NotDue noting is_due n (t ∷ ts) = (is_due n ≡ false) × NotDue noting is_due (noting n t) ts
