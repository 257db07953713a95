-- Which losses have fallen in a journal in the making, and which are still to fall.
use Rattle.std.specs.Prelude.{◌+◌, ℕ, Bool, true, false, not, ◌&&◌, ◌||◌, ◌==◌, if◌then◌else◌, List, [], ◌∷◌, length, filter, nat_lt}
use Rattle.rank_machine.specs.declared.record.Rec.{Rec}
use Rattle.rank_machine.specs.declared.record.Loss.{Loss}
use Rattle.rank_machine.specs.Setting.{Setting}
use Rattle.rank_machine.specs.Losses.{is_numbered, AreDue}
use Rattle.rank_machine.specs.Legal.{IsLegal}

-- how many numbered records a journal has, which is the number of the next one
abbrev pub numbered : List Rec → ℕ
numbered journal = length (filter is_numbered journal)

-- whether the last record of a list is a loss, and b where the list is empty
abbrev pub ends_in : Bool → List Rec → Bool
ends_in b [] = b
ends_in b (x ∷ xs) = ends_in (not (is_numbered x)) xs

-- the losses of the next number have fallen
abbrev pub has_fallen : List Rec → Bool
has_fallen journal = ends_in false journal

-- a loss of a later record, or of the next one, that has not fallen
abbrev pub is_ahead : ℕ → Bool → Loss → Bool
is_ahead n fell l = nat_lt n l.at || ((l.at == n) && not fell)

abbrev pub ahead_of : List Loss → ℕ → Bool → ℕ
ahead_of [] n fell = 0
ahead_of (l ∷ ls) n fell = (if is_ahead n fell l then 1 else 0) + ahead_of ls n fell

-- how many losses are still to fall, if the run goes on for long enough
abbrev pub ahead : Setting → List Rec → ℕ
ahead s journal = ahead_of s.losses (numbered journal) (has_fallen journal)

-- some loss falls directly before the record of a number
abbrev pub some_at : List Loss → ℕ → Bool
some_at [] n = false
some_at (l ∷ ls) n = (l.at == n) || some_at ls n

-- some loss of the next number has not fallen
abbrev pub is_due_in : List Loss → List Rec → Bool
is_due_in ls journal = not (has_fallen journal) && some_at ls (numbered journal)

-- the losses of each number below the next one stand directly before its record, in script order; those of the next number stand
-- at the end where they have fallen; no others stand anywhere
abbrev pub AreInPlace : Setting → List Rec → Type 0
AreInPlace s journal = AreDue s (has_fallen journal) journal

-- a journal in the making: each record is legal, and each loss stands directly before its record, those of the next record at
-- the end exactly where they have fallen
pub record IsRunning (s : Setting) (journal : List Rec) : Type 0 where
  pub legal : IsLegal s journal
  pub in_place : AreInPlace s journal
