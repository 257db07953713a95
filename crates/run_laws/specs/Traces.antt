-- How many records a run makes, and how many words its ranks hold on the way.
use Rattle.std.specs.Prelude.{◌≡◌, ◌<◌, ◌≤◌, ◌+◌, ◌*◌, ℕ, zero, suc, Bool, true, false, if◌then◌else◌, Option, Some, None, List, [], ◌∷◌, ◌++◌}
use Rattle.rank_machine.specs.declared.record.Rec.{Rec}
use Rattle.rank_machine.specs.declared.record.Rec.TheVariants as r
use Rattle.rank_machine.specs.declared.mark.Mark.{Mark}
use Rattle.rank_machine.specs.declared.layout.Layout.{Layout}
use Rattle.rank_machine.specs.Setting.{Job, Setting, ranks, layout, group_count}
use Rattle.rank_machine.specs.State.{State, opened}
use Rattle.rank_machine.specs.Effect.{after, is_live_matrix, is_live_list}
use Rattle.rank_machine.specs.Held.{AreHeld}
use Rattle.run_laws.specs.Due.{numbered, ahead}
use Rattle.run_laws.specs.Cuts.{MayGoOn}

-- ---- from commit to commit
abbrev pub one_more : Option ℕ → Option ℕ
one_more (Some n) = Some (n + 1)
one_more None = None

-- how many records were made since the last commit or the opening, where no loss came since
abbrev pub count_after : Option ℕ → Rec → Option ℕ
count_after count (r.Commit mark healed) = Some 0
count_after count (r.Lose rank) = None
count_after count (r.Feed rank slot) = one_more count
count_after count (r.Kernel rank kernel) = one_more count
count_after count (r.Send from to x) = one_more count
count_after count (r.Recv to from x) = one_more count
count_after count (r.Save rank slot) = one_more count
count_after count (r.Take rank slot) = one_more count
count_after count r.Restore = one_more count
count_after count (r.Spawn rank) = one_more count

abbrev pub IsShort : ℕ → Option ℕ → Rec → Type 0
IsShort phase (Some n) (r.Commit mark healed) = n + 1 ≤ phase
IsShort phase count x = Unit {0}

abbrev pub AreShortFrom : ℕ → Option ℕ → List Rec → Type 0
AreShortFrom phase count [] = Unit {0}
AreShortFrom phase count (x ∷ xs) = IsShort phase count x × AreShortFrom phase (count_after count x) xs

-- between two commits, or the opening and a commit, with no loss and no other commit between stand at most so many records, the later one counted
abbrev pub AreShort : ℕ → List Rec → Type 0
AreShort phase journal = AreShortFrom phase (Some 0) journal

-- a healed commit is among the next n records, unless a loss comes before it; or they are not all there yet, where the run is under way
abbrev pub HealsWithin : Bool → ℕ → List Rec → Type 0
HealsWithin under_way zero xs = ⊥
HealsWithin under_way (suc n) [] = under_way ≡ true
HealsWithin under_way (suc n) (r.Lose rank ∷ xs) = Unit {0}
HealsWithin under_way (suc n) (r.Commit mark true ∷ xs) = Unit {0}
HealsWithin under_way (suc n) (x ∷ xs) = HealsWithin under_way n xs

abbrev pub is_loss : Rec → Bool
is_loss (r.Lose rank) = true
is_loss (r.Feed rank slot) = false
is_loss (r.Kernel rank kernel) = false
is_loss (r.Send from to x) = false
is_loss (r.Recv to from x) = false
is_loss (r.Save rank slot) = false
is_loss (r.Take rank slot) = false
is_loss r.Restore = false
is_loss (r.Spawn rank) = false
is_loss (r.Commit mark healed) = false

abbrev pub HealFrom : Bool → ℕ → Setting → List Rec → List Rec → Type 0
HealFrom under_way recovery s before [] = Unit {0}
HealFrom under_way recovery s before (x ∷ xs) = (is_loss x ≡ true → MayGoOn s (before ++ x ∷ []) → HealsWithin under_way recovery xs) × HealFrom under_way recovery s (before ++ x ∷ []) xs

-- after each loss from which the run may go on, with no further loss within so many records, a healed commit is among these
abbrev pub AllHeal : ℕ → Setting → List Rec → Type 0
AllHeal recovery s journal = HealFrom false recovery s [] journal

-- the same so far
abbrev pub AllHealSoFar : ℕ → Setting → List Rec → Type 0
AllHealSoFar recovery s journal = HealFrom true recovery s [] journal

-- ---- words
abbrev pub AllHold : Setting → State → Type 0
AllHold s st = (rank : ℕ) → rank < ranks s → AreHeld s st rank

abbrev pub HoldFrom : Setting → State → List Rec → Type 0
HoldFrom s st [] = AllHold s st
HoldFrom s st (x ∷ xs) = AllHold s st × HoldFrom s (after s st x) xs

-- in every state of the run each rank holds at most the words that it may
abbrev pub AlwaysHold : Setting → List Rec → Type 0
AlwaysHold s journal = HoldFrom s (opened s) journal

-- ---- all records
-- the records made, and those that the losses still to come may cost
abbrev pub spent : ℕ → Setting → List Rec → ℕ
spent cost s journal = numbered journal + ahead s journal * cost

-- ---- a recovery
-- the records that bring back the strips of a matrix and the ranks of a list, in the worst case
abbrev pub matrix_most : Layout → ℕ
matrix_most d = ((d.grid.p * group_count d) * d.grid.f) * ((9 * d.grid.q + 9 * d.grid.f) + 3)

abbrev pub list_most : Layout → ℕ
list_most d = (2 * d.grid.p) * d.grid.f

abbrev pub recovery_of : Setting → Mark → List Job → ℕ
recovery_of s mark [] = 0
recovery_of s mark (j ∷ js) =
    ((if is_live_matrix s mark j.line then matrix_most (layout s j.line) else 0)
    + (if is_live_list s mark j.line then list_most (layout s j.factors) else 0)) + recovery_of s mark js

-- the most records of a recovery under a mark: the restore, the commit, the ranks that come again, and what is live
abbrev pub recovery_under : Setting → Mark → ℕ
recovery_under s mark = (2 + ranks s) + recovery_of s mark s.jobs
