-- What the keeper's fields say and keep.
use Rattle.std.specs.Prelude.{◌≡◌, ◌+◌, ◌<◌, ◌≤◌, ◌^◌, ℕ, suc, Bool, true, false, nat_le, nat_lt, if◌then◌else◌, Option, Some, None, List, [], ◌∷◌, length, vec_len, vec_capacity}
use Rattle.rank_machine.specs.declared.record.Rec.{Rec}
use Rattle.rank_machine.specs.declared.record.Loss.{Loss}
use Rattle.block_world.specs.declared.keeper.Keeper.TheInside.{Inside}
use Rattle.run_laws.specs.Due.{numbered, some_at, has_fallen}
use Rattle.block_world.specs.Log.{Log}

abbrev pub log_of : Inside → Log
log_of k = record { losses = k.losses.items; journal = k.journal.items; room = k.room }

-- the first number of which no loss has fallen
abbrev pub next_from : List Rec → ℕ
next_from journal = if has_fallen journal then suc (numbered journal) else numbered journal

-- how many losses fall at a number or later
abbrev pub left_from : List Loss → ℕ → ℕ
left_from [] n = 0
left_from (l ∷ ls) n = if nat_le n l.at then suc (left_from ls n) else left_from ls n

-- a number before the earliest so far, if there is one
abbrev pub comes_first : ℕ → Option ℕ → Bool
comes_first at None = true
comes_first at (Some other) = nat_lt at other

-- the least number, from n on, at which a loss falls
pub record IsLeastAt (ls : List Loss) (n at : ℕ) : Type 0 where
  pub late : n ≤ at
  pub some : some_at ls at ≡ true
  pub least : (k : ℕ) → n ≤ k → k < at → some_at ls k ≡ false

abbrev pub IsNextAt : List Loss → ℕ → Option ℕ → Type 0
IsNextAt ls n None = (k : ℕ) → n ≤ k → some_at ls k ≡ false
IsNextAt ls n (Some at) = IsLeastAt ls n at

-- the numbered records that there is room for, and all losses that have not fallen, fit in without more memory; the number of
-- numbered records fits 32 bits
pub record IsKept (k : Inside) : Type 0 where
  pub len_is : length k.journal.items ≡ vec_len k.journal
  pub steps_are : numbered k.journal.items ≡ k.steps
  pub has_room : (vec_len k.journal + k.room) + left_from k.losses.items (next_from k.journal.items) ≤ vec_capacity k.journal
  pub all_fit : length k.losses.items ≤ vec_capacity k.journal
  pub few : k.steps + k.room < 2 ^ 32
  pub next_is : IsNextAt k.losses.items (next_from k.journal.items) k.next
