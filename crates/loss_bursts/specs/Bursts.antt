-- Losses that come so close to one another that no recovery need end between them.
use Rattle.std.specs.Prelude.{Option, Some, None, ◌≡◌, ◌+◌, ◌≤◌, ◌<◌, ℕ, Bool, false, ◌==◌, ◌||◌, nat_le, if◌then◌else◌, List, [], ◌∷◌, ◌++◌, length}
use Rattle.field_core.specs.Sums.{sum_to}
use Rattle.blacs_grid.specs.declared.Grid.{Grid}
use Rattle.blacs_grid.specs.Places.{width, rank_at}
use Rattle.rank_machine.specs.declared.record.Loss.{Loss}
use Rattle.rank_machine.specs.Setting.{Setting, grid_numbered}

-- ---- by rising record; losses of one record in script order
abbrev pub put_in : Loss → List Loss → List Loss
put_in l [] = l ∷ []
put_in l (m ∷ ms) = if nat_le l.at m.at then l ∷ m ∷ ms else m ∷ put_in l ms

abbrev pub in_time : List Loss → List Loss
in_time [] = []
in_time (l ∷ ls) = put_in l (in_time ls)

-- ---- bursts: the sorted losses, cut wherever the next one comes more than so many records later
abbrev pub with_next : Loss → List (List Loss) → List (List Loss)
with_next l [] = (l ∷ []) ∷ []
with_next l (burst ∷ more) = (l ∷ burst) ∷ more

abbrev pub bursts_of : ℕ → List Loss → List (List Loss)
bursts_of recovery [] = []
bursts_of recovery (l ∷ []) = (l ∷ []) ∷ []
bursts_of recovery (l ∷ m ∷ ls) = if nat_le m.at (l.at + recovery) then with_next l (bursts_of recovery (m ∷ ls)) else (l ∷ []) ∷ bursts_of recovery (m ∷ ls)

abbrev pub bursts : ℕ → List Loss → List (List Loss)
bursts recovery ls = bursts_of recovery (in_time ls)

-- ---- the same as longest parts
-- neighbours are at most so many records apart
abbrev pub AreClose : ℕ → List Loss → Type 0
AreClose recovery [] = Unit {0}
AreClose recovery (l ∷ []) = Unit {0}
AreClose recovery (l ∷ m ∷ ls) = (m.at ≤ l.at + recovery) × AreClose recovery (m ∷ ls)

-- a part of the sorted losses in which neighbours are close, and which no loss before it or after it makes longer
pub record IsBurst (recovery : ℕ) (ls burst : List Loss) : Type 0 where
  pub before : List Loss
  pub later : List Loss
  pub part : in_time ls ≡ before ++ (burst ++ later)
  pub some : burst ≡ [] → ⊥
  pub close : AreClose recovery burst
  pub first : (rest : List Loss) (l : Loss) → before ≡ rest ++ l ∷ [] → AreClose recovery (l ∷ burst) → ⊥
  pub last : (rest : List Loss) (l : Loss) → later ≡ l ∷ rest → AreClose recovery (burst ++ l ∷ []) → ⊥

-- ---- what a burst does to a process row
abbrev pub is_hit : List Loss → ℕ → Bool
is_hit [] rank = false
is_hit (l ∷ ls) rank = (rank == l.rank) || is_hit ls rank

-- how many different ranks of a process row some losses hit
abbrev pub hits_in : List Loss → Grid → ℕ → ℕ
hits_in ls g row = sum_to (width g) (λ col. if is_hit ls (rank_at g row col) then 1 else 0)

-- in each burst at most as many different ranks of each process row of each grid are lost as the grid has code columns
abbrev pub AreSurvivable : Setting → ℕ → Type 0
AreSurvivable s recovery = (burst : List Loss) (number row : ℕ) → IsBurst recovery s.losses burst → number < length s.grids → row < (grid_numbered s number).p
    → hits_in burst (grid_numbered s number) row ≤ (grid_numbered s number).f

-- ---- spares
-- so many spares, or no limit, are no fewer than so many losses
abbrev pub HasSparesOf : Option ℕ → ℕ → Type 0
HasSparesOf None losses = Unit {0}
HasSparesOf (Some n) losses = losses ≤ n
