-- What has been mended of what lost ranks held, by rounds of a recovery.
use Rattle.std.specs.Prelude.{◌≡◌, ◌<◌, ◌≤◌, ◌+◌, ◌||◌, ℕ, Bool, true, false, List, [], ◌∷◌, length}
use Rattle.rank_machine.specs.Setting.{Setting, layout, is_matrix, factored, group_count, grid_numbered}
use Rattle.rank_machine.specs.State.{State}
use Rattle.rank_machine.specs.Effect.{is_live_matrix, is_live_list}
use Rattle.script_lines.specs.declared.lines.Line.{Line}
use Rattle.script_lines.specs.Lines.{IsTableOf, AreSound}
use Rattle.round_laws.specs.Turns.{IsGridOf}
use Rattle.recovery_laws.specs.Healed.{IsSensible}
use Rattle.recovery_rounds.specs.Rows.{IsHealing, IsRowHealed, IsListHealed}
use Rattle.recovery_counts.specs.Counted.{job_at}
use Rattle.run_laws.specs.Due.{numbered}
use Rattle.run_laws.specs.Cuts.{IsWithin}
use Rattle.block_world.specs.World.{WorldView, setting_in, state_of}
use Rattle.world_heal.specs.Ways.{IsUnderWay, IsHit, rest_of}
use Rattle.world_heal.specs.Costs.{KeepsRoomy, HoldsMending}

-- what a recovery asks of the setting of a run, and an accepted script gives: each matrix lies on the grid of its number, which is one of the run; and what is
-- factored is a matrix
pub record IsMendable (s : Setting) : Type 0 where
  pub sensible : IsSensible s
  pub there : (line : ℕ) → is_matrix s line ≡ true → (layout s line).desc.ctxt < length s.grids
  pub on_grid : (line : ℕ) → is_matrix s line ≡ true → (layout s line).grid ≡ grid_numbered s (layout s line).desc.ctxt
  pub of_run : (line : ℕ) → is_matrix s line ≡ true → IsGridOf s (layout s line).grid
  pub matrices : (line : ℕ) → 0 < factored s line → is_matrix s (factored s line) ≡ true

-- one of some is true
abbrev pub some_in : List Bool → Bool
some_in [] = false
some_in (b ∷ bs) = b || some_in bs

-- a table of the lines of a setting
pub record IsTable (s : Setting) (table : List Line) : Type 0 where
  pub lines : IsTableOf s.jobs table
  pub sound : AreSound table

-- the rounds of a recovery may come: every rank is live again, and no process row is beyond repair
pub record IsMending (w : WorldView) : Type 0 where
  pub mendable : IsMendable (setting_in w)
  pub healing : IsHealing (setting_in w) (rest_of w) (state_of w)
  pub within : IsWithin (setting_in w) (state_of w)

-- ---- what is as at the last commit
-- the strips of a process row in the first n groups of a matrix
abbrev pub AreGroupsHealed : ℕ → ℕ → ℕ → Setting → State → State → Type 0
AreGroupsHealed line row n s last now = (group : ℕ) → group < n → IsRowHealed s last now line row group

-- all groups of the first n process rows
abbrev pub AreRowsHealed : ℕ → ℕ → Setting → State → State → Type 0
AreRowsHealed line n s last now = (row : ℕ) → row < n → AreGroupsHealed line row (group_count (layout s line)) s last now

abbrev pub IsMatrixHealed : ℕ → Setting → State → State → Type 0
IsMatrixHealed line s last now = AreRowsHealed line (layout s line).grid.p s last now

-- of the first n lines, the live matrices on the grid of a number
abbrev pub AreMatricesHealed : ℕ → ℕ → Setting → State → State → Type 0
AreMatricesHealed number n s last now =
    (i : ℕ) → i < n → is_live_matrix s last.mark (job_at s i).line ≡ true → (layout s (job_at s i).line).desc.ctxt ≡ number → IsMatrixHealed (job_at s i).line s last now

-- and the live lists
abbrev pub AreListsHealed : ℕ → ℕ → Setting → State → State → Type 0
AreListsHealed number n s last now =
    (i : ℕ) → i < n → is_live_list s last.mark (job_at s i).line ≡ true → (layout s (job_at s i).factors).desc.ctxt ≡ number → IsListHealed s last now (job_at s i).line

-- all that is live on the grid of a number
pub record IsGridHealed (number : ℕ) (s : Setting) (last now : State) : Type 0 where
  pub matrices : AreMatricesHealed number (length s.jobs) s last now
  pub lists : AreListsHealed number (length s.jobs) s last now

-- on the first n grids
abbrev pub AreGridsHealed : ℕ → Setting → State → State → Type 0
AreGridsHealed n s last now = (number : ℕ) → number < n → IsGridHealed number s last now

-- what was as at the last commit in one state is so in another
pub record KeepsHealed (s : Setting) (last before now : State) : Type 0 where
  pub rows : (line row group : ℕ) → is_live_matrix s last.mark line ≡ true → row < (layout s line).grid.p → group < group_count (layout s line) → IsRowHealed s last before line row group → IsRowHealed s last now line row group
  pub lists : (line : ℕ) → is_live_list s last.mark line ≡ true → IsListHealed s last before line → IsListHealed s last now line

-- rounds of at most so many records were carried out: something is healed, what was healed before still is, and more rounds may come
pub record HasMended (most : ℕ) (Healed : Setting → State → State → Type 0) (old new : WorldView) : Type 0 where
  pub under_way : IsUnderWay old new
  pub few : numbered new.journal ≤ numbered old.journal + most
  pub mending : IsMending new
  pub keeps : KeepsHealed (setting_in old) (rest_of old) (state_of old) (state_of new)
  pub healed : Healed (setting_in old) (rest_of old) (state_of new)
  pub roomy : KeepsRoomy old new
  pub holds : HoldsMending old new

-- rounds of at most so many records were carried out, and a loss is due
pub record IsHitMending (most : ℕ) (old new : WorldView) : Type 0 where
  pub hit : IsHit most old new
  pub holds : HoldsMending old new
