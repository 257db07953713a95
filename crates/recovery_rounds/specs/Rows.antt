-- A round of a recovery, from a state of the machine.
use Rattle.std.specs.Prelude.{◌≡◌, ◌≢◌, ℕ, ◌+◌, ◌<◌, true, false, nat_lt, List, [], ◌∷◌, ◌++◌, ◌*◌}
use Rattle.cauchy_code.specs.Cauchy.{IsDecoding}
use Rattle.blacs_grid.specs.declared.Grid.{Grid}
use Rattle.blacs_grid.specs.Places.{width, rank_at, is_member}
use Rattle.rank_machine.specs.declared.slot.Slot.{Slot}
use Rattle.rank_machine.specs.declared.slot.SlotKind.TheVariants.{Data, Code, Low, Open, Pivots, Work}
use Rattle.rank_machine.specs.declared.record.Rec.{Rec}
use Rattle.rank_machine.specs.declared.record.Rec.TheVariants as r
use Rattle.rank_machine.specs.Setting.{Setting, ranks, layout, factored, group_count}
use Rattle.rank_machine.specs.State.{State, same_kind, same_slot}
use Rattle.rank_machine.specs.Effect.{is_live_matrix, is_live_list}
use Rattle.rank_machine.specs.Legal.{some_lost, lost_columns}
use Rattle.rank_machine.specs.CodeLaw.{slot_at, has_low, is_open_group}
use Rattle.round_laws.specs.Turns.{IsQuiet}
use Rattle.recovery_laws.specs.Healed.{FallsBack, IsSensible, IsLast}
use Rattle.recovery_rounds.specs.Mending.{Events, brought, row_data_events, row_code_events, IsCopiedTo}

abbrev pub row_events : Setting → State → State → ℕ → ℕ → ℕ → (ℕ → List ℕ) → Events
row_events s last now line row group coefficients =
    (let d = layout s line in
    let lost = lost_columns now d.grid row in
    row_data_events s last.mark line d row group lost coefficients ++ row_code_events s last.mark line d row group lost)

-- a state in the midst of a recovery, and that of the last commit: every rank is live, nothing is on its way, some rank counts as lost, and what ranks
-- that were not lost hold is what they held
pub record IsHealing (s : Setting) (last now : State) : Type 0 where
  pub sensible : IsSensible s
  pub known : IsLast s last
  pub back : FallsBack last now
  pub live : (rank : ℕ) → now.live rank ≡ nat_lt rank (ranks s)
  pub quiet : IsQuiet s now
  pub some : some_lost s now ≡ true
  pub kept : (rank : ℕ) (slot : Slot) → rank < ranks s → now.lost rank ≡ false → same_kind slot.kind Work ≡ false → now.tiles rank slot ≡ last.tiles rank slot

-- a list for each lost data column of a row that decodes it
pub record AreCoefficients (s : Setting) (now : State) (g : Grid) (row : ℕ) (coefficients : ℕ → List ℕ) : Type 0 where
  pub decode : (which : ℕ) → which < g.q → now.lost (rank_at g row which) ≡ true → IsDecoding s.modulus s.inverse g.q (lost_columns now g row) which (coefficients which)

-- the ranks of a row hold their strips of a group as at the last commit
pub record IsRowHealed (s : Setting) (last now : State) (line row group : ℕ) : Type 0 where
  pub data_strips : (col : ℕ) → col < (layout s line).grid.q → now.tiles (rank_at (layout s line).grid row col) (slot_at Data line group) ≡ last.tiles (rank_at (layout s line).grid row col) (slot_at Data line group)
  pub code_strips : (c : ℕ) → c < (layout s line).grid.f → now.tiles (rank_at (layout s line).grid row ((layout s line).grid.q + c)) (slot_at Code line group) ≡ last.tiles (rank_at (layout s line).grid row ((layout s line).grid.q + c)) (slot_at Code line group)
  pub low_strips : (c : ℕ) → c < (layout s line).grid.f → has_low s last.mark line group ≡ true → now.tiles (rank_at (layout s line).grid row ((layout s line).grid.q + c)) (slot_at Low line group) ≡ last.tiles (rank_at (layout s line).grid row ((layout s line).grid.q + c)) (slot_at Low line group)
  pub open_strips : (c : ℕ) → c < (layout s line).grid.f → is_open_group s last.mark line (layout s line) group ≡ true → now.tiles (rank_at (layout s line).grid row ((layout s line).grid.q + c)) (slot_at Open line 0) ≡ last.tiles (rank_at (layout s line).grid row ((layout s line).grid.q + c)) (slot_at Open line 0)

-- what a round on a row and a group leaves alone: ranks that are not lost in that row, and all slots but its own and Work
pub record LeavesOthers (s : Setting) (last now then : State) (line row group : ℕ) : Type 0 where
  pub other_ranks : (r : ℕ) (slot : Slot) → r < ranks s → ((col : ℕ) → col < width (layout s line).grid → now.lost (rank_at (layout s line).grid row col) ≡ true → (r ≡ rank_at (layout s line).grid row col → ⊥)) → then.tiles r slot ≡ now.tiles r slot
  pub other_slots : (r : ℕ) (slot : Slot) → r < ranks s → same_slot slot (slot_at Data line group) ≡ false → same_slot slot (slot_at Code line group) ≡ false → same_slot slot (slot_at Low line group) ≡ false → same_slot slot (slot_at Open line 0) ≡ false → same_slot slot brought ≡ false → then.tiles r slot ≡ now.tiles r slot
  pub open_panel : (r : ℕ) → r < ranks s → is_open_group s last.mark line (layout s line) group ≡ false → then.tiles r (slot_at Open line 0) ≡ now.tiles r (slot_at Open line 0)

-- the ranks of a row hold a list as at the last commit
pub record IsListHealed (s : Setting) (last now : State) (line : ℕ) : Type 0 where
  pub same : (place : ℕ) → place < (layout s (factored s line)).grid.p * width (layout s (factored s line)).grid → now.tiles ((layout s (factored s line)).grid.first + place) (slot_at Pivots line 0) ≡ last.tiles ((layout s (factored s line)).grid.first + place) (slot_at Pivots line 0)

-- all strips and lists of what is live are as at the last commit
pub record IsAllHealed (s : Setting) (last now : State) : Type 0 where
  pub rows : (line row group : ℕ) → is_live_matrix s last.mark line ≡ true → row < (layout s line).grid.p → group < group_count (layout s line) → IsRowHealed s last now line row group
  pub lists : (line : ℕ) → is_live_list s last.mark line ≡ true → IsListHealed s last now line

-- spawns of some ranks
abbrev pub spawn_records : List ℕ → List Rec
spawn_records [] = []
spawn_records (rank ∷ rs) = r.Spawn rank ∷ spawn_records rs

-- two strips' places differ: in the matrix, the process row or the group
pub record IsElsewhere (line row group other_line other_row other_group : ℕ) : Type 0 where
  pub differ : other_line ≡ line → other_group ≡ group → other_row ≢ row

-- copies of a list, from and to these ranks: each from a rank of the grid that was not lost to one that was
abbrev pub GoToLost : State → Grid → List (ℕ × ℕ) → Type 0
GoToLost now g [] = Unit {0}
GoToLost now g (x ∷ xs) = ((is_member g x.0 ≡ true) × (now.lost x.0 ≡ false) × (is_member g x.1 ≡ true) × (now.lost x.1 ≡ true)) × GoToLost now g xs

-- and each lost rank of the grid gets one
pub record ReachAllLost (now : State) (g : Grid) (pairs : List (ℕ × ℕ)) : Type 0 where
  pub go : GoToLost now g pairs
  pub each : (r : ℕ) → is_member g r ≡ true → now.lost r ≡ true → IsCopiedTo r pairs
