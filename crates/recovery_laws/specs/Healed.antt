-- States between a loss and its healed commit, and the state of the last commit.
use Rattle.std.specs.Prelude.{◌≡◌, ℕ, ◌+◌, ◌*◌, ◌<◌, ◌≤◌, Bool, true, false, None, All}
use Rattle.array_desc.specs.Descriptors.{IsDesc}
use Rattle.blacs_grid.specs.Limits.{IsGrid}
use Rattle.blacs_grid.specs.Places.{width, rank_at}
use Rattle.rank_machine.specs.declared.slot.SlotKind.TheVariants.{Data, Code, Low, Open, Pivots}
use Rattle.rank_machine.specs.declared.slot.Slot.{Slot}
use Rattle.rank_machine.specs.declared.mark.Mark.{Mark}
use Rattle.rank_machine.specs.declared.layout.Layout.{Layout}
use Rattle.rank_machine.specs.Setting.{Setting, is_matrix, layout, factored, group_count, panels}
use Rattle.rank_machine.specs.State.{State, base}
use Rattle.rank_machine.specs.Effect.{is_live_matrix, is_live_list, is_live}
use Rattle.rank_slots.specs.Cells.{IsTileOf, IsSomeTileOf}
use Rattle.recovery_laws.specs.Recovery.{HoldResidues}
use Rattle.run_data.specs.Matrix.{AreWords}
use Rattle.rank_machine.specs.CodeLaw.{slot_at, has_low, is_open_group}
use Rattle.run_laws.specs.LastCommit.{IsRest}

-- a state holds what that of the last commit held in every slot that is live under a mark
pub record HoldAlike (s : Setting) (mark : Mark) (last now : State) : Type 0 where
  pub same : (rank : ℕ) (slot : Slot) → is_live s mark rank slot ≡ true → now.tiles rank slot ≡ last.tiles rank slot

-- what ranks fall back to, in a state that came from that of the last commit by records that are no commit: a rank that was not lost since falls back to
-- what it held, one that was lost falls back to nothing, and one that is not live holds nothing
pub record FallsBack (last now : State) : Type 0 where
  pub kept : (rank : ℕ) (slot : Slot) → now.lost rank ≡ false → base now rank slot ≡ last.tiles rank slot
  pub gone : (rank : ℕ) (slot : Slot) → now.lost rank ≡ true → base now rank slot ≡ None
  pub dead : (rank : ℕ) (slot : Slot) → now.live rank ≡ false → (now.tiles rank slot ≡ None) × (now.saved rank slot ≡ None)
  pub mark : now.mark ≡ last.mark
  pub committed : now.committed ≡ last.committed

-- so many closed panels, an open one or none, and so many merged groups fit a matrix that is being factored
pub record FitPanels (matrix : Layout) (done : ℕ) (open_now : Bool) (gone : ℕ) : Type 0 where
  pub closed : done ≤ panels matrix
  pub opened : open_now ≡ true → done < panels matrix
  pub unmerged : open_now ≡ true → gone ≡ 0
  pub merged : gone ≤ group_count matrix
  pub whole : 0 < gone → done ≡ panels matrix

-- the numbers of a mark fit the matrix of its line
pub record IsMarkOf (s : Setting) (mark : Mark) : Type 0 where
  pub fit : FitPanels (layout s (factored s mark.line)) mark.closed mark.opened mark.merged

-- what recovery asks of a setting, and an accepted script gives: files hold residues, line 0 makes no list, each layout lies on a grid within the limits, and
-- a matrix is live as long as it is being factored
pub record IsSensible (s : Setting) : Type 0 where
  pub some_residue : 0 < s.modulus
  pub files : (line : ℕ) → is_matrix s line ≡ true → AreWords s.modulus (s.files line)
  pub no_list : factored s 0 ≡ 0
  pub grids : (line : ℕ) → IsGrid (layout s line).grid
  pub descs : (line : ℕ) → IsDesc (layout s line).grid.p (layout s line).grid.q (layout s line).desc
  pub factors_live : (mark : Mark) → mark.ended ≡ false → 0 < factored s mark.line → is_live_matrix s mark (factored s mark.line) ≡ true

-- all words that are held, saved or on their way are residues
pub record AreAllResidues (p : ℕ) (state : State) : Type 0 where
  pub tiles : (rank : ℕ) (slot : Slot) → IsSomeTileOf p (state.tiles rank slot)
  pub saved : (rank : ℕ) (slot : Slot) → IsSomeTileOf p (state.saved rank slot)
  pub links : (from to : ℕ) → All (IsTileOf p) (state.links from to)

-- what is known of the state of the last commit of a legal journal: it is at rest, the numbers of its mark fit, and the words that it holds are residues
pub record IsLast (s : Setting) (last : State) : Type 0 where
  pub rest : IsRest s last
  pub mark : IsMarkOf s last.mark
  pub residues : HoldResidues s.modulus last

-- a state holds what that of the last commit held in every live slot, kind by kind
pub record AreRebuilt (s : Setting) (mark : Mark) (last now : State) : Type 0 where
  pub data_strips : (line row group col : ℕ) → is_live_matrix s mark line ≡ true → row < (layout s line).grid.p → group < group_count (layout s line) → col < (layout s line).grid.q → now.tiles (rank_at (layout s line).grid row col) (slot_at Data line group) ≡ last.tiles (rank_at (layout s line).grid row col) (slot_at Data line group)
  pub code_strips : (line row group c : ℕ) → is_live_matrix s mark line ≡ true → row < (layout s line).grid.p → group < group_count (layout s line) → c < (layout s line).grid.f → now.tiles (rank_at (layout s line).grid row ((layout s line).grid.q + c)) (slot_at Code line group) ≡ last.tiles (rank_at (layout s line).grid row ((layout s line).grid.q + c)) (slot_at Code line group)
  pub low_strips : (line row group c : ℕ) → is_live_matrix s mark line ≡ true → row < (layout s line).grid.p → group < group_count (layout s line) → c < (layout s line).grid.f → has_low s mark line group ≡ true → now.tiles (rank_at (layout s line).grid row ((layout s line).grid.q + c)) (slot_at Low line group) ≡ last.tiles (rank_at (layout s line).grid row ((layout s line).grid.q + c)) (slot_at Low line group)
  pub open_strips : (line row group c : ℕ) → is_live_matrix s mark line ≡ true → row < (layout s line).grid.p → group < group_count (layout s line) → c < (layout s line).grid.f → is_open_group s mark line (layout s line) group ≡ true → now.tiles (rank_at (layout s line).grid row ((layout s line).grid.q + c)) (slot_at Open line 0) ≡ last.tiles (rank_at (layout s line).grid row ((layout s line).grid.q + c)) (slot_at Open line 0)
  pub lists : (line place : ℕ) → is_live_list s mark line ≡ true → place < (layout s (factored s line)).grid.p * width (layout s (factored s line)).grid → now.tiles ((layout s (factored s line)).grid.first + place) (slot_at Pivots line 0) ≡ last.tiles ((layout s (factored s line)).grid.first + place) (slot_at Pivots line 0)
