-- Slots of the machine as columns of words: what the ranks of a process column hold in a slot is the strips of a block column, and a column of
-- these strips is a function of the global row.
use Rattle.std.specs.Prelude.{◌≡◌, ℕ, ◌+◌, ◌*◌, ◌<◌, ◌≤◌, Some, if◌then◌else◌, nat_lt, nat_le, Bool, true, false, IsTrue}
use Rattle.cauchy_code.specs.Cauchy.{weight}
use Rattle.run_data.specs.Matrix.{Matrix, cols, entry}
use Rattle.blacs_grid.specs.Places.{rank_at}
use Rattle.rank_machine.specs.declared.slot.SlotKind.{SlotKind}
use Rattle.rank_machine.specs.declared.slot.SlotKind.TheVariants.{Data, Code, Low, Open}
use Rattle.rank_machine.specs.declared.slot.Slot.{Slot}
use Rattle.rank_machine.specs.declared.slot.Piece.{Piece}
use Rattle.rank_machine.specs.declared.kernel.Cut.{Cut}
use Rattle.rank_machine.specs.declared.kernel.Cut.TheVariants as cut
use Rattle.rank_machine.specs.declared.kernel.Kernel.TheVariants as k
use Rattle.rank_machine.specs.declared.mark.Mark.{Mark}
use Rattle.rank_machine.specs.declared.layout.Layout.{Layout}
use Rattle.rank_machine.specs.Setting.{Setting, group_count, block_at, global_col}
use Rattle.rank_machine.specs.State.{State}
use Rattle.rank_machine.specs.Effect.{Memory, words_of, slot_of, area_in, made_by}
use Rattle.rank_machine.specs.CodeLaw.{slot_at, has_low, has_open, is_open_group, data_word, is_strip_of, IsPlace}
use Rattle.elimination.specs.CodeLaw.{IsWeightedSum, Stage, stage_at, IsCoded}
use Rattle.elimination.specs.Strips.{RowMap, rows_below, span, held, group_column}

-- how the rows of a matrix lie on the process rows of its grid
abbrev pub rows_of : Layout → RowMap
rows_of d = record { m = d.desc.m; mb = d.desc.mb; src = d.desc.rsrc; procs = d.grid.p }

-- what the rank of each process row on a process column holds
abbrev pub column_memory : State → Layout → ℕ → ℕ → Memory
column_memory st d col row = st.tiles (rank_at d.grid row col)

-- the strips that some ranks, one a process row, hold in a slot
abbrev pub strips_in : (ℕ → Memory) → Slot → ℕ → Matrix
strips_in mem slot row = words_of (mem row slot)

-- column j of the strips of a slot on a process column, by the global row
abbrev pub slot_column : State → Layout → ℕ → Slot → ℕ → ℕ → ℕ
slot_column st d col slot j i = held (rows_of d) (strips_in (column_memory st d col) slot) i j

-- column j of each process column's strip of a group
abbrev pub data_columns : State → ℕ → Layout → ℕ → ℕ → ℕ → ℕ → ℕ
data_columns st line d group j q = slot_column st d q (slot_at Data line group) j

-- column j of a code column's strip
abbrev pub code_column : State → SlotKind → ℕ → Layout → ℕ → ℕ → ℕ → ℕ → ℕ
code_column st kind line d group c j = slot_column st d (d.grid.q + c) (slot_at kind line group) j

-- the same of Low and of Open, where they are not live as zeros
abbrev pub low_column : Setting → State → Mark → ℕ → Layout → ℕ → ℕ → ℕ → ℕ → ℕ
low_column s st mark line d group c j i = if has_low s mark line group then code_column st Low line d group c j i else 0

abbrev pub open_column : Setting → State → Mark → ℕ → Layout → ℕ → ℕ → ℕ → ℕ → ℕ
open_column s st mark line d group c j i = if is_open_group s mark line d group then code_column st Open line d 0 c j i else 0

-- the weight of each process column at a code column
abbrev pub weights : Setting → Layout → ℕ → ℕ → ℕ
weights s d c q = weight s.inverse d.grid.q c q

-- the global column of each process column's strip of a group at its column j
abbrev pub columns_of : Layout → ℕ → ℕ → ℕ → ℕ
columns_of d group j = group_column group d.desc.nb d.desc.csrc d.grid.q j

-- how many columns the open panel of a mark has
abbrev pub open_width : Mark → Layout → ℕ
open_width mark d = if mark.opened then d.desc.nb else 0

-- in which stage that column stands under a mark
abbrev pub stages_of : Mark → Layout → ℕ → ℕ → ℕ → Stage
stages_of mark d group j q = stage_at (mark.closed * d.desc.nb) (open_width mark d) (columns_of d group j q)

-- the law of the code columns of a group that is being factored, at column j of its strips
abbrev pub IsGroupCoded : Setting → State → Mark → ℕ → Layout → ℕ → ℕ → ℕ → Type 0
IsGroupCoded s st mark line d group c j =
    IsCoded s.modulus d.grid.q (weights s d c) (stages_of mark d group j) (columns_of d group j) (data_columns st line d group j) (code_column st Code line d group c j) (low_column s st mark line d group c j) (open_column s st mark line d group c j)

-- the law of a group that is not being factored: Code alone is the weighted sum
abbrev pub IsGroupSummed : Setting → State → ℕ → Layout → ℕ → ℕ → ℕ → Type 0
IsGroupSummed s st line d group c j = IsWeightedSum s.modulus d.grid.q (weights s d c) (data_columns st line d group j) (code_column st Code line d group c j)

-- the places that a cut of an added strip names, by global row and the strip's column
abbrev pub cut_test : Layout → Cut → ℕ → ℕ → Bool
cut_test d cut.Whole i c = true
cut_test d (cut.Upper block) i c = nat_le i (global_col d block c)
cut_test d (cut.Lower block) i c = nat_lt (global_col d block c) i

-- the slots of a matrix hold strips of its shape, and the padding of Data is zero
pub record AreStrips (s : Setting) (st : State) (mark : Mark) (line : ℕ) (d : Layout) : Type 0 where
  pub data_strips : (row group col : ℕ) → row < d.grid.p → group < group_count d → col < d.grid.q → IsTrue (is_strip_of d row (st.tiles (rank_at d.grid row col) (slot_at Data line group)))
  pub code_strips : (row group c : ℕ) → row < d.grid.p → group < group_count d → c < d.grid.f → IsTrue (is_strip_of d row (st.tiles (rank_at d.grid row (d.grid.q + c)) (slot_at Code line group)))
  pub low_strips : (row group c : ℕ) → row < d.grid.p → group < group_count d → c < d.grid.f → has_low s mark line group ≡ true → IsTrue (is_strip_of d row (st.tiles (rank_at d.grid row (d.grid.q + c)) (slot_at Low line group)))
  pub open_strips : (row c : ℕ) → row < d.grid.p → c < d.grid.f → has_open s mark line ≡ true → IsTrue (is_strip_of d row (st.tiles (rank_at d.grid row (d.grid.q + c)) (slot_at Open line 0)))
  pub padding : (row group col i j : ℕ) → IsPlace d row group i j → col < d.grid.q → d.desc.n ≤ global_col d (block_at d group col) j → data_word st line d row group col i j ≡ 0

-- each code column of each group obeys the law of elimination under the mark: where Low is live that of a group that is being factored, and else
-- that Code alone is the weighted sum. An open panel lies in a group whose Low is live.
pub record AreCoded (s : Setting) (st : State) (mark : Mark) (line : ℕ) (d : Layout) : Type 0 where
  pub coded : (group c j : ℕ) → group < group_count d → c < d.grid.f → j < d.desc.nb → has_low s mark line group ≡ true → IsGroupCoded s st mark line d group c j
  pub summed : (group c j : ℕ) → group < group_count d → c < d.grid.f → j < d.desc.nb → has_low s mark line group ≡ false → IsGroupSummed s st line d group c j
  pub opened_unmerged : (group : ℕ) → is_open_group s mark line d group ≡ true → has_low s mark line group ≡ true

-- the ranks of a process column updated a slot: where a process row has rows from lo to hi - 1, `muladd` added a times the product of two pieces to a
-- piece of the slot that is these rows, in all columns. Where it has none, the strip has its shape and its words still: nothing was done there, or
-- `muladd` was run on no rows
pub record AreUpdated (s : Setting) (d : Layout) (col width : ℕ) (slot : Slot) (a lo hi : ℕ) (target left right : ℕ → Piece) (mem mem' : ℕ → Memory) : Type 0 where
  pub in_slot : (row : ℕ) → row < d.grid.p → rows_below (rows_of d) lo row < rows_below (rows_of d) hi row → slot_of (target row) ≡ slot
  pub at_rows : (row : ℕ) → row < d.grid.p → rows_below (rows_of d) lo row < rows_below (rows_of d) hi row → area_in (mem row) (target row) ≡ span (rows_of d) lo hi width row
  pub made : (row : ℕ) → row < d.grid.p → rows_below (rows_of d) lo row < rows_below (rows_of d) hi row → mem' row slot ≡ Some (made_by s (rank_at d.grid row col) (mem row) (k.MulAdd (target row) a (left row) (right row)))
  pub other_rows : (row : ℕ) → row < d.grid.p → rows_below (rows_of d) hi row ≤ rows_below (rows_of d) lo row → (strips_in mem' slot row).rows ≡ (strips_in mem slot row).rows
  pub other_columns : (row : ℕ) → row < d.grid.p → rows_below (rows_of d) hi row ≤ rows_below (rows_of d) lo row → cols (strips_in mem' slot row) ≡ cols (strips_in mem slot row)
  pub other_words : (row l c : ℕ) → row < d.grid.p → rows_below (rows_of d) hi row ≤ rows_below (rows_of d) lo row → l < rows_below (rows_of d) d.desc.m row → c < width → entry (strips_in mem' slot row) l c ≡ entry (strips_in mem slot row) l c
