-- The code law: what the live slots hold under a mark.
use Rattle.std.specs.Prelude.{◌≡◌, ◌+◌, ◌*◌, ◌/◌, ◌%◌, ◌<◌, ◌≤◌, ◌&&◌, ◌==◌, if◌then◌else◌, ℕ, Bool, true, Option, Some, List, length, slice_index_or, nat_lt, nat_le, min, IsTrue}
use Rattle.field_core.specs.Sums.{sum_to}
use Rattle.cauchy_code.specs.Cauchy.{weight}
use Rattle.run_data.specs.Matrix.{cols, entry}
use Rattle.array_desc.specs.Maps.{owner}
use Rattle.blacs_grid.specs.Places.{width, rank_at}
use Rattle.rank_machine.specs.declared.slot.SlotKind.{SlotKind}
use Rattle.rank_machine.specs.declared.slot.SlotKind.TheVariants.{Data, Code, Low, Open, Pivots}
use Rattle.rank_machine.specs.declared.slot.Slot.{Slot}
use Rattle.rank_machine.specs.declared.slot.Tile.{Tile}
use Rattle.rank_machine.specs.declared.slot.Tile.TheVariants.{Index}
use Rattle.rank_machine.specs.declared.mark.Mark.{Mark}
use Rattle.rank_machine.specs.declared.layout.Layout.{Layout}
use Rattle.rank_machine.specs.Setting.{Setting, layout, factored, group_count, strip_rows, block_at, global_row, global_col}
use Rattle.rank_machine.specs.State.{State}
use Rattle.rank_machine.specs.Effect.{words_of, numbers_of, is_words, has_ended, is_live_matrix, is_live_list, factoring}

abbrev pub slot_at : SlotKind → ℕ → ℕ → Slot
slot_at kind line group = record { kind = kind; id = line; group = group }

-- ---- which slots count
abbrev pub has_low : Setting → Mark → ℕ → ℕ → Bool
has_low s mark line group = (nat_lt 0 line && (factoring s mark == line)) && nat_le mark.merged group

abbrev pub has_open : Setting → Mark → ℕ → Bool
has_open s mark line = (nat_lt 0 line && (factoring s mark == line)) && mark.opened

-- the open panel counts in its own group alone
abbrev pub is_open_group : Setting → Mark → ℕ → Layout → ℕ → Bool
is_open_group s mark line d group = has_open s mark line && (group == mark.closed / d.grid.q)

-- ---- words at a place of a strip: process row, group, local row and column
abbrev pub data_word : State → ℕ → Layout → ℕ → ℕ → ℕ → ℕ → ℕ → ℕ
data_word st line d row group col i j = entry (words_of (st.tiles (rank_at d.grid row col) (slot_at Data line group))) i j

-- a word of a code column
abbrev pub code_word : State → SlotKind → ℕ → Layout → ℕ → ℕ → ℕ → ℕ → ℕ → ℕ
code_word st kind line d row group c i j = entry (words_of (st.tiles (rank_at d.grid row (d.grid.q + c)) (slot_at kind line group))) i j

-- Code + Low + Open, where a slot that is not live counts as zero
abbrev pub symbol : Setting → State → Mark → ℕ → Layout → ℕ → ℕ → ℕ → ℕ → ℕ → ℕ
symbol s st mark line d row group c i j =
    (code_word st Code line d row group c i j + (if has_low s mark line group then code_word st Low line d row group c i j else 0))
    + (if is_open_group s mark line d group then code_word st Open line d row 0 c i j else 0)

-- the sum of the data words of the process columns that count, each times its weight
abbrev pub weighted_sum : Setting → State → ℕ → Layout → ℕ → ℕ → ℕ → ℕ → ℕ → (ℕ → Bool) → ℕ
weighted_sum s st line d row group c i j counts = sum_to d.grid.q (λ col. if counts col then weight s.inverse d.grid.q c col * data_word st line d row group col i j else 0)

-- the place is a multiplier of a closed panel: below the diagonal of one of the first panels
abbrev pub is_multiplier : Mark → Layout → ℕ → ℕ → ℕ → ℕ → ℕ → Bool
is_multiplier mark d row group i j col =
    nat_lt (block_at d group col) mark.closed && nat_lt (global_col d (block_at d group col) j) (global_row d (rank_at d.grid row col) i)

-- the process column of the open panel
abbrev pub is_open_column : Mark → Layout → ℕ → Bool
is_open_column mark d col = col == owner (mark.closed * d.desc.nb) d.desc.nb d.desc.csrc d.grid.q

-- ---- the law
abbrev pub is_strip_of : Layout → ℕ → Option Tile → Bool
is_strip_of d row t = is_words t && (((words_of t).rows == strip_rows d row) && (cols (words_of t) == d.desc.nb))

pub record IsPlace (d : Layout) (row group i j : ℕ) : Type 0 where
  pub row_in : row < d.grid.p
  pub group_in : group < group_count d
  pub i_in : i < strip_rows d row
  pub j_in : j < d.desc.nb

pub record MatrixLaw (s : Setting) (st : State) (mark : Mark) (line : ℕ) (d : Layout) : Type 0 where
  pub data_strips : (row group col : ℕ) → row < d.grid.p → group < group_count d → col < d.grid.q → IsTrue (is_strip_of d row (st.tiles (rank_at d.grid row col) (slot_at Data line group)))
  pub code_strips : (row group c : ℕ) → row < d.grid.p → group < group_count d → c < d.grid.f → IsTrue (is_strip_of d row (st.tiles (rank_at d.grid row (d.grid.q + c)) (slot_at Code line group)))
  pub low_strips : (row group c : ℕ) → row < d.grid.p → group < group_count d → c < d.grid.f → has_low s mark line group ≡ true → IsTrue (is_strip_of d row (st.tiles (rank_at d.grid row (d.grid.q + c)) (slot_at Low line group)))
  pub open_strips : (row c : ℕ) → row < d.grid.p → c < d.grid.f → has_open s mark line ≡ true → IsTrue (is_strip_of d row (st.tiles (rank_at d.grid row (d.grid.q + c)) (slot_at Open line 0)))
  pub padding : (row group col i j : ℕ) → IsPlace d row group i j → col < d.grid.q → d.desc.n ≤ global_col d (block_at d group col) j → data_word st line d row group col i j ≡ 0
  pub code : (row group c i j : ℕ) → IsPlace d row group i j → c < d.grid.f → symbol s st mark line d row group c i j % s.modulus ≡ weighted_sum s st line d row group c i j (λ col. true) % s.modulus
  pub low : (row group c i j : ℕ) → IsPlace d row group i j → c < d.grid.f → has_low s mark line group ≡ true
      → code_word st Low line d row group c i j % s.modulus ≡ weighted_sum s st line d row group c i j (is_multiplier mark d row group i j) % s.modulus
  pub panel : (row group c i j : ℕ) → IsPlace d row group i j → c < d.grid.f → is_open_group s mark line d group ≡ true
      → code_word st Open line d row 0 c i j % s.modulus ≡ weighted_sum s st line d row group c i j (is_open_column mark d) % s.modulus

-- every rank of the grid holds these numbers; the i-th, from 1, is from i to the matrix's rows
pub record ListLaw (st : State) (mark : Mark) (line : ℕ) (d : Layout) (numbers : List ℕ) : Type 0 where
  pub same : (place : ℕ) → place < d.grid.p * width d.grid → st.tiles (d.grid.first + place) (slot_at Pivots line 0) ≡ Some (Index numbers)
  pub at_least : (i : ℕ) → i < length numbers → i + 1 ≤ slice_index_or numbers i 0
  pub at_most : (i : ℕ) → i < length numbers → slice_index_or numbers i 0 ≤ d.desc.m
  pub whole : has_ended mark line ≡ true → length numbers ≡ min d.desc.m d.desc.n

abbrev pub pivots_of : State → ℕ → Layout → List ℕ
pivots_of st line d = numbers_of (st.tiles d.grid.first (slot_at Pivots line 0))

pub record CodeLaw (s : Setting) (st : State) (mark : Mark) : Type 0 where
  pub matrices : (line : ℕ) → is_live_matrix s mark line ≡ true → MatrixLaw s st mark line (layout s line)
  pub lists : (line : ℕ) → is_live_list s mark line ≡ true
      → ListLaw st mark line (layout s (factored s line)) (pivots_of st line (layout s (factored s line)))
