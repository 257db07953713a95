-- What a recovery adds up in a lost strip. The strips that it adds are told by process column and slot; the columns of a process row are numbered
-- from 0, data columns first.
use Rattle.std.specs.Prelude.{◌≡◌, ℕ, zero, suc, ◌+◌, ◌<◌, ◌&&◌, ◌==◌, if◌then◌else◌, Bool, true, false, List, [], ◌∷◌, ◌++◌, map, length, slice_index_or, nat_lt, nat_le}
use Rattle.cauchy_code.specs.Cauchy.{helpers, weight}
use Rattle.run_data.specs.Matrix.{Matrix, zero_matrix}
use Rattle.array_desc.specs.Descriptors.{IsDesc}
use Rattle.local_blas.specs.Kernels.{everywhere}
use Rattle.blacs_grid.specs.Places.{width, rank_at}
use Rattle.rank_machine.specs.declared.slot.SlotKind.TheVariants.{Data, Code, Low, Open, Work}
use Rattle.rank_machine.specs.declared.slot.Slot.{Slot}
use Rattle.rank_machine.specs.declared.slot.Tile.{Tile}
use Rattle.rank_machine.specs.declared.slot.Tile.TheVariants.{Words}
use Rattle.rank_machine.specs.declared.mark.Mark.{Mark}
use Rattle.rank_machine.specs.declared.layout.Layout.{Layout}
use Rattle.rank_machine.specs.Setting.{Setting, strip_rows, block_at, global_row, global_col}
use Rattle.rank_machine.specs.State.{State, same_kind}
use Rattle.rank_machine.specs.Effect.{words_of}
use Rattle.rank_machine.specs.CodeLaw.{slot_at, has_low, has_open, is_open_group, MatrixLaw}
use Rattle.rank_slots.specs.Cells.{IsSomeTileOf}
use Rattle.recovery_laws.specs.Adds.{Term, after_adds}

-- ---- strips
-- all words that are held are residues, in columns of one length
pub record HoldResidues (p : ℕ) (last : State) : Type 0 where
  pub at : (rank : ℕ) (slot : Slot) → IsSomeTileOf p (last.tiles rank slot)

-- the strip in a slot of a process row, by the process column
abbrev pub strip_at : State → Layout → ℕ → ℕ → Slot → Matrix
strip_at last d row col slot = words_of (last.tiles (rank_at d.grid row col) slot)

-- ---- terms, by the process column
-- the terms of the columns below n, in order
abbrev pub terms_below : ℕ → (ℕ → List Term) → List Term
terms_below zero f = []
terms_below (suc n) f = terms_below n f ++ f n

abbrev pub term : ℕ → Matrix → (ℕ → ℕ → Bool) → Term
term a m test = record { factor = a; words = m; counts = test }

abbrev pub whole : ℕ → Matrix → Term
whole a m = term a m everywhere

-- ---- a lost data strip
-- the slots whose sum is the symbol of a column: Data; or Code, and Low and Open where they are live
abbrev pub symbol_slots : Setting → Mark → ℕ → Layout → ℕ → ℕ → List Slot
symbol_slots s mark line d group col =
    if nat_lt col d.grid.q then slot_at Data line group ∷ []
    else slot_at Code line group ∷ (if has_low s mark line group then slot_at Low line group ∷ [] else []) ++ (if is_open_group s mark line d group then slot_at Open line 0 ∷ [] else [])

-- each column that helps brings in the strips of its symbol, each times the column's coefficient
abbrev pub decoding_terms : Setting → Mark → ℕ → Layout → ℕ → List Bool → List ℕ → (ℕ → Slot → Matrix) → List Term
decoding_terms s mark line d group lost coefficients held =
    terms_below (width d.grid) (λ col. if slice_index_or (helpers d.grid.q lost) col false then map (λ slot. whole (slice_index_or coefficients col 0) (held col slot)) (symbol_slots s mark line d group col) else [])

-- ---- a lost code column
-- the open panel is the block column of a group on a process column
abbrev pub is_open_block : Setting → Mark → ℕ → Layout → ℕ → ℕ → Bool
is_open_block s mark line d group col = has_open s mark line && (block_at d group col == mark.closed)

-- that block column belongs to a closed panel of a group that is not merged
abbrev pub is_closed_block : Setting → Mark → ℕ → Layout → ℕ → ℕ → Bool
is_closed_block s mark line d group col = has_low s mark line group && nat_lt (block_at d group col) mark.closed

-- the places of a strip of that block column at and above the diagonal, and below it, as a rank of the grid sees them
abbrev pub at_and_above : Layout → ℕ → ℕ → ℕ → ℕ → Bool
at_and_above d rank block i j = nat_le (global_row d rank i) (global_col d block j)

abbrev pub below : Layout → ℕ → ℕ → ℕ → ℕ → Bool
below d rank block i j = nat_lt (global_col d block j) (global_row d rank i)

-- what Code gets of each data column, c being the code column and `held` the data strips of the row
abbrev pub code_terms : Setting → Mark → ℕ → Layout → ℕ → ℕ → ℕ → (ℕ → Matrix) → List Term
code_terms s mark line d row group c held =
    terms_below d.grid.q (λ col.
    if is_open_block s mark line d group col then []
    else if is_closed_block s mark line d group col then term (weight s.inverse d.grid.q c col) (held col) (at_and_above d (rank_at d.grid row (d.grid.q + c)) (block_at d group col)) ∷ []
    else whole (weight s.inverse d.grid.q c col) (held col) ∷ [])

abbrev pub low_terms : Setting → Mark → ℕ → Layout → ℕ → ℕ → ℕ → (ℕ → Matrix) → List Term
low_terms s mark line d row group c held =
    terms_below d.grid.q (λ col.
    if is_closed_block s mark line d group col then term (weight s.inverse d.grid.q c col) (held col) (below d (rank_at d.grid row (d.grid.q + c)) (block_at d group col)) ∷ []
    else [])

abbrev pub open_terms : Setting → Mark → ℕ → Layout → ℕ → ℕ → (ℕ → Matrix) → List Term
open_terms s mark line d group c held =
    terms_below d.grid.q (λ col. if is_open_block s mark line d group col then whole (weight s.inverse d.grid.q c col) (held col) ∷ [] else [])

-- ---- what the laws start from
-- the state of the last commit, as far as one matrix goes: its code law, residues, and a descriptor on its grid
pub record IsCommitted (s : Setting) (last : State) (mark : Mark) (line : ℕ) (d : Layout) : Type 0 where
  pub some_residue : 0 < s.modulus
  pub residues : HoldResidues s.modulus last
  pub desc : IsDesc d.grid.p d.grid.q d.desc
  pub law : MatrixLaw s last mark line d

-- which strips were lost, by process column
pub record IsLostIn (d : Layout) (lost : List Bool) (which : ℕ) : Type 0 where
  pub columns : length lost ≡ width d.grid
  pub is_data : which < d.grid.q
  pub is_lost : slice_index_or lost which false ≡ true

-- the columns of a row that are not lost hold what they held at the last commit, but for Work
pub record HoldTheirs (last : State) (d : Layout) (row : ℕ) (lost : List Bool) (held : ℕ → Slot → Matrix) : Type 0 where
  pub same : (col : ℕ) (slot : Slot) → slice_index_or lost col false ≡ false → same_kind slot.kind Work ≡ false → held col slot ≡ strip_at last d row col slot

-- the data columns of a row hold the strips of the last commit
pub record HoldData (last : State) (line : ℕ) (d : Layout) (row group : ℕ) (held : ℕ → Matrix) : Type 0 where
  pub same : (col : ℕ) → col < d.grid.q → held col ≡ strip_at last d row col (slot_at Data line group)

-- the strip that terms make from zero
abbrev pub made_of : Setting → Layout → ℕ → List Term → Tile
made_of s d row ts = Words (after_adds s.modulus (zero_matrix (strip_rows d row) d.desc.nb) ts)
