-- The events that mend one rank: a tile is cleared, a strip is brought into Work from another rank of the process row, and what was brought is added.
use Rattle.std.specs.Prelude.{◌≡◌, ◌≢◌, ◌⊎◌, ℕ, ◌+◌, ◌<◌, ◌==◌, if◌then◌else◌, Bool, true, false, Some, is_some, List, [], ◌∷◌, ◌++◌, slice_index_or}
use Rattle.cauchy_code.specs.Cauchy.{helpers, weight}
use Rattle.rank_run.specs.declared.round.Event.{Event}
use Rattle.rank_run.specs.declared.round.Event.TheVariants.{Local, Move}
use Rattle.blacs_grid.specs.Places.{width, rank_at}
use Rattle.rank_machine.specs.declared.slot.Slot.{Slot}
use Rattle.rank_machine.specs.declared.slot.SlotKind.TheVariants.{Data, Code, Low, Open, Work}
use Rattle.rank_machine.specs.declared.slot.Tile.{Tile}
use Rattle.rank_machine.specs.declared.slot.Tile.TheVariants.{Index}
use Rattle.rank_machine.specs.declared.slot.Piece.{Piece}
use Rattle.rank_machine.specs.declared.slot.Piece.TheVariants as piece
use Rattle.rank_machine.specs.declared.kernel.Kernel.{Kernel}
use Rattle.rank_machine.specs.declared.kernel.Kernel.TheVariants as k
use Rattle.rank_machine.specs.declared.kernel.Cut.{Cut}
use Rattle.rank_machine.specs.declared.kernel.Cut.TheVariants as cut
use Rattle.rank_machine.specs.declared.mark.Mark.{Mark}
use Rattle.rank_machine.specs.declared.layout.Layout.{Layout}
use Rattle.rank_machine.specs.Setting.{Setting, strip_rows, block_at}
use Rattle.rank_machine.specs.State.{State}
use Rattle.rank_machine.specs.CodeLaw.{slot_at, has_low, is_open_group}
use Rattle.rank_slots.specs.Rank.{Rank}
use Rattle.round_laws.specs.Holdings.{Holding}
use Rattle.round_laws.specs.Turns.{Turns, each_below}
use Rattle.recovery_laws.specs.Recovery.{symbol_slots, is_open_block, is_closed_block}

abbrev pub Events : Type 0
Events = List (Event Rank Kernel Piece Tile)

-- the slot of what is brought
abbrev pub brought : Slot
brought = slot_at Work 0 0

abbrev pub bring : ℕ → ℕ → Slot → Event Rank Kernel Piece Tile
bring from to slot = Move from to (piece.Whole slot) (piece.Whole brought)

abbrev pub gain : ℕ → Slot → ℕ → Cut → Event Rank Kernel Piece Tile
gain rank to a at = Local rank (k.Add (piece.Whole to) a (piece.Whole brought) at)

abbrev pub clear : ℕ → Slot → ℕ → ℕ → Event Rank Kernel Piece Tile
clear rank to rows columns = Local rank (k.Zero to rows columns)

-- the strips of some slots of another rank, each brought and added
abbrev pub gain_all : ℕ → ℕ → Slot → ℕ → List Slot → Events
gain_all from rank to a [] = []
gain_all from rank to a (x ∷ xs) = bring from rank x ∷ gain rank to a cut.Whole ∷ gain_all from rank to a xs

-- a lost data strip
abbrev pub decoding_events : Setting → Mark → ℕ → Layout → ℕ → ℕ → ℕ → List Bool → List ℕ → Events
decoding_events s mark line d row group which lost coefficients =
    clear (rank_at d.grid row which) (slot_at Data line group) (strip_rows d row) d.desc.nb
    ∷ each_below (width d.grid) (λ col.
    if slice_index_or (helpers d.grid.q lost) col false then gain_all (rank_at d.grid row col) (rank_at d.grid row which) (slot_at Data line group) (slice_index_or coefficients col 0) (symbol_slots s mark line d group col) else [])

-- a lost code column: what comes of one data strip
abbrev pub part_events : Setting → Mark → ℕ → Layout → ℕ → ℕ → ℕ → ℕ → Events
part_events s mark line d row group c col =
    (let rank = rank_at d.grid row (d.grid.q + c) in
    let w = weight s.inverse d.grid.q c col in
    bring (rank_at d.grid row col) rank (slot_at Data line group)
    ∷ (if is_open_block s mark line d group col then gain rank (slot_at Open line 0) w cut.Whole ∷ []
    else if is_closed_block s mark line d group col then gain rank (slot_at Code line group) w (cut.Upper (block_at d group col)) ∷ gain rank (slot_at Low line group) w (cut.Lower (block_at d group col)) ∷ []
    else gain rank (slot_at Code line group) w cut.Whole ∷ []))

-- its slots are cleared, and then each data strip comes in
abbrev pub rebuilding_events : Setting → Mark → ℕ → Layout → ℕ → ℕ → ℕ → Events
rebuilding_events s mark line d row group c =
    (let rank = rank_at d.grid row (d.grid.q + c) in
    clear rank (slot_at Code line group) (strip_rows d row) d.desc.nb
    ∷ (if has_low s mark line group then clear rank (slot_at Low line group) (strip_rows d row) d.desc.nb ∷ [] else [])
    ++ (if is_open_group s mark line d group then clear rank (slot_at Open line 0) (strip_rows d row) d.desc.nb ∷ [] else [])
    ++ each_below d.grid.q (part_events s mark line d row group c))

-- ---- what a rank holds while it is mended
-- in a round that begins in a state, other ranks holding f: events turn what a rank holds from h into h', and leave the others as they are
abbrev pub holds_at : ℕ → (ℕ → Holding) → Holding → ℕ → Holding
holds_at rank f h r = if r == rank then h else f r

abbrev pub Mends : Setting → State → ℕ → (ℕ → Holding) → Events → Holding → Holding → Type 0
Mends s st rank f es h h' = Turns s st (λ r. true) es (holds_at rank f h) (holds_at rank f h')

-- whatever the rank holds may be written
pub record IsMending (rank : ℕ) (h : Holding) : Type 0 where
  pub number : h.number ≡ rank
  pub free : (slot : Slot) → is_some (h.tiles slot) ≡ true → h.free slot ≡ true

-- the columns of a row that are not lost hold the slots of their symbols as at the last commit
pub record HoldTheirStrips (s : Setting) (last : State) (mark : Mark) (line : ℕ) (d : Layout) (row group : ℕ) (lost : List Bool) (f : ℕ → Holding) : Type 0 where
  pub data_held : (col : ℕ) → col < d.grid.q → slice_index_or lost col false ≡ false → (f (rank_at d.grid row col)).tiles (slot_at Data line group) ≡ last.tiles (rank_at d.grid row col) (slot_at Data line group)
  pub code_held : (c : ℕ) → c < d.grid.f → slice_index_or lost (d.grid.q + c) false ≡ false → (f (rank_at d.grid row (d.grid.q + c))).tiles (slot_at Code line group) ≡ last.tiles (rank_at d.grid row (d.grid.q + c)) (slot_at Code line group)
  pub low_held : (c : ℕ) → c < d.grid.f → slice_index_or lost (d.grid.q + c) false ≡ false → has_low s mark line group ≡ true → (f (rank_at d.grid row (d.grid.q + c))).tiles (slot_at Low line group) ≡ last.tiles (rank_at d.grid row (d.grid.q + c)) (slot_at Low line group)
  pub open_held : (c : ℕ) → c < d.grid.f → slice_index_or lost (d.grid.q + c) false ≡ false → is_open_group s mark line d group ≡ true → (f (rank_at d.grid row (d.grid.q + c))).tiles (slot_at Open line 0) ≡ last.tiles (rank_at d.grid row (d.grid.q + c)) (slot_at Open line 0)

-- a process row of one group: the lost data strips, and then the lost code columns, `coefficients` giving the list that decodes each lost data column
abbrev pub row_data_events : Setting → Mark → ℕ → Layout → ℕ → ℕ → List Bool → (ℕ → List ℕ) → Events
row_data_events s mark line d row group lost coefficients =
    each_below d.grid.q (λ which. if slice_index_or lost which false then decoding_events s mark line d row group which lost (coefficients which) else [])

abbrev pub row_code_events : Setting → Mark → ℕ → Layout → ℕ → ℕ → List Bool → Events
row_code_events s mark line d row group lost =
    each_below d.grid.f (λ c. if slice_index_or lost (d.grid.q + c) false then rebuilding_events s mark line d row group c else [])

-- the columns of a row that count as lost may be mended
pub record AreMending (d : Layout) (row : ℕ) (lost : List Bool) (f : ℕ → Holding) : Type 0 where
  pub at : (col : ℕ) → col < width d.grid → slice_index_or lost col false ≡ true → IsMending (rank_at d.grid row col) (f (rank_at d.grid row col))

-- a list is copied from some ranks to others
abbrev pub copy_events : Slot → List (ℕ × ℕ) → Events
copy_events v [] = []
copy_events v (x ∷ xs) = Move x.0 x.1 (piece.Whole v) (piece.Whole v) ∷ copy_events v xs

-- each copy goes from a rank that holds the list to another one, which may be written
abbrev pub AreCopies : ℕ → Slot → List ℕ → (ℕ → Holding) → List (ℕ × ℕ) → Type 0
AreCopies n v numbers f [] = Unit {0}
AreCopies n v numbers f (x ∷ xs) = ((x.0 < n) × (x.1 < n) × (x.0 ≢ x.1) × ((f x.0).tiles v ≡ Some (Index numbers)) × IsMending x.1 (f x.1)) × AreCopies n v numbers f xs

-- a rank is copied to
abbrev pub IsCopiedTo : ℕ → List (ℕ × ℕ) → Type 0
IsCopiedTo r [] = ⊥
IsCopiedTo r (x ∷ xs) = (r ≡ x.1) ⊎ IsCopiedTo r xs
