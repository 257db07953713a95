-- The rounds of a recovery, as the code sees them: told by what the last mark says of a group.
use Rattle.std.specs.Prelude.{◌≡◌, ℕ, ◌+◌, ◌<◌, ◌/◌, ◌==◌, ◌&&◌, nat_lt, Bool, true, false, if◌then◌else◌, List, [], ◌∷◌, ◌++◌, slice_index_or}
use Rattle.cauchy_code.specs.Cauchy.{helpers, weight, IsDecoding}
use Rattle.blacs_grid.specs.Places.{width, rank_at}
use Rattle.rank_machine.specs.declared.slot.Slot.{Slot}
use Rattle.rank_machine.specs.declared.slot.SlotKind.TheVariants.{Data, Code, Low, Open}
use Rattle.rank_machine.specs.declared.kernel.Cut.TheVariants as cut
use Rattle.rank_machine.specs.declared.mark.Mark.{Mark}
use Rattle.rank_machine.specs.declared.layout.Layout.{Layout}
use Rattle.rank_machine.specs.Setting.{Setting, layout, strip_rows, block_at}
use Rattle.rank_machine.specs.CodeLaw.{slot_at, has_low, has_open}
use Rattle.round_laws.specs.Turns.{each_below}
use Rattle.recovery_rounds.specs.Mending.{Events, bring, gain, clear, gain_all}
use Rattle.recovery_code.specs.declared.mending.Place.{Place}

-- a group of a process row of a matrix, and what a mark says of it
pub record Spot : Type 0 where
  pub d : Layout
  pub line : ℕ
  pub row : ℕ
  pub group : ℕ
  pub low : Bool
  pub opened : Bool
  pub closed : ℕ

abbrev pub spot_seen : Place → Spot
spot_seen x = record { d = x.layout; line = x.line; row = x.row; group = x.group; low = x.low; opened = x.opened; closed = x.closed }

-- under a mark
abbrev pub spot_under : Setting → Mark → ℕ → ℕ → ℕ → Spot
spot_under s mark line row group = record { d = layout s line; line = line; row = row; group = group; low = has_low s mark line group; opened = has_open s mark line; closed = mark.closed }

abbrev pub rank_in : Spot → ℕ → ℕ
rank_in x col = rank_at x.d.grid x.row col

abbrev pub opens_here : Spot → Bool
opens_here x = x.opened && (x.group == x.closed / x.d.grid.q)

abbrev pub slots_wanted : Slot → Bool → List Slot
slots_wanted slot wanted = if wanted then slot ∷ [] else []

-- the slots of a symbol of a code column
abbrev pub code_symbol : Spot → List Slot
code_symbol x = slot_at Code x.line x.group ∷ slots_wanted (slot_at Low x.line x.group) x.low ++ slots_wanted (slot_at Open x.line 0) (opens_here x)

abbrev pub clear_wanted : Spot → ℕ → Slot → Bool → Events
clear_wanted x rank slot wanted = if wanted then clear rank slot (strip_rows x.d x.row) x.d.desc.nb ∷ [] else []

-- the slots of a symbol
abbrev pub symbol_at : Spot → ℕ → List Slot
symbol_at x col =
    if nat_lt col x.d.grid.q then slot_at Data x.line x.group ∷ []
    else slot_at Code x.line x.group ∷ (if x.low then slot_at Low x.line x.group ∷ [] else []) ++ (if opens_here x then slot_at Open x.line 0 ∷ [] else [])

-- what one column brings into a lost data strip, where it helps
abbrev pub help_by : Spot → ℕ → List Bool → List ℕ → ℕ → Events
help_by x which helping coefficients col =
    if slice_index_or helping col false then gain_all (rank_in x col) (rank_in x which) (slot_at Data x.line x.group) (slice_index_or coefficients col 0) (symbol_at x col) else []

-- what one column brings into a lost data strip
abbrev pub help_at : Spot → ℕ → List Bool → List ℕ → ℕ → Events
help_at x which lost coefficients col = help_by x which (helpers x.d.grid.q lost) coefficients col

abbrev pub decoding_at : Spot → ℕ → List Bool → List ℕ → Events
decoding_at x which lost coefficients = clear (rank_in x which) (slot_at Data x.line x.group) (strip_rows x.d x.row) x.d.desc.nb ∷ each_below (width x.d.grid) (help_at x which lost coefficients)

-- what one data column brings into a lost code column
abbrev pub adds_at : (ℕ → ℕ) → Spot → ℕ → ℕ → Events
adds_at inverse x c col =
    (let rank = rank_in x (x.d.grid.q + c) in
    let w = weight inverse x.d.grid.q c col in
    if x.opened && (block_at x.d x.group col == x.closed) then gain rank (slot_at Open x.line 0) w cut.Whole ∷ []
    else if x.low && nat_lt (block_at x.d x.group col) x.closed then gain rank (slot_at Code x.line x.group) w (cut.Upper (block_at x.d x.group col)) ∷ gain rank (slot_at Low x.line x.group) w (cut.Lower (block_at x.d x.group col)) ∷ []
    else gain rank (slot_at Code x.line x.group) w cut.Whole ∷ [])

abbrev pub part_at : (ℕ → ℕ) → Spot → ℕ → ℕ → Events
part_at inverse x c col = bring (rank_in x col) (rank_in x (x.d.grid.q + c)) (slot_at Data x.line x.group) ∷ adds_at inverse x c col

abbrev pub clears_at : Spot → ℕ → Events
clears_at x c =
    (let rank = rank_in x (x.d.grid.q + c) in
    clear rank (slot_at Code x.line x.group) (strip_rows x.d x.row) x.d.desc.nb
    ∷ clear_wanted x rank (slot_at Low x.line x.group) x.low ++ clear_wanted x rank (slot_at Open x.line 0) (opens_here x))

abbrev pub rebuilding_at : (ℕ → ℕ) → Spot → ℕ → Events
rebuilding_at inverse x c =
    (let rank = rank_in x (x.d.grid.q + c) in
    clear rank (slot_at Code x.line x.group) (strip_rows x.d x.row) x.d.desc.nb
    ∷ (if x.low then clear rank (slot_at Low x.line x.group) (strip_rows x.d x.row) x.d.desc.nb ∷ [] else [])
    ++ (if opens_here x then clear rank (slot_at Open x.line 0) (strip_rows x.d x.row) x.d.desc.nb ∷ [] else [])
    ++ each_below x.d.grid.q (part_at inverse x c))

-- all of a process row
abbrev pub row_data_at : Spot → List Bool → (ℕ → List ℕ) → ℕ → Events
row_data_at x lost coefficients n = each_below n (λ which. if slice_index_or lost which false then decoding_at x which lost (coefficients which) else [])

abbrev pub row_code_at : (ℕ → ℕ) → Spot → List Bool → ℕ → Events
row_code_at inverse x lost n = each_below n (λ c. if slice_index_or lost (x.d.grid.q + c) false then rebuilding_at inverse x c else [])

-- the lists decode the lost columns below n
pub record Decode (p : ℕ) (inverse : ℕ → ℕ) (x : Spot) (lost : List Bool) (n : ℕ) (coefficients : ℕ → List ℕ) : Type 0 where
  pub each : (which : ℕ) → which < n → slice_index_or lost which false ≡ true → IsDecoding p inverse x.d.grid.q lost which (coefficients which)
