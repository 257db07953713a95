-- Which slots the events of a round write, and how large the tiles in them get, whatever they hold.
use Rattle.std.specs.Prelude.{◌≡◌, ℕ, ◌+◌, ◌≤◌, Bool, true, Option, Some, List, [], ◌∷◌, if◌then◌else◌}
use Rattle.rank_run.specs.declared.round.Event.{Event}
use Rattle.rank_run.specs.declared.round.Event.TheVariants.{Local, Move}
use Rattle.rank_machine.specs.declared.slot.Slot.{Slot}
use Rattle.rank_machine.specs.declared.slot.Tile.{Tile}
use Rattle.rank_machine.specs.declared.slot.Piece.{Piece}
use Rattle.rank_machine.specs.declared.kernel.Kernel.{Kernel}
use Rattle.rank_machine.specs.Setting.{Setting}
use Rattle.rank_machine.specs.State.{State, same_slot}
use Rattle.rank_machine.specs.Effect.{slot_of, target, made_by, piece_in, with_piece}
use Rattle.rank_machine.specs.Held.{size_of}
use Rattle.rank_slots.specs.Rank.{Rank}

abbrev pub RoundEvent : Type 0
RoundEvent = Event Rank Kernel Piece Tile

abbrev pub AllEvents : (RoundEvent → Type 0) → List RoundEvent → Type 0
AllEvents P [] = Unit {0}
AllEvents P (e ∷ es) = P e × AllEvents P es

-- ---- slots that pass a test
abbrev pub WritesIn : (ℕ → Slot → Bool) → RoundEvent → Type 0
WritesIn may (Local rank k) = may rank (slot_of (target k)) ≡ true
WritesIn may (Move from to a b) = may to (slot_of b) ≡ true

-- ---- sizes
-- by rank and slot, no tile has more words than this
abbrev pub IsCapped : (ℕ → Slot → ℕ) → (ℕ → Slot → Option Tile) → Type 0
IsCapped cap tiles = (rank : ℕ) (slot : Slot) → size_of (tiles rank slot) ≤ cap rank slot

-- and an event leaves it so
abbrev pub KeepsCap : Setting → (ℕ → Slot → ℕ) → RoundEvent → Type 0
KeepsCap s cap (Local rank k) = (tiles : ℕ → Slot → Option Tile) → IsCapped cap tiles → size_of (Some (made_by s rank (tiles rank) k)) ≤ cap rank (slot_of (target k))
KeepsCap s cap (Move from to a b) = (tiles : ℕ → Slot → Option Tile) → IsCapped cap tiles → size_of (Some (with_piece (tiles to (slot_of b)) b (piece_in (tiles from) a))) ≤ cap to (slot_of b)

-- ---- slots, each with the words that may be added in it
abbrev pub allowed : List (Slot × ℕ) → Slot → ℕ
allowed [] x = 0
allowed (p ∷ ps) x = (if same_slot x p.0 then p.1 else 0) + allowed ps x

abbrev pub total : List (Slot × ℕ) → ℕ
total [] = 0
total (p ∷ ps) = p.1 + total ps

-- over what was held in a state
abbrev pub cap_over : State → (ℕ → List (Slot × ℕ)) → ℕ → Slot → ℕ
cap_over base allow rank slot = size_of (base.tiles rank slot) + allowed (allow rank) slot
