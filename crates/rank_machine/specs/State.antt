-- The state of the rank machine.
use Rattle.std.specs.Prelude.{◌&&◌, ◌==◌, if◌then◌else◌, ℕ, Bool, true, false, Option, Some, None, List, nat_lt, []}
use Rattle.rank_machine.specs.declared.slot.SlotKind.{SlotKind}
use Rattle.rank_machine.specs.declared.slot.SlotKind.TheVariants.{Data, Code, Low, Open, Pivots, Work}
use Rattle.rank_machine.specs.declared.slot.Slot.{Slot}
use Rattle.rank_machine.specs.declared.slot.Tile.{Tile}
use Rattle.rank_machine.specs.declared.mark.Mark.{Mark}
use Rattle.rank_machine.specs.Setting.{Setting, ranks}

abbrev pub kind_number : SlotKind → ℕ
kind_number Data = 0
kind_number Code = 1
kind_number Low = 2
kind_number Open = 3
kind_number Pivots = 4
kind_number Work = 5

abbrev pub same_kind : SlotKind → SlotKind → Bool
same_kind a b = kind_number a == kind_number b

abbrev pub same_slot : Slot → Slot → Bool
same_slot a b = (same_kind a.kind b.kind && (a.id == b.id)) && (a.group == b.group)

-- a take: the line that was current, the rank and the slot, and the tile that the host got
pub record Took : Type 0 where
  pub line : ℕ
  pub rank : ℕ
  pub slot : Slot
  pub tile : Option Tile

-- by rank, and by rank and slot; the takes since the last Restore or Commit, and those that a plain Commit made count
pub record State : Type 0 where
  pub live : ℕ → Bool
  pub tiles : ℕ → Slot → Option Tile
  pub saved : ℕ → Slot → Option Tile
  pub fresh : ℕ → Slot → Bool
  pub links : ℕ → ℕ → List Tile
  pub mark : Mark
  pub lost : ℕ → Bool
  -- how many ranks were spawned since the opening
  pub spawned : ℕ
  pub taken : List Took
  pub committed : List Took

abbrev pub first_mark : Mark
first_mark = record { line = 0; ended = false; closed = 0; opened = false; merged = 0 }

-- the mark of a line that has ended
abbrev pub end_mark : ℕ → Mark
end_mark line = record { line = line; ended = true; closed = 0; opened = false; merged = 0 }

-- every rank is live and everything else is empty
abbrev pub opened : Setting → State
opened s = record {
  live = λ rank. nat_lt rank (ranks s);
  tiles = λ _ _. None;
  saved = λ _ _. None;
  fresh = λ _ _. false;
  links = λ _ _. [];
  mark = first_mark;
  lost = λ _. false;
  spawned = 0;
  taken = [];
  committed = [];
}

-- the same but at one place
abbrev pub at_rank : {X : Type 0} → (ℕ → X) → ℕ → X → ℕ → X
at_rank old rank x r = if r == rank then x else old r

abbrev pub at_slot : {X : Type 0} → (ℕ → Slot → X) → ℕ → Slot → X → ℕ → Slot → X
at_slot old rank slot x r s = if (r == rank) && same_slot s slot then x else old r s

abbrev pub at_link : {X : Type 0} → (ℕ → ℕ → X) → ℕ → ℕ → X → ℕ → ℕ → X
at_link old from to x a b = if (a == from) && (b == to) then x else old a b

-- what a rank holds when its saved tiles are put back and its fresh slots removed
abbrev pub or_else : {X : Type 0} → Option X → Option X → Option X
or_else (Some x) y = Some x
or_else None y = y

abbrev pub base : State → ℕ → Slot → Option Tile
base st rank slot = or_else (st.saved rank slot) (if st.fresh rank slot then None else st.tiles rank slot)
