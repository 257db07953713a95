-- A worked state: three by three words modulo 7 in blocks of one on two process rows, two data columns and a code column, in the midst of a
-- factorization: the panel of column 0 is closed, and that of column 1 is open. The code was worked out by hand, with the weights 4 and 1.
use Rattle.std.proofs.Common.{◌≡◌, ℕ, ◌*◌, ◌/◌, ◌%◌, ◌==◌, ◌&&◌, true, false, if◌then◌else◌, Option, Some, None, List, [], ◌∷◌, length, refl, arith, inl, inr}
use Rattle.field_core.specs.Sums.{sum_to}
use Rattle.field_core.proofs.Computing.{quick_inverse, inverse_walk}
use Rattle.run_data.specs.Matrix.{entry, tabulate}
use Rattle.array_desc.specs.Descriptors.{desc_of, IsDesc}
use Rattle.blacs_grid.specs.Places.{rank_at}
use Rattle.rank_machine.specs.declared.slot.SlotKind.{SlotKind}
use Rattle.rank_machine.specs.declared.slot.SlotKind.TheVariants.{Data, Code, Low, Open, Work}
use Rattle.rank_machine.specs.declared.slot.Slot.{Slot}
use Rattle.rank_machine.specs.declared.slot.Tile.{Tile}
use Rattle.rank_machine.specs.declared.slot.Tile.TheVariants.{Words}
use Rattle.rank_machine.specs.declared.slot.Piece.TheVariants as piece
use Rattle.rank_machine.specs.declared.mark.Mark.{Mark}
use Rattle.rank_machine.specs.declared.layout.Layout.{Layout}
use Rattle.rank_machine.specs.Setting.{Setting, no_job}
use Rattle.rank_machine.specs.State.{State, same_slot}
use Rattle.rank_machine.specs.Effect.{Memory, piece_in, with_piece, first_row}
use Rattle.rank_machine.specs.CodeLaw.{slot_at, MatrixLaw}
use Rattle.rank_machine.proofs.Agree.{MatrixLaw-from_test}
use Rattle.serial_model.specs.Elimination.{pivot_from, least_zero}
use Rattle.elimination.specs.CodeLaw.{low_part, open_part, stage_at}
use Rattle.phase_laws.specs.Columns.{data_columns, code_column, low_column, open_column, weights, columns_of, stages_of, IsGroupCoded, rows_of, column_memory, strips_in}
use Rattle.std.proofs.lemmas.Bool.{cases_eq}
use Rattle.run_data.specs.Parts.{patched}
use Rattle.elimination.specs.Strips.{AreExchanged, held, one_row}
use Rattle.phase_laws.specs.Search.{number_found, zero_found, info_number}
use Rattle.phase_laws.proofs.Columns.{strips-hold}
use Rattle.phase_laws.proofs.CodeLaws.{law-coded}
use Rattle.phase_laws.proofs.KernelLaws.{rows-sent}

abbrev layout_2 : Layout
layout_2 = record { grid = record { p = 2; q = 2; f = 1; first = 0 }; desc = desc_of 0 2 2 3 3 1 1 0 0 }

-- line 2 makes the matrix, and line 3 factors it
abbrev setting : Setting
setting =
    record {
      modulus = 7;
      inverse = quick_inverse 7;
      grids = layout_2.grid ∷ [];
      jobs = record (no_job 2) { makes = Some layout_2 } ∷ record (no_job 3) { factors = 2 } ∷ [];
      capacity = 1;
      losses = [];
      spares = None;
      files = λ line. record { rows = 0; columns = [] };
    }

abbrev under : Mark
under = record { line = 3; ended = false; closed = 1; opened = true; merged = 0 }

record Held : Type 0 where
  rank : ℕ
  slot : Slot
  words : List ℕ

abbrev find : List Held → ℕ → Slot → Option Tile
find [] rank slot = None
find (h ∷ hs) rank slot = if (h.rank == rank) && same_slot h.slot slot then Some (Words (record { rows = length h.words; columns = h.words ∷ [] })) else find hs rank slot

abbrev held_by : ℕ → SlotKind → ℕ → List ℕ → Held
held_by rank kind group words = record { rank = rank; slot = slot_at kind 2 group; words = words }

-- process row 0 holds rows 0 and 2 of each strip, and process row 1 row 1
abbrev tiles : List Held
tiles =
    held_by 0 Data 0 (1 ∷ 3 ∷ []) ∷ held_by 1 Data 0 (4 ∷ 6 ∷ []) ∷ held_by 3 Data 0 (2 ∷ []) ∷ held_by 4 Data 0 (5 ∷ [])
    ∷ held_by 0 Data 1 (2 ∷ 4 ∷ []) ∷ held_by 1 Data 1 (0 ∷ 0 ∷ []) ∷ held_by 3 Data 1 (3 ∷ []) ∷ held_by 4 Data 1 (0 ∷ [])
    ∷ held_by 2 Code 0 (4 ∷ 0 ∷ []) ∷ held_by 5 Code 0 (0 ∷ []) ∷ held_by 2 Code 1 (1 ∷ 2 ∷ []) ∷ held_by 5 Code 1 (5 ∷ [])
    ∷ held_by 2 Low 0 (0 ∷ 5 ∷ []) ∷ held_by 5 Low 0 (1 ∷ []) ∷ held_by 2 Low 1 (0 ∷ 0 ∷ []) ∷ held_by 5 Low 1 (0 ∷ [])
    ∷ held_by 2 Open 0 (4 ∷ 6 ∷ []) ∷ held_by 5 Open 0 (5 ∷ []) ∷ []

abbrev state : State
state =
    record {
      live = λ rank. true;
      tiles = find tiles;
      saved = λ rank slot. None;
      fresh = λ rank slot. false;
      links = λ from to. [];
      mark = under;
      lost = λ rank. false;
      spawned = 0;
      taken = [];
      committed = [];
    }

desc : IsDesc 2 2 layout_2.desc
desc =
    record {
      dense = refl;
      some_rows = omega arith;
      rows = omega arith;
      some_columns = omega arith;
      columns = omega arith;
      some_block_rows = omega arith;
      block_rows = omega arith;
      some_block_columns = omega arith;
      block_columns = omega arith;
      row_source = omega arith;
      column_source = omega arith;
      local_rows = refl;
    }

-- the machine's law holds there
law : MatrixLaw setting state under 2 layout_2
unfolding entry sum_to quick_inverse inverse_walk
law = MatrixLaw-from_test setting state under 2 layout_2 refl

-- so that of elimination does, in the group of the open panel and in the other
own_group : IsGroupCoded setting state under 2 layout_2 0 0 0
own_group = law-coded setting state under 2 layout_2 0 0 0 (omega arith) desc law (omega arith) (omega arith) (omega arith) refl

other_group : IsGroupCoded setting state under 2 layout_2 1 0 0
other_group = law-coded setting state under 2 layout_2 1 0 0 (omega arith) desc law (omega arith) (omega arith) (omega arith) refl

-- its words by global row: those of the columns, and what stands in Code, Low and Open of the first group
by_row : (ℕ → ℕ) → List ℕ
by_row c = c 0 ∷ c 1 ∷ c 2 ∷ []

first_column : by_row (data_columns state 2 layout_2 0 0 0) ≡ 1 ∷ 2 ∷ 3 ∷ []
unfolding entry by_row
first_column = refl

second_column : by_row (data_columns state 2 layout_2 0 0 1) ≡ 4 ∷ 5 ∷ 6 ∷ []
unfolding entry by_row
second_column = refl

code_words : by_row (code_column state Code 2 layout_2 0 0 0) ≡ 4 ∷ 0 ∷ 0 ∷ []
unfolding entry by_row
code_words = refl

low_words : by_row (low_column setting state under 2 layout_2 0 0 0) ≡ 0 ∷ 1 ∷ 5 ∷ []
unfolding entry by_row
low_words = refl

open_words : by_row (open_column setting state under 2 layout_2 0 0 0) ≡ 4 ∷ 5 ∷ 6 ∷ []
unfolding entry by_row
open_words = refl

-- four times what is below the diagonal of the closed column, modulo 7
low_sums : by_row (λ i. sum_to 2 (λ q. weights setting layout_2 0 q * low_part (stages_of under layout_2 0 0 q) (columns_of layout_2 0 0 q) (data_columns state 2 layout_2 0 0 q) i) % 7) ≡ 0 ∷ 1 ∷ 5 ∷ []
unfolding entry by_row sum_to low_part stage_at quick_inverse inverse_walk
low_sums = refl

-- and the open column
open_sums : by_row (λ i. sum_to 2 (λ q. weights setting layout_2 0 q * open_part (stages_of under layout_2 0 0 q) (columns_of layout_2 0 0 q) (data_columns state 2 layout_2 0 0 q) i) % 7) ≡ 4 ∷ 5 ∷ 6 ∷ []
unfolding entry by_row sum_to open_part stage_at quick_inverse inverse_walk
open_sums = refl

-- the search of the third column's pivot, from row 2 on: process row 0 finds row 3, counted from 1, process row 1 none, and so does the whole column
found_by_rows : first_row setting (rank_at layout_2.grid 0 0) (state.tiles (rank_at layout_2.grid 0 0)) (piece.Whole (slot_at Data 2 1)) 0 2 ∷ first_row setting (rank_at layout_2.grid 1 0) (state.tiles (rank_at layout_2.grid 1 0)) (piece.Whole (slot_at Data 2 1)) 0 2 ∷ [] ≡ 3 ∷ 2048 ∷ []
unfolding entry
found_by_rows = refl

found_in_column : number_found (pivot_from (data_columns state 2 layout_2 1 0 0) 2 1) ≡ 3
unfolding entry pivot_from
found_in_column = refl

-- the test of the diagonal where its second word is 0, asked for more words than there are: the rank at process row 1 and column 1, whose word it is, finds the number 2, the others none, and INFO is 2
abbrev with_zero : ℕ → ℕ → Memory
with_zero col row = find (held_by 4 Data 0 (0 ∷ []) ∷ tiles) (rank_at layout_2.grid row col)

abbrev zero_at : ℕ → ℕ → ℕ
zero_at row col = zero_found setting (slot_at Work 0 0) (piece.Whole (slot_at Data 2 0)) with_zero 5 row col

zeros_of_ranks : zero_at 0 0 ∷ zero_at 0 1 ∷ zero_at 1 0 ∷ zero_at 1 1 ∷ [] ≡ 2048 ∷ 2048 ∷ 2048 ∷ 2 ∷ []
unfolding entry
zeros_of_ranks = refl

zero_of_diagonal : info_number (least_zero (λ i. held (rows_of layout_2) (strips_in (with_zero (i % 2)) (slot_at Data 2 (i / 2))) i 0) 3) ≡ 2
unfolding entry least_zero
zero_of_diagonal = refl

-- rows 0 and 1 of the first column, on two process rows, change places by two messages
abbrev first_slot : Slot
first_slot = slot_at Data 2 0

abbrev before_exchange : ℕ → Memory
before_exchange = column_memory state layout_2 0

abbrev after_exchange : ℕ → Memory
after_exchange row slot =
    if row == 0 then Some (with_piece (before_exchange 0 first_slot) (piece.Part first_slot (one_row 0 1)) (piece_in (before_exchange 1) (piece.Part first_slot (one_row 0 1))))
    else if row == 1 then Some (with_piece (before_exchange 1 first_slot) (piece.Part first_slot (one_row 0 1)) (piece_in (before_exchange 0) (piece.Part first_slot (one_row 0 1))))
    else before_exchange row slot

exchanged_rows : AreExchanged (rows_of layout_2) 1 0 1 (strips_in before_exchange first_slot) (strips_in after_exchange first_slot)
exchanged_rows =
    rows-sent layout_2 1 0 1 first_slot (held (rows_of layout_2) (strips_in before_exchange first_slot)) before_exchange after_exchange desc (omega arith) (omega arith)
    (strips-hold state layout_2 0 first_slot desc (λ row h. law.data_strips row 0 0 h (omega arith) (omega arith)))
    (λ e. absurd (omega (arith, e))) refl refl refl refl
    (λ row h not_first not_second. elim (cases_eq row 0) [
      | inl first ↦ absurd (not_first first)
      | inr later ↦ (elim (cases_eq row 1) [ inl second ↦ absurd (not_second second) | inr past ↦ absurd (omega arith) ])
    ])

exchanged_column : by_row (λ i. held (rows_of layout_2) (strips_in after_exchange first_slot) i 0) ≡ 2 ∷ 1 ∷ 3 ∷ []
unfolding entry tabulate patched by_row
exchanged_column = refl
