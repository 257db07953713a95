-- The events and the code words of a group, worked out by hand: the matrix of line 2, one row of the words 5 and 7, on a grid of one process row,
-- two data columns and two code columns.
use Rattle.std.proofs.Common.{◌≡◌, ◌==◌, ℕ, Some, None, true, List, [], ◌∷◌, refl}
use Rattle.std.specs.Prelude.{if◌then◌else◌}
use Rattle.run_data.specs.Matrix.{Matrix, entry, tabulate}
use Rattle.field_core.specs.Sums.{sum_to}
use Rattle.array_desc.specs.Descriptors.{desc_of}
use Rattle.rank_run.specs.declared.round.Event.TheVariants.{Local, Move}
use Rattle.rank_machine.specs.declared.slot.SlotKind.TheVariants.{Data, Code, Work}
use Rattle.rank_machine.specs.declared.slot.Tile.TheVariants.{Words}
use Rattle.rank_machine.specs.declared.slot.Piece.TheVariants.{Whole}
use Rattle.rank_machine.specs.declared.kernel.Cut.TheVariants as cut
use Rattle.rank_machine.specs.declared.kernel.Kernel.TheVariants as k
use Rattle.rank_machine.specs.declared.layout.Layout.{Layout}
use Rattle.rank_machine.specs.Setting.{Setting}
use Rattle.rank_machine.specs.CodeLaw.{slot_at}
use Rattle.script_lines.specs.Lines.{setting_on}
use Rattle.round_laws.specs.Holdings.{Holding}
use Rattle.dist_matrix.specs.Encode.{group_events, coded_strip}

abbrev one_row : Layout
one_row = record { grid = record { p = 1; q = 2; f = 2; first = 0 }; desc = record { dtype = 1; ctxt = 0; m = 1; n = 2; mb = 1; nb = 1; rsrc = 0; csrc = 0; lld = 1 } }

-- the inverses of 1, 2 and 3 modulo 65537
abbrev inverses : ℕ → ℕ
inverses a = if a == 1 then 1 else if a == 2 then 32769 else 21846

-- code rank 2 sums the strips of data ranks 0 and 1, then code rank 3 does
by_hand : group_events inverses one_row 2 0
    ≡ Local 2 (k.Zero (slot_at Code 2 0) 1 1)
    ∷ Move 0 2 (Whole (slot_at Data 2 0)) (Whole (slot_at Work 0 0))
    ∷ Local 2 (k.Add (Whole (slot_at Code 2 0)) 32769 (Whole (slot_at Work 0 0)) cut.Whole)
    ∷ Move 1 2 (Whole (slot_at Data 2 0)) (Whole (slot_at Work 0 0))
    ∷ Local 2 (k.Add (Whole (slot_at Code 2 0)) 1 (Whole (slot_at Work 0 0)) cut.Whole)
    ∷ Local 3 (k.Zero (slot_at Code 2 0) 1 1)
    ∷ Move 0 3 (Whole (slot_at Data 2 0)) (Whole (slot_at Work 0 0))
    ∷ Local 3 (k.Add (Whole (slot_at Code 2 0)) 21846 (Whole (slot_at Work 0 0)) cut.Whole)
    ∷ Move 1 3 (Whole (slot_at Data 2 0)) (Whole (slot_at Work 0 0))
    ∷ Local 3 (k.Add (Whole (slot_at Code 2 0)) 32769 (Whole (slot_at Work 0 0)) cut.Whole)
    ∷ []
by_hand = refl

-- the data ranks hold 5 and 7
abbrev strips : ℕ → ℕ → Holding
strips row column = record {
  number = column;
  tiles = λ _. Some (Words (record { rows = 1; columns = ((if column == 0 then 5 else 7) ∷ []) ∷ [] }));
  free = λ _. true;
}

abbrev modulo : Setting
modulo = record (setting_on 65537 []) { inverse = inverses }

-- 5 * 32769 + 7 * 1, and 5 * 21846 + 7 * 32769
first_code : coded_strip modulo one_row 2 0 strips 0 0 2 ≡ record { rows = 1; columns = (32778 ∷ []) ∷ [] }
unfolding tabulate entry sum_to
first_code = refl

second_code : coded_strip modulo one_row 2 0 strips 0 1 2 ≡ record { rows = 1; columns = (10928 ∷ []) ∷ [] }
unfolding tabulate entry sum_to
second_code = refl
