-- A matrix that is held strip by strip, by ranks and groups, and by rows and columns.
use Rattle.std.proofs.Common.{◌≡◌, ◌∙◌, ℕ, List, Some, sym, ap, subst}
use Rattle.run_data.specs.Matrix.{Matrix, IsShaped}
use Rattle.blacs_grid.specs.Places.{row_of, col_of, rank_at}
use Rattle.blacs_grid.proofs.PlaceLaws.{rank_at-coords, is_data_rank-member, is_data_rank-rank_at}
use Rattle.rank_machine.specs.declared.slot.SlotKind.TheVariants.{Data}
use Rattle.rank_machine.specs.declared.slot.Tile.TheVariants.{Words}
use Rattle.rank_machine.specs.declared.layout.Layout.{Layout}
use Rattle.rank_machine.specs.Setting.{Setting, layout, strip_of}
use Rattle.rank_machine.specs.State.{State}
use Rattle.rank_machine.specs.CodeLaw.{slot_at}
use Rattle.script_lines.specs.Layouts.{IsLayout}
use Rattle.serial_model.specs.Serial.{Values, whole, matrix_in}
use Rattle.dist_matrix.specs.Strips.{HasShape}
use Rattle.dist_matrix.proofs.EntryLaws.{row_in, column_in}
use Rattle.product_laws.specs.Held.{HoldsGroups}
use Rattle.whole_run.specs.Between.{HoldsMatrix, StandsForMatrix}

-- by ranks and groups, so group by group
pub groups-held : (st : State) (line : ℕ) (d : Layout) (m : Matrix) → HoldsMatrix st line d m → HoldsGroups st d line m
groups-held st line d m h group inside row col hr hc = h (rank_at d.grid row col) group (record { data_rank = is_data_rank-rank_at d.grid row col hr hc; group_in = inside })

-- and back: each data rank stands at a row and a column
pub matrix-held : (st : State) (line : ℕ) (d : Layout) (m : Matrix) → IsLayout d → HoldsGroups st d line m → HoldsMatrix st line d m
matrix-held st line d m is h rank group names =
    subst (λ r. st.tiles r (slot_at Data line group) ≡ Some (Words (strip_of d m r group))) (rank_at-coords d.grid rank (is_data_rank-member d.grid rank names.data_rank))
    (h group names.group_in (row_of d.grid rank) (col_of d.grid rank) (row_in d rank group is names) (column_in d rank group names))

-- what the strips of a line stand for is the matrix that its name means
pub record HoldsOperand (st : State) (d : Layout) (line : ℕ) (m : Matrix) : Type 0 where
  pub groups : HoldsGroups st d line m
  pub shape : HasShape d m
  pub shaped : IsShaped m

-- where the line stands for a name that means a matrix, it is that matrix
pub operand-held : (s : Setting) (st : State) (line : ℕ) (name : List ℕ) (values : Values) (m : Matrix) (d : Layout) → StandsForMatrix s st line name values → values name ≡ Some (whole m) → layout s line ≡ d → HoldsOperand st d line m
operand-held s st line name values m d stands means lies =
    subst (λ (e : Layout). HoldsOperand st e line m) lies
    (subst (λ (k : Matrix). HoldsOperand st (layout s line) line k) (ap matrix_in (sym stands.means ∙ means))
    (record { groups = groups-held st line (layout s line) stands.matrix stands.held; shape = stands.shape; shaped = stands.shaped }))
