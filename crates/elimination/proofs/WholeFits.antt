-- That the parts on which the kernels work are in their matrices, and that their shapes agree.
use Rattle.std.proofs.Common.{◌≡◌, ℕ, ◌+◌, ◌-◌, ◌<◌, ◌≤◌, min, arith}
use Rattle.run_data.specs.declared.matrix.Part.{Part}
use Rattle.run_data.specs.Matrix.{Matrix, cols}
use Rattle.run_data.specs.Parts.{IsWithin}
use Rattle.local_blas.specs.Kernels.{ShapesMultiply, ShapesSolve}

-- rows r0 to r1 - 1 of the first w columns
abbrev pub rows_of : ℕ → ℕ → ℕ → Part
rows_of r0 r1 w = record { r0 = r0; r1 = r1; c0 = 0; c1 = w }

-- one row of a matrix of the same shape
pub row_within : (a b : Matrix) (d w : ℕ) → b.rows ≡ a.rows → cols b ≡ cols a → w ≡ cols a → d < a.rows → IsWithin (rows_of d (d + 1) w) b
row_within a b d w rows columns e h = record { rows_ordered = omega arith; rows_end = omega arith; columns_ordered = omega arith; columns_end = omega arith }

pub next_row : (a b : Matrix) (d : ℕ) → b.rows ≡ a.rows → d < a.rows → d + 1 ≤ b.rows
next_row a b d rows h = omega arith

pub column_inside : (a b : Matrix) (j : ℕ) → cols b ≡ cols a → j < cols a → j < cols b
column_inside a b j columns h = omega arith

pub one_row : (b : Matrix) (d : ℕ) → b.rows ≡ d + 1 - d → b.rows ≡ 1
one_row b d rows = omega arith

pub row_columns : (a b row : Matrix) (w : ℕ) → cols b ≡ cols a → cols row ≡ w - 0 → w ≡ cols a → cols row ≡ cols b
row_columns a b row w columns own e = omega arith

-- the rows of a panel's diagonal
pub among_within : (a b : Matrix) (first n w : ℕ) → b.rows ≡ a.rows → w ≤ cols b → first + n ≤ a.rows → IsWithin (rows_of first (first + n) w) b
among_within a b first n w rows columns h = record { rows_ordered = omega arith; rows_end = omega arith; columns_ordered = omega arith; columns_end = columns }

-- the rows below them
pub below_within : (a b : Matrix) (first n m w : ℕ) → b.rows ≡ a.rows → m ≡ a.rows → w ≤ cols b → first + n ≤ a.rows → IsWithin (rows_of (first + n) m w) b
below_within a b first n m w rows all columns h = record { rows_ordered = omega arith; rows_end = omega arith; columns_ordered = omega arith; columns_end = columns }

-- all of the rows that were cut out
pub cut_within : (b : Matrix) (first n w : ℕ) → b.rows ≡ first + n - first → cols b ≡ w - 0 → IsWithin (rows_of 0 n w) b
cut_within b first n w rows columns = record { rows_ordered = omega arith; rows_end = omega arith; columns_ordered = omega arith; columns_end = omega arith }

pub columns_fit : (a b : Matrix) (w : ℕ) → cols b ≡ cols a → w ≡ cols a → w ≤ cols b
columns_fit a b w columns e = omega arith

pub solve_fits : (first n w : ℕ) → ShapesSolve (rows_of first (first + n) w) (rows_of first (first + n) n)
solve_fits first n w = record { square = omega arith; rows = omega arith }

pub product_fits : (from m n w : ℕ) → ShapesMultiply (rows_of from m w) (rows_of from m n) (rows_of 0 n w)
product_fits from m n w = record { rows = omega arith; columns = omega arith; inner = omega arith }

-- ---- the numbers of a panel: it begins at `first` and is w columns wide, and its diagonal ends at m or with the rows

pub panel_ordered : (first w : ℕ) → first ≤ first + w
panel_ordered first w = omega arith

pub panel_ends : (first w nb width columns : ℕ) → w ≡ min nb (width - first) → width ≡ columns → first < columns → first + w ≤ columns
panel_ends first w nb width columns e same h = omega arith

pub panel_inside : (first w m height rows : ℕ) → m ≡ min (first + w) height → height ≡ rows → first < rows → first + (m - first) ≤ rows
panel_inside first w m height rows e same h = omega arith

pub panel_narrow : (first w m height : ℕ) → m ≡ min (first + w) height → m - first ≤ (first + w) - first
panel_narrow first w m height e = omega arith
