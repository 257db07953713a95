-- The strips of one block column: each process row holds its rows, by the block-cyclic map of rows. What the strips hold is said by words of
-- the global row and of the strip's column, so that what is done to strips is a change of such words.
use Rattle.std.specs.Prelude.{◌≡◌, ◌≢◌, ℕ, ◌+◌, ◌-◌, ◌*◌, ◌%◌, ◌<◌, ◌≤◌, ◌&&◌, if◌then◌else◌, nat_lt, nat_le, Bool}
use Rattle.run_data.specs.declared.matrix.Part.{Part}
use Rattle.run_data.specs.Matrix.{Matrix, cols, entry}
use Rattle.run_data.specs.Parts.{part_entry, whole_part}
use Rattle.local_blas.specs.Kernels.{with_added, with_product, with_solved_lower, with_solved_upper, with_eliminated}
use Rattle.array_desc.specs.Maps.{owner, local, global, numroc, block_in}
use Rattle.elimination.specs.Panels.{solved}
use Rattle.elimination.specs.Solves.{upper_solved, gained}

-- m rows in blocks of mb on procs process rows, of which src holds the first block
pub record RowMap : Type 0 where
  pub m : ℕ
  pub mb : ℕ
  pub src : ℕ
  pub procs : ℕ

pub record IsRowMap (d : RowMap) : Type 0 where
  pub some_block : 0 < d.mb
  pub source : d.src < d.procs

-- how many of the rows below g a process row holds
abbrev pub rows_below : RowMap → ℕ → ℕ → ℕ
rows_below d g row = numroc g d.mb row d.src d.procs

-- the global row of a local row
abbrev pub row_at : RowMap → ℕ → ℕ → ℕ
row_at d row l = global l d.mb row d.src d.procs

-- the process row of a global row, and its place there
abbrev pub row_owner : RowMap → ℕ → ℕ
row_owner d i = owner i d.mb d.src d.procs

abbrev pub row_place : RowMap → ℕ → ℕ
row_place d i = local i d.mb d.procs

-- the strips, one a process row, hold the words f
pub record Hold (d : RowMap) (width : ℕ) (f : ℕ → ℕ → ℕ) (strips : ℕ → Matrix) : Type 0 where
  pub rows : (row : ℕ) → row < d.procs → (strips row).rows ≡ rows_below d d.m row
  pub columns : (row : ℕ) → row < d.procs → cols (strips row) ≡ width
  pub words : (row l c : ℕ) → row < d.procs → l < rows_below d d.m row → c < width → entry (strips row) l c ≡ f (row_at d row l) c

-- the words that strips hold, and 0 past the rows
abbrev pub held : RowMap → (ℕ → Matrix) → ℕ → ℕ → ℕ
held d strips i c = if nat_lt i d.m then entry (strips (row_owner d i)) (row_place d i) c else 0

-- rows i and j of the strips have changed places, and all other words are as they were
pub record AreExchanged (d : RowMap) (width i j : ℕ) (strips strips' : ℕ → Matrix) : Type 0 where
  pub rows : (row : ℕ) → row < d.procs → (strips' row).rows ≡ (strips row).rows
  pub columns : (row : ℕ) → row < d.procs → cols (strips' row) ≡ cols (strips row)
  pub first : (c : ℕ) → c < width → entry (strips' (row_owner d i)) (row_place d i) c ≡ entry (strips (row_owner d j)) (row_place d j) c
  pub second : (c : ℕ) → c < width → entry (strips' (row_owner d j)) (row_place d j) c ≡ entry (strips (row_owner d i)) (row_place d i) c
  pub others : (row l c : ℕ) → row < d.procs → l < rows_below d d.m row → c < width → row_at d row l ≢ i → row_at d row l ≢ j → entry (strips' row) l c ≡ entry (strips row) l c

-- the words f in the rows from lo to hi - 1, and those of g in the others
unfoldable pub in_rows : ℕ → ℕ → (ℕ → ℕ → ℕ) → (ℕ → ℕ → ℕ) → ℕ → ℕ → ℕ
in_rows lo hi f g i c = if nat_le lo i && nat_lt i hi then f i c else g i c

-- the words after the n rows from `first` on were solved by the lower, or the upper, triangle of l there
abbrev pub solved_rows : ℕ → (ℕ → ℕ) → Bool → (ℕ → ℕ → ℕ) → ℕ → ℕ → (ℕ → ℕ → ℕ) → ℕ → ℕ → ℕ
solved_rows p inverse unit l first n f = in_rows first (first + n) (λ i c. solved p inverse unit l first (λ r. f r c) (i - first)) f

abbrev pub upper_solved_rows : ℕ → (ℕ → ℕ) → Bool → (ℕ → ℕ → ℕ) → ℕ → ℕ → (ℕ → ℕ → ℕ) → ℕ → ℕ → ℕ
upper_solved_rows p inverse unit u first n f = in_rows first (first + n) (λ i c. upper_solved p inverse unit u first n (λ r. f r c) (i - first)) f

-- the words after the rows from lo to hi - 1 gained a times the product of n columns of l with n rows y
abbrev pub gained_rows : ℕ → ℕ → (ℕ → ℕ → ℕ) → ℕ → (ℕ → ℕ → ℕ) → ℕ → ℕ → (ℕ → ℕ → ℕ) → ℕ → ℕ → ℕ
gained_rows p a l n y lo hi f = in_rows lo hi (λ i c. gained p a l n (λ r. f r c) (λ k. y k c) i) f

-- the part of a strip with the global rows from lo to hi - 1, in all columns
abbrev pub span : RowMap → ℕ → ℕ → ℕ → ℕ → Part
span d lo hi width row = record { r0 = rows_below d lo row; r1 = rows_below d hi row; c0 = 0; c1 = width }

-- n rows from `first` on, which lie in one block
pub record IsBlock (d : RowMap) (first n : ℕ) : Type 0 where
  pub one_block : first % d.mb + n ≤ d.mb
  pub inside : first + n ≤ d.m

-- their part in the strip of their process row
abbrev pub block_rows : RowMap → ℕ → ℕ → ℕ → Part
block_rows d first n width = record { r0 = row_place d first; r1 = row_place d first + n; c0 = 0; c1 = width }

-- the strip of their process row was solved there by a block of which the words are those of l, and the others are as they were
pub record AreSolved (d : RowMap) (width : ℕ) (p : ℕ) (inverse : ℕ → ℕ) (unit : Bool) (l : ℕ → ℕ → ℕ) (first n : ℕ) (block : Matrix) (bp : Part) (strips strips' : ℕ → Matrix) : Type 0 where
  pub made : strips' (row_owner d first) ≡ with_solved_lower p inverse (strips (row_owner d first)) (block_rows d first n width) block bp unit
  pub others : (row : ℕ) → row < d.procs → row ≢ row_owner d first → strips' row ≡ strips row
  pub triangle : (i k : ℕ) → i < n → k < n → part_entry block bp i k ≡ l (first + i) (first + k)

pub record AreUpperSolved (d : RowMap) (width : ℕ) (p : ℕ) (inverse : ℕ → ℕ) (unit : Bool) (u : ℕ → ℕ → ℕ) (first n : ℕ) (block : Matrix) (bp : Part) (strips strips' : ℕ → Matrix) : Type 0 where
  pub made : strips' (row_owner d first) ≡ with_solved_upper p inverse (strips (row_owner d first)) (block_rows d first n width) block bp unit
  pub others : (row : ℕ) → row < d.procs → row ≢ row_owner d first → strips' row ≡ strips row
  pub triangle : (i k : ℕ) → i < n → k < n → part_entry block bp i k ≡ u (first + i) (first + k)

-- each strip gained, in its rows from lo to hi - 1, a times the product of a part with the words of l in these rows and of a part with the words y. A strip
-- without such rows has its shape and its words still, be it written again or not
pub record HaveGained (d : RowMap) (width : ℕ) (p a : ℕ) (l : ℕ → ℕ → ℕ) (n : ℕ) (y : ℕ → ℕ → ℕ) (lo hi : ℕ) (left : ℕ → Matrix) (lp : ℕ → Part) (right : ℕ → Matrix) (rp : ℕ → Part) (strips strips' : ℕ → Matrix) : Type 0 where
  pub made : (row : ℕ) → row < d.procs → rows_below d lo row < rows_below d hi row → strips' row ≡ with_product p (strips row) (span d lo hi width row) a (left row) (lp row) (right row) (rp row)
  pub other_rows : (row : ℕ) → row < d.procs → rows_below d hi row ≤ rows_below d lo row → (strips' row).rows ≡ (strips row).rows
  pub other_columns : (row : ℕ) → row < d.procs → rows_below d hi row ≤ rows_below d lo row → cols (strips' row) ≡ cols (strips row)
  pub other_words : (row l c : ℕ) → row < d.procs → rows_below d hi row ≤ rows_below d lo row → l < rows_below d d.m row → c < width → entry (strips' row) l c ≡ entry (strips row) l c
  pub inner : (row : ℕ) → row < d.procs → rows_below d lo row < rows_below d hi row → (lp row).c1 - (lp row).c0 ≡ n
  pub left_words : (row i k : ℕ) → row < d.procs → rows_below d lo row + i < rows_below d hi row → k < n → part_entry (left row) (lp row) i k ≡ l (row_at d row (rows_below d lo row + i)) k
  pub right_words : (row k c : ℕ) → row < d.procs → rows_below d lo row < rows_below d hi row → k < n → c < width → part_entry (right row) (rp row) k c ≡ y k c

-- column j of each strip was eliminated in its rows below row `above`, by a part of one row with the words of that row
pub record AreEliminated (d : RowMap) (width : ℕ) (p : ℕ) (inverse : ℕ → ℕ) (above j : ℕ) (f : ℕ → ℕ → ℕ) (line : ℕ → Matrix) (at : ℕ → Part) (strips strips' : ℕ → Matrix) : Type 0 where
  pub made : (row : ℕ) → row < d.procs → strips' row ≡ with_eliminated p inverse (strips row) (λ l. nat_lt above (row_at d row l)) j (line row) (at row)
  pub pivot_words : (row c : ℕ) → row < d.procs → c < width → part_entry (line row) (at row) 0 c ≡ f above c

-- each strip gained a times a part of its shape, at the places that pass a test of the global row and the strip's column
pub record HaveAdded (d : RowMap) (width : ℕ) (p a : ℕ) (g : ℕ → ℕ → ℕ) (holds : ℕ → ℕ → Bool) (source : ℕ → Matrix) (sp : ℕ → Part) (test : ℕ → ℕ → ℕ → Bool) (strips strips' : ℕ → Matrix) : Type 0 where
  pub made : (row : ℕ) → row < d.procs → strips' row ≡ with_added p (strips row) (whole_part (strips row)) a (source row) (sp row) (test row)
  pub source_words : (row l c : ℕ) → row < d.procs → l < rows_below d d.m row → c < width → part_entry (source row) (sp row) l c ≡ g (row_at d row l) c
  pub tests : (row l c : ℕ) → row < d.procs → l < rows_below d d.m row → c < width → test row l c ≡ holds (row_at d row l) c

-- the words f, which gained a times the words g where the test holds
abbrev pub added_words : ℕ → ℕ → (ℕ → ℕ → ℕ) → (ℕ → ℕ → Bool) → (ℕ → ℕ → ℕ) → ℕ → ℕ → ℕ
added_words p a g holds f i c = if holds i c then (f i c + a * g i c) % p else f i c

-- the part of one row of a strip
abbrev pub one_row : ℕ → ℕ → Part
one_row place width = record { r0 = place; r1 = place + 1; c0 = 0; c1 = width }

-- the global column of process column q in a group, at column c of its strip: block columns of nb columns on procs process columns, of which src holds the first
abbrev pub group_column : ℕ → ℕ → ℕ → ℕ → ℕ → ℕ → ℕ
group_column group nb src procs c q = block_in group q src procs * nb + c
