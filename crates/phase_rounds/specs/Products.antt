-- The round of a product for one block column of its left matrix. The strips of the block column go along the process rows, the block row of the right matrix
-- goes down the process columns, and each rank adds the product of the two to its whole strip of the third matrix, on code columns as on data columns, and
-- also where its process row has no rows.
use Rattle.std.specs.Prelude.{◌≡◌, ℕ, ◌-◌, ◌<◌, ◌==◌, ◌||◌, Bool, true, false, if◌then◌else◌, List, [], ◌∷◌, ◌++◌}
use Rattle.run_data.specs.declared.matrix.Part.{Part}
use Rattle.run_data.specs.Parts.{part_entry}
use Rattle.array_desc.specs.Descriptors.{IsDesc}
use Rattle.rank_run.specs.declared.round.Event.{Event}
use Rattle.rank_run.specs.declared.round.Event.TheVariants.{Local}
use Rattle.blacs_comm.specs.Positions as positions
use Rattle.blacs_comm.specs.Positions.{sender_of}
use Rattle.blacs_comm.specs.Moves.{broadcast_moves}
use Rattle.blacs_comm.specs.declared.topology.Topology.{Topology}
use Rattle.blacs_grid.specs.declared.Scope.TheVariants.{Row, Column}
use Rattle.blacs_grid.specs.Places.{width, rank_at, member}
use Rattle.rank_machine.specs.declared.slot.Slot.{Slot}
use Rattle.rank_machine.specs.declared.slot.Tile.{Tile}
use Rattle.rank_machine.specs.declared.slot.Piece.{Piece}
use Rattle.rank_machine.specs.declared.slot.Piece.TheVariants as piece
use Rattle.rank_machine.specs.declared.kernel.Kernel.{Kernel}
use Rattle.rank_machine.specs.declared.kernel.Kernel.TheVariants as k
use Rattle.rank_machine.specs.declared.layout.Layout.{Layout}
use Rattle.rank_machine.specs.Setting.{Setting, job}
use Rattle.rank_machine.specs.State.{State, same_slot}
use Rattle.rank_machine.specs.Effect.{current, is_words, words_of}
use Rattle.rank_machine.specs.Legal.{is_among, is_inside, height, breadth}
use Rattle.rank_slots.specs.Rank.{Rank}
use Rattle.elimination.specs.Strips.{rows_below, row_at, gained_rows}
use Rattle.phase_laws.specs.Columns.{rows_of}
use Rattle.round_laws.specs.Holdings.{Holding, may_put}
use Rattle.round_laws.specs.Turns.{each_below, IsGridOf}
use Rattle.round_laws.specs.Paths.{path_of}
use Rattle.phase_rounds.specs.Strips.{HoldsWords, work}

-- where the third matrix lies, the way of messages and the factor; process column q holds the block column of the left matrix in the slot a, process row r
-- the block row of the right matrix in the slots b of the process columns; the slots c of the third matrix; and the parts of the strips that count
pub record BlockProduct : Type 0 where
  pub at : Layout
  pub topology : Topology
  pub alpha : ℕ
  pub q : ℕ
  pub r : ℕ
  pub a : Slot
  pub b : ℕ → Slot
  pub c : ℕ → Slot
  pub left : ℕ → Part
  pub right : Part

-- ---- the events
-- what a rank multiplies: its own strip or what it was sent
abbrev pub left_piece : BlockProduct → ℕ → ℕ → Piece
left_piece x row col = piece.Part (if col == x.q then x.a else work 0) (x.left row)

abbrev pub right_piece : BlockProduct → ℕ → ℕ → Piece
right_piece x row col = if row == x.r then piece.Part (x.b col) x.right else piece.Whole (work 1)

abbrev pub product_kernel : BlockProduct → ℕ → ℕ → Kernel
product_kernel x row col = k.MulAdd (piece.Whole (x.c col)) x.alpha (left_piece x row col) (right_piece x row col)

abbrev pub product_row : BlockProduct → ℕ → List (Event Rank Kernel Piece Tile)
product_row x row =
    broadcast_moves (positions.rank_at (member x.at.grid (Row row)) (width x.at.grid) x.topology x.q) (sender_of x.topology) (piece.Whole x.a) (piece.Whole (work 0)) (width x.at.grid - 1)

abbrev pub product_column : BlockProduct → ℕ → List (Event Rank Kernel Piece Tile)
product_column x col =
    broadcast_moves (positions.rank_at (member x.at.grid (Column col)) x.at.grid.p x.topology x.r) (sender_of x.topology) (piece.Part (x.b col) x.right) (piece.Whole (work 1)) (x.at.grid.p - 1)
    ++ each_below x.at.grid.p (λ row. Local (rank_at x.at.grid row col) (product_kernel x row col) ∷ [])

abbrev pub product_events : BlockProduct → List (Event Rank Kernel Piece Tile)
product_events x = each_below x.at.grid.p (product_row x) ++ each_below (width x.at.grid) (product_column x)

-- ---- what the round asks
-- the slots are different ones, the factor is one of the line's, and messages go the way of the line's topology
pub record MayMultiply (s : Setting) (st : State) (x : BlockProduct) : Type 0 where
  pub own_grid : IsGridOf s x.at.grid
  pub desc : IsDesc x.at.grid.p x.at.grid.q x.at.desc
  pub q_in : x.q < width x.at.grid
  pub r_in : x.r < x.at.grid.p
  pub factor : is_among (job s (current s st.mark)).scalars x.alpha ≡ true
  pub path : (job s (current s st.mark)).path ≡ path_of x.topology
  pub c_not_a : (col : ℕ) → same_slot (x.c col) x.a ≡ false
  pub c_not_b : (col : ℕ) → same_slot (x.c col) (x.b col) ≡ false
  pub c_no_work : (col n : ℕ) → same_slot (x.c col) (work n) ≡ false
  pub a_no_work : (n : ℕ) → same_slot x.a (work n) ≡ false
  pub b_no_work : (col n : ℕ) → same_slot (x.b col) (work n) ≡ false

-- the strips are there: the left parts hold n columns of the words l at all rows, the right part on each process column the n rows y, and the strips of the
-- third matrix the words; two work slots may be written
pub record CanMultiply (x : BlockProduct) (l : ℕ → ℕ → ℕ) (n : ℕ) (y words : ℕ → ℕ → ℕ → ℕ) (f : ℕ → ℕ → Holding) : Type 0 where
  pub a_there : (row : ℕ) → row < x.at.grid.p → is_words ((f row x.q).tiles x.a) ≡ true
  pub left_in : (row : ℕ) → row < x.at.grid.p → is_inside (x.left row) (words_of ((f row x.q).tiles x.a)) ≡ true
  pub left_rows : (row : ℕ) → row < x.at.grid.p → height (x.left row) ≡ rows_below (rows_of x.at) x.at.desc.m row
  pub left_columns : (row : ℕ) → row < x.at.grid.p → breadth (x.left row) ≡ n
  pub left_words : (row i q : ℕ) → row < x.at.grid.p → i < rows_below (rows_of x.at) x.at.desc.m row → q < n → part_entry (words_of ((f row x.q).tiles x.a)) (x.left row) i q ≡ l (row_at (rows_of x.at) row i) q
  pub b_there : (col : ℕ) → col < width x.at.grid → is_words ((f x.r col).tiles (x.b col)) ≡ true
  pub right_in : (col : ℕ) → col < width x.at.grid → is_inside x.right (words_of ((f x.r col).tiles (x.b col))) ≡ true
  pub right_rows : height x.right ≡ n
  pub right_columns : breadth x.right ≡ x.at.desc.nb
  pub right_words : (col q c : ℕ) → col < width x.at.grid → q < n → c < x.at.desc.nb → part_entry (words_of ((f x.r col).tiles (x.b col))) x.right q c ≡ y col q c
  pub stands : (col : ℕ) → col < width x.at.grid → HoldsWords x.at (x.c col) (words col) (λ row. f row col)
  pub first_free : (row col : ℕ) → row < x.at.grid.p → col < width x.at.grid → may_put (f row col) (work 0) ≡ true
  pub second_free : (row col : ℕ) → row < x.at.grid.p → col < width x.at.grid → may_put (f row col) (work 1) ≡ true

-- ---- what it does
-- the slots that may change on a process column
abbrev pub product_slots : BlockProduct → ℕ → Slot → Bool
product_slots x col slot = same_slot slot (x.c col) || (same_slot slot (work 0) || same_slot slot (work 1))

-- the words of the third matrix on a process column, which gained alpha times the product of l and y at all rows
abbrev pub product_words : Setting → BlockProduct → (ℕ → ℕ → ℕ) → ℕ → (ℕ → ℕ → ℕ → ℕ) → (ℕ → ℕ → ℕ → ℕ) → ℕ → ℕ → ℕ → ℕ
product_words s x l n y words col = gained_rows s.modulus x.alpha l n (y col) 0 x.at.desc.m (words col)
