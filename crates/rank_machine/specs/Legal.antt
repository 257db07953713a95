-- Which records are legal in a state: a record of named facts for each kind.
use Rattle.std.specs.Prelude.{◌≡◌, ◌+◌, ◌-◌, ◌%◌, ◌⊎◌, ◌&&◌, ◌||◌, ◌==◌, ◌∷◌, if◌then◌else◌, ℕ, Bool, true, false, not, Option, Some, None, is_some, List, length, map, slice_index_or, nat_lt, nat_le, IsTrue, Contains, []}
use Rattle.std.specs.List.{range_with_len}
use Rattle.cauchy_code.specs.Cauchy.{IsDecoding, weight}
use Rattle.run_data.specs.declared.matrix.Part.{Part}
use Rattle.run_data.specs.Matrix.{Matrix, cols, entry}
use Rattle.blacs_grid.specs.declared.Grid.{Grid}
use Rattle.blacs_grid.specs.Places.{width, is_member, row_of, col_of, rank_at, is_data_rank}
use Rattle.rank_machine.specs.declared.slot.SlotKind.{SlotKind}
use Rattle.rank_machine.specs.declared.slot.SlotKind.TheVariants.{Data, Code, Low, Open, Pivots, Work}
use Rattle.rank_machine.specs.declared.slot.Slot.{Slot}
use Rattle.rank_machine.specs.declared.slot.Tile.{Tile}
use Rattle.rank_machine.specs.declared.slot.Tile.TheVariants.{Words, Index}
use Rattle.rank_machine.specs.declared.slot.Piece.{Piece}
use Rattle.rank_machine.specs.declared.slot.Piece.TheVariants as piece
use Rattle.rank_machine.specs.declared.kernel.Cut.{Cut}
use Rattle.rank_machine.specs.declared.kernel.Cut.TheVariants as cut
use Rattle.rank_machine.specs.declared.kernel.Kernel.{Kernel}
use Rattle.rank_machine.specs.declared.kernel.Kernel.TheVariants as k
use Rattle.rank_machine.specs.declared.mark.Mark.{Mark}
use Rattle.rank_machine.specs.declared.record.Rec.{Rec}
use Rattle.rank_machine.specs.declared.record.Rec.TheVariants as r
use Rattle.rank_machine.specs.Setting.{Path, anywhere, forwards, backwards, members, Setting, all_below, some_below, ranks, grid_of_rank, job, layout, is_matrix, blocks, group_count}
use Rattle.rank_machine.specs.State.{kind_number, same_kind, same_slot, State, opened}
use Rattle.rank_machine.specs.Effect.{words_of, numbers_of, is_words, is_index, slot_of, is_whole, Memory, matrix_in, area_in, piece_in, target, current, after}
use Rattle.rank_machine.specs.CodeLaw.{slot_at, is_strip_of, CodeLaw}
use Rattle.rank_machine.specs.Marks.{follows}

-- ---- slots and pieces
-- fresh, saved, or new
abbrev pub may_write : State → ℕ → Slot → Bool
may_write st rank slot = (st.fresh rank slot || is_some (st.saved rank slot)) || not (is_some (st.tiles rank slot))

-- there, and fresh or saved
abbrev pub may_change : State → ℕ → Slot → Bool
may_change st rank slot = is_some (st.tiles rank slot) && (st.fresh rank slot || is_some (st.saved rank slot))

abbrev pub is_inside : Part → Matrix → Bool
is_inside at m = (nat_le at.r0 at.r1 && nat_le at.r1 m.rows) && (nat_le at.c0 at.c1 && nat_le at.c1 (cols m))

-- the piece is there, holds words and lies in its tile
abbrev pub holds_words : Memory → Piece → Bool
holds_words mem x = is_words (mem (slot_of x)) && is_inside (area_in mem x) (matrix_in mem x)

-- the piece is there: words, or a whole list of numbers
abbrev pub holds : Memory → Piece → Bool
holds mem x = holds_words mem x || (is_whole x && is_index (mem (slot_of x)))

abbrev pub is_number : Option Tile → Bool
is_number t = is_index t && (length (numbers_of t) == 1)

abbrev pub holds_number : Memory → Piece → Bool
holds_number mem x = is_whole x && is_number (mem (slot_of x))

abbrev pub height : Part → ℕ
height at = at.r1 - at.r0

abbrev pub breadth : Part → ℕ
breadth at = at.c1 - at.c0

abbrev pub same_area : Part → Part → Bool
same_area a b = (height a == height b) && (breadth a == breadth b)

-- a tile is not there, or has the shape of another
abbrev pub has_shape_of : Option Tile → Tile → Bool
has_shape_of None t = true
has_shape_of (Some (Words m)) (Words t) = (m.rows == t.rows) && (cols m == cols t)
has_shape_of (Some (Index ns)) (Index ms) = true
has_shape_of (Some (Words m)) (Index ns) = false
has_shape_of (Some (Index ns)) (Words m) = false

-- a slot that lies in a matrix, on a rank of its grid
abbrev pub in_matrix : Setting → ℕ → Slot → Bool
in_matrix s rank slot = (nat_lt (kind_number slot.kind) 4 && is_matrix s slot.id) && is_member (layout s slot.id).grid rank

-- ---- kernels
abbrev pub reads : Kernel → List Piece
reads (k.Zero to rows columns) = []
reads (k.Copy to from) = from ∷ []
reads (k.Scale to a) = []
reads (k.Add to a from cut) = from ∷ []
reads (k.MulAdd to a left right) = left ∷ right ∷ []
reads (k.Lower to block unit) = block ∷ []
reads (k.Upper to block unit) = block ∷ []
reads (k.Swap to i j) = []
reads (k.First to from j above) = from ∷ []
reads (k.Diag to from n) = from ∷ []
reads (k.Least to from) = from ∷ []
reads (k.Elim to j above row) = row ∷ []
reads (k.Push to from above) = from ∷ []
reads (k.Trans to from) = from ∷ []

-- a kernel that may make its slot; each other one needs it there
abbrev pub makes : Kernel → Bool
makes (k.Zero to rows columns) = true
makes (k.Copy to from) = is_whole to
makes (k.Scale to a) = false
makes (k.Add to a from cut) = false
makes (k.MulAdd to a left right) = false
makes (k.Lower to block unit) = false
makes (k.Upper to block unit) = false
makes (k.Swap to i j) = false
makes (k.First to from j above) = true
makes (k.Diag to from n) = true
makes (k.Least to from) = false
makes (k.Elim to j above row) = false
makes (k.Push to from above) = false
makes (k.Trans to from) = true

abbrev pub is_apart : Slot → List Piece → Bool
is_apart slot [] = true
is_apart slot (x ∷ xs) = not (same_slot slot (slot_of x)) && is_apart slot xs

-- what is read and changed is there, with words or numbers
abbrev pub is_held : Memory → Kernel → Bool
is_held mem (k.Zero to rows columns) = true
is_held mem (k.Copy to from) = if is_whole to then holds mem from else holds_words mem to && holds_words mem from
is_held mem (k.Scale to a) = holds_words mem to
is_held mem (k.Add to a from cut) = holds_words mem to && holds_words mem from
is_held mem (k.MulAdd to a left right) = (holds_words mem to && holds_words mem left) && holds_words mem right
is_held mem (k.Lower to block unit) = holds_words mem to && holds_words mem block
is_held mem (k.Upper to block unit) = holds_words mem to && holds_words mem block
is_held mem (k.Swap to i j) = is_words (mem to)
is_held mem (k.First to from j above) = holds_words mem from
is_held mem (k.Diag to from n) = holds_words mem from
is_held mem (k.Least to from) = is_number (mem to) && holds_number mem from
is_held mem (k.Elim to j above row) = is_words (mem to) && holds_words mem row
is_held mem (k.Push to from above) = is_index (mem to) && holds_number mem from
is_held mem (k.Trans to from) = holds_words mem from

-- shapes agree, and each local row and column that is named is there
abbrev pub is_square : Part → Part → Bool
is_square at to = (height at == breadth at) && (height at == height to)

abbrev pub is_shaped : Memory → Kernel → Bool
is_shaped mem (k.Copy to from) = if is_whole to then has_shape_of (mem (slot_of to)) (piece_in mem from) else same_area (area_in mem to) (area_in mem from)
is_shaped mem (k.Add to a from cut) = same_area (area_in mem to) (area_in mem from)
is_shaped mem (k.MulAdd to a left right) =
    (height (area_in mem to) == height (area_in mem left)) && ((breadth (area_in mem left) == height (area_in mem right)) && (breadth (area_in mem to) == breadth (area_in mem right)))
is_shaped mem (k.Lower to block unit) = is_square (area_in mem block) (area_in mem to)
is_shaped mem (k.Upper to block unit) = is_square (area_in mem block) (area_in mem to)
is_shaped mem (k.Swap to i j) = nat_lt i (words_of (mem to)).rows && nat_lt j (words_of (mem to)).rows
is_shaped mem (k.First to from j above) = nat_lt j (breadth (area_in mem from))
is_shaped mem (k.Elim to j above row) = ((height (area_in mem row) == 1) && (breadth (area_in mem row) == cols (words_of (mem to)))) && nat_lt j (cols (words_of (mem to)))
is_shaped mem (k.Zero to rows columns) = true
is_shaped mem (k.Scale to a) = true
is_shaped mem (k.Diag to from n) = true
is_shaped mem (k.Least to from) = true
is_shaped mem (k.Push to from above) = true
is_shaped mem (k.Trans to from) = true

-- no divisor is zero
abbrev pub has_divisors : Memory → Kernel → Bool
has_divisors mem (k.Lower to block unit) = unit || all_below (height (area_in mem block)) (λ i. not (entry (matrix_in mem block) ((area_in mem block).r0 + i) ((area_in mem block).c0 + i) == 0))
has_divisors mem (k.Upper to block unit) = unit || all_below (height (area_in mem block)) (λ i. not (entry (matrix_in mem block) ((area_in mem block).r0 + i) ((area_in mem block).c0 + i) == 0))
has_divisors mem (k.Elim to j above row) = not (entry (matrix_in mem row) (area_in mem row).r0 ((area_in mem row).c0 + j) == 0)
has_divisors mem (k.Zero to rows columns) = true
has_divisors mem (k.Copy to from) = true
has_divisors mem (k.Scale to a) = true
has_divisors mem (k.Add to a from cut) = true
has_divisors mem (k.MulAdd to a left right) = true
has_divisors mem (k.Swap to i j) = true
has_divisors mem (k.First to from j above) = true
has_divisors mem (k.Diag to from n) = true
has_divisors mem (k.Least to from) = true
has_divisors mem (k.Push to from above) = true
has_divisors mem (k.Trans to from) = true

-- where the effect speaks of global rows or of a matrix, the slot lies in one
abbrev pub is_cut_placed : Setting → ℕ → Slot → Cut → Bool
is_cut_placed s rank slot cut.Whole = true
is_cut_placed s rank slot (cut.Upper block) = in_matrix s rank slot && nat_lt block (blocks (layout s slot.id))
is_cut_placed s rank slot (cut.Lower block) = in_matrix s rank slot && nat_lt block (blocks (layout s slot.id))

abbrev pub is_placed : Setting → ℕ → Kernel → Bool
is_placed s rank (k.Add to a from cut) = is_cut_placed s rank (slot_of to) cut
is_placed s rank (k.First to from j above) = is_whole from && in_matrix s rank (slot_of from)
is_placed s rank (k.Diag to from n) = is_whole from && in_matrix s rank (slot_of from)
is_placed s rank (k.Elim to j above row) = in_matrix s rank to
is_placed s rank (k.Zero to rows columns) = true
is_placed s rank (k.Copy to from) = true
is_placed s rank (k.Scale to a) = true
is_placed s rank (k.MulAdd to a left right) = true
is_placed s rank (k.Lower to block unit) = true
is_placed s rank (k.Upper to block unit) = true
is_placed s rank (k.Swap to i j) = true
is_placed s rank (k.Least to from) = true
is_placed s rank (k.Push to from above) = true
is_placed s rank (k.Trans to from) = true

-- `diag` reads every strip of the matrix that a data rank holds: they are all there, with words, and it writes none of them
abbrev pub has_strips : Setting → ℕ → Memory → Kernel → Bool
has_strips s rank mem (k.Diag to from n) =
    let d = layout s (slot_of from).id in
    not (is_data_rank d.grid rank) || all_below (group_count d) (λ group. is_strip_of d (row_of d.grid rank) (mem (slot_at Data (slot_of from).id group)) && not (same_slot to (slot_at Data (slot_of from).id group)))
has_strips s rank mem (k.Zero to rows columns) = true
has_strips s rank mem (k.Copy to from) = true
has_strips s rank mem (k.Scale to a) = true
has_strips s rank mem (k.Add to a from cut) = true
has_strips s rank mem (k.MulAdd to a left right) = true
has_strips s rank mem (k.Lower to block unit) = true
has_strips s rank mem (k.Upper to block unit) = true
has_strips s rank mem (k.Swap to i j) = true
has_strips s rank mem (k.First to from j above) = true
has_strips s rank mem (k.Least to from) = true
has_strips s rank mem (k.Elim to j above row) = true
has_strips s rank mem (k.Push to from above) = true
has_strips s rank mem (k.Trans to from) = true

-- ---- factors
abbrev pub factor_of : Kernel → Option ℕ
factor_of (k.Scale to a) = Some a
factor_of (k.Add to a from cut) = Some a
factor_of (k.MulAdd to a left right) = Some a
factor_of (k.Zero to rows columns) = None
factor_of (k.Copy to from) = None
factor_of (k.Lower to block unit) = None
factor_of (k.Upper to block unit) = None
factor_of (k.Swap to i j) = None
factor_of (k.First to from j above) = None
factor_of (k.Diag to from n) = None
factor_of (k.Least to from) = None
factor_of (k.Elim to j above row) = None
factor_of (k.Push to from above) = None
factor_of (k.Trans to from) = None

abbrev pub is_among : List ℕ → ℕ → Bool
is_among [] a = false
is_among (x ∷ xs) a = (x == a) || is_among xs a

-- a weight of the grid, or its negative
abbrev pub is_weight : Setting → Grid → ℕ → Bool
is_weight s g a = some_below g.f (λ c. some_below g.q (λ col. (a == weight s.inverse g.q c col) || (a == s.modulus - weight s.inverse g.q c col)))

abbrev pub is_plain_factor : Setting → State → ℕ → ℕ → Bool
is_plain_factor s st rank a = ((a == 1) || (a == s.modulus - 1)) || (is_among (job s (current s st.mark)).scalars a || is_weight s (grid_of_rank s rank) a)

-- which columns of a process row count as lost
abbrev pub lost_columns : State → Grid → ℕ → List Bool
lost_columns st g row = map (λ col. st.lost (rank_at g row col)) (range_with_len 0 (width g))

-- an entry of the list that decodes a lost data column of these
pub record IsDecodingEntry (s : Setting) (g : Grid) (lost : List Bool) (a : ℕ) : Type 0 where
  pub which : ℕ
  pub list : List ℕ
  pub column : IsTrue (nat_lt which g.q)
  pub is_lost : IsTrue (slice_index_or lost which false)
  pub decodes : IsDecoding s.modulus s.inverse g.q lost which list
  pub entry : Contains list a

abbrev pub IsFactor : Setting → State → ℕ → ℕ → Type 0
IsFactor s st rank a = IsTrue (is_plain_factor s st rank a) ⊎ IsDecodingEntry s (grid_of_rank s rank) (lost_columns st (grid_of_rank s rank) (row_of (grid_of_rank s rank) rank)) a

abbrev pub FactorOf : Setting → State → ℕ → Option ℕ → Type 0
FactorOf s st rank None = Unit {0}
FactorOf s st rank (Some a) = IsFactor s st rank a

-- ---- takes and sends
-- the host learns row numbers, and in a print line the strips of its matrix
abbrev pub may_take : Setting → State → ℕ → Slot → SlotKind → Bool
may_take s st rank slot Data = nat_lt 0 slot.id && ((job s (current s st.mark)).prints == slot.id)
may_take s st rank slot Pivots = is_index (st.tiles rank slot)
may_take s st rank slot Work = is_index (st.tiles rank slot)
may_take s st rank slot Code = false
may_take s st rank slot Low = false
may_take s st rank slot Open = false

abbrev pub some_lost : Setting → State → Bool
some_lost s st = some_below (ranks s) st.lost

-- from member a to member b of n along a path
abbrev pub is_step : Path → ℕ → ℕ → ℕ → Bool
is_step anywhere n a b = true
is_step forwards n a b = b == (a + 1) % n
is_step backwards n a b = a == (b + 1) % n
is_step members n a b = true

-- to another member of the sender's process row or column, along a path
abbrev pub is_along : Path → Grid → ℕ → ℕ → Bool
is_along path g from to =
    (is_member g to && not (from == to))
    && (((row_of g from == row_of g to) && is_step path (width g) (col_of g from) (col_of g to)) || ((col_of g from == col_of g to) && is_step path g.p (row_of g from) (row_of g to)))

abbrev pub may_go : Path → Grid → ℕ → ℕ → Bool
may_go anywhere g from to = true
may_go forwards g from to = is_along forwards g from to
may_go backwards g from to = is_along backwards g from to
may_go members g from to = is_along members g from to

-- in a product, while no rank is lost, a send goes along the line's path
abbrev pub is_path : Setting → State → ℕ → ℕ → Bool
is_path s st from to = some_lost s st || may_go (job s (current s st.mark)).path (grid_of_rank s from) from to

abbrev pub fits : State → ℕ → Piece → List Tile → Bool
fits st rank x [] = false
fits st rank (piece.Whole slot) (t ∷ ts) = may_write st rank slot
fits st rank (piece.Part slot at) (Index ns ∷ ts) = false
fits st rank (piece.Part slot at) (Words m ∷ ts) = (may_change st rank slot && holds_words (st.tiles rank) (piece.Part slot at)) && ((height at == m.rows) && (breadth at == cols m))

-- ---- records
pub record IsFeed (s : Setting) (st : State) (rank : ℕ) (slot : Slot) : Type 0 where
  pub live : IsTrue (st.live rank)
  pub kind : IsTrue (same_kind slot.kind Data)
  pub now : IsTrue (slot.id == current s st.mark)
  pub matrix : IsTrue (is_matrix s slot.id)
  pub owner : IsTrue (is_data_rank (layout s slot.id).grid rank)
  pub group : IsTrue (nat_lt slot.group (group_count (layout s slot.id)))
  pub writable : IsTrue (may_write st rank slot)

pub record IsRun (s : Setting) (st : State) (rank : ℕ) (kernel : Kernel) : Type 0 where
  pub live : IsTrue (st.live rank)
  pub held : IsTrue (is_held (st.tiles rank) kernel)
  pub writable : IsTrue (if makes kernel then may_write st rank (slot_of (target kernel)) else may_change st rank (slot_of (target kernel)))
  pub apart : IsTrue (is_apart (slot_of (target kernel)) (reads kernel))
  pub shaped : IsTrue (is_shaped (st.tiles rank) kernel)
  pub divisors : IsTrue (has_divisors (st.tiles rank) kernel)
  pub placed : IsTrue (is_placed s rank kernel)
  pub strips : IsTrue (has_strips s rank (st.tiles rank) kernel)
  pub factor : FactorOf s st rank (factor_of kernel)

pub record IsSend (s : Setting) (st : State) (from to : ℕ) (x : Piece) : Type 0 where
  pub live : IsTrue (st.live from)
  pub there : IsTrue (nat_lt to (ranks s))
  pub held : IsTrue (holds (st.tiles from) x)
  pub room : IsTrue (nat_lt (length (st.links from to)) s.capacity)
  pub path : IsTrue (is_path s st from to)

pub record IsRecv (s : Setting) (st : State) (to from : ℕ) (x : Piece) : Type 0 where
  pub live : IsTrue (st.live to)
  pub fitting : IsTrue (fits st to x (st.links from to))

pub record IsSave (s : Setting) (st : State) (rank : ℕ) (slot : Slot) : Type 0 where
  pub live : IsTrue (st.live rank)
  pub held : IsTrue (is_some (st.tiles rank slot))
  pub old : IsTrue (not (st.fresh rank slot))
  pub unsaved : IsTrue (not (is_some (st.saved rank slot)))

pub record IsTake (s : Setting) (st : State) (rank : ℕ) (slot : Slot) : Type 0 where
  pub live : IsTrue (st.live rank)
  pub held : IsTrue (is_some (st.tiles rank slot))
  pub allowed : IsTrue (may_take s st rank slot slot.kind)

-- a spare is left to take the place of a lost rank
abbrev pub has_spare : Option ℕ → State → Bool
has_spare None st = true
has_spare (Some n) st = nat_lt st.spawned n

pub record IsSpawn (s : Setting) (st : State) (rank : ℕ) : Type 0 where
  pub there : IsTrue (nat_lt rank (ranks s))
  pub gone : IsTrue (not (st.live rank))
  pub spare : IsTrue (has_spare s.spares st)

-- a plain mark follows the last one; a healed one repeats it
abbrev pub IsNext : Setting → State → Mark → Bool → Type 0
IsNext s st mark true = mark ≡ st.mark
IsNext s st mark false = IsTrue (follows s st.mark mark)

pub record IsCommit (s : Setting) (st : State) (mark : Mark) (healed : Bool) : Type 0 where
  pub live : IsTrue (all_below (ranks s) st.live)
  pub empty : IsTrue (all_below (ranks s) (λ a. all_below (ranks s) (λ b. length (st.links a b) == 0)))
  pub loss : some_lost s st ≡ healed
  pub next : IsNext s st mark healed
  pub law : CodeLaw s st mark

abbrev pub IsLegalRec : Setting → State → Rec → Type 0
IsLegalRec s st (r.Feed rank slot) = IsFeed s st rank slot
IsLegalRec s st (r.Kernel rank kernel) = IsRun s st rank kernel
IsLegalRec s st (r.Send from to x) = IsSend s st from to x
IsLegalRec s st (r.Recv to from x) = IsRecv s st to from x
IsLegalRec s st (r.Save rank slot) = IsSave s st rank slot
IsLegalRec s st (r.Take rank slot) = IsTake s st rank slot
IsLegalRec s st r.Restore = Unit {0}
IsLegalRec s st (r.Spawn rank) = IsSpawn s st rank
IsLegalRec s st (r.Commit mark healed) = IsCommit s st mark healed
IsLegalRec s st (r.Lose rank) = IsTrue (nat_lt rank (ranks s))

abbrev pub IsLegalFrom : Setting → State → List Rec → Type 0
IsLegalFrom s st [] = Unit {0}
IsLegalFrom s st (x ∷ xs) = IsLegalRec s st x × IsLegalFrom s (after s st x) xs

abbrev pub IsLegal : Setting → List Rec → Type 0
IsLegal s journal = IsLegalFrom s (opened s) journal
