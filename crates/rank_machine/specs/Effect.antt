-- What each record does to the state: one equation a record.
use Rattle.std.specs.Prelude.{◌+◌, ◌-◌, ◌/◌, ◌%◌, ◌&&◌, ◌||◌, ◌==◌, ◌∷◌, ◌++◌, if◌then◌else◌, ℕ, zero, suc, Bool, true, false, not, Option, Some, None, is_some, List, drop, slice_index_or, nat_lt, nat_le, min, []}
use Rattle.run_data.specs.declared.matrix.Part.{Part}
use Rattle.run_data.specs.Matrix.{Matrix, cols, entry, tabulate, zero_matrix}
use Rattle.run_data.specs.Parts.{part_of}
use Rattle.local_blas.specs.Kernels.{with_copy, with_scaled, with_added, with_product, with_solved_lower, with_solved_upper, with_rows_swapped, with_eliminated}
use Rattle.array_desc.specs.Maps.{owner, local}
use Rattle.blacs_grid.specs.Places.{is_member, row_of, col_of, is_data_rank, is_code_rank}
use Rattle.rank_machine.specs.declared.slot.SlotKind.{SlotKind}
use Rattle.rank_machine.specs.declared.slot.SlotKind.TheVariants.{Data, Code, Low, Open, Pivots, Work}
use Rattle.rank_machine.specs.declared.slot.Slot.{Slot}
use Rattle.rank_machine.specs.declared.slot.Tile.{Tile}
use Rattle.rank_machine.specs.declared.slot.Tile.TheVariants.{Words, Index}
use Rattle.rank_machine.specs.declared.slot.Piece.{Piece}
use Rattle.rank_machine.specs.declared.slot.Piece.TheVariants as piece
use Rattle.rank_machine.specs.declared.kernel.Cut.{Cut}
use Rattle.rank_machine.specs.declared.kernel.Cut.TheVariants as cut
use Rattle.rank_machine.specs.declared.kernel.Kernel.{Kernel}
use Rattle.rank_machine.specs.declared.kernel.Kernel.TheVariants as k
use Rattle.rank_machine.specs.declared.mark.Mark.{Mark}
use Rattle.rank_machine.specs.declared.record.Rec.{Rec}
use Rattle.rank_machine.specs.declared.record.Rec.TheVariants as r
use Rattle.rank_machine.specs.declared.layout.Layout.{Layout}
use Rattle.rank_machine.specs.Setting.{Job, Setting, some_job, layout, is_matrix, factored, group_count, strip_of, global_row, global_col}
use Rattle.rank_machine.specs.State.{same_kind, State, opened, at_rank, at_slot, at_link, base}

-- the number that means none
abbrev pub none_number : ℕ
none_number = 2048

-- ---- tiles and pieces
abbrev pub words_of : Option Tile → Matrix
words_of (Some (Words m)) = m
words_of (Some (Index ns)) = zero_matrix 0 0
words_of None = zero_matrix 0 0

abbrev pub numbers_of : Option Tile → List ℕ
numbers_of (Some (Index ns)) = ns
numbers_of (Some (Words m)) = []
numbers_of None = []

abbrev pub is_words : Option Tile → Bool
is_words (Some (Words m)) = true
is_words _ = false

abbrev pub is_index : Option Tile → Bool
is_index (Some (Index ns)) = true
is_index _ = false

abbrev pub first_number : Option Tile → ℕ
first_number t = slice_index_or (numbers_of t) 0 0

abbrev pub slot_of : Piece → Slot
slot_of (piece.Whole slot) = slot
slot_of (piece.Part slot at) = slot

abbrev pub is_whole : Piece → Bool
is_whole (piece.Whole slot) = true
is_whole (piece.Part slot at) = false

-- the rectangle of a piece of a matrix
abbrev pub area : Piece → Matrix → Part
area (piece.Whole slot) m = record { r0 = 0; r1 = m.rows; c0 = 0; c1 = cols m }
area (piece.Part slot at) m = at

-- what a rank holds
abbrev pub Memory : Type 0
Memory = Slot → Option Tile

abbrev pub matrix_in : Memory → Piece → Matrix
matrix_in mem x = words_of (mem (slot_of x))

abbrev pub area_in : Memory → Piece → Part
area_in mem x = area x (matrix_in mem x)

-- the tile of a piece: its words, or a whole list of numbers
abbrev pub cut_out : Piece → Option Tile → Tile
cut_out x (Some (Index ns)) = Index ns
cut_out x (Some (Words m)) = Words (part_of m (area x m))
cut_out x None = Index []

abbrev pub piece_in : Memory → Piece → Tile
piece_in mem x = cut_out x (mem (slot_of x))

-- the tile of a slot after a tile became a piece of it
abbrev pub with_piece : Option Tile → Piece → Tile → Tile
with_piece old (piece.Whole slot) new = new
with_piece old (piece.Part slot at) new = Words (with_copy (words_of old) at (words_of (Some new)) (record { r0 = 0; r1 = at.r1 - at.r0; c0 = 0; c1 = at.c1 - at.c0 }))

-- ---- feeds
-- the tile that a feed puts into a slot of a data rank: the strip of the group of the file's matrix
abbrev pub strip : Setting → ℕ → Slot → Tile
strip s rank slot = Words (strip_of (layout s slot.id) (s.files slot.id) rank slot.group)

-- ---- kernels: each makes one tile
abbrev pub target : Kernel → Piece
target (k.Zero to rows columns) = piece.Whole to
target (k.Copy to from) = to
target (k.Scale to a) = to
target (k.Add to a from cut) = to
target (k.MulAdd to a left right) = to
target (k.Lower to block unit) = to
target (k.Upper to block unit) = to
target (k.Swap to i j) = piece.Whole to
target (k.First to from j above) = piece.Whole to
target (k.Diag to from n) = piece.Whole to
target (k.Least to from) = piece.Whole to
target (k.Elim to j above row) = piece.Whole to
target (k.Push to from above) = piece.Whole to
target (k.Trans to from) = piece.Whole to

-- the entries of block column J whose global row is at most, or greater than, their global column
abbrev pub reaches : Setting → ℕ → Slot → Cut → ℕ → ℕ → Bool
reaches s rank slot cut.Whole i j = true
reaches s rank slot (cut.Upper block) i j = let d = layout s slot.id in nat_le (global_row d rank i) (global_col d block j)
reaches s rank slot (cut.Lower block) i j = let d = layout s slot.id in nat_lt (global_col d block j) (global_row d rank i)

-- the least of n numbers, or the one that means none
abbrev pub least_of : ℕ → (ℕ → ℕ) → ℕ
least_of zero f = none_number
least_of (suc n) f = min (least_of n f) (f n)

abbrev pub number_if : Bool → ℕ → ℕ
number_if test n = if test then n else none_number

-- row numbers count from 1
abbrev pub first_row : Setting → ℕ → Memory → Piece → ℕ → ℕ → ℕ
first_row s rank mem x j above =
    let m = matrix_in mem x in
    let at = area_in mem x in
    let d = layout s (slot_of x).id in
    least_of (at.r1 - at.r0) (λ i. let row = global_row d rank (at.r0 + i) + 1 in number_if (not (entry m (at.r0 + i) (at.c0 + j) == 0) && nat_lt above row) row)

-- how many entries the diagonal of a matrix has
abbrev pub diagonal : Layout → ℕ
diagonal d = min d.desc.m d.desc.n

-- whether the diagonal entry of a row and column, from 0, lies on a rank and is zero there
abbrev pub is_zero_here : Setting → ℕ → Memory → ℕ → ℕ → Bool
is_zero_here s rank mem line i =
    let d = layout s line in
    let m = words_of (mem (record { kind = Data; id = line; group = (i / d.desc.nb) / d.grid.q })) in
    ((owner i d.desc.mb d.desc.rsrc d.grid.p == row_of d.grid rank) && (owner i d.desc.nb d.desc.csrc d.grid.q == col_of d.grid rank)) && (entry m (local i d.desc.mb d.grid.p) (i % d.desc.nb) == 0)

abbrev pub pushed : ℕ → ℕ → ℕ
pushed number above = if number == none_number then above + 1 else number

-- rows become columns
abbrev pub transposed : Matrix → Matrix
transposed m = tabulate (cols m) m.rows (λ i j. entry m j i)

abbrev pub zero_tile : Slot → ℕ → ℕ → Tile
zero_tile slot rows columns = if same_kind slot.kind Pivots then Index [] else Words (zero_matrix rows columns)

abbrev pub made_by : Setting → ℕ → Memory → Kernel → Tile
made_by s rank mem (k.Zero to rows columns) = zero_tile to rows columns
made_by s rank mem (k.Copy to from) = with_piece (mem (slot_of to)) to (piece_in mem from)
made_by s rank mem (k.Scale to a) = Words (with_scaled s.modulus (matrix_in mem to) (area_in mem to) a)
made_by s rank mem (k.Add to a from cut) = Words (with_added s.modulus (matrix_in mem to) (area_in mem to) a (matrix_in mem from) (area_in mem from) (reaches s rank (slot_of to) cut))
made_by s rank mem (k.MulAdd to a left right) = Words (with_product s.modulus (matrix_in mem to) (area_in mem to) a (matrix_in mem left) (area_in mem left) (matrix_in mem right) (area_in mem right))
made_by s rank mem (k.Lower to block unit) = Words (with_solved_lower s.modulus s.inverse (matrix_in mem to) (area_in mem to) (matrix_in mem block) (area_in mem block) unit)
made_by s rank mem (k.Upper to block unit) = Words (with_solved_upper s.modulus s.inverse (matrix_in mem to) (area_in mem to) (matrix_in mem block) (area_in mem block) unit)
made_by s rank mem (k.Swap to i j) = Words (with_rows_swapped (words_of (mem to)) i j)
made_by s rank mem (k.First to from j above) = Index (first_row s rank mem from j above ∷ [])
made_by s rank mem (k.Diag to from n) = Index (least_of (min n (diagonal (layout s (slot_of from).id))) (λ i. number_if (is_zero_here s rank mem (slot_of from).id i) (i + 1)) ∷ [])
made_by s rank mem (k.Least to from) = Index (min (first_number (mem to)) (first_number (mem (slot_of from))) ∷ [])
made_by s rank mem (k.Elim to j above row) =
    Words (with_eliminated s.modulus s.inverse (words_of (mem to)) (λ i. nat_lt above (global_row (layout s to.id) rank i)) j (matrix_in mem row) (area_in mem row))
made_by s rank mem (k.Push to from above) = Index (numbers_of (mem to) ++ pushed (first_number (mem (slot_of from))) above ∷ [])
made_by s rank mem (k.Trans to from) = Words (transposed (part_of (matrix_in mem from) (area_in mem from)))

-- ---- what is live under a mark
abbrev pub has_ended : Mark → ℕ → Bool
has_ended mark line = nat_lt line mark.line || ((line == mark.line) && mark.ended)

abbrev pub current_in : List Job → Mark → ℕ
current_in [] mark = 0
current_in (j ∷ js) mark = if has_ended mark j.line then current_in js mark else j.line

-- the current line: the first that makes records and has not ended, or 0
abbrev pub current : Setting → Mark → ℕ
current s mark = current_in s.jobs mark

-- what a line made has been dropped
abbrev pub is_dropped : Setting → Mark → ℕ → Bool
is_dropped s mark what = some_job s.jobs (λ j. has_ended mark j.line && (j.drops == what))

-- a matrix is live from the end of its line to the end of its drop, a list from the first commit of its line
abbrev pub is_live_matrix : Setting → Mark → ℕ → Bool
is_live_matrix s mark line = (is_matrix s line && has_ended mark line) && not (is_dropped s mark line)

abbrev pub is_live_list : Setting → Mark → ℕ → Bool
is_live_list s mark line = (nat_lt 0 (factored s line) && nat_le line mark.line) && not (is_dropped s mark line)

-- the matrix that is being factored, or 0
abbrev pub factoring : Setting → Mark → ℕ
factoring s mark = if mark.ended then 0 else factored s mark.line

-- whether a slot is live under a mark on a rank, by its kind
abbrev pub is_live_kind : Setting → Mark → ℕ → Slot → SlotKind → Bool
is_live_kind s mark rank slot Data = let d = layout s slot.id in (is_data_rank d.grid rank && nat_lt slot.group (group_count d)) && is_live_matrix s mark slot.id
is_live_kind s mark rank slot Code = let d = layout s slot.id in (is_code_rank d.grid rank && nat_lt slot.group (group_count d)) && is_live_matrix s mark slot.id
is_live_kind s mark rank slot Low = let d = layout s slot.id in (is_code_rank d.grid rank && nat_lt slot.group (group_count d)) && ((nat_lt 0 slot.id && (factoring s mark == slot.id)) && nat_le mark.merged slot.group)
is_live_kind s mark rank slot Open = let d = layout s slot.id in (is_code_rank d.grid rank && (slot.group == 0)) && ((nat_lt 0 slot.id && (factoring s mark == slot.id)) && mark.opened)
is_live_kind s mark rank slot Pivots = (is_member (layout s (factored s slot.id)).grid rank && (slot.group == 0)) && is_live_list s mark slot.id
is_live_kind s mark rank slot Work = false

abbrev pub is_live : Setting → Mark → ℕ → Slot → Bool
is_live s mark rank slot = is_live_kind s mark rank slot slot.kind

-- ---- records
-- the tile becomes that of the slot, which is fresh if it was not there
abbrev pub with_tile : State → ℕ → Slot → Tile → State
with_tile st rank slot t =
    record st { tiles = at_slot st.tiles rank slot (Some t); fresh = at_slot st.fresh rank slot (st.fresh rank slot || not (is_some (st.tiles rank slot))) }

abbrev pub first_message : List Tile → Tile
first_message [] = Index []
first_message (t ∷ ts) = t

abbrev pub after : Setting → State → Rec → State
after s st (r.Feed rank slot) = with_tile st rank slot (strip s rank slot)
after s st (r.Kernel rank kernel) = with_tile st rank (slot_of (target kernel)) (made_by s rank (st.tiles rank) kernel)
after s st (r.Send from to x) = record st { links = at_link st.links from to (st.links from to ++ piece_in (st.tiles from) x ∷ []) }
after s st (r.Recv to from x) =
    record (with_tile st to (slot_of x) (with_piece (st.tiles to (slot_of x)) x (first_message (st.links from to)))) { links = at_link st.links from to (drop 1 (st.links from to)) }
after s st (r.Save rank slot) = record st { saved = at_slot st.saved rank slot (st.tiles rank slot) }
after s st (r.Take rank slot) = record st { taken = st.taken ++ (record { line = current s st.mark; rank = rank; slot = slot; tile = st.tiles rank slot }) ∷ [] }
after s st r.Restore =
    record st { tiles = λ rank slot. if st.live rank then base st rank slot else st.tiles rank slot; saved = λ _ _. None; fresh = λ _ _. false; links = λ _ _. []; taken = [] }
after s st (r.Spawn rank) = record st { live = at_rank st.live rank true; spawned = st.spawned + 1 }
after s st (r.Commit mark healed) =
    record st {
      tiles = λ rank slot. if is_live s mark rank slot then st.tiles rank slot else None;
      saved = λ _ _. None;
      fresh = λ _ _. false;
      mark = mark;
      lost = λ _. false;
      taken = [];
      committed = if healed then st.committed else st.committed ++ st.taken;
    }
after s st (r.Lose rank) =
    record st {
      live = at_rank st.live rank false;
      lost = at_rank st.lost rank true;
      tiles = λ a slot. if a == rank then None else st.tiles a slot;
      saved = λ a slot. if a == rank then None else st.saved a slot;
      fresh = λ a slot. if a == rank then false else st.fresh a slot;
      links = λ a b. if (a == rank) || (b == rank) then [] else st.links a b;
    }

abbrev pub replay : Setting → State → List Rec → State
replay s st [] = st
replay s st (x ∷ xs) = replay s (after s st x) xs

abbrev pub state_after : Setting → List Rec → State
state_after s journal = replay s (opened s) journal
