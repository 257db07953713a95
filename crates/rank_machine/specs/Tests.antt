-- The same conditions as one computed answer: what a checker runs.
use Rattle.std.specs.Prelude.{◌+◌, ◌*◌, ◌%◌, ◌&&◌, ◌||◌, ◌==◌, ◌∷◌, if◌then◌else◌, ℕ, suc, Bool, true, false, not, Option, Some, None, is_some, List, length, slice_index_or, nat_lt, nat_le, min, []}
use Rattle.blacs_grid.specs.Places.{width, row_of, rank_at, is_data_rank}
use Rattle.rank_machine.specs.declared.slot.SlotKind.TheVariants.{Data, Code, Low, Open, Pivots}
use Rattle.rank_machine.specs.declared.mark.Mark.{Mark}
use Rattle.rank_machine.specs.declared.record.Rec.{Rec}
use Rattle.rank_machine.specs.declared.record.Rec.TheVariants as r
use Rattle.rank_machine.specs.declared.layout.Layout.{Layout}
use Rattle.rank_machine.specs.Setting.{Setting, all_below, all_jobs, ranks, grid_of_rank, layout, is_matrix, factored, group_count, strip_rows, block_at, global_col}
use Rattle.rank_machine.specs.State.{same_kind, State, opened}
use Rattle.rank_machine.specs.Effect.{numbers_of, is_index, slot_of, target, has_ended, current, is_live_matrix, is_live_list, after}
use Rattle.rank_machine.specs.CodeLaw.{slot_at, has_low, has_open, is_open_group, data_word, code_word, symbol, weighted_sum, is_multiplier, is_open_column, is_strip_of, pivots_of}
use Rattle.rank_machine.specs.Marks.{same_bool, has_numbers, follows}
use Rattle.rank_machine.specs.Legal.{may_write, may_change, holds, reads, makes, is_apart, is_held, is_shaped, has_divisors, is_placed, has_strips, factor_of, is_among, is_plain_factor, lost_columns, may_take, some_lost, is_path, fits, has_spare}

-- a test of each place of a group of a process row
abbrev pub each_place : Layout → ℕ → (ℕ → ℕ → Bool) → Bool
each_place d row f = all_below (strip_rows d row) (λ i. all_below d.desc.nb (f i))

-- a condition that matters only where a test holds
abbrev pub when : Bool → Bool → Bool
when a b = not a || b

abbrev pub data_test : Setting → State → ℕ → Layout → ℕ → ℕ → ℕ → Bool
data_test s st line d row group col =
    is_strip_of d row (st.tiles (rank_at d.grid row col) (slot_at Data line group))
    && each_place d row (λ i j. nat_lt (global_col d (block_at d group col) j) d.desc.n || (data_word st line d row group col i j == 0))

abbrev pub sums_test : Setting → State → Mark → ℕ → Layout → ℕ → ℕ → ℕ → ℕ → ℕ → Bool
sums_test s st mark line d row group c i j =
    (symbol s st mark line d row group c i j % s.modulus == weighted_sum s st line d row group c i j (λ col. true) % s.modulus)
    && (when (has_low s mark line group) (code_word st Low line d row group c i j % s.modulus == weighted_sum s st line d row group c i j (is_multiplier mark d row group i j) % s.modulus)
    && when (is_open_group s mark line d group) (code_word st Open line d row 0 c i j % s.modulus == weighted_sum s st line d row group c i j (is_open_column mark d) % s.modulus))

abbrev pub code_test : Setting → State → Mark → ℕ → Layout → ℕ → ℕ → ℕ → Bool
code_test s st mark line d row group c =
    is_strip_of d row (st.tiles (rank_at d.grid row (d.grid.q + c)) (slot_at Code line group))
    && (when (has_low s mark line group) (is_strip_of d row (st.tiles (rank_at d.grid row (d.grid.q + c)) (slot_at Low line group)))
    && each_place d row (λ i j. sums_test s st mark line d row group c i j))

abbrev pub open_test : Setting → State → Mark → ℕ → Layout → ℕ → ℕ → Bool
open_test s st mark line d row c = when (has_open s mark line) (is_strip_of d row (st.tiles (rank_at d.grid row (d.grid.q + c)) (slot_at Open line 0)))

abbrev pub group_test : Setting → State → Mark → ℕ → Layout → ℕ → ℕ → Bool
group_test s st mark line d row group = all_below d.grid.q (λ col. data_test s st line d row group col) && all_below d.grid.f (λ c. code_test s st mark line d row group c)

abbrev pub matrix_test : Setting → State → Mark → ℕ → Layout → Bool
matrix_test s st mark line d = all_below d.grid.p (λ row. all_below d.grid.f (λ c. open_test s st mark line d row c) && all_below (group_count d) (λ group. group_test s st mark line d row group))

abbrev pub same_numbers : List ℕ → List ℕ → Bool
same_numbers [] [] = true
same_numbers (x ∷ xs) (y ∷ ys) = (x == y) && same_numbers xs ys
same_numbers _ _ = false

abbrev pub list_test : State → Mark → ℕ → Layout → List ℕ → Bool
list_test st mark line d ns =
    all_below (d.grid.p * width d.grid) (λ place. let t = st.tiles (d.grid.first + place) (slot_at Pivots line 0) in is_index t && same_numbers (numbers_of t) ns)
    && (all_below (length ns) (λ i. nat_le (i + 1) (slice_index_or ns i 0) && nat_le (slice_index_or ns i 0) d.desc.m) && when (has_ended mark line) (length ns == min d.desc.m d.desc.n))

-- a live matrix, and no test of what is not live
abbrev pub matrix_test_if : Bool → Setting → State → Mark → ℕ → Bool
matrix_test_if false s st mark line = true
matrix_test_if true s st mark line = matrix_test s st mark line (layout s line)

abbrev pub list_test_if : Bool → Setting → State → Mark → ℕ → Bool
list_test_if false s st mark line = true
list_test_if true s st mark line = let d = layout s (factored s line) in list_test st mark line d (pivots_of st line d)

abbrev pub law_test : Setting → State → Mark → Bool
law_test s st mark =
    all_jobs s.jobs (λ j. matrix_test_if (is_live_matrix s mark j.line) s st mark j.line && list_test_if (is_live_list s mark j.line) s st mark j.line)

-- a list that is known to decode a lost column
pub record Known : Type 0 where
  pub q : ℕ
  pub lost : List Bool
  pub which : ℕ
  pub list : List ℕ

abbrev pub same_bools : List Bool → List Bool → Bool
same_bools [] [] = true
same_bools (x ∷ xs) (y ∷ ys) = same_bool x y && same_bools xs ys
same_bools _ _ = false

abbrev pub is_known : List Known → ℕ → List Bool → ℕ → Bool
is_known [] q lost a = false
is_known (t ∷ ts) q lost a = ((((t.q == q) && same_bools t.lost lost) && nat_lt t.which q) && (slice_index_or t.lost t.which false && is_among t.list a)) || is_known ts q lost a

abbrev pub factor_test : Setting → List Known → State → ℕ → Option ℕ → Bool
factor_test s known st rank None = true
factor_test s known st rank (Some a) = let g = grid_of_rank s rank in is_plain_factor s st rank a || is_known known g.q (lost_columns st g (row_of g rank)) a

abbrev pub same_mark : Mark → Mark → Bool
same_mark a b = ((a.line == b.line) && same_bool a.ended b.ended) && has_numbers a b.closed b.opened b.merged

abbrev pub next_test : Setting → State → Mark → Bool → Bool
next_test s st mark true = same_mark mark st.mark
next_test s st mark false = follows s st.mark mark

abbrev pub rec_test : Setting → List Known → State → Rec → Bool
rec_test s known st (r.Feed rank slot) =
    st.live rank && (same_kind slot.kind Data && ((slot.id == current s st.mark)
    && (is_matrix s slot.id && (is_data_rank (layout s slot.id).grid rank && (nat_lt slot.group (group_count (layout s slot.id)) && may_write st rank slot)))))
rec_test s known st (r.Kernel rank kernel) =
    st.live rank && (is_held (st.tiles rank) kernel && ((if makes kernel then may_write st rank (slot_of (target kernel)) else may_change st rank (slot_of (target kernel)))
    && (is_apart (slot_of (target kernel)) (reads kernel) && (is_shaped (st.tiles rank) kernel && (has_divisors (st.tiles rank) kernel && (is_placed s rank kernel && (has_strips s rank (st.tiles rank) kernel && factor_test s known st rank (factor_of kernel))))))))
rec_test s known st (r.Send from to x) = st.live from && (nat_lt to (ranks s) && (holds (st.tiles from) x && (nat_lt (length (st.links from to)) s.capacity && is_path s st from to)))
rec_test s known st (r.Recv to from x) = st.live to && fits st to x (st.links from to)
rec_test s known st (r.Save rank slot) = st.live rank && (is_some (st.tiles rank slot) && (not (st.fresh rank slot) && not (is_some (st.saved rank slot))))
rec_test s known st (r.Take rank slot) = st.live rank && (is_some (st.tiles rank slot) && may_take s st rank slot slot.kind)
rec_test s known st r.Restore = true
rec_test s known st (r.Spawn rank) = nat_lt rank (ranks s) && (not (st.live rank) && has_spare s.spares st)
rec_test s known st (r.Commit mark healed) =
    all_below (ranks s) st.live && (all_below (ranks s) (λ a. all_below (ranks s) (λ b. length (st.links a b) == 0))
    && (same_bool (some_lost s st) healed && (next_test s st mark healed && law_test s st mark)))
rec_test s known st (r.Lose rank) = nat_lt rank (ranks s)

abbrev pub legal_from : Setting → List Known → State → List Rec → Bool
legal_from s known st [] = true
legal_from s known st (x ∷ xs) = rec_test s known st x && legal_from s known (after s st x) xs

abbrev pub legal_test : Setting → List Known → List Rec → Bool
legal_test s known journal = legal_from s known (opened s) journal

-- how many records are legal before the first that is not
abbrev pub legal_prefix : Setting → List Known → State → List Rec → ℕ
legal_prefix s known st [] = 0
legal_prefix s known st (x ∷ xs) = if rec_test s known st x then suc (legal_prefix s known (after s st x) xs) else 0
