-- How many words ranks hold while a group of a product is made.
use Rattle.std.specs.Prelude.{if◌then◌else◌, map}
use Rattle.std.specs.List.{range_with_len}
use Rattle.std.proofs.Common.{◌≡◌, ◌+◌, ◌-◌, ◌*◌, ◌/◌, ◌%◌, ◌<◌, ◌≤◌, ◌==◌, ◌&&◌, ◌||◌, nat_lt, nat_le, ℕ, zero, suc, Bool, true, false, Option, Some, None, List, [], ◌∷◌, ◌++◌, refl, sym, ap, subst, ◌∙◌, ⊎_elim, arith}
use Rattle.std.proofs.Math.Nat.{mod-lt, div-lt_iff_lt-mul}
use Rattle.std.proofs.lemmas.Bool.{cases_Bool, and_parts, and_from, eqb-true, eq-eqb, ltb-true, leb-true, true≢false, false_from_ne_true}
use Rattle.std.proofs.lemmas.Nat.{mul-le}
use Rattle.array_desc.specs.Descriptors.{IsDesc}
use Rattle.array_desc.specs.Maps.{numroc}
use Rattle.array_desc.proofs.CountLaws.{numroc-most, local-lt}
use Rattle.array_desc.proofs.GroupLaws.{ceil_div-part}
use Rattle.array_desc.proofs.MapLaws.{owner-in_block, local-in_block}
use Rattle.blacs_comm.specs.Positions as positions
use Rattle.blacs_comm.specs.Positions.{sender_of, place_of}
use Rattle.blacs_comm.specs.Moves.{broadcast_moves}
use Rattle.blacs_comm.proofs.Places.{place_in, sender_below}
use Rattle.blacs_grid.specs.Limits.{IsGrid}
use Rattle.blacs_grid.specs.declared.Scope.TheVariants.{Row, Column}
use Rattle.blacs_grid.specs.Places.{width, row_of, col_of, rank_at, member, is_member, is_data_rank, is_code_rank}
use Rattle.blacs_grid.proofs.PlaceLaws.{width-pos, is_member-rank_at, row_of-lt, col_of-lt, rank_at-coords, is_data_rank-member, is_data_rank-col}
use Rattle.run_data.specs.Matrix.{Matrix, cols, entry, zero_matrix}
use Rattle.run_data.specs.declared.matrix.Part.{Part}
use Rattle.run_data.specs.Parts.{whole_part, with_part, part_entry}
use Rattle.local_blas.specs.Kernels.{product_word}
use Rattle.run_data.proofs.Matrices.{rows-tabulate, cols-tabulate}
use Rattle.run_data.proofs.PartLaws.{rows-with_part, cols-with_part}
use Rattle.rank_run.specs.declared.round.Event.TheVariants.{Local, Move}
use Rattle.rank_machine.specs.declared.slot.Slot.{Slot}
use Rattle.rank_machine.specs.declared.slot.SlotKind.{SlotKind}
use Rattle.rank_machine.specs.declared.slot.SlotKind.TheVariants.{Data, Code, Low, Open, Pivots, Work}
use Rattle.rank_machine.specs.declared.slot.Tile.{Tile}
use Rattle.rank_machine.specs.declared.slot.Tile.TheVariants.{Words, Index}
use Rattle.rank_machine.specs.declared.slot.Piece.{Piece}
use Rattle.rank_machine.specs.declared.slot.Piece.TheVariants.{Whole, Part as APart}
use Rattle.rank_machine.specs.declared.kernel.Kernel.TheVariants as k
use Rattle.rank_machine.specs.declared.record.Rec.TheVariants as r
use Rattle.rank_machine.specs.declared.layout.Layout.{Layout}
use Rattle.rank_machine.specs.Setting.{Setting, grid_of_rank, layout, group_count, strip_rows}
use Rattle.rank_machine.specs.State.{State, same_kind, same_slot, at_slot}
use Rattle.rank_machine.specs.Effect.{words_of, cut_out, piece_in, made_by, matrix_in, area_in, is_live, is_live_matrix, after, replay}
use Rattle.rank_machine.specs.Held.{size_of, cells_of, tile_of_jobs, pivots_of_jobs}
use Rattle.rank_machine.specs.CodeLaw.{slot_at, is_strip_of, MatrixLaw}
use Rattle.rank_machine.proofs.Base.{same_slot-true}
use Rattle.rank_slots.specs.Stands.{records_of}
use Rattle.rank_slots.proofs.CellLaws.{same_slot-refl}
use Rattle.round_laws.specs.Turns.{each_below}
use Rattle.run_laws.specs.LastCommit.{IsRest}
use Rattle.phases.specs.Plans.{saves}
use Rattle.phases.specs.Words.{AddAtMost, AddThrough, HasRoom, live_cells, live_tile, live_lists}
use Rattle.phase_frames.specs.Touching.{RoundEvent, AllEvents, IsCapped, KeepsCap, allowed, total, cap_over}
use Rattle.phase_frames.proofs.SlotSums.{allowed-append}
use Rattle.phase_frames.proofs.Touched.{events_then}
use Rattle.phase_frames.proofs.Capped.{adds_allowed, capped_through}
use Rattle.phase_words.proofs.Resting.{strip_size}
use Rattle.phase_words.proofs.Rooms.{cells_fit, tiles_fit, lists_fit, live_tile_there}
use Rattle.phase_rounds.specs.Strips.{work}
use Rattle.phase_rounds.specs.Products.{BlockProduct, product_kernel, left_piece, right_piece, product_row, product_column, product_events}
use Rattle.product_rounds.specs.declared.rounds.GroupProduct.{GroupProduct}
use Rattle.product_rounds.specs.Rounds.{strip_slot, block_width, block_product, block_count, column_moves, scale_column, scale_events, group_events}
use Rattle.product_laws.specs.Multiplying.{ProductTask, MayMultiplyMatrices, HasSaved, layout_a, layout_b, layout_c, is_strip_of_group, saved_at, saved_strips, product_words}

-- ---- room
fit : (here : Bool) (a c t w x y z : ℕ) → a ≤ x → c ≤ z → t ≤ y → w ≤ 3 * y → ((if here then a else (2 * a + t)) + c) + w ≤ ((if here then x else 2 * x) + 8 * y) + 2 * z
fit true a c t w x y z h k l m = omega (arith, h, k, l, m)
fit false a c t w x y z h k l m = omega (arith, h, k, l, m)

three : (b : Bool) (c a e y : ℕ) → c ≤ y → a ≤ y → e ≤ y → (if b then (c + a) + e else 0) ≤ 3 * y
three true c a e y h k l = omega (arith, h, k, l)
three false c a e y h k l = omega arith

-- What the phase adds to what a commit leaves is in what a rank may hold.
pub product_room : (s : Setting) (base : State) (t : ProductTask) → MayMultiplyMatrices s base t → HasRoom (product_words t.x) s base
product_room s base t h rank lt =
    let x = t.x in
    let most = tile_of_jobs s base s.jobs in
    let a : x.a.lld * x.a.nb ≤ most = subst (λ (d : Layout). d.desc.lld * d.desc.nb ≤ most) h.lies_a (live_tile_there s base x.line_a h.live_a) in
    let b : x.b.lld * x.b.nb ≤ most = subst (λ (d : Layout). d.desc.lld * d.desc.nb ≤ most) h.lies_b (live_tile_there s base x.line_b h.live_b) in
    let c : x.c.lld * x.c.nb ≤ most = subst (λ (d : Layout). d.desc.lld * d.desc.nb ≤ most) h.lies_c (live_tile_there s base x.line_c h.live_c) in
    let words = three (is_member x.grid rank) (x.c.lld * x.c.nb) (x.a.lld * x.a.nb) (x.b.lld * x.b.nb) most c a b in
    fit (is_data_rank (grid_of_rank s rank) rank) (live_cells s base.mark rank s.jobs) (live_lists s base.mark rank s.jobs) (live_tile s base.mark s.jobs) (product_words x rank)
    (cells_of s base rank s.jobs) most (pivots_of_jobs s base rank s.jobs) (cells_fit s base rank s.jobs) (lists_fit s base rank s.jobs) (tiles_fit s base s.jobs) words

-- ---- sizes of tiles
words_size : (o : Option Tile) → (words_of o).rows * cols (words_of o) ≤ size_of o
words_size None = let a : (zero_matrix 0 0).rows * cols (zero_matrix 0 0) ≡ 0 * 0 = λ i. rows-tabulate 0 0 (λ a b. 0) i * cols-tabulate 0 0 (λ a b. 0) i in omega (arith, a)
words_size (Some (Words m)) = omega arith
words_size (Some (Index ns)) = let a : (zero_matrix 0 0).rows * cols (zero_matrix 0 0) ≡ 0 * 0 = λ i. rows-tabulate 0 0 (λ a b. 0) i * cols-tabulate 0 0 (λ a b. 0) i in omega (arith, a)

-- of a whole piece
cut_size : (slot : Slot) (o : Option Tile) → size_of (Some (cut_out (Whole slot) o)) ≤ size_of o
cut_size slot None = omega arith
cut_size slot (Some (Index ns)) = omega arith
cut_size slot (Some (Words m)) =
    let a : size_of (Some (cut_out (Whole slot) (Some (Words m)))) ≡ (m.rows - 0) * (cols m - 0) = λ i. rows-tabulate (m.rows - 0) (cols m - 0) (part_entry m (whole_part m)) i * cols-tabulate (m.rows - 0) (cols m - 0) (part_entry m (whole_part m)) i in
    let b : (m.rows - 0) * (cols m - 0) ≡ m.rows * cols m = λ i. (let x : m.rows - 0 ≡ m.rows = omega arith in x) i * (let y : cols m - 0 ≡ cols m = omega arith in y) i in
    omega (arith, a, b)

-- of a part
part_size : (slot : Slot) (at : Part) (n : ℕ) (o : Option Tile) → size_of o ≤ n → (at.r1 - at.r0) * (at.c1 - at.c0) ≤ n → size_of (Some (cut_out (APart slot at) o)) ≤ n
part_size slot at n None h k = omega arith
part_size slot at n (Some (Index ns)) h k = h
part_size slot at n (Some (Words m)) h k =
    let a : size_of (Some (cut_out (APart slot at) (Some (Words m)))) ≡ (at.r1 - at.r0) * (at.c1 - at.c0) = λ i. rows-tabulate (at.r1 - at.r0) (at.c1 - at.c0) (part_entry m at) i * cols-tabulate (at.r1 - at.r0) (at.c1 - at.c0) (part_entry m at) i in
    omega (arith, a, k)

-- what changes words of a matrix leaves its size
changed_size : (m : Matrix) (at : Part) (f : ℕ → ℕ → ℕ) → (with_part m at f).rows * cols (with_part m at f) ≡ m.rows * cols m
changed_size m at f = let u = rows-with_part m at f in let v = cols-with_part m at f in λ i. u i * v i

-- ---- strips at the last commit
module _ (s : Setting) (base : State) (rest : IsRest s base) (line : ℕ) (d : Layout) (lies : layout s line ≡ d) (grid : IsGrid d.grid) (desc : IsDesc d.grid.p d.grid.q d.desc) where
  abbrev most : ℕ
  most = d.desc.lld * d.desc.nb

  low : (row : ℕ) → row < d.grid.p → strip_rows d row * d.desc.nb ≤ most
  low row lt =
      let rows = numroc-most d.desc.m d.desc.mb row d.grid.p d.desc.rsrc lt in
      let few : strip_rows d row ≤ d.desc.lld = subst (λ n. strip_rows d row ≤ n) (sym desc.local_rows) rows in
      mul-le (strip_rows d row) d.desc.nb d.desc.lld d.desc.nb few (omega arith)

  law : is_live_matrix s base.mark line ≡ true → MatrixLaw s base base.mark line d
  law live = subst (λ (x : Layout). MatrixLaw s base base.mark line x) lies (rest.law.matrices line live)

  strip_low : (row : ℕ) (o : Option Tile) → row < d.grid.p → is_strip_of d row o ≡ true → size_of o ≤ most
  strip_low row o lt h = omega (arith, strip_size d row o h, low row lt)

  row_in : (rank : ℕ) → is_member d.grid rank ≡ true → row_of d.grid rank < d.grid.p
  row_in rank m = row_of-lt d.grid rank (width-pos d.grid grid) m

  live_data : (rank group : ℕ) → ((is_data_rank d.grid rank && nat_lt group (group_count d)) && is_live_matrix s base.mark line) ≡ true → size_of (base.tiles rank (slot_at Data line group)) ≤ most
  live_data rank group h =
      let z = and_parts (is_data_rank d.grid rank && nat_lt group (group_count d)) (is_live_matrix s base.mark line) h in
      let y = and_parts (is_data_rank d.grid rank) (nat_lt group (group_count d)) z.0 in
      let m = is_data_rank-member d.grid rank y.0 in
      let row = row_of d.grid rank in
      let shape = (law z.1).data_strips row group (col_of d.grid rank) (row_in rank m) (ltb-true group (group_count d) y.1) (is_data_rank-col d.grid rank y.0) in
      strip_low row (base.tiles rank (slot_at Data line group)) (row_in rank m) (subst (λ a. is_strip_of d row (base.tiles a (slot_at Data line group)) ≡ true) (rank_at-coords d.grid rank m) shape)

  live_code : (rank group : ℕ) → ((is_code_rank d.grid rank && nat_lt group (group_count d)) && is_live_matrix s base.mark line) ≡ true → size_of (base.tiles rank (slot_at Code line group)) ≤ most
  live_code rank group h =
      let z = and_parts (is_code_rank d.grid rank && nat_lt group (group_count d)) (is_live_matrix s base.mark line) h in
      let y = and_parts (is_code_rank d.grid rank) (nat_lt group (group_count d)) z.0 in
      let on = and_parts (is_member d.grid rank) (nat_le d.grid.q (col_of d.grid rank)) y.0 in
      let m = on.0 in
      let past : d.grid.q ≤ col_of d.grid rank = leb-true d.grid.q (col_of d.grid rank) on.1 in
      let wide = col_of-lt d.grid rank (width-pos d.grid grid) in
      let c : ℕ = col_of d.grid rank - d.grid.q in
      let c_in : c < d.grid.f = omega (arith, wide, past) in
      let back : d.grid.q + c ≡ col_of d.grid rank = omega (arith, past) in
      let row = row_of d.grid rank in
      let place : rank_at d.grid row (d.grid.q + c) ≡ rank = ap (rank_at d.grid row) back ∙ rank_at-coords d.grid rank m in
      let shape = (law z.1).code_strips row group c (row_in rank m) (ltb-true group (group_count d) y.1) c_in in
      strip_low row (base.tiles rank (slot_at Code line group)) (row_in rank m) (subst (λ a. is_strip_of d row (base.tiles a (slot_at Code line group)) ≡ true) place shape)

  -- a data or code strip of any group is no larger than the largest strip of its matrix
  strip_small : (b : Bool) (rank group : ℕ) → size_of (base.tiles rank (slot_at (if b then Data else Code) line group)) ≤ most
  strip_small true rank group =
      ⊎_elim
      (λ (e : is_live s base.mark rank (slot_at Data line group) ≡ true).
      live_data rank group (subst (λ (x : Layout). ((is_data_rank x.grid rank && nat_lt group (group_count x)) && is_live_matrix s base.mark line) ≡ true) lies e))
      (λ (e : is_live s base.mark rank (slot_at Data line group) ≡ false). let none : size_of (base.tiles rank (slot_at Data line group)) ≡ 0 = ap size_of (rest.nothing_else rank (slot_at Data line group) e) in omega (arith, none))
      (cases_Bool (is_live s base.mark rank (slot_at Data line group)))
  strip_small false rank group =
      ⊎_elim
      (λ (e : is_live s base.mark rank (slot_at Code line group) ≡ true).
      live_code rank group (subst (λ (x : Layout). ((is_code_rank x.grid rank && nat_lt group (group_count x)) && is_live_matrix s base.mark line) ≡ true) lies e))
      (λ (e : is_live s base.mark rank (slot_at Code line group) ≡ false). let none : size_of (base.tiles rank (slot_at Code line group)) ≡ 0 = ap size_of (rest.nothing_else rank (slot_at Code line group) e) in omega (arith, none))
      (cases_Bool (is_live s base.mark rank (slot_at Code line group)))

-- ---- slots, each with the words that may be added in it
-- the strip of the group on a rank of the grid, and what is saved of it
abbrev pub own_slot : GroupProduct → ℕ → Slot
own_slot x rank = strip_slot x x.line_c (col_of x.grid rank)

abbrev saved_room : GroupProduct → ℕ → List (Slot × ℕ)
saved_room x rank = if is_member x.grid rank then (own_slot x rank, x.c.lld * x.c.nb) ∷ [] else []

-- the two work slots
abbrev work_room : GroupProduct → ℕ → List (Slot × ℕ)
work_room x rank = if is_member x.grid rank then (work 0, x.a.lld * x.a.nb) ∷ (work 1, x.b.lld * x.b.nb) ∷ [] else []

-- by rank and slot, the most words of a tile, and of what is saved
abbrev pub product_cap : GroupProduct → State → ℕ → Slot → ℕ
product_cap x base = cap_over base (work_room x)

abbrev pub saved_cap : GroupProduct → ℕ → Slot → ℕ
saved_cap x rank slot = allowed (saved_room x rank) slot

room_total : (x : GroupProduct) (rank : ℕ) → total (saved_room x rank ++ work_room x rank) ≡ product_words x rank
room_total x rank = cases (is_member x.grid rank)
  where
    cases : (b : Bool) → total ((if b then (own_slot x rank, x.c.lld * x.c.nb) ∷ [] else []) ++ (if b then (work 0, x.a.lld * x.a.nb) ∷ (work 1, x.b.lld * x.b.nb) ∷ [] else []))
        ≡ (if b then (x.c.lld * x.c.nb + x.a.lld * x.a.nb) + x.b.lld * x.b.nb else 0)
    cases true = omega arith
    cases false = refl

-- Where no tile and nothing that is saved is larger than it may be, the words that are added are those of the phase.
pub adds_product : (x : GroupProduct) (base now : State) → IsCapped (product_cap x base) now.tiles → IsCapped (saved_cap x) now.saved → AddAtMost (product_words x) base now
adds_product x base now tiles saved rank slots distinct =
    let all = adds_allowed base now (λ a. saved_room x a ++ work_room x a) (λ a y. (let h = tiles a y in let l = saved a y in let both = allowed-append (saved_room x a) (work_room x a) y in omega (arith, h, l, both))) rank slots distinct in
    let same = room_total x rank in
    omega (arith, all, same)

-- no strip is a work slot
no_work : (x : GroupProduct) (b on : Bool) (line group : ℕ) → allowed (if on then (work 0, x.a.lld * x.a.nb) ∷ (work 1, x.b.lld * x.b.nb) ∷ [] else []) (slot_at (if b then Data else Code) line group) ≡ 0
no_work x b false line group = refl
no_work x true true line group = refl
no_work x false true line group = refl

module _ (s : Setting) (base : State) (t : ProductTask) (h : MayMultiplyMatrices s base t) (rest : IsRest s base) where
  abbrev x : GroupProduct
  x = t.x

  abbrev cap : ℕ → Slot → ℕ
  cap = product_cap x base

  abbrev words_a : ℕ
  words_a = x.a.lld * x.a.nb

  abbrev words_b : ℕ
  words_b = x.b.lld * x.b.nb

  abbrev words_c : ℕ
  words_c = x.c.lld * x.c.nb

  -- the strips of the three matrices
  small_a : (rank group : ℕ) → size_of (base.tiles rank (slot_at Data x.line_a group)) ≤ words_a
  small_a rank group = strip_small s base rest x.line_a (layout_a x) h.lies_a h.on_grid.grid h.on_grid.a true rank group

  small_b : (b : Bool) (rank group : ℕ) → size_of (base.tiles rank (slot_at (if b then Data else Code) x.line_b group)) ≤ words_b
  small_b b rank group = strip_small s base rest x.line_b (layout_b x) h.lies_b h.on_grid.grid h.on_grid.b b rank group

  small_c : (b : Bool) (rank group : ℕ) → size_of (base.tiles rank (slot_at (if b then Data else Code) x.line_c group)) ≤ words_c
  small_c b rank group = strip_small s base rest x.line_c (layout_c x) h.lies_c h.on_grid.grid h.on_grid.c b rank group

  -- ---- what is saved
  module _ (rank : ℕ) (m : is_member x.grid rank ≡ true) where
    -- a strip of the kind that a rank holds
    own_fits : (b : Bool) → nat_lt (col_of x.grid rank) x.grid.q ≡ b → size_of (base.tiles rank (slot_at (if b then Data else Code) x.line_c x.group)) ≤ saved_cap x rank (slot_at (if b then Data else Code) x.line_c x.group)
    own_fits b e =
        let slot : Slot = slot_at (if b then Data else Code) x.line_c x.group in
        let own : own_slot x rank ≡ slot = ap (λ v. slot_at (if v then Data else Code) x.line_c x.group) e in
        let room : saved_cap x rank slot ≡ (if same_slot slot (own_slot x rank) then words_c else 0) + 0 = ap (λ v. allowed (if v then (own_slot x rank, words_c) ∷ [] else []) slot) m in
        let one : (if same_slot slot (own_slot x rank) then words_c else 0) ≡ words_c = ap (λ v. if v then words_c else 0) (ap (same_slot slot) own ∙ same_slot-refl slot) in
        omega (arith, room, one, small_c b rank x.group)

    -- one of the other kind isn't there
    none_there : (slot : Slot) → is_live s base.mark rank slot ≡ false → size_of (base.tiles rank slot) ≤ saved_cap x rank slot
    none_there slot e = let none : size_of (base.tiles rank slot) ≡ 0 = ap size_of (rest.nothing_else rank slot e) in omega (arith, none)

    data_fits : size_of (base.tiles rank (slot_at Data x.line_c x.group)) ≤ saved_cap x rank (slot_at Data x.line_c x.group)
    data_fits =
        ⊎_elim
        (λ (e : nat_lt (col_of x.grid rank) x.grid.q ≡ true). own_fits true e)
        (λ (e : nat_lt (col_of x.grid rank) x.grid.q ≡ false).
        none_there (slot_at Data x.line_c x.group)
        (ap (λ (d : Layout). (is_data_rank d.grid rank && nat_lt x.group (group_count d)) && is_live_matrix s base.mark x.line_c) h.lies_c
        ∙ ap (λ b. (b && nat_lt x.group (group_count (layout_c x))) && is_live_matrix s base.mark x.line_c) (ap (λ b. b && nat_lt (col_of x.grid rank) x.grid.q) m ∙ e)))
        (cases_Bool (nat_lt (col_of x.grid rank) x.grid.q))

    code_fits : size_of (base.tiles rank (slot_at Code x.line_c x.group)) ≤ saved_cap x rank (slot_at Code x.line_c x.group)
    code_fits =
        ⊎_elim
        (λ (e : nat_lt (col_of x.grid rank) x.grid.q ≡ true).
        let less = ltb-true (col_of x.grid rank) x.grid.q e in
        let not_past : nat_le x.grid.q (col_of x.grid rank) ≡ false = false_from_ne_true (nat_le x.grid.q (col_of x.grid rank)) (λ p. omega (arith, less, leb-true x.grid.q (col_of x.grid rank) p)) in
        none_there (slot_at Code x.line_c x.group)
        (ap (λ (d : Layout). (is_code_rank d.grid rank && nat_lt x.group (group_count d)) && is_live_matrix s base.mark x.line_c) h.lies_c
        ∙ ap (λ b. (b && nat_lt x.group (group_count (layout_c x))) && is_live_matrix s base.mark x.line_c) (ap (λ b. b && nat_le x.grid.q (col_of x.grid rank)) m ∙ not_past)))
        (λ (e : nat_lt (col_of x.grid rank) x.grid.q ≡ false). own_fits false e)
        (cases_Bool (nat_lt (col_of x.grid rank) x.grid.q))

    kind_fits : (kind : SlotKind) → (same_kind kind Data || same_kind kind Code) ≡ true → size_of (base.tiles rank (slot_at kind x.line_c x.group)) ≤ saved_cap x rank (slot_at kind x.line_c x.group)
    kind_fits Data e = data_fits
    kind_fits Code e = code_fits
    kind_fits Low e = absurd (true≢false (sym e))
    kind_fits Open e = absurd (true≢false (sym e))
    kind_fits Pivots e = absurd (true≢false (sym e))
    kind_fits Work e = absurd (true≢false (sym e))

    -- a strip of the group, as the last commit left it, may be saved
    strip_fits : (slot : Slot) → is_strip_of_group x slot ≡ true → size_of (base.tiles rank slot) ≤ saved_cap x rank slot
    strip_fits slot e =
        let z = and_parts ((same_kind slot.kind Data || same_kind slot.kind Code) && (slot.id == x.line_c)) (slot.group == x.group) e in
        let y = and_parts (same_kind slot.kind Data || same_kind slot.kind Code) (slot.id == x.line_c) z.0 in
        let is : slot ≡ slot_at slot.kind x.line_c x.group = λ i. slot_at slot.kind (eqb-true slot.id x.line_c y.1 i) (eqb-true slot.group x.group z.1 i) in
        subst (λ (v : Slot). size_of (base.tiles rank v) ≤ saved_cap x rank v) (sym is) (kind_fits slot.kind y.0)

  -- ---- the saves
  abbrev Fits : ℕ × Slot → Type 0
  Fits p = size_of (base.tiles p.0 p.1) ≤ saved_cap x p.0 p.1

  abbrev AllFit : List (ℕ × Slot) → Type 0
  AllFit [] = Unit {0}
  AllFit (p ∷ ps) = Fits p × AllFit ps

  saved_put : (old : ℕ → Slot → Option Tile) (rank : ℕ) (slot : Slot) (o : Option Tile) → IsCapped (saved_cap x) old → size_of o ≤ saved_cap x rank slot → IsCapped (saved_cap x) (at_slot old rank slot o)
  saved_put old rank slot o capped new a y =
      ⊎_elim
      (λ (e : ((a == rank) && same_slot y slot) ≡ true).
      let z = and_parts (a == rank) (same_slot y slot) e in
      let p = eqb-true a rank z.0 in
      let q = same_slot-true y slot z.1 in
      let size : size_of (at_slot old rank slot o a y) ≡ size_of o = ap (λ b. size_of (if b then o else old a y)) e in
      let room : saved_cap x a y ≡ saved_cap x rank slot = λ i. saved_cap x (p i) (q i) in
      omega (arith, size, room, new))
      (λ (e : ((a == rank) && same_slot y slot) ≡ false). let size : size_of (at_slot old rank slot o a y) ≡ size_of (old a y) = ap (λ b. size_of (if b then o else old a y)) e in omega (arith, size, capped a y))
      (cases_Bool ((a == rank) && same_slot y slot))

  unchanged : (now : State) → now.tiles ≡ base.tiles → IsCapped cap now.tiles
  unchanged now e rank slot = let same : size_of (now.tiles rank slot) ≡ size_of (base.tiles rank slot) = ap (λ f. size_of (f rank slot)) e in omega (arith, same)

  saving : (ps : List (ℕ × Slot)) (now : State) → AllFit ps → now.tiles ≡ base.tiles → IsCapped (saved_cap x) now.saved → AddThrough (product_words x) s base now (saves ps)
  saving [] now fits same capped = adds_product x base now (unchanged now same) capped
  saving (p ∷ ps) now fits same capped =
      let small : size_of (now.tiles p.0 p.1) ≤ saved_cap x p.0 p.1 = subst (λ f. size_of (f p.0 p.1) ≤ saved_cap x p.0 p.1) (sym same) fits.0 in
      (adds_product x base now (unchanged now same) capped, saving ps (after s now (r.Save p.0 p.1)) fits.1 same (saved_put now.saved p.0 p.1 (now.tiles p.0 p.1) capped small))

  of_group : (col : ℕ) → is_strip_of_group x (strip_slot x x.line_c col) ≡ true
  of_group col =
      and_from ((same_kind (strip_slot x x.line_c col).kind Data || same_kind (strip_slot x x.line_c col).kind Code) && (x.line_c == x.line_c)) (x.group == x.group)
      (and_from (same_kind (strip_slot x x.line_c col).kind Data || same_kind (strip_slot x x.line_c col).kind Code) (x.line_c == x.line_c) (kinds (nat_lt col x.grid.q)) (eq-eqb x.line_c x.line_c refl)) (eq-eqb x.group x.group refl)
    where
      kinds : (b : Bool) → (same_kind (if b then Data else Code) Data || same_kind (if b then Data else Code) Code) ≡ true
      kinds true = refl
      kinds false = refl

  wide : 0 < width x.grid
  wide = width-pos x.grid h.on_grid.grid

  place_fits : (i : ℕ) → i < x.grid.p * width x.grid → Fits (saved_at x i)
  place_fits i lt =
      let row : i / width x.grid < x.grid.p = (div-lt_iff_lt-mul {k = width x.grid} {x = i} {y = x.grid.p} wide).1 lt in
      let col : i % width x.grid < width x.grid = mod-lt i wide in
      strip_fits (rank_at x.grid (i / width x.grid) (i % width x.grid)) (is_member-rank_at x.grid (i / width x.grid) (i % width x.grid) row col) (strip_slot x x.line_c (i % width x.grid)) (of_group (i % width x.grid))

  all_fit : (n a : ℕ) → a + n ≤ x.grid.p * width x.grid → AllFit (map (saved_at x) (range_with_len a n))
  all_fit zero a lt = tt
  all_fit (suc n) a lt = (place_fits a (omega (arith, lt)), all_fit n (a + 1) (omega (arith, lt)))

  none_saved : IsCapped (saved_cap x) base.saved
  none_saved rank slot = let none : size_of (base.saved rank slot) ≡ 0 = ap size_of (rest.saved rank slot) in omega (arith, none)

  saves_fit : AddThrough (product_words x) s base base (saves (saved_strips x))
  saves_fit = saving (saved_strips x) base (all_fit (x.grid.p * width x.grid) 0 (omega arith)) refl none_saved

  -- after them
  has_saved : (now : State) → HasSaved base x now → IsCapped (saved_cap x) now.saved
  has_saved now saved rank slot =
      ⊎_elim
      (λ (e : (is_member x.grid rank && is_strip_of_group x slot) ≡ true).
      let z = and_parts (is_member x.grid rank) (is_strip_of_group x slot) e in
      ⊎_elim
      (λ (n : now.saved rank slot ≡ None). let none : size_of (now.saved rank slot) ≡ 0 = ap size_of n in omega (arith, none))
      (λ (n : now.saved rank slot ≡ base.tiles rank slot). let same : size_of (now.saved rank slot) ≡ size_of (base.tiles rank slot) = ap size_of n in omega (arith, same, strip_fits rank z.0 slot z.1))
      (saved.saved rank slot))
      (λ (e : (is_member x.grid rank && is_strip_of_group x slot) ≡ false). let none : size_of (now.saved rank slot) ≡ 0 = ap size_of (saved.others rank slot e ∙ rest.saved rank slot) in omega (arith, none))
      (cases_Bool (is_member x.grid rank && is_strip_of_group x slot))

  -- ---- the round
  abbrev P : RoundEvent → Type 0
  P = KeepsCap s cap

  each : (n : ℕ) (f : ℕ → List RoundEvent) → ((i : ℕ) → i < n → AllEvents P (f i)) → AllEvents P (each_below n f)
  each zero f e = tt
  each (suc n) f e = events_then P (each_below n f) (f n) (each n f (λ i lt. e i (omega (arith, lt)))) (e n (omega arith))

  -- a rank that changes words of a tile
  scaled : (rank : ℕ) (slot : Slot) (a : ℕ) → P (Local rank (k.Scale (Whole slot) a))
  scaled rank slot a tiles capped =
      let old = tiles rank slot in
      let m = words_of old in
      let size : size_of (Some (made_by s rank (tiles rank) (k.Scale (Whole slot) a))) ≡ m.rows * cols m = changed_size m (whole_part m) (λ i j. (entry m i j * a) % s.modulus) in
      omega (arith, size, words_size old, capped rank slot)

  multiplied : (rank : ℕ) (slot : Slot) (a : ℕ) (left right : Piece) → P (Local rank (k.MulAdd (Whole slot) a left right))
  multiplied rank slot a left right tiles capped =
      let old = tiles rank slot in
      let m = words_of old in
      let mem = tiles rank in
      let gain : ℕ → ℕ → ℕ = λ i j. (entry m i j + a * product_word (matrix_in mem left) (area_in mem left) (matrix_in mem right) (area_in mem right) (i - 0) (j - 0)) % s.modulus in
      let size : size_of (Some (made_by s rank mem (k.MulAdd (Whole slot) a left right))) ≡ m.rows * cols m = changed_size m (whole_part m) gain in
      omega (arith, size, words_size old, capped rank slot)

  -- a broadcast of a piece into a slot: each member has it from the root, or from one that got it before
  module _ (at up : ℕ → ℕ) (source : Piece) (slot : Slot) (n count : ℕ) (lower : (i : ℕ) → 1 ≤ i → up i < i)
      (first : (tiles : ℕ → Slot → Option Tile) → IsCapped cap tiles → size_of (Some (piece_in (tiles (at 0)) source)) ≤ n) (room : (i : ℕ) → i ≤ count → cap (at i) slot ≡ n) where
    sent : (i : ℕ) → suc i ≤ count → P (Move (at (up (suc i))) (at (suc i)) (if up (suc i) == 0 then source else Whole slot) (Whole slot))
    sent i lt tiles capped =
        let here = room (suc i) lt in
        ⊎_elim
        (λ (e : (up (suc i) == 0) ≡ true).
        let root : up (suc i) ≡ 0 = eqb-true (up (suc i)) 0 e in
        subst (λ b. size_of (Some (piece_in (tiles (at (up (suc i)))) (if b then source else Whole slot))) ≤ cap (at (suc i)) slot) (sym e)
        (subst (λ u. size_of (Some (piece_in (tiles (at u)) source)) ≤ cap (at (suc i)) slot) (sym root) (omega (arith, here, first tiles capped))))
        (λ (e : (up (suc i) == 0) ≡ false).
        let copy = cut_size slot (tiles (at (up (suc i))) slot) in
        let held = capped (at (up (suc i))) slot in
        let there = room (up (suc i)) (omega (arith, lt, lower (suc i) (omega arith))) in
        subst (λ b. size_of (Some (piece_in (tiles (at (up (suc i)))) (if b then source else Whole slot))) ≤ cap (at (suc i)) slot) (sym e) (omega (arith, here, copy, held, there)))
        (cases_Bool (up (suc i) == 0))

    all_sent : (j : ℕ) → j ≤ count → AllEvents P (broadcast_moves at up source (Whole slot) j)
    all_sent zero lt = tt
    all_sent (suc j) lt =
        events_then P (broadcast_moves at up source (Whole slot) j) (Move (at (up (suc j))) (at (suc j)) (if up (suc j) == 0 then source else Whole slot) (Whole slot) ∷ []) (all_sent j (omega (arith, lt))) (sent j lt, tt)

  -- the work slots of a rank of the grid
  first_room : (rank : ℕ) → is_member x.grid rank ≡ true → cap rank (work 0) ≡ words_a
  first_room rank m =
      let none : size_of (base.tiles rank (work 0)) ≡ 0 = ap size_of (rest.nothing_else rank (work 0) refl) in
      let all : allowed (work_room x rank) (work 0) ≡ words_a + (0 + 0) = ap (λ b. allowed (if b then (work 0, words_a) ∷ (work 1, words_b) ∷ [] else []) (work 0)) m in
      omega (arith, none, all)

  second_room : (rank : ℕ) → is_member x.grid rank ≡ true → cap rank (work 1) ≡ words_b
  second_room rank m =
      let none : size_of (base.tiles rank (work 1)) ≡ 0 = ap size_of (rest.nothing_else rank (work 1) refl) in
      let all : allowed (work_room x rank) (work 1) ≡ 0 + (words_b + 0) = ap (λ b. allowed (if b then (work 0, words_a) ∷ (work 1, words_b) ∷ [] else []) (work 1)) m in
      omega (arith, none, all)

  -- one block column
  module _ (block : ℕ) (lt : block < block_count x) where
    abbrev y : BlockProduct
    y = block_product x block

    q_in : y.q < width x.grid
    q_in = let q = mod-lt (x.a.csrc + block) (let some : 0 < x.grid.q = omega (arith, h.on_grid.a.column_source) in some) in omega (arith, q)

    r_in : y.r < x.grid.p
    r_in = mod-lt (x.b.rsrc + block) (let some : 0 < x.grid.p = omega (arith, h.on_grid.b.row_source) in some)

    -- the block row of B is among the rows of a process row
    narrow : block_width x block ≤ x.b.lld
    narrow =
        let begins : block * x.a.nb < x.a.n = ceil_div-part block x.a.n x.a.nb (omega (arith, h.on_grid.a.some_block_columns)) lt in
        let some : 0 < block_width x block = omega (arith, begins, h.on_grid.a.some_block_columns) in
        let same : block * x.a.nb ≡ block * x.b.mb = ap (λ v. block * v) h.aligned.inner_blocks in
        let last : ℕ = block_width x block - 1 in
        let small : last < x.b.mb = omega (arith, some, h.aligned.inner_blocks) in
        let in_b : block * x.b.mb + last < x.b.m = omega (arith, some, begins, same, h.aligned.inner) in
        let place = local-lt (block * x.b.mb + last) x.b.m x.b.mb y.r x.b.rsrc x.grid.p (omega (arith, h.on_grid.b.some_block_rows)) h.on_grid.b.row_source in_b (owner-in_block block last x.b.mb x.b.rsrc x.grid.p small) in
        let below = subst (λ l. l < numroc x.b.m x.b.mb y.r x.b.rsrc x.grid.p) (local-in_block block last x.b.mb x.grid.p small) place in
        let most = numroc-most x.b.m x.b.mb y.r x.grid.p x.b.rsrc r_in in
        omega (arith, some, below, most, h.on_grid.b.local_rows)

    row_sent : (row : ℕ) → row < x.grid.p → AllEvents P (product_row y row)
    row_sent row hr =
        let n = width x.grid in
        all_sent (positions.rank_at (member x.grid (Row row)) n x.topology y.q) (sender_of x.topology) (Whole y.a) (work 0) words_a (n - 1) (λ i one. sender_below x.topology i one)
        (λ tiles capped.
        (let root : ℕ = positions.rank_at (member x.grid (Row row)) n x.topology y.q 0 in
        let cut = cut_size y.a (tiles root y.a) in
        let none = no_work x true (is_member x.grid root) x.line_a y.a.group in
        omega (arith, cut, capped root y.a, none, small_a root y.a.group)))
        (λ i few. first_room (rank_at x.grid row (place_of x.topology n y.q i)) (is_member-rank_at x.grid row (place_of x.topology n y.q i) hr (place_in x.topology n y.q i q_in (omega (arith, few, wide)))))
        (n - 1) (omega arith)

    column_sent : (col : ℕ) → col < width x.grid → AllEvents P (column_moves y col)
    column_sent col hc =
        let n = x.grid.p in
        let slot : Slot = strip_slot x x.line_b col in
        all_sent (positions.rank_at (member x.grid (Column col)) n x.topology y.r) (sender_of x.topology) (APart slot y.right) (work 1) words_b (n - 1) (λ i one. sender_below x.topology i one)
        (λ tiles capped.
        (let root : ℕ = positions.rank_at (member x.grid (Column col)) n x.topology y.r 0 in
        let none = no_work x (nat_lt col x.grid.q) (is_member x.grid root) x.line_b x.group in
        let small = small_b (nat_lt col x.grid.q) root x.group in
        let rows : y.right.r1 - y.right.r0 ≤ x.b.lld = omega (arith, narrow) in
        part_size slot y.right words_b (tiles root slot) (omega (arith, capped root slot, none, small)) (mul-le (y.right.r1 - y.right.r0) (x.b.nb - 0) x.b.lld x.b.nb rows (omega arith))))
        (λ i few. second_room (rank_at x.grid (place_of x.topology n y.r i) col) (is_member-rank_at x.grid (place_of x.topology n y.r i) col (place_in x.topology n y.r i r_in (omega (arith, few, r_in))) hc))
        (n - 1) (omega arith)

    column_works : (col : ℕ) → col < width x.grid → AllEvents P (product_column y col)
    column_works col hc =
        events_then P (column_moves y col) (each_below x.grid.p (λ row. Local (rank_at x.grid row col) (product_kernel y row col) ∷ [])) (column_sent col hc)
        (each x.grid.p (λ row. Local (rank_at x.grid row col) (product_kernel y row col) ∷ []) (λ row hr. (multiplied (rank_at x.grid row col) (y.c col) y.alpha (left_piece y row col) (right_piece y row col), tt)))

    block_works : AllEvents P (product_events y)
    block_works = events_then P (each_below x.grid.p (product_row y)) (each_below (width x.grid) (product_column y)) (each x.grid.p (product_row y) row_sent) (each (width x.grid) (product_column y) column_works)

  round_caps : AllEvents P (group_events x)
  round_caps =
      events_then P (scale_events x) (each_below (block_count x) (λ block. product_events (block_product x block)))
      (each (width x.grid) (scale_column x) (λ col hc. each x.grid.p (λ row. Local (rank_at x.grid row col) (k.Scale (Whole (strip_slot x x.line_c col)) x.beta) ∷ []) (λ row hr. (scaled (rank_at x.grid row col) (strip_slot x x.line_c col) x.beta, tt))))
      (each (block_count x) (λ block. product_events (block_product x block)) block_works)

  round_fits : (now : State) → HasSaved base x now → AddThrough (product_words x) s base now (records_of (group_events x)) × IsCapped cap (replay s now (records_of (group_events x))).tiles
  round_fits now saved =
      capped_through s cap (product_words x) base now.saved (λ st capped e. adds_product x base st capped (subst (λ f. IsCapped (saved_cap x) f) (sym e) (has_saved now saved))) now (group_events x)
      round_caps (unchanged now saved.tiles) refl (λ from to. ap (λ f. f from to) saved.links ∙ rest.links from to)

-- In each state of the saves a rank has at most its strip of the group more than at the last commit.
pub saves_add : (s : Setting) (base : State) (t : ProductTask) → MayMultiplyMatrices s base t → IsRest s base → AddThrough (product_words t.x) s base base (saves (saved_strips t.x))
saves_add s base t h rest = saves_fit s base t h rest

-- In each state of the round it has at most that strip, a strip of A and a part of one of B more.
pub round_adds : (s : Setting) (base now : State) (t : ProductTask) → MayMultiplyMatrices s base t → IsRest s base → HasSaved base t.x now → AddThrough (product_words t.x) s base now (records_of (group_events t.x))
round_adds s base now t h rest saved = (round_fits s base t h rest now saved).0
