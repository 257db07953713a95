-- What a phase that multiplies has done once it has committed.
use Rattle.std.proofs.Common.{◌≡◌, ◌+◌, ◌*◌, ◌-◌, ◌%◌, ◌<◌, ◌==◌, ◌&&◌, nat_lt, ℕ, Bool, true, false, Option, Some, None, List, [], ◌∷◌, refl, sym, ap, subst, ◌∙◌, ⊎_elim, arith}
use Rattle.std.specs.Prelude.{if◌then◌else◌}
use Rattle.std.proofs.Math.Nat.{mod-eq_of_lt}
use Rattle.std.proofs.lemmas.Bool.{cases_Bool, and_parts, and_from, lt-ltb, ltb-true, true≢false, false_from_ne_true}
use Rattle.field_core.specs.Sums.{sum_to}
use Rattle.field_core.proofs.Sums.{sum_to-same, sum_to-zero}
use Rattle.run_data.specs.Matrix.{Matrix, cols, entry, IsShaped}
use Rattle.run_data.specs.declared.matrix.Part.{Part}
use Rattle.run_data.specs.Parts.{patched, with_part, whole_part}
use Rattle.array_desc.specs.Descriptors.{IsDesc}
use Rattle.array_desc.specs.Maps.{block_in}
use Rattle.local_blas.specs.Kernels.{product_word}
use Rattle.run_data.proofs.Matrices.{entry-tabulate, IsShaped-tabulate, tabulate_is}
use Rattle.rank_run.specs.declared.round.Event.TheVariants.{Local, Move}
use Rattle.blacs_grid.specs.Places.{width, row_of, col_of, rank_at, is_data_rank}
use Rattle.blacs_grid.proofs.PlaceLaws.{row_of-rank_at, col_of-rank_at, is_data_rank-rank_at}
use Rattle.rank_machine.specs.declared.slot.Slot.{Slot}
use Rattle.rank_machine.specs.declared.slot.SlotKind.TheVariants.{Data, Code}
use Rattle.rank_machine.specs.declared.slot.Tile.{Tile}
use Rattle.rank_machine.specs.declared.slot.Tile.TheVariants.{Words}
use Rattle.rank_machine.specs.declared.record.Rec.TheVariants as r
use Rattle.rank_machine.specs.declared.layout.Layout.{Layout}
use Rattle.rank_machine.specs.Setting.{Setting, layout, group_count, strip_rows, strip_of, block_at, global_row, global_col}
use Rattle.rank_machine.specs.State.{State, same_slot, at_slot}
use Rattle.rank_machine.specs.Effect.{Memory, words_of, is_words, matrix_in, area_in, slot_of, target, made_by, after, replay, is_live, is_live_matrix}
use Rattle.rank_machine.specs.CodeLaw.{slot_at, is_strip_of}
use Rattle.rank_machine.proofs.Base.{same_slot-true}
use Rattle.rank_slots.specs.Stands.{records_of}
use Rattle.elimination.specs.Strips.{row_at, row_owner, row_place}
use Rattle.elimination.proofs.StripMaps.{row_owner-lt, row_place-lt, row_at-owner, row_at-lt}
use Rattle.phase_laws.specs.Columns.{rows_of, column_memory, strips_in, slot_column}
use Rattle.phase_laws.proofs.KernelLaws.{words_are}
use Rattle.phase_laws.proofs.Columns.{row_map, row_on_rank, held-inside, held-place, strip-rows, strip-cols}
use Rattle.run_laws.specs.LastCommit.{IsRest}
use Rattle.serial_model.specs.Solves.{product_of}
use Rattle.dist_matrix.specs.Strips.{HasShape}
use Rattle.dist_matrix.proofs.StripLaws.{IsShaped-strip_of}
use Rattle.phase_rounds.specs.Strips.{work}
use Rattle.phase_rounds.specs.Products.{left_piece, right_piece}
use Rattle.phase_frames.specs.Touching.{RoundEvent, AllEvents}
use Rattle.phase_frames.specs.Groups.{HoldsGroup}
use Rattle.product_rounds.specs.declared.rounds.GroupProduct.{GroupProduct}
use Rattle.product_rounds.specs.Rounds.{strip_slot, block_product, group_events}
use Rattle.product_laws.specs.Held.{HoldsGroups}
use Rattle.product_laws.specs.Multiplying.{ProductTask, MayMultiplyMatrices, HasMultiplied, HaveShapes, HasSaved, IsMultiplied, layout_a, layout_b, layout_c, words_b, words_c, words_made}
use Rattle.product_laws.proofs.After.{group_each}

-- ---- the strips stay shaped
-- an event gives a slot words as columns of one length, or writes another slot
abbrev Shapes : Setting → Slot → RoundEvent → Type 0
Shapes s slot (Local rank kernel) = (mem : Memory) → IsShaped (words_of (Some (made_by s rank mem kernel)))
Shapes s slot (Move from to a b) = same_slot slot (slot_of b) ≡ false

shaped_put : (old : ℕ → Slot → Option Tile) (rank : ℕ) (slot : Slot) (o : Option Tile) (a : ℕ) (y : Slot) → IsShaped (words_of (old a y)) → IsShaped (words_of o) → IsShaped (words_of (at_slot old rank slot o a y))
shaped_put old rank slot o a y before new =
    ⊎_elim
    (λ (e : ((a == rank) && same_slot y slot) ≡ true). subst (λ b. IsShaped (words_of (if b then o else old a y))) (sym e) new)
    (λ (e : ((a == rank) && same_slot y slot) ≡ false). subst (λ b. IsShaped (words_of (if b then o else old a y))) (sym e) before)
    (cases_Bool ((a == rank) && same_slot y slot))

other_put : (old : ℕ → Slot → Option Tile) (rank : ℕ) (slot : Slot) (o : Option Tile) (a : ℕ) (y : Slot) → same_slot y slot ≡ false → at_slot old rank slot o a y ≡ old a y
other_put old rank slot o a y e = ap (λ b. if b then o else old a y) (and_none (a == rank) (same_slot y slot) e)
  where
    and_none : (b c : Bool) → c ≡ false → (b && c) ≡ false
    and_none true c h = h
    and_none false c h = refl

shaped_through : (s : Setting) (slot : Slot) (rank : ℕ) (st : State) (es : List RoundEvent) → AllEvents (Shapes s slot) es → IsShaped (words_of (st.tiles rank slot)) → IsShaped (words_of ((replay s st (records_of es)).tiles rank slot))
shaped_through s slot rank st [] all h = h
shaped_through s slot rank st (Local a kernel ∷ es) all h =
    shaped_through s slot rank (after s st (r.Kernel a kernel)) es all.1
    (shaped_put st.tiles a (slot_of (target kernel)) (Some (made_by s a (st.tiles a) kernel)) rank slot h (all.0 (st.tiles a)))
shaped_through s slot rank st (Move from to x w ∷ es) all h =
    let next = after s (after s st (r.Send from to x)) (r.Recv to from w) in
    shaped_through s slot rank next es all.1 (subst (λ o. IsShaped (words_of o)) (sym (other_put st.tiles to (slot_of w) _ rank slot all.0)) h)

part_shaped : (m : Matrix) (at : Part) (f : ℕ → ℕ → ℕ) → IsShaped (with_part m at f)
part_shaped m at f = IsShaped-tabulate m.rows (cols m) (patched at f (entry m))

-- The round leaves words in columns of one length in every slot but the two work slots.
pub group_shaped : (s : Setting) (saved : State) (x : GroupProduct) (rank : ℕ) (slot : Slot) → same_slot slot (work 0) ≡ false → same_slot slot (work 1) ≡ false → IsShaped (words_of (saved.tiles rank slot))
    → IsShaped (words_of ((replay s saved (records_of (group_events x))).tiles rank slot))
group_shaped s saved x rank slot no_first no_second h =
    shaped_through s slot rank saved (group_events x)
    (group_each (Shapes s slot) x
    (λ row col mem. let m = words_of (mem (strip_slot x x.line_c col)) in part_shaped m (whole_part m) (λ i j. (entry m i j * x.beta) % s.modulus))
    (λ block row col mem.
    let m = words_of (mem (strip_slot x x.line_c col)) in
    let left = left_piece (block_product x block) row col in
    let right = right_piece (block_product x block) row col in
    part_shaped m (whole_part m) (λ i j. (entry m i j + x.alpha * product_word (matrix_in mem left) (area_in mem left) (matrix_in mem right) (area_in mem right) (i - 0) (j - 0)) % s.modulus))
    (λ from to y. no_first) (λ from to y. no_second)) h

-- So the data strips of the group stay shaped, as the last commit left them.
pub product_shaped : (s : Setting) (base saved : State) (t : ProductTask) → MayMultiplyMatrices s base t → HasSaved base t.x saved → (row col : ℕ) → row < t.x.grid.p → col < t.x.grid.q
    → IsShaped (words_of ((replay s saved (records_of (group_events t.x))).tiles (rank_at t.x.grid row col) (slot_at Data t.x.line_c t.x.group)))
product_shaped s base saved t may hs row col hr hc =
    let x = t.x in
    let rank = rank_at x.grid row col in
    let slot : Slot = slot_at Data x.line_c x.group in
    group_shaped s saved x rank slot refl refl
    (subst (λ f. IsShaped (words_of (f rank slot))) (sym hs.tiles)
    (subst (λ o. IsShaped (words_of o)) (sym (may.holds_c.groups x.group may.group_in row col hr hc)) (IsShaped-strip_of (layout_c x) may.holds_c.matrix rank x.group)))

-- ---- words of strips
-- the words of a strip of a matrix, by its row and its block column
abbrev word_at : Layout → Matrix → ℕ → ℕ → ℕ
word_at d m i j = if nat_lt j d.desc.n then entry m i j else 0

-- a group that is held has the words of the matrix, with zeros past its last column
held_word : (st : State) (d : Layout) (line group : ℕ) (m : Matrix) (col i c : ℕ) → IsDesc d.grid.p d.grid.q d.desc → HoldsGroup st d line m group → col < d.grid.q → i < d.desc.m → c < d.desc.nb
    → slot_column st d col (slot_at Data line group) c i ≡ word_at d m i (global_col d (block_at d group col) c)
held_word st d line group m col i c desc holds hc hi hw =
    let map = row_map d desc in
    let row : ℕ = row_owner (rows_of d) i in
    let place : ℕ = row_place (rows_of d) i in
    let rank : ℕ = rank_at d.grid row col in
    let wide : col < width d.grid = omega (arith, hc) in
    let hr : row < d.grid.p = row_owner-lt (rows_of d) i map in
    let here : row_of d.grid rank ≡ row = row_of-rank_at d.grid row col wide in
    let there : col_of d.grid rank ≡ col = col_of-rank_at d.grid row col wide in
    let low : place < strip_rows d (row_of d.grid rank) = subst (λ k. place < strip_rows d k) (sym here) (row_place-lt (rows_of d) i map hi) in
    let back : global_row d rank place ≡ i = row_on_rank d row col place wide ∙ row_at-owner (rows_of d) i map in
    held-inside (rows_of d) (strips_in (column_memory st d col) (slot_at Data line group)) i c hi
    ∙ ap (λ o. entry (words_of o) place c) (holds row col hr hc)
    ∙ entry-tabulate (strip_rows d (row_of d.grid rank)) d.desc.nb (λ i j. word_at d m (global_row d rank i) (global_col d (block_at d group (col_of d.grid rank)) j)) place c low hw
    ∙ (λ k. word_at d m (back k) (global_col d (block_at d group (there k)) c))

-- a word of the product of three matrices with zeros past their last columns
padded : (p n alpha beta : ℕ) (inside : Bool) (a b : ℕ → ℕ) (c made : ℕ) → 0 < p → (inside ≡ true → made ≡ (alpha * sum_to n (λ q. a q * b q) + beta * c) % p)
    → (alpha * sum_to n (λ q. a q * (if inside then b q else 0)) + beta * (if inside then c else 0)) % p ≡ (if inside then made else 0)
padded p n alpha beta true a b c made some is = sym (is refl)
padded p n alpha beta false a b c made some is =
    let none : sum_to n (λ q. a q * 0) ≡ 0 = sum_to-same n (λ q. a q * 0) (λ q. 0) (λ q lt. omega arith) ∙ sum_to-zero n in
    ap (λ v. (alpha * v + beta * 0) % p) none ∙ ap (λ v. v % p) (let e : alpha * 0 + beta * 0 ≡ 0 = omega arith in e) ∙ mod-eq_of_lt some

-- ---- the effect
module _ (s : Setting) (base saved : State) (t : ProductTask) (may : MayMultiplyMatrices s base t) (rest : IsRest s base) (hs : HasSaved base t.x saved)
    (made : (a : Matrix) → HasShape (layout_a t.x) a → HoldsGroups base (layout_a t.x) t.x.line_a a → IsMultiplied s base t.x a (replay s saved (records_of (group_events t.x)))) where
  abbrev x : GroupProduct
  x = t.x

  abbrev d : Layout
  d = layout_c x

  abbrev now : State
  now = replay s saved (records_of (group_events x))

  abbrev slot : Slot
  slot = slot_at Data x.line_c x.group

  wide : (col : ℕ) → col < x.grid.q → col < width x.grid
  wide col hc = omega (arith, hc)

  data_slot : (line col : ℕ) → col < x.grid.q → strip_slot x line col ≡ slot_at Data line x.group
  data_slot line col hc = ap (λ b. slot_at (if b then Data else Code) line x.group) (lt-ltb col x.grid.q hc)

  live : (row col : ℕ) → row < x.grid.p → col < x.grid.q → is_live s t.mark (rank_at x.grid row col) slot ≡ true
  live row col hr hc =
      and_from (is_data_rank (layout s x.line_c).grid (rank_at x.grid row col) && nat_lt x.group (group_count (layout s x.line_c))) (is_live_matrix s t.mark x.line_c)
      (ap (λ (e : Layout). is_data_rank e.grid (rank_at x.grid row col) && nat_lt x.group (group_count e)) may.lies_c
      ∙ and_from (is_data_rank x.grid (rank_at x.grid row col)) (nat_lt x.group (group_count d)) (is_data_rank-rank_at x.grid row col hr hc) (lt-ltb x.group (group_count d) may.group_in)) may.stays_c

  -- whatever matrices A, B and C were
  module _ (a b c : Matrix) (holds_a : HoldsGroups base (layout_a x) x.line_a a) (holds_b : HoldsGroup base (layout_b x) x.line_b b x.group) (holds_c : HoldsGroup base (layout_c x) x.line_c c x.group) (shapes : HaveShapes x a b c) where
    abbrev product : Matrix
    product = product_of s.modulus x.alpha a b x.beta c

    module _ (row col : ℕ) (hr : row < x.grid.p) (hc : col < x.grid.q) where
      abbrev rank : ℕ
      rank = rank_at x.grid row col

      abbrev strip_now : Matrix
      strip_now = words_of (now.tiles rank slot)

      -- the global column of a column of the strip
      abbrev column : ℕ → ℕ
      column j = global_col d (block_at d x.group col) j

      is_strip : is_strip_of d row (now.tiles rank slot) ≡ true
      is_strip = subst (λ y. is_strip_of d row (now.tiles rank y) ≡ true) (data_slot x.line_c col hc) ((made a shapes.a holds_a).strips col row (wide col hc) hr)

      -- it lies as the block column of B does
      same_column : (j : ℕ) → global_col (layout_b x) (block_at (layout_b x) x.group col) j ≡ column j
      same_column j = λ k. block_in x.group col (may.aligned.column_source k) x.grid.q * may.aligned.column_blocks k + j

      word_b : (q j : ℕ) → q < x.a.n → j < x.c.nb → words_b base x col q j ≡ (if nat_lt (column j) x.c.n then entry b q (column j) else 0)
      word_b q j hq hj =
          ap (λ y. slot_column base (layout_b x) col y j q) (data_slot x.line_b col hc)
          ∙ held_word base (layout_b x) x.line_b x.group b col q j may.on_grid.b holds_b hc (omega (arith, hq, may.aligned.inner)) (omega (arith, hj, may.aligned.column_blocks))
          ∙ (λ k. if nat_lt (same_column j k) (may.aligned.columns k) then entry b q (same_column j k) else 0)

      word_c : (i j : ℕ) → i < x.c.m → j < x.c.nb → words_c base x col i j ≡ (if nat_lt (column j) x.c.n then entry c i (column j) else 0)
      word_c i j hi hj =
          ap (λ y. slot_column base (layout_c x) col y j i) (data_slot x.line_c col hc)
          ∙ held_word base (layout_c x) x.line_c x.group c col i j may.on_grid.c holds_c hc hi hj

      product_word_at : (i j : ℕ) → i < x.c.m → j < x.c.n → entry product i j ≡ (x.alpha * sum_to x.a.n (λ q. entry a i q * entry b q j) + x.beta * entry c i j) % s.modulus
      product_word_at i j hi hj =
          entry-tabulate c.rows (cols c) (λ i j. (x.alpha * sum_to (cols a) (λ k. entry a i k * entry b k j) + x.beta * entry c i j) % s.modulus) i j (omega (arith, hi, shapes.c.rows)) (omega (arith, hj, shapes.c.columns))
          ∙ ap (λ n. (x.alpha * sum_to n (λ k. entry a i k * entry b k j) + x.beta * entry c i j) % s.modulus) shapes.a.columns

      made_word : (i j : ℕ) → i < x.c.m → j < x.c.nb → words_made s base x a col i j ≡ word_at d product i (column j)
      made_word i j hi hj =
          let inside : Bool = nat_lt (column j) x.c.n in
          ap (λ v. (x.alpha * v + x.beta * words_c base x col i j) % s.modulus)
          (sum_to-same x.a.n (λ q. entry a i q * words_b base x col q j) (λ q. entry a i q * (if inside then entry b q (column j) else 0)) (λ q hq. ap (λ v. entry a i q * v) (word_b q j hq hj)))
          ∙ ap (λ v. (x.alpha * sum_to x.a.n (λ q. entry a i q * (if inside then entry b q (column j) else 0)) + x.beta * v) % s.modulus) (word_c i j hi hj)
          ∙ padded s.modulus x.a.n x.alpha x.beta inside (entry a i) (λ q. entry b q (column j)) (entry c i (column j)) (entry product i (column j)) may.some_words
          (λ e. product_word_at i (column j) hi (ltb-true (column j) x.c.n e))

      word_now : (i j : ℕ) → i < strip_rows d row → j < x.c.nb → entry strip_now i j ≡ word_at d product (row_at (rows_of d) row i) (column j)
      word_now i j hi hj =
          let map = row_map d may.on_grid.c in
          let low : row_at (rows_of d) row i < x.c.m = row_at-lt (rows_of d) row i map hr hi in
          sym (held-place (rows_of d) (strips_in (column_memory now d col) slot) row i j map hr hi)
          ∙ ap (λ y. slot_column now d col y j (row_at (rows_of d) row i)) (sym (data_slot x.line_c col hc))
          ∙ (made a shapes.a holds_a).words col (row_at (rows_of d) row i) j (wide col hc) low hj
          ∙ made_word (row_at (rows_of d) row i) j low hj

      strip_is : strip_now ≡ strip_of d product rank x.group
      strip_is =
          let here : row_of x.grid rank ≡ row = row_of-rank_at x.grid row col (wide col hc) in
          let there : col_of x.grid rank ≡ col = col_of-rank_at x.grid row col (wide col hc) in
          tabulate_is strip_now (strip_rows d (row_of x.grid rank)) x.c.nb (λ i j. word_at d product (global_row d rank i) (global_col d (block_at d x.group (col_of x.grid rank)) j)) (product_shaped s base saved t may hs row col hr hc)
          (strip-rows d row (now.tiles rank slot) is_strip ∙ ap (strip_rows d) (sym here)) (strip-cols d row (now.tiles rank slot) is_strip)
          (λ i j hi hj.
          word_now i j (subst (λ k. i < strip_rows d k) here hi) hj
          ∙ (λ k. word_at d product (sym (row_on_rank d row col i (wide col hc)) k) (global_col d (block_at d x.group (sym there k)) j)))

      tile_is : now.tiles rank slot ≡ Some (Words (strip_of d product rank x.group))
      tile_is = words_are (now.tiles rank slot) (and_parts (is_words (now.tiles rank slot)) ((strip_now.rows == strip_rows d row) && (cols strip_now == x.c.nb)) is_strip).0 ∙ ap (λ m. Some (Words m)) strip_is

  -- no work slot is live
  no_work : (rank : ℕ) (y : Slot) (n : ℕ) → is_live s t.mark rank y ≡ true → same_slot y (work n) ≡ false
  no_work rank y n is = false_from_ne_true (same_slot y (work n)) (λ e. true≢false (sym is ∙ ap (is_live s t.mark rank) (same_slot-true y (work n) e)))

  -- Once it has committed, the phase has multiplied.
  pub product_effect : HasMultiplied s base t [] (after s now (r.Commit t.mark false))
  product_effect = record {
    takes_none = refl;
    product = λ a b c holds_a holds_b holds_c shapes row col hr hc.
        ap (λ v. if v then now.tiles (rank_at x.grid row col) slot else None) (live row col hr hc) ∙ tile_is a b c holds_a holds_b holds_c shapes row col hr hc;
    rest = λ rank y no_strip is.
        ap (λ v. if v then now.tiles rank y else None) is
        ∙ (made may.holds_a.matrix may.holds_a.shape may.holds_a.groups).rest rank y no_strip (no_work rank y 0 is) (no_work rank y 1 is);
  }
