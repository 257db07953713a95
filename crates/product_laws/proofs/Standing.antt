-- The round of a group may run after the saves: the ranks hold the strips of A and B, and those of C, which they may write.
use Rattle.std.proofs.Common.{◌≡◌, ◌+◌, ◌-◌, ◌*◌, ◌%◌, ◌<◌, ◌≤◌, ◌==◌, ◌&&◌, ◌||◌, ℕ, Bool, true, false, not, nat_lt, Option, Some, None, is_some, refl, sym, ap, subst, ◌∙◌, ⊎_elim, arith}
use Rattle.std.specs.Prelude.{if◌then◌else◌}
use Rattle.std.proofs.lemmas.Bool.{cases_Bool, cases_lt, and_parts, or_right, ne_eqb, ltb-true, ltb-false}
use Rattle.std.proofs.Math.Nat.{mod-lt}
use Rattle.run_data.specs.Matrix.{Matrix, cols, entry}
use Rattle.run_data.proofs.Matrices.{entry-past_columns}
use Rattle.array_desc.specs.declared.Desc.{Desc}
use Rattle.array_desc.specs.Maps.{groups, group_of}
use Rattle.array_desc.proofs.GroupLaws.{block_in-group_of, group_of-lt}
use Rattle.blacs_grid.specs.Places.{width, row_of, col_of, rank_at}
use Rattle.blacs_grid.proofs.PlaceLaws.{row_of-rank_at, col_of-rank_at}
use Rattle.rank_machine.specs.declared.slot.Slot.{Slot}
use Rattle.rank_machine.specs.declared.slot.SlotKind.TheVariants.{Data, Code, Work}
use Rattle.rank_machine.specs.declared.slot.Tile.{Tile}
use Rattle.rank_machine.specs.declared.slot.Tile.TheVariants.{Words}
use Rattle.rank_machine.specs.declared.layout.Layout.{Layout}
use Rattle.rank_machine.specs.Setting.{Setting, job, group_count, strip_rows, strip_of, block_at, global_row, global_col}
use Rattle.rank_machine.specs.State.{State, same_kind, same_slot}
use Rattle.rank_machine.specs.Effect.{words_of, is_words, current}
use Rattle.rank_machine.specs.Legal.{is_among}
use Rattle.rank_machine.specs.CodeLaw.{slot_at, is_strip_of, MatrixLaw}
use Rattle.elimination.specs.Strips.{rows_below, row_at, Hold}
use Rattle.phase_laws.specs.Columns.{rows_of, strips_in}
use Rattle.phase_laws.proofs.Columns.{row_on_rank, strip-rows, strip-cols, strips-hold}
use Rattle.round_laws.specs.Holdings.{may_put}
use Rattle.round_laws.specs.Turns.{held_on}
use Rattle.run_laws.specs.LastCommit.{IsRest}
use Rattle.run_laws.proofs.Marks.{line_is}
use Rattle.dist_matrix.specs.Strips.{HasShape}
use Rattle.dist_matrix.proofs.StripLaws.{entry-strip_of, entry-strip_of_padding}
use Rattle.phase_frames.proofs.GroupLaws.{HoldsGroup-strip}
use Rattle.phase_rounds.specs.Strips.{HoldsWords, work}
use Rattle.product_rounds.specs.declared.rounds.GroupProduct.{GroupProduct}
use Rattle.product_rounds.specs.Rounds.{strip_slot, block_width, block_product, block_count}
use Rattle.product_rounds.specs.Standing.{HaveWords, HaveFactors, left_words, right_words}
use Rattle.product_rounds.specs.Groups.{MayMultiplyGroup, CanMultiplyGroup}
use Rattle.product_rounds.proofs.Standing.{can_multiply}
use Rattle.product_laws.specs.Held.{HoldsGroups}
use Rattle.product_laws.specs.Multiplying.{ProductTask, MayMultiplyMatrices, HasSaved, layout_a, layout_b, layout_c, words_b, words_c}

-- ---- slots apart
strip_no_work : (b : Bool) → same_kind (if b then Data else Code) Work ≡ false
strip_no_work true = refl
strip_no_work false = refl

id_apart : (k e g : Bool) → e ≡ false → ((k && e) && g) ≡ false
id_apart true e g h = ap (λ b. b && g) h
id_apart false e g h = refl

strip_is_no_work : (x : GroupProduct) (line col n : ℕ) → same_slot (strip_slot x line col) (work n) ≡ false
strip_is_no_work x line col n = ap (λ b. (b && (line == n)) && (x.group == 0)) (strip_no_work (nat_lt col x.grid.q))

-- ---- tiles
words_there : (o : Option Tile) → is_words o ≡ true → is_some o ≡ true
words_there None h = h
words_there (Some t) h = refl

strip_words : (d : Layout) (row : ℕ) (o : Option Tile) → is_strip_of d row o ≡ true → is_words o ≡ true
strip_words d row o h = (and_parts (is_words o) (((words_of o).rows == strip_rows d row) && (cols (words_of o) == d.desc.nb)) h).0

-- the strips of the group on data and code columns, where the matrix of a line obeys the code law
strip_there : (s : Setting) (base : State) (x : GroupProduct) (line : ℕ) (desc : Desc) → MatrixLaw s base base.mark line (record { grid = x.grid; desc = desc }) → x.group < group_count (record { grid = x.grid; desc = desc })
    → (row col : ℕ) → row < x.grid.p → col < width x.grid → is_strip_of (record { grid = x.grid; desc = desc }) row (base.tiles (rank_at x.grid row col) (strip_slot x line col)) ≡ true
strip_there s base x line desc law hg row col hr hc =
    let d : Layout = record { grid = x.grid; desc = desc } in
    ⊎_elim
    (λ (e : nat_lt col x.grid.q ≡ true).
    ap (λ b. is_strip_of d row (base.tiles (rank_at x.grid row col) (slot_at (if b then Data else Code) line x.group))) e
    ∙ law.data_strips row x.group col hr hg (ltb-true col x.grid.q e))
    (λ (e : nat_lt col x.grid.q ≡ false).
    let past = ltb-false col x.grid.q e in
    let is : col ≡ x.grid.q + (col - x.grid.q) = omega (arith, past) in
    ap (λ b. is_strip_of d row (base.tiles (rank_at x.grid row col) (slot_at (if b then Data else Code) line x.group))) e
    ∙ ap (λ c. is_strip_of d row (base.tiles (rank_at x.grid row c) (slot_at Code line x.group))) is
    ∙ law.code_strips row x.group (col - x.grid.q) hr hg (omega (arith, past, hc)))
    (cases_Bool (nat_lt col x.grid.q))

module _ (s : Setting) (base now : State) (t : ProductTask) (h : MayMultiplyMatrices s base t) (rest : IsRest s base) (saved : HasSaved base t.x now) where
  abbrev x : GroupProduct
  x = t.x

  line_current : current s now.mark ≡ t.mark.line
  line_current = ap (current s) saved.mark ∙ sym (line_is s base.mark t.mark h.rising h.follows_last)

  some_p : 0 < x.grid.p
  some_p = omega (arith, h.on_grid.grid.some_rows)

  some_q : 0 < x.grid.q
  some_q = omega (arith, h.on_grid.grid.some_columns)

  -- the round of the group may be asked for
  pub may_group : MayMultiplyGroup s now x
  may_group = record {
    own_grid = h.of;
    factor = ap (λ line. is_among (job s line).scalars x.beta) line_current ∙ h.beta;
    blocks = λ block lt. record {
      own_grid = h.of;
      desc = h.on_grid.c;
      q_in = (let in_q : (x.a.csrc + block) % x.grid.q < x.grid.q = mod-lt (x.a.csrc + block) some_q in omega (arith, in_q));
      r_in = mod-lt (x.b.rsrc + block) some_p;
      factor = ap (λ line. is_among (job s line).scalars x.alpha) line_current ∙ h.alpha;
      path = ap (λ line. (job s line).path) line_current ∙ h.path;
      c_not_a = λ col. id_apart (same_kind (if nat_lt col x.grid.q then Data else Code) Data) (x.line_c == x.line_a) (x.group == group_of block x.grid.q) (ne_eqb x.line_c x.line_a h.apart_a);
      c_not_b = λ col.
          (let kind = if nat_lt col x.grid.q then Data else Code in
          id_apart (same_kind kind kind) (x.line_c == x.line_b) (x.group == x.group) (ne_eqb x.line_c x.line_b h.apart_b));
      c_no_work = λ col n. strip_is_no_work x x.line_c col n;
      a_no_work = λ n. refl;
      b_no_work = λ col n. strip_is_no_work x x.line_b col n;
    };
  }

  -- ---- B and C
  law_b : MatrixLaw s base base.mark x.line_b (layout_b x)
  law_b = subst (MatrixLaw s base base.mark x.line_b) h.lies_b (rest.law.matrices x.line_b h.live_b)

  law_c : MatrixLaw s base base.mark x.line_c (layout_c x)
  law_c = subst (MatrixLaw s base base.mark x.line_c) h.lies_c (rest.law.matrices x.line_c h.live_c)

  -- B has as many groups as C
  group_in_b : x.group < group_count (layout_b x)
  group_in_b = subst (λ n. x.group < groups n x.b.nb x.grid.q) (sym h.aligned.columns) (subst (λ nb. x.group < groups x.c.n nb x.grid.q) (sym h.aligned.column_blocks) h.group_in)

  strip_b : (row col : ℕ) → row < x.grid.p → col < width x.grid → is_strip_of (layout_b x) row (base.tiles (rank_at x.grid row col) (strip_slot x x.line_b col)) ≡ true
  strip_b = strip_there s base x x.line_b x.b law_b group_in_b

  strip_c : (row col : ℕ) → row < x.grid.p → col < width x.grid → is_strip_of (layout_c x) row (base.tiles (rank_at x.grid row col) (strip_slot x x.line_c col)) ≡ true
  strip_c = strip_there s base x x.line_c x.c law_c h.group_in

  still : (rank : ℕ) (slot : Slot) → now.tiles rank slot ≡ base.tiles rank slot
  still rank slot = ap (λ (f : ℕ → Slot → Option Tile). f rank slot) saved.tiles

  second : (col : ℕ) → col < width x.grid → HaveWords (layout_b x) (strip_slot x x.line_b col) (words_b base x col) (λ row. held_on now x.grid row col)
  second col hc = record {
    there = λ row hr. ap is_words (still (rank_at x.grid row col) (strip_slot x x.line_b col)) ∙ strip_words (layout_b x) row (base.tiles (rank_at x.grid row col) (strip_slot x x.line_b col)) (strip_b row col hr hc);
    hold = subst (λ (f : ℕ → Slot → Option Tile). Hold (rows_of (layout_b x)) x.b.nb (words_b base x col) (strips_in (λ row. f (rank_at x.grid row col)) (strip_slot x x.line_b col))) (sym saved.tiles)
        (strips-hold base (layout_b x) col (strip_slot x x.line_b col) h.on_grid.b (λ row hr. strip_b row col hr hc));
  }

  stands : (col : ℕ) → col < width x.grid → HoldsWords (layout_c x) (strip_slot x x.line_c col) (words_c base x col) (λ row. held_on now x.grid row col)
  stands col hc = record {
    there = λ row hr. ap is_words (still (rank_at x.grid row col) (strip_slot x x.line_c col)) ∙ strip_words (layout_c x) row (base.tiles (rank_at x.grid row col) (strip_slot x x.line_c col)) (strip_c row col hr hc);
    free = λ row hr.
        (let rank = rank_at x.grid row col in
        let slot = strip_slot x x.line_c col in
        or_right (now.fresh rank slot) (is_some (now.saved rank slot))
        (ap is_some (saved.strips row col hr hc) ∙ words_there (base.tiles rank slot) (strip_words (layout_c x) row (base.tiles rank slot) (strip_c row col hr hc))));
    hold = subst (λ (f : ℕ → Slot → Option Tile). Hold (rows_of (layout_c x)) x.c.nb (words_c base x col) (strips_in (λ row. f (rank_at x.grid row col)) (strip_slot x x.line_c col))) (sym saved.tiles)
        (strips-hold base (layout_c x) col (strip_slot x x.line_c col) h.on_grid.c (λ row hr. strip_c row col hr hc));
  }

  -- ---- work slots are empty
  work_free : (n row col : ℕ) → may_put (held_on now x.grid row col) (work n) ≡ true
  work_free n row col =
      let rank = rank_at x.grid row col in
      let none : now.tiles rank (work n) ≡ None = still rank (work n) ∙ rest.nothing_else rank (work n) refl in
      or_right (now.fresh rank (work n) || is_some (now.saved rank (work n))) (not (is_some (now.tiles rank (work n)))) (ap (λ o. not (is_some o)) none)

  -- ---- the blocks of A
  module _ (a : Matrix) (shape : HasShape (layout_a x) a) (holds : HoldsGroups base (layout_a x) x.line_a a) where
    abbrev da : Layout
    da = layout_a x

    module _ (block : ℕ) (lt : block < block_count x) where
      abbrev col_a : ℕ
      col_a = (x.a.csrc + block) % x.grid.q

      abbrev group_a : ℕ
      group_a = group_of block x.grid.q

      col_in : col_a < x.grid.q
      col_in = mod-lt (x.a.csrc + block) some_q

      col_wide : col_a < width x.grid
      col_wide = omega (arith, col_in)

      group_in_a : group_a < group_count da
      group_in_a = group_of-lt block x.a.n x.a.nb x.grid.q some_q lt

      block_is : block_at da group_a col_a ≡ block
      block_is = block_in-group_of block x.a.csrc x.grid.q h.on_grid.a.column_source

      strip_a : (row : ℕ) → row < x.grid.p → now.tiles (rank_at x.grid row col_a) (slot_at Data x.line_a group_a) ≡ Some (Words (strip_of da a (rank_at x.grid row col_a) group_a))
      strip_a row hr = still (rank_at x.grid row col_a) (slot_at Data x.line_a group_a) ∙ holds group_a group_in_a row col_a hr col_in

      shape_a : (row : ℕ) → row < x.grid.p → is_strip_of da row (now.tiles (rank_at x.grid row col_a) (slot_at Data x.line_a group_a)) ≡ true
      shape_a row hr =
          ap (is_strip_of da row) (still (rank_at x.grid row col_a) (slot_at Data x.line_a group_a))
          ∙ HoldsGroup-strip base da x.line_a a group_a row col_a (holds group_a group_in_a) hr col_in

      column_is : (row c : ℕ) → global_col da (block_at da group_a (col_of x.grid (rank_at x.grid row col_a))) c ≡ block * x.a.nb + c
      column_is row c = ap (λ q. global_col da (block_at da group_a q) c) (col_of-rank_at x.grid row col_a col_wide) ∙ ap (λ b. b * x.a.nb + c) block_is

      word_a : (row l c : ℕ) → row < x.grid.p → l < rows_below (rows_of da) x.a.m row → c < x.a.nb
          → entry (words_of (now.tiles (rank_at x.grid row col_a) (slot_at Data x.line_a group_a))) l c ≡ entry a (row_at (rows_of da) row l) (block * x.a.nb + c)
      word_a row l c hr hl hc =
          let rank = rank_at x.grid row col_a in
          let inside : l < strip_rows da (row_of x.grid rank) = subst (λ r. l < strip_rows da r) (sym (row_of-rank_at x.grid row col_a col_wide)) hl in
          ap (λ o. entry (words_of o) l c) (strip_a row hr)
          ∙ ⊎_elim
          (λ (e : block * x.a.nb + c < x.a.n).
          entry-strip_of da a rank group_a l c inside hc (subst (λ n. n < x.a.n) (sym (column_is row c)) e)
          ∙ ap (λ j. entry a (global_row da rank l) j) (column_is row c)
          ∙ ap (λ i. entry a i (block * x.a.nb + c)) (row_on_rank da row col_a l col_wide))
          (λ (e : x.a.n ≤ block * x.a.nb + c).
          entry-strip_of_padding da a rank group_a l c inside hc (subst (λ n. x.a.n ≤ n) (sym (column_is row c)) e)
          ∙ sym (entry-past_columns a (row_at (rows_of da) row l) (block * x.a.nb + c) (omega (arith, shape.columns, e))))
          (cases_lt (block * x.a.nb + c) x.a.n)

      first : HaveWords da (block_product x block).a (left_words x (entry a) block) (λ row. held_on now x.grid row (block_product x block).q)
      first = record {
        there = λ row hr. ap is_words (strip_a row hr);
        hold = record {
          rows = λ row hr. strip-rows da row (now.tiles (rank_at x.grid row col_a) (slot_at Data x.line_a group_a)) (shape_a row hr);
          columns = λ row hr. strip-cols da row (now.tiles (rank_at x.grid row col_a) (slot_at Data x.line_a group_a)) (shape_a row hr);
          words = λ row l c hr hl hc. word_a row l c hr hl hc;
        };
      }

    -- and the ranks hold what it asks
    pub can_group : CanMultiplyGroup x (left_words x (entry a)) (block_width x) (right_words x (words_b base x)) (words_c base x) (held_on now x.grid)
    can_group =
        let have : HaveFactors x (entry a) (words_b base x) (held_on now x.grid) = record { first = first; second = second } in
        record {
          blocks = λ block lt.
              can_multiply x (entry a) (words_b base x) (words_c base x) (held_on now x.grid) h.on_grid h.aligned have block lt stands (λ row col hr hc. work_free 0 row col) (λ row col hr hc. work_free 1 row col);
          stands = stands;
        }
