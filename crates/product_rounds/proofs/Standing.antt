-- Each block column can be multiplied, where the ranks hold the two factors.
use Rattle.std.proofs.Common.{◌≡◌, ℕ, ◌+◌, ◌-◌, ◌*◌, ◌/◌, ◌<◌, ◌≤◌, true, sym, ap, subst, ◌∙◌, arith}
use Rattle.std.proofs.Math.Nat.{mod-lt}
use Rattle.run_data.specs.Matrix.{Matrix, cols, entry}
use Rattle.array_desc.proofs.GroupLaws.{ceil_div-part}
use Rattle.array_desc.proofs.MapLaws.{owner-in_block, local-in_block, global-local}
use Rattle.array_desc.specs.Maps.{numroc, local, global}
use Rattle.blacs_grid.specs.Places.{width}
use Rattle.rank_machine.specs.declared.layout.Layout.{Layout}
use Rattle.rank_machine.specs.Effect.{words_of}
use Rattle.elimination.specs.Strips.{rows_below, row_at}
use Rattle.elimination.proofs.StripMaps.{row_place-lt}
use Rattle.phase_laws.specs.Columns.{rows_of}
use Rattle.phase_laws.proofs.Columns.{row_map}
use Rattle.round_laws.specs.Holdings.{Holding, may_put}
use Rattle.round_laws.proofs.Pieces.{inside}
use Rattle.phase_rounds.specs.Strips.{HoldsWords, work}
use Rattle.phase_rounds.specs.Products.{CanMultiply}
use Rattle.product_rounds.specs.declared.rounds.GroupProduct.{GroupProduct}
use Rattle.product_rounds.specs.Rounds.{IsOnGrid, strip_slot, block_product, block_width, block_count}
use Rattle.product_rounds.specs.Standing.{AreAligned, HaveFactors, left_words, right_words}

module _ (x : GroupProduct) (a : ℕ → ℕ → ℕ) (b words : ℕ → ℕ → ℕ → ℕ) (f : ℕ → ℕ → Holding) (on_grid : IsOnGrid x) (aligned : AreAligned x) (have : HaveFactors x a b f) (block : ℕ) (lt : block < block_count x) where
  abbrev da : Layout
  da = record { grid = x.grid; desc = x.a }

  abbrev db : Layout
  db = record { grid = x.grid; desc = x.b }

  abbrev dc : Layout
  dc = record { grid = x.grid; desc = x.c }

  abbrev r : ℕ
  r = (block_product x block).r

  begins : block * x.a.nb < x.a.n
  begins = ceil_div-part block x.a.n x.a.nb (omega (arith, on_grid.a.some_block_columns)) lt

  narrow : block_width x block ≤ x.a.nb
  narrow = omega arith

  ends : block * x.a.nb + block_width x block ≤ x.a.n
  ends = omega (arith, begins)

  same_start : block * x.a.nb ≡ block * x.b.mb
  same_start = ap (λ v. block * v) aligned.inner_blocks

  r_in : r < x.grid.p
  r_in = mod-lt (x.b.rsrc + block) (omega (arith, on_grid.b.row_source))

  -- ---- the rows of the block row of B
  small : (q : ℕ) → q < block_width x block → q < x.b.mb
  small q hq = omega (arith, narrow, aligned.inner_blocks)

  in_b : (q : ℕ) → q < block_width x block → block * x.b.mb + q < x.b.m
  in_b q hq = omega (arith, ends, same_start, aligned.inner)

  below : (q : ℕ) → q < block_width x block → x.b.mb * (block / x.grid.p) + q < rows_below (rows_of db) x.b.m r
  below q hq =
      rw (local-in_block block q x.b.mb x.grid.p (small q hq), owner-in_block block q x.b.mb x.b.rsrc x.grid.p (small q hq))
      at (row_place-lt (rows_of db) (block * x.b.mb + q) (row_map db on_grid.b) (in_b q hq))

  row_is : (q : ℕ) → q < block_width x block → row_at (rows_of db) r (x.b.mb * (block / x.grid.p) + q) ≡ block * x.a.nb + q
  row_is q hq =
      ap (λ l. global l x.b.mb r x.b.rsrc x.grid.p) (sym (local-in_block block q x.b.mb x.grid.p (small q hq)))
      ∙ ap (λ o. global (local (block * x.b.mb + q) x.b.mb x.grid.p) x.b.mb o x.b.rsrc x.grid.p) (sym (owner-in_block block q x.b.mb x.b.rsrc x.grid.p (small q hq)))
      ∙ global-local (block * x.b.mb + q) x.b.mb x.b.rsrc x.grid.p (omega (arith, on_grid.b.some_block_rows)) on_grid.b.row_source
      ∙ ap (λ v. v + q) (sym same_start)

  -- ---- the rows of A are those of C
  same_rows : rows_of da ≡ rows_of dc
  same_rows = λ i. record { m = aligned.rows i; mb = aligned.row_blocks i; src = aligned.row_source i; procs = x.grid.p }

  pub can_multiply : ((col : ℕ) → col < width x.grid → HoldsWords dc (strip_slot x x.line_c col) (words col) (λ row. f row col))
      → ((row col : ℕ) → row < x.grid.p → col < width x.grid → may_put (f row col) (work 0) ≡ true) → ((row col : ℕ) → row < x.grid.p → col < width x.grid → may_put (f row col) (work 1) ≡ true)
      → CanMultiply (block_product x block) (left_words x a block) (block_width x block) (right_words x b block) words f
  can_multiply stands first_free second_free =
      let left = have.first block lt in
      record {
        a_there = λ row hr. left.there row hr;
        left_in = λ row hr.
            (let m : Matrix = words_of ((f row (block_product x block).q).tiles (block_product x block).a) in
            let rows : m.rows ≡ numroc x.a.m x.a.mb row x.a.rsrc x.grid.p = left.hold.rows row hr in
            let columns : cols m ≡ x.a.nb = left.hold.columns row hr in
            inside ((block_product x block).left row) m (omega arith) (omega (arith, rows)) (omega arith) (omega (arith, columns, narrow)));
        left_rows = λ row hr. (let e : numroc x.a.m x.a.mb row x.a.rsrc x.grid.p - 0 ≡ numroc x.a.m x.a.mb row x.a.rsrc x.grid.p = omega arith in e) ∙ ap (λ d. rows_below d d.m row) same_rows;
        left_columns = λ row hr. (let e : block_width x block - 0 ≡ block_width x block = omega arith in e);
        left_words = λ row i q hr hi hq.
            (let m : Matrix = words_of ((f row (block_product x block).q).tiles (block_product x block).a) in
            let hi' : i < rows_below (rows_of da) x.a.m row = subst (λ d. i < rows_below d d.m row) (sym same_rows) hi in
            (let e : 0 + i ≡ i = omega arith in ap (λ k. entry m k (0 + q)) e) ∙ (let e : 0 + q ≡ q = omega arith in ap (entry m i) e)
            ∙ left.hold.words row i q hr hi' (omega (arith, narrow)) ∙ ap (λ d. a (row_at d row i) (block * x.a.nb + q)) same_rows);
        b_there = λ col hc. (have.second col hc).there r r_in;
        right_in = λ col hc.
            (let right = have.second col hc in
            let m : Matrix = words_of ((f r col).tiles (strip_slot x x.line_b col)) in
            let rows : m.rows ≡ rows_below (rows_of db) x.b.m r = right.hold.rows r r_in in
            let columns : cols m ≡ x.b.nb = right.hold.columns r r_in in
            let some : 0 < block_width x block = omega (arith, begins, on_grid.a.some_block_columns) in
            let last : x.b.mb * (block / x.grid.p) + (block_width x block - 1) < rows_below (rows_of db) x.b.m r = below (block_width x block - 1) (omega (arith, some)) in
            inside (block_product x block).right m (omega arith) (omega (arith, rows, last, some)) (omega arith) (omega (arith, columns)));
        right_rows = (let e : x.b.mb * (block / x.grid.p) + block_width x block - x.b.mb * (block / x.grid.p) ≡ block_width x block = omega arith in e);
        right_columns = (let e : x.b.nb - 0 ≡ x.c.nb = omega (arith, aligned.column_blocks) in e);
        right_words = λ col q c hc hq hw.
            (let right = have.second col hc in
            let m : Matrix = words_of ((f r col).tiles (strip_slot x x.line_b col)) in
            (let e : 0 + c ≡ c = omega arith in ap (entry m (x.b.mb * (block / x.grid.p) + q)) e)
            ∙ right.hold.words r (x.b.mb * (block / x.grid.p) + q) c r_in (below q hq) (omega (arith, aligned.column_blocks))
            ∙ ap (λ k. b col k c) (row_is q hq));
        stands = stands;
        first_free = first_free;
        second_free = second_free;
      }
