-- The code law after the round of a group of a product: the code columns of the group are the weighted sums of its new data columns, and all other columns are as they
-- were.
use Rattle.std.proofs.Common.{◌≡◌, ◌≢◌, ◌+◌, ◌*◌, ◌/◌, ◌%◌, ◌<◌, ◌≤◌, ◌==◌, ◌&&◌, ◌||◌, ℕ, zero, suc, Bool, true, false, nat_lt, nat_le, refl, sym, ap, subst, ◌∙◌, ⊎_elim, arith}
use Rattle.std.specs.Prelude.{if◌then◌else◌}
use Rattle.std.proofs.Math.Nat.{mod-mod, mod-add-mod, mod-eq_of_lt}
use Rattle.std.proofs.lemmas.Bool.{cases_lt, cases_eq, and_parts, and_right, or_parts, or_cases, eqb-true, eq-eqb, ne_eqb, lt-ltb, ltb-true, le-ltb, true≢false, false_from_ne_true}
use Rattle.field_core.specs.Sums.{sum_to}
use Rattle.field_core.proofs.Sums.{sum_to-same, sum_to-zero}
use Rattle.field_core.proofs.WeightedSums.{weighted-scaled}
use Rattle.run_data.specs.Matrix.{Matrix, entry}
use Rattle.array_desc.specs.Descriptors.{IsDesc}
use Rattle.array_desc.specs.Maps.{groups, block_in}
use Rattle.blacs_grid.specs.Places.{width, rank_at}
use Rattle.rank_machine.specs.declared.slot.Slot.{Slot}
use Rattle.rank_machine.specs.declared.slot.SlotKind.{SlotKind}
use Rattle.rank_machine.specs.declared.slot.SlotKind.TheVariants.{Data, Code}
use Rattle.rank_machine.specs.declared.mark.Mark.{Mark}
use Rattle.rank_machine.specs.declared.layout.Layout.{Layout}
use Rattle.rank_machine.specs.Setting.{Setting, layout, is_matrix, factored, group_count, block_at, global_col}
use Rattle.rank_machine.specs.State.{State, same_kind, same_slot}
use Rattle.rank_machine.specs.Effect.{words_of, is_live, is_live_matrix, has_ended}
use Rattle.rank_machine.specs.CodeLaw.{slot_at, has_low, has_open, is_open_group, data_word, is_strip_of, IsPlace, CodeLaw, MatrixLaw}
use Rattle.rank_machine.proofs.Base.{same_slot-true}
use Rattle.elimination.specs.CodeLaw.{IsWeightedSum}
use Rattle.elimination.specs.Solves.{gained}
use Rattle.elimination.specs.Strips.{row_at, row_owner, row_place, held}
use Rattle.elimination.proofs.StripMaps.{row_owner-lt, row_place-lt, row_at-lt}
use Rattle.elimination.proofs.UpperLaws.{gained-weighted}
use Rattle.elimination.proofs.RowsLaws.{weighted-rows}
use Rattle.phase_laws.specs.Columns.{rows_of, column_memory, strips_in, slot_column, data_columns, code_column, weights, IsGroupSummed, AreStrips, AreCoded}
use Rattle.phase_laws.proofs.Columns.{row_map, held-inside, held-past, held-place}
use Rattle.phase_laws.proofs.CodeLaws.{law-summed, coded-law}
use Rattle.phase_rounds.specs.Strips.{work}
use Rattle.run_laws.specs.LastCommit.{IsRest}
use Rattle.run_laws.specs.NextMark.{is_factored_under, CountsSame}
use Rattle.run_laws.proofs.Marks.{counts_same}
use Rattle.run_laws.proofs.LawFrame.{CodeLaw-next_mark}
use Rattle.product_rounds.specs.declared.rounds.GroupProduct.{GroupProduct}
use Rattle.product_rounds.specs.Rounds.{strip_slot}
use Rattle.dist_matrix.specs.Strips.{HasShape}
use Rattle.product_laws.specs.Held.{HoldsGroups}
use Rattle.product_laws.specs.Multiplying.{ProductTask, MayMultiplyMatrices, IsMultiplied, layout_a, layout_b, layout_c, is_strip_of_group}

-- ---- over plain words
-- a product that is added to a multiple, in the order of the product's words
made_is : (p alpha beta u v : ℕ) → ((v * beta) % p + alpha * u) % p ≡ (alpha * u + beta * v) % p
made_is p alpha beta u v = mod-add-mod (v * beta) p (alpha * u) ∙ ap (λ z. z % p) (let e : v * beta + alpha * u ≡ alpha * u + beta * v = omega arith in e)

-- it keeps weighted sums
made-weighted : (p n : ℕ) (w : ℕ → ℕ) (x y : ℕ → ℕ → ℕ) (c d : ℕ → ℕ) (alpha beta : ℕ) (l : ℕ → ℕ → ℕ) (count : ℕ) → IsWeightedSum p n w x c → IsWeightedSum p n w y d
    → IsWeightedSum p n w (λ q i. (alpha * sum_to count (λ k. l i k * y q k) + beta * x q i) % p) (λ i. (alpha * sum_to count (λ k. l i k * d k) + beta * c i) % p)
made-weighted p n w x y c d alpha beta l count sum right =
    let scaled : IsWeightedSum p n w (λ q i. (x q i * beta) % p) (λ i. (c i * beta) % p) =
    record { at = λ i. mod-mod (c i * beta) p ∙ weighted-scaled p n beta w (λ q. x q i) (c i) (sum.at i) } in
    let both = gained-weighted p n w (λ q i. (x q i * beta) % p) y (λ i. (c i * beta) % p) d alpha l count scaled right in
    record {
      at = λ i.
          ap (λ z. z % p) (sym (made_is p alpha beta (sum_to count (λ k. l i k * d k)) (c i)))
          ∙ both.at i
          ∙ ap (λ z. z % p) (sum_to-same n (λ q. w q * gained p alpha l count (λ r. (x q r * beta) % p) (y q) i) (λ q. w q * ((alpha * sum_to count (λ k. l i k * y q k) + beta * x q i) % p))
          (λ q hq. ap (λ z. w q * z) (made_is p alpha beta (sum_to count (λ k. l i k * y q k)) (x q i))));
    }

-- and makes zeros of zeros
made-zero : (p alpha beta v n : ℕ) (l y : ℕ → ℕ) → 0 < p → ((k : ℕ) → y k ≡ 0) → v ≡ 0 → (alpha * sum_to n (λ k. l k * y k) + beta * v) % p ≡ 0
made-zero p alpha beta v n l y some zeros none =
    let sum : sum_to n (λ k. l k * y k) ≡ 0 = sum_to-same n (λ k. l k * y k) (λ k. 0) (λ k hk. ap (λ z. l k * z) (zeros k) ∙ (let e : l k * 0 ≡ 0 = omega arith in e)) ∙ sum_to-zero n in
    (λ i. (alpha * sum i + beta * none i) % p) ∙ ap (λ z. z % p) (let e : alpha * 0 + beta * 0 ≡ 0 = omega arith in e) ∙ mod-eq_of_lt some

-- ---- one matrix
-- where a strip's column lies past the matrix, its words are zero
padded_column : (s : Setting) (st : State) (mark : Mark) (line : ℕ) (d : Layout) (group col j : ℕ) → IsDesc d.grid.p d.grid.q d.desc → MatrixLaw s st mark line d → group < group_count d → col < d.grid.q → j < d.desc.nb
    → d.desc.n ≤ global_col d (block_at d group col) j → (i : ℕ) → data_columns st line d group j col i ≡ 0
padded_column s st mark line d group col j desc law hg hc hj past i =
    let strips = strips_in (column_memory st d col) (slot_at Data line group) in
    let map = row_map d desc in
    ⊎_elim
    (λ (h : i < d.desc.m).
    held-inside (rows_of d) strips i j h
    ∙ law.padding (row_owner (rows_of d) i) group col (row_place (rows_of d) i) j (record { row_in = row_owner-lt (rows_of d) i map; group_in = hg; i_in = row_place-lt (rows_of d) i map h; j_in = hj }) hc past)
    (λ (h : d.desc.m ≤ i). held-past (rows_of d) strips i j h)
    (cases_lt i d.desc.m)

factoring-none : (b : Bool) (n : ℕ) → n ≡ 0 → (if b then 0 else n) ≡ 0
factoring-none true n e = refl
factoring-none false n e = e

module _ (s : Setting) (base now : State) (t : ProductTask) (h : MayMultiplyMatrices s base t) (rest : IsRest s base) (a : Matrix) (m : IsMultiplied s base t.x a now) where
  abbrev x : GroupProduct
  x = t.x

  abbrev d : Layout
  d = layout_c x

  abbrev e : Layout
  e = layout_b x

  -- ---- what counts: nothing is being factored, under the last mark and the next one
  some_line : (line : ℕ) → is_live_matrix s base.mark line ≡ true → 0 < line
  some_line zero live = absurd (true≢false (sym (and_parts (is_matrix s 0) (has_ended base.mark 0) (and_parts (is_matrix s 0 && has_ended base.mark 0) _ live).0).0 ∙ h.scripted.no_line))
  some_line (suc n) live = omega arith

  not_factored : (line : ℕ) → 0 < line → is_factored_under s t.mark line ≡ false
  not_factored line some =
      and_right (nat_lt 0 line) _ (ap (λ n. n == line) (factoring-none t.mark.ended (factored s t.mark.line) h.plain) ∙ ne_eqb 0 line (λ z. omega (arith, some, z)))

  same : (line : ℕ) → 0 < line → CountsSame s base.mark t.mark line
  same line some = counts_same s base.mark t.mark h.rising h.follows_last line some (λ z. let none = h.plain in omega (arith, some, z, none))

  no_low : (line : ℕ) → 0 < line → (group : ℕ) → has_low s t.mark line group ≡ false
  no_low line some group = ap (λ b. b && nat_le t.mark.merged group) (not_factored line some)

  no_open : (line : ℕ) → 0 < line → has_open s t.mark line ≡ false
  no_open line some = ap (λ b. b && t.mark.opened) (not_factored line some)

  had_no_low : (line : ℕ) → 0 < line → (group : ℕ) → has_low s base.mark line group ≡ false
  had_no_low line some group = sym ((same line some).low group) ∙ no_low line some group

  had_no_open : (line : ℕ) (l : Layout) → 0 < line → (group : ℕ) → is_open_group s base.mark line l group ≡ false
  had_no_open line l some group = ap (λ b. b && (group == base.mark.closed / l.grid.q)) (sym (same line some).opens ∙ no_open line some)

  some_b : 0 < x.line_b
  some_b = some_line x.line_b h.live_b

  some_c : 0 < x.line_c
  some_c = some_line x.line_c h.live_c

  law_b : MatrixLaw s base base.mark x.line_b e
  law_b = subst (MatrixLaw s base base.mark x.line_b) h.lies_b (rest.law.matrices x.line_b h.live_b)

  law_c : MatrixLaw s base base.mark x.line_c d
  law_c = subst (MatrixLaw s base base.mark x.line_c) h.lies_c (rest.law.matrices x.line_c h.live_c)

  -- the group is one of B too
  group_b : x.group < group_count e
  group_b = subst (λ n. x.group < n) (sym (λ i. groups (h.aligned.columns i) (h.aligned.column_blocks i) x.grid.q)) h.group_in

  -- ---- the slots of the group
  data_slot : (line col : ℕ) → col < x.grid.q → strip_slot x line col ≡ slot_at Data line x.group
  data_slot line col hc = ap (λ b. slot_at (if b then Data else Code) line x.group) (lt-ltb col x.grid.q hc)

  code_slot : (line c : ℕ) → strip_slot x line (x.grid.q + c) ≡ slot_at Code line x.group
  code_slot line c = ap (λ b. slot_at (if b then Data else Code) line x.group) (le-ltb (x.grid.q + c) x.grid.q (omega arith))

  -- the words of the product with the slots by name
  made_at : (col i j : ℕ) (kind : SlotKind) → col < width x.grid → i < x.c.m → j < x.c.nb → ((line : ℕ) → strip_slot x line col ≡ slot_at kind line x.group)
      → slot_column now d col (slot_at kind x.line_c x.group) j i
      ≡ (x.alpha * sum_to x.a.n (λ q. entry a i q * slot_column base e col (slot_at kind x.line_b x.group) j q) + x.beta * slot_column base d col (slot_at kind x.line_c x.group) j i) % s.modulus
  made_at col i j kind hc hi hj slot =
      ap (λ z. slot_column now d col z j i) (sym (slot x.line_c))
      ∙ m.words col i j hc hi hj
      ∙ (λ k. (x.alpha * sum_to x.a.n (λ q. entry a i q * slot_column base e col (slot x.line_b k) j q) + x.beta * slot_column base d col (slot x.line_c k) j i) % s.modulus)

  -- ---- other groups
  other_group : (kind : SlotKind) (group : ℕ) → group ≢ x.group → is_strip_of_group x (slot_at kind x.line_c group) ≡ false
  other_group kind group ne = and_right ((same_kind kind Data || same_kind kind Code) && (x.line_c == x.line_c)) (group == x.group) (ne_eqb group x.group ne)

  data_kept : (rank group : ℕ) → group ≢ x.group → now.tiles rank (slot_at Data x.line_c group) ≡ base.tiles rank (slot_at Data x.line_c group)
  data_kept rank group ne = m.rest rank (slot_at Data x.line_c group) (other_group Data group ne) refl refl

  code_kept : (rank group : ℕ) → group ≢ x.group → now.tiles rank (slot_at Code x.line_c group) ≡ base.tiles rank (slot_at Code x.line_c group)
  code_kept rank group ne = m.rest rank (slot_at Code x.line_c group) (other_group Code group ne) refl refl

  data_same : (group j q i : ℕ) → group ≢ x.group → data_columns now x.line_c d group j q i ≡ data_columns base x.line_c d group j q i
  data_same group j q i ne = λ k. held (rows_of d) (λ row. words_of (data_kept (rank_at d.grid row q) group ne k)) i j

  code_same : (group c j i : ℕ) → group ≢ x.group → code_column now Code x.line_c d group c j i ≡ code_column base Code x.line_c d group c j i
  code_same group c j i ne = λ k. held (rows_of d) (λ row. words_of (code_kept (rank_at d.grid row (d.grid.q + c)) group ne k)) i j

  -- ---- shapes and padding
  data_strips : (row group col : ℕ) → row < d.grid.p → group < group_count d → col < d.grid.q → is_strip_of d row (now.tiles (rank_at d.grid row col) (slot_at Data x.line_c group)) ≡ true
  data_strips row group col hr hg hc =
      ⊎_elim
      (λ (is : group ≡ x.group).
      subst (λ g. is_strip_of d row (now.tiles (rank_at d.grid row col) (slot_at Data x.line_c g)) ≡ true) (sym is)
      (subst (λ z. is_strip_of d row (now.tiles (rank_at d.grid row col) z) ≡ true) (data_slot x.line_c col hc) (m.strips col row (omega (arith, hc)) hr)))
      (λ (ne : group ≡ x.group → ⊥). ap (is_strip_of d row) (data_kept (rank_at d.grid row col) group ne) ∙ law_c.data_strips row group col hr hg hc)
      (cases_eq group x.group)

  code_strips : (row group c : ℕ) → row < d.grid.p → group < group_count d → c < d.grid.f → is_strip_of d row (now.tiles (rank_at d.grid row (d.grid.q + c)) (slot_at Code x.line_c group)) ≡ true
  code_strips row group c hr hg hc =
      ⊎_elim
      (λ (is : group ≡ x.group).
      subst (λ g. is_strip_of d row (now.tiles (rank_at d.grid row (d.grid.q + c)) (slot_at Code x.line_c g)) ≡ true) (sym is)
      (subst (λ z. is_strip_of d row (now.tiles (rank_at d.grid row (d.grid.q + c)) z) ≡ true) (code_slot x.line_c c) (m.strips (x.grid.q + c) row (omega (arith, hc)) hr)))
      (λ (ne : group ≡ x.group → ⊥). ap (is_strip_of d row) (code_kept (rank_at d.grid row (d.grid.q + c)) group ne) ∙ law_c.code_strips row group c hr hg hc)
      (cases_eq group x.group)

  -- a column past C is one past B
  past_b : (col j : ℕ) → d.desc.n ≤ global_col d (block_at d x.group col) j → e.desc.n ≤ global_col e (block_at e x.group col) j
  past_b col j past =
      subst (λ (v : ℕ × ℕ × ℕ). v.0 ≤ block_in x.group col v.1 x.grid.q * v.2 + j) (sym (λ i. (h.aligned.columns i, h.aligned.column_source i, h.aligned.column_blocks i))) past

  own_padding : (row col i j : ℕ) → IsPlace d row x.group i j → col < d.grid.q → d.desc.n ≤ global_col d (block_at d x.group col) j → data_word now x.line_c d row x.group col i j ≡ 0
  own_padding row col i j place hc past =
      let map = row_map d h.on_grid.c in
      let r = row_at (rows_of d) row i in
      let hj : j < x.b.nb = subst (λ n. j < n) (sym h.aligned.column_blocks) place.j_in in
      sym (held-place (rows_of d) (strips_in (column_memory now d col) (slot_at Data x.line_c x.group)) row i j map place.row_in place.i_in)
      ∙ made_at col r j Data (omega (arith, hc)) (row_at-lt (rows_of d) row i map place.row_in place.i_in) place.j_in (λ line. data_slot line col hc)
      ∙ made-zero s.modulus x.alpha x.beta (data_columns base x.line_c d x.group j col r) x.a.n (entry a r) (data_columns base x.line_b e x.group j col) h.some_words
      (padded_column s base base.mark x.line_b e x.group col j h.on_grid.b law_b group_b hc hj (past_b col j past))
      (padded_column s base base.mark x.line_c d x.group col j h.on_grid.c law_c h.group_in hc place.j_in past r)

  padding : (row group col i j : ℕ) → IsPlace d row group i j → col < d.grid.q → d.desc.n ≤ global_col d (block_at d group col) j → data_word now x.line_c d row group col i j ≡ 0
  padding row group col i j place hc past =
      ⊎_elim
      (λ (is : group ≡ x.group).
      subst (λ g. data_word now x.line_c d row g col i j ≡ 0) (sym is)
      (own_padding row col i j (subst (λ g. IsPlace d row g i j) is place) hc (subst (λ g. d.desc.n ≤ global_col d (block_at d g col) j) is past)))
      (λ (ne : group ≡ x.group → ⊥). ap (λ o. entry (words_of o) i j) (data_kept (rank_at d.grid row col) group ne) ∙ law_c.padding row group col i j place hc past)
      (cases_eq group x.group)

  -- ---- sums
  other_summed : (group c j : ℕ) → group < group_count d → c < d.grid.f → j < d.desc.nb → group ≢ x.group → IsGroupSummed s now x.line_c d group c j
  other_summed group c j hg hc hj ne =
      let was : IsGroupSummed s base x.line_c d group c j =
      law-summed s base base.mark x.line_c d group c j h.on_grid.c law_c hg hc hj (had_no_low x.line_c some_c group) (had_no_open x.line_c d some_c group) in
      record {
        at = λ i.
            ap (λ z. z % s.modulus) (code_same group c j i ne)
            ∙ was.at i
            ∙ ap (λ z. z % s.modulus) (sum_to-same d.grid.q (λ q. weights s d c q * data_columns base x.line_c d group j q i) (λ q. weights s d c q * data_columns now x.line_c d group j q i)
            (λ q hq. ap (λ z. weights s d c q * z) (sym (data_same group j q i ne))));
      }

  own_summed : (c j : ℕ) → c < d.grid.f → j < d.desc.nb → IsGroupSummed s now x.line_c d x.group c j
  own_summed c j hc hj =
      let hb : j < x.b.nb = subst (λ n. j < n) (sym h.aligned.column_blocks) hj in
      let of_b : IsGroupSummed s base x.line_b e x.group c j =
      law-summed s base base.mark x.line_b e x.group c j h.on_grid.b law_b group_b hc hb (had_no_low x.line_b some_b x.group) (had_no_open x.line_b e some_b x.group) in
      let of_c : IsGroupSummed s base x.line_c d x.group c j =
      law-summed s base base.mark x.line_c d x.group c j h.on_grid.c law_c h.group_in hc hj (had_no_low x.line_c some_c x.group) (had_no_open x.line_c d some_c x.group) in
      weighted-rows s.modulus d.grid.q d.desc.m (weights s d c)
      (λ q i. (x.alpha * sum_to x.a.n (λ k. entry a i k * data_columns base x.line_b e x.group j q k) + x.beta * data_columns base x.line_c d x.group j q i) % s.modulus)
      (data_columns now x.line_c d x.group j)
      (λ i. (x.alpha * sum_to x.a.n (λ k. entry a i k * code_column base Code x.line_b e x.group c j k) + x.beta * code_column base Code x.line_c d x.group c j i) % s.modulus)
      (code_column now Code x.line_c d x.group c j)
      (made-weighted s.modulus d.grid.q (weights s d c) (data_columns base x.line_c d x.group j) (data_columns base x.line_b e x.group j) (code_column base Code x.line_c d x.group c j) (code_column base Code x.line_b e x.group c j) x.alpha x.beta (entry a) x.a.n of_c of_b)
      (λ i hi. made_at (x.grid.q + c) i j Code (omega (arith, hc)) hi hj (λ line. code_slot line c))
      (λ q i hq hi. made_at q i j Data (omega (arith, hq)) hi hj (λ line. data_slot line q hq))
      (λ i past. held-past (rows_of d) (strips_in (column_memory now d (d.grid.q + c)) (slot_at Code x.line_c x.group)) i j past)
      (λ q i hq past. held-past (rows_of d) (strips_in (column_memory now d q) (slot_at Data x.line_c x.group)) i j past)

  summed : (group c j : ℕ) → group < group_count d → c < d.grid.f → j < d.desc.nb → IsGroupSummed s now x.line_c d group c j
  summed group c j hg hc hj =
      ⊎_elim
      (λ (is : group ≡ x.group). subst (λ g. IsGroupSummed s now x.line_c d g c j) (sym is) (own_summed c j hc hj))
      (λ (ne : group ≡ x.group → ⊥). other_summed group c j hg hc hj ne)
      (cases_eq group x.group)

  -- ---- the law of C
  strips : AreStrips s now t.mark x.line_c d
  strips = record {
    data_strips = data_strips;
    code_strips = code_strips;
    low_strips = λ row group c hr hg hc low. absurd (true≢false (sym low ∙ no_low x.line_c some_c group));
    open_strips = λ row c hr hc opens. absurd (true≢false (sym opens ∙ no_open x.line_c some_c));
    padding = padding;
  }

  coded : AreCoded s now t.mark x.line_c d
  coded = record {
    coded = λ group c j hg hc hj low. absurd (true≢false (sym low ∙ no_low x.line_c some_c group));
    summed = λ group c j hg hc hj low. summed group c j hg hc hj;
    opened_unmerged = λ group opens. absurd (true≢false (sym (and_parts (has_open s t.mark x.line_c) _ opens).0 ∙ no_open x.line_c some_c));
  }

  own_law : MatrixLaw s now t.mark x.line_c (layout s x.line_c)
  own_law = subst (MatrixLaw s now t.mark x.line_c) (sym h.lies_c) (coded-law s now t.mark x.line_c d h.on_grid.c strips coded)

  -- ---- all others
  abbrev own : ℕ → Bool
  own line = (line == t.mark.line) || (line == x.line_c)

  kept : (rank : ℕ) (slot : Slot) → own slot.id ≡ false → is_live s t.mark rank slot ≡ true → now.tiles rank slot ≡ base.tiles rank slot
  kept rank slot other live =
      m.rest rank slot
      (ap (λ b. b && (slot.group == x.group)) (and_right (same_kind slot.kind Data || same_kind slot.kind Code) (slot.id == x.line_c) (or_parts (slot.id == t.mark.line) (slot.id == x.line_c) other).1))
      (no_work 0) (no_work 1)
    where
      no_work : (n : ℕ) → same_slot slot (work n) ≡ false
      no_work n = false_from_ne_true (same_slot slot (work n)) (λ u. true≢false (sym live ∙ ap (is_live s t.mark rank) (same_slot-true slot (work n) u)))

  matrices : (line : ℕ) → own line ≡ true → is_live_matrix s t.mark line ≡ true → MatrixLaw s now t.mark line (layout s line)
  matrices line is live =
      ⊎_elim
      (λ (here : (line == t.mark.line) ≡ true).
      absurd (true≢false (sym (and_parts (is_matrix s line) (has_ended t.mark line) (and_parts (is_matrix s line && has_ended t.mark line) _ live).0).0 ∙ ap (is_matrix s) (eqb-true line t.mark.line here) ∙ h.no_matrix)))
      (λ (here : (line == x.line_c) ≡ true). subst (λ l. MatrixLaw s now t.mark l (layout s l)) (sym (eqb-true line x.line_c here)) own_law)
      (or_cases (line == t.mark.line) (line == x.line_c) is)

  no_list : (line : ℕ) → own line ≡ true → factored s line ≡ 0
  no_list line is =
      ⊎_elim
      (λ (here : (line == t.mark.line) ≡ true). ap (factored s) (eqb-true line t.mark.line here) ∙ h.plain)
      (λ (here : (line == x.line_c) ≡ true). ap (factored s) (eqb-true line x.line_c here) ∙ h.plain_c)
      (or_cases (line == t.mark.line) (line == x.line_c) is)

  law : CodeLaw s now t.mark
  law =
      CodeLaw-next_mark s base now t.mark own h.scripted h.rising h.follows_last rest.law
      (ap (λ b. b || (t.mark.line == x.line_c)) (eq-eqb t.mark.line t.mark.line refl))
      (λ some. absurd (let none = h.plain in omega (arith, some, none)))
      kept matrices
      (λ line is live.
      let some = ltb-true 0 (factored s line) (and_parts (nat_lt 0 (factored s line)) _ (and_parts (nat_lt 0 (factored s line) && _) _ live).0).0 in
      absurd (let none = no_list line is in omega (arith, some, none)))

-- After the round the code law holds under the next mark.
pub product_law : (s : Setting) (base now : State) (t : ProductTask) → MayMultiplyMatrices s base t → IsRest s base → (a : Matrix) → HasShape (layout_a t.x) a → HoldsGroups base (layout_a t.x) t.x.line_a a
    → IsMultiplied s base t.x a now → CodeLaw s now t.mark
product_law s base now t h rest a shape holds m = law s base now t h rest a m
