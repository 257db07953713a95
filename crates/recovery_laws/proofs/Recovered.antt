-- Where the live slots are equal kind by kind, all live slots are.
use Rattle.std.proofs.Common.{◌≡◌, ℕ, ◌+◌, ◌-◌, ◌*◌, ◌/◌, ◌<◌, ◌≤◌, ◌&&◌, ◌==◌, true, nat_lt, nat_le, min, refl, sym, ◌∙◌, ap, subst, arith, inl, inr}
use Rattle.std.proofs.lemmas.Bool.{cases_Bool, cases_lt, and_parts, and_from, both_ways, le-ltb, lt-leb, eqb-true, eq-eqb}
use Rattle.array_desc.proofs.GroupLaws.{ceil_div-part, part-ceil_div, group_of-lt}
use Rattle.blacs_grid.specs.declared.Grid.{Grid}
use Rattle.blacs_grid.specs.Limits.{IsGrid}
use Rattle.blacs_grid.specs.Places.{width, size, rank_at, row_of, col_of, is_member, is_data_rank, is_code_rank}
use Rattle.blacs_grid.proofs.PlaceLaws.{width-pos, row_of-lt, col_of-lt, rank_at-coords, is_member-begins, is_member-ends}
use Rattle.rank_machine.specs.declared.slot.SlotKind.{SlotKind}
use Rattle.rank_machine.specs.declared.slot.SlotKind.TheVariants.{Data, Code, Low, Open, Pivots, Work}
use Rattle.rank_machine.specs.declared.mark.Mark.{Mark}
use Rattle.rank_machine.specs.Setting.{Setting, layout, factored, group_count, panels, blocks, block_at}
use Rattle.rank_machine.specs.State.{State}
use Rattle.rank_machine.specs.Effect.{is_live_matrix, is_live_list, factoring, is_live_kind}
use Rattle.rank_machine.specs.CodeLaw.{slot_at, has_low, has_open}
use Rattle.recovery_laws.specs.Recovery.{is_closed_block}
use Rattle.recovery_laws.specs.Healed.{HoldAlike, IsMarkOf, IsSensible, AreRebuilt}

less : (a b : ℕ) → nat_lt a b ≡ true → a < b
less a b e = elim (cases_lt a b) [ inl below ↦ below | inr above ↦ absurd (both_ways (nat_lt a b) (le-ltb a b above) e) ]

at_least : (a b : ℕ) → nat_le a b ≡ true → a ≤ b
at_least a b e = elim (cases_lt b a) [ inl below ↦ absurd (both_ways (nat_le a b) (lt-leb a b below) e) | inr above ↦ above ]

-- the matrix that is being factored is live
factoring_live : (s : Setting) (mark : Mark) (line : ℕ) → IsSensible s → (factoring s mark == line) ≡ true → 0 < line → (is_live_matrix s mark line ≡ true) × (factored s mark.line ≡ line)
factoring_live s mark line sensible e some =
    let is : factoring s mark ≡ line = eqb-true (factoring s mark) line e in
    elim (cases_Bool mark.ended) [
      | inl ended ↦ (let none : factoring s mark ≡ 0 = rw ended refl in absurd (omega arith))
      | inr going ↦
          (let same : factoring s mark ≡ factored s mark.line = rw going refl in
          let at : factored s mark.line ≡ line = sym same ∙ is in
          (subst (λ n. is_live_matrix s mark n ≡ true) at (sensible.factors_live mark going (omega arith)), at))
    ]

-- the open panel's group is one of the matrix
pub open-group : (s : Setting) (mark : Mark) (line : ℕ) → IsSensible s → IsMarkOf s mark → has_open s mark line ≡ true → mark.closed / (layout s line).grid.q < group_count (layout s line)
open-group s mark line sensible fit opened =
    let d = layout s line in
    let p = and_parts (nat_lt 0 line && (factoring s mark == line)) mark.opened opened in
    let here = and_parts (nat_lt 0 line) (factoring s mark == line) p.0 in
    let at : factored s mark.line ≡ line = (factoring_live s mark line sensible here.1 (less 0 line here.0)).1 in
    let panel : mark.closed < panels d = subst (λ n. mark.closed < panels (layout s n)) at (fit.fit.opened p.1) in
    let some_nb : 0 < d.desc.nb = omega (arith, (sensible.descs line).some_block_columns) in
    let inside : mark.closed * d.desc.nb < min d.desc.m d.desc.n = ceil_div-part mark.closed (min d.desc.m d.desc.n) d.desc.nb some_nb panel in
    group_of-lt mark.closed d.desc.n d.desc.nb d.grid.q (omega (arith, (sensible.grids line).some_columns)) (part-ceil_div mark.closed d.desc.n d.desc.nb some_nb (omega arith))

-- a block column of a closed panel is one of the matrix
pub closed-block : (s : Setting) (mark : Mark) (line group col : ℕ) → IsSensible s → IsMarkOf s mark → is_closed_block s mark line (layout s line) group col ≡ true → block_at (layout s line) group col < blocks (layout s line)
closed-block s mark line group col sensible fit closed =
    let d = layout s line in
    let p = and_parts (has_low s mark line group) (nat_lt (block_at d group col) mark.closed) closed in
    let low = and_parts (nat_lt 0 line && (factoring s mark == line)) (nat_le mark.merged group) p.0 in
    let here = and_parts (nat_lt 0 line) (factoring s mark == line) low.0 in
    let at : factored s mark.line ≡ line = (factoring_live s mark line sensible here.1 (less 0 line here.0)).1 in
    let few : mark.closed ≤ panels d = subst (λ n. mark.closed ≤ panels (layout s n)) at fit.fit.closed in
    let block = block_at d group col in
    let before : block < mark.closed = less block mark.closed p.1 in
    let some_nb : 0 < d.desc.nb = omega (arith, (sensible.descs line).some_block_columns) in
    let inside : block * d.desc.nb < min d.desc.m d.desc.n = ceil_div-part block (min d.desc.m d.desc.n) d.desc.nb some_nb (omega arith) in
    part-ceil_div block d.desc.n d.desc.nb some_nb (omega arith)

-- a data rank, and a code rank, by its row and column
data_place : (g : Grid) (rank : ℕ) → IsGrid g → is_data_rank g rank ≡ true → (row_of g rank < g.p) × (col_of g rank < g.q) × (rank_at g (row_of g rank) (col_of g rank) ≡ rank)
data_place g rank grid is =
    let p = and_parts (is_member g rank) (nat_lt (col_of g rank) g.q) is in
    (row_of-lt g rank (width-pos g grid) p.0, less (col_of g rank) g.q p.1, rank_at-coords g rank p.0)

code_place : (g : Grid) (rank : ℕ) → IsGrid g → is_code_rank g rank ≡ true → (row_of g rank < g.p) × (col_of g rank - g.q < g.f) × (rank_at g (row_of g rank) (g.q + (col_of g rank - g.q)) ≡ rank)
code_place g rank grid is =
    let p = and_parts (is_member g rank) (nat_le g.q (col_of g rank)) is in
    let from : g.q ≤ col_of g rank = at_least g.q (col_of g rank) p.1 in
    let wide : col_of g rank < width g = col_of-lt g rank (width-pos g grid) in
    let at : g.q + (col_of g rank - g.q) ≡ col_of g rank = omega arith in
    (row_of-lt g rank (width-pos g grid) p.0, omega arith, ap (λ c. rank_at g (row_of g rank) c) at ∙ rank_at-coords g rank p.0)

module _ (s : Setting) (mark : Mark) (st now : State) (sensible : IsSensible s) (fit : IsMarkOf s mark) (rebuilt : AreRebuilt s mark st now) where
  by_kind : (rank : ℕ) (kind : SlotKind) (line group : ℕ) → is_live_kind s mark rank (slot_at kind line group) kind ≡ true → now.tiles rank (slot_at kind line group) ≡ st.tiles rank (slot_at kind line group)
  by_kind rank Data line group live =
      let d = layout s line in
      let p = and_parts (is_data_rank d.grid rank && nat_lt group (group_count d)) (is_live_matrix s mark line) live in
      let q = and_parts (is_data_rank d.grid rank) (nat_lt group (group_count d)) p.0 in
      let at = data_place d.grid rank (sensible.grids line) q.0 in
      subst (λ r. now.tiles r (slot_at Data line group) ≡ st.tiles r (slot_at Data line group)) at.2
      (rebuilt.data_strips line (row_of d.grid rank) group (col_of d.grid rank) p.1 at.0 (less group (group_count d) q.1) at.1)
  by_kind rank Code line group live =
      let d = layout s line in
      let p = and_parts (is_code_rank d.grid rank && nat_lt group (group_count d)) (is_live_matrix s mark line) live in
      let q = and_parts (is_code_rank d.grid rank) (nat_lt group (group_count d)) p.0 in
      let at = code_place d.grid rank (sensible.grids line) q.0 in
      subst (λ r. now.tiles r (slot_at Code line group) ≡ st.tiles r (slot_at Code line group)) at.2
      (rebuilt.code_strips line (row_of d.grid rank) group (col_of d.grid rank - d.grid.q) p.1 at.0 (less group (group_count d) q.1) at.1)
  by_kind rank Low line group live =
      let d = layout s line in
      let p = and_parts (is_code_rank d.grid rank && nat_lt group (group_count d)) ((nat_lt 0 line && (factoring s mark == line)) && nat_le mark.merged group) live in
      let q = and_parts (is_code_rank d.grid rank) (nat_lt group (group_count d)) p.0 in
      let t = and_parts (nat_lt 0 line && (factoring s mark == line)) (nat_le mark.merged group) p.1 in
      let u = and_parts (nat_lt 0 line) (factoring s mark == line) t.0 in
      let at = code_place d.grid rank (sensible.grids line) q.0 in
      subst (λ r. now.tiles r (slot_at Low line group) ≡ st.tiles r (slot_at Low line group)) at.2
      (rebuilt.low_strips line (row_of d.grid rank) group (col_of d.grid rank - d.grid.q) (factoring_live s mark line sensible u.1 (less 0 line u.0)).0 at.0 (less group (group_count d) q.1) at.1 p.1)
  by_kind rank Open line group live =
      let d = layout s line in
      let p = and_parts (is_code_rank d.grid rank && (group == 0)) ((nat_lt 0 line && (factoring s mark == line)) && mark.opened) live in
      let q = and_parts (is_code_rank d.grid rank) (group == 0) p.0 in
      let t = and_parts (nat_lt 0 line && (factoring s mark == line)) mark.opened p.1 in
      let u = and_parts (nat_lt 0 line) (factoring s mark == line) t.0 in
      let some : 0 < line = less 0 line u.0 in
      let opened : has_open s mark line ≡ true = p.1 in
      let at = code_place d.grid rank (sensible.grids line) q.0 in
      let g = mark.closed / d.grid.q in
      subst (λ n. now.tiles rank (slot_at Open line n) ≡ st.tiles rank (slot_at Open line n)) (sym (eqb-true group 0 q.1))
      (subst (λ r. now.tiles r (slot_at Open line 0) ≡ st.tiles r (slot_at Open line 0)) at.2
      (rebuilt.open_strips line (row_of d.grid rank) g (col_of d.grid rank - d.grid.q) (factoring_live s mark line sensible u.1 some).0 at.0 (open-group s mark line sensible fit opened) at.1
      (and_from (has_open s mark line) (g == g) opened (eq-eqb g g refl))))
  by_kind rank Pivots line group live =
      let d = layout s (factored s line) in
      let p = and_parts (is_member d.grid rank && (group == 0)) (is_live_list s mark line) live in
      let q = and_parts (is_member d.grid rank) (group == 0) p.0 in
      let from : d.grid.first ≤ rank = is_member-begins d.grid rank q.0 in
      let before : rank < d.grid.first + size d.grid = is_member-ends d.grid rank q.0 in
      let at : d.grid.first + (rank - d.grid.first) ≡ rank = omega arith in
      subst (λ n. now.tiles rank (slot_at Pivots line n) ≡ st.tiles rank (slot_at Pivots line n)) (sym (eqb-true group 0 q.1))
      (subst (λ r. now.tiles r (slot_at Pivots line 0) ≡ st.tiles r (slot_at Pivots line 0)) at (rebuilt.lists line (rank - d.grid.first) p.1 (omega arith)))
  by_kind rank Work line group live = absurd (cc)

  pub rebuilt-alike : HoldAlike s mark st now
  rebuilt-alike = record { same = λ rank slot live. by_kind rank slot.kind slot.id slot.group live }
