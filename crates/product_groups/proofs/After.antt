-- What a phase for one group of a product leaves of all that is live: but for that group of C it is as it was.
use Rattle.std.proofs.Common.{◌≡◌, ◌≢◌, ◌<◌, ◌==◌, ◌&&◌, ◌||◌, ◌∙◌, nat_lt, ℕ, true, false, List, sym, subst}
use Rattle.std.proofs.lemmas.Bool.{and_parts, and_from, eqb-true, lt-ltb, false_from_ne_true}
use Rattle.run_data.specs.Matrix.{Matrix}
use Rattle.array_desc.specs.Maps.{groups}
use Rattle.blacs_grid.specs.Places.{rank_at, is_data_rank}
use Rattle.blacs_grid.proofs.PlaceLaws.{is_data_rank-rank_at}
use Rattle.rank_machine.specs.declared.mark.Mark.{Mark}
use Rattle.rank_machine.specs.declared.slot.Slot.{Slot}
use Rattle.rank_machine.specs.declared.slot.SlotKind.TheVariants.{Data, Code}
use Rattle.rank_machine.specs.declared.layout.Layout.{Layout}
use Rattle.rank_machine.specs.Setting.{Setting, layout, group_count}
use Rattle.rank_machine.specs.State.{State, Took, same_kind}
use Rattle.rank_machine.specs.Effect.{is_live_matrix, is_live}
use Rattle.rank_machine.specs.CodeLaw.{slot_at}
use Rattle.serial_model.specs.Solves.{product_of}
use Rattle.phase_frames.specs.Groups.{HoldsGroup}
use Rattle.product_rounds.specs.declared.rounds.GroupProduct.{GroupProduct}
use Rattle.product_laws.specs.Held.{HoldsGroups}
use Rattle.product_laws.specs.Multiplying.{layout_a, layout_b, layout_c, is_strip_of_group, product_task, HaveShapes, HasMultiplied}
use Rattle.line_phases.proofs.StillStands.{KeepsTiles}
use Rattle.product_groups.specs.Groups.{at_group, MayMultiplyLine}

-- C has as many groups as B
pub count-b : (s : Setting) (x : GroupProduct) (line : ℕ) → MayMultiplyLine s x line → group_count (layout_b x) ≡ group_count (layout_c x)
count-b s x line asks = λ i. groups (asks.aligned.columns i) (asks.aligned.column_blocks i) x.grid.q

-- ---- slots that are no strip of the group
other-matrix : (x : GroupProduct) (group : ℕ) (slot : Slot) → slot.id ≢ x.line_c → is_strip_of_group (at_group x group) slot ≡ false
other-matrix x group slot other =
    let kinds = same_kind slot.kind Data || same_kind slot.kind Code in
    false_from_ne_true (is_strip_of_group (at_group x group) slot)
    (λ t. other (eqb-true slot.id x.line_c (and_parts kinds (slot.id == x.line_c) (and_parts (kinds && (slot.id == x.line_c)) (slot.group == group) t).0).1))

other-group : (x : GroupProduct) (group : ℕ) (slot : Slot) → slot.group ≢ group → is_strip_of_group (at_group x group) slot ≡ false
other-group x group slot other =
    let kinds = same_kind slot.kind Data || same_kind slot.kind Code in
    false_from_ne_true (is_strip_of_group (at_group x group) slot) (λ t. other (eqb-true slot.group group (and_parts (kinds && (slot.id == x.line_c)) (slot.group == group) t).1))

-- a data strip of a live matrix is live
strip-live : (s : Setting) (mark : Mark) (line : ℕ) (d : Layout) (group row col : ℕ) → layout s line ≡ d → is_live_matrix s mark line ≡ true → group < group_count d → row < d.grid.p → col < d.grid.q
    → is_live s mark (rank_at d.grid row col) (slot_at Data line group) ≡ true
strip-live s mark line d group row col lies live inside hr hc =
    subst (λ (e : Layout). ((is_data_rank e.grid (rank_at d.grid row col) && nat_lt group (group_count e)) && is_live_matrix s mark line) ≡ true) (sym lies)
    (and_from (is_data_rank d.grid (rank_at d.grid row col) && nat_lt group (group_count d)) (is_live_matrix s mark line)
    (and_from (is_data_rank d.grid (rank_at d.grid row col)) (nat_lt group (group_count d)) (is_data_rank-rank_at d.grid row col hr hc) (lt-ltb group (group_count d) inside)) live)

module _ (s : Setting) (base : State) (x : GroupProduct) (group : ℕ) (mark : Mark) (takes : List Took) (new : State) (made : HasMultiplied s base (product_task (at_group x group) mark) takes new) where
  -- all slots of another line
  pub keeps-line : (at : ℕ) → at ≢ x.line_c → KeepsTiles s mark base new at
  keeps-line at other rank slot of live = made.rest rank slot (other-matrix x group slot (λ same. other (sym of ∙ same))) live

  -- the groups of another matrix, and the other groups of C
  pub keeps-matrix : (line : ℕ) (d : Layout) (m : Matrix) (g : ℕ) → layout s line ≡ d → is_live_matrix s mark line ≡ true → g < group_count d → line ≢ x.line_c → HoldsGroup base d line m g → HoldsGroup new d line m g
  keeps-matrix line d m g lies live inside other h row col hr hc =
      made.rest (rank_at d.grid row col) (slot_at Data line g) (other-matrix x group (slot_at Data line g) other) (strip-live s mark line d g row col lies live inside hr hc) ∙ h row col hr hc

  pub keeps-group : (line : ℕ) (d : Layout) (m : Matrix) (g : ℕ) → layout s line ≡ d → is_live_matrix s mark line ≡ true → g < group_count d → g ≢ group → HoldsGroup base d line m g → HoldsGroup new d line m g
  keeps-group line d m g lies live inside other h row col hr hc =
      made.rest (rank_at d.grid row col) (slot_at Data line g) (other-group x group (slot_at Data line g) other) (strip-live s mark line d g row col lies live inside hr hc) ∙ h row col hr hc

  -- the group itself
  pub makes-group : (a b c : Matrix) → HoldsGroups base (layout_a x) x.line_a a → HoldsGroup base (layout_b x) x.line_b b group → HoldsGroup base (layout_c x) x.line_c c group → HaveShapes x a b c
      → HoldsGroup new (layout_c x) x.line_c (product_of s.modulus x.alpha a b x.beta c) group
  makes-group a b c first second third shapes = made.product a b c first second third (record { a = shapes.a; b = shapes.b; c = shapes.c })
