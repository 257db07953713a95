-- The steps of the phase of a group of a product: it begins, the group is multiplied, and it ends.
use Rattle.std.proofs.Common.{◌≡◌, ◌+◌, ◌<◌, ℕ, zero, suc, Option, refl, sym, ap, subst, ◌∙◌, arith}
use Rattle.run_data.specs.Matrix.{Matrix, entry}
use Rattle.rank_machine.specs.declared.slot.Tile.{Tile}
use Rattle.rank_machine.specs.Setting.{Setting}
use Rattle.rank_machine.specs.State.{State}
use Rattle.rank_machine.specs.Effect.{replay}
use Rattle.round_laws.specs.Turns.{IsQuiet, held_on}
use Rattle.run_laws.specs.LastCommit.{IsRest}
use Rattle.dist_matrix.specs.Strips.{HasShape}
use Rattle.phases.specs.declared.phase.Next.TheVariants as n
use Rattle.phases.specs.Plans.{CanStart, GoesOn, after_next, saves}
use Rattle.product_rounds.specs.declared.rounds.GroupProduct.{GroupProduct}
use Rattle.product_rounds.specs.Rounds.{IsOnGrid, block_width, group_events}
use Rattle.product_rounds.specs.Standing.{left_words, right_words}
use Rattle.product_rounds.specs.Groups.{MayMultiplyGroup, CanMultiplyGroup}
use Rattle.product_rounds.proofs.Group.{group_legal}
use Rattle.product_laws.specs.Held.{HoldsGroups}
use Rattle.product_laws.specs.Multiplying.{ProductTask, MayMultiplyMatrices, HasSaved, IsMultiplied, words_b, words_c, layout_a, saved_state, multiplied_state, round_records, product_answer, product_progress, product_plan, ProductStands}
use Rattle.product_laws.proofs.Saving.{saves_count, has_saved, saved_quiet}
use Rattle.product_laws.proofs.Counting.{round_steps, round_within}
use Rattle.product_laws.proofs.Standing.{may_group, can_group}
use Rattle.product_laws.proofs.Words.{round_adds}
use Rattle.product_laws.proofs.Law.{product_law}
use Rattle.product_laws.proofs.After.{is_multiplied}
use Rattle.product_laws.proofs.Effect.{product_effect}

-- after the saves
pub product_begins : (s : Setting) (base : State) (t : ProductTask) → ProductStands t 0 s base (replay s base (saves (product_plan t).listed))
product_begins s base t = refl

-- what an answer makes of the progress
pub product_progresses : (K : Type 0) (x : GroupProduct) (line calls : ℕ) (taken : Option Tile) → IsOnGrid x → calls < 2
    → product_progress x (calls + 1) ≡ after_next {K = K} line (product_progress x calls) taken (product_answer x calls)
product_progresses K x line zero taken on lt =
    let count : round_records x ≡ (product_progress x 0).records + round_records x = omega arith in
    λ i. record (product_progress x 1) { records = (count ∙ ap (λ m. (product_progress x 0).records + m) (sym (round_steps x on))) i }
product_progresses K x line (suc zero) taken on lt =
    let count : round_records x ≡ round_records x + 0 = omega arith in
    λ i. record (product_progress x 2) { records = count i }
product_progresses K x line (suc (suc calls)) taken on lt = absurd (omega (arith, lt))

module _ (s : Setting) (base : State) (t : ProductTask) (start : CanStart (product_plan t) s base) where
  abbrev x : GroupProduct
  x = t.x

  abbrev saved : State
  saved = saved_state s base x

  abbrev may : MayMultiplyMatrices s base t
  may = start.may

  abbrev rest : IsRest s base
  rest = start.rest

  abbrev a : Matrix
  a = may.holds_a.matrix

  hs : HasSaved base x saved
  hs = has_saved s base t may rest

  quiet : IsQuiet s saved
  quiet = saved_quiet s base saved t may rest hs

  may_now : MayMultiplyGroup s saved x
  may_now = may_group s base saved t may rest hs

  can_now : (m : Matrix) → HasShape (layout_a x) m → HoldsGroups base (layout_a x) x.line_a m
      → CanMultiplyGroup x (left_words x (entry m)) (block_width x) (right_words x (words_b base x)) (words_c base x) (held_on saved x.grid)
  can_now m shape held = can_group s base saved t may rest hs m shape held

  made : (m : Matrix) → HasShape (layout_a x) m → HoldsGroups base (layout_a x) x.line_a m → IsMultiplied s base x m (multiplied_state s base x)
  made m shape held = is_multiplied s base saved t may rest hs quiet m may_now (can_now m shape held)

  pub round_goes : {K : Type 0} → GoesOn {K = K} (product_plan t) (ProductStands t 1) (product_progress x 1) s base saved (n.Round (group_events x))
  round_goes {K} = record {
    goes = record {
      brings = round_within s x may.on_grid may.of;
      legal = group_legal s saved x (left_words x (entry a)) (block_width x) (right_words x (words_b base x)) (words_c base x) quiet may_now (can_now a may.holds_a.shape may.holds_a.groups);
      words = round_adds s base saved t may rest hs;
      stands = refl;
      nexts = omega arith;
    };
    few = let count = saves_count x in omega (arith, count);
  }

  pub end_goes : {K : Type 0} → GoesOn {K = K} (product_plan t) (ProductStands t 2) (product_progress x 2) s base (multiplied_state s base x) n.End
  end_goes {K} = record {
    goes = record {
      law = product_law s base (multiplied_state s base x) t may rest a may.holds_a.shape may.holds_a.groups (made a may.holds_a.shape may.holds_a.groups);
      effect = product_effect s base saved t may rest hs made;
    };
    few = let count = saves_count x in omega (arith, count);
  }

-- each answer
pub product_goes_on : {K : Type 0} (t : ProductTask) (calls : ℕ) (s : Setting) (base now : State) → calls < 2 → CanStart (product_plan t) s base → ProductStands t calls s base now
    → GoesOn {K = K} (product_plan t) (ProductStands t (calls + 1)) (product_progress t.x (calls + 1)) s base now (product_answer t.x calls)
product_goes_on {K} t zero s base now lt start stands =
    subst (λ st. GoesOn {K = K} (product_plan t) (ProductStands t 1) (product_progress t.x 1) s base st (n.Round (group_events t.x))) (sym stands) (round_goes s base t start {K = K})
product_goes_on {K} t (suc zero) s base now lt start stands =
    subst (λ st. GoesOn {K = K} (product_plan t) (ProductStands t 2) (product_progress t.x 2) s base st n.End) (sym stands) (end_goes s base t start {K = K})
product_goes_on {K} t (suc (suc calls)) s base now lt start stands = absurd (omega (arith, lt))
