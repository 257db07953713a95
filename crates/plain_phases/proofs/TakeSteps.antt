-- The takes of a phase, one after another.
use Rattle.std.proofs.Common.{◌≡◌, ℕ, zero, suc, ◌+◌, ◌-◌, ◌<◌, ◌≤◌, nat_lt, List, [], ◌∷◌, ◌++◌, length, map, take, slice_get, true, false, Option, Some, None, is_some, refl, sym, ◌∙◌, ap, subst, arith, append-nil, IsTrue, ◌==◌, ◌&&◌}
use Rattle.std.proofs.lemmas.Bool.{true≢false, and_parts, eqb-true}
use Rattle.rank_machine.specs.declared.mark.Mark.{Mark}
use Rattle.rank_machine.specs.declared.slot.Slot.{Slot}
use Rattle.rank_machine.specs.declared.slot.Tile.{Tile}
use Rattle.rank_machine.specs.declared.record.Rec.TheVariants as r
use Rattle.rank_machine.specs.Setting.{Setting}
use Rattle.rank_machine.specs.State.{State, Took}
use Rattle.rank_machine.specs.Effect.{after, current}
use Rattle.rank_machine.specs.Marks.{follows}
use Rattle.rank_machine.specs.CodeLaw.{CodeLaw}
use Rattle.rank_machine.specs.Legal.{IsTake}
use Rattle.run_laws.proofs.CodeLaws.{CodeLaw-tiles}
use Rattle.phases.specs.Plans.{CanStart, took_with, handed, GoesOn}
use Rattle.plain_phases.specs.declared.taking.Got.{Got}
use Rattle.plain_phases.specs.Rooms.{adds_nothing}
use Rattle.plain_phases.specs.Taking.{TakeTask, AreTakable, takes_of, take_plan, take_progress, took_from, asked_after, answer_of, with_taken, TakeStands}

same_some : {X : Type 0} (x y : X) → Some x ≡ Some y → x ≡ y
same_some x y e = cc

no_none : {X : Type 0} (x : X) → ◌≡◌ {A = Option X} None (Some x) → ⊥
no_none x e = cc

abbrev one : ℕ → State → ℕ × Slot → Took
one line base p = record { line = line; rank = p.0; slot = p.1; tile = base.tiles p.0 p.1 }

takes_more : (line : ℕ) (base : State) (ps : List (ℕ × Slot)) (k : ℕ) (p : ℕ × Slot) → slice_get ps k ≡ Some p → takes_of line base (take (suc k) ps) ≡ takes_of line base (take k ps) ++ one line base p ∷ []
takes_more line base [] k p e = absurd (no_none p e)
takes_more line base (q ∷ ps) zero p e = ap (λ (x : ℕ × Slot). one line base x ∷ []) (same_some q p e)
takes_more line base (q ∷ ps) (suc k) p e = ap (λ ts. one line base q ∷ ts) (takes_more line base ps k p e)

takes_end : (line : ℕ) (base : State) (ps : List (ℕ × Slot)) (k : ℕ) → slice_get ps k ≡ None → takes_of line base (take k ps) ≡ takes_of line base ps
takes_end line base [] zero e = refl
takes_end line base [] (suc k) e = refl
takes_end line base (q ∷ ps) zero e = absurd (no_none q (sym e))
takes_end line base (q ∷ ps) (suc k) e = ap (λ ts. one line base q ∷ ts) (takes_end line base ps k e)

may_take_one : (s : Setting) (base : State) (ps : List (ℕ × Slot)) (k : ℕ) (p : ℕ × Slot) → slice_get ps k ≡ Some p → AreTakable s base ps → IsTake s base p.0 p.1
may_take_one s base [] k p e h = absurd (no_none p e)
may_take_one s base (q ∷ ps) zero p e h = subst (λ (x : ℕ × Slot). IsTake s base x.0 x.1) (same_some q p e) h.0
may_take_one s base (q ∷ ps) (suc k) p e h = may_take_one s base ps k p e h.1

-- a place within a list has an element
there : (ps : List (ℕ × Slot)) (k : ℕ) → k < length ps → (p : ℕ × Slot) × (slice_get ps k ≡ Some p)
there [] k lt = absurd (omega arith)
there (q ∷ ps) zero lt = (q, refl)
there (q ∷ ps) (suc k) lt = there ps k (omega arith)

within : (ps : List (ℕ × Slot)) (k : ℕ) (p : ℕ × Slot) → slice_get ps k ≡ Some p → k < length ps
within [] k p e = absurd (no_none p e)
within (q ∷ ps) zero p e = omega arith
within (q ∷ ps) (suc k) p e = omega (arith, within ps k p e)

past : (ps : List (ℕ × Slot)) (k : ℕ) → slice_get ps k ≡ None → length ps ≤ k
past [] k e = omega arith
past (q ∷ ps) zero e = absurd (no_none q (sym e))
past (q ∷ ps) (suc k) e = omega (arith, past ps k e)

took_here : (line : ℕ) (p : ℕ × Slot) (tile held : Option Tile) → tile ≡ held → is_some held ≡ true → took_with line (Some p) tile ≡ (record { line = line; rank = p.0; slot = p.1; tile = held } ∷ [])
took_here line p None held e some = absurd (true≢false (sym some ∙ ap is_some (sym e)))
took_here line p (Some t) held e some = ap (λ (x : Option Tile). record { line = line; rank = p.0; slot = p.1; tile = x } ∷ []) e

kept : (t : TakeTask) (calls : ℕ) (got got' : List Got) (s : Setting) (base now : State) (taken : Option Tile) → calls < length t.slots + 1 → AreTakable s base t.slots → TakeStands t calls got s base now → taken ≡ handed now (asked_after t.slots calls)
    → map (took_from t.mark.line) got' ≡ map (took_from t.mark.line) got ++ took_with t.mark.line (asked_after t.slots calls) taken → map (took_from t.mark.line) got' ≡ takes_of t.mark.line base (take calls t.slots)
kept t zero got got' s base now taken room may h e is = is ∙ (append-nil (map (took_from t.mark.line) got) ∙ h.1)
kept t (suc k) got got' s base now taken room may h e is =
    let line = t.mark.line in
    let at = there t.slots k (omega arith) in
    let p = at.0 in
    let less : suc k - 1 ≡ k = omega arith in
    let tile : taken ≡ base.tiles p.0 p.1 = e ∙ (ap (handed now) at.1 ∙ ap (λ (st : State). st.tiles p.0 p.1) h.0) in
    let last : took_with line (slice_get t.slots k) taken ≡ one line base p ∷ [] =
    ap (λ (o : Option (ℕ × Slot)). took_with line o taken) at.1 ∙ took_here line p taken (base.tiles p.0 p.1) tile (may_take_one s base t.slots k p at.1 may).held in
    let before : map (took_from line) got ≡ takes_of line base (take k t.slots) = h.1 ∙ ap (λ (m : ℕ). takes_of line base (take m t.slots)) less in
    is ∙ (ap (λ ts. ts ++ took_with line (slice_get t.slots k) taken) before ∙ (ap (λ ts. takes_of line base (take k t.slots) ++ ts) last ∙ sym (takes_more line base t.slots k p at.1)))

take_legal : (s : Setting) (base : State) (ts : List Took) (rank : ℕ) (slot : Slot) → IsTake s base rank slot → IsTake s (with_taken base ts) rank slot
take_legal s base ts rank slot h = record { live = h.live; held = h.held; allowed = h.allowed }

-- the line of the mark is the current one
line_now : (s : Setting) (base : State) (mark : Mark) → IsTrue (follows s base.mark mark) → current s base.mark ≡ mark.line
line_now s base mark h = sym (eqb-true mark.line (current s base.mark) (and_parts (nat_lt 0 mark.line) (mark.line == current s base.mark) (and_parts (nat_lt 0 mark.line && (mark.line == current s base.mark)) _ h).0).1)

taken_more : (t : TakeTask) (calls : ℕ) (s : Setting) (base now : State) (p : ℕ × Slot) → now ≡ with_taken base (takes_of t.mark.line base (take calls t.slots)) → slice_get t.slots calls ≡ Some p → current s base.mark ≡ t.mark.line
    → after s now (r.Take p.0 p.1) ≡ with_taken base (takes_of t.mark.line base (take (suc calls) t.slots))
taken_more t calls s base now p e some line =
    ap (λ st. after s st (r.Take p.0 p.1)) e
    ∙ ((λ i. with_taken base (takes_of t.mark.line base (take calls t.slots) ++ (record { line = line i; rank = p.0; slot = p.1; tile = base.tiles p.0 p.1 }) ∷ []))
    ∙ ap (with_taken base) (sym (takes_more t.mark.line base t.slots calls p some)))

pub take_goes_on : {K : Type 0} (t : TakeTask) (calls : ℕ) (got got' : List Got) (s : Setting) (base now : State) (taken : Option Tile) → calls < length t.slots + 1 → CanStart (take_plan t) s base → TakeStands t calls got s base now
    → taken ≡ handed now (asked_after t.slots calls) → map (took_from t.mark.line) got' ≡ map (took_from t.mark.line) got ++ took_with t.mark.line (asked_after t.slots calls) taken
    → GoesOn {K = K} (take_plan t) (TakeStands t (calls + 1) got') (take_progress t.slots t.mark (calls + 1) got') s base now (answer_of (slice_get t.slots calls))
take_goes_on {K} t calls got got' s base now taken room start h e is = at (slice_get t.slots calls) refl
  where
    line : ℕ
    line = t.mark.line

    so_far : map (took_from t.mark.line) got' ≡ takes_of t.mark.line base (take calls t.slots)
    so_far = kept t calls got got' s base now taken room start.may.takable h e is

    at : (o : Option (ℕ × Slot)) → slice_get t.slots calls ≡ o → GoesOn {K = K} (take_plan t) (TakeStands t (calls + 1) got') (take_progress t.slots t.mark (calls + 1) got') s base now (answer_of o)
    at None none = record {
      goes = record {
        law = subst (λ st. CodeLaw s st t.mark) (sym h.0) (CodeLaw-tiles s base (with_taken base (takes_of t.mark.line base (take calls t.slots))) t.mark refl start.may.law);
        effect = (so_far ∙ takes_end t.mark.line base t.slots calls none, ap (λ (st : State). (after s st (r.Commit t.mark false)).tiles) h.0);
      };
      few = omega arith;
    }
    at (Some p) some =
        let less : calls + 1 - 1 ≡ calls = omega arith in
        let next : calls + 1 ≡ suc calls = omega arith in
        let legal = subst (λ st. IsTake s st p.0 p.1) (sym h.0) (take_legal s base (takes_of t.mark.line base (take calls t.slots)) p.0 p.1 (may_take_one s base t.slots calls p some start.may.takable)) in
        record {
          goes = record {
            brings = tt;
            legal = (legal, tt);
            words = (adds_nothing base now (ap (λ (st : State). st.tiles) h.0) (ap (λ (st : State). st.saved) h.0), adds_nothing base (after s now (r.Take p.0 p.1)) (ap (λ (st : State). st.tiles) h.0) (ap (λ (st : State). st.saved) h.0));
            stands = (taken_more t calls s base now p h.0 some (line_now s base t.mark start.may.follows_last) ∙ ap (λ (m : ℕ). with_taken base (takes_of t.mark.line base (take m t.slots))) (sym next), so_far ∙ ap (λ (m : ℕ). takes_of t.mark.line base (take m t.slots)) (sym less));
            nexts = omega (arith, within t.slots calls p some);
          };
          few = omega arith;
        }
