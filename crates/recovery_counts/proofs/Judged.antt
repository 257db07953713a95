-- Where no process row is beyond repair, few ranks of each row of a grid that holds something live are lost.
use Rattle.std.specs.Prelude.{if◌then◌else◌}
use Rattle.std.proofs.Common.{◌≡◌, ℕ, zero, suc, ◌<◌, ◌≤◌, ◌==◌, ◌&&◌, ◌||◌, not, nat_lt, Bool, true, false, is_some, List, [], ◌∷◌, length, refl, sym, ◌∙◌, ap, subst, arith}
use Rattle.std.specs.Prelude.{nat_le}
use Rattle.std.proofs.lemmas.Bool.{true≢false, and_parts, eqb-true, eq-eqb}
use Rattle.field_core.proofs.Sums.{sum_to-none, sum_to-suc, sum_to-same}
use Rattle.blacs_grid.specs.Places.{width, rank_at}
use Rattle.rank_machine.specs.declared.layout.Layout.{Layout}
use Rattle.rank_machine.specs.Setting.{Job, Setting, job, job_in, no_job, some_job, layout, is_matrix, factored, grid_numbered}
use Rattle.rank_machine.specs.State.{State}
use Rattle.rank_machine.specs.Effect.{has_ended, is_dropped, is_live_matrix, is_live_list}
use Rattle.rank_machine.specs.Losses.{lost_in, lost_now, holds_live}
use Rattle.recovery_laws.proofs.Factored.{few-lost}
use Rattle.run_laws.specs.Cuts.{IsWithin}
use Rattle.recovery_counts.specs.Counted.{FewAreLost}

-- ---- the job of a line
job_pick : (b : Bool) (j k : Job) (line : ℕ) → (b ≡ true → j.line ≡ line) → k.line ≡ line → (if b then j else k).line ≡ line
job_pick true j k line h e = h refl
job_pick false j k line h e = e

job_line : (jobs : List Job) (line : ℕ) → (job_in jobs line).line ≡ line
job_line [] line = refl
job_line (j ∷ js) line = job_pick (j.line == line) j (job_in js line) line (λ e. eqb-true j.line line e) (job_line js line)

or_right : (a b : Bool) → b ≡ true → (a || b) ≡ true
or_right true b e = refl
or_right false b e = e

and_both : (a b : Bool) → a ≡ true → b ≡ true → (a && b) ≡ true
and_both true b e h = h
and_both false b e h = e

some_pick : (b : Bool) (j k : Job) (line : ℕ) (f : Job → Bool) (rest : Bool) → ((k ≡ no_job line → ⊥) → f k ≡ true → rest ≡ true) → ((if b then j else k) ≡ no_job line → ⊥) → f (if b then j else k) ≡ true → (f j || rest) ≡ true
some_pick true j k line f rest more there h = ap (λ b. b || rest) h
some_pick false j k line f rest more there h = or_right (f j) rest (more there h)

some_is : (jobs : List Job) (line : ℕ) (f : Job → Bool) → (job_in jobs line ≡ no_job line → ⊥) → f (job_in jobs line) ≡ true → some_job jobs f ≡ true
some_is [] line f there h = absurd (there refl)
some_is (j ∷ js) line f there h = some_pick (j.line == line) j (job_in js line) line f (some_job js f) (some_is js line f) there h

-- ---- the grid of what is live
holds_matrix : (s : Setting) (st : State) (line : ℕ) → is_live_matrix s st.mark line ≡ true → holds_live s st (layout s line).desc.ctxt ≡ true
holds_matrix s st line live =
    let number = (layout s line).desc.ctxt in
    let made : is_matrix s line ≡ true = (and_parts (is_matrix s line) (has_ended st.mark line) (and_parts (is_matrix s line && has_ended st.mark line) (not (is_dropped s st.mark line)) live).0).0 in
    let here : (is_live_matrix s st.mark line && ((layout s line).desc.ctxt == number)) ≡ true = and_both (is_live_matrix s st.mark line) ((layout s line).desc.ctxt == number) live (eq-eqb number number refl) in
    let at : (is_live_matrix s st.mark (job s line).line && ((layout s (job s line).line).desc.ctxt == number)) ≡ true = ap (λ k. is_live_matrix s st.mark k && ((layout s k).desc.ctxt == number)) (job_line s.jobs line) ∙ here in
    some_is s.jobs line (λ j. (is_live_matrix s st.mark j.line && ((layout s j.line).desc.ctxt == number)) || (is_live_list s st.mark j.line && ((layout s j.factors).desc.ctxt == number)))
    (λ e. true≢false (sym made ∙ ap (λ (j : Job). is_some j.makes) e))
    (ap (λ b. b || (is_live_list s st.mark (job s line).line && ((layout s (job s line).factors).desc.ctxt == number))) at)

holds_list : (s : Setting) (st : State) (line : ℕ) → is_live_list s st.mark line ≡ true → holds_live s st (layout s (factored s line)).desc.ctxt ≡ true
holds_list s st line live =
    let number = (layout s (factored s line)).desc.ctxt in
    let made : nat_lt 0 (factored s line) ≡ true = (and_parts (nat_lt 0 (factored s line)) (nat_le line st.mark.line) (and_parts (nat_lt 0 (factored s line) && nat_le line st.mark.line) (not (is_dropped s st.mark line)) live).0).0 in
    let here : (is_live_list s st.mark line && ((layout s (factored s line)).desc.ctxt == number)) ≡ true = and_both (is_live_list s st.mark line) ((layout s (factored s line)).desc.ctxt == number) live (eq-eqb number number refl) in
    let at : (is_live_list s st.mark (job s line).line && ((layout s (job s line).factors).desc.ctxt == number)) ≡ true = ap (λ k. is_live_list s st.mark k && ((layout s (factored s line)).desc.ctxt == number)) (job_line s.jobs line) ∙ here in
    some_is s.jobs line (λ j. (is_live_matrix s st.mark j.line && ((layout s j.line).desc.ctxt == number)) || (is_live_list s st.mark j.line && ((layout s j.factors).desc.ctxt == number)))
    (λ e. true≢false (sym made ∙ ap (λ (j : Job). nat_lt 0 j.factors) e))
    (or_right (is_live_matrix s st.mark (job s line).line && ((layout s (job s line).line).desc.ctxt == number)) (is_live_list s st.mark (job s line).line && ((layout s (job s line).factors).desc.ctxt == number)) at)

few_on : (s : Setting) (st : State) (d : Layout) → IsWithin s st → holds_live s st d.desc.ctxt ≡ true → d.desc.ctxt < length s.grids → d.grid ≡ grid_numbered s d.desc.ctxt → FewAreLost st d
few_on s st d within live inside same row =
    subst (λ g. row < g.p → lost_in st g row ≤ g.f) (sym same) (λ hr. few-lost s st d.desc.ctxt row inside hr live (within d.desc.ctxt row))

pub matrix-few : (s : Setting) (st : State) (line : ℕ) → IsWithin s st → is_live_matrix s st.mark line ≡ true → (layout s line).desc.ctxt < length s.grids → (layout s line).grid ≡ grid_numbered s (layout s line).desc.ctxt → FewAreLost st (layout s line)
matrix-few s st line within live inside same = few_on s st (layout s line) within (holds_matrix s st line live) inside same

pub list-few : (s : Setting) (st : State) (line : ℕ) → IsWithin s st → is_live_list s st.mark line ≡ true → (layout s (factored s line)).desc.ctxt < length s.grids → (layout s (factored s line)).grid ≡ grid_numbered s (layout s (factored s line)).desc.ctxt → FewAreLost st (layout s (factored s line))
list-few s st line within live inside same = few_on s st (layout s (factored s line)) within (holds_list s st line live) inside same

-- ---- the same ranks, later
pub few-later : (before now : State) (d : Layout) → ((rank : ℕ) → now.lost rank ≡ before.lost rank) → FewAreLost before d → FewAreLost now d
few-later before now d same few row hr =
    omega (arith, few row hr, sum_to-same (width d.grid) (λ col. if now.lost (rank_at d.grid row col) then 1 else 0) (λ col. if before.lost (rank_at d.grid row col) then 1 else 0) (λ col h. ap (λ b. if b then 1 else 0) (same (rank_at d.grid row col))))

pub lost-few : (st : State) (n : ℕ) → lost_now st n ≤ n
lost-few st zero = omega (arith, sum_to-none (λ rank. if st.live rank then 0 else 1))
lost-few st (suc n) = omega (arith, sum_to-suc n (λ rank. if st.live rank then 0 else 1), lost-few st n, one (st.live n))
  where
    one : (b : Bool) → (if b then 0 else 1) ≤ 1
    one true = omega arith
    one false = omega arith
