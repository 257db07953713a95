-- The line that comes next, where those before it have ended.
use Rattle.std.proofs.Common.{◌≡◌, ◌+◌, ◌<◌, ◌≤◌, ◌==◌, ◌&&◌, ◌||◌, nat_lt, nat_le, ℕ, zero, suc, Bool, true, false, not, List, [], ◌∷◌, refl, sym, ap, subst, ◌∙◌, ⊎_elim, arith, IsTrue}
use Rattle.std.specs.Prelude.{if◌then◌else◌}
use Rattle.std.proofs.lemmas.Bool.{and_parts, and_from, or_cases, or_left, or_parts, lt-ltb, ltb-true, ltb-false, eqb-true, eq-eqb, true≢false, cases_Bool, false_from_ne_true, true_from_ne_false}
use Rattle.rank_machine.specs.declared.mark.Mark.{Mark}
use Rattle.rank_machine.specs.declared.slot.Slot.{Slot}
use Rattle.rank_machine.specs.Setting.{Setting, Job, job_in, no_job, is_job, is_matrix, factored}
use Rattle.rank_machine.specs.State.{State, end_mark}
use Rattle.rank_machine.specs.Effect.{has_ended, current_in, current, is_dropped, is_live_matrix, is_live_list}
use Rattle.rank_machine.specs.CodeLaw.{CodeLaw}
use Rattle.rank_machine.specs.Marks.{follows}
use Rattle.run_laws.specs.LastCommit.{IsScripted}
use Rattle.run_laws.specs.NextMark.{JobsRise, has_line}
use Rattle.run_laws.proofs.LawFrame.{CodeLaw-next_mark}

itself : (n : ℕ) → (n == n) ≡ true
itself n = eq-eqb n n refl

less_none : (n : ℕ) → nat_lt n n ≡ false
less_none n = false_from_ne_true (nat_lt n n) (λ e. omega (arith, ltb-true n n e))

-- a line that factors something is a job
job_else : (js : List Job) (line : ℕ) → has_line js line ≡ false → job_in js line ≡ no_job line
job_else [] line e = refl
job_else (j ∷ js) line e =
    let z = or_parts (j.line == line) (has_line js line) e in
    ap (λ b. if b then j else job_in js line) z.0 ∙ job_else js line z.1

pub job-of_list : (s : Setting) (line : ℕ) → nat_lt 0 (factored s line) ≡ true → is_job s line ≡ true
job-of_list s line h = true_from_ne_false (is_job s line) (λ e. true≢false (sym h ∙ ap (λ (j : Job). nat_lt 0 j.factors) (job_else s.jobs line e)))

-- each job's line is above the least
pub above : (js : List Job) (least line : ℕ) → JobsRise least js → has_line js line ≡ true → least < line
above [] least line h e = absurd (true≢false (sym e))
above (j ∷ js) least line h e =
    ⊎_elim
    (λ (here : (j.line == line) ≡ true). omega (arith, h.0, eqb-true j.line line here))
    (λ (more : has_line js line ≡ true). omega (arith, h.0, above js j.line line h.1 more))
    (or_cases (j.line == line) (has_line js line) e)

-- where exactly the lines before one have ended, it is the current one
pub current-next : (js : List Job) (least : ℕ) (mark : Mark) (line : ℕ) → JobsRise least js → has_line js line ≡ true → ((at : ℕ) → has_line js at ≡ true → has_ended mark at ≡ nat_lt at line) → current_in js mark ≡ line
current-next [] least mark line rise there done = absurd (true≢false (sym there))
current-next (j ∷ js) least mark line rise there done =
    let mine : has_ended mark j.line ≡ nat_lt j.line line = done j.line (or_left (j.line == j.line) (has_line js j.line) (itself j.line)) in
    ⊎_elim
    (λ (here : (j.line == line) ≡ true).
    let is : j.line ≡ line = eqb-true j.line line here in
    let on : has_ended mark j.line ≡ false = mine ∙ (ap (nat_lt j.line) (sym is) ∙ less_none j.line) in
    ap (λ b. if b then current_in js mark else j.line) on ∙ is)
    (λ (more : has_line js line ≡ true).
    let ended : has_ended mark j.line ≡ true = mine ∙ lt-ltb j.line line (above js j.line line rise.1 more) in
    ap (λ b. if b then current_in js mark else j.line) ended ∙ current-next js j.line mark line rise.1 more (λ at has. done at (in_all at has)))
    (or_cases (j.line == line) (has_line js line) there)
  where
    in_all : (at : ℕ) → has_line js at ≡ true → ((j.line == at) || has_line js at) ≡ true
    in_all at has = ⊎_elim (λ (e : (j.line == at) ≡ true). rw e refl) (λ (e : (j.line == at) ≡ false). rw e has) (cases_Bool (j.line == at))

-- so the mark of its end comes next
pub end-follows : (s : Setting) (mark : Mark) (line : ℕ) → 0 < line → current s mark ≡ line → IsTrue (follows s mark (end_mark line))
end-follows s mark line some is =
    let here : (line == current s mark) ≡ true = ap (λ n. line == n) is ∙ itself line in
    and_from (nat_lt 0 line && (line == current s mark)) true (and_from (nat_lt 0 line) (line == current s mark) (lt-ltb 0 line some) here) refl

-- ---- a line that makes no matrix and factors none keeps the code law as it is
pub law-next : (s : Setting) (st : State) (line : ℕ) → IsScripted s → JobsRise 0 s.jobs → IsTrue (follows s st.mark (end_mark line)) → CodeLaw s st st.mark → is_matrix s line ≡ false → factored s line ≡ 0 → CodeLaw s st (end_mark line)
law-next s st line scripted rising next law none plain =
    CodeLaw-next_mark s st st (end_mark line) (λ at. at == line) scripted rising next law (itself line) (λ some. absurd (omega (arith, some, plain))) (λ rank slot other live. refl)
    (λ at own live. absurd (true≢false (sym (matrix_there at live) ∙ (ap (is_matrix s) (eqb-true at line own) ∙ none))))
    (λ at own live. absurd (true≢false (sym (list_there at live) ∙ (ap (λ n. nat_lt 0 (factored s n)) (eqb-true at line own) ∙ ap (nat_lt 0) plain))))
  where
    matrix_there : (at : ℕ) → is_live_matrix s (end_mark line) at ≡ true → is_matrix s at ≡ true
    matrix_there at live = (and_parts (is_matrix s at) (has_ended (end_mark line) at) (and_parts (is_matrix s at && has_ended (end_mark line) at) (not (is_dropped s (end_mark line) at)) live).0).0

    list_there : (at : ℕ) → is_live_list s (end_mark line) at ≡ true → nat_lt 0 (factored s at) ≡ true
    list_there at live = (and_parts (nat_lt 0 (factored s at)) (nat_le at line) (and_parts (nat_lt 0 (factored s at) && nat_le at line) (not (is_dropped s (end_mark line) at)) live).0).0
