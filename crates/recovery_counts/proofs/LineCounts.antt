-- The records of all matrices and lists, grid by grid, are those that the definitions count line by line.
use Rattle.std.specs.Prelude.{slice_index_or, if◌then◌else◌}
use Rattle.std.proofs.Common.{◌≡◌, ℕ, zero, suc, ◌+◌, ◌≤◌, ◌==◌, ◌&&◌, Bool, true, false, List, [], ◌∷◌, length, refl, sym, ◌∙◌, ap, ⊎_elim, arith}
use Rattle.std.proofs.lemmas.Bool.{cases_Bool, eqb-true, eq-eqb}
use Rattle.field_core.specs.Sums.{sum_to}
use Rattle.field_core.proofs.Sums.{sum_to-none, sum_to-suc, sum_to-more, sum_to-same, sum_to-add, sum_to-zero, sum_to-first}
use Rattle.rank_machine.specs.declared.mark.Mark.{Mark}
use Rattle.rank_machine.specs.Setting.{Job, Setting, layout, no_job, ranks}
use Rattle.rank_machine.specs.Effect.{is_live_matrix, is_live_list}
use Rattle.run_laws.specs.Traces.{matrix_most, list_most, recovery_of, recovery_under}
use Rattle.recovery_counts.specs.Counted.{job_at, matrix_on, list_on, matrices_so_far, lists_so_far, grid_most, grids_so_far}

-- ---- one line more
on_grid : (live : Bool) (at number most : ℕ) → live ≡ true → at ≡ number → (if live && (at == number) then most else 0) ≡ most
on_grid live at number most l e = rw (l, eq-eqb at number e) refl

pub more-matrix : (s : Setting) (mark : Mark) (number i line : ℕ) → (job_at s i).line ≡ line → is_live_matrix s mark line ≡ true → (layout s line).desc.ctxt ≡ number
    → matrices_so_far s mark number i + matrix_most (layout s line) ≡ matrices_so_far s mark number (i + 1)
more-matrix s mark number i line at live lies =
    let here : matrix_on s mark number (job_at s i) ≡ matrix_most (layout s line) =
    ap (λ k. if is_live_matrix s mark k && ((layout s k).desc.ctxt == number) then matrix_most (layout s k) else 0) at ∙ on_grid (is_live_matrix s mark line) (layout s line).desc.ctxt number (matrix_most (layout s line)) live lies in
    omega (arith, here, sum_to-more i (λ k. matrix_on s mark number (job_at s k)))

pub more-list : (s : Setting) (mark : Mark) (number i line factors : ℕ) → (job_at s i).line ≡ line → (job_at s i).factors ≡ factors → is_live_list s mark line ≡ true → (layout s factors).desc.ctxt ≡ number
    → lists_so_far s mark number i + list_most (layout s factors) ≡ lists_so_far s mark number (i + 1)
more-list s mark number i line factors at by live lies =
    let here : list_on s mark number (job_at s i) ≡ list_most (layout s factors) =
    (λ k. if is_live_list s mark (at k) && ((layout s (by k)).desc.ctxt == number) then list_most (layout s (by k)) else 0) ∙ on_grid (is_live_list s mark line) (layout s factors).desc.ctxt number (list_most (layout s factors)) live lies in
    omega (arith, here, sum_to-more i (λ k. list_on s mark number (job_at s k)))

pub matrix-passed : (s : Setting) (mark : Mark) (number i : ℕ) → matrices_so_far s mark number i ≤ matrices_so_far s mark number (i + 1)
matrix-passed s mark number i = omega (arith, sum_to-more i (λ k. matrix_on s mark number (job_at s k)))

pub list-passed : (s : Setting) (mark : Mark) (number i : ℕ) → lists_so_far s mark number i ≤ lists_so_far s mark number (i + 1)
list-passed s mark number i = omega (arith, sum_to-more i (λ k. list_on s mark number (job_at s k)))

pub more-grid : (s : Setting) (mark : Mark) (number : ℕ) → grids_so_far s mark number + grid_most s mark number ≡ grids_so_far s mark (number + 1)
more-grid s mark number = sym (sum_to-more number (grid_most s mark))

-- ---- what lies on one grid lies on no other
none_yet : (n c x : ℕ) → n ≤ c → sum_to n (λ k. if c == k then x else 0) ≡ 0
none_yet zero c x h = sum_to-none (λ k. if c == k then x else 0)
none_yet (suc n) c x h =
    let here : (if c == n then x else 0) ≡ 0 = ⊎_elim (λ (e : (c == n) ≡ true). absurd (omega (arith, h, eqb-true c n e))) (λ (e : (c == n) ≡ false). rw e refl) (cases_Bool (c == n)) in
    omega (arith, sum_to-suc n (λ k. if c == k then x else 0), none_yet n c x (omega (arith, h)), here)

at_most_one : (n c x : ℕ) → sum_to n (λ k. if c == k then x else 0) ≤ x
at_most_one zero c x = omega (arith, sum_to-none (λ k. if c == k then x else 0))
at_most_one (suc n) c x =
    ⊎_elim
    (λ (e : (c == n) ≡ true).
    let here : (if c == n then x else 0) ≡ x = rw e refl in
    omega (arith, sum_to-suc n (λ k. if c == k then x else 0), none_yet n c x (omega (arith, eqb-true c n e)), here))
    (λ (e : (c == n) ≡ false).
    let here : (if c == n then x else 0) ≡ 0 = rw e refl in
    omega (arith, sum_to-suc n (λ k. if c == k then x else 0), at_most_one n c x, here))
    (cases_Bool (c == n))

once : (live : Bool) (n c x : ℕ) → sum_to n (λ k. if live && (c == k) then x else 0) ≤ (if live then x else 0)
once true n c x = at_most_one n c x
once false n c x = omega (arith, sum_to-zero n)

-- ---- sums over the jobs as a list
sum_jobs : List Job → (Job → ℕ) → ℕ
sum_jobs [] f = 0
sum_jobs (j ∷ js) f = f j + sum_jobs js f

by_place : (jobs : List Job) (f : Job → ℕ) → sum_to (length jobs) (λ i. f (slice_index_or jobs i (no_job 0))) ≡ sum_jobs jobs f
unfolding sum_jobs
by_place [] f = sum_to-none (λ i. f (slice_index_or [] i (no_job 0)))
by_place (j ∷ js) f =
    let first : sum_to (suc (length js)) (λ i. f (slice_index_or (j ∷ js) i (no_job 0))) ≡ f j + sum_to (length js) (λ i. f (slice_index_or js i (no_job 0))) = sum_to-first (length js) (λ i. f (slice_index_or (j ∷ js) i (no_job 0))) in
    omega (arith, first, by_place js f)

module _ (s : Setting) (mark : Mark) (n : ℕ) where
  jobs_few : (js : List Job) → sum_to n (λ number. sum_jobs js (matrix_on s mark number) + sum_jobs js (list_on s mark number)) ≤ recovery_of s mark js
  unfolding sum_jobs
  jobs_few [] = omega (arith, sum_to-zero n)
  jobs_few (j ∷ js) =
      let turned : sum_to n (λ number. (matrix_on s mark number j + sum_jobs js (matrix_on s mark number)) + (list_on s mark number j + sum_jobs js (list_on s mark number)))
      ≡ sum_to n (λ number. (matrix_on s mark number j + list_on s mark number j) + (sum_jobs js (matrix_on s mark number) + sum_jobs js (list_on s mark number))) =
      sum_to-same n (λ number. (matrix_on s mark number j + sum_jobs js (matrix_on s mark number)) + (list_on s mark number j + sum_jobs js (list_on s mark number)))
      (λ number. (matrix_on s mark number j + list_on s mark number j) + (sum_jobs js (matrix_on s mark number) + sum_jobs js (list_on s mark number))) (λ number h. omega arith) in
      let apart = sum_to-add n (λ number. matrix_on s mark number j + list_on s mark number j) (λ number. sum_jobs js (matrix_on s mark number) + sum_jobs js (list_on s mark number)) in
      let both = sum_to-add n (λ number. matrix_on s mark number j) (λ number. list_on s mark number j) in
      let matrix = once (is_live_matrix s mark j.line) n (layout s j.line).desc.ctxt (matrix_most (layout s j.line)) in
      let list = once (is_live_list s mark j.line) n (layout s j.factors).desc.ctxt (list_most (layout s j.factors)) in
      omega (arith, turned, apart, both, matrix, list, jobs_few js)

pub few-grids : (s : Setting) (mark : Mark) (n : ℕ) → grids_so_far s mark n ≤ recovery_of s mark s.jobs
few-grids s mark n =
    let same : grids_so_far s mark n ≡ sum_to n (λ number. sum_jobs s.jobs (matrix_on s mark number) + sum_jobs s.jobs (list_on s mark number)) =
    sum_to-same n (grid_most s mark) (λ number. sum_jobs s.jobs (matrix_on s mark number) + sum_jobs s.jobs (list_on s mark number)) (λ number h.
    (λ i. by_place s.jobs (matrix_on s mark number) i + by_place s.jobs (list_on s mark number) i)) in
    omega (arith, same, jobs_few s mark n s.jobs)

pub few-records : (s : Setting) (mark : Mark) (n spawned : ℕ) → spawned ≤ ranks s → (1 + spawned) + (grids_so_far s mark n + 1) ≤ recovery_under s mark
few-records s mark n spawned few = omega (arith, few, few-grids s mark n)
