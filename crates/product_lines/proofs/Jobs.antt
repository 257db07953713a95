-- The jobs of a script's setting: a job that meets a test stands on a line, and what no line drops.
use Rattle.std.proofs.Common.{◌≡◌, ◌≢◌, ℕ, ◌<◌, ◌==◌, ◌&&◌, ◌||◌, Bool, true, false, List, [], ◌∷◌, Option, Some, None, refl, sym, ap, ◌∙◌, ⊎_elim, arith}
use Rattle.std.specs.Prelude.{if◌then◌else◌}
use Rattle.std.proofs.lemmas.Bool.{false≢true, true≢false, cases_Bool, or_cases, or_left, or_right, and_parts, and_from, eqb-true, eq-eqb, ne_eqb, false_from_ne_true}
use Rattle.run_data.specs.declared.command.Command.{Command}
use Rattle.run_data.specs.declared.command.Command.TheVariants as c
use Rattle.run_data.specs.Script.{Numbered, commands_of, command_at, maker}
use Rattle.blacs_grid.specs.declared.Grid.{Grid}
use Rattle.rank_machine.specs.declared.mark.Mark.{Mark}
use Rattle.rank_machine.specs.Setting.{Job, some_job, job_in, job, is_job}
use Rattle.rank_machine.specs.Scripts.{Matrices, grids_from, line_meant, setting_of}
use Rattle.rank_machine.specs.Effect.{has_ended, is_dropped}
use Rattle.script_lines.proofs.JobAt.{job_for, job-in_script}
use Rattle.script_bounds.specs.Accepted.{KeepsRules}
use Rattle.run_laws.specs.NextMark.{JobsRise, has_line}
use Rattle.run_laws.proofs.Scripts.{script_rising}
use Rattle.line_laws.proofs.NextLine.{above}
use Rattle.line_phases.proofs.NextJob.{drop-means}

-- ---- a job that meets a test
record Found (js : List Job) (f : Job → Bool) : Type 0 where
  line : ℕ
  there : has_line js line ≡ true
  meets : f (job_in js line) ≡ true

job_found : (js : List Job) (least : ℕ) (f : Job → Bool) → JobsRise least js → some_job js f ≡ true → Found js f
job_found [] least f rise e = absurd (false≢true e)
job_found (j ∷ js) least f rise e =
    ⊎_elim
    (λ (here : f j ≡ true).
    let same : (j.line == j.line) ≡ true = eq-eqb j.line j.line refl in
    record { line = j.line; there = or_left (j.line == j.line) (has_line js j.line) same; meets = ap (λ b. f (if b then j else job_in js j.line)) same ∙ here })
    (λ (more : some_job js f ≡ true).
    let found : Found js f = job_found js j.line f rise.1 more in
    let high : j.line < found.line = above js j.line found.line rise.1 found.there in
    let other : (j.line == found.line) ≡ false = ne_eqb j.line found.line (λ same. omega (arith, high, same)) in
    record { line = found.line; there = or_right (j.line == found.line) (has_line js found.line) found.there; meets = ap (λ b. f (if b then j else job_in js found.line)) other ∙ found.meets })
    (or_cases (f j) (some_job js f) e)

job_meets : (js : List Job) (f : Job → Bool) (line : ℕ) → has_line js line ≡ true → f (job_in js line) ≡ true → some_job js f ≡ true
job_meets [] f line there meets = absurd (false≢true there)
job_meets (j ∷ js) f line there meets =
    ⊎_elim
    (λ (here : (j.line == line) ≡ true). or_left (f j) (some_job js f) (sym (ap (λ b. f (if b then j else job_in js line)) here) ∙ meets))
    (λ (other : (j.line == line) ≡ false).
    or_right (f j) (some_job js f) (job_meets js f line (sym (ap (λ b. b || has_line js line) other) ∙ there) (sym (ap (λ b. f (if b then j else job_in js line)) other) ∙ meets)))
    (cases_Bool (j.line == line))

job_line : (js : List Job) (line : ℕ) → (job_in js line).line ≡ line
job_line [] line = refl
job_line (j ∷ js) line =
    ⊎_elim
    (λ (here : (j.line == line) ≡ true). ap (λ b. (if b then j else job_in js line).line) here ∙ eqb-true j.line line here)
    (λ (other : (j.line == line) ≡ false). ap (λ b. (if b then j else job_in js line).line) other ∙ job_line js line)
    (cases_Bool (j.line == line))

-- ---- drops
-- a job that drops what a line made is that of a `drop` line
record IsDrop (ns : List Numbered) (line what : ℕ) (o : Option Command) : Type 0 where
  name : List ℕ
  is : o ≡ Some (c.Discard name)
  meant : line_meant ns line 1 ≡ what

drop_of : (ns : List Numbered) (grids : List Grid) (line what : ℕ) (o : Option Command) → 0 < what → (job_for ns grids line o).drops ≡ what → IsDrop ns line what o
drop_of ns grids line what (Some (c.Discard name)) some e = record { name = name; is = refl; meant = e }
drop_of ns grids line what None some e = let nought : 0 ≡ what = e in absurd (omega (arith, nought, some))
drop_of ns grids line what (Some command) some e = let nought : 0 ≡ what = e in absurd (omega (arith, nought, some))

abbrev drops_what : Mark → ℕ → Job → Bool
drops_what mark what j = has_ended mark j.line && (j.drops == what)

module _ (script : List (Option Command)) (files : Matrices) where
  -- what no `drop` line that has ended means is not dropped
  pub undropped : (mark : Mark) (what : ℕ) → KeepsRules script → 0 < what
      → ((at : ℕ) (name : List ℕ) → command_at (commands_of script) at ≡ Some (c.Discard name) → is_job (setting_of script files) at ≡ true → has_ended mark at ≡ true → maker (commands_of script) at name ≡ Some what → ⊥)
      → is_dropped (setting_of script files) mark what ≡ false
  undropped mark what kept some never =
      let s = setting_of script files in
      let cs = commands_of script in
      false_from_ne_true (is_dropped s mark what) (λ dropped.
      let found : Found s.jobs (drops_what mark what) = job_found s.jobs 0 (drops_what mark what) (script_rising script files) dropped in
      let both = and_parts (has_ended mark (job s found.line).line) ((job s found.line).drops == what) found.meets in
      let drop : IsDrop cs found.line what (command_at cs found.line) =
      drop_of cs (grids_from 0 cs) found.line what (command_at cs found.line) some (sym (ap (λ (j : Job). j.drops) (job-in_script script found.line)) ∙ eqb-true (job s found.line).drops what both.1) in
      never found.line drop.name drop.is found.there (sym (ap (has_ended mark) (job_line s.jobs found.line)) ∙ both.0) (drop-means script found.line what drop.name kept drop.is drop.meant))

  -- under two marks under which the same lines have ended, but for one that drops nothing, the same is dropped
  module _ (line : ℕ) (none : (job (setting_of script files) line).drops ≡ 0) where
    dropped_too : (mark other : Mark) (what : ℕ) → 0 < what → ((at : ℕ) → is_job (setting_of script files) at ≡ true → at ≢ line → has_ended mark at ≡ has_ended other at)
        → is_dropped (setting_of script files) mark what ≡ true → is_dropped (setting_of script files) other what ≡ true
    dropped_too mark other what some same dropped =
        let s = setting_of script files in
        let found : Found s.jobs (drops_what mark what) = job_found s.jobs 0 (drops_what mark what) (script_rising script files) dropped in
        let both = and_parts (has_ended mark (job s found.line).line) ((job s found.line).drops == what) found.meets in
        let drops : (job s found.line).drops ≡ what = eqb-true (job s found.line).drops what both.1 in
        let apart : found.line ≢ line = λ is. (let nought : 0 ≡ what = sym none ∙ (sym (ap (λ (k : ℕ). (job s k).drops) is) ∙ drops) in omega (arith, nought, some)) in
        let on : (job s found.line).line ≡ found.line = job_line s.jobs found.line in
        let ended : has_ended other (job s found.line).line ≡ true = ap (has_ended other) on ∙ (sym (same found.line found.there apart) ∙ (sym (ap (has_ended mark) on) ∙ both.0)) in
        job_meets s.jobs (drops_what other what) found.line found.there (and_from (has_ended other (job s found.line).line) ((job s found.line).drops == what) ended both.1)

    pub dropped-same : (mark other : Mark) → ((at : ℕ) → is_job (setting_of script files) at ≡ true → at ≢ line → has_ended mark at ≡ has_ended other at) → (what : ℕ) → 0 < what
        → is_dropped (setting_of script files) mark what ≡ is_dropped (setting_of script files) other what
    dropped-same mark other same what some =
        let s = setting_of script files in
        ⊎_elim
        (λ (e : is_dropped s mark what ≡ true). e ∙ sym (dropped_too mark other what some same e))
        (λ (e : is_dropped s mark what ≡ false).
        e ∙ sym (false_from_ne_true (is_dropped s other what) (λ h. true≢false (sym (dropped_too other mark what some (λ at own apart. sym (same at own apart)) h) ∙ e))))
        (cases_Bool (is_dropped s mark what))
