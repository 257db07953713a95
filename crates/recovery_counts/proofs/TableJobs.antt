-- A table of lines has the jobs of its script, place by place.
use Rattle.std.specs.Prelude.{slice_index_or}
use Rattle.std.proofs.Common.{◌≡◌, ℕ, zero, suc, List, [], ◌∷◌, length, map, refl, sym, ◌∙◌, ap}
use Rattle.rank_machine.specs.Setting.{Job, Setting, no_job}
use Rattle.script_lines.specs.declared.lines.Line.{Line}
use Rattle.script_lines.specs.Lines.{job_seen, of_slots, no_line, IsTableOf}
use Rattle.recovery_counts.specs.Counted.{job_at}

long_seen : (table : List Line) → length (map job_seen table) ≡ length table
long_seen [] = refl
long_seen (x ∷ xs) = ap suc (long_seen xs)

long_jobs : (jobs : List Job) → length (map of_slots jobs) ≡ length jobs
long_jobs [] = refl
long_jobs (j ∷ js) = ap suc (long_jobs js)

pub as-long : (s : Setting) (table : List Line) → IsTableOf s.jobs table → length table ≡ length s.jobs
as-long s table is = sym (long_seen table) ∙ (ap length is ∙ long_jobs s.jobs)

record AreAlike (a b line factors : ℕ) : Type 0 where
  line_same : a ≡ line
  factors_same : b ≡ factors

seen_at : (table : List Line) (i : ℕ) → AreAlike (slice_index_or (map job_seen table) i (no_job 0)).line (slice_index_or (map job_seen table) i (no_job 0)).factors (slice_index_or table i (no_line 0)).line (slice_index_or table i (no_line 0)).factors
seen_at [] i = record { line_same = refl; factors_same = refl }
seen_at (x ∷ xs) zero = record { line_same = refl; factors_same = refl }
seen_at (x ∷ xs) (suc i) = seen_at xs i

slots_at : (jobs : List Job) (i : ℕ) → AreAlike (slice_index_or (map of_slots jobs) i (no_job 0)).line (slice_index_or (map of_slots jobs) i (no_job 0)).factors (slice_index_or jobs i (no_job 0)).line (slice_index_or jobs i (no_job 0)).factors
slots_at [] i = record { line_same = refl; factors_same = refl }
slots_at (j ∷ js) zero = record { line_same = refl; factors_same = refl }
slots_at (j ∷ js) (suc i) = slots_at js i

pub lines-jobs : (s : Setting) (table : List Line) (i : ℕ) → IsTableOf s.jobs table → ((job_at s i).line ≡ (slice_index_or table i (no_line 0)).line) × ((job_at s i).factors ≡ (slice_index_or table i (no_line 0)).factors)
lines-jobs s table i is =
    let seen = seen_at table i in
    let slots = slots_at s.jobs i in
    (sym slots.line_same ∙ (sym (ap (λ js. (slice_index_or js i (no_job 0)).line) is) ∙ seen.line_same), sym slots.factors_same ∙ (sym (ap (λ js. (slice_index_or js i (no_job 0)).factors) is) ∙ seen.factors_same))
