-- At which place of a script the job of a line stands, and at which place of a table its line.
use Rattle.std.specs.Prelude.{◌==◌, if◌then◌else◌, slice_index_or, nat_lt, nat_le}
use Rattle.std.proofs.Common.{◌≡◌, ◌<◌, ◌&&◌, ℕ, suc, true, false, not, List, [], ◌∷◌, length, get_or, is_some, refl, sym, ap, subst, ◌∙◌, ⊎_elim, arith}
use Rattle.std.proofs.lemmas.Bool.{cases_Bool, eqb-true, and_parts, false≢true, ltb-true}
use Rattle.rank_machine.specs.declared.mark.Mark.{Mark}
use Rattle.rank_machine.specs.Setting.{Job, Setting, job_in, no_job, is_matrix, factored}
use Rattle.rank_machine.specs.Effect.{has_ended, is_dropped, is_live_matrix, is_live_list}
use Rattle.script_lines.specs.declared.lines.Line.{Line}
use Rattle.script_lines.proofs.Lookups.{line_in-job, found_at}
use Rattle.script_lines.proofs.TableLaws.{factored_on}
use Rattle.world_heal.specs.Mended.{IsTable}

-- the job of a line stands at a place
pub record IsPlaceOf (jobs : List Job) (line i : ℕ) : Type 0 where
  pub within : i < length jobs
  pub job : slice_index_or jobs i (no_job 0) ≡ job_in jobs line
  pub number : (slice_index_or jobs i (no_job 0)).line ≡ line

-- one that is not that of a line that asks nothing stands at some place
place : (P : Job → Type 0) (jobs : List Job) (line : ℕ) → (P (no_job line) → ⊥) → P (job_in jobs line) → (i : ℕ) × IsPlaceOf jobs line i
place P [] line none h = absurd (none h)
place P (j ∷ js) line none h =
    ⊎_elim
    (λ (e : (j.line == line) ≡ true). (0, record { within = omega arith; job = sym (ap (λ b. if b then j else job_in js line) e); number = eqb-true j.line line e }))
    (λ (e : (j.line == line) ≡ false).
    let past : job_in (j ∷ js) line ≡ job_in js line = ap (λ b. if b then j else job_in js line) e in
    let later = place P js line none (subst P past h) in
    (suc later.0, record { within = omega (arith, later.1.within); job = later.1.job ∙ sym past; number = later.1.number }))
    (cases_Bool (j.line == line))

pub place-matrix : (s : Setting) (line : ℕ) → is_matrix s line ≡ true → (i : ℕ) × IsPlaceOf s.jobs line i
place-matrix s line h = place (λ (j : Job). is_some j.makes ≡ true) s.jobs line (λ e. false≢true e) h

pub place-list : (s : Setting) (line : ℕ) → 0 < factored s line → (i : ℕ) × IsPlaceOf s.jobs line i
place-list s line h = place (λ (j : Job). 0 < j.factors) s.jobs line (λ lt. omega (arith, lt)) h

-- a live matrix is a matrix, and a live list is of a line that factors one
pub live-matrix : (s : Setting) (mark : Mark) (line : ℕ) → is_live_matrix s mark line ≡ true → is_matrix s line ≡ true
live-matrix s mark line h = (and_parts (is_matrix s line) (has_ended mark line) (and_parts (is_matrix s line && has_ended mark line) (not (is_dropped s mark line)) h).0).0

pub live-list : (s : Setting) (mark : Mark) (line : ℕ) → is_live_list s mark line ≡ true → 0 < factored s line
live-list s mark line h =
    ltb-true 0 (factored s line) (and_parts (nat_lt 0 (factored s line)) (nat_le line mark.line) (and_parts (nat_lt 0 (factored s line) && nat_le line mark.line) (not (is_dropped s mark line)) h).0).0

-- of a sound table, the line at a place is what its number stands for
pub line-factors : (s : Setting) (table : List Line) (i : ℕ) (d : Line) → IsTable s table → i < length table → factored s (get_or table i d).line ≡ (get_or table i d).factors
line-factors s table i d is lt =
    let line = (get_or table i d).line in
    sym (factored_on s table 0 is.lines line)
    ∙ (ap (λ (j : Job). j.factors) (sym (line_in-job table line)) ∙ ap (λ (x : Line). x.factors) (found_at table line i d is.sound.rising lt refl))
