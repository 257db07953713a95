-- From what holds between lines, and inside a line, to what a run is.
use Rattle.std.proofs.Common.{◌≡◌, ◌<◌, ◌≤◌, ◌==◌, ◌&&◌, ℕ, Bool, true, false, nat_lt, List, ◌++◌, Option, length, refl, sym, ap, subst, ◌∙◌, ⊎_elim, arith, All}
use Rattle.std.specs.Prelude.{◌⊎◌, nat_le}
use Rattle.std.proofs.lemmas.Bool.{true≢false, cases_Bool, or_cases, and_parts, eqb-true, le-leb, ltb-true}
use Rattle.std.proofs.lemmas.Bool.Decides.{nat_tests}
use Rattle.run_data.specs.declared.command.Command.{Command}
use Rattle.run_data.specs.Script.{commands_of}
use Rattle.rank_machine.specs.declared.mark.Mark.{Mark}
use Rattle.rank_machine.specs.declared.record.Rec.{Rec}
use Rattle.rank_machine.specs.Setting.{Setting, is_job}
use Rattle.rank_machine.specs.State.{State, Took}
use Rattle.rank_machine.specs.Scripts.{Matrices, file_of, setting_of}
use Rattle.rank_machine.specs.Effect.{state_after, has_ended}
use Rattle.rank_machine.specs.Losses.{IsJournal, AreDue}
use Rattle.rank_machine.specs.Legal.{IsLegal}
use Rattle.rank_machine.specs.JournalText.{journal_text}
use Rattle.script_bounds.specs.Bounds.{phase_steps, recovery_steps}
use Rattle.block_world.specs.World.{WorldView, setting_in, state_of}
use Rattle.run_laws.specs.Due.{has_fallen, IsRunning}
use Rattle.run_laws.specs.LastCommit.{rest_after, with_spawned}
use Rattle.world_heal.specs.Ways.{rest_of}
use Rattle.world_heal.specs.declared.healing.Drove.{Drove}
use Rattle.world_heal.specs.declared.healing.Drove.TheVariants as d
use Rattle.world_heal.specs.Outcomes.{IsEnding, IsCutAt}
use Rattle.whole_run.specs.PrintedFrom.{ArePrinted}
use Rattle.serial_model.specs.Serial.{no_values, up_to, text_to}
use Rattle.rank_machine.specs.Losses.{last_ended}
use Rattle.whole_run.specs.Until.{AllEndUntil}
use Rattle.whole_run.specs.Between.{IsInBounds, HasRun}
use Rattle.whole_run.specs.Inside.{IsInside, KeepsBounds, ending_at}
use Rattle.whole_run.specs.WholeRun.{done, is_cut, EndsAs, IsRunOf}
use Rattle.whole_run.proofs.Lasting.{mark-rest, committed-rest, none-fell, last-marked, last-same}
use Rattle.whole_run.proofs.Shorter.{IsBy, printed-shorter, text-shorter, all-by, job-last, few-until, bound-is}

pub setting_is : (w : WorldView) (script : List (Option Command)) (files : Matrices) → w.script ≡ script → w.files ≡ files → setting_in w ≡ setting_of script files
setting_is w script files a b = ap (λ x. setting_of x w.files) a ∙ ap (setting_of script) b

-- ---- between two lines is inside the next
ended_last : (m : Mark) (last at : ℕ) → m.ended ≡ nat_lt 0 m.line → (m.ended ≡ true → last ≡ m.line) → has_ended m at ≡ true → nat_le at last ≡ true
ended_last m last at begun marked h =
    ⊎_elim
    (λ (e : m.ended ≡ true). le-leb at last (at_most m.line m.ended (marked e) (or_cases (nat_lt at m.line) ((at == m.line) && m.ended) h)))
    (λ (e : m.ended ≡ false). absurd (not_at m at (sym begun ∙ e) e h))
    (cases_Bool m.ended)
  where
    at_most : (line : ℕ) (c : Bool) → last ≡ line → (nat_lt at line ≡ true) ⊎ (((at == line) && c) ≡ true) → at ≤ last
    at_most line c e h = ⊎_elim (λ (p : nat_lt at line ≡ true). omega (arith, e, ltb-true at line p)) (λ p. omega (arith, e, eqb-true at line (and_parts (at == line) _ p).0)) h

    not_at : (m : Mark) (at : ℕ) → nat_lt 0 m.line ≡ false → m.ended ≡ false → has_ended m at ≡ true → ⊥
    not_at m at nought part h =
        ⊎_elim
        (λ (p : nat_lt at m.line ≡ true). none at m.line nought (ltb-true at m.line p))
        (λ (p : ((at == m.line) && m.ended) ≡ true). true≢false (sym (and_parts (at == m.line) m.ended p).1 ∙ part))
        (or_cases (nat_lt at m.line) ((at == m.line) && m.ended) h)
      where
        none : (at line : ℕ) → nat_lt 0 line ≡ false → at < line → ⊥
        none at line e h = grind (arith, nat_tests)

pub inside : (script : List (Option Command)) (files : Matrices) (line : ℕ) (w : WorldView) (out : List ℕ) → HasRun script files line w out → IsInside script files line 0 w out
inside script files line w out h = record {
  script_is = h.script_is;
  files_are = h.files_are;
  rest = h.rest;
  last = h.last;
  ended = λ at job le. ended_last (state_of w).mark (last_ended w.journal) at h.none_begun (last-marked (setting_in w) w.journal) (h.done at job ∙ le);
  printed = h.printed;
  text = h.text;
  bounds = h.bounds;
  few = omega (arith, h.few);
  fits = omega (arith, few-until line (commands_of script));
}

-- ---- what was printed is that of the lines up to the last that ended
record IsToldAt (script : List (Option Command)) (files : Matrices) (taken : List Took) (last : ℕ) (out : List ℕ) : Type 0 where
  printed : ArePrinted (setting_of script files) (commands_of script) taken (up_to last (commands_of script)) out
  text : out ≡ text_to (file_of files) (commands_of script) last

told_at : (script : List (Option Command)) (files : Matrices) (line used : ℕ) (w : WorldView) (out : List ℕ) → IsInside script files line used w out → IsToldAt script files (state_of w).committed (last_ended w.journal) out
told_at script files line used w out h =
    let same : setting_in w ≡ setting_of script files = setting_is w script files h.script_is h.files_are in
    let by : All (IsBy line (last_ended w.journal)) (commands_of script) = all-by script files line (last_ended w.journal) (λ at job le. h.ended at (subst (λ s. is_job s at ≡ true) (sym same) job) le) in
    record {
      printed = printed-shorter line (last_ended w.journal) h.last (setting_of script files) (commands_of script) (state_of w).committed (commands_of script) out by
          (subst (λ s. ArePrinted s (commands_of script) (state_of w).committed (up_to line (commands_of script)) out) same h.printed);
      text = h.text ∙ text-shorter line (last_ended w.journal) h.last (file_of files) (commands_of script) (commands_of script) no_values by;
    }

-- ---- a run to its end
pub run-done : (script : List (Option Command)) (files : Matrices) (line : ℕ) (w : WorldView) (out : List ℕ) → HasRun script files line w out → length script ≤ line → IsRunning (setting_in w) w.journal
    → IsRunOf script files done out (journal_text w.journal)
run-done script files line w out h all running =
    let same : setting_in w ≡ setting_of script files = setting_is w script files h.script_is h.files_are in
    let at : IsInside script files line 0 w out = inside script files line w out h in
    let told : IsToldAt script files (state_of w).committed (last_ended w.journal) out = told_at script files line 0 w out at in
    let fell : has_fallen w.journal ≡ false = none-fell w.journal h.rest.last in
    let legal : IsJournal (setting_in w) false w.journal = record { legal = running.legal; due = subst (λ b. AreDue (setting_in w) b w.journal) fell running.in_place } in
    record {
      records = w.journal;
      legal = subst (λ s. IsJournal s false w.journal) same legal;
      ends = λ end place job le. subst (λ s. AllEndUntil s line w.journal) same h.ends place job (le-leb place line (omega (arith, job-last script files place job, all)));
      printed = subst (λ s. ArePrinted (setting_of script files) (commands_of script) (state_after s w.journal).committed (up_to (last_ended w.journal) (commands_of script)) out) same told.printed;
      serial = told.text;
      in_bounds = subst (λ s. IsInBounds s (phase_steps (commands_of script)) (recovery_steps (commands_of script)) w.journal) same h.bounds;
      few = omega (arith, at.few, at.fits, bound-is (commands_of script));
      written = refl;
    }

-- ---- a run that was cut short
ends_at : (s : Setting) (journal : List Rec) (drove : Drove) → IsEnding s (state_after s journal) drove → EndsAs s (ending_at drove) journal
ends_at s journal d.Done h = absurd h
ends_at s journal (d.Beyond grid row) h = h
ends_at s journal (d.NoSpare rank) h = h

cut_at : (s : Setting) (journal : List Rec) (drove : Drove) → IsEnding s (state_after s journal) drove → is_cut (ending_at drove) ≡ true
cut_at s journal d.Done h = absurd h
cut_at s journal (d.Beyond grid row) h = refl
cut_at s journal (d.NoSpare rank) h = refl

pub run-cut : (script : List (Option Command)) (files : Matrices) (line used : ℕ) (old new : WorldView) (out : List ℕ) (drove : Drove) → IsInside script files line used old out → IsCutAt old new drove → KeepsBounds script old new
    → IsRunning (setting_in new) new.journal → IsRunOf script files (ending_at drove) out (journal_text new.journal)
run-cut script files line used old new out drove h cut keeps running =
    let was : setting_in old ≡ setting_of script files = setting_is old script files h.script_is h.files_are in
    let now : setting_in new ≡ setting_of script files = setting_is new script files (cut.later.script ∙ h.script_is) (cut.later.files ∙ h.files_are) in
    let told : IsToldAt script files (state_of old).committed (last_ended old.journal) out = told_at script files line used old out h in
    let same : setting_in new ≡ setting_in old = now ∙ sym was in
    let rest : rest_after (setting_in old) new.journal ≡ with_spawned (rest_after (setting_in old) old.journal) (rest_of new).spawned = ap (λ s. rest_after s new.journal) (sym same) ∙ cut.rest in
    let mark : (state_after (setting_in old) new.journal).mark ≡ (state_after (setting_in old) old.journal).mark =
    mark-rest (setting_in old) new.journal ∙ (ap (λ (st : State). st.mark) rest ∙ sym (mark-rest (setting_in old) old.journal)) in
    let committed : (state_after (setting_in new) new.journal).committed ≡ (state_of old).committed =
    ap (λ s. (state_after s new.journal).committed) same ∙ (committed-rest (setting_in old) new.journal ∙ (ap (λ (st : State). st.committed) rest ∙ sym (committed-rest (setting_in old) old.journal))) in
    let legal_long : IsLegal (setting_in old) (old.journal ++ cut.later.added) =
    subst (λ j. IsLegal (setting_in old) j) cut.later.journal (subst (λ s. IsLegal s new.journal) same running.legal) in
    let last : last_ended new.journal ≡ last_ended old.journal =
    ap last_ended cut.later.journal ∙ last-same (setting_in old) old.journal cut.later.added legal_long (ap (λ j. (state_after (setting_in old) j).mark) (sym cut.later.journal) ∙ mark) in
    let legal : IsJournal (setting_in new) true new.journal = record { legal = running.legal; due = subst (λ b. AreDue (setting_in new) b new.journal) cut.fell running.in_place } in
    let bounds : IsInBounds (setting_in old) (phase_steps (commands_of script)) (recovery_steps (commands_of script)) new.journal =
    record { goes = keeps.goes h.bounds.goes; short = keeps.short h.bounds.short; heals = keeps.heals h.bounds.heals; held = keeps.held h.bounds.held } in
    record {
      records = new.journal;
      legal = subst (λ b. IsJournal (setting_of script files) b new.journal) (sym (cut_at (setting_in new) new.journal drove cut.ending)) (subst (λ s. IsJournal s true new.journal) now legal);
      ends = subst (λ s. EndsAs s (ending_at drove) new.journal) now (ends_at (setting_in new) new.journal drove cut.ending);
      printed = subst (λ s. ArePrinted (setting_of script files) (commands_of script) (state_after s new.journal).committed (up_to (last_ended new.journal) (commands_of script)) out) now
          (subst (λ t. ArePrinted (setting_of script files) (commands_of script) t (up_to (last_ended new.journal) (commands_of script)) out) (sym committed)
          (subst (λ k. ArePrinted (setting_of script files) (commands_of script) (state_of old).committed (up_to k (commands_of script)) out) (sym last) told.printed));
      serial = told.text ∙ ap (text_to (file_of files) (commands_of script)) (sym last);
      in_bounds = subst (λ s. IsInBounds s (phase_steps (commands_of script)) (recovery_steps (commands_of script)) new.journal) was bounds;
      few = omega (arith, keeps.costs, h.few, h.fits, bound-is (commands_of script));
      written = refl;
    }
