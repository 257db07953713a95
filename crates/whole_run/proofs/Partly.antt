-- A line of several phases: each commits as a part of the line, and the commit of the last one ends it.
use Rattle.std.proofs.Common.{◌≡◌, ◌+◌, ◌*◌, ◌≤◌, ◌<◌, ◌==◌, ◌&&◌, ℕ, suc, true, false, nat_lt, List, [], ◌∷◌, ◌++◌, Option, Some, refl, sym, ap, subst, ◌∙◌, ⊎_elim, arith}
use Rattle.std.specs.Prelude.{nat_le, Contains}
use Rattle.std.specs.List.{sum_by}
use Rattle.std.proofs.lemmas.List.{append-nil}
use Rattle.std.proofs.lemmas.List.Elements.{Contains-append_left, Contains-push}
use Rattle.std.proofs.lemmas.List.Sums.{sum_by-append, sum_by-cons}
use Rattle.std.proofs.lemmas.Bool.{leb-true, le-leb, lt-ltb, ltb-true, eqb-true, eq-eqb, or_cases, or_left, or_right, and_parts, and_from, true≢false, cases_Bool, false_from_ne_true}
use Rattle.run_data.specs.declared.command.Command.{Command}
use Rattle.run_data.specs.Script.{Numbered, commands_of, command_at, modulus_of}
use Rattle.rank_machine.specs.declared.mark.Mark.{Mark}
use Rattle.rank_machine.specs.declared.record.Rec.{Rec}
use Rattle.rank_machine.specs.declared.record.Rec.TheVariants as r
use Rattle.rank_machine.specs.Setting.{Setting, is_job}
use Rattle.rank_machine.specs.Scripts.{Matrices, file_of, setting_of}
use Rattle.rank_machine.specs.State.{end_mark}
use Rattle.rank_machine.specs.Effect.{has_ended}
use Rattle.rank_machine.specs.Losses.{last_ended}
use Rattle.script_bounds.specs.Bounds.{records_in, plain_bound, losses, phase_steps, recovery_steps}
use Rattle.serial_model.specs.Serial.{no_values, text_from, up_to, text_to}
use Rattle.block_world.specs.World.{WorldView, setting_in, state_of}
use Rattle.run_laws.specs.Due.{IsRunning}
use Rattle.run_laws.specs.Traces.{spent}
use Rattle.phases.specs.Plans.{Plan, Progress}
use Rattle.loss_recovery.specs.Driven.{IsDriven, CostsAtMost}
use Rattle.world_heal.specs.Costs.{KeepsGoing, KeepsShort, KeepsHealing, KeepsHolding}
use Rattle.whole_run.specs.PrintedFrom.{IsTextOf, ArePrinted}
use Rattle.line_laws.proofs.UpTo.{one_of, up_to-next, text-append, values-append}
use Rattle.whole_run.specs.Until.{values_at, bound_until, AllEndUntil}
use Rattle.line_laws.specs.Lines.{values_after, values_of, text_added}
use Rattle.whole_run.specs.Between.{StandsFor, IsInBounds, HasRun, cost}
use Rattle.whole_run.specs.Inside.{IsPartly}
use Rattle.whole_run.proofs.Ending.{setting_is, inside}
use Rattle.whole_run.proofs.Inward.{inside-next}
use Rattle.whole_run.proofs.Lasting.{last_append}
use Rattle.whole_run.proofs.Later.{AreLater, printed-later}
use Rattle.whole_run.proofs.Passing.{printed-append, le_step}
use Rattle.whole_run.proofs.Shorter.{few-until}

-- the last phase of the next line has been driven, after others that used so many records, to the commit that ends the line, in bounds; it left what the line's command is to leave, and
-- printed what it is to print
pub record EndsLineAfter (script : List (Option Command)) (files : Matrices) (line used : ℕ) (old new : WorldView) (x : Command) (text : List ℕ) : Type 1 where
  pub command : command_at (commands_of script) (suc line) ≡ Some x
  pub plan : Plan
  pub progress : Progress
  pub mark : plan.mark ≡ end_mark (suc line)
  pub driven : IsDriven plan progress old new
  pub few : used + plan.most_records ≤ records_in (commands_of script) (suc line) x
  pub goes : KeepsGoing old new
  pub short : KeepsShort (phase_steps (commands_of script)) old new
  pub heals : KeepsHealing (recovery_steps (commands_of script)) old new
  pub held : KeepsHolding old new
  pub costs : CostsAtMost (phase_steps (commands_of script)) (recovery_steps (commands_of script)) old new plan.most_records
  pub later : AreLater line progress.takes
  pub stands : StandsFor (setting_of script files) (commands_of script) (state_of new) (values_after (modulus_of (commands_of script)) (file_of files) (suc line) x (values_at (file_of files) (commands_of script) line))
  pub says : IsTextOf (setting_of script files) (commands_of script) ((state_of old).committed ++ progress.takes) (suc line) x text
  pub text_is : text ≡ text_added (commands_of script) (suc line) x (values_at (file_of files) (commands_of script) line)

-- ---- one line more
one_line_more : (script : List (Option Command)) (line : ℕ) (x : Command) → command_at (commands_of script) (suc line) ≡ Some x → up_to (suc line) (commands_of script) ≡ up_to line (commands_of script) ++ record { line = suc line; command = x } ∷ []
one_line_more script line x e = up_to-next 1 line script ∙ ap (λ o. up_to line (commands_of script) ++ one_of (suc line) o) e

-- its records are counted in the bound
pub bound-next : (script : List (Option Command)) (line : ℕ) (x : Command) → command_at (commands_of script) (suc line) ≡ Some x
    → bound_until (suc line) (commands_of script) ≡ bound_until line (commands_of script) + records_in (commands_of script) (suc line) x
bound-next script line x e =
    let ns = commands_of script in
    ap (λ xs. sum_by (λ (n : Numbered). records_in ns n.line n.command) xs) (one_line_more script line x e)
    ∙ (sum_by-append (λ n. records_in ns n.line n.command) (up_to line ns) (record { line = suc line; command = x } ∷ [])
    ∙ omega (arith, sum_by-cons (λ (n : Numbered). records_in ns n.line n.command) (record { line = suc line; command = x }) []))

-- so as many as the line may make fit into the bound of the script
pub line-fits : (script : List (Option Command)) (line used : ℕ) (x : Command) → command_at (commands_of script) (suc line) ≡ Some x → used ≤ records_in (commands_of script) (suc line) x
    → bound_until line (commands_of script) + used ≤ plain_bound (commands_of script)
line-fits script line used x e few = omega (arith, few, bound-next script line x e, few-until (suc line) (commands_of script))

-- ---- in the line
-- before the first phase of the line
pub partly-begins : (script : List (Option Command)) (files : Matrices) (line : ℕ) (w : WorldView) (out : List ℕ) → HasRun script files line w out → IsPartly script files line 0 w out
partly-begins script files line w out h = record { inside = inside script files line w out h; ends = h.ends }

-- what has ended has ended in a longer journal
ends_later : (s : Setting) (line : ℕ) (journal added : List Rec) → AllEndUntil s line journal → AllEndUntil s line (journal ++ added)
ends_later s line journal added h at job le = Contains-append_left journal added (r.Commit (end_mark at) false) (h at job le)

-- a phase of the line that commits as a part of it
pub partly-next : (script : List (Option Command)) (files : Matrices) (line used : ℕ) (old new : WorldView) (out : List ℕ) (plan : Plan) (progress : Progress) → IsPartly script files line used old out → IsDriven plan progress old new
    → plan.mark.line ≡ line + 1 → plan.mark.ended ≡ false → AreLater line progress.takes → IsRunning (setting_in old) old.journal → IsRunning (setting_in new) new.journal
    → bound_until line (commands_of script) + (used + plan.most_records) ≤ plain_bound (commands_of script)
    → CostsAtMost (phase_steps (commands_of script)) (recovery_steps (commands_of script)) old new plan.most_records
    → KeepsGoing old new → KeepsShort (phase_steps (commands_of script)) old new → KeepsHealing (recovery_steps (commands_of script)) old new → KeepsHolding old new
    → IsPartly script files line (used + plan.most_records) new out
partly-next script files line used old new out plan progress h driven here part late was_running running fits costs goes short heals held =
    let same : setting_in new ≡ setting_in old = ap (λ x. setting_of x new.files) driven.later.script ∙ ap (setting_of old.script) driven.later.files in
    record {
      inside = inside-next script files line used old new out plan progress h.inside driven here part late was_running running fits costs goes short heals held;
      ends = subst (λ s. AllEndUntil s line new.journal) (sym same) (subst (λ j. AllEndUntil (setting_in old) line j) (sym driven.later.journal) (ends_later (setting_in old) line old.journal driven.later.added h.ends));
    }

-- ---- the mark of the line's end
pub ended_at : (at line : ℕ) → has_ended (end_mark line) at ≡ nat_le at line
ended_at at line =
    ⊎_elim
    (λ (e : nat_le at line ≡ true). ended at line (leb-true at line e) ∙ sym e)
    (λ (e : nat_le at line ≡ false). false_from_ne_true (has_ended (end_mark line) at) (λ h. true≢false (sym (before at line h) ∙ e)) ∙ sym e)
    (cases_Bool (nat_le at line))
  where
    ended : (at line : ℕ) → at ≤ line → has_ended (end_mark line) at ≡ true
    ended at line le =
        ⊎_elim
        (λ (e : (at == line) ≡ true). or_right (nat_lt at line) ((at == line) && true) (and_from (at == line) true e refl))
        (λ (e : (at == line) ≡ false). or_left (nat_lt at line) ((at == line) && true) (lt-ltb at line (less at line le (λ s. true≢false (sym (eq-eqb at line s) ∙ e)))))
        (cases_Bool (at == line))
      where
        less : (a b : ℕ) → a ≤ b → (a ≡ b → ⊥) → a < b
        less a b le ne = grind arith

    before : (at line : ℕ) → has_ended (end_mark line) at ≡ true → nat_le at line ≡ true
    before at line h =
        le-leb at line
        (⊎_elim
        (λ (e : nat_lt at line ≡ true). omega (arith, ltb-true at line e))
        (λ (e : ((at == line) && true) ≡ true). omega (arith, eqb-true at line (and_parts (at == line) true e).0))
        (or_cases (nat_lt at line) ((at == line) && true) h))

begun : (m : Mark) (line : ℕ) → nat_lt 0 line ≡ true → m ≡ end_mark line → m.ended ≡ nat_lt 0 m.line
begun m line some e = ap (λ (m : Mark). m.ended) e ∙ sym (ap (λ (m : Mark). nat_lt 0 m.line) e ∙ some)

-- ---- the line that ended last
ends_there : (journal before : List Rec) (line : ℕ) → journal ≡ before ++ r.Commit (end_mark line) false ∷ [] → last_ended journal ≡ line
ends_there journal before line e = ap last_ended e ∙ last_append 0 before (r.Commit (end_mark line) false ∷ [])

commit_there : (journal before : List Rec) (line : ℕ) → journal ≡ before ++ r.Commit (end_mark line) false ∷ [] → Contains journal (r.Commit (end_mark line) false)
commit_there journal before line e =
    subst (λ j. Contains j (r.Commit (end_mark line) false)) (sym e) (Contains-push before (r.Commit (end_mark line) false))

-- the last phase of the line, whose commit ends it, leads to the next line
pub partly-ends : (script : List (Option Command)) (files : Matrices) (line used : ℕ) (old new : WorldView) (out : List ℕ) (x : Command) (text : List ℕ) → IsPartly script files line used old out → EndsLineAfter script files line used old new x text
    → HasRun script files (suc line) new (out ++ text)
partly-ends script files line used old new out x text h g =
    let ns = commands_of script in
    let more : up_to (suc line) ns ≡ up_to line ns ++ record { line = suc line; command = x } ∷ [] = one_line_more script line x g.command in
    let was : setting_in old ≡ setting_of script files = setting_is old script files h.inside.script_is h.inside.files_are in
    let script_new : new.script ≡ script = g.driven.later.script ∙ h.inside.script_is in
    let files_new : new.files ≡ files = g.driven.later.files ∙ h.inside.files_are in
    let now : setting_in new ≡ setting_of script files = setting_is new script files script_new files_new in
    let same : setting_in new ≡ setting_in old = now ∙ sym was in
    let mark : (state_of new).mark ≡ end_mark (suc line) = g.driven.mark ∙ g.mark in
    let journal : new.journal ≡ g.driven.before ++ r.Commit (end_mark (suc line)) false ∷ [] = g.driven.commit ∙ ap (λ m. g.driven.before ++ r.Commit m false ∷ []) g.mark in
    let bounds : IsInBounds (setting_in old) (phase_steps ns) (recovery_steps ns) new.journal =
    record { goes = g.goes h.inside.bounds.goes; short = g.short h.inside.bounds.short; heals = g.heals h.inside.bounds.heals; held = g.held h.inside.bounds.held } in
    let before_it : ArePrinted (setting_of script files) ns ((state_of old).committed ++ g.progress.takes) (up_to line ns) out =
    printed-later (setting_of script files) ns (state_of old).committed g.progress.takes line ns out g.later (subst (λ s. ArePrinted s ns (state_of old).committed (up_to line ns) out) was h.inside.printed) in
    let printed : ArePrinted (setting_of script files) ns ((state_of old).committed ++ g.progress.takes) (up_to line ns ++ record { line = suc line; command = x } ∷ []) (out ++ text) =
    printed-append (setting_of script files) ns ((state_of old).committed ++ g.progress.takes) (up_to line ns) (record { line = suc line; command = x } ∷ []) out text before_it (text, [], g.says, refl, sym (append-nil text)) in
    let values : values_at (file_of files) ns (suc line) ≡ values_after (modulus_of ns) (file_of files) (suc line) x (values_at (file_of files) ns line) =
    ap (λ xs. values_of (modulus_of ns) (file_of files) xs no_values) more ∙ values-append (modulus_of ns) (file_of files) (up_to line ns) (record { line = suc line; command = x } ∷ []) no_values in
    let said : text_to (file_of files) ns (suc line) ≡ text_to (file_of files) ns line ++ (text_added ns (suc line) x (values_at (file_of files) ns line) ++ []) =
    ap (λ xs. text_from (file_of files) ns xs no_values) more ∙ text-append (file_of files) ns (up_to line ns) (record { line = suc line; command = x } ∷ []) no_values in
    let bound : bound_until (suc line) ns ≡ bound_until line ns + records_in ns (suc line) x = bound-next script line x g.command in
    record {
      script_is = script_new;
      files_are = files_new;
      rest = g.driven.rest;
      done = λ at job. ap (λ m. has_ended m at) mark ∙ ended_at at (suc line);
      none_begun = begun (state_of new).mark (suc line) (lt-ltb 0 (suc line) (omega arith)) mark;
      last = ap (λ k. nat_le k (suc line)) (ends_there new.journal g.driven.before (suc line) journal) ∙ le-leb (suc line) (suc line) (omega arith);
      ends = λ at job le.
          ⊎_elim
          (λ (e : (at == suc line) ≡ true). subst (λ k. Contains new.journal (r.Commit (end_mark k) false)) (sym (eqb-true at (suc line) e)) (commit_there new.journal g.driven.before (suc line) journal))
          (λ (e : (at == suc line) ≡ false).
          subst (λ j. Contains j (r.Commit (end_mark at) false)) (sym g.driven.later.journal)
          (Contains-append_left old.journal g.driven.later.added (r.Commit (end_mark at) false) (h.ends at (subst (λ s. is_job s at ≡ true) same job) (le_step at line le (λ k. true≢false (sym (eq-eqb at (suc line) k) ∙ e))))))
          (cases_Bool (at == suc line));
      stands = subst (λ s. StandsFor s ns (state_of new) (values_at (file_of files) ns (suc line))) (sym now) (subst (λ v. StandsFor (setting_of script files) ns (state_of new) v) (sym values) g.stands);
      printed = subst (λ s. ArePrinted s ns (state_of new).committed (up_to (suc line) ns) (out ++ text)) (sym now)
          (subst (λ xs. ArePrinted (setting_of script files) ns (state_of new).committed xs (out ++ text)) (sym more)
          (subst (λ t. ArePrinted (setting_of script files) ns t (up_to line ns ++ record { line = suc line; command = x } ∷ []) (out ++ text)) (sym g.driven.committed) printed));
      text = (λ i. h.inside.text i ++ (g.text_is ∙ sym (append-nil (text_added ns (suc line) x (values_at (file_of files) ns line)))) i) ∙ sym said;
      bounds = subst (λ s. IsInBounds s (phase_steps ns) (recovery_steps ns) new.journal) (sym same) bounds;
      few = subst (λ s. spent (cost ns) s new.journal ≤ bound_until (suc line) ns + losses ns * cost ns) (sym same) (omega (arith, g.costs, h.inside.few, g.few, bound));
    }
