-- A phase that commits inside a line leaves the run inside it.
use Rattle.std.proofs.Common.{◌≡◌, ◌+◌, ◌*◌, ◌≤◌, ℕ, Bool, true, false, List, [], ◌∷◌, ◌++◌, Option, refl, sym, ap, subst, ◌∙◌, ⊎_elim, arith, inl, inr}
use Rattle.std.specs.Prelude.{◌⊎◌, if◌then◌else◌, nat_le}
use Rattle.std.proofs.lemmas.Bool.{leb-true, le-leb}
use Rattle.run_data.specs.declared.command.Command.{Command}
use Rattle.run_data.specs.Script.{commands_of}
use Rattle.rank_machine.specs.declared.mark.Mark.{Mark}
use Rattle.rank_machine.specs.declared.record.Rec.{Rec}
use Rattle.rank_machine.specs.declared.record.Rec.TheVariants as r
use Rattle.rank_machine.specs.Setting.{Setting, is_job}
use Rattle.rank_machine.specs.Scripts.{Matrices, setting_of}
use Rattle.rank_machine.specs.State.{State, opened}
use Rattle.rank_machine.specs.Effect.{after, replay, state_after}
use Rattle.rank_machine.specs.Legal.{IsLegalFrom, IsLegal}
use Rattle.script_bounds.specs.Bounds.{plain_bound, losses, phase_steps, recovery_steps}
use Rattle.block_world.specs.World.{WorldView, setting_in, state_of}
use Rattle.run_laws.specs.Due.{IsRunning}
use Rattle.run_laws.proofs.Journals.{state-append, IsLegalFrom-later}
use Rattle.phases.specs.Plans.{Plan, Progress}
use Rattle.loss_recovery.specs.Driven.{IsDriven, CostsAtMost}
use Rattle.world_heal.specs.Costs.{KeepsGoing, KeepsShort, KeepsHealing, KeepsHolding}
use Rattle.whole_run.specs.PrintedFrom.{ArePrinted}
use Rattle.serial_model.specs.Serial.{up_to}
use Rattle.rank_machine.specs.Losses.{last_ended_from, last_ended}
use Rattle.whole_run.specs.Until.{bound_until}
use Rattle.whole_run.specs.Between.{IsInBounds, cost}
use Rattle.run_laws.specs.Traces.{spent}
use Rattle.whole_run.specs.Inside.{IsInside}
use Rattle.whole_run.proofs.Lasting.{place, commit_on, last_append}
use Rattle.whole_run.proofs.Later.{AreLater, printed-later}

-- the line that ended last stands at or before the mark, and never falls
abbrev IsUnder : ℕ → Mark → Type 0
IsUnder line mark = (line ≡ 0) ⊎ (2 * line + 1 ≤ place mark)

record IsLast (line last : ℕ) (mark : Mark) : Type 0 where
  risen : line ≤ last
  under : IsUnder last mark

under_next : (line : ℕ) (a b : Mark) → place a ≤ place b → IsUnder line a → IsUnder line b
under_next line a b le h = ⊎_elim (λ (z : line ≡ 0). inl z) (λ (u : 2 * line + 1 ≤ place a). inr (omega (arith, u, le))) h

marked : (ended : Bool) (at line before : ℕ) → before ≤ 2 * at + (if ended then 1 else 0) → (line ≡ 0) ⊎ (2 * line + 1 ≤ before)
    → (line ≤ (if ended then at else line)) × (((if ended then at else line) ≡ 0) ⊎ (2 * (if ended then at else line) + 1 ≤ 2 * at + (if ended then 1 else 0)))
marked true at line before on u = (⊎_elim (λ (z : line ≡ 0). omega (arith, z)) (λ (v : 2 * line + 1 ≤ before). omega (arith, v, on)) u, inr (omega arith))
marked false at line before on u = (omega arith, ⊎_elim (λ (z : line ≡ 0). inl z) (λ (v : 2 * line + 1 ≤ before). inr (omega (arith, v, on))) u)

last_scan : (s : Setting) (st : State) (line : ℕ) (xs : List Rec) → IsLegalFrom s st xs → IsUnder line st.mark → IsLast line (last_ended_from line xs) (replay s st xs).mark
last_scan s st line [] h u = record { risen = omega arith; under = u }
last_scan s st line (r.Commit m b ∷ xs) h u =
    let next : (line ≤ (if m.ended then m.line else line)) × IsUnder (if m.ended then m.line else line) m = marked m.ended m.line line (place st.mark) (commit_on s st m b h.0.next) u in
    let more : IsLast (if m.ended then m.line else line) (last_ended_from (if m.ended then m.line else line) xs) (replay s (after s st (r.Commit m b)) xs).mark =
    last_scan s (after s st (r.Commit m b)) (if m.ended then m.line else line) xs h.1 next.1 in
    record { risen = omega (arith, next.0, more.risen); under = more.under }
last_scan s st line (r.Feed a b ∷ xs) h u = last_scan s (after s st (r.Feed a b)) line xs h.1 u
last_scan s st line (r.Kernel a b ∷ xs) h u = last_scan s (after s st (r.Kernel a b)) line xs h.1 u
last_scan s st line (r.Send a b c ∷ xs) h u = last_scan s (after s st (r.Send a b c)) line xs h.1 u
last_scan s st line (r.Recv a b c ∷ xs) h u = last_scan s (after s st (r.Recv a b c)) line xs h.1 u
last_scan s st line (r.Save a b ∷ xs) h u = last_scan s (after s st (r.Save a b)) line xs h.1 u
last_scan s st line (r.Take a b ∷ xs) h u = last_scan s (after s st (r.Take a b)) line xs h.1 u
last_scan s st line (r.Restore ∷ xs) h u = last_scan s (after s st r.Restore) line xs h.1 u
last_scan s st line (r.Spawn a ∷ xs) h u = last_scan s (after s st (r.Spawn a)) line xs h.1 u
last_scan s st line (r.Lose a ∷ xs) h u = last_scan s (after s st (r.Lose a)) line xs h.1 u

-- from a journal to a longer one
last_later : (s : Setting) (journal added : List Rec) → IsLegal s journal → IsLegal s (journal ++ added) → IsLast (last_ended journal) (last_ended (journal ++ added)) (state_after s (journal ++ added)).mark
last_later s journal added legal legal' =
    let was : IsLast 0 (last_ended journal) (state_after s journal).mark = last_scan s (opened s) 0 journal legal (inl refl) in
    let now : IsLast (last_ended journal) (last_ended_from (last_ended journal) added) (replay s (state_after s journal) added).mark = last_scan s (state_after s journal) (last_ended journal) added (IsLegalFrom-later s (opened s) journal added legal') was.under in
    subst (λ k. IsLast (last_ended journal) k (state_after s (journal ++ added)).mark) (sym (last_append 0 journal added))
    (subst (λ (st : State). IsLast (last_ended journal) (last_ended_from (last_ended journal) added) st.mark) (sym (state-append s journal added)) now)

-- a phase of the next line that commits as a part of it
pub inside-next : (script : List (Option Command)) (files : Matrices) (line used : ℕ) (old new : WorldView) (out : List ℕ) (plan : Plan) (progress : Progress) → IsInside script files line used old out → IsDriven plan progress old new
    → plan.mark.line ≡ line + 1 → plan.mark.ended ≡ false → AreLater line progress.takes → IsRunning (setting_in old) old.journal → IsRunning (setting_in new) new.journal
    → bound_until line (commands_of script) + (used + plan.most_records) ≤ plain_bound (commands_of script)
    → CostsAtMost (phase_steps (commands_of script)) (recovery_steps (commands_of script)) old new plan.most_records
    → KeepsGoing old new → KeepsShort (phase_steps (commands_of script)) old new → KeepsHealing (recovery_steps (commands_of script)) old new → KeepsHolding old new
    → IsInside script files line (used + plan.most_records) new out
inside-next script files line used old new out plan progress h driven here part late was_running running fits costs goes short heals held =
    let same : setting_in new ≡ setting_in old = ap (λ x. setting_of x new.files) driven.later.script ∙ ap (setting_of old.script) driven.later.files in
    let legal : IsLegal (setting_in old) (old.journal ++ driven.later.added) = subst (λ j. IsLegal (setting_in old) j) driven.later.journal (subst (λ s. IsLegal s new.journal) same running.legal) in
    let now : IsLast (last_ended old.journal) (last_ended (old.journal ++ driven.later.added)) (state_after (setting_in old) (old.journal ++ driven.later.added)).mark = last_later (setting_in old) old.journal driven.later.added was_running.legal legal in
    let at : IsLast (last_ended old.journal) (last_ended new.journal) (state_after (setting_in old) new.journal).mark = subst (λ j. IsLast (last_ended old.journal) (last_ended j) (state_after (setting_in old) j).mark) (sym driven.later.journal) now in
    let mark : (state_after (setting_in old) new.journal).mark ≡ plan.mark = ap (λ s. (state_after s new.journal).mark) (sym same) ∙ driven.mark in
    let placed : place (state_after (setting_in old) new.journal).mark ≡ 2 * (line + 1) =
    ap place mark ∙ (ap (λ b. 2 * plan.mark.line + (if b then 1 else 0)) part ∙ omega (arith, here)) in
    let bounds : IsInBounds (setting_in old) (phase_steps (commands_of script)) (recovery_steps (commands_of script)) new.journal =
    record { goes = goes h.bounds.goes; short = short h.bounds.short; heals = heals h.bounds.heals; held = held h.bounds.held } in
    record {
      script_is = driven.later.script ∙ h.script_is;
      files_are = driven.later.files ∙ h.files_are;
      rest = driven.rest;
      last = le-leb (last_ended new.journal) line (⊎_elim (λ (z : last_ended new.journal ≡ 0). omega (arith, z)) (λ (u : 2 * last_ended new.journal + 1 ≤ place (state_after (setting_in old) new.journal).mark). omega (arith, u, placed)) at.under);
      ended = λ place job le.
          let was : nat_le place (last_ended old.journal) ≡ true = h.ended place (subst (λ s. is_job s place ≡ true) same job) le in
          le-leb place (last_ended new.journal) (omega (arith, at.risen, leb-true place (last_ended old.journal) was));
      printed = subst (λ s. ArePrinted s (commands_of script) (state_of new).committed (up_to line (commands_of script)) out) (sym same)
          (subst (λ t. ArePrinted (setting_in old) (commands_of script) t (up_to line (commands_of script)) out) (sym driven.committed)
          (printed-later (setting_in old) (commands_of script) (state_of old).committed progress.takes line (commands_of script) out late h.printed));
      text = h.text;
      bounds = subst (λ s. IsInBounds s (phase_steps (commands_of script)) (recovery_steps (commands_of script)) new.journal) (sym same) bounds;
      few = subst (λ s. spent (cost (commands_of script)) s new.journal ≤ (bound_until line (commands_of script) + (used + plan.most_records)) + losses (commands_of script) * cost (commands_of script)) (sym same) (omega (arith, costs, h.few));
      fits = fits;
    }
