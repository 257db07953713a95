-- Under each mark of a legal journal a recovery takes no more records than a script's bound counts for one.
use Rattle.std.proofs.Common.{◌≡◌, ℕ, suc, ◌<◌, ◌≤◌, ◌==◌, ◌&&◌, ◌||◌, nat_lt, Bool, true, false, List, [], ◌∷◌, Option, Some, None, refl, sym, ap, subst, ◌∙◌, ⊎_elim, arith, inl, inr}
use Rattle.std.specs.Prelude.{◌⊎◌, if◌then◌else◌}
use Rattle.std.specs.List.{sum_by}
use Rattle.std.proofs.lemmas.Bool.{cases_Bool, true≢false, and_parts, or_left, or_right, eqb-true, eq-eqb, ltb-true, false_from_ne_true}
use Rattle.std.proofs.lemmas.List.Sums.{sum_by-cons}
use Rattle.run_data.specs.declared.command.Command.{Command}
use Rattle.run_data.specs.Script.{Numbered, commands_from, commands_of, command_at, makes_records, maker, name_made}
use Rattle.blacs_grid.specs.declared.Grid.{Grid}
use Rattle.rank_machine.specs.declared.mark.Mark.{Mark}
use Rattle.rank_machine.specs.declared.record.Rec.{Rec}
use Rattle.rank_machine.specs.declared.record.Rec.TheVariants as r
use Rattle.rank_machine.specs.Setting.{Job, Setting, ranks, some_job, is_job}
use Rattle.rank_machine.specs.Scripts.{Matrices, jobs_from, job_of, grids_from, setting_of}
use Rattle.rank_machine.specs.State.{State, opened}
use Rattle.rank_machine.specs.Effect.{after, replay, state_after, has_ended, current_in, current}
use Rattle.rank_machine.specs.Legal.{IsLegalFrom, IsLegal, IsNext}
use Rattle.rank_machine.proofs.Jobs.{job_of-line}
use Rattle.script_bounds.specs.Accepted.{KeepsRules}
use Rattle.script_rules.specs.Rules.{ranks_of}
use Rattle.script_bounds.specs.Bounds.{recovery_made, is_line, still_means, lives, live_recovery, greatest, recovery_steps}
use Rattle.script_rules.proofs.Before.{maker-lt}
use Rattle.run_laws.specs.Traces.{recovery_of, recovery_under}
use Rattle.script_recovery.proofs.GridsAt.{sizes-from}
use Rattle.script_recovery.proofs.LiveMost.{live-most}

-- ---- the line of a mark
abbrev Occurs : Setting → Mark → Type 0
Occurs s mark = (mark.line ≡ 0) ⊎ (is_job s mark.line ≡ true)

current_job : (js : List Job) (m : Mark) → 0 < current_in js m → some_job js (λ j. j.line == current_in js m) ≡ true
current_job [] m h = absurd (omega (arith, h))
current_job (j ∷ js) m h =
    ⊎_elim
    (λ (e : has_ended m j.line ≡ true). rw e (or_right (j.line == current_in js m) (some_job js (λ k. k.line == current_in js m)) (current_job js m (subst (λ b. 0 < (if b then current_in js m else j.line)) e h))))
    (λ (e : has_ended m j.line ≡ false). rw e (or_left (j.line == j.line) (some_job js (λ k. k.line == j.line)) (eq-eqb j.line j.line refl)))
    (cases_Bool (has_ended m j.line))

occurs_next : (s : Setting) (st : State) (mark : Mark) (healed : Bool) → IsNext s st mark healed → Occurs s st.mark → Occurs s mark
occurs_next s st mark true h was = subst (Occurs s) (sym h) was
occurs_next s st mark false h was =
    let is : (nat_lt 0 mark.line && (mark.line == current s st.mark)) ≡ true = (and_parts (nat_lt 0 mark.line && (mark.line == current s st.mark)) _ h).0 in
    let parts : (nat_lt 0 mark.line ≡ true) × ((mark.line == current s st.mark) ≡ true) = and_parts (nat_lt 0 mark.line) (mark.line == current s st.mark) is in
    let same : mark.line ≡ current s st.mark = eqb-true mark.line (current s st.mark) parts.1 in
    inr (ap (is_job s) same ∙ current_job s.jobs st.mark (subst (λ k. 0 < k) same (ltb-true 0 mark.line parts.0)))

occurs_from : (s : Setting) (st : State) (xs : List Rec) → IsLegalFrom s st xs → Occurs s st.mark → Occurs s (replay s st xs).mark
occurs_from s st [] h was = was
occurs_from s st (r.Commit m b ∷ xs) h was = occurs_from s (after s st (r.Commit m b)) xs h.1 (occurs_next s st m b h.0.next was)
occurs_from s st (r.Feed a b ∷ xs) h was = occurs_from s (after s st (r.Feed a b)) xs h.1 was
occurs_from s st (r.Kernel a b ∷ xs) h was = occurs_from s (after s st (r.Kernel a b)) xs h.1 was
occurs_from s st (r.Send a b c ∷ xs) h was = occurs_from s (after s st (r.Send a b c)) xs h.1 was
occurs_from s st (r.Recv a b c ∷ xs) h was = occurs_from s (after s st (r.Recv a b c)) xs h.1 was
occurs_from s st (r.Save a b ∷ xs) h was = occurs_from s (after s st (r.Save a b)) xs h.1 was
occurs_from s st (r.Take a b ∷ xs) h was = occurs_from s (after s st (r.Take a b)) xs h.1 was
occurs_from s st (r.Restore ∷ xs) h was = occurs_from s (after s st r.Restore) xs h.1 was
occurs_from s st (r.Spawn a ∷ xs) h was = occurs_from s (after s st (r.Spawn a)) xs h.1 was
occurs_from s st (r.Lose a ∷ xs) h was = occurs_from s (after s st (r.Lose a)) xs h.1 was

-- a line that makes records has a command
job_command : (ns : List Numbered) (grids : List Grid) (xs : List Numbered) (line : ℕ) → some_job (jobs_from ns grids xs) (λ j. j.line == line) ≡ true → (x : Command) × (command_at xs line ≡ Some x)
job_command ns grids [] line h = absurd (true≢false (sym h))
job_command ns grids (n ∷ xs) line h =
    ⊎_elim
    (λ (here : (n.line == line) ≡ true). (n.command, ap (λ b. if b then Some n.command else command_at xs line) here))
    (λ (other : (n.line == line) ≡ false).
    let rest : (x : Command) × (command_at xs line ≡ Some x) = job_command ns grids xs line (later other) in
    (rest.0, ap (λ b. if b then Some n.command else command_at xs line) other ∙ rest.1))
    (cases_Bool (n.line == line))
  where
    later : (n.line == line) ≡ false → some_job (jobs_from ns grids xs) (λ j. j.line == line) ≡ true
    later other =
        ⊎_elim
        (λ (made : makes_records n.command ≡ true).
        let j : Job = job_of ns grids n.line n.command in
        let not_it : (j.line == line) ≡ false = ap (λ k. k == line) (job_of-line ns grids n.line n.command) ∙ other in
        let t : ((j.line == line) || some_job (jobs_from ns grids xs) (λ k. k.line == line)) ≡ true =
        subst (λ b. some_job (if b then j ∷ jobs_from ns grids xs else jobs_from ns grids xs) (λ k. k.line == line) ≡ true) made h in
        ap (λ b. b || some_job (jobs_from ns grids xs) (λ k. k.line == line)) (sym not_it) ∙ t)
        (λ (none : makes_records n.command ≡ false). subst (λ b. some_job (if b then job_of ns grids n.line n.command ∷ jobs_from ns grids xs else jobs_from ns grids xs) (λ k. k.line == line) ≡ true) none h)
        (cases_Bool (makes_records n.command))

-- ---- the greatest
greatest_at : (f : ℕ → ℕ) (ns : List Numbered) (line : ℕ) (x : Command) → command_at ns line ≡ Some x → f line ≤ greatest (λ n. f n.line) ns
greatest_at f [] line x e = absurd cc
greatest_at f (n ∷ ns) line x e =
    ⊎_elim
    (λ (here : (n.line == line) ≡ true). let same : n.line ≡ line = eqb-true n.line line here in omega (arith, ap f same))
    (λ (other : (n.line == line) ≡ false). omega (arith, greatest_at f ns line x (ap (λ b. if b then Some n.command else command_at ns line) (sym other) ∙ e)))
    (cases_Bool (n.line == line))

-- before the first line nothing lives
none_lives : (cs : List Numbered) (n : Numbered) → 0 < n.line → lives cs 0 n ≡ false
none_lives cs n some =
    let far : (n.line == 0) ≡ false = false_from_ne_true (n.line == 0) (λ e. omega (arith, some, eqb-true n.line 0 e)) in
    ap (λ b. b || still_means cs 0 (name_made n.command) n.line) far ∙ by_name (name_made n.command)
  where
    by_name : (o : Option (List ℕ)) → still_means cs 0 o n.line ≡ false
    by_name None = refl
    by_name (Some name) = by_maker (maker cs 0 name) refl
      where
        by_maker : (o : Option ℕ) → maker cs 0 name ≡ o → is_line o n.line ≡ false
        by_maker None e = refl
        by_maker (Some l) e = absurd (omega (arith, maker-lt cs 0 name l e))

none_first : (cs : List Numbered) (k : ℕ) (lines : List (Option Command)) → 0 < k → sum_by (λ n. if lives cs 0 n then recovery_made cs n.line n.command else 0) (commands_from k lines) ≡ 0
none_first cs k [] some = refl
none_first cs k (None ∷ lines) some = none_first cs (suc k) lines (omega arith)
none_first cs k (Some d ∷ lines) some =
    let n : Numbered = record { line = k; command = d } in
    let f : Numbered → ℕ = λ n. if lives cs 0 n then recovery_made cs n.line n.command else 0 in
    let here : f n ≡ 0 = ap (λ b. if b then recovery_made cs k d else 0) (none_lives cs n some) in
    let rest : sum_by f (commands_from (suc k) lines) ≡ 0 = none_first cs (suc k) lines (omega arith) in
    sum_by-cons f n (commands_from (suc k) lines) ∙ omega (arith, here, rest)

-- under each mark that a legal journal has
pub recovery-most : (script : List (Option Command)) (files : Matrices) (journal : List Rec) → KeepsRules script → IsLegal (setting_of script files) journal
    → recovery_under (setting_of script files) (state_after (setting_of script files) journal).mark ≤ recovery_steps (commands_of script)
unfolding recovery_steps
recovery-most script files journal kept legal =
    let cs : List Numbered = commands_of script in
    let s : Setting = setting_of script files in
    let mark : Mark = (state_after s journal).mark in
    let all : ranks s ≡ ranks_of cs = sizes-from [] cs 0 in
    let live : recovery_of s mark s.jobs ≤ live_recovery cs mark.line = live-most script files kept mark in
    ⊎_elim
    (λ (first : mark.line ≡ 0). omega (arith, all, live, ap (live_recovery cs) first, none_first cs 1 script (omega arith)))
    (λ (job : is_job s mark.line ≡ true).
    let there : (x : Command) × (command_at cs mark.line ≡ Some x) = job_command cs (grids_from 0 cs) cs mark.line job in
    omega (arith, all, live, greatest_at (live_recovery cs) cs mark.line there.0 there.1))
    (occurs_from s (opened s) journal legal (inl refl))
