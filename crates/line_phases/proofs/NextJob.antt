-- The line that comes next: its job, the mark of its end, and that nothing has dropped what it makes.
use Rattle.std.proofs.Common.{◌≡◌, ℕ, suc, ◌<◌, ◌≤◌, ◌==◌, ◌&&◌, ◌||◌, nat_lt, Bool, true, false, List, [], ◌∷◌, Option, Some, None, refl, sym, ap, subst, ◌∙◌, ⊎_elim, arith, IsTrue}
use Rattle.std.specs.Prelude.{if◌then◌else◌, nat_le, unwrap_or, is_some}
use Rattle.std.proofs.lemmas.Bool.{false≢true, true≢false, cases_Bool, lt-ltb, ltb-true, leb-true, le-leb, eqb-true, eq-eqb, ne_eqb, or_cases, or_from, and_parts, and_from, false_from_ne_true}
use Rattle.std.proofs.lemmas.Option.{same_Some}
use Rattle.run_data.specs.declared.command.Command.{Command}
use Rattle.run_data.specs.declared.command.Command.TheVariants as c
use Rattle.run_data.specs.Script.{Numbered, commands_from, commands_of, command_at, makes_records, maker, is_grid_line, grids_before, operand_number, meant, name_in}
use Rattle.run_data.proofs.Lines.{command_at-before}
use Rattle.blacs_grid.specs.declared.Grid.{Grid}
use Rattle.rank_machine.specs.declared.mark.Mark.{Mark}
use Rattle.rank_machine.specs.Setting.{Job, some_job, job, is_job, is_matrix}
use Rattle.rank_machine.specs.Scripts.{Matrices, job_of, jobs_from, grids_from, line_meant, setting_of}
use Rattle.rank_machine.specs.State.{end_mark}
use Rattle.rank_machine.specs.Effect.{has_ended, is_dropped}
use Rattle.rank_machine.specs.Marks.{follows}
use Rattle.rank_machine.proofs.Jobs.{job_of-line}
use Rattle.script_lines.proofs.JobAt.{job_for, job-in_script}
use Rattle.script_rules.specs.Rules.{command_on, maker_command, is_matrix_line, is_list_line}
use Rattle.script_rules.proofs.Before.{maker-lt}
use Rattle.script_bounds.specs.Accepted.{KeepsRules}
use Rattle.script_bounds.proofs.Limits.{thing_kept}
use Rattle.script_recovery.proofs.StillThere.{job-there}
use Rattle.run_laws.proofs.Scripts.{script_rising}
use Rattle.block_world.specs.World.{WorldView, setting_in, state_of}
use Rattle.line_laws.proofs.NextLine.{current-next, end-follows}
use Rattle.whole_run.specs.Between.{HasRun}
use Rattle.whole_run.proofs.Ending.{setting_is}

-- ---- the job of a line
pub job-is : (script : List (Option Command)) (files : Matrices) (line : ℕ) (x : Command) → command_at (commands_of script) line ≡ Some x
    → job (setting_of script files) line ≡ job_for (commands_of script) (grids_from 0 (commands_of script)) line (Some x)
job-is script files line x e = job-in_script script line ∙ ap (job_for (commands_of script) (grids_from 0 (commands_of script)) line) e

-- no line is line 0
pub no-line_zero : (script : List (Option Command)) (files : Matrices) → is_matrix (setting_of script files) 0 ≡ false
no-line_zero script files =
    ap (λ (j : Job). is_some j.makes) (job-in_script script 0)
    ∙ ap (λ (o : Option Command). is_some (job_for (commands_of script) (grids_from 0 (commands_of script)) 0 o).makes) (command_at-before 1 script 0 (omega arith))

-- ---- where exactly the lines up to one have ended, the mark of the next line's end comes next
pub below_next : (at line : ℕ) → nat_le at line ≡ nat_lt at (suc line)
below_next at line =
    ⊎_elim
    (λ (e : nat_le at line ≡ true). e ∙ sym (lt-ltb at (suc line) (omega (arith, leb-true at line e))))
    (λ (e : nat_le at line ≡ false). e ∙ sym (false_from_ne_true (nat_lt at (suc line)) (λ h. true≢false (sym (le-leb at line (omega (arith, ltb-true at (suc line) h))) ∙ e))))
    (cases_Bool (nat_le at line))

pub next-follows : (script : List (Option Command)) (files : Matrices) (line : ℕ) (mark : Mark) → is_job (setting_of script files) (suc line) ≡ true
    → ((at : ℕ) → is_job (setting_of script files) at ≡ true → has_ended mark at ≡ nat_le at line) → IsTrue (follows (setting_of script files) mark (end_mark (suc line)))
next-follows script files line mark job done =
    end-follows (setting_of script files) mark (suc line) (omega arith)
    (current-next (setting_of script files).jobs 0 mark (suc line) (script_rising script files) job (λ at there. done at there ∙ below_next at line))

-- a line whose command makes records is a job, so after the lines before it the mark of its end comes next
pub line-job : (script : List (Option Command)) (files : Matrices) (line : ℕ) (x : Command) → command_at (commands_of script) line ≡ Some x → makes_records x ≡ true → is_job (setting_of script files) line ≡ true
line-job script files line x e makes =
    let cs = commands_of script in
    job-there cs (grids_from 0 cs) cs (λ j. j.line == line) line x e makes (eq-eqb (job_of cs (grids_from 0 cs) line x).line line (job_of-line cs (grids_from 0 cs) line x))

pub line-follows : (script : List (Option Command)) (files : Matrices) (line : ℕ) (w : WorldView) (out : List ℕ) (x : Command) → HasRun script files line w out → command_at (commands_of script) (suc line) ≡ Some x → makes_records x ≡ true
    → IsTrue (follows (setting_of script files) (state_of w).mark (end_mark (suc line)))
line-follows script files line w out x h e makes =
    let same : setting_in w ≡ setting_of script files = setting_is w script files h.script_is h.files_are in
    next-follows script files line (state_of w).mark (line-job script files (suc line) x e makes) (λ at job. h.done at (subst (λ s. is_job s at ≡ true) (sym same) job))

-- ---- a drop means what an earlier line made
-- a name as seen from a line means the line of a command, which is not that of a grid
record IsThing (cs : List Numbered) (line : ℕ) (name : List ℕ) : Type 0 where
  at : ℕ
  maker_is : maker cs line name ≡ Some at
  no_grid : is_grid_line (command_at cs at) ≡ false

thing : (cs : List Numbered) (line : ℕ) (name : List ℕ) → (is_matrix_line (maker_command cs line name) || is_list_line (maker_command cs line name)) ≡ true → IsThing cs line name
thing cs line name t = by_maker (maker cs line name) refl t
  where
    no_grid_line : (o : Option Command) → (is_matrix_line o || is_list_line o) ≡ true → is_grid_line o ≡ false
    no_grid_line (Some (c.Grid n p q f)) t = absurd (false≢true t)
    no_grid_line (Some command) t = refl
    no_grid_line None t = refl

    by_maker : (o : Option ℕ) → maker cs line name ≡ o → (is_matrix_line (command_on cs o) || is_list_line (command_on cs o)) ≡ true → IsThing cs line name
    by_maker None m t = absurd (false≢true t)
    by_maker (Some at) m t = record { at = at; maker_is = m; no_grid = no_grid_line (command_at cs at) t }

meant_line : (cs : List Numbered) (line : ℕ) (name : List ℕ) → command_at cs line ≡ Some (c.Discard name) → (there : IsThing cs line name) → line_meant cs line 1 ≡ there.at
meant_line cs line name e there =
    ap (λ (o : Option Command). unwrap_or (meant cs line (name_in o 1)) 0) e
    ∙ ap (λ (o : Option ℕ). unwrap_or (operand_number cs o) 0) there.maker_is
    ∙ ap (λ (b : Bool). if b then grids_before cs there.at else there.at) there.no_grid

pub drop-means : (script : List (Option Command)) (line what : ℕ) (name : List ℕ) → KeepsRules script → command_at (commands_of script) line ≡ Some (c.Discard name) → line_meant (commands_of script) line 1 ≡ what
    → maker (commands_of script) line name ≡ Some what
drop-means script line what name kept e is =
    let cs = commands_of script in
    let there = thing cs line name (thing_kept script line name kept e) in
    there.maker_is ∙ ap (λ (l : ℕ). Some l) (sym (meant_line cs line name e there) ∙ is)

-- ---- no line up to one has dropped what that line makes
both_false : (a b : Bool) → (a ≡ true → b ≡ true → ⊥) → (a && b) ≡ false
both_false true b never = false_from_ne_true b (never refl)
both_false false b never = refl

module _ (ns : List Numbered) (grids : List Grid) (mark : Mark) (what : ℕ) (some : 0 < what) where
  abbrev drops_it : Job → Bool
  drops_it j = has_ended mark j.line && (j.drops == what)

  drops_here : (line : ℕ) (command : Command) → ((name : List ℕ) → command ≡ c.Discard name → has_ended mark line ≡ true → line_meant ns line 1 ≡ what → ⊥) → (has_ended mark line && ((job_of ns grids line command).drops == what)) ≡ false
  drops_here line (c.Discard name) never = both_false (has_ended mark line) (line_meant ns line 1 == what) (λ ended same. never name refl ended (eqb-true (line_meant ns line 1) what same))
  drops_here line command never = both_false (has_ended mark line) (0 == what) (λ ended same. (let zero_is : 0 ≡ what = eqb-true 0 what same in omega (arith, zero_is, some)))

  one_more : (b : Bool) (j : Job) (rest : List Job) → drops_it j ≡ false → some_job rest drops_it ≡ false → some_job (if b then j ∷ rest else rest) drops_it ≡ false
  one_more true j rest e more = or_from (drops_it j) (some_job rest drops_it) e more
  one_more false j rest e more = more

  no_drops : (k : ℕ) (lines : List (Option Command)) → ((line : ℕ) (name : List ℕ) → k ≤ line → command_at (commands_from k lines) line ≡ Some (c.Discard name) → has_ended mark line ≡ true → line_meant ns line 1 ≡ what → ⊥)
      → some_job (jobs_from ns grids (commands_from k lines)) drops_it ≡ false
  no_drops k [] never = refl
  no_drops k (None ∷ lines) never = no_drops (suc k) lines (λ line name le e ended is. never line name (omega (arith, le)) e ended is)
  no_drops k (Some d ∷ lines) never =
      one_more (makes_records d) (job_of ns grids k d) (jobs_from ns grids (commands_from (suc k) lines))
      (ap (λ (l : ℕ). has_ended mark l && ((job_of ns grids k d).drops == what)) (job_of-line ns grids k d)
      ∙ drops_here k d (λ name is ended meant_it. never k name (omega arith) (ap (λ (b : Bool). if b then Some d else command_at (commands_from (suc k) lines) k) (eq-eqb k k refl) ∙ ap (λ (x : Command). Some x) is) ended meant_it))
      (no_drops (suc k) lines (λ line name le e ended is.
      never line name (omega (arith, le)) (ap (λ (b : Bool). if b then Some d else command_at (commands_from (suc k) lines) line) (ne_eqb k line (λ same. omega (arith, same, le))) ∙ e) ended is))

pub ended-by : (mark : Mark) (line : ℕ) → has_ended mark line ≡ true → line ≤ mark.line
ended-by mark line h =
    ⊎_elim (λ (p : nat_lt line mark.line ≡ true). omega (arith, ltb-true line mark.line p)) (λ (p : ((line == mark.line) && mark.ended) ≡ true). omega (arith, eqb-true line mark.line (and_parts (line == mark.line) mark.ended p).0))
    (or_cases (nat_lt line mark.line) ((line == mark.line) && mark.ended) h)

pub none-dropped : (script : List (Option Command)) (files : Matrices) (mark : Mark) → KeepsRules script → 0 < mark.line → is_dropped (setting_of script files) mark mark.line ≡ false
none-dropped script files mark kept some =
    let cs = commands_of script in
    no_drops cs (grids_from 0 cs) mark mark.line some 1 script
    (λ line name le e ended is. omega (arith, ended-by mark line ended, maker-lt cs line name mark.line (drop-means script line mark.line name kept e is)))

-- what the mark's line drops is dropped under it, once the line has ended
pub dropped-here : (script : List (Option Command)) (files : Matrices) (mark : Mark) (at : ℕ) (name : List ℕ) → KeepsRules script → command_at (commands_of script) mark.line ≡ Some (c.Discard name) → has_ended mark mark.line ≡ true
    → maker (commands_of script) mark.line name ≡ Some at → is_dropped (setting_of script files) mark at ≡ true
dropped-here script files mark at name kept e ended means =
    let cs = commands_of script in
    let there = thing cs mark.line name (thing_kept script mark.line name kept e) in
    let number : line_meant cs mark.line 1 ≡ at = meant_line cs mark.line name e there ∙ same_Some there.at at (sym there.maker_is ∙ means) in
    job-there cs (grids_from 0 cs) cs (λ j. has_ended mark j.line && (j.drops == at)) mark.line (c.Discard name) e refl
    (and_from (has_ended mark mark.line) (line_meant cs mark.line 1 == at) ended (eq-eqb (line_meant cs mark.line 1) at number))
