-- What the name of a print line means: a matrix that an earlier line made, and that no line between has dropped.
use Rattle.std.proofs.Common.{◌≡◌, ℕ, suc, ◌+◌, ◌*◌, ◌<◌, ◌≤◌, ◌==◌, ◌&&◌, ◌||◌, not, Bool, true, false, List, [], ◌∷◌, Option, Some, None, is_some, length, refl, sym, ap, subst, ◌∙◌, arith}
use Rattle.std.specs.Prelude.{if◌then◌else◌, unwrap_or, slice_index_or}
use Rattle.std.proofs.lemmas.Bool.{false≢true, eqb-true, eq-eqb, ne_eqb, and_from, or_from, not_from_false, false_from_ne_true}
use Rattle.std.proofs.lemmas.Slice.Eq.{bytes_eq-Decides}
use Rattle.run_data.specs.declared.command.Command.{Command}
use Rattle.run_data.specs.declared.command.Command.TheVariants as c
use Rattle.run_data.specs.Script.{Numbered, commands_from, commands_of, command_at, makes_records, maker, is_grid_line, grids_before, operand_number, meant, name_in}
use Rattle.blacs_grid.specs.declared.Grid.{Grid}
use Rattle.array_desc.specs.Maps.{groups}
use Rattle.rank_machine.specs.declared.mark.Mark.{Mark}
use Rattle.rank_machine.specs.declared.layout.Layout.{Layout}
use Rattle.rank_machine.specs.Setting.{Job, some_job, no_job, no_grid, job, is_job, is_matrix, layout, factored}
use Rattle.rank_machine.specs.Scripts.{Matrices, job_of, jobs_from, grids_from, line_meant, layout_named, setting_of}
use Rattle.rank_machine.specs.Effect.{has_ended, is_dropped, is_live_matrix}
use Rattle.rank_machine.proofs.Jobs.{job_of-line}
use Rattle.script_lines.proofs.JobAt.{job_for, job-in_script, layout-is}
use Rattle.script_rules.specs.Rules.{command_on, maker_command, is_matrix_line, is_list_line}
use Rattle.script_rules.proofs.Before.{maker-lt}
use Rattle.script_bounds.specs.Accepted.{KeepsRules}
use Rattle.script_bounds.specs.Bounds.{records_in, records_of_print, print_on, print_records}
use Rattle.script_bounds.proofs.Limits.{NameKept, MatrixKept, print_kept, thing_kept, matrix_kept}
use Rattle.script_laws.proofs.Makers.{makes_name, made-once, maker-made, maker-after_drop}
use Rattle.script_recovery.proofs.GridsAt.{LiesAt, LiesAt-from, commands-rise}
use Rattle.script_recovery.proofs.StillThere.{job-there, above-none}
use Rattle.whole_run.specs.Between.{Names}
use Rattle.line_phases.specs.Printing.{strip_slots, print_slots}
use Rattle.line_phases.proofs.PrintSlots.{slots-count}

-- ---- what a drop means
-- a name as seen from a line means the line of a command, which is not that of a grid
record IsThing (cs : List Numbered) (line : ℕ) (name : List ℕ) : Type 0 where
  at : ℕ
  maker_is : maker cs line name ≡ Some at
  no_grid : is_grid_line (command_at cs at) ≡ false

thing : (cs : List Numbered) (line : ℕ) (name : List ℕ) → (is_matrix_line (maker_command cs line name) || is_list_line (maker_command cs line name)) ≡ true → IsThing cs line name
thing cs line name t = by_maker (maker cs line name) refl t
  where
    no_grid_line : (o : Option Command) → (is_matrix_line o || is_list_line o) ≡ true → is_grid_line o ≡ false
    no_grid_line (Some (c.Grid n p q f)) t = absurd (false≢true t)
    no_grid_line (Some command) t = refl
    no_grid_line None t = refl

    by_maker : (o : Option ℕ) → maker cs line name ≡ o → (is_matrix_line (command_on cs o) || is_list_line (command_on cs o)) ≡ true → IsThing cs line name
    by_maker None m t = absurd (false≢true t)
    by_maker (Some at) m t = record { at = at; maker_is = m; no_grid = no_grid_line (command_at cs at) t }

drop_means : (script : List (Option Command)) (k what : ℕ) (name : List ℕ) → KeepsRules script → command_at (commands_of script) k ≡ Some (c.Discard name) → line_meant (commands_of script) k 1 ≡ what → maker (commands_of script) k name ≡ Some what
drop_means script k what name h e is =
    let cs = commands_of script in
    let there = thing cs k name (thing_kept script k name h e) in
    let meant_line : line_meant cs k 1 ≡ there.at =
    ap (λ (o : Option Command). unwrap_or (meant cs k (name_in o 1)) 0) e
    ∙ ap (λ (o : Option ℕ). unwrap_or (operand_number cs o) 0) there.maker_is
    ∙ ap (λ (b : Bool). if b then grids_before cs there.at else there.at) there.no_grid in
    there.maker_is ∙ ap (λ (l : ℕ). Some l) (sym meant_line ∙ is)

-- ---- where no line that has ended drops a matrix
both_false : (a b : Bool) → (a ≡ true → b ≡ true → ⊥) → (a && b) ≡ false
both_false true b never = false_from_ne_true b (never refl)
both_false false b never = refl

module _ (ns : List Numbered) (grids : List Grid) (mark : Mark) (what : ℕ) (some : 0 < what) where
  abbrev drops_it : Job → Bool
  drops_it j = has_ended mark j.line && (j.drops == what)

  drops_here : (line : ℕ) (command : Command) → ((name : List ℕ) → command ≡ c.Discard name → has_ended mark line ≡ true → line_meant ns line 1 ≡ what → ⊥) → (has_ended mark line && ((job_of ns grids line command).drops == what)) ≡ false
  drops_here line (c.Discard name) never = both_false (has_ended mark line) (line_meant ns line 1 == what) (λ ended same. never name refl ended (eqb-true (line_meant ns line 1) what same))
  drops_here line command never = both_false (has_ended mark line) (0 == what) (λ ended same. (let zero_is : 0 ≡ what = eqb-true 0 what same in omega (arith, zero_is, some)))

  one_more : (b : Bool) (j : Job) (rest : List Job) → drops_it j ≡ false → some_job rest drops_it ≡ false → some_job (if b then j ∷ rest else rest) drops_it ≡ false
  one_more true j rest e more = or_from (drops_it j) (some_job rest drops_it) e more
  one_more false j rest e more = more

  no_drops : (k : ℕ) (lines : List (Option Command)) → ((line : ℕ) (name : List ℕ) → k ≤ line → command_at (commands_from k lines) line ≡ Some (c.Discard name) → has_ended mark line ≡ true → line_meant ns line 1 ≡ what → ⊥)
      → some_job (jobs_from ns grids (commands_from k lines)) drops_it ≡ false
  no_drops k [] never = refl
  no_drops k (None ∷ lines) never = no_drops (suc k) lines (λ line name le e ended is. never line name (omega (arith, le)) e ended is)
  no_drops k (Some d ∷ lines) never =
      one_more (makes_records d) (job_of ns grids k d) (jobs_from ns grids (commands_from (suc k) lines))
      (ap (λ (l : ℕ). has_ended mark l && ((job_of ns grids k d).drops == what)) (job_of-line ns grids k d)
      ∙ drops_here k d (λ name is ended meant_it. never k name (omega arith) (ap (λ (b : Bool). if b then Some d else command_at (commands_from (suc k) lines) k) (eq-eqb k k refl) ∙ ap (λ (x : Command). Some x) is) ended meant_it))
      (no_drops (suc k) lines (λ line name le e ended is.
      never line name (omega (arith, le)) (ap (λ (b : Bool). if b then Some d else command_at (commands_from (suc k) lines) line) (ne_eqb k line (λ same. omega (arith, same, le))) ∙ e) ended is))

-- ---- how many records a print line makes
-- the strips of a matrix on the grid of a number, one take each, and a commit
taken_once : (what : ℕ) (d : Layout) (grids : List Grid) (number at p q f start m n mb nb rsrc csrc : ℕ) → d ≡ layout_named grids number m n mb nb rsrc csrc → number ≡ at → slice_index_or grids at no_grid ≡ record { p = p; q = q; f = f; first = start }
    → length (strip_slots what d) + 1 ≡ print_records p q (groups n nb q)
taken_once what d grids number at p q f start m n mb nb rsrc csrc laid is grid =
    let on : d.grid ≡ record { p = p; q = q; f = f; first = start } = ap (λ (d : Layout). d.grid) laid ∙ (ap (λ k. slice_index_or grids k no_grid) is ∙ grid) in
    let columns : d.desc.n ≡ n = ap (λ (d : Layout). d.desc.n) laid in
    let width : d.desc.nb ≡ nb = ap (λ (d : Layout). d.desc.nb) laid in
    let count : length (strip_slots what d) ≡ groups n nb q * (p * q) = slots-count what d ∙ (λ i. groups (columns i) (width i) (on i).q * ((on i).p * (on i).q)) in
    omega (arith, count)

-- what the bound counts
records_of : (cs : List Numbered) (line what at : ℕ) (name made grid made_grid : List ℕ) (m n mb nb rsrc csrc : ℕ) (file : List ℕ) (p q f : ℕ) → maker cs line name ≡ Some what → command_at cs what ≡ Some (c.Matrix made grid m n mb nb rsrc csrc file)
    → maker cs what grid ≡ Some at → command_at cs at ≡ Some (c.Grid made_grid p q f) → records_in cs line (c.Print name) ≡ print_records p q (groups n nb q)
records_of cs line what at name made grid made_grid m n mb nb rsrc csrc file p q f means matrix on is =
    ap (λ (o : Option ℕ). records_of_print cs o (command_on cs o)) means
    ∙ (ap (records_of_print cs (Some what)) matrix ∙ (ap (λ (o : Option ℕ). print_on (command_on cs o) n nb) on ∙ ap (λ (o : Option Command). print_on o n nb) is))

-- ---- the job of a print line
module _ (script : List (Option Command)) (files : Matrices) (line : ℕ) (name : List ℕ) (e : command_at (commands_of script) line ≡ Some (c.Print name)) where
  pub print-job : job (setting_of script files) line ≡ record (no_job line) { prints = line_meant (commands_of script) line 1 }
  print-job = job-in_script script line ∙ ap (job_for (commands_of script) (grids_from 0 (commands_of script)) line) e

  pub print-is_job : is_job (setting_of script files) line ≡ true
  print-is_job = job-there (commands_of script) (grids_from 0 (commands_of script)) (commands_of script) (λ j. j.line == line) line (c.Print name) e refl (eq-eqb line line refl)

  pub print-no_matrix : is_matrix (setting_of script files) line ≡ false
  print-no_matrix = ap (λ (j : Job). is_some j.makes) print-job

  pub print-factors_none : factored (setting_of script files) line ≡ 0
  print-factors_none = ap (λ (j : Job). j.factors) print-job

  -- ---- the matrix that it prints
  module _ (kept : KeepsRules script) where
    named : NameKept (commands_of script) line name
    named = print_kept script line name kept e

    meant_at : line_meant (commands_of script) line 1 ≡ named.means.at
    meant_at = ap (λ (o : Option ℕ). unwrap_or o 0) named.operand_is

    made_there : command_at (commands_of script) (line_meant (commands_of script) line 1) ≡ Some (c.Matrix named.means.made named.means.grid named.means.m named.means.n named.means.mb named.means.nb named.means.rsrc named.means.csrc named.means.file)
    made_there = ap (command_at (commands_of script)) meant_at ∙ named.means.matrix

    pub printed-maker : maker (commands_of script) line name ≡ Some (line_meant (commands_of script) line 1)
    printed-maker = named.means.maker_is ∙ ap (λ (l : ℕ). Some l) (sym meant_at)

    pub printed-before : line_meant (commands_of script) line 1 < line
    printed-before = maker-lt (commands_of script) line name (line_meant (commands_of script) line 1) printed-maker

    pub printed-some : 0 < line_meant (commands_of script) line 1
    printed-some = let low = above-none script (line_meant (commands_of script) line 1) _ made_there in omega (arith, low)

    pub printed-is_matrix : is_matrix (setting_of script files) (line_meant (commands_of script) line 1) ≡ true
    printed-is_matrix =
        ap (λ (j : Job). is_some j.makes) (job-in_script script (line_meant (commands_of script) line 1) ∙ ap (job_for (commands_of script) (grids_from 0 (commands_of script)) (line_meant (commands_of script) line 1)) made_there)

    pub printed-is_job : is_job (setting_of script files) (line_meant (commands_of script) line 1) ≡ true
    printed-is_job =
        job-there (commands_of script) (grids_from 0 (commands_of script)) (commands_of script) (λ j. j.line == line_meant (commands_of script) line 1) (line_meant (commands_of script) line 1) _ made_there refl
        (eq-eqb (line_meant (commands_of script) line 1) (line_meant (commands_of script) line 1) refl)

    pub printed-names : Names (commands_of script) (line_meant (commands_of script) line 1) name
    printed-names =
        let test = maker-made script line name (line_meant (commands_of script) line 1) printed-maker printed-before in
        let same : named.means.made ≡ name = (bytes_eq-Decides named.means.made name).0 (sym (ap (λ (o : Option Command). makes_name o name) made_there) ∙ test) in
        (c.Matrix named.means.made named.means.grid named.means.m named.means.n named.means.mb named.means.nb named.means.rsrc named.means.csrc named.means.file, made_there, ap (λ (x : List ℕ). Some x) same)

    -- no line before has dropped it
    never_dropped : (k : ℕ) (dropped : List ℕ) → 1 ≤ k → k < line → command_at (commands_of script) k ≡ Some (c.Discard dropped) → line_meant (commands_of script) k 1 ≡ line_meant (commands_of script) line 1 → ⊥
    never_dropped k dropped some before there is =
        let cs = commands_of script in
        let what = line_meant cs line 1 in
        let means = drop_means script k what dropped kept there is in
        let first : what < k = maker-lt cs k dropped what means in
        let same : name ≡ dropped = made-once (command_at cs what) name dropped (maker-made script line name what printed-maker printed-before) (maker-made script k dropped what means first) in
        let again : k < what = maker-after_drop script k line dropped what some before there (subst (λ n. maker cs line n ≡ Some what) same printed-maker) in
        omega (arith, first, again)

    -- so it is live under a mark under which its line has ended, and no drop on this line or a later one
    pub printed-live : (mark : Mark) → has_ended mark (line_meant (commands_of script) line 1) ≡ true → ((at : ℕ) → is_job (setting_of script files) at ≡ true → has_ended mark at ≡ true → at < line)
        → is_live_matrix (setting_of script files) mark (line_meant (commands_of script) line 1) ≡ true
    printed-live mark ended before =
        let s = setting_of script files in
        let cs = commands_of script in
        let what = line_meant cs line 1 in
        let is_a_job : (k : ℕ) (dropped : List ℕ) → command_at cs k ≡ Some (c.Discard dropped) → is_job s k ≡ true =
        λ k dropped there. job-there cs (grids_from 0 cs) cs (λ j. j.line == k) k (c.Discard dropped) there refl (eq-eqb k k refl) in
        and_from (is_matrix s what && has_ended mark what) (not (is_dropped s mark what)) (and_from (is_matrix s what) (has_ended mark what) printed-is_matrix ended)
        (not_from_false (is_dropped s mark what)
        (no_drops cs (grids_from 0 cs) mark what printed-some 1 script (λ k dropped some there over is. never_dropped k dropped some (before k (is_a_job k dropped there) over) there is)))

    -- ---- its strips, one take each, and a commit are the records of the line
    pub print-count : length (print_slots (setting_of script files) (line_meant (commands_of script) line 1)) + 1 ≡ records_in (commands_of script) line (c.Print name)
    print-count =
        let cs = commands_of script in
        let what = line_meant cs line 1 in
        let x = named.means in
        let it : MatrixKept cs what x.grid x.m x.n x.mb x.nb x.rsrc x.csrc x.file = matrix_kept script what x.made x.grid x.m x.n x.mb x.nb x.rsrc x.csrc x.file kept made_there in
        let lies : LiesAt (grids_from 0 cs) 0 (grids_before cs it.on.at) it.on.p it.on.q it.on.f = LiesAt-from cs 0 0 it.on.at it.on.made it.on.p it.on.q it.on.f (commands-rise script) it.on.grid in
        taken_once what (layout (setting_of script files) what) (grids_from 0 cs) (line_meant cs what 2) (grids_before cs it.on.at) it.on.p it.on.q it.on.f lies.start x.m x.n x.mb x.nb x.rsrc x.csrc
        (layout-is script what x.made x.grid x.m x.n x.mb x.nb x.rsrc x.csrc x.file made_there) (ap (λ (o : Option ℕ). unwrap_or o 0) it.operand_is) lies.grid
        ∙ sym (records_of cs line what it.on.at name x.made x.grid it.on.made x.m x.n x.mb x.nb x.rsrc x.csrc x.file it.on.p it.on.q it.on.f printed-maker made_there it.on.maker_is it.on.grid)
