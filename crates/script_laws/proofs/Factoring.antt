-- The matrix that a line factors is live until the line has ended.
use Rattle.std.proofs.Common.{◌≡◌, ℕ, suc, ◌<◌, ◌≤◌, ◌==◌, ◌&&◌, ◌||◌, not, Bool, true, false, List, [], ◌∷◌, Option, Some, None, is_some, length, take, refl, sym, ap, subst, ◌∙◌, arith, inl, inr}
use Rattle.std.specs.Prelude.{if◌then◌else◌, unwrap_or, nat_lt}
use Rattle.std.proofs.lemmas.Bool.{false≢true, true≢false, lt-ltb, ltb-true, eqb-true, eq-eqb, ne_eqb, and_from, or_left, or_from, or_cases, not_from_false, false_from_ne_true}
use Rattle.run_data.specs.declared.command.Command.{Command}
use Rattle.run_data.specs.declared.command.Command.TheVariants as c
use Rattle.run_data.specs.Script.{Numbered, commands_from, commands_of, command_at, makes_records, maker, is_grid_line, grids_before, operand_number, meant, name_in}
use Rattle.run_data.proofs.Lines.{command_at-before}
use Rattle.blacs_grid.specs.declared.Grid.{Grid}
use Rattle.rank_machine.specs.declared.mark.Mark.{Mark}
use Rattle.rank_machine.specs.Setting.{Job, some_job, is_matrix, factored}
use Rattle.rank_machine.specs.Scripts.{Matrices, job_of, jobs_from, grids_from, line_meant, setting_of}
use Rattle.rank_machine.specs.Effect.{has_ended, is_dropped, is_live_matrix}
use Rattle.rank_machine.proofs.Jobs.{job_of-line}
use Rattle.script_lines.specs.Sound.{IsSound}
use Rattle.script_lines.proofs.JobAt.{job_for, job-in_script}
use Rattle.script_words.specs.declared.kinds.Kind.TheVariants.{MatrixName}
use Rattle.script_words.specs.Tables.{first_code}
use Rattle.script_rules.specs.Rules.{command_on, maker_command, is_matrix_line, is_list_line, word_rules}
use Rattle.script_bounds.specs.Accepted.{KeepsRules}
use Rattle.script_words.proofs.Tables.{or_none, all_kept}
use Rattle.script_bounds.proofs.Limits.{kept_on, OnLine-from_command_at, thing_kept}
use Rattle.script_rules.proofs.Before.{maker_command-take, maker-lt}
use Rattle.recovery_laws.specs.Healed.{IsSensible}
use Rattle.recovery_laws.proofs.Sensible.{sensible-from_sound}
use Rattle.script_laws.proofs.Makers.{made-once, maker-made, maker-after_drop}

-- ---- what a factorization names is a matrix
named_matrix : (script : List (Option Command)) (line m n : ℕ) (a : List ℕ) (ia ja : ℕ) (v : List ℕ) → KeepsRules script → command_at (commands_of script) line ≡ Some (c.Pgetrf m n a ia ja v)
    → is_matrix_line (maker_command (commands_of script) line a) ≡ true
named_matrix script line m n a ia ja v h e =
    let command = c.Pgetrf m n a ia ja v in
    let on = OnLine-from_command_at script line command e in
    let cs = commands_of script in
    let front = commands_of (take on.place script) in
    let le : on.place ≤ length script = omega (arith, on.inside) in
    let kept = kept_on script on.place command h on.said in
    let named = or_none (first_code (word_rules front (suc on.place) MatrixName a)) _ kept.names in
    let there : is_matrix_line (maker_command front (suc on.place) a) ≡ true = (all_kept (word_rules front (suc on.place) MatrixName a) named.0).0 in
    subst (λ l. is_matrix_line (maker_command cs l a) ≡ true) (sym on.number) (ap is_matrix_line (sym (maker_command-take script on.place a le)) ∙ there)

-- a name as seen from a line means the line of a command, which is not that of a grid
record IsThing (cs : List Numbered) (line : ℕ) (name : List ℕ) : Type 0 where
  at : ℕ
  maker_is : maker cs line name ≡ Some at
  no_grid : is_grid_line (command_at cs at) ≡ false

thing : (cs : List Numbered) (line : ℕ) (name : List ℕ) → (is_matrix_line (maker_command cs line name) || is_list_line (maker_command cs line name)) ≡ true → IsThing cs line name
thing cs line name t = by_maker (maker cs line name) refl t
  where
    no_grid_line : (o : Option Command) → (is_matrix_line o || is_list_line o) ≡ true → is_grid_line o ≡ false
    no_grid_line (Some (c.Grid n p q f)) t = absurd (false≢true t)
    no_grid_line (Some command) t = refl
    no_grid_line None t = refl

    by_maker : (o : Option ℕ) → maker cs line name ≡ o → (is_matrix_line (command_on cs o) || is_list_line (command_on cs o)) ≡ true → IsThing cs line name
    by_maker None m t = absurd (false≢true t)
    by_maker (Some at) m t = record { at = at; maker_is = m; no_grid = no_grid_line (command_at cs at) t }

-- so the line that a word means is the line that made it
meant_line : (cs : List Numbered) (line word : ℕ) (command : Command) (name : List ℕ) → command_at cs line ≡ Some command → name_in (Some command) word ≡ Some name → (there : IsThing cs line name) → line_meant cs line word ≡ there.at
meant_line cs line word command name e named there =
    ap (λ (o : Option Command). unwrap_or (meant cs line (name_in o word)) 0) e
    ∙ ap (λ (o : Option (List ℕ)). unwrap_or (meant cs line o) 0) named
    ∙ ap (λ (o : Option ℕ). unwrap_or (operand_number cs o) 0) there.maker_is
    ∙ ap (λ (b : Bool). if b then grids_before cs there.at else there.at) there.no_grid

-- what a drop means
drop_means : (script : List (Option Command)) (k what : ℕ) (name : List ℕ) → KeepsRules script → command_at (commands_of script) k ≡ Some (c.Discard name) → line_meant (commands_of script) k 1 ≡ what → maker (commands_of script) k name ≡ Some what
drop_means script k what name h e is =
    let cs = commands_of script in
    let there = thing cs k name (thing_kept script k name h e) in
    there.maker_is ∙ ap (λ (l : ℕ). Some l) (sym (meant_line cs k 1 (c.Discard name) name e refl there) ∙ is)

-- ---- what a line factors
record IsFactoring (script : List (Option Command)) (files : Matrices) (line : ℕ) : Type 0 where
  name : List ℕ
  maker_is : maker (commands_of script) line name ≡ Some (factored (setting_of script files) line)
  matrix : is_matrix_line (command_at (commands_of script) (factored (setting_of script files) line)) ≡ true

either : (a b : Bool) → a ≡ true → (a || b) ≡ true
either true b e = refl
either false b e = absurd (false≢true e)

factoring : (script : List (Option Command)) (files : Matrices) (line : ℕ) → KeepsRules script → 0 < factored (setting_of script files) line → IsFactoring script files line
factoring script files line h some = by_command (command_at (commands_of script) line) refl
  where
    cs : List Numbered
    cs = commands_of script

    is_of : factored (setting_of script files) line ≡ (job_for (commands_of script) (grids_from 0 (commands_of script)) line (command_at (commands_of script) line)).factors
    is_of = ap (λ (j : Job). j.factors) (job-in_script script line)

    by_command : (o : Option Command) → command_at (commands_of script) line ≡ o → IsFactoring script files line
    by_command (Some (c.Pgetrf m n a ia ja v)) e =
        let t = named_matrix script line m n a ia ja v h e in
        let there = thing (commands_of script) line a (either (is_matrix_line (maker_command (commands_of script) line a)) _ t) in
        let factors_is : factored (setting_of script files) line ≡ there.at =
        is_of ∙ ap (λ (o : Option Command). (job_for (commands_of script) (grids_from 0 (commands_of script)) line o).factors) e ∙ meant_line (commands_of script) line 3 (c.Pgetrf m n a ia ja v) a e refl there in
        record {
          name = a;
          maker_is = there.maker_is ∙ ap (λ (l : ℕ). Some l) (sym factors_is);
          matrix = ap (λ (l : ℕ). is_matrix_line (command_at (commands_of script) l)) factors_is ∙ ap (λ (o : Option ℕ). is_matrix_line (command_on (commands_of script) o)) (sym there.maker_is) ∙ t;
        }
    by_command (Some command) e = absurd (let none : factored (setting_of script files) line ≡ 0 = is_of ∙ ap (λ (o : Option Command). (job_for (commands_of script) (grids_from 0 (commands_of script)) line o).factors) e in omega (arith, some, none))
    by_command None e = absurd (let none : factored (setting_of script files) line ≡ 0 = is_of ∙ ap (λ (o : Option Command). (job_for (commands_of script) (grids_from 0 (commands_of script)) line o).factors) e in omega (arith, some, none))

matrix_made : (script : List (Option Command)) (files : Matrices) (line : ℕ) → is_matrix_line (command_at (commands_of script) line) ≡ true → is_matrix (setting_of script files) line ≡ true
matrix_made script files line t =
    ap (λ (j : Job). is_some j.makes) (job-in_script script line) ∙ by_command (command_at (commands_of script) line) t
  where
    by_command : (o : Option Command) → is_matrix_line o ≡ true → is_some (job_for (commands_of script) (grids_from 0 (commands_of script)) line o).makes ≡ true
    by_command (Some (c.Matrix name grid m n mb nb rsrc csrc file)) t = refl
    by_command (Some command) t = absurd (false≢true t)
    by_command None t = absurd (false≢true t)

-- ---- no line that has ended drops it
both_false : (a b : Bool) → (a ≡ true → b ≡ true → ⊥) → (a && b) ≡ false
both_false true b never = false_from_ne_true b (never refl)
both_false false b never = refl

module _ (ns : List Numbered) (grids : List Grid) (mark : Mark) (what : ℕ) (some : 0 < what) where
  abbrev drops_it : Job → Bool
  drops_it j = has_ended mark j.line && (j.drops == what)

  drops_here : (line : ℕ) (command : Command) → ((name : List ℕ) → command ≡ c.Discard name → has_ended mark line ≡ true → line_meant ns line 1 ≡ what → ⊥) → (has_ended mark line && ((job_of ns grids line command).drops == what)) ≡ false
  drops_here line (c.Discard name) never = both_false (has_ended mark line) (line_meant ns line 1 == what) (λ ended same. never name refl ended (eqb-true (line_meant ns line 1) what same))
  drops_here line command never = both_false (has_ended mark line) (0 == what) (λ ended same. (let zero_is : 0 ≡ what = eqb-true 0 what same in omega (arith, zero_is, some)))

  one_more : (b : Bool) (j : Job) (rest : List Job) → drops_it j ≡ false → some_job rest drops_it ≡ false → some_job (if b then j ∷ rest else rest) drops_it ≡ false
  one_more true j rest e more = or_from (drops_it j) (some_job rest drops_it) e more
  one_more false j rest e more = more

  no_drops : (k : ℕ) (lines : List (Option Command)) → ((line : ℕ) (name : List ℕ) → k ≤ line → command_at (commands_from k lines) line ≡ Some (c.Discard name) → has_ended mark line ≡ true → line_meant ns line 1 ≡ what → ⊥)
      → some_job (jobs_from ns grids (commands_from k lines)) drops_it ≡ false
  no_drops k [] never = refl
  no_drops k (None ∷ lines) never = no_drops (suc k) lines (λ line name le e ended is. never line name (omega (arith, le)) e ended is)
  no_drops k (Some d ∷ lines) never =
      one_more (makes_records d) (job_of ns grids k d) (jobs_from ns grids (commands_from (suc k) lines))
      (ap (λ (l : ℕ). has_ended mark l && ((job_of ns grids k d).drops == what)) (job_of-line ns grids k d)
      ∙ drops_here k d (λ name is ended meant_it. never k name (omega arith) (ap (λ (b : Bool). if b then Some d else command_at (commands_from (suc k) lines) k) (eq-eqb k k refl) ∙ ap (λ (x : Command). Some x) is) ended meant_it))
      (no_drops (suc k) lines (λ line name le e ended is.
      never line name (omega (arith, le)) (ap (λ (b : Bool). if b then Some d else command_at (commands_from (suc k) lines) line) (ne_eqb k line (λ same. omega (arith, same, le))) ∙ e) ended is))

-- a line before that of a mark has ended under it, and under the mark of a line that goes on no others have
before_ended : (mark : Mark) (line : ℕ) → line < mark.line → has_ended mark line ≡ true
before_ended mark line lt = or_left (nat_lt line mark.line) ((line == mark.line) && mark.ended) (lt-ltb line mark.line lt)

ended_before : (mark : Mark) (line : ℕ) → mark.ended ≡ false → has_ended mark line ≡ true → line < mark.line
ended_before mark line going e =
    elim (or_cases (nat_lt line mark.line) ((line == mark.line) && mark.ended) e) [
      | inl early ↦ ltb-true line mark.line early
      | inr late ↦ absurd (true≢false (sym late ∙ (ap (λ (b : Bool). (line == mark.line) && b) going ∙ and_false (line == mark.line))))
    ]
  where
    and_false : (a : Bool) → (a && false) ≡ false
    and_false true = refl
    and_false false = refl

pub factored-live : (script : List (Option Command)) (files : Matrices) (mark : Mark) → KeepsRules script → mark.ended ≡ false → 0 < factored (setting_of script files) mark.line
    → is_live_matrix (setting_of script files) mark (factored (setting_of script files) mark.line) ≡ true
factored-live script files mark h going some =
    let s = setting_of script files in
    let cs = commands_of script in
    let what = factored s mark.line in
    let it = factoring script files mark.line h some in
    let early : what < mark.line = maker-lt cs mark.line it.name what it.maker_is in
    let never : (line : ℕ) (name : List ℕ) → 1 ≤ line → command_at cs line ≡ Some (c.Discard name) → has_ended mark line ≡ true → line_meant cs line 1 ≡ what → ⊥ =
    λ line name le e ended is.
    (let means = drop_means script line what name h e is in
    let before : line < mark.line = ended_before mark line going ended in
    let first : what < line = maker-lt cs line name what means in
    let same : it.name ≡ name = made-once (command_at cs what) it.name name (maker-made script mark.line it.name what it.maker_is early) (maker-made script line name what means first) in
    let again : line < what = maker-after_drop script line mark.line name what le before e (subst (λ n. maker cs mark.line n ≡ Some what) same it.maker_is) in
    omega (arith, first, again)) in
    and_from (is_matrix s what && has_ended mark what) (not (is_dropped s mark what))
    (and_from (is_matrix s what) (has_ended mark what) (matrix_made script files what it.matrix) (before_ended mark what early))
    (not_from_false (is_dropped s mark what) (no_drops cs (grids_from 0 cs) mark what some 1 script never))

-- line 0 makes no list
no_list : (script : List (Option Command)) (files : Matrices) → factored (setting_of script files) 0 ≡ 0
no_list script files =
    ap (λ (j : Job). j.factors) (job-in_script script 0) ∙ ap (λ (o : Option Command). (job_for (commands_of script) (grids_from 0 (commands_of script)) 0 o).factors) (command_at-before 1 script 0 (omega arith))

pub accepted-sensible : (script : List (Option Command)) (files : Matrices) (p : ℕ) → KeepsRules script → IsSound p (setting_of script files) → IsSensible (setting_of script files)
accepted-sensible script files p h sound =
    sensible-from_sound p (setting_of script files) sound (omega (arith, sound.large)) (no_list script files) (λ mark going some. factored-live script files mark h going some)
