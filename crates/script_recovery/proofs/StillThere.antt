-- What is live under a mark lives around its line.
use Rattle.std.proofs.Common.{◌≡◌, ℕ, zero, suc, ◌+◌, ◌<◌, ◌≤◌, ◌==◌, ◌&&◌, nat_lt, Bool, true, false, List, [], ◌∷◌, Option, Some, None, refl, sym, ap, ◌∙◌, ⊎_elim, arith}
use Rattle.std.specs.Prelude.{◌-◌, if◌then◌else◌, unwrap_or}
use Rattle.std.specs.Str.{bytes_eq}
use Rattle.std.proofs.lemmas.Bool.{cases_Bool, cases_lt, true≢false, or_left, or_right, and_from, eqb-true, eq-eqb, lt-ltb, eqb-false}
use Rattle.std.proofs.lemmas.Option.{same_Some}
use Rattle.std.proofs.lemmas.Slice.Eq.{bytes_eq-Decides}
use Rattle.run_data.specs.declared.command.Command.{Command}
use Rattle.run_data.specs.declared.command.Command.TheVariants as c
use Rattle.run_data.specs.Script.{Numbered, commands_of, command_at, makes_records, is_name, name_made, name_dropped, maker, is_grid, is_grid_line, grids_before, operand_number, meant, name_in}
use Rattle.run_data.proofs.Lines.{command_at-before}
use Rattle.blacs_grid.specs.declared.Grid.{Grid}
use Rattle.rank_machine.specs.declared.mark.Mark.{Mark}
use Rattle.rank_machine.specs.Setting.{Job, some_job}
use Rattle.rank_machine.specs.Scripts.{Matrices, jobs_from, job_of, grids_from, line_meant, setting_of}
use Rattle.rank_machine.specs.Effect.{has_ended, is_dropped}
use Rattle.script_bounds.specs.Accepted.{KeepsRules}
use Rattle.script_bounds.specs.Bounds.{is_line, still_means, lives}
use Rattle.script_bounds.proofs.Living.{meant_after, maker-next}
use Rattle.script_bounds.proofs.Sized.{made_name_free}

-- a command's job is among the jobs
pub job-there : (ns : List Numbered) (grids : List Grid) (xs : List Numbered) (f : Job → Bool) (line : ℕ) (x : Command) → command_at xs line ≡ Some x → makes_records x ≡ true → f (job_of ns grids line x) ≡ true → some_job (jobs_from ns grids xs) f ≡ true
job-there ns grids [] f line x e made t = absurd cc
job-there ns grids (n ∷ xs) f line x e made t =
    ⊎_elim
    (λ (here : (n.line == line) ≡ true).
    let same : n.command ≡ x = same_Some n.command x (ap (λ b. if b then Some n.command else command_at xs line) (sym here) ∙ e) in
    let at : n.line ≡ line = eqb-true n.line line here in
    let makes : makes_records n.command ≡ true = ap makes_records same ∙ made in
    rw makes (or_left (f (job_of ns grids n.line n.command)) (some_job (jobs_from ns grids xs) f) (ap (λ k. f (job_of ns grids k n.command)) at ∙ (ap (λ y. f (job_of ns grids line y)) same ∙ t))))
    (λ (other : (n.line == line) ≡ false).
    let rest : some_job (jobs_from ns grids xs) f ≡ true = job-there ns grids xs f line x (ap (λ b. if b then Some n.command else command_at xs line) (sym other) ∙ e) made t in
    ⊎_elim
    (λ (m : makes_records n.command ≡ true). rw m (or_right (f (job_of ns grids n.line n.command)) (some_job (jobs_from ns grids xs) f) rest))
    (λ (m : makes_records n.command ≡ false). rw m rest)
    (cases_Bool (makes_records n.command)))
    (cases_Bool (n.line == line))

same_name : (a b : List ℕ) → bytes_eq a b ≡ true → a ≡ b
same_name a b t = (bytes_eq-Decides a b).0 t

name_same : (a : List ℕ) → bytes_eq a a ≡ true
name_same a = (bytes_eq-Decides a a).1 refl

named_some : (o : Option (List ℕ)) (name : List ℕ) → is_name o name ≡ true → o ≡ Some name
named_some None name t = absurd (true≢false (sym t))
named_some (Some x) name t = ap (λ y. Some y) (same_name x name t)

drops_by : (x : Command) (name : List ℕ) → name_dropped x ≡ Some name → x ≡ c.Discard name
drops_by (c.Discard other) name e = ap (λ y. c.Discard y) (same_Some other name e)
drops_by _ name e = absurd cc

pub above-none : (script : List (Option Command)) (at : ℕ) (y : Command) → command_at (commands_of script) at ≡ Some y → 1 ≤ at
above-none script at y e =
    ⊎_elim
    (λ (low : at < 1). absurd (none (sym (command_at-before 1 script at low) ∙ e)))
    (λ (high : 1 ≤ at). high)
    (cases_lt at 1)
  where
    none : None ≡ Some y → ⊥
    none e = absurd cc

module _ (script : List (Option Command)) (files : Matrices) (kept : KeepsRules script) (mark : Mark) (at : ℕ) (name : List ℕ) where
  dropped_then : (d : ℕ) → is_grid_line (command_at (commands_of script) at) ≡ false → maker (commands_of script) d name ≡ Some at → command_at (commands_of script) d ≡ Some (c.Discard name) → d < mark.line → is_dropped (setting_of script files) mark at ≡ true
  dropped_then d no_grid means e lt =
      let cs : List Numbered = commands_of script in
      let number : line_meant cs d 1 ≡ at =
      ap (λ (o : Option Command). unwrap_or (meant cs d (name_in o 1)) 0) e ∙ (ap (λ (o : Option ℕ). unwrap_or (operand_number cs o) 0) means ∙ ap (λ (b : Bool). if b then grids_before cs at else at) no_grid) in
      job-there cs (grids_from 0 cs) cs (λ j. has_ended mark j.line && (j.drops == at)) d (c.Discard name) e refl
      (and_from (has_ended mark d) (line_meant cs d 1 == at) (or_left (nat_lt d mark.line) ((d == mark.line) && mark.ended) (lt-ltb d mark.line lt)) (eq-eqb (line_meant cs d 1) at number))

  stays_over : (d : ℕ) → is_grid_line (command_at (commands_of script) at) ≡ false → is_dropped (setting_of script files) mark at ≡ false → maker (commands_of script) d name ≡ Some at → d < mark.line
      → meant_after (command_at (commands_of script) d) d name (Some at) ≡ Some at
  stays_over d no_grid undropped means lt = by_command (command_at (commands_of script) d) refl
    where
      by_command : (o : Option Command) → command_at (commands_of script) d ≡ o → meant_after o d name (Some at) ≡ Some at
      by_command None e = refl
      by_command (Some x) e =
          ⊎_elim
          (λ (makes : is_name (name_made x) name ≡ true). absurd (not_free (sym means ∙ made_name_free script d x name kept e (named_some (name_made x) name makes))))
          (λ (makes : is_name (name_made x) name ≡ false). ⊎_elim
          (λ (drops : is_name (name_dropped x) name ≡ true).
          absurd (true≢false (sym (dropped_then d no_grid means (e ∙ ap (λ y. Some y) (drops_by x name (named_some (name_dropped x) name drops))) lt) ∙ undropped)))
          (λ (drops : is_name (name_dropped x) name ≡ false). rw (makes, drops) refl)
          (cases_Bool (is_name (name_dropped x) name)))
          (cases_Bool (is_name (name_made x) name))
        where
          not_free : Some at ≡ None → ⊥
          not_free e = absurd cc

  stays : (k line : ℕ) (y : Command) → line ≡ at + 1 + k → line ≤ mark.line → command_at (commands_of script) at ≡ Some y → name_made y ≡ Some name → is_grid y ≡ false → is_dropped (setting_of script files) mark at ≡ false
      → maker (commands_of script) line name ≡ Some at
  stays zero line y e le there makes no_grid undropped =
      let first : line ≡ suc at = omega (arith, e) in
      ap (λ k. maker (commands_of script) k name) first ∙ (maker-next script at name (above-none script at y there)
      ∙ (ap (λ o. meant_after o at name (maker (commands_of script) at name)) there
      ∙ (ap (λ o. if is_name o name then Some at else if is_name (name_dropped y) name then None else maker (commands_of script) at name) makes
      ∙ ap (λ b. if b then Some at else if is_name (name_dropped y) name then None else maker (commands_of script) at name) (name_same name))))
  stays (suc k) line y e le there makes no_grid undropped =
      let d : ℕ = at + 1 + k in
      let next : line ≡ suc d = omega (arith, e) in
      let was : maker (commands_of script) d name ≡ Some at = stays k d y refl (omega (arith, next, le)) there makes no_grid undropped in
      let not_a_grid : is_grid_line (command_at (commands_of script) at) ≡ false = ap is_grid_line there ∙ no_grid in
      ap (λ k. maker (commands_of script) k name) next ∙ (maker-next script d name (omega arith)
      ∙ (ap (meant_after (command_at (commands_of script) d) d name) was ∙ stays_over d not_a_grid undropped was (omega (arith, next, le))))

  -- what a line made and no line dropped lives around the line of the mark
  pub still-lives : (y : Command) → command_at (commands_of script) at ≡ Some y → name_made y ≡ Some name → is_grid y ≡ false → is_dropped (setting_of script files) mark at ≡ false → at ≤ mark.line
      → lives (commands_of script) mark.line (record { line = at; command = y }) ≡ true
  still-lives y there makes no_grid undropped le =
      ⊎_elim
      (λ (here : (at == mark.line) ≡ true). or_left (at == mark.line) (still_means (commands_of script) mark.line (name_made y) at) here)
      (λ (other : (at == mark.line) ≡ false).
      let lt : at < mark.line = before at mark.line le (eqb-false at mark.line other) in
      or_right (at == mark.line) (still_means (commands_of script) mark.line (name_made y) at)
      (ap (λ o. still_means (commands_of script) mark.line o at) makes ∙ (ap (λ o. is_line o at) (means lt) ∙ eq-eqb at at refl)))
      (cases_Bool (at == mark.line))
    where
      before : (a b : ℕ) → a ≤ b → (a ≡ b → ⊥) → a < b
      before a b le ne = ⊎_elim (λ (h : a < b). h) (λ (h : b ≤ a). absurd (ne (omega (arith, le, h)))) (cases_lt a b)

      means : at < mark.line → maker (commands_of script) mark.line name ≡ Some at
      means lt = let e : (k : ℕ) × (mark.line ≡ at + 1 + k) = gap at mark.line lt in stays e.0 mark.line y e.1 (omega arith) there makes no_grid undropped
        where
          gap : (a b : ℕ) → a < b → (k : ℕ) × (b ≡ a + 1 + k)
          gap a b lt = (b - (a + 1), omega (arith, lt))
