-- A recovery under a mark takes no more records than a script's bound counts for one.
use Rattle.std.proofs.Common.{◌≡◌, ℕ, suc, ◌+◌, ◌<◌, ◌≤◌, ◌==◌, ◌&&◌, nat_lt, not, true, false, List, [], ◌∷◌, length, Option, Some, None, is_some, refl, sym, ap, subst, ◌∙◌, ⊎_elim, arith}
use Rattle.std.specs.Prelude.{if◌then◌else◌, unwrap_or, nat_le, slice_index_or}
use Rattle.std.specs.List.{sum_by}
use Rattle.std.proofs.lemmas.Bool.{cases_Bool, true≢false, or_cases, and_parts, eqb-true, eq-eqb, ltb-true, leb-true, not-true}
use Rattle.std.proofs.lemmas.List.Sums.{sum_by-cons}
use Rattle.run_data.specs.declared.command.Command.{Command}
use Rattle.run_data.specs.declared.command.Command.TheVariants as c
use Rattle.run_data.specs.Script.{Numbered, commands_from, commands_of, command_at, makes_records, maker, is_grid_line, grids_before, operand_number, meant, name_in}
use Rattle.blacs_grid.specs.declared.Grid.{Grid}
use Rattle.rank_machine.specs.declared.mark.Mark.{Mark}
use Rattle.rank_machine.specs.Setting.{Job, job, layout, is_matrix, factored, no_grid, grid_numbered}
use Rattle.rank_machine.specs.Scripts.{Matrices, jobs_from, job_of, grids_from, line_meant, layout_on, setting_of}
use Rattle.rank_machine.specs.Effect.{has_ended, is_dropped, is_live_matrix, is_live_list}
use Rattle.script_bounds.specs.Accepted.{KeepsRules}
use Rattle.script_rules.specs.Rules.{maker_command, command_on, distribution_made, distribution_of, distribution_on}
use Rattle.script_bounds.specs.Steps.{matrix_recovery, list_recovery}
use Rattle.script_bounds.specs.Bounds.{recovery_made, lives, live_recovery}
use Rattle.script_bounds.proofs.Limits.{MatrixKept, matrix_kept}
use Rattle.script_bounds.proofs.Operands.{pgetrf_operands}
use Rattle.script_lines.proofs.JobAt.{job_for, job-in_script, layout-is}
use Rattle.run_laws.specs.Traces.{matrix_most, list_most, recovery_of}
use Rattle.script_recovery.proofs.GridsAt.{LiesAt, LiesAt-from, commands-rise}
use Rattle.script_recovery.proofs.StillThere.{still-lives}

-- ---- the layouts of the machine and the distributions of the bound
abbrev grid_on : ℕ → ℕ → ℕ → ℕ → Grid
grid_on p q f first = record { p = p; q = q; f = f; first = first }

module _ (script : List (Option Command)) (files : Matrices) (kept : KeepsRules script) where
  -- a matrix line's grid, by both
  record IsOn (line : ℕ) (grid : List ℕ) (m n mb nb rsrc csrc : ℕ) : Type 0 where
    p : ℕ
    q : ℕ
    f : ℕ
    number : ℕ
    first : ℕ
    lies : layout (setting_of script files) line ≡ layout_on number (grid_on p q f first) m n mb nb rsrc csrc
    numbered : grid_numbered (setting_of script files) number ≡ grid_on p q f first
    there : number < length (setting_of script files).grids
    maker_line : ℕ
    told : distribution_on (maker (commands_of script) line grid) (maker_command (commands_of script) line grid) m n mb nb rsrc csrc
        ≡ record { grid = maker_line; p = p; q = q; f = f; m = m; n = n; mb = mb; nb = nb; rsrc = rsrc; csrc = csrc }

  on : (line : ℕ) (name grid : List ℕ) (m n mb nb rsrc csrc : ℕ) (file : List ℕ) → command_at (commands_of script) line ≡ Some (c.Matrix name grid m n mb nb rsrc csrc file) → IsOn line grid m n mb nb rsrc csrc
  on line name grid m n mb nb rsrc csrc file e =
      let cs : List Numbered = commands_of script in
      let grids : List Grid = grids_from 0 cs in
      let k : MatrixKept cs line grid m n mb nb rsrc csrc file = matrix_kept script line name grid m n mb nb rsrc csrc file kept e in
      let at : LiesAt grids 0 (grids_before cs k.on.at) k.on.p k.on.q k.on.f = LiesAt-from cs 0 0 k.on.at k.on.made k.on.p k.on.q k.on.f (commands-rise script) k.on.grid in
      let number : line_meant cs line 2 ≡ grids_before cs k.on.at = ap (λ (o : Option ℕ). unwrap_or o 0) k.operand_is in
      let there : slice_index_or grids (line_meant cs line 2) no_grid ≡ grid_on k.on.p k.on.q k.on.f at.start = ap (λ (i : ℕ). slice_index_or grids i no_grid) number ∙ at.grid in
      record {
        p = k.on.p;
        q = k.on.q;
        f = k.on.f;
        number = line_meant cs line 2;
        first = at.start;
        lies = layout-is script line name grid m n mb nb rsrc csrc file e ∙ ap (λ g. layout_on (line_meant cs line 2) g m n mb nb rsrc csrc) there;
        numbered = there;
        there = subst (λ i. i < length grids) (sym number) at.there;
        maker_line = k.on.at;
        told = ap (λ o. distribution_on o (command_on cs o) m n mb nb rsrc csrc) k.on.maker_is ∙ ap (λ o. distribution_on (Some k.on.at) o m n mb nb rsrc csrc) k.on.grid;
      }

  matrix_same : (line : ℕ) (name grid : List ℕ) (m n mb nb rsrc csrc : ℕ) (file : List ℕ) → command_at (commands_of script) line ≡ Some (c.Matrix name grid m n mb nb rsrc csrc file)
      → matrix_most (layout (setting_of script files) line) ≡ recovery_made (commands_of script) line (c.Matrix name grid m n mb nb rsrc csrc file)
  matrix_same line name grid m n mb nb rsrc csrc file e =
      let o : IsOn line grid m n mb nb rsrc csrc = on line name grid m n mb nb rsrc csrc file e in
      ap matrix_most o.lies ∙ sym (ap matrix_recovery o.told)

  -- what a factorization names is a matrix
  list_same : (line m n : ℕ) (a : List ℕ) (ia ja : ℕ) (v : List ℕ) → command_at (commands_of script) line ≡ Some (c.Pgetrf m n a ia ja v)
      → list_most (layout (setting_of script files) (line_meant (commands_of script) line 3)) ≡ recovery_made (commands_of script) line (c.Pgetrf m n a ia ja v)
  list_same line m n a ia ja v e = by_maker (maker (commands_of script) line a) refl (pgetrf_operands script line m n a ia ja v kept e).first.some_rows
    where
      by_command : (at : ℕ) (o : Option Command) → maker (commands_of script) line a ≡ Some at → command_at (commands_of script) at ≡ o → 1 ≤ (distribution_made (commands_of script) (Some at) o).m
          → list_most (layout (setting_of script files) (line_meant (commands_of script) line 3)) ≡ list_recovery (distribution_made (commands_of script) (Some at) o)
      by_command at (Some (c.Matrix name grid m' n' mb nb rsrc csrc file)) w there some =
          let cs : List Numbered = commands_of script in
          let o : IsOn at grid m' n' mb nb rsrc csrc = on at name grid m' n' mb nb rsrc csrc file there in
          let number : line_meant cs line 3 ≡ at =
          ap (λ (o : Option Command). unwrap_or (meant cs line (name_in o 3)) 0) e ∙ (ap (λ (o : Option ℕ). unwrap_or (operand_number cs o) 0) w
          ∙ ap (λ (o : Option Command). if is_grid_line o then grids_before cs at else at) there) in
          ap (λ k. list_most (layout (setting_of script files) k)) number ∙ (ap list_most o.lies ∙ sym (ap list_recovery o.told))
      by_command at o w there some = absurd (omega (arith, some))

      by_maker : (o : Option ℕ) → maker (commands_of script) line a ≡ o → 1 ≤ (distribution_made (commands_of script) o (command_on (commands_of script) o)).m
          → list_most (layout (setting_of script files) (line_meant (commands_of script) line 3)) ≡ list_recovery (distribution_of (commands_of script) line a)
      by_maker None w some = absurd (omega (arith, some))
      by_maker (Some at) w some = by_command at (command_at (commands_of script) at) w refl some ∙ ap (λ o. list_recovery (distribution_made (commands_of script) o (command_on (commands_of script) o))) (sym w)

  -- ---- one command
  abbrev term : Mark → Job → ℕ
  term mark j =
      (if is_live_matrix (setting_of script files) mark j.line then matrix_most (layout (setting_of script files) j.line) else 0)
      + (if is_live_list (setting_of script files) mark j.line then list_most (layout (setting_of script files) j.factors) else 0)

  abbrev most : Mark → Numbered → ℕ
  most mark n = if lives (commands_of script) mark.line n then recovery_made (commands_of script) n.line n.command else 0

  job_is : (line : ℕ) (x : Command) → command_at (commands_of script) line ≡ Some x → job (setting_of script files) line ≡ job_for (commands_of script) (grids_from 0 (commands_of script)) line (Some x)
  job_is line x e = job-in_script script line ∙ ap (job_for (commands_of script) (grids_from 0 (commands_of script)) line) e

  no_matrix : (mark : Mark) (line : ℕ) → is_matrix (setting_of script files) line ≡ false → is_live_matrix (setting_of script files) mark line ≡ false
  no_matrix mark line e = ap (λ b. (b && has_ended mark line) && not (is_dropped (setting_of script files) mark line)) e

  no_list : (mark : Mark) (line : ℕ) → factored (setting_of script files) line ≡ 0 → is_live_list (setting_of script files) mark line ≡ false
  no_list mark line e = ap (λ k. (nat_lt 0 k && nat_le line mark.line) && not (is_dropped (setting_of script files) mark line)) e

  idle : (mark : Mark) (line : ℕ) (j : Job) (k : ℕ) → j.line ≡ line → is_matrix (setting_of script files) line ≡ false → factored (setting_of script files) line ≡ 0 → term mark j ≤ k
  idle mark line j k at a b =
      let one : is_live_matrix (setting_of script files) mark j.line ≡ false = no_matrix mark j.line (ap (is_matrix (setting_of script files)) at ∙ a) in
      let two : is_live_list (setting_of script files) mark j.line ≡ false = no_list mark j.line (ap (factored (setting_of script files)) at ∙ b) in
      rw (one, two) (omega arith)

  ended_by : (mark : Mark) (line : ℕ) → has_ended mark line ≡ true → line ≤ mark.line
  ended_by mark line h =
      ⊎_elim (λ (p : nat_lt line mark.line ≡ true). omega (arith, ltb-true line mark.line p)) (λ (p : ((line == mark.line) && mark.ended) ≡ true). omega (arith, eqb-true line mark.line (and_parts (line == mark.line) mark.ended p).0))
      (or_cases (nat_lt line mark.line) ((line == mark.line) && mark.ended) h)

  one_term : (mark : Mark) (line : ℕ) (x : Command) → command_at (commands_of script) line ≡ Some x → makes_records x ≡ true
      → term mark (job_of (commands_of script) (grids_from 0 (commands_of script)) line x) ≤ most mark (record { line = line; command = x })
  one_term mark line (c.Matrix name grid m n mb nb rsrc csrc file) e made =
      let x : Command = c.Matrix name grid m n mb nb rsrc csrc file in
      let none : is_live_list (setting_of script files) mark line ≡ false = no_list mark line (ap (λ (j : Job). j.factors) (job_is line x e)) in
      ⊎_elim
      (λ (live : is_live_matrix (setting_of script files) mark line ≡ true).
      let parts = and_parts (is_matrix (setting_of script files) line && has_ended mark line) (not (is_dropped (setting_of script files) mark line)) live in
      let ended : has_ended mark line ≡ true = (and_parts (is_matrix (setting_of script files) line) (has_ended mark line) parts.0).1 in
      let there : lives (commands_of script) mark.line (record { line = line; command = x }) ≡ true =
      still-lives script files kept mark line name x e refl refl (not-true (is_dropped (setting_of script files) mark line) parts.1) (ended_by mark line ended) in
      rw (live, none, there) (omega (arith, matrix_same line name grid m n mb nb rsrc csrc file e)))
      (λ (dead : is_live_matrix (setting_of script files) mark line ≡ false). rw (dead, none) (omega arith))
      (cases_Bool (is_live_matrix (setting_of script files) mark line))
  one_term mark line (c.Pgetrf m n a ia ja v) e made =
      let x : Command = c.Pgetrf m n a ia ja v in
      let none : is_live_matrix (setting_of script files) mark line ≡ false = no_matrix mark line (ap (λ (j : Job). is_some j.makes) (job_is line x e)) in
      ⊎_elim
      (λ (live : is_live_list (setting_of script files) mark line ≡ true).
      let parts = and_parts (nat_lt 0 (factored (setting_of script files) line) && nat_le line mark.line) (not (is_dropped (setting_of script files) mark line)) live in
      let by : nat_le line mark.line ≡ true = (and_parts (nat_lt 0 (factored (setting_of script files) line)) (nat_le line mark.line) parts.0).1 in
      let there : lives (commands_of script) mark.line (record { line = line; command = x }) ≡ true =
      still-lives script files kept mark line v x e refl refl (not-true (is_dropped (setting_of script files) mark line) parts.1) (leb-true line mark.line by) in
      rw (none, live, there) (omega (arith, list_same line m n a ia ja v e)))
      (λ (dead : is_live_list (setting_of script files) mark line ≡ false). rw (none, dead) (omega arith))
      (cases_Bool (is_live_list (setting_of script files) mark line))
  one_term mark line (c.Pgemm transa transb m n k alpha a ia ja b ib jb beta x ic jc) e made =
      idle mark line (job_of (commands_of script) (grids_from 0 (commands_of script)) line (c.Pgemm transa transb m n k alpha a ia ja b ib jb beta x ic jc)) _ refl
      (ap (λ (j : Job). is_some j.makes) (job_is line (c.Pgemm transa transb m n k alpha a ia ja b ib jb beta x ic jc) e)) (ap (λ (j : Job). j.factors) (job_is line (c.Pgemm transa transb m n k alpha a ia ja b ib jb beta x ic jc) e))
  one_term mark line (c.Ptrsm side uplo transa diag m n alpha a ia ja b ib jb) e made =
      idle mark line (job_of (commands_of script) (grids_from 0 (commands_of script)) line (c.Ptrsm side uplo transa diag m n alpha a ia ja b ib jb)) _ refl
      (ap (λ (j : Job). is_some j.makes) (job_is line (c.Ptrsm side uplo transa diag m n alpha a ia ja b ib jb) e)) (ap (λ (j : Job). j.factors) (job_is line (c.Ptrsm side uplo transa diag m n alpha a ia ja b ib jb) e))
  one_term mark line (c.Pgetrs trans n nrhs a ia ja v b ib jb) e made =
      idle mark line (job_of (commands_of script) (grids_from 0 (commands_of script)) line (c.Pgetrs trans n nrhs a ia ja v b ib jb)) _ refl
      (ap (λ (j : Job). is_some j.makes) (job_is line (c.Pgetrs trans n nrhs a ia ja v b ib jb) e)) (ap (λ (j : Job). j.factors) (job_is line (c.Pgetrs trans n nrhs a ia ja v b ib jb) e))
  one_term mark line (c.Pgemr2d m n a ia ja b ib jb ctxt) e made =
      idle mark line (job_of (commands_of script) (grids_from 0 (commands_of script)) line (c.Pgemr2d m n a ia ja b ib jb ctxt)) _ refl
      (ap (λ (j : Job). is_some j.makes) (job_is line (c.Pgemr2d m n a ia ja b ib jb ctxt) e)) (ap (λ (j : Job). j.factors) (job_is line (c.Pgemr2d m n a ia ja b ib jb ctxt) e))
  one_term mark line (c.Print name) e made =
      idle mark line (job_of (commands_of script) (grids_from 0 (commands_of script)) line (c.Print name)) _ refl (ap (λ (j : Job). is_some j.makes) (job_is line (c.Print name) e)) (ap (λ (j : Job). j.factors) (job_is line (c.Print name) e))
  one_term mark line (c.Pivots name) e made =
      idle mark line (job_of (commands_of script) (grids_from 0 (commands_of script)) line (c.Pivots name)) _ refl (ap (λ (j : Job). is_some j.makes) (job_is line (c.Pivots name) e)) (ap (λ (j : Job). j.factors) (job_is line (c.Pivots name) e))
  one_term mark line (c.Discard name) e made =
      idle mark line (job_of (commands_of script) (grids_from 0 (commands_of script)) line (c.Discard name)) _ refl (ap (λ (j : Job). is_some j.makes) (job_is line (c.Discard name) e)) (ap (λ (j : Job). j.factors) (job_is line (c.Discard name) e))
  one_term mark line (c.Ptran m n alpha a ia ja beta x ic jc) e made =
      idle mark line (job_of (commands_of script) (grids_from 0 (commands_of script)) line (c.Ptran m n alpha a ia ja beta x ic jc)) _ refl
      (ap (λ (j : Job). is_some j.makes) (job_is line (c.Ptran m n alpha a ia ja beta x ic jc) e)) (ap (λ (j : Job). j.factors) (job_is line (c.Ptran m n alpha a ia ja beta x ic jc) e))
  one_term mark line (c.Pgetri n a ia ja v b ib jb) e made =
      idle mark line (job_of (commands_of script) (grids_from 0 (commands_of script)) line (c.Pgetri n a ia ja v b ib jb)) _ refl
      (ap (λ (j : Job). is_some j.makes) (job_is line (c.Pgetri n a ia ja v b ib jb) e)) (ap (λ (j : Job). j.factors) (job_is line (c.Pgetri n a ia ja v b ib jb) e))
  one_term mark line (c.Pverify name) e made =
      idle mark line (job_of (commands_of script) (grids_from 0 (commands_of script)) line (c.Pverify name)) _ refl
      (ap (λ (j : Job). is_some j.makes) (job_is line (c.Pverify name) e)) (ap (λ (j : Job). j.factors) (job_is line (c.Pverify name) e))
  one_term mark line (c.Grid name p q f) e made = absurd (true≢false (sym made))
  one_term mark line (c.Topology kind) e made = absurd (true≢false (sym made))
  one_term mark line (c.Links n) e made = absurd (true≢false (sym made))
  one_term mark line (c.Order numbers) e made = absurd (true≢false (sym made))
  one_term mark line (c.Lose at rank) e made = absurd (true≢false (sym made))
  one_term mark line (c.Spares n) e made = absurd (true≢false (sym made))
  one_term mark line (c.Field n) e made = absurd (true≢false (sym made))
  one_term mark line (c.Flip name i j x) e made = absurd (true≢false (sym made))

  -- ---- all commands
  eqb_same : (n : ℕ) → (n == n) ≡ true
  eqb_same n = eq-eqb n n refl

  at_later : (k : ℕ) (o : Option Command) (lines : List (Option Command)) (line : ℕ) → k < line → command_at (commands_from k (o ∷ lines)) line ≡ command_at (commands_from (suc k) lines) line
  at_later k None lines line lt = refl
  at_later k (Some d) lines line lt =
      ⊎_elim (λ (e : (k == line) ≡ true). absurd (omega (arith, lt, eqb-true k line e))) (λ (e : (k == line) ≡ false). rw e refl) (cases_Bool (k == line))

  sum_terms : (mark : Mark) (k : ℕ) (lines : List (Option Command)) → ((n : Numbered) → k ≤ n.line → command_at (commands_from k lines) n.line ≡ Some n.command → command_at (commands_of script) n.line ≡ Some n.command)
      → recovery_of (setting_of script files) mark (jobs_from (commands_of script) (grids_from 0 (commands_of script)) (commands_from k lines)) ≤ sum_by (most mark) (commands_from k lines)
  sum_terms mark k [] h = omega arith
  sum_terms mark k (None ∷ lines) h = sum_terms mark (suc k) lines (λ n le e. h n (omega arith) (at_later k None lines n.line (omega arith) ∙ e))
  sum_terms mark k (Some d ∷ lines) h =
      let n : Numbered = record { line = k; command = d } in
      let here : command_at (commands_from k (Some d ∷ lines)) k ≡ Some d = ap (λ b. if b then Some d else command_at (commands_from (suc k) lines) k) (eqb_same k) in
      let rest : recovery_of (setting_of script files) mark (jobs_from (commands_of script) (grids_from 0 (commands_of script)) (commands_from (suc k) lines)) ≤ sum_by (most mark) (commands_from (suc k) lines) =
      sum_terms mark (suc k) lines (λ n le e. h n (omega arith) (at_later k (Some d) lines n.line (omega arith) ∙ e)) in
      let both : sum_by (most mark) (commands_from k (Some d ∷ lines)) ≡ most mark n + sum_by (most mark) (commands_from (suc k) lines) = sum_by-cons (most mark) n (commands_from (suc k) lines) in
      ⊎_elim
      (λ (made : makes_records d ≡ true).
      let one : term mark (job_of (commands_of script) (grids_from 0 (commands_of script)) k d) ≤ most mark n = one_term mark k d (h n (omega arith) here) made in
      rw made (omega (arith, one, rest, both)))
      (λ (made : makes_records d ≡ false). rw made (omega (arith, rest, both)))
      (cases_Bool (makes_records d))

  pub live-most : (mark : Mark) → recovery_of (setting_of script files) mark (setting_of script files).jobs ≤ live_recovery (commands_of script) mark.line
  live-most mark = sum_terms mark 1 script (λ n le e. e)
