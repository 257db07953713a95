-- What is live under the next mark was live under the last one, but for the line that ends.
use Rattle.std.proofs.Common.{◌≡◌, ◌≢◌, ◌<◌, ◌≤◌, ◌==◌, ◌&&◌, ◌||◌, nat_lt, nat_le, ℕ, Bool, true, false, not, is_some, List, [], ◌∷◌, refl, sym, ap, subst, ◌∙◌, ⊎_elim, arith, IsTrue}
use Rattle.std.specs.Prelude.{if◌then◌else◌}
use Rattle.std.proofs.lemmas.Bool.{and_parts, and_from, and_right, or_cases, or_parts, or_from, lt-ltb, ltb-true, ltb-false, leb-true, le-leb, eqb-true, eq-eqb, ne_eqb, eqb-false, true≢false, cases_Bool, false_from_ne_true, true_from_ne_false, not-true}
use Rattle.std.proofs.lemmas.Bool.Decides.{nat_tests}
use Rattle.rank_machine.specs.declared.mark.Mark.{Mark}
use Rattle.rank_machine.specs.Setting.{Setting, Job, some_job, job_in, no_job, is_matrix, factored}
use Rattle.rank_machine.specs.Effect.{has_ended, current_in, current, is_dropped, is_live_matrix, is_live_list, factoring}
use Rattle.rank_machine.specs.Marks.{follows}
use Rattle.run_laws.specs.NextMark.{JobsRise, has_line, is_factored_under, CountsSame}

-- ---- jobs
job_else : (js : List Job) (line : ℕ) → has_line js line ≡ false → job_in js line ≡ no_job line
job_else [] line e = refl
job_else (j ∷ js) line e =
    let z = or_parts (j.line == line) (has_line js line) e in
    ap (λ b. if b then j else job_in js line) z.0 ∙ job_else js line z.1

pub job_of_matrix : (s : Setting) (line : ℕ) → is_matrix s line ≡ true → has_line s.jobs line ≡ true
job_of_matrix s line h = true_from_ne_false (has_line s.jobs line) (λ e. true≢false (sym h ∙ ap (λ (j : Job). is_some j.makes) (job_else s.jobs line e)))

job_of_list : (s : Setting) (line : ℕ) → nat_lt 0 (factored s line) ≡ true → has_line s.jobs line ≡ true
job_of_list s line h = true_from_ne_false (has_line s.jobs line) (λ e. true≢false (sym h ∙ ap (λ (j : Job). nat_lt 0 j.factors) (job_else s.jobs line e)))

-- ---- lines rise
above : (js : List Job) (least line : ℕ) → JobsRise least js → has_line js line ≡ true → least < line
above [] least line h e = absurd (true≢false (sym e))
above (j ∷ js) least line h e =
    ⊎_elim
    (λ (here : (j.line == line) ≡ true). omega (arith, h.0, eqb-true j.line line here))
    (λ (more : has_line js line ≡ true). omega (arith, h.0, above js j.line line h.1 more))
    (or_cases (j.line == line) (has_line js line) e)

-- a job before the current line has ended
before_current : (js : List Job) (least : ℕ) (mark : Mark) (line : ℕ) → JobsRise least js → has_line js line ≡ true → line < current_in js mark → has_ended mark line ≡ true
before_current [] least mark line h e lt = absurd (true≢false (sym e))
before_current (j ∷ js) least mark line h e lt =
    ⊎_elim
    (λ (ended : has_ended mark j.line ≡ true).
    ⊎_elim
    (λ (here : (j.line == line) ≡ true). subst (λ n. has_ended mark n ≡ true) (eqb-true j.line line here) ended)
    (λ (more : has_line js line ≡ true). before_current js j.line mark line h.1 more (subst (λ (b : Bool). line < (if b then current_in js mark else j.line)) ended lt))
    (or_cases (j.line == line) (has_line js line) e))
    (λ (on : has_ended mark j.line ≡ false).
    let now : line < j.line = subst (λ (b : Bool). line < (if b then current_in js mark else j.line)) on lt in
    ⊎_elim
    (λ (here : (j.line == line) ≡ true). absurd (omega (arith, now, eqb-true j.line line here)))
    (λ (more : has_line js line ≡ true). absurd (omega (arith, now, above js j.line line h.1 more)))
    (or_cases (j.line == line) (has_line js line) e))
    (cases_Bool (has_ended mark j.line))

-- the current line has not ended
pub current_goes_on : (js : List Job) (mark : Mark) → 0 < current_in js mark → has_ended mark (current_in js mark) ≡ false
current_goes_on [] mark lt = absurd (omega (arith, lt))
current_goes_on (j ∷ js) mark lt =
    ⊎_elim
    (λ (ended : has_ended mark j.line ≡ true).
    let is : (if has_ended mark j.line then current_in js mark else j.line) ≡ current_in js mark = ap (λ b. if b then current_in js mark else j.line) ended in
    ap (has_ended mark) is ∙ current_goes_on js mark (subst (λ n. 0 < n) is lt))
    (λ (on : has_ended mark j.line ≡ false).
    ap (has_ended mark) (ap (λ b. if b then current_in js mark else j.line) on) ∙ on)
    (cases_Bool (has_ended mark j.line))

-- a line that a mark is in is the current one
itself : (n : ℕ) → (n == n) ≡ true
itself n = eq-eqb n n refl

mark_in_line : (js : List Job) (least : ℕ) (mark : Mark) → JobsRise least js → has_line js mark.line ≡ true → mark.ended ≡ false → current_in js mark ≡ mark.line
mark_in_line [] least mark h e on = absurd (true≢false (sym e))
mark_in_line (j ∷ js) least mark h e on =
    ⊎_elim
    (λ (here : (j.line == mark.line) ≡ true).
    let is = eqb-true j.line mark.line here in
    let not_ended : has_ended mark j.line ≡ false = or_from (nat_lt j.line mark.line) ((j.line == mark.line) && mark.ended) (grind (arith, nat_tests, is)) (ap (λ b. b && mark.ended) here ∙ on) in
    ap (λ b. if b then current_in js mark else j.line) not_ended ∙ is)
    (λ (more : has_line js mark.line ≡ true).
    let lt = above js j.line mark.line h.1 more in
    let ended : has_ended mark j.line ≡ true = ap (λ b. b || ((j.line == mark.line) && mark.ended)) (lt-ltb j.line mark.line lt) in
    ap (λ b. if b then current_in js mark else j.line) ended ∙ mark_in_line js j.line mark h.1 more on)
    (or_cases (j.line == mark.line) (has_line js mark.line) e)

-- ---- a mark that follows
module _ (s : Setting) (mark mark' : Mark) (rising : JobsRise 0 s.jobs) (next : IsTrue (follows s mark mark')) where
  parts : (nat_lt 0 mark'.line ≡ true) × ((mark'.line == current s mark) ≡ true)
  parts = and_parts (nat_lt 0 mark'.line) (mark'.line == current s mark) (and_parts (nat_lt 0 mark'.line && (mark'.line == current s mark)) _ next).0

  pub line_is : mark'.line ≡ current s mark
  line_is = eqb-true mark'.line (current s mark) parts.1

  pub some_line : 0 < mark'.line
  some_line = ltb-true 0 mark'.line parts.0

  pub goes_on : has_ended mark mark'.line ≡ false
  goes_on = ap (has_ended mark) line_is ∙ current_goes_on s.jobs mark (subst (λ n. 0 < n) line_is some_line)

  -- what has ended goes on to have ended
  pub still_ended : (line : ℕ) → has_ended mark line ≡ true → has_ended mark' line ≡ true
  still_ended line h = ap (λ b. b || ((line == mark'.line) && mark'.ended)) (lt-ltb line mark'.line before)
    where
      open_now : (nat_lt mark'.line mark.line ≡ false) × (((mark'.line == mark.line) && mark.ended) ≡ false)
      open_now = or_parts (nat_lt mark'.line mark.line) ((mark'.line == mark.line) && mark.ended) goes_on

      least : mark.line ≤ mark'.line
      least = ltb-false mark'.line mark.line open_now.0

      before : line < mark'.line
      before =
          ⊎_elim
          (λ (lt : nat_lt line mark.line ≡ true). omega (arith, least, ltb-true line mark.line lt))
          (λ (same : ((line == mark.line) && mark.ended) ≡ true).
          let z = and_parts (line == mark.line) mark.ended same in
          let here = eqb-true line mark.line z.0 in
          ⊎_elim
          (λ (e : (mark'.line == mark.line) ≡ true). absurd (true≢false (sym (and_from (mark'.line == mark.line) mark.ended e z.1) ∙ open_now.1)))
          (λ (e : (mark'.line == mark.line) ≡ false). let ne = eqb-false mark'.line mark.line e in grind (arith, here, least, ne))
          (cases_Bool (mark'.line == mark.line)))
          (or_cases (nat_lt line mark.line) ((line == mark.line) && mark.ended) h)

  -- another line that has ended had ended
  pub had_ended : (line : ℕ) → has_line s.jobs line ≡ true → line ≢ mark'.line → has_ended mark' line ≡ true → has_ended mark line ≡ true
  had_ended line there ne h =
      before_current s.jobs 0 mark line rising there
      (subst (λ n. line < n) line_is
      (⊎_elim
      (λ (lt : nat_lt line mark'.line ≡ true). ltb-true line mark'.line lt)
      (λ (same : ((line == mark'.line) && mark'.ended) ≡ true). absurd (ne (eqb-true line mark'.line (and_parts (line == mark'.line) mark'.ended same).0)))
      (or_cases (nat_lt line mark'.line) ((line == mark'.line) && mark'.ended) h)))

  some_less : (js : List Job) (f g : Job → Bool) → ((j : Job) → f j ≡ true → g j ≡ true) → some_job js g ≡ false → some_job js f ≡ false
  some_less [] f g h e = refl
  some_less (j ∷ js) f g h e =
      let z = or_parts (g j) (some_job js g) e in
      or_from (f j) (some_job js f) (false_from_ne_true (f j) (λ t. true≢false (sym (h j t) ∙ z.0))) (some_less js f g h z.1)

  was_there : (what : ℕ) → is_dropped s mark' what ≡ false → is_dropped s mark what ≡ false
  was_there what e =
      some_less s.jobs (λ j. has_ended mark j.line && (j.drops == what)) (λ j. has_ended mark' j.line && (j.drops == what))
      (λ j t. let z = and_parts (has_ended mark j.line) (j.drops == what) t in and_from (has_ended mark' j.line) (j.drops == what) (still_ended j.line z.0) z.1) e

  pub matrix_was_live : (line : ℕ) → line ≢ mark'.line → is_live_matrix s mark' line ≡ true → is_live_matrix s mark line ≡ true
  matrix_was_live line ne live =
      let z = and_parts (is_matrix s line && has_ended mark' line) (not (is_dropped s mark' line)) live in
      let y = and_parts (is_matrix s line) (has_ended mark' line) z.0 in
      and_from (is_matrix s line && has_ended mark line) (not (is_dropped s mark line))
      (and_from (is_matrix s line) (has_ended mark line) y.0 (had_ended line (job_of_matrix s line y.0) ne y.1))
      (ap not (was_there line (not-true (is_dropped s mark' line) z.1)))

  pub list_was_live : (line : ℕ) → line ≢ mark'.line → is_live_list s mark' line ≡ true → (is_live_list s mark line ≡ true) × (has_ended mark line ≡ true)
  list_was_live line ne live =
      let z = and_parts (nat_lt 0 (factored s line) && nat_le line mark'.line) (not (is_dropped s mark' line)) live in
      let y = and_parts (nat_lt 0 (factored s line)) (nat_le line mark'.line) z.0 in
      let le = leb-true line mark'.line y.1 in
      let lt : line < mark'.line = grind (arith, le, ne) in
      let ended = before_current s.jobs 0 mark line rising (job_of_list s line y.0) (subst (λ n. line < n) line_is lt) in
      let low : line ≤ mark.line =
      ⊎_elim
      (λ (a : nat_lt line mark.line ≡ true). omega (arith, ltb-true line mark.line a))
      (λ (b : ((line == mark.line) && mark.ended) ≡ true). omega (arith, eqb-true line mark.line (and_parts (line == mark.line) mark.ended b).0))
      (or_cases (nat_lt line mark.line) ((line == mark.line) && mark.ended) ended) in (
        and_from (nat_lt 0 (factored s line) && nat_le line mark.line) (not (is_dropped s mark line))
            (and_from (nat_lt 0 (factored s line)) (nat_le line mark.line) y.0 (le-leb line mark.line low))
            (ap not (was_there line (not-true (is_dropped s mark' line) z.1))),
        ended,
      )

  -- ---- what counts
  not_factoring : (line : ℕ) (m : Mark) → 0 < line → (m.ended ≡ false → line ≢ factored s m.line) → (factoring s m == line) ≡ false
  not_factoring line m some ne =
      ⊎_elim
      (λ (e : m.ended ≡ true). ap (λ b. (if b then 0 else factored s m.line) == line) e ∙ ne_eqb 0 line (λ z. omega (arith, some, z)))
      (λ (e : m.ended ≡ false). ap (λ b. (if b then 0 else factored s m.line) == line) e ∙ ne_eqb (factored s m.line) line (λ z. ne e (sym z)))
      (cases_Bool m.ended)

  -- another matrix was not being factored
  was_whole : (line : ℕ) → 0 < line → line ≢ factored s mark'.line → mark.ended ≡ false → line ≢ factored s mark.line
  was_whole line some ne on is =
      let there = job_of_list s mark.line (lt-ltb 0 (factored s mark.line) (subst (λ n. 0 < n) is some)) in
      let same = mark_in_line s.jobs 0 mark rising there on in
      ne (is ∙ ap (factored s) (sym same ∙ sym line_is))

  pub counts_same : (line : ℕ) → 0 < line → line ≢ factored s mark'.line → CountsSame s mark mark' line
  counts_same line some ne =
      let new : is_factored_under s mark' line ≡ false = and_right (nat_lt 0 line) (factoring s mark' == line) (not_factoring line mark' some (λ _. ne)) in
      let old : is_factored_under s mark line ≡ false = and_right (nat_lt 0 line) (factoring s mark == line) (not_factoring line mark some (was_whole line some ne)) in
      record {
        low = λ group. ap (λ b. b && nat_le mark'.merged group) new ∙ sym (ap (λ b. b && nat_le mark.merged group) old);
        opens = ap (λ b. b && mark'.opened) new ∙ sym (ap (λ b. b && mark.opened) old);
        closed = λ t. absurd (true≢false (sym t ∙ new));
      }
