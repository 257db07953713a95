-- What is live, and which mark follows, after a commit inside a line that makes no matrix, factors nothing and drops nothing.
use Rattle.std.proofs.Common.{◌≡◌, ◌≢◌, ◌<◌, ◌≤◌, ◌==◌, ◌&&◌, ◌||◌, nat_lt, ℕ, suc, Bool, true, false, not, List, [], ◌∷◌, Option, refl, sym, ap, ◌∙◌, ⊎_elim, arith, IsTrue}
use Rattle.std.specs.Prelude.{◌⊎◌, if◌then◌else◌, nat_le}
use Rattle.std.proofs.lemmas.Bool.{and_parts, and_from, or_cases, or_left, or_right, lt-ltb, ltb-true, le-leb, leb-true, eq-eqb, eqb-true, eqb-false, ne_eqb, true≢false, cases_Bool, false_from_ne_true}
use Rattle.run_data.specs.declared.command.Command.{Command}
use Rattle.blacs_grid.specs.Places.{is_member, is_data_rank, is_code_rank}
use Rattle.rank_machine.specs.declared.mark.Mark.{Mark}
use Rattle.rank_machine.specs.declared.slot.Slot.{Slot}
use Rattle.rank_machine.specs.declared.slot.SlotKind.{SlotKind}
use Rattle.rank_machine.specs.declared.slot.SlotKind.TheVariants as kind
use Rattle.rank_machine.specs.Setting.{Setting, Job, some_job, job_in, job, is_job, is_matrix, layout, factored, group_count}
use Rattle.rank_machine.specs.Scripts.{Matrices}
use Rattle.rank_machine.specs.State.{end_mark}
use Rattle.rank_machine.specs.Effect.{has_ended, current, is_dropped, is_live_matrix, is_live_list, factoring, is_live_kind, is_live}
use Rattle.rank_machine.specs.Marks.{numbers_in, factoring_goes_on, follows}
use Rattle.run_laws.specs.NextMark.{JobsRise, has_line}
use Rattle.run_laws.proofs.Scripts.{script_rising}
use Rattle.run_laws.proofs.Marks.{job_of_matrix}
use Rattle.line_laws.proofs.NextLine.{above, job-of_list, current-next, end-follows}
use Rattle.block_world.specs.World.{WorldView, setting_in, state_of}
use Rattle.whole_run.specs.Between.{HasRun}
use Rattle.whole_run.specs.Inside.{part_mark}

-- ---- tests
same_tests : (a b : Bool) → (a ≡ true → b ≡ true) → (b ≡ true → a ≡ true) → a ≡ b
same_tests true b to from = sym (to refl)
same_tests false true to from = from refl
same_tests false false to from = refl

never_both : (b : Bool) → (b && false) ≡ false
never_both true = refl
never_both false = refl

none_or : (a b : Bool) → (a || (b && false)) ≡ a
none_or true b = refl
none_or false b = never_both b

-- where the first of three tests tells the others
all_same : (a b b' c c' : Bool) → (a ≡ true → b ≡ b') → (a ≡ true → c ≡ c') → ((a && b) && c) ≡ ((a && b') && c')
all_same true b b' c c' second third = λ i. second refl i && third refl i
all_same false b b' c c' second third = refl

-- ---- jobs
-- two tests that agree on each job
same_jobs : (js : List Job) (least : ℕ) (f g : Job → Bool) → JobsRise least js → ((j : Job) → has_line js j.line ≡ true → job_in js j.line ≡ j → f j ≡ g j) → some_job js f ≡ some_job js g
same_jobs [] least f g rise h = refl
same_jobs (j ∷ js) least f g rise h =
    let this : f j ≡ g j = h j (or_left (j.line == j.line) (has_line js j.line) (eq-eqb j.line j.line refl)) (ap (λ b. if b then j else job_in js j.line) (eq-eqb j.line j.line refl)) in
    let later : some_job js f ≡ some_job js g =
    same_jobs js j.line f g rise.1
    (λ k there is.
    h k (or_right (j.line == k.line) (has_line js k.line) there)
    (ap (λ b. if b then j else job_in js k.line) (ne_eqb j.line k.line (λ same. omega (arith, same, above js j.line k.line rise.1 there))) ∙ is)) in
    λ i. this i || later i

-- no job stands on line 0
some_line : (s : Setting) (at : ℕ) → JobsRise 0 s.jobs → is_job s at ≡ true → 0 < at
some_line s at rising there = above s.jobs 0 at rising there

none_factored : (s : Setting) → JobsRise 0 s.jobs → factored s 0 ≡ 0
none_factored s rising = zero_is (factored s 0) (λ some. omega (arith, some_line s 0 rising (job-of_list s 0 (lt-ltb 0 (factored s 0) some))))
  where
    zero_is : (n : ℕ) → (0 < n → ⊥) → n ≡ 0
    zero_is n none = grind arith

-- ---- slots: which are live follows from which matrices and lists are, where nothing is being factored
none_low : (s : Setting) (mark : Mark) (id : ℕ) → factoring s mark ≡ 0 → (nat_lt 0 id && (factoring s mark == id)) ≡ false
none_low s mark id none = ap (λ n. nat_lt 0 id && (n == id)) none ∙ not_zero id
  where
    not_zero : (id : ℕ) → (nat_lt 0 id && (0 == id)) ≡ false
    not_zero id = false_from_ne_true (nat_lt 0 id && (0 == id)) (λ h. let z = and_parts (nat_lt 0 id) (0 == id) h in omega (arith, ltb-true 0 id z.0, eqb-true 0 id z.1))

module _ (s : Setting) (mark mark' : Mark) (rank : ℕ) (slot : Slot) (plain : factoring s mark ≡ 0) (plain' : factoring s mark' ≡ 0)
    (matrix : is_live_matrix s mark' slot.id ≡ is_live_matrix s mark slot.id) (list : is_live_list s mark' slot.id ≡ is_live_list s mark slot.id) where
  kind_same : (k : SlotKind) → is_live_kind s mark' rank slot k ≡ is_live_kind s mark rank slot k
  kind_same kind.Data = ap (λ b. (is_data_rank (layout s slot.id).grid rank && nat_lt slot.group (group_count (layout s slot.id))) && b) matrix
  kind_same kind.Code = ap (λ b. (is_code_rank (layout s slot.id).grid rank && nat_lt slot.group (group_count (layout s slot.id))) && b) matrix
  kind_same kind.Low =
      let a = is_code_rank (layout s slot.id).grid rank && nat_lt slot.group (group_count (layout s slot.id)) in
      ap (λ b. a && (b && nat_le mark'.merged slot.group)) (none_low s mark' slot.id plain') ∙ sym (ap (λ b. a && (b && nat_le mark.merged slot.group)) (none_low s mark slot.id plain))
  kind_same kind.Open =
      let a = is_code_rank (layout s slot.id).grid rank && (slot.group == 0) in
      ap (λ b. a && (b && mark'.opened)) (none_low s mark' slot.id plain') ∙ sym (ap (λ b. a && (b && mark.opened)) (none_low s mark slot.id plain))
  kind_same kind.Pivots = ap (λ b. (is_member (layout s (factored s slot.id)).grid rank && (slot.group == 0)) && b) list
  kind_same kind.Work = refl

  slots_same : is_live s mark' rank slot ≡ is_live s mark rank slot
  slots_same = kind_same slot.kind

-- ---- a mark inside a line
-- under it the lines before have ended
under_part : (at line : ℕ) → has_ended (part_mark line) at ≡ nat_lt at line
under_part at line = none_or (nat_lt at line) (at == line)

next_line : (at line : ℕ) → nat_lt at (suc line) ≡ nat_le at line
next_line at line = same_tests (nat_lt at (suc line)) (nat_le at line) (λ h. le-leb at line (omega (arith, ltb-true at (suc line) h))) (λ h. lt-ltb at (suc line) (omega (arith, leb-true at line h)))

-- it follows where the line is the current one
follows_part : (s : Setting) (mark : Mark) (line : ℕ) → 0 < line → current s mark ≡ line → factored s line ≡ 0 → IsTrue (follows s mark (part_mark line))
follows_part s mark line some is plain =
    let here : (line == current s mark) ≡ true = eq-eqb line (current s mark) (sym is) in
    let goes_on = factoring_goes_on (layout s (factored s line)) (numbers_in mark line) (part_mark line) in
    and_from (nat_lt 0 line && (line == current s mark)) (if factored s line == 0 then true else goes_on) (and_from (nat_lt 0 line) (line == current s mark) (lt-ltb 0 line some) here)
    (ap (λ (b : Bool). if b then true else goes_on) (eq-eqb (factored s line) 0 plain))

-- ---- from a commit inside a line to the next one, and to the line's end
module _ (s : Setting) (line : ℕ) (rising : JobsRise 0 s.jobs) where
  part_current : is_job s line ≡ true → current s (part_mark line) ≡ line
  part_current there = current-next s.jobs 0 (part_mark line) line rising there (λ at has. under_part at line)

  -- another commit inside the line may follow
  pub part-again : is_job s line ≡ true → factored s line ≡ 0 → IsTrue (follows s (part_mark line) (part_mark line))
  part-again there plain = follows_part s (part_mark line) line (some_line s line rising there) (part_current there) plain

  -- the end of the line may follow
  pub part-end : is_job s line ≡ true → IsTrue (follows s (part_mark line) (end_mark line))
  part-end there = end-follows s (part_mark line) line (some_line s line rising there) (part_current there)

  -- the line's end ends no other line
  under_end : (at : ℕ) → at ≢ line → has_ended (end_mark line) at ≡ has_ended (part_mark line) at
  under_end at other = ap (λ b. nat_lt at line || (b && true)) (ne_eqb at line other) ∙ sym (ap (λ b. nat_lt at line || (b && false)) (ne_eqb at line other))

  end_dropped : (what : ℕ) → 0 < what → (job s line).drops ≡ 0 → is_dropped s (end_mark line) what ≡ is_dropped s (part_mark line) what
  end_dropped what some none =
      same_jobs s.jobs 0 (λ j. has_ended (end_mark line) j.line && (j.drops == what)) (λ j. has_ended (part_mark line) j.line && (j.drops == what)) rising
      (λ j there is.
      ⊎_elim
      (λ (here : (j.line == line) ≡ true).
      let drops : j.drops ≡ 0 = ap (λ (k : Job). k.drops) (sym is) ∙ (ap (λ l. (job s l).drops) (eqb-true j.line line here) ∙ none) in
      let other : (j.drops == what) ≡ false = ne_eqb j.drops what (λ same. omega (arith, same, drops, some)) in
      ap (λ b. has_ended (end_mark line) j.line && b) other ∙ (never_both (has_ended (end_mark line) j.line) ∙ sym (ap (λ b. has_ended (part_mark line) j.line && b) other ∙ never_both (has_ended (part_mark line) j.line))))
      (λ (other : (j.line == line) ≡ false). ap (λ b. b && (j.drops == what)) (under_end j.line (eqb-false j.line line other)))
      (cases_Bool (j.line == line)))

  -- what is live then was live inside the line, but for what the line makes
  pub end-matrix : (job s line).drops ≡ 0 → (at : ℕ) → at ≢ line → is_live_matrix s (end_mark line) at ≡ is_live_matrix s (part_mark line) at
  end-matrix none at other =
      all_same (is_matrix s at) (has_ended (end_mark line) at) (has_ended (part_mark line) at) (not (is_dropped s (end_mark line) at)) (not (is_dropped s (part_mark line) at))
      (λ makes. under_end at other) (λ makes. ap not (end_dropped at (some_line s at rising (job_of_matrix s at makes)) none))

  pub end-list : (job s line).drops ≡ 0 → (at : ℕ) → is_live_list s (end_mark line) at ≡ is_live_list s (part_mark line) at
  end-list none at =
      all_same (nat_lt 0 (factored s at)) (nat_le at line) (nat_le at line) (not (is_dropped s (end_mark line) at)) (not (is_dropped s (part_mark line) at))
      (λ makes. refl) (λ makes. ap not (end_dropped at (some_line s at rising (job-of_list s at makes)) none))

  -- and so are the slots
  pub end-live : (job s line).drops ≡ 0 → factored s line ≡ 0 → (rank : ℕ) (slot : Slot) → slot.id ≢ line → is_live s (end_mark line) rank slot ≡ is_live s (part_mark line) rank slot
  end-live none plain rank slot other = slots_same s (part_mark line) (end_mark line) rank slot plain refl (end-matrix none slot.id other) (end-list none slot.id)

-- ---- from the end of the lines before to a commit inside the next one: under a mark exactly these have ended
module _ (s : Setting) (mark : Mark) (line : ℕ) (rising : JobsRise 0 s.jobs) (done : (at : ℕ) → is_job s at ≡ true → has_ended mark at ≡ nat_le at line) (begun : mark.ended ≡ nat_lt 0 mark.line) where
  -- the next line has begun
  pub begins-part : is_job s (suc line) ≡ true → factored s (suc line) ≡ 0 → IsTrue (follows s mark (part_mark (suc line)))
  begins-part there plain = follows_part s mark (suc line) (omega arith) (current-next s.jobs 0 mark (suc line) rising there (λ at has. done at has ∙ sym (next_line at line))) plain

  same_ended : (at : ℕ) → is_job s at ≡ true → has_ended (part_mark (suc line)) at ≡ has_ended mark at
  same_ended at there = under_part at (suc line) ∙ (next_line at line ∙ sym (done at there))

  same_dropped : (what : ℕ) → is_dropped s (part_mark (suc line)) what ≡ is_dropped s mark what
  same_dropped what =
      same_jobs s.jobs 0 (λ j. has_ended (part_mark (suc line)) j.line && (j.drops == what)) (λ j. has_ended mark j.line && (j.drops == what)) rising
      (λ j there is. ap (λ b. b && (j.drops == what)) (same_ended j.line there))

  -- the same matrices are live
  pub matrix-same : (at : ℕ) → is_live_matrix s (part_mark (suc line)) at ≡ is_live_matrix s mark at
  matrix-same at =
      all_same (is_matrix s at) (has_ended (part_mark (suc line)) at) (has_ended mark at) (not (is_dropped s (part_mark (suc line)) at)) (not (is_dropped s mark at))
      (λ makes. same_ended at (job_of_matrix s at makes)) (λ makes. ap not (same_dropped at))

  -- the line of a list is at most the mark's where it is at most the next one
  same_reached : (at : ℕ) → is_job s at ≡ true → at ≢ suc line → nat_le at (suc line) ≡ nat_le at mark.line
  same_reached at there other = reached mark.line mark.ended (some_line s at rising there) begun (done at there)
    where
      reached : (last : ℕ) (ended : Bool) → 0 < at → ended ≡ nat_lt 0 last → (nat_lt at last || ((at == last) && ended)) ≡ nat_le at line → nat_le at (suc line) ≡ nat_le at last
      reached last ended some is h =
          same_tests (nat_le at (suc line)) (nat_le at last)
          (λ e. le-leb at last (at_most (or_cases (nat_lt at last) ((at == last) && ended) (h ∙ le-leb at line (less at line (leb-true at (suc line) e) other)))))
          (λ e. le-leb at (suc line) (let le : at ≤ line = leb-true at line (sym h ∙ has_come (leb-true at last e)) in omega (arith, le)))
        where
          less : (at line : ℕ) → at ≤ suc line → at ≢ suc line → at ≤ line
          less at line le ne = grind arith

          at_most : (nat_lt at last ≡ true) ⊎ (((at == last) && ended) ≡ true) → at ≤ last
          at_most c = ⊎_elim (λ (p : nat_lt at last ≡ true). omega (arith, ltb-true at last p)) (λ (p : ((at == last) && ended) ≡ true). omega (arith, eqb-true at last (and_parts (at == last) ended p).0)) c

          has_come : at ≤ last → (nat_lt at last || ((at == last) && ended)) ≡ true
          has_come le =
              ⊎_elim
              (λ (e : (at == last) ≡ true). or_right (nat_lt at last) ((at == last) && ended) (and_from (at == last) ended e (is ∙ lt-ltb 0 last (omega (arith, some, le)))))
              (λ (e : (at == last) ≡ false). or_left (nat_lt at last) ((at == last) && ended) (lt-ltb at last (before at last le (eqb-false at last e))))
              (cases_Bool (at == last))
            where
              before : (a b : ℕ) → a ≤ b → a ≢ b → a < b
              before a b le ne = grind arith

  -- the same lists are live
  pub list-same : factored s (suc line) ≡ 0 → (at : ℕ) → is_live_list s (part_mark (suc line)) at ≡ is_live_list s mark at
  list-same plain at =
      all_same (nat_lt 0 (factored s at)) (nat_le at (suc line)) (nat_le at mark.line) (not (is_dropped s (part_mark (suc line)) at)) (not (is_dropped s mark at))
      (λ makes. same_reached at (job-of_list s at makes) (λ here. omega (arith, ltb-true 0 (factored s at) makes, ap (factored s) here, plain))) (λ makes. ap not (same_dropped at))

  none_factoring : factoring s mark ≡ 0
  none_factoring =
      ⊎_elim
      (λ (e : mark.ended ≡ true). ap (λ b. if b then 0 else factored s mark.line) e)
      (λ (e : mark.ended ≡ false). ap (λ b. if b then 0 else factored s mark.line) e ∙ (ap (factored s) (zero_is mark.line (λ some. true≢false (sym (lt-ltb 0 mark.line some) ∙ (sym begun ∙ e)))) ∙ none_factored s rising))
      (cases_Bool mark.ended)
    where
      zero_is : (n : ℕ) → (0 < n → ⊥) → n ≡ 0
      zero_is n none = grind arith

  -- the same slots are live
  pub live-same : factored s (suc line) ≡ 0 → (rank : ℕ) (slot : Slot) → is_live s (part_mark (suc line)) rank slot ≡ is_live s mark rank slot
  live-same plain rank slot = slots_same s mark (part_mark (suc line)) rank slot none_factoring plain (matrix-same slot.id) (list-same plain slot.id)

-- the same where a run has come to the end of the lines before
module _ (script : List (Option Command)) (files : Matrices) (line : ℕ) (w : WorldView) (out : List ℕ) (h : HasRun script files line w out) where
  pub part-follows : is_job (setting_in w) (suc line) ≡ true → factored (setting_in w) (suc line) ≡ 0 → IsTrue (follows (setting_in w) (state_of w).mark (part_mark (suc line)))
  part-follows = begins-part (setting_in w) (state_of w).mark line (script_rising w.script w.files) h.done h.none_begun

  pub part-matrix : (at : ℕ) → is_live_matrix (setting_in w) (part_mark (suc line)) at ≡ is_live_matrix (setting_in w) (state_of w).mark at
  part-matrix = matrix-same (setting_in w) (state_of w).mark line (script_rising w.script w.files) h.done h.none_begun

  pub part-list : factored (setting_in w) (suc line) ≡ 0 → (at : ℕ) → is_live_list (setting_in w) (part_mark (suc line)) at ≡ is_live_list (setting_in w) (state_of w).mark at
  part-list = list-same (setting_in w) (state_of w).mark line (script_rising w.script w.files) h.done h.none_begun

  pub part-live : factored (setting_in w) (suc line) ≡ 0 → (rank : ℕ) (slot : Slot) → is_live (setting_in w) (part_mark (suc line)) rank slot ≡ is_live (setting_in w) (state_of w).mark rank slot
  part-live = live-same (setting_in w) (state_of w).mark line (script_rising w.script w.files) h.done h.none_begun
