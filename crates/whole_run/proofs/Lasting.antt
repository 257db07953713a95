-- What lasts from a commit on, and the line that ended last.
use Rattle.std.proofs.Common.{◌≡◌, ◌+◌, ◌*◌, ◌<◌, ◌≤◌, ◌==◌, ◌&&◌, ℕ, Bool, true, false, nat_lt, List, [], ◌∷◌, ◌++◌, refl, sym, ap, subst, ◌∙◌, ⊎_elim, arith}
use Rattle.std.specs.Prelude.{if◌then◌else◌}
use Rattle.std.proofs.lemmas.Bool.{and_parts, ltb-true, true≢false, cases_Bool, eqb-true, eq-eqb, lt-ltb, or_left, or_right, and_from}
use Rattle.std.proofs.lemmas.Bool.Decides.{nat_tests}
use Rattle.rank_machine.specs.declared.mark.Mark.{Mark}
use Rattle.rank_machine.specs.declared.record.Rec.{Rec}
use Rattle.rank_machine.specs.declared.record.Rec.TheVariants as r
use Rattle.rank_machine.specs.Setting.{Job, Setting}
use Rattle.rank_machine.specs.State.{State, opened}
use Rattle.rank_machine.specs.Effect.{after, replay, state_after, has_ended, current_in, current}
use Rattle.rank_machine.specs.Legal.{IsLegalFrom, IsLegal, IsNext}
use Rattle.rank_machine.specs.Marks.{follows}
use Rattle.run_laws.specs.Due.{ends_in, has_fallen}
use Rattle.run_laws.specs.LastCommit.{is_commit, since, since_from, rest_from, rest_after}
use Rattle.run_laws.proofs.Journals.{state-append, IsLegalFrom-later}
use Rattle.rank_machine.specs.Losses.{last_ended_from, last_ended}

-- ---- marks, and takes that count, change at commits only
record IsSameLine (a b : State) : Type 0 where
  mark : a.mark ≡ b.mark
  committed : a.committed ≡ b.committed

one_more : (s : Setting) (now rest : State) (x : Rec) → is_commit x ≡ false → IsSameLine now rest → IsSameLine (after s now x) rest
one_more s now rest (r.Commit m b) e h = absurd (true≢false e)
one_more s now rest (r.Feed a b) e h = record { mark = h.mark; committed = h.committed }
one_more s now rest (r.Kernel a b) e h = record { mark = h.mark; committed = h.committed }
one_more s now rest (r.Send a b c) e h = record { mark = h.mark; committed = h.committed }
one_more s now rest (r.Recv a b c) e h = record { mark = h.mark; committed = h.committed }
one_more s now rest (r.Save a b) e h = record { mark = h.mark; committed = h.committed }
one_more s now rest (r.Take a b) e h = record { mark = h.mark; committed = h.committed }
one_more s now rest r.Restore e h = record { mark = h.mark; committed = h.committed }
one_more s now rest (r.Spawn a) e h = record { mark = h.mark; committed = h.committed }
one_more s now rest (r.Lose a) e h = record { mark = h.mark; committed = h.committed }

same_line : (s : Setting) (rest now : State) (xs : List Rec) → IsSameLine now rest → IsSameLine (replay s now xs) (rest_from s rest now xs)
same_line s rest now [] h = h
same_line s rest now (x ∷ xs) h =
    ⊎_elim
    (λ (e : is_commit x ≡ true). rw e (same_line s (after s now x) (after s now x) xs (record { mark = refl; committed = refl })))
    (λ (e : is_commit x ≡ false). rw e (same_line s rest (after s now x) xs (one_more s now rest x e h)))
    (cases_Bool (is_commit x))

pub mark-rest : (s : Setting) (journal : List Rec) → (state_after s journal).mark ≡ (rest_after s journal).mark
mark-rest s journal = (same_line s (opened s) (opened s) journal (record { mark = refl; committed = refl })).mark

pub committed-rest : (s : Setting) (journal : List Rec) → (state_after s journal).committed ≡ (rest_after s journal).committed
committed-rest s journal = (same_line s (opened s) (opened s) journal (record { mark = refl; committed = refl })).committed

-- ---- after a commit no loss has just fallen
push_nil : (xs : List Rec) (x : Rec) → xs ++ x ∷ [] ≡ [] → ⊥
push_nil [] x e = absurd cc
push_nil (y ∷ ys) x e = absurd cc

none_fell : (acc : List Rec) (last : Bool) (xs : List Rec) → (acc ≡ [] → last ≡ false) → since_from acc xs ≡ [] → ends_in last xs ≡ false
none_fell acc last [] h e = h e
none_fell acc last (r.Commit m b ∷ xs) h e = none_fell [] false xs (λ _. refl) e
none_fell acc last (r.Feed a b ∷ xs) h e = none_fell (acc ++ r.Feed a b ∷ []) _ xs (λ z. absurd (push_nil acc (r.Feed a b) z)) e
none_fell acc last (r.Kernel a b ∷ xs) h e = none_fell (acc ++ r.Kernel a b ∷ []) _ xs (λ z. absurd (push_nil acc (r.Kernel a b) z)) e
none_fell acc last (r.Send a b c ∷ xs) h e = none_fell (acc ++ r.Send a b c ∷ []) _ xs (λ z. absurd (push_nil acc (r.Send a b c) z)) e
none_fell acc last (r.Recv a b c ∷ xs) h e = none_fell (acc ++ r.Recv a b c ∷ []) _ xs (λ z. absurd (push_nil acc (r.Recv a b c) z)) e
none_fell acc last (r.Save a b ∷ xs) h e = none_fell (acc ++ r.Save a b ∷ []) _ xs (λ z. absurd (push_nil acc (r.Save a b) z)) e
none_fell acc last (r.Take a b ∷ xs) h e = none_fell (acc ++ r.Take a b ∷ []) _ xs (λ z. absurd (push_nil acc (r.Take a b) z)) e
none_fell acc last (r.Restore ∷ xs) h e = none_fell (acc ++ r.Restore ∷ []) _ xs (λ z. absurd (push_nil acc r.Restore z)) e
none_fell acc last (r.Spawn a ∷ xs) h e = none_fell (acc ++ r.Spawn a ∷ []) _ xs (λ z. absurd (push_nil acc (r.Spawn a) z)) e
none_fell acc last (r.Lose a ∷ xs) h e = none_fell (acc ++ r.Lose a ∷ []) _ xs (λ z. absurd (push_nil acc (r.Lose a) z)) e

pub none-fell : (journal : List Rec) → since journal ≡ [] → has_fallen journal ≡ false
none-fell journal e = none_fell [] false journal (λ _. refl) e

-- ---- the line that ended last
-- where a mark has an end, its line ended last
last_marked : (s : Setting) (st : State) (line : ℕ) (xs : List Rec) → (st.mark.ended ≡ true → line ≡ st.mark.line) → (replay s st xs).mark.ended ≡ true → last_ended_from line xs ≡ (replay s st xs).mark.line
last_marked s st line [] h e = h e
last_marked s st line (r.Commit m b ∷ xs) h e =
    last_marked s (after s st (r.Commit m b)) (if m.ended then m.line else line) xs (λ g. ap (λ b. if b then m.line else line) g) e
last_marked s st line (r.Feed a b ∷ xs) h e = last_marked s (after s st (r.Feed a b)) line xs h e
last_marked s st line (r.Kernel a b ∷ xs) h e = last_marked s (after s st (r.Kernel a b)) line xs h e
last_marked s st line (r.Send a b c ∷ xs) h e = last_marked s (after s st (r.Send a b c)) line xs h e
last_marked s st line (r.Recv a b c ∷ xs) h e = last_marked s (after s st (r.Recv a b c)) line xs h e
last_marked s st line (r.Save a b ∷ xs) h e = last_marked s (after s st (r.Save a b)) line xs h e
last_marked s st line (r.Take a b ∷ xs) h e = last_marked s (after s st (r.Take a b)) line xs h e
last_marked s st line (r.Restore ∷ xs) h e = last_marked s (after s st r.Restore) line xs h e
last_marked s st line (r.Spawn a ∷ xs) h e = last_marked s (after s st (r.Spawn a)) line xs h e
last_marked s st line (r.Lose a ∷ xs) h e = last_marked s (after s st (r.Lose a)) line xs h e

pub last-marked : (s : Setting) (journal : List Rec) → (state_after s journal).mark.ended ≡ true → last_ended journal ≡ (state_after s journal).mark.line
last-marked s journal e = last_marked s (opened s) 0 journal (λ (h : false ≡ true). absurd (true≢false (sym h))) e

-- marks go forwards: by line, and in a line its end comes last
abbrev pub place : Mark → ℕ
place m = 2 * m.line + (if m.ended then 1 else 0)

current_open : (js : List Job) (m : Mark) → 0 < current_in js m → has_ended m (current_in js m) ≡ false
current_open [] m h = absurd (omega (arith, h))
current_open (j ∷ js) m h =
    ⊎_elim
    (λ (e : has_ended m j.line ≡ true). rw e (current_open js m (subst (λ b. 0 < (if b then current_in js m else j.line)) e h)))
    (λ (e : has_ended m j.line ≡ false). rw e e)
    (cases_Bool (has_ended m j.line))

not_ended : (m : Mark) (line : ℕ) → has_ended m line ≡ false → place m ≤ 2 * line
not_ended m line e =
    let past : nat_lt line m.line ≡ true → ⊥ = λ h. true≢false (sym (or_left (nat_lt line m.line) ((line == m.line) && m.ended) h) ∙ e) in
    let here : line ≡ m.line → m.ended ≡ true → ⊥ = λ h g. true≢false (sym (or_right (nat_lt line m.line) ((line == m.line) && m.ended) (and_from (line == m.line) m.ended (eq-eqb line m.line h) g)) ∙ e) in
    by_end m line (λ h. past (lt-ltb line m.line h)) here
  where
    by_end : (m : Mark) (line : ℕ) → (line < m.line → ⊥) → (line ≡ m.line → m.ended ≡ true → ⊥) → place m ≤ 2 * line
    by_end m line past here =
        ⊎_elim
        (λ (e : m.ended ≡ true).
        let le : m.line ≤ line = not_less line m.line past in
        let other : line ≡ m.line → ⊥ = λ h. here h e in
        rw e (omega (arith, strictly m.line line le other)))
        (λ (e : m.ended ≡ false). rw e (omega (arith, not_less line m.line past)))
        (cases_Bool m.ended)
      where
        not_less : (a b : ℕ) → (a < b → ⊥) → b ≤ a
        not_less a b h = grind (arith, nat_tests)

        strictly : (a b : ℕ) → a ≤ b → (b ≡ a → ⊥) → a < b
        strictly a b le ne = grind (arith, nat_tests)

follows_on : (s : Setting) (m next : Mark) → follows s m next ≡ true → place m ≤ place next
follows_on s m next h =
    let is : (nat_lt 0 next.line && (next.line == current s m)) ≡ true = (and_parts (nat_lt 0 next.line && (next.line == current s m)) _ h).0 in
    let parts : (nat_lt 0 next.line ≡ true) × ((next.line == current s m) ≡ true) = and_parts (nat_lt 0 next.line) (next.line == current s m) is in
    let same : next.line ≡ current s m = eqb-true next.line (current s m) parts.1 in
    let unended : has_ended m next.line ≡ false = ap (has_ended m) same ∙ current_open s.jobs m (subst (λ k. 0 < k) same (ltb-true 0 next.line parts.0)) in
    omega (arith, not_ended m next.line unended)

pub commit_on : (s : Setting) (st : State) (mark : Mark) (healed : Bool) → IsNext s st mark healed → place st.mark ≤ place mark
commit_on s st mark true h = omega (arith, ap place h)
commit_on s st mark false h = follows_on s st.mark mark h

rises : (s : Setting) (st : State) (xs : List Rec) → IsLegalFrom s st xs → place st.mark ≤ place (replay s st xs).mark
rises s st [] h = omega arith
rises s st (r.Commit m b ∷ xs) h = omega (arith, commit_on s st m b h.0.next, rises s (after s st (r.Commit m b)) xs h.1)
rises s st (r.Feed a b ∷ xs) h = rises s (after s st (r.Feed a b)) xs h.1
rises s st (r.Kernel a b ∷ xs) h = rises s (after s st (r.Kernel a b)) xs h.1
rises s st (r.Send a b c ∷ xs) h = rises s (after s st (r.Send a b c)) xs h.1
rises s st (r.Recv a b c ∷ xs) h = rises s (after s st (r.Recv a b c)) xs h.1
rises s st (r.Save a b ∷ xs) h = rises s (after s st (r.Save a b)) xs h.1
rises s st (r.Take a b ∷ xs) h = rises s (after s st (r.Take a b)) xs h.1
rises s st (r.Restore ∷ xs) h = rises s (after s st r.Restore) xs h.1
rises s st (r.Spawn a ∷ xs) h = rises s (after s st (r.Spawn a)) xs h.1
rises s st (r.Lose a ∷ xs) h = rises s (after s st (r.Lose a)) xs h.1

same_place : (a b : Mark) → place a ≡ place b → (a.line ≡ b.line) × (a.ended ≡ b.ended)
same_place a b e = by_ends a.ended b.ended a.line b.line e
  where
    by_ends : (x y : Bool) (m n : ℕ) → 2 * m + (if x then 1 else 0) ≡ 2 * n + (if y then 1 else 0) → (m ≡ n) × (x ≡ y)
    by_ends true true m n e = (omega (arith, e), refl)
    by_ends false false m n e = (omega (arith, e), refl)
    by_ends true false m n e = absurd (omega (arith, e))
    by_ends false true m n e = absurd (omega (arith, e))

steady : (s : Setting) (st : State) (line : ℕ) (xs : List Rec) → IsLegalFrom s st xs → place (replay s st xs).mark ≡ place st.mark → (st.mark.ended ≡ true → line ≡ st.mark.line) → last_ended_from line xs ≡ line
steady s st line [] h e g = refl
steady s st line (r.Commit m b ∷ xs) h e g =
    let on : place st.mark ≤ place m = commit_on s st m b h.0.next in
    let up : place m ≤ place (replay s (after s st (r.Commit m b)) xs).mark = rises s (after s st (r.Commit m b)) xs h.1 in
    let same : place m ≡ place st.mark = omega (arith, on, up, e) in
    let parts : (m.line ≡ st.mark.line) × (m.ended ≡ st.mark.ended) = same_place m st.mark same in
    ⊎_elim
    (λ (end : m.ended ≡ true).
    let line_is : m.line ≡ line = parts.0 ∙ sym (g (sym parts.1 ∙ end)) in
    rw end (steady s (after s st (r.Commit m b)) m.line xs h.1 (e ∙ sym same) (λ _. refl) ∙ line_is))
    (λ (part : m.ended ≡ false). rw part (steady s (after s st (r.Commit m b)) line xs h.1 (e ∙ sym same) (λ end. absurd (true≢false (sym end ∙ part)))))
    (cases_Bool m.ended)
steady s st line (r.Feed a b ∷ xs) h e g = steady s (after s st (r.Feed a b)) line xs h.1 e g
steady s st line (r.Kernel a b ∷ xs) h e g = steady s (after s st (r.Kernel a b)) line xs h.1 e g
steady s st line (r.Send a b c ∷ xs) h e g = steady s (after s st (r.Send a b c)) line xs h.1 e g
steady s st line (r.Recv a b c ∷ xs) h e g = steady s (after s st (r.Recv a b c)) line xs h.1 e g
steady s st line (r.Save a b ∷ xs) h e g = steady s (after s st (r.Save a b)) line xs h.1 e g
steady s st line (r.Take a b ∷ xs) h e g = steady s (after s st (r.Take a b)) line xs h.1 e g
steady s st line (r.Restore ∷ xs) h e g = steady s (after s st r.Restore) line xs h.1 e g
steady s st line (r.Spawn a ∷ xs) h e g = steady s (after s st (r.Spawn a)) line xs h.1 e g
steady s st line (r.Lose a ∷ xs) h e g = steady s (after s st (r.Lose a)) line xs h.1 e g

pub last_append : (line : ℕ) (xs ys : List Rec) → last_ended_from line (xs ++ ys) ≡ last_ended_from (last_ended_from line xs) ys
last_append line [] ys = refl
last_append line (r.Commit m b ∷ xs) ys = last_append (if m.ended then m.line else line) xs ys
last_append line (r.Feed a b ∷ xs) ys = last_append line xs ys
last_append line (r.Kernel a b ∷ xs) ys = last_append line xs ys
last_append line (r.Send a b c ∷ xs) ys = last_append line xs ys
last_append line (r.Recv a b c ∷ xs) ys = last_append line xs ys
last_append line (r.Save a b ∷ xs) ys = last_append line xs ys
last_append line (r.Take a b ∷ xs) ys = last_append line xs ys
last_append line (r.Restore ∷ xs) ys = last_append line xs ys
last_append line (r.Spawn a ∷ xs) ys = last_append line xs ys
last_append line (r.Lose a ∷ xs) ys = last_append line xs ys

-- where a legal journal goes on and its last mark is the same, no line has ended
pub last-same : (s : Setting) (journal added : List Rec) → IsLegal s (journal ++ added) → (state_after s (journal ++ added)).mark ≡ (state_after s journal).mark → last_ended (journal ++ added) ≡ last_ended journal
last-same s journal added legal e =
    last_append 0 journal added
    ∙ steady s (state_after s journal) (last_ended journal) added (IsLegalFrom-later s (opened s) journal added legal) (ap (λ (st : State). place st.mark) (sym (state-append s journal added)) ∙ ap place e) (last-marked s journal)
