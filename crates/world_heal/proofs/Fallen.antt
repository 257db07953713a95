-- A journal at whose end the losses that were due have fallen.
use Rattle.std.proofs.Common.{◌≡◌, ◌+◌, ◌-◌, ◌*◌, ◌≤◌, ◌<◌, ◌==◌, ◌||◌, not, ℕ, zero, suc, Bool, true, false, List, [], ◌∷◌, ◌++◌, refl, sym, ap, subst, ◌∙◌, ⊎_elim, arith, All}
use Rattle.std.specs.Prelude.{if◌then◌else◌}
use Rattle.std.proofs.lemmas.List.Elements.{All-nil, All-cons}
use Rattle.std.proofs.lemmas.Bool.{cases_Bool, and_parts, or_left, or_right, ltb-true, eq-eqb, eqb-true, eqb-false, true≢false}
use Rattle.rank_machine.specs.declared.record.Rec.{Rec}
use Rattle.rank_machine.specs.declared.record.Rec.TheVariants as r
use Rattle.rank_machine.specs.declared.record.Loss.{Loss}
use Rattle.rank_machine.specs.Setting.{Setting, ranks, some_below}
use Rattle.rank_machine.specs.State.{State}
use Rattle.rank_machine.specs.Effect.{after, replay, state_after}
use Rattle.rank_machine.specs.Legal.{IsLegalFrom, IsLegal, some_lost}
use Rattle.rank_machine.specs.Losses.{falls}
use Rattle.run_laws.specs.Due.{numbered, has_fallen, ahead, ahead_of, some_at, is_due_in}
use Rattle.run_laws.specs.LastCommit.{is_commit, rest_after}
use Rattle.run_laws.specs.Traces.{spent}
use Rattle.run_laws.proofs.Journals.{state-append, IsLegalFrom-later, numbered-append}
use Rattle.run_laws.proofs.Inner.{rest-inner}
use Rattle.run_laws.proofs.Losing.{ends_in-append, falls-numbered, falls-end, ahead-fallen}

some_here : (n : ℕ) (f : ℕ → Bool) (i : ℕ) → i < n → f i ≡ true → some_below n f ≡ true
some_here zero f i lt h = absurd (omega (arith, lt))
some_here (suc n) f i lt h =
    ⊎_elim
    (λ (e : (i == n) ≡ true). or_right (some_below n f) (f n) (subst (λ k. f k ≡ true) (same i n e) h))
    (λ (e : (i == n) ≡ false). or_left (some_below n f) (f n) (some_here n f i (below i n lt e) h))
    (cases_Bool (i == n))
  where
    same : (a b : ℕ) → (a == b) ≡ true → a ≡ b
    same a b e = eqb-true a b e

    below : (a b : ℕ) → a < suc b → (a == b) ≡ false → a < b
    below a b lt e = omega (arith, lt, eqb-false a b e)

-- what is lost stays lost while losses fall
lost_stays : (s : Setting) (ls : List Loss) (n : ℕ) (st : State) (rank : ℕ) → st.lost rank ≡ true → (replay s st (falls ls n)).lost rank ≡ true
lost_stays s [] n st rank h = h
lost_stays s (l ∷ ls) n st rank h =
    ⊎_elim
    (λ (e : (l.at == n) ≡ true). rw e (lost_stays s ls n (after s st (r.Lose l.rank)) rank (here rank l.rank h)))
    (λ (e : (l.at == n) ≡ false). rw e (lost_stays s ls n st rank h))
    (cases_Bool (l.at == n))
  where
    here : (a b : ℕ) → st.lost a ≡ true → (if a == b then true else st.lost a) ≡ true
    here a b h = ⊎_elim (λ (e : (a == b) ≡ true). rw e refl) (λ (e : (a == b) ≡ false). rw e h) (cases_Bool (a == b))

falls_lose : (s : Setting) (ls : List Loss) (n : ℕ) (st : State) → some_at ls n ≡ true → IsLegalFrom s st (falls ls n) → some_lost s (replay s st (falls ls n)) ≡ true
falls_lose s [] n st e legal = absurd (cc)
falls_lose s (l ∷ ls) n st e legal =
    ⊎_elim
    (λ (h : (l.at == n) ≡ true).
    let there : IsLegalFrom s st (r.Lose l.rank ∷ falls ls n) = subst (λ b. IsLegalFrom s st (if b then r.Lose l.rank ∷ falls ls n else falls ls n)) h legal in
    let mine : (after s st (r.Lose l.rank)).lost l.rank ≡ true = rw (eq-eqb l.rank l.rank refl) refl in
    rw h (some_here (ranks s) (replay s (after s st (r.Lose l.rank)) (falls ls n)).lost l.rank (ltb-true l.rank (ranks s) there.0) (lost_stays s ls n (after s st (r.Lose l.rank)) l.rank mine)))
    (λ (h : (l.at == n) ≡ false).
    rw h (falls_lose s ls n st (sym (ap (λ b. b || some_at ls n) h) ∙ e) (subst (λ b. IsLegalFrom s st (if b then r.Lose l.rank ∷ falls ls n else falls ls n)) h legal)))
    (cases_Bool (l.at == n))

pub falls_plain : (ls : List Loss) (n : ℕ) → All (λ x. is_commit x ≡ false) (falls ls n)
falls_plain [] n = All-nil (λ (x : Rec). is_commit x ≡ false)
falls_plain (l ∷ ls) n =
    ⊎_elim
    (λ (h : (l.at == n) ≡ true). rw h (All-cons (λ (x : Rec). is_commit x ≡ false) (r.Lose l.rank) (falls ls n) refl (falls_plain ls n)))
    (λ (h : (l.at == n) ≡ false). rw h (falls_plain ls n))
    (cases_Bool (l.at == n))

falls_mark : (s : Setting) (ls : List Loss) (n : ℕ) (st : State) → (replay s st (falls ls n)).mark ≡ st.mark
falls_mark s [] n st = refl
falls_mark s (l ∷ ls) n st =
    ⊎_elim
    (λ (h : (l.at == n) ≡ true). rw h (falls_mark s ls n (after s st (r.Lose l.rank))))
    (λ (h : (l.at == n) ≡ false). rw h (falls_mark s ls n st))
    (cases_Bool (l.at == n))

pays : (a b m : ℕ) → a < b → a * m + m ≤ b * m
pays a b m lt =
    let e : b ≡ a + 1 + (b - suc a) = omega (arith, lt) in
    rw e (omega arith)

-- the journal with the losses of its next record at the end
abbrev pub with_losses : Setting → List Rec → List Rec
with_losses s journal = journal ++ falls s.losses (numbered journal)

module _ (s : Setting) (journal : List Rec) where
  pub rest_fell : rest_after s (with_losses s journal) ≡ rest_after s journal
  rest_fell = rest-inner s journal (falls s.losses (numbered journal)) (falls_plain s.losses (numbered journal))

  pub mark_fell : (state_after s (with_losses s journal)).mark ≡ (state_after s journal).mark
  mark_fell = ap (λ (st : State). st.mark) (state-append s journal (falls s.losses (numbered journal))) ∙ falls_mark s s.losses (numbered journal) (state_after s journal)

  pub numbered_fell : numbered (with_losses s journal) ≡ numbered journal
  numbered_fell = numbered-append journal (falls s.losses (numbered journal)) ∙ omega (arith, falls-numbered s.losses (numbered journal))

-- ---- where a loss was due
module _ (s : Setting) (journal : List Rec) (due : is_due_in s.losses journal ≡ true) where
  some_due : some_at s.losses (numbered journal) ≡ true
  some_due = (and_parts (not (has_fallen journal)) (some_at s.losses (numbered journal)) due).1

  still_open : has_fallen journal ≡ false
  still_open = not_false (has_fallen journal) (and_parts (not (has_fallen journal)) (some_at s.losses (numbered journal)) due).0
    where
      not_false : (b : Bool) → not b ≡ true → b ≡ false
      not_false false h = refl
      not_false true h = absurd (true≢false (sym h))

  pub some_fell : IsLegal s (with_losses s journal) → some_lost s (state_after s (with_losses s journal)) ≡ true
  some_fell legal =
      subst (λ st. some_lost s st ≡ true) (sym (state-append s journal (falls s.losses (numbered journal))))
      (falls_lose s s.losses (numbered journal) (state_after s journal) some_due (IsLegalFrom-later s _ journal (falls s.losses (numbered journal)) legal))

  pub now_fell : has_fallen (with_losses s journal) ≡ true
  now_fell = ends_in-append false journal (falls s.losses (numbered journal)) ∙ (falls-end s.losses (numbered journal) (has_fallen journal) ∙ rw (still_open, some_due) refl)

  -- fewer losses are ahead
  pub fewer_fell : ahead s (with_losses s journal) < ahead s journal
  fewer_fell =
      let after_it : ahead s (with_losses s journal) ≡ ahead_of s.losses (numbered journal) true = λ i. ahead_of s.losses (numbered_fell s journal i) (now_fell i) in
      let before_it : ahead s journal ≡ ahead_of s.losses (numbered journal) false = ap (λ b. ahead_of s.losses (numbered journal) b) still_open in
      omega (arith, after_it, before_it, ahead-fallen s.losses (numbered journal) some_due)

  -- and one of them pays
  pub spent_fell : (cost : ℕ) → spent cost s (with_losses s journal) + cost ≤ spent cost s journal
  spent_fell cost = omega (arith, numbered_fell s journal, pays (ahead s (with_losses s journal)) (ahead s journal) cost fewer_fell)
