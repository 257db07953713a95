-- A recovery that losses begin again, as journals: how a journal that ends in losses goes on by the records of an attempt.
use Rattle.std.proofs.Common.{◌≡◌, ◌+◌, ◌≤◌, ◌<◌, ℕ, zero, suc, Bool, true, false, not, Option, Some, None, List, [], ◌∷◌, ◌++◌, length, refl, sym, ap, subst, ◌∙◌, arith, All}
use Rattle.std.proofs.lemmas.List.{append_assoc}
use Rattle.std.proofs.lemmas.List.Elements.{All-head, All-tail}
use Rattle.std.proofs.lemmas.Bool.{true≢false}
use Rattle.rank_machine.specs.declared.record.Rec.{Rec}
use Rattle.rank_machine.specs.declared.record.Rec.TheVariants as r
use Rattle.rank_machine.specs.declared.mark.Mark.{Mark}
use Rattle.rank_machine.specs.Setting.{Setting}
use Rattle.rank_machine.specs.Effect.{state_after}
use Rattle.rank_machine.specs.Legal.{IsLegal, some_lost}
use Rattle.rank_machine.specs.Losses.{is_numbered, falls}
use Rattle.run_laws.specs.Due.{numbered, ends_in, has_fallen, ahead, is_due_in}
use Rattle.run_laws.specs.LastCommit.{is_commit, since, rest_after}
use Rattle.run_laws.specs.Cuts.{MayGoOn, LeadsBack, GoOnFrom, GoesRightly}
use Rattle.run_laws.specs.Traces.{count_after, AreShortFrom, AreShort, HealsWithin, HealFrom, AllHeal, AllHealSoFar, spent}
use Rattle.run_laws.proofs.Journals.{numbered-append, since-append, since_from-append}
use Rattle.run_laws.proofs.Inner.{rest-inner}
use Rattle.run_laws.proofs.Losing.{ahead-later}
use Rattle.run_laws.proofs.Going.{go_append, go_falls}
use Rattle.run_laws.proofs.LeadingBack.{back_append, back_plain, back_healed}
use Rattle.run_laws.proofs.Shorts.{short_plain}
use Rattle.recovery_counts.proofs.InTime.{attempt-costs, again, in-time}
use Rattle.world_heal.proofs.Fallen.{with_losses, falls_plain, rest_fell, some_fell, now_fell, fewer_fell, spent_fell}

numbered_all : (xs : List Rec) → All (λ x. is_numbered x ≡ true) xs → numbered xs ≡ length xs
numbered_all [] h = refl
numbered_all (x ∷ xs) h = rw (All-head (λ (x : Rec). is_numbered x ≡ true) x xs h) (ap suc (numbered_all xs (All-tail (λ (x : Rec). is_numbered x ≡ true) x xs h)))

pays_again : (fell mid now old most : ℕ) → fell + most ≤ mid → mid ≤ now + most → now ≤ old → fell ≤ old
pays_again fell mid now old most a b c = omega (arith, a, b, c)

pays_once : (new now old most : ℕ) → new ≤ now + most → now ≤ old → new ≤ old + most
pays_once new now old most a b = omega (arith, a, b)

-- ---- what stands between two commits
-- after a loss nothing is counted up to the next commit
none_counted : (x : Rec) → is_commit x ≡ false → count_after None x ≡ None
none_counted (r.Commit mark healed) e = absurd (true≢false e)
none_counted (r.Feed a b) e = refl
none_counted (r.Kernel a b) e = refl
none_counted (r.Send a b c) e = refl
none_counted (r.Recv a b c) e = refl
none_counted (r.Save a b) e = refl
none_counted (r.Take a b) e = refl
none_counted r.Restore e = refl
none_counted (r.Spawn a) e = refl
none_counted (r.Lose a) e = refl

loss_counted : (count : Option ℕ) (x : Rec) → not (is_numbered x) ≡ true → count_after count x ≡ None
loss_counted count (r.Lose a) e = refl
loss_counted count (r.Commit mark healed) e = absurd (true≢false (sym e))
loss_counted count (r.Feed a b) e = absurd (true≢false (sym e))
loss_counted count (r.Kernel a b) e = absurd (true≢false (sym e))
loss_counted count (r.Send a b c) e = absurd (true≢false (sym e))
loss_counted count (r.Recv a b c) e = absurd (true≢false (sym e))
loss_counted count (r.Save a b) e = absurd (true≢false (sym e))
loss_counted count (r.Take a b) e = absurd (true≢false (sym e))
loss_counted count r.Restore e = absurd (true≢false (sym e))
loss_counted count (r.Spawn a) e = absurd (true≢false (sym e))

none_short : (phase : ℕ) (added : List Rec) (mark : Mark) → All (λ x. is_commit x ≡ false) added → AreShortFrom phase None (added ++ r.Commit mark true ∷ [])
none_short phase [] mark plain = (tt, tt)
none_short phase (x ∷ xs) mark plain = (
  tt,
  subst (λ count. AreShortFrom phase count (xs ++ r.Commit mark true ∷ [])) (sym (none_counted x (All-head (λ (x : Rec). is_commit x ≡ false) x xs plain)))
      (none_short phase xs mark (All-tail (λ (x : Rec). is_commit x ≡ false) x xs plain)),
)

short_healed : (phase : ℕ) (count : Option ℕ) (last : Bool) (journal added : List Rec) (mark : Mark) → ends_in last journal ≡ true → (last ≡ true → count ≡ None) → All (λ x. is_commit x ≡ false) added
    → AreShortFrom phase count journal → AreShortFrom phase count (journal ++ (added ++ r.Commit mark true ∷ []))
short_healed phase count last [] added mark fell none plain short = subst (λ c. AreShortFrom phase c (added ++ r.Commit mark true ∷ [])) (sym (none fell)) (none_short phase added mark plain)
short_healed phase count last (x ∷ xs) added mark fell none plain short =
    (short.0, short_healed phase (count_after count x) (not (is_numbered x)) xs added mark fell (loss_counted count x) plain short.1)

-- ---- where the run ends
-- what ends in a loss is whole
within_ends : (n : ℕ) (xs : List Rec) → ends_in false xs ≡ true → HealsWithin true n xs → HealsWithin false n xs
within_ends zero xs e h = h
within_ends (suc n) [] e h = absurd (true≢false (sym e))
within_ends (suc n) (r.Lose rank ∷ xs) e h = tt
within_ends (suc n) (r.Commit mark true ∷ xs) e h = tt
within_ends (suc n) (r.Commit mark false ∷ xs) e h = within_ends n xs e h
within_ends (suc n) (r.Feed a b ∷ xs) e h = within_ends n xs e h
within_ends (suc n) (r.Kernel a b ∷ xs) e h = within_ends n xs e h
within_ends (suc n) (r.Send a b c ∷ xs) e h = within_ends n xs e h
within_ends (suc n) (r.Recv a b c ∷ xs) e h = within_ends n xs e h
within_ends (suc n) (r.Save a b ∷ xs) e h = within_ends n xs e h
within_ends (suc n) (r.Take a b ∷ xs) e h = within_ends n xs e h
within_ends (suc n) (r.Restore ∷ xs) e h = within_ends n xs e h
within_ends (suc n) (r.Spawn a ∷ xs) e h = within_ends n xs e h

heal_ends : (n : ℕ) (s : Setting) (before xs : List Rec) (last : Bool) → ends_in last xs ≡ true → (MayGoOn s (before ++ xs) → ⊥) → HealFrom true n s before xs → HealFrom false n s before xs
heal_ends n s before [] last e over h = tt
heal_ends n s before (x ∷ []) last e over h = ((λ is go. absurd (over go)), tt)
heal_ends n s before (x ∷ y ∷ ys) last e over h = (
  (λ is go. within_ends n (y ∷ ys) e (h.0 is go)),
  heal_ends n s (before ++ x ∷ []) (y ∷ ys) true e (λ go. over (subst (MayGoOn s) (append_assoc before (x ∷ []) (y ∷ ys)) go)) h.1,
)

-- the run is over, so no loss at its end asks for a healed commit
pub over-in_time : (recovery : ℕ) (s : Setting) (journal : List Rec) → has_fallen journal ≡ true → (MayGoOn s journal → ⊥) → AllHealSoFar recovery s journal → AllHeal recovery s journal
over-in_time recovery s journal fell over h = heal_ends recovery s [] journal false fell over h

-- ---- attempts
-- A recovery that began in one journal begins, for the first time or again, in another: losses have just fallen, the last commit is the same one, and nothing
-- was spent that the losses did not pay, where a recovery takes so many records at most.
pub record BeginsAgain (s : Setting) (most : ℕ) (old now : List Rec) : Type 0 where
  pub fell : has_fallen now ≡ true
  pub lost : some_lost s (state_after s now) ≡ true
  pub rest : rest_after s now ≡ rest_after s old
  pub paid : spent most s now ≤ spent most s old
  pub goes : GoesRightly s old → GoesRightly s now
  pub short : (phase : ℕ) → AreShort phase old → AreShort phase now
  pub in_time : (recovery : ℕ) → most ≤ recovery → AllHealSoFar recovery s old → AllHealSoFar recovery s now

pub begins-first : (s : Setting) (most : ℕ) (journal : List Rec) → has_fallen journal ≡ true → some_lost s (state_after s journal) ≡ true → BeginsAgain s most journal journal
begins-first s most journal fell lost = record { fell = fell; lost = lost; rest = refl; paid = omega arith; goes = λ h. h; short = λ phase h. h; in_time = λ recovery le h. h }

module _ (s : Setting) (most : ℕ) (old now added : List Rec) (h : BeginsAgain s most old now) (counts : All (λ x. is_numbered x ≡ true) added) (plain : All (λ x. is_commit x ≡ false) added) (few : length added < most) where
  -- a loss cut the attempt short
  module _ (goes : GoOnFrom s now added) (due : is_due_in s.losses (now ++ added) ≡ true) where
    pub begins-again : IsLegal s (with_losses s (now ++ added)) → BeginsAgain s most old (with_losses s (now ++ added))
    begins-again legal =
        let mid : List Rec = now ++ added in
        let ls = s.losses in
        let n : ℕ = numbered mid in
        record {
          fell = now_fell s mid due;
          lost = some_fell s mid due legal;
          rest = rest_fell s mid ∙ (rest-inner s now added plain ∙ h.rest);
          paid = pays_again (spent most s (with_losses s mid)) (spent most s mid) (spent most s now) (spent most s old) most (spent_fell s mid due most) (attempt-costs most s now added (omega (arith, numbered_all added counts, few))) h.paid;
          goes = λ go.
              let there : GoesRightly s now = h.goes go in
              record {
                may = go_append s [] mid (falls ls n) (go_append s [] now added there.may goes) (go_falls s mid ls n);
                back = back_append s [] mid (falls ls n) (back_append s [] now added there.back (back_plain s now added plain)) (back_plain s mid (falls ls n) (falls_plain ls n));
              };
          short = λ phase short. short_plain phase mid (falls ls n) (falls_plain ls n) (short_plain phase now added plain (h.short phase short));
          in_time = λ recovery le heals. subst (AllHealSoFar recovery s) (sym (append_assoc now added (falls ls n))) (again recovery s now added ls n (h.in_time recovery le heals) h.fell counts (omega (arith, few, le)));
        }

    pub begins-fewer : ahead s (with_losses s (now ++ added)) < ahead s now
    begins-fewer = omega (arith, fewer_fell s (now ++ added) due, ahead-later s now added)

  -- the healed commit was made
  module _ (mark : Mark) where
    abbrev healed : List Rec
    healed = now ++ (added ++ r.Commit mark true ∷ [])

    pub healed-last : since healed ≡ []
    healed-last = since-append now (added ++ r.Commit mark true ∷ []) ∙ since_from-append (since now) added (r.Commit mark true ∷ [])

    pub healed-costs : spent most s healed ≤ spent most s old + most
    healed-costs =
        let count : numbered (added ++ r.Commit mark true ∷ []) ≤ most = omega (arith, numbered-append added (r.Commit mark true ∷ []), numbered_all added counts, few) in
        pays_once (spent most s healed) (spent most s now) (spent most s old) most (attempt-costs most s now (added ++ r.Commit mark true ∷ []) count) h.paid

    pub healed-goes : GoOnFrom s now (added ++ r.Commit mark true ∷ []) → LeadsBack s (now ++ added) (r.Commit mark true) → GoesRightly s old → GoesRightly s healed
    healed-goes goes same go =
        let there : GoesRightly s now = h.goes go in
        record {
          may = go_append s [] now (added ++ r.Commit mark true ∷ []) there.may goes;
          back = back_append s [] now (added ++ r.Commit mark true ∷ []) there.back (back_append s now added (r.Commit mark true ∷ []) (back_plain s now added plain) (back_healed s (now ++ added) mark same));
        }

    pub healed-short : (phase : ℕ) → AreShort phase old → AreShort phase healed
    healed-short phase short = short_healed phase (Some 0) false now added mark h.fell (λ e. absurd (true≢false (sym e))) plain (h.short phase short)

    pub healed-in_time : (recovery : ℕ) → most ≤ recovery → AllHealSoFar recovery s old → AllHeal recovery s healed
    healed-in_time recovery le heals = in-time recovery s now added mark (h.in_time recovery le heals) h.fell counts (omega (arith, few, le))
