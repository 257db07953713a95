-- The losses since the last commit, where recoveries come in time, are close to one another.
use Rattle.std.proofs.Common.{◌≡◌, ◌+◌, ◌≤◌, ◌==◌, ◌||◌, ℕ, zero, suc, Bool, true, false, List, [], ◌∷◌, ◌++◌, refl, sym, ap, subst, ◌∙◌, arith}
use Rattle.std.specs.Prelude.{if◌then◌else◌}
use Rattle.std.proofs.lemmas.List.{append-nil, append_assoc}
use Rattle.std.proofs.lemmas.Bool.{true≢false}
use Rattle.rank_machine.specs.declared.record.Rec.{Rec}
use Rattle.rank_machine.specs.declared.record.Rec.TheVariants as r
use Rattle.rank_machine.specs.declared.record.Loss.{Loss}
use Rattle.rank_machine.specs.Setting.{Setting}
use Rattle.rank_machine.specs.State.{State}
use Rattle.rank_machine.specs.Effect.{after, state_after}
use Rattle.rank_machine.specs.Losses.{is_numbered}
use Rattle.rank_machine.proofs.Runs.{state_after-push}
use Rattle.run_laws.specs.Cuts.{MayGoOn, GoOnFrom}
use Rattle.run_laws.specs.Traces.{HealsWithin, HealFrom}
use Rattle.loss_bursts.specs.Bursts.{AreClose, is_hit}
use Rattle.loss_bursts.proofs.Sorted.{losses_told}

abbrev pub IsSome : List Loss → Type 0
IsSome [] = ⊥
IsSome (l ∷ ls) = Unit {0}

abbrev pub last_at : List Loss → ℕ
last_at [] = 0
last_at (l ∷ []) = l.at
last_at (l ∷ m ∷ ls) = last_at (m ∷ ls)

pub last_push : (ls : List Loss) (l : Loss) → last_at (ls ++ l ∷ []) ≡ l.at
last_push [] l = refl
last_push (a ∷ []) l = refl
last_push (a ∷ b ∷ ls) l = last_push (b ∷ ls) l

pub close_push : (recovery : ℕ) (ls : List Loss) (l : Loss) → AreClose recovery ls → (IsSome ls → l.at ≤ last_at ls + recovery) → AreClose recovery (ls ++ l ∷ [])
close_push recovery [] l h near = tt
close_push recovery (a ∷ []) l h near = (near tt, tt)
close_push recovery (a ∷ b ∷ ls) l h near = (h.0, close_push recovery (b ∷ ls) l h.1 (λ _. near tt))

hit_push : (ls : List Loss) (l : Loss) (rank : ℕ) → is_hit (ls ++ l ∷ []) rank ≡ (if rank == l.rank then true else is_hit ls rank)
hit_push [] l rank = one (rank == l.rank)
  where
    one : (b : Bool) → (b || false) ≡ (if b then true else false)
    one true = refl
    one false = refl
hit_push (a ∷ ls) l rank = ap (λ b. (rank == a.rank) || b) (hit_push ls l rank) ∙ other (rank == a.rank) (rank == l.rank) (is_hit ls rank)
  where
    other : (a b c : Bool) → (a || (if b then true else c)) ≡ (if b then true else (a || c))
    other true true c = refl
    other true false c = refl
    other false true c = refl
    other false false c = refl

-- so far, before the record of a number: the losses since the last commit are close to one another and to this record; a healed commit is owed for them; and they are what counts as lost
record IsSoFar (s : Setting) (recovery n : ℕ) (before xs : List Rec) (part : List Loss) : Type 0 where
  close : AreClose recovery part
  near : IsSome part → n ≤ last_at part + recovery
  owed : IsSome part → MayGoOn s before → (more : ℕ) × HealsWithin false more xs × (n + more ≡ last_at part + recovery)
  lost : (rank : ℕ) → (state_after s before).lost rank ≡ is_hit part rank

abbrev is_calm : Rec → Bool
is_calm (r.Lose rank) = false
is_calm (r.Commit mark healed) = false
is_calm (r.Feed a b) = true
is_calm (r.Kernel a b) = true
is_calm (r.Send a b c) = true
is_calm (r.Recv a b c) = true
is_calm (r.Save a b) = true
is_calm (r.Take a b) = true
is_calm r.Restore = true
is_calm (r.Spawn a) = true

abbrev IsPaid : ℕ → List Rec → Type 0
IsPaid more xs = (less : ℕ) × (more ≡ less + 1) × HealsWithin false less xs

paid_one : (less : ℕ) (xs : List Rec) → HealsWithin false less xs → IsPaid (suc less) xs
paid_one less xs h = (less, omega arith, h)

paid : (more : ℕ) (x : Rec) (xs : List Rec) → is_calm x ≡ true → HealsWithin false more (x ∷ xs) → IsPaid more xs
paid zero x xs e h = absurd h
paid (suc less) (r.Lose rank) xs e h = absurd (true≢false (sym e))
paid (suc less) (r.Commit mark healed) xs e h = absurd (true≢false (sym e))
paid (suc less) (r.Feed a b) xs e h = paid_one less xs h
paid (suc less) (r.Kernel a b) xs e h = paid_one less xs h
paid (suc less) (r.Send a b c) xs e h = paid_one less xs h
paid (suc less) (r.Recv a b c) xs e h = paid_one less xs h
paid (suc less) (r.Save a b) xs e h = paid_one less xs h
paid (suc less) (r.Take a b) xs e h = paid_one less xs h
paid (suc less) r.Restore xs e h = paid_one less xs h
paid (suc less) (r.Spawn a) xs e h = paid_one less xs h

kept : (s : Setting) (st : State) (x : Rec) → is_calm x ≡ true → (rank : ℕ) → (after s st x).lost rank ≡ st.lost rank
kept s st (r.Lose a) e rank = absurd (true≢false (sym e))
kept s st (r.Commit m h) e rank = absurd (true≢false (sym e))
kept s st (r.Feed a b) e rank = refl
kept s st (r.Kernel a b) e rank = refl
kept s st (r.Send a b c) e rank = refl
kept s st (r.Recv a b c) e rank = refl
kept s st (r.Save a b) e rank = refl
kept s st (r.Take a b) e rank = refl
kept s st r.Restore e rank = refl
kept s st (r.Spawn a) e rank = refl

told_calm : (n : ℕ) (x : Rec) (xs : List Rec) → is_calm x ≡ true → losses_told n (x ∷ xs) ≡ losses_told (n + 1) xs
told_calm n (r.Lose a) xs e = absurd (true≢false (sym e))
told_calm n (r.Commit m h) xs e = absurd (true≢false (sym e))
told_calm n (r.Feed a b) xs e = refl
told_calm n (r.Kernel a b) xs e = refl
told_calm n (r.Send a b c) xs e = refl
told_calm n (r.Recv a b c) xs e = refl
told_calm n (r.Save a b) xs e = refl
told_calm n (r.Take a b) xs e = refl
told_calm n r.Restore xs e = refl
told_calm n (r.Spawn a) xs e = refl

calm_numbered : (x : Rec) → is_calm x ≡ true → is_numbered x ≡ true
calm_numbered (r.Lose a) e = absurd (true≢false (sym e))
calm_numbered (r.Commit m h) e = refl
calm_numbered (r.Feed a b) e = refl
calm_numbered (r.Kernel a b) e = refl
calm_numbered (r.Send a b c) e = refl
calm_numbered (r.Recv a b c) e = refl
calm_numbered (r.Save a b) e = refl
calm_numbered (r.Take a b) e = refl
calm_numbered r.Restore e = refl
calm_numbered (r.Spawn a) e = refl

-- the losses that a journal tells, of which the last ones came after the last commit
pub record IsScanned (s : Setting) (recovery : ℕ) (journal : List Rec) (all : List Loss) : Type 0 where
  pub earlier : List Loss
  pub part : List Loss
  pub whole : all ≡ earlier ++ part
  pub close : AreClose recovery part
  pub lost : (rank : ℕ) → (state_after s journal).lost rank ≡ is_hit part rank

module _ (s : Setting) (recovery : ℕ) where
  calm_next : (n : ℕ) (before : List Rec) (x : Rec) (xs : List Rec) (part : List Loss) → is_calm x ≡ true → MayGoOn s before → IsSoFar s recovery n before (x ∷ xs) part → IsSoFar s recovery (n + 1) (before ++ x ∷ []) xs part
  calm_next n before x xs part e may h =
      let owing : IsSome part → (more : ℕ) × IsPaid more xs × (n + more ≡ last_at part + recovery) = λ some. ((h.owed some may).0, paid (h.owed some may).0 x xs e (h.owed some may).1, (h.owed some may).2) in
      record {
        close = h.close;
        near = λ some. omega (arith, (owing some).2, (owing some).1.1);
        owed = λ some _. ((owing some).1.0, (owing some).1.2, omega (arith, (owing some).2, (owing some).1.1));
        lost = λ rank. ap (λ (st : State). st.lost rank) (state_after-push s before x) ∙ (kept s (state_after s before) x e rank ∙ h.lost rank);
      }

  lose_next : (n : ℕ) (before : List Rec) (rank : ℕ) (xs : List Rec) (part : List Loss) → (MayGoOn s (before ++ r.Lose rank ∷ []) → HealsWithin false recovery xs) → IsSoFar s recovery n before (r.Lose rank ∷ xs) part
      → IsSoFar s recovery n (before ++ r.Lose rank ∷ []) xs (part ++ (record { at = n; rank = rank }) ∷ [])
  lose_next n before rank xs part heals h =
      let l : Loss = record { at = n; rank = rank } in
      let last : last_at (part ++ l ∷ []) ≡ n = last_push part l in
      record {
        close = close_push recovery part l h.close h.near;
        near = λ some. omega (arith, last);
        owed = λ some may. (recovery, heals may, omega (arith, last));
        lost = λ a. ap (λ (st : State). st.lost a) (state_after-push s before (r.Lose rank)) ∙ (ap (λ b. if a == rank then true else b) (h.lost a) ∙ sym (hit_push part l a));
      }

  commit_next : (n : ℕ) (before : List Rec) (x : Rec) (xs : List Rec) → ((rank : ℕ) → (after s (state_after s before) x).lost rank ≡ false) → IsSoFar s recovery (n + 1) (before ++ x ∷ []) xs []
  commit_next n before x xs none = record {
    close = tt;
    near = λ some. absurd some;
    owed = λ some. absurd some;
    lost = λ rank. ap (λ (st : State). st.lost rank) (state_after-push s before x) ∙ none rank;
  }

  moved : (before : List Rec) (x : Rec) (xs : List Rec) (all all' : List Loss) → all' ≡ all → IsScanned s recovery ((before ++ x ∷ []) ++ xs) all → IsScanned s recovery (before ++ x ∷ xs) all'
  moved before x xs all all' e h = subst (λ j. IsScanned s recovery j all') (append_assoc before (x ∷ []) xs) (subst (λ ls. IsScanned s recovery ((before ++ x ∷ []) ++ xs) ls) (sym e) h)

  calm_scan : (n : ℕ) (before : List Rec) (x : Rec) (xs : List Rec) (earlier part : List Loss) → is_calm x ≡ true → GoOnFrom s before (x ∷ xs) → IsSoFar s recovery n before (x ∷ xs) part
      → (IsSoFar s recovery (n + 1) (before ++ x ∷ []) xs part → IsScanned s recovery ((before ++ x ∷ []) ++ xs) (earlier ++ (part ++ losses_told (n + 1) xs)))
      → IsScanned s recovery (before ++ x ∷ xs) (earlier ++ (part ++ losses_told n (x ∷ xs)))
  calm_scan n before x xs earlier part e go h rest =
      moved before x xs (earlier ++ (part ++ losses_told (n + 1) xs)) (earlier ++ (part ++ losses_told n (x ∷ xs))) (ap (λ ls. earlier ++ (part ++ ls)) (told_calm n x xs e))
      (rest (calm_next n before x xs part e (go.0 (calm_numbered x e)) h))

  scan : (n : ℕ) (before xs : List Rec) (earlier part : List Loss) → GoOnFrom s before xs → HealFrom false recovery s before xs → IsSoFar s recovery n before xs part → IsScanned s recovery (before ++ xs) (earlier ++ (part ++ losses_told n xs))
  scan n before [] earlier part go heal h = record {
    earlier = earlier;
    part = part;
    whole = ap (λ ls. earlier ++ ls) (append-nil part);
    close = h.close;
    lost = λ rank. ap (λ j. (state_after s j).lost rank) (append-nil before) ∙ h.lost rank;
  }
  scan n before (r.Lose rank ∷ xs) earlier part go heal h =
      let l : Loss = record { at = n; rank = rank } in
      moved before (r.Lose rank) xs (earlier ++ ((part ++ l ∷ []) ++ losses_told n xs)) (earlier ++ (part ++ l ∷ losses_told n xs)) (ap (λ ls. earlier ++ ls) (sym (append_assoc part (l ∷ []) (losses_told n xs))))
      (scan n (before ++ r.Lose rank ∷ []) xs earlier (part ++ l ∷ []) go.1 heal.1 (lose_next n before rank xs part (heal.0 refl) h))
  scan n before (r.Commit m b ∷ xs) earlier part go heal h =
      moved before (r.Commit m b) xs ((earlier ++ part) ++ losses_told (n + 1) xs) (earlier ++ (part ++ losses_told (n + 1) xs)) (sym (append_assoc earlier part (losses_told (n + 1) xs)))
      (scan (n + 1) (before ++ r.Commit m b ∷ []) xs (earlier ++ part) [] go.1 heal.1 (commit_next n before (r.Commit m b) xs (λ rank. refl)))
  scan n before (r.Feed a b ∷ xs) earlier part go heal h = calm_scan n before (r.Feed a b) xs earlier part refl go h (scan (n + 1) (before ++ r.Feed a b ∷ []) xs earlier part go.1 heal.1)
  scan n before (r.Kernel a b ∷ xs) earlier part go heal h = calm_scan n before (r.Kernel a b) xs earlier part refl go h (scan (n + 1) (before ++ r.Kernel a b ∷ []) xs earlier part go.1 heal.1)
  scan n before (r.Send a b c ∷ xs) earlier part go heal h = calm_scan n before (r.Send a b c) xs earlier part refl go h (scan (n + 1) (before ++ r.Send a b c ∷ []) xs earlier part go.1 heal.1)
  scan n before (r.Recv a b c ∷ xs) earlier part go heal h = calm_scan n before (r.Recv a b c) xs earlier part refl go h (scan (n + 1) (before ++ r.Recv a b c ∷ []) xs earlier part go.1 heal.1)
  scan n before (r.Save a b ∷ xs) earlier part go heal h = calm_scan n before (r.Save a b) xs earlier part refl go h (scan (n + 1) (before ++ r.Save a b ∷ []) xs earlier part go.1 heal.1)
  scan n before (r.Take a b ∷ xs) earlier part go heal h = calm_scan n before (r.Take a b) xs earlier part refl go h (scan (n + 1) (before ++ r.Take a b ∷ []) xs earlier part go.1 heal.1)
  scan n before (r.Restore ∷ xs) earlier part go heal h = calm_scan n before r.Restore xs earlier part refl go h (scan (n + 1) (before ++ r.Restore ∷ []) xs earlier part go.1 heal.1)
  scan n before (r.Spawn a ∷ xs) earlier part go heal h = calm_scan n before (r.Spawn a) xs earlier part refl go h (scan (n + 1) (before ++ r.Spawn a ∷ []) xs earlier part go.1 heal.1)

  -- of a whole journal
  pub scanned : (journal : List Rec) → GoOnFrom s [] journal → HealFrom false recovery s [] journal → IsScanned s recovery journal (losses_told 0 journal)
  scanned journal go heal = scan 0 [] journal [] [] go heal (record { close = tt; near = λ some. absurd some; owed = λ some. absurd some; lost = λ rank. refl })
