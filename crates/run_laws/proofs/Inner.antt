-- What the records of a phase leave as it was.
use Rattle.std.proofs.Common.{◌≡◌, ◌+◌, ℕ, suc, Bool, true, false, List, [], ◌∷◌, ◌++◌, length, refl, sym, ap, subst, ◌∙◌, arith, All}
use Rattle.std.specs.List.{filter}
use Rattle.std.proofs.lemmas.List.{append-nil, append_assoc}
use Rattle.std.proofs.lemmas.List.Elements.{All-nil, All-cons, All-head, All-tail}
use Rattle.rank_machine.specs.declared.mark.Mark.{Mark}
use Rattle.rank_machine.specs.declared.record.Rec.{Rec}
use Rattle.rank_machine.specs.declared.record.Rec.TheVariants as r
use Rattle.rank_machine.specs.Setting.{Setting}
use Rattle.rank_machine.specs.State.{State, Took, opened}
use Rattle.rank_machine.specs.Effect.{after, replay, state_after}
use Rattle.rank_machine.specs.Losses.{is_numbered}
use Rattle.run_laws.specs.Due.{numbered}
use Rattle.run_laws.specs.LastCommit.{is_commit, is_inner, since, since_from, rest_from, rest_after}
use Rattle.run_laws.proofs.Journals.{replay-append, since-append, rest-append}

-- which ranks are live and count as lost, how many were spawned, the last mark, and the takes that count
pub record IsSameRun (old new : State) : Type 0 where
  pub live : new.live ≡ old.live
  pub lost : new.lost ≡ old.lost
  pub spawned : new.spawned ≡ old.spawned
  pub mark : new.mark ≡ old.mark
  pub committed : new.committed ≡ old.committed

same_run : (st : State) → IsSameRun st st
same_run st = record { live = refl; lost = refl; spawned = refl; mark = refl; committed = refl }

one_inner : (s : Setting) (st : State) (x : Rec) → is_inner x ≡ true → IsSameRun st (after s st x)
one_inner s st (r.Feed a b) e = record { live = refl; lost = refl; spawned = refl; mark = refl; committed = refl }
one_inner s st (r.Kernel a b) e = record { live = refl; lost = refl; spawned = refl; mark = refl; committed = refl }
one_inner s st (r.Send a b c) e = record { live = refl; lost = refl; spawned = refl; mark = refl; committed = refl }
one_inner s st (r.Recv a b c) e = record { live = refl; lost = refl; spawned = refl; mark = refl; committed = refl }
one_inner s st (r.Save a b) e = record { live = refl; lost = refl; spawned = refl; mark = refl; committed = refl }
one_inner s st (r.Take a b) e = record { live = refl; lost = refl; spawned = refl; mark = refl; committed = refl }
one_inner s st (r.Commit m h) e = absurd (cc)
one_inner s st r.Restore e = absurd (cc)
one_inner s st (r.Spawn a) e = absurd (cc)
one_inner s st (r.Lose a) e = absurd (cc)

pub run-then : (a b c : State) → IsSameRun a b → IsSameRun b c → IsSameRun a c
run-then a b c h k = record { live = k.live ∙ h.live; lost = k.lost ∙ h.lost; spawned = k.spawned ∙ h.spawned; mark = k.mark ∙ h.mark; committed = k.committed ∙ h.committed }

pub inner-run : (s : Setting) (st : State) (xs : List Rec) → All (λ x. is_inner x ≡ true) xs → IsSameRun st (replay s st xs)
inner-run s st [] h = same_run st
inner-run s st (x ∷ xs) h = run-then st (after s st x) (replay s (after s st x) xs) (one_inner s st x (All-head (λ (x : Rec). is_inner x ≡ true) x xs h)) (inner-run s (after s st x) xs (All-tail (λ (x : Rec). is_inner x ≡ true) x xs h))

not_commit : (x : Rec) → is_inner x ≡ true → is_commit x ≡ false
not_commit (r.Feed a b) e = refl
not_commit (r.Kernel a b) e = refl
not_commit (r.Send a b c) e = refl
not_commit (r.Recv a b c) e = refl
not_commit (r.Save a b) e = refl
not_commit (r.Take a b) e = refl
not_commit (r.Commit m h) e = absurd (cc)
not_commit r.Restore e = refl
not_commit (r.Spawn a) e = refl
not_commit (r.Lose a) e = refl

pub inner-numbered : (x : Rec) → is_inner x ≡ true → is_numbered x ≡ true
inner-numbered (r.Feed a b) e = refl
inner-numbered (r.Kernel a b) e = refl
inner-numbered (r.Send a b c) e = refl
inner-numbered (r.Recv a b c) e = refl
inner-numbered (r.Save a b) e = refl
inner-numbered (r.Take a b) e = refl
inner-numbered (r.Commit m h) e = refl
inner-numbered r.Restore e = refl
inner-numbered (r.Spawn a) e = refl
inner-numbered (r.Lose a) e = absurd (cc)

-- the last commit stays the last one
pub rest-inner_from : (s : Setting) (rest now : State) (xs : List Rec) → All (λ x. is_commit x ≡ false) xs → rest_from s rest now xs ≡ rest
rest-inner_from s rest now [] h = refl
rest-inner_from s rest now (x ∷ xs) h = rw (All-head (λ (x : Rec). is_commit x ≡ false) x xs h) (rest-inner_from s rest (after s now x) xs (All-tail (λ (x : Rec). is_commit x ≡ false) x xs h))

pub none_commits : (xs : List Rec) → All (λ x. is_inner x ≡ true) xs → All (λ x. is_commit x ≡ false) xs
none_commits [] h = All-nil (λ (x : Rec). is_commit x ≡ false)
none_commits (x ∷ xs) h = All-cons (λ (x : Rec). is_commit x ≡ false) x xs (not_commit x (All-head (λ (x : Rec). is_inner x ≡ true) x xs h)) (none_commits xs (All-tail (λ (x : Rec). is_inner x ≡ true) x xs h))

pub rest-inner : (s : Setting) (journal xs : List Rec) → All (λ x. is_commit x ≡ false) xs → rest_after s (journal ++ xs) ≡ rest_after s journal
rest-inner s journal xs h = rest-append s journal xs ∙ rest-inner_from s (rest_after s journal) (state_after s journal) xs h

pub since-inner_from : (acc xs : List Rec) → All (λ x. is_commit x ≡ false) xs → since_from acc xs ≡ acc ++ xs
since-inner_from acc [] h = sym (append-nil acc)
since-inner_from acc (x ∷ xs) h = rw (All-head (λ (x : Rec). is_commit x ≡ false) x xs h) (since-inner_from (acc ++ x ∷ []) xs (All-tail (λ (x : Rec). is_commit x ≡ false) x xs h) ∙ append_assoc acc (x ∷ []) xs)

pub since-inner : (journal xs : List Rec) → All (λ x. is_commit x ≡ false) xs → since (journal ++ xs) ≡ since journal ++ xs
since-inner journal xs h = since-append journal xs ∙ since-inner_from (since journal) xs h

pub numbered-inner : (xs : List Rec) → All (λ x. is_inner x ≡ true) xs → numbered xs ≡ length xs
numbered-inner [] h = refl
numbered-inner (x ∷ xs) h = rw (inner-numbered x (All-head (λ (x : Rec). is_inner x ≡ true) x xs h)) (ap suc (numbered-inner xs (All-tail (λ (x : Rec). is_inner x ≡ true) x xs h)))
