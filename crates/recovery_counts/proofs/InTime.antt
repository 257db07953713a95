-- What records after a loss cost, and that the healed commit comes in time.
use Rattle.std.proofs.Common.{◌≡◌, ◌+◌, ◌*◌, ◌<◌, ◌≤◌, ◌==◌, ℕ, zero, suc, Bool, true, false, not, List, [], ◌∷◌, ◌++◌, length, refl, sym, subst, ⊎_elim, arith, All}
use Rattle.std.proofs.lemmas.Nat.{mul-le}
use Rattle.std.proofs.lemmas.List.{append-nil, append_assoc}
use Rattle.std.proofs.lemmas.List.Elements.{All-head, All-tail}
use Rattle.std.proofs.lemmas.Bool.{cases_Bool, true≢false}
use Rattle.rank_machine.specs.declared.record.Rec.{Rec}
use Rattle.rank_machine.specs.declared.record.Rec.TheVariants as r
use Rattle.rank_machine.specs.declared.record.Loss.{Loss}
use Rattle.rank_machine.specs.declared.mark.Mark.{Mark}
use Rattle.rank_machine.specs.Setting.{Setting}
use Rattle.rank_machine.specs.Losses.{is_numbered, falls}
use Rattle.run_laws.specs.Due.{numbered, ends_in, has_fallen, ahead}
use Rattle.run_laws.specs.Traces.{HealsWithin, is_loss, HealFrom, AllHeal, AllHealSoFar, spent}
use Rattle.run_laws.proofs.Journals.{numbered-append}
use Rattle.run_laws.proofs.Losing.{ahead-later}

-- ---- costs
pub attempt-costs : (cost : ℕ) (s : Setting) (journal added : List Rec) → numbered added ≤ cost → spent cost s (journal ++ added) ≤ spent cost s journal + cost
attempt-costs cost s journal added few =
    let fewer : ahead s (journal ++ added) * cost ≤ ahead s journal * cost = mul-le (ahead s (journal ++ added)) cost (ahead s journal) cost (ahead-later s journal added) (omega arith) in
    omega (arith, numbered-append journal added, few, fewer)

-- ---- time
-- where a list ends in a loss, what comes after it changes nothing
within_any : (u : Bool) (n : ℕ) (xs ys : List Rec) → ends_in false xs ≡ true → HealsWithin true n xs → HealsWithin u n (xs ++ ys)
within_any u n [] ys e h = absurd (true≢false (sym e))
within_any u zero (x ∷ xs) ys e h = h
within_any u (suc n) (r.Lose rank ∷ xs) ys e h = tt
within_any u (suc n) (r.Commit mark true ∷ xs) ys e h = tt
within_any u (suc n) (r.Commit mark false ∷ xs) ys e h = within_any u n xs ys e h
within_any u (suc n) (r.Feed a b ∷ xs) ys e h = within_any u n xs ys e h
within_any u (suc n) (r.Kernel a b ∷ xs) ys e h = within_any u n xs ys e h
within_any u (suc n) (r.Send a b c ∷ xs) ys e h = within_any u n xs ys e h
within_any u (suc n) (r.Recv a b c ∷ xs) ys e h = within_any u n xs ys e h
within_any u (suc n) (r.Save a b ∷ xs) ys e h = within_any u n xs ys e h
within_any u (suc n) (r.Take a b ∷ xs) ys e h = within_any u n xs ys e h
within_any u (suc n) (r.Restore ∷ xs) ys e h = within_any u n xs ys e h
within_any u (suc n) (r.Spawn a ∷ xs) ys e h = within_any u n xs ys e h

within_last : (u : Bool) (n : ℕ) (b : Bool) (xs ys : List Rec) → ends_in b xs ≡ true → HealsWithin true n xs → HealsWithin u n ys → HealsWithin u n (xs ++ ys)
within_last u n b [] ys e h k = k
within_last u n b (x ∷ xs) ys e h k = within_any u n (x ∷ xs) ys e h

-- a journal that ends in a loss goes on
goes_on : (u : Bool) (n : ℕ) (s : Setting) (before xs ys : List Rec) (b : Bool) → ends_in b xs ≡ true → HealFrom true n s before xs → HealsWithin u n ys → HealFrom u n s (before ++ xs) ys → HealFrom u n s before (xs ++ ys)
goes_on u n s before [] ys b e h k more = subst (λ z. HealFrom u n s z ys) (append-nil before) more
goes_on u n s before (x ∷ xs) ys b e h k more = (
  (λ is g. within_last u n (not (is_numbered x)) xs ys e (h.0 is g) k),
  goes_on u n s (before ++ x ∷ []) xs ys (not (is_numbered x)) e h.1 k (subst (λ z. HealFrom u n s z ys) (sym (append_assoc before (x ∷ []) xs)) more),
)

no_loss : (x : Rec) → is_numbered x ≡ true → is_loss x ≡ true → ⊥
no_loss (r.Lose a) e h = absurd (true≢false (sym e))
no_loss (r.Feed a b) e h = absurd (true≢false (sym h))
no_loss (r.Kernel a b) e h = absurd (true≢false (sym h))
no_loss (r.Send a b c) e h = absurd (true≢false (sym h))
no_loss (r.Recv a b c) e h = absurd (true≢false (sym h))
no_loss (r.Save a b) e h = absurd (true≢false (sym h))
no_loss (r.Take a b) e h = absurd (true≢false (sym h))
no_loss (r.Commit a b) e h = absurd (true≢false (sym h))
no_loss r.Restore e h = absurd (true≢false (sym h))
no_loss (r.Spawn a) e h = absurd (true≢false (sym h))

-- records that bring no loss, and what comes after them
calm_then : (u : Bool) (n : ℕ) (s : Setting) (before xs ys : List Rec) → All (λ x. is_numbered x ≡ true) xs → HealFrom u n s (before ++ xs) ys → HealFrom u n s before (xs ++ ys)
calm_then u n s before [] ys all h = subst (λ z. HealFrom u n s z ys) (append-nil before) h
calm_then u n s before (x ∷ xs) ys all h = (
  (λ e g. absurd (no_loss x (All-head (λ (x : Rec). is_numbered x ≡ true) x xs all) e)),
  calm_then u n s (before ++ x ∷ []) xs ys (All-tail (λ (x : Rec). is_numbered x ≡ true) x xs all) (subst (λ z. HealFrom u n s z ys) (sym (append_assoc before (x ∷ []) xs)) h),
)

-- so many records before what heals within one
within_then : (u : Bool) (n : ℕ) (xs ys : List Rec) → length xs < n → ((k : ℕ) → HealsWithin u (suc k) ys) → HealsWithin u n (xs ++ ys)
within_then u zero xs ys lt h = absurd (omega (arith, lt))
within_then u (suc n) [] ys lt h = h n
within_then u (suc n) (r.Lose rank ∷ xs) ys lt h = tt
within_then u (suc n) (r.Commit mark true ∷ xs) ys lt h = tt
within_then u (suc n) (r.Commit mark false ∷ xs) ys lt h = within_then u n xs ys (omega (arith, lt)) h
within_then u (suc n) (r.Feed a b ∷ xs) ys lt h = within_then u n xs ys (omega (arith, lt)) h
within_then u (suc n) (r.Kernel a b ∷ xs) ys lt h = within_then u n xs ys (omega (arith, lt)) h
within_then u (suc n) (r.Send a b c ∷ xs) ys lt h = within_then u n xs ys (omega (arith, lt)) h
within_then u (suc n) (r.Recv a b c ∷ xs) ys lt h = within_then u n xs ys (omega (arith, lt)) h
within_then u (suc n) (r.Save a b ∷ xs) ys lt h = within_then u n xs ys (omega (arith, lt)) h
within_then u (suc n) (r.Take a b ∷ xs) ys lt h = within_then u n xs ys (omega (arith, lt)) h
within_then u (suc n) (r.Restore ∷ xs) ys lt h = within_then u n xs ys (omega (arith, lt)) h
within_then u (suc n) (r.Spawn a ∷ xs) ys lt h = within_then u n xs ys (omega (arith, lt)) h

within_falls : (n : ℕ) (ls : List Loss) (at : ℕ) → HealsWithin true (suc n) (falls ls at)
within_falls n [] at = refl
within_falls n (l ∷ ls) at = ⊎_elim (λ (h : (l.at == at) ≡ true). rw h tt) (λ (h : (l.at == at) ≡ false). rw h (within_falls n ls at)) (cases_Bool (l.at == at))

heal_falls : (n : ℕ) (s : Setting) (before : List Rec) (ls : List Loss) (at : ℕ) → HealFrom true (suc n) s before (falls ls at)
heal_falls n s before [] at = tt
heal_falls n s before (l ∷ ls) at =
    ⊎_elim
    (λ (h : (l.at == at) ≡ true). rw h ((λ e g. within_falls n ls at), heal_falls n s (before ++ r.Lose l.rank ∷ []) ls at))
    (λ (h : (l.at == at) ≡ false). rw h (heal_falls n s before ls at))
    (cases_Bool (l.at == at))

pub again : (recovery : ℕ) (s : Setting) (journal added : List Rec) (ls : List Loss) (at : ℕ) → AllHealSoFar recovery s journal → has_fallen journal ≡ true → All (λ x. is_numbered x ≡ true) added → length added < recovery
    → AllHealSoFar recovery s (journal ++ (added ++ falls ls at))
again zero s journal added ls at h fell all lt = absurd (omega (arith, lt))
again (suc n) s journal added ls at h fell all lt =
    goes_on true (suc n) s [] journal (added ++ falls ls at) false fell h (within_then true (suc n) added (falls ls at) lt (λ k. within_falls k ls at))
    (calm_then true (suc n) s journal added (falls ls at) all (heal_falls n s (journal ++ added) ls at))

pub in-time : (recovery : ℕ) (s : Setting) (journal added : List Rec) (mark : Mark) → AllHealSoFar recovery s journal → has_fallen journal ≡ true → All (λ x. is_numbered x ≡ true) added → length added < recovery
    → AllHeal recovery s (journal ++ (added ++ r.Commit mark true ∷ []))
in-time recovery s journal added mark h fell all lt =
    goes_on false recovery s [] journal (added ++ r.Commit mark true ∷ []) false fell h (within_then false recovery added (r.Commit mark true ∷ []) lt (λ k. tt))
    (calm_then false recovery s journal added (r.Commit mark true ∷ []) all ((λ e g. absurd (true≢false (sym e))), tt))
