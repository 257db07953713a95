-- With no fewer spares than losses each lost rank gets one.
use Rattle.std.proofs.Common.{◌≡◌, ℕ, zero, suc, ◌+◌, ◌<◌, ◌≤◌, ◌==◌, Bool, true, false, List, [], ◌∷◌, ◌++◌, Some, length, refl, sym, ap, ◌∙◌, ⊎_elim, arith}
use Rattle.std.specs.Prelude.{if◌then◌else◌, nat_le}
use Rattle.std.proofs.lemmas.List.{length-append}
use Rattle.std.proofs.lemmas.Bool.{cases_Bool, cases_lt, true≢false, eqb-true, eq-eqb, ltb-true, lt-ltb, not-true}
use Rattle.rank_machine.specs.declared.record.Rec.{Rec}
use Rattle.rank_machine.specs.declared.record.Rec.TheVariants as r
use Rattle.rank_machine.specs.declared.record.Loss.{Loss}
use Rattle.rank_machine.specs.Setting.{Setting, ranks}
use Rattle.rank_machine.specs.State.{State, at_rank, opened}
use Rattle.rank_machine.specs.Effect.{after, replay, state_after}
use Rattle.rank_machine.specs.Legal.{IsLegalFrom, IsLegal}
use Rattle.rank_machine.specs.Losses.{AreDue}
use Rattle.rank_machine.specs.Losses.{lost_now, LacksSpareOf}
use Rattle.run_laws.specs.Spares.{spawns}
use Rattle.run_laws.proofs.Spawned.{spawned-is}
use Rattle.field_core.proofs.Sums.{sum_to-none, sum_to-suc}
use Rattle.loss_bursts.specs.Bursts.{put_in, in_time}
use Rattle.loss_bursts.proofs.Sorted.{losses_told, losses_told-sorted}

-- ---- lost ranks
-- how many of the ranks below k are lost now, one by one
abbrev gone_below : State → ℕ → ℕ
gone_below st zero = 0
gone_below st (suc k) = gone_below st k + (if st.live k then 0 else 1)

gone-lost_now : (st : State) (k : ℕ) → lost_now st k ≡ gone_below st k
gone-lost_now st zero = sum_to-none (λ rank. if st.live rank then 0 else 1)
gone-lost_now st (suc k) = sum_to-suc k (λ rank. if st.live rank then 0 else 1) ∙ ap (λ n. n + (if st.live k then 0 else 1)) (gone-lost_now st k)

-- changing one rank changes no count of those before it
gone_before : (st new : State) (rank : ℕ) (b : Bool) (k : ℕ) → new.live ≡ at_rank st.live rank b → k ≤ rank → gone_below new k ≡ gone_below st k
gone_before st new rank b zero e le = refl
gone_before st new rank b (suc k) e le =
    let rest : gone_below new k ≡ gone_below st k = gone_before st new rank b k e (omega (arith, le)) in
    let same : new.live k ≡ st.live k = ap (λ f. f k) e ∙ far k rank (omega (arith, le)) in
    rw same (omega (arith, rest))
  where
    far : (k rank : ℕ) → k < rank → at_rank st.live rank b k ≡ st.live k
    far k rank lt = ⊎_elim (λ (h : (k == rank) ≡ true). absurd (omega (arith, lt, eqb-true k rank h))) (λ (h : (k == rank) ≡ false). rw h refl) (cases_Bool (k == rank))

gone_lost : (st new : State) (rank : ℕ) (k : ℕ) → new.live ≡ at_rank st.live rank false → gone_below new k ≤ gone_below st k + 1
gone_lost st new rank zero e = omega arith
gone_lost st new rank (suc k) e =
    ⊎_elim
    (λ (h : (k == rank) ≡ true).
    let before : gone_below new k ≡ gone_below st k = gone_before st new rank false k e (omega (arith, eqb-true k rank h)) in
    omega (arith, before, least (new.live k)))
    (λ (h : (k == rank) ≡ false).
    let same : new.live k ≡ st.live k = ap (λ f. f k) e ∙ ap (λ b. if b then false else st.live k) h in
    rw same (omega (arith, gone_lost st new rank k e)))
    (cases_Bool (k == rank))
  where
    least : (b : Bool) → (if b then 0 else 1) ≤ 1
    least true = omega arith
    least false = omega arith

gone_spawned : (st new : State) (rank : ℕ) (k : ℕ) → new.live ≡ at_rank st.live rank true → st.live rank ≡ false → rank < k → gone_below new k + 1 ≡ gone_below st k
gone_spawned st new rank zero e gone lt = absurd (omega (arith, lt))
gone_spawned st new rank (suc k) e gone lt =
    ⊎_elim
    (λ (h : (k == rank) ≡ true).
    let at : k ≡ rank = eqb-true k rank h in
    let before : gone_below new k ≡ gone_below st k = gone_before st new rank true k e (omega (arith, at)) in
    let now : new.live k ≡ true = ap (λ f. f k) e ∙ ap (λ b. if b then true else st.live k) h in
    let was : st.live k ≡ false = ap st.live at ∙ gone in
    rw (now, was) (omega (arith, before)))
    (λ (h : (k == rank) ≡ false).
    let same : new.live k ≡ st.live k = ap (λ f. f k) e ∙ ap (λ b. if b then true else st.live k) h in
    let below : rank < k = smaller rank k lt h in
    rw same (omega (arith, gone_spawned st new rank k e gone below)))
    (cases_Bool (k == rank))
  where
    smaller : (a b : ℕ) → a < suc b → (b == a) ≡ false → a < b
    smaller a b lt h = ⊎_elim (λ (l : a < b). l) (λ (l : b ≤ a). absurd (true≢false (sym (eq-eqb b a (omega (arith, l, lt))) ∙ h))) (cases_lt a b)

gone_none : (s : Setting) (k : ℕ) → k ≤ ranks s → gone_below (opened s) k ≡ 0
gone_none s zero le = refl
gone_none s (suc k) le = rw (lt-ltb k (ranks s) (omega (arith, le))) (omega (arith, gone_none s k (omega (arith, le))))

gone_more : (st : State) (rank k : ℕ) → st.live rank ≡ false → rank < k → gone_below st rank + 1 ≤ gone_below st k
gone_more st rank zero e lt = absurd (omega (arith, lt))
gone_more st rank (suc k) e lt =
    ⊎_elim
    (λ (h : rank < k). omega (arith, gone_more st rank k e h))
    (λ (h : k ≤ rank). let same : k ≡ rank = omega (arith, h, lt) in let gone : st.live k ≡ false = ap st.live same ∙ e in rw gone (omega (arith, ap (gone_below st) same)))
    (cases_lt rank k)

gone_alike : (a b : State) (k : ℕ) → b.live ≡ a.live → gone_below b k ≡ gone_below a k
gone_alike a b zero e = refl
gone_alike a b (suc k) e = rw (ap (λ f. f k) e) (omega (arith, gone_alike a b k e))

-- ---- each spawn brings back a rank that a loss took
spawn_scan : (s : Setting) (st : State) (n : ℕ) (xs : List Rec) → IsLegalFrom s st xs → spawns xs + gone_below (replay s st xs) (ranks s) ≤ gone_below st (ranks s) + length (losses_told n xs)
spawn_scan s st n [] h = omega arith
spawn_scan s st n (r.Lose rank ∷ xs) h = omega (arith, spawn_scan s (after s st (r.Lose rank)) n xs h.1, gone_lost st (after s st (r.Lose rank)) rank (ranks s) refl)
spawn_scan s st n (r.Spawn rank ∷ xs) h =
    omega (arith, spawn_scan s (after s st (r.Spawn rank)) (n + 1) xs h.1, gone_spawned st (after s st (r.Spawn rank)) rank (ranks s) refl (not-true (st.live rank) h.0.gone) (ltb-true rank (ranks s) h.0.there))
spawn_scan s st n (r.Commit m b ∷ xs) h = omega (arith, spawn_scan s (after s st (r.Commit m b)) (n + 1) xs h.1, gone_alike st (after s st (r.Commit m b)) (ranks s) refl)
spawn_scan s st n (r.Feed a b ∷ xs) h = omega (arith, spawn_scan s (after s st (r.Feed a b)) (n + 1) xs h.1, gone_alike st (after s st (r.Feed a b)) (ranks s) refl)
spawn_scan s st n (r.Kernel a b ∷ xs) h = omega (arith, spawn_scan s (after s st (r.Kernel a b)) (n + 1) xs h.1, gone_alike st (after s st (r.Kernel a b)) (ranks s) refl)
spawn_scan s st n (r.Send a b c ∷ xs) h = omega (arith, spawn_scan s (after s st (r.Send a b c)) (n + 1) xs h.1, gone_alike st (after s st (r.Send a b c)) (ranks s) refl)
spawn_scan s st n (r.Recv a b c ∷ xs) h = omega (arith, spawn_scan s (after s st (r.Recv a b c)) (n + 1) xs h.1, gone_alike st (after s st (r.Recv a b c)) (ranks s) refl)
spawn_scan s st n (r.Save a b ∷ xs) h = omega (arith, spawn_scan s (after s st (r.Save a b)) (n + 1) xs h.1, gone_alike st (after s st (r.Save a b)) (ranks s) refl)
spawn_scan s st n (r.Take a b ∷ xs) h = omega (arith, spawn_scan s (after s st (r.Take a b)) (n + 1) xs h.1, gone_alike st (after s st (r.Take a b)) (ranks s) refl)
spawn_scan s st n (r.Restore ∷ xs) h = omega (arith, spawn_scan s (after s st r.Restore) (n + 1) xs h.1, gone_alike st (after s st r.Restore) (ranks s) refl)

-- ---- as many losses as the script has
length_put : (l : Loss) (ls : List Loss) → length (put_in l ls) ≡ length ls + 1
length_put l [] = refl
length_put l (m ∷ ms) =
    ⊎_elim (λ (e : nat_le l.at m.at ≡ true). rw e (omega arith)) (λ (e : nat_le l.at m.at ≡ false). rw e (omega (arith, length_put l ms))) (cases_Bool (nat_le l.at m.at))

length_sorted : (ls : List Loss) → length (in_time ls) ≡ length ls
length_sorted [] = refl
length_sorted (l ∷ ls) = omega (arith, length_put l (in_time ls), length_sorted ls)

-- no rank lacks a spare
pub none-lacks : (s : Setting) (cut : Bool) (journal : List Rec) (n rank : ℕ) → IsLegal s journal → AreDue s cut journal → length s.losses ≤ n → LacksSpareOf (Some n) s (state_after s journal) rank → ⊥
none-lacks s cut journal n rank legal due enough lacks =
    let sorted : (later : List Loss) × (in_time s.losses ≡ losses_told 0 journal ++ later) = losses_told-sorted s.losses cut journal due in
    let fell : length (losses_told 0 journal) ≤ length s.losses = omega (arith, ap length sorted.1, length-append (losses_told 0 journal) sorted.0, length_sorted s.losses) in
    let scan : spawns journal + gone_below (state_after s journal) (ranks s) ≤ gone_below (opened s) (ranks s) + length (losses_told 0 journal) = spawn_scan s (opened s) 0 journal legal in
    let none : gone_below (opened s) (ranks s) ≡ 0 = gone_none s (ranks s) (omega arith) in
    let more : gone_below (state_after s journal) rank + 1 ≤ gone_below (state_after s journal) (ranks s) = gone_more (state_after s journal) rank (ranks s) lacks.1 lacks.0 in
    absurd (omega (arith, fell, scan, none, more, lacks.2, spawned-is s journal, gone-lost_now (state_after s journal) rank, enough))
