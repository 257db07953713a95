-- New ranks for lost ones, by rising number.
use Rattle.std.proofs.Common.{◌≡◌, ◌+◌, ◌<◌, ◌≤◌, ◌==◌, nat_lt, ℕ, zero, suc, Bool, true, false, not, Option, Some, None, List, [], ◌∷◌, ◌++◌, refl, sym, ap, subst, ◌∙◌, ◌⊎◌, ⊎_elim, arith, inl, inr}
use Rattle.std.specs.Prelude.{if◌then◌else◌}
use Rattle.std.proofs.lemmas.Bool.{cases_Bool, cases_lt, lt-ltb, ltb-true, ltb-false, eqb-true, eqb-false, ne_eqb, true≢false}
use Rattle.field_core.specs.Sums.{sum_to}
use Rattle.field_core.proofs.Sums.{sum_to-suc, sum_to-same, sum_to-zero}
use Rattle.rank_machine.specs.declared.record.Rec.{Rec}
use Rattle.rank_machine.specs.declared.record.Rec.TheVariants as r
use Rattle.rank_machine.specs.Setting.{Setting, ranks}
use Rattle.rank_machine.specs.State.{State, at_rank, opened}
use Rattle.rank_machine.specs.Effect.{after, replay, state_after}
use Rattle.rank_machine.specs.Legal.{has_spare, IsSpawn, IsLegalRec, IsLegalFrom, IsLegal}
use Rattle.rank_machine.specs.Losses.{LacksSpareOf}
use Rattle.run_laws.specs.Cuts.{MayGoOn}
use Rattle.run_laws.proofs.Words.{hold-spawn}
use Rattle.recovery_rounds.specs.Rows.{spawn_records}
use Rattle.block_world.specs.World.{WorldView, setting_in, state_of}
use Rattle.block_world.specs.Did.{IsMade, IsStopped}
use Rattle.world_heal.specs.Attempts.{HasTried, HasSpawned, IsStoppedWithin}
use Rattle.world_heal.proofs.Ways.{state_noted}
use Rattle.world_heal.proofs.Trying.{CanGoOn, can-from, may-from, can-noted, setting-tried, tried-none, tried-one, tried-then, tried-more, stopped-here, stopped-more}

-- ---- one rank more is live
still_dead : (live : ℕ → Bool) (one rank : ℕ) → at_rank live one true rank ≡ false → ((rank == one) ≡ false) × (live rank ≡ false)
still_dead live one rank h =
    ⊎_elim
    (λ (e : (rank == one) ≡ true). absurd (true≢false (sym (ap (λ b. if b then true else live rank) e) ∙ h)))
    (λ (e : (rank == one) ≡ false). (e, sym (ap (λ b. if b then true else live rank) e) ∙ h))
    (cases_Bool (rank == one))

live_below : (live : ℕ → Bool) (n rank : ℕ) → ((i : ℕ) → i < n → live i ≡ true) → rank < n + 1 → at_rank live n true rank ≡ true
live_below live n rank below lt =
    ⊎_elim
    (λ (e : (rank == n) ≡ true). ap (λ b. if b then true else live rank) e)
    (λ (e : (rank == n) ≡ false). ap (λ b. if b then true else live rank) e ∙ below rank (omega (arith, lt, eqb-false rank n e)))
    (cases_Bool (rank == n))

-- how many of the ranks below n are not live
abbrev dead_in : (ℕ → Bool) → ℕ → ℕ
dead_in live n = sum_to n (λ rank. if live rank then 0 else 1)

none_dead : (live : ℕ → Bool) (n : ℕ) → ((i : ℕ) → i < n → live i ≡ true) → dead_in live n ≡ 0
none_dead live n below = sum_to-same n (λ rank. if live rank then 0 else 1) (λ rank. 0) (λ rank lt. ap (λ b. if b then 0 else 1) (below rank lt)) ∙ sum_to-zero n

same_dead : (live : ℕ → Bool) (one n : ℕ) → n ≤ one → dead_in (at_rank live one true) n ≡ dead_in live n
same_dead live one n le =
    sum_to-same n (λ rank. if at_rank live one true rank then 0 else 1) (λ rank. if live rank then 0 else 1)
    (λ rank lt. ap (λ b. if (if b then true else live rank) then 0 else 1) (ne_eqb rank one (λ e. omega (arith, lt, le, e))))

fewer_dead : (live : ℕ → Bool) (one n : ℕ) → live one ≡ false → one < n → dead_in (at_rank live one true) n + 1 ≡ dead_in live n
fewer_dead live one zero dead lt = absurd (omega (arith, lt))
fewer_dead live one (suc n) dead lt =
    let f : ℕ → ℕ = λ rank. if at_rank live one true rank then 0 else 1 in
    let g : ℕ → ℕ = λ rank. if live rank then 0 else 1 in
    ⊎_elim
    (λ (e : (n == one) ≡ true).
    let is : n ≡ one = eqb-true n one e in
    let new : f n ≡ 0 = ap (λ b. if (if b then true else live n) then 0 else 1) e in
    let old : g n ≡ 1 = ap (λ b. if b then 0 else 1) (ap live is ∙ dead) in
    omega (arith, sum_to-suc n f, sum_to-suc n g, same_dead live one n (omega (arith, is)), new, old))
    (λ (e : (n == one) ≡ false).
    let new : f n ≡ g n = ap (λ b. if (if b then true else live n) then 0 else 1) e in
    omega (arith, sum_to-suc n f, sum_to-suc n g, fewer_dead live one n dead (omega (arith, lt, eqb-false n one e)), new))
    (cases_Bool (n == one))

-- ---- the next rank may be spawned
-- in a legal journal no more ranks were spawned than there are spares
spawned_few : (s : Setting) (n : ℕ) (st : State) (xs : List Rec) → s.spares ≡ Some n → st.spawned ≤ n → IsLegalFrom s st xs → (replay s st xs).spawned ≤ n
spawned_few s n st [] e le legal = le
spawned_few s n st (r.Feed a b ∷ xs) e le legal = spawned_few s n (after s st (r.Feed a b)) xs e le legal.1
spawned_few s n st (r.Kernel a b ∷ xs) e le legal = spawned_few s n (after s st (r.Kernel a b)) xs e le legal.1
spawned_few s n st (r.Send a b c ∷ xs) e le legal = spawned_few s n (after s st (r.Send a b c)) xs e le legal.1
spawned_few s n st (r.Recv a b c ∷ xs) e le legal = spawned_few s n (after s st (r.Recv a b c)) xs e le legal.1
spawned_few s n st (r.Save a b ∷ xs) e le legal = spawned_few s n (after s st (r.Save a b)) xs e le legal.1
spawned_few s n st (r.Take a b ∷ xs) e le legal = spawned_few s n (after s st (r.Take a b)) xs e le legal.1
spawned_few s n st (r.Restore ∷ xs) e le legal = spawned_few s n (after s st r.Restore) xs e le legal.1
spawned_few s n st (r.Spawn a ∷ xs) e le legal =
    let spare : nat_lt st.spawned n ≡ true = subst (λ o. has_spare o st ≡ true) e legal.0.spare in
    spawned_few s n (after s st (r.Spawn a)) xs e (omega (arith, ltb-true st.spawned n spare)) legal.1
spawned_few s n st (r.Commit m h ∷ xs) e le legal = spawned_few s n (after s st (r.Commit m h)) xs e le legal.1
spawned_few s n st (r.Lose a ∷ xs) e le legal = spawned_few s n (after s st (r.Lose a)) xs e le legal.1

spare_left : (spares : Option ℕ) (s : Setting) (st : State) (rank : ℕ) → rank < ranks s → ((i : ℕ) → i < rank → st.live i ≡ true) → st.live rank ≡ false → (LacksSpareOf spares s st rank → ⊥)
    → ((n : ℕ) → spares ≡ Some n → st.spawned ≤ n) → has_spare spares st ≡ true
spare_left None s st rank there below dead spared few = refl
spare_left (Some n) s st rank there below dead spared few =
    ⊎_elim
    (λ (e : nat_lt st.spawned n ≡ true). e)
    (λ (e : nat_lt st.spawned n ≡ false). absurd (spared (there, dead, omega (arith, ltb-false st.spawned n e, few n refl, none_dead st.live rank below))))
    (cases_Bool (nat_lt st.spawned n))

may_spawn : (s : Setting) (journal : List Rec) (rank : ℕ) → rank < ranks s → ((i : ℕ) → i < rank → (state_after s journal).live i ≡ true) → (state_after s journal).live rank ≡ false → CanGoOn s (state_after s journal) → IsLegal s journal
    → IsSpawn s (state_after s journal) rank
may_spawn s journal rank there below dead go legal = record {
  there = lt-ltb rank (ranks s) there;
  gone = ap not dead;
  spare = spare_left s.spares s (state_after s journal) rank there below dead (go.spared rank) (λ n e. spawned_few s n (opened s) journal e (omega arith) legal);
}

-- ---- and the run may go on after it
lacks_before : (spares : Option ℕ) (s : Setting) (st : State) (rank other : ℕ) → ((i : ℕ) → i < rank → st.live i ≡ true) → st.live rank ≡ false → LacksSpareOf spares s (after s st (r.Spawn rank)) other → LacksSpareOf spares s st other
lacks_before None s st rank other below dead lacks = lacks
lacks_before (Some n) s st rank other below dead lacks =
    let still = still_dead st.live rank other lacks.1 in
    let past : rank < other = later (cases_lt other rank) still.0 still.1 in
    (lacks.0, still.1, omega (arith, lacks.2, fewer_dead st.live rank other dead past))
  where
    later : (other < rank) ⊎ (rank ≤ other) → (other == rank) ≡ false → st.live other ≡ false → rank < other
    later (inl early) ne gone = absurd (true≢false (sym (below other early) ∙ gone))
    later (inr late) ne gone = omega (arith, late, eqb-false other rank ne)

can_spawned : (s : Setting) (st : State) (rank : ℕ) → ((i : ℕ) → i < rank → st.live i ≡ true) → st.live rank ≡ false → CanGoOn s st → CanGoOn s (after s st (r.Spawn rank))
can_spawned s st rank below dead go = record { within = go.within; spared = λ other lacks. go.spared other (lacks_before s.spares s st rank other below dead lacks) }

-- ---- the ranks below a number are live, and those of them that were lost were spawned
spawns_append : (xs ys : List ℕ) → spawn_records (xs ++ ys) ≡ spawn_records xs ++ spawn_records ys
spawns_append [] ys = refl
spawns_append (x ∷ xs) ys = ap (λ zs. r.Spawn x ∷ zs) (spawns_append xs ys)

pub record IsSpawning (rank : ℕ) (old new : WorldView) : Type 0 where
  pub tried : HasTried rank old new
  pub numbers : List ℕ
  pub spawns : tried.added ≡ spawn_records numbers
  pub live : (i : ℕ) → i < rank → (state_of new).live i ≡ true
  pub go : CanGoOn (setting_in new) (state_of new)

pub spawning-begins : (w : WorldView) → MayGoOn (setting_in w) w.journal → IsSpawning 0 w w
spawning-begins w go = record { tried = tried-none w; numbers = []; spawns = refl; live = λ i lt. absurd (omega (arith, lt)); go = can-from (setting_in w) w.journal go }

pub spawning-legal : (rank : ℕ) (old mid : WorldView) → IsSpawning rank old mid → rank < ranks (setting_in old) → (state_of mid).live rank ≡ false → IsLegal (setting_in mid) mid.journal → IsLegalRec (setting_in mid) (state_of mid) (r.Spawn rank)
spawning-legal rank old mid h lt dead legal = may_spawn (setting_in mid) mid.journal rank (subst (λ s. rank < ranks s) (sym (setting-tried rank old mid h.tried)) lt) h.live dead h.go legal

pub spawning-next : (rank : ℕ) (old mid new : WorldView) → IsSpawning rank old mid → (state_of mid).live rank ≡ false → IsMade mid new (r.Spawn rank) → IsSpawning (rank + 1) old new
spawning-next rank old mid new h dead made = record {
  tried = tried-then rank 1 old mid new h.tried (tried-one mid new (r.Spawn rank) refl refl (may-from (setting_in mid) mid.journal h.go) (hold-spawn (setting_in mid) (state_of mid) rank) made.noted);
  numbers = h.numbers ++ rank ∷ [];
  spawns = ap (λ xs. xs ++ r.Spawn rank ∷ []) h.spawns ∙ sym (spawns_append h.numbers (rank ∷ []));
  live = λ i lt. ap (λ (st : State). st.live i) (state_noted mid new (r.Spawn rank) made.noted) ∙ live_below (state_of mid).live rank i h.live lt;
  go = can-noted mid new (r.Spawn rank) made.noted (can_spawned (setting_in mid) (state_of mid) rank h.live dead h.go);
}

pub spawning-passes : (rank : ℕ) (old new : WorldView) → IsSpawning rank old new → (state_of new).live rank ≡ true → IsSpawning (rank + 1) old new
spawning-passes rank old new h live = record {
  tried = tried-more rank (rank + 1) old new h.tried (omega arith);
  numbers = h.numbers;
  spawns = h.spawns;
  live = λ i lt. passed i (cases_lt i rank) lt;
  go = h.go;
}
  where
    passed : (i : ℕ) → (i < rank) ⊎ (rank ≤ i) → i < rank + 1 → (state_of new).live i ≡ true
    passed i (inl early) lt = h.live i early
    passed i (inr late) lt = (let same : i ≡ rank = omega (arith, late, lt) in ap (state_of new).live same ∙ live)

pub spawning-stops : (rank : ℕ) (old mid new : WorldView) → IsSpawning rank old mid → rank < ranks (setting_in old) → IsStopped mid new → IsStoppedWithin (ranks (setting_in old)) old new
spawning-stops rank old mid new h lt stop = stopped-more rank (ranks (setting_in old)) old new (stopped-here rank old mid new h.tried stop) (omega (arith, lt))

pub spawning-ends : (rank : ℕ) (old new : WorldView) → IsSpawning rank old new → rank ≡ ranks (setting_in old) → HasSpawned old new
spawning-ends rank old new h e = record {
  tried = tried-more rank (ranks (setting_in old)) old new h.tried (omega (arith, e));
  numbers = h.numbers;
  spawns = h.spawns;
  live = λ i lt. h.live i (omega (arith, e, lt));
}
