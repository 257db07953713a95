-- One recovery, from its restore to its commit.
use Rattle.std.proofs.Common.{◌≡◌, ◌+◌, ◌≤◌, ◌<◌, nat_lt, ℕ, true, false, Option, Some, None, List, [], ◌∷◌, ◌++◌, refl, sym, ap, subst, ◌∙◌, ⊎_elim, arith}
use Rattle.std.proofs.lemmas.List.{append_assoc}
use Rattle.std.proofs.lemmas.Bool.{cases_Bool, ltb-true}
use Rattle.rank_machine.specs.declared.record.Rec.{Rec}
use Rattle.rank_machine.specs.declared.record.Rec.TheVariants as r
use Rattle.rank_machine.specs.declared.mark.Mark.{Mark}
use Rattle.rank_machine.specs.Setting.{Setting, ranks}
use Rattle.rank_machine.specs.State.{State, opened}
use Rattle.rank_machine.specs.Effect.{after, replay, state_after}
use Rattle.rank_machine.specs.Legal.{some_lost, IsCommit, IsLegalFrom, IsLegal}
use Rattle.rank_machine.specs.Losses.{LacksSpareOf}
use Rattle.run_laws.specs.LastCommit.{with_spawned}
use Rattle.run_laws.specs.Cuts.{IsWithin, MayGoOn, GoOnFrom}
use Rattle.run_laws.specs.Traces.{recovery_of}
use Rattle.run_laws.proofs.Going.{go_append}
use Rattle.run_laws.proofs.Words.{hold-restore}
use Rattle.recovery_laws.proofs.Commits.{of-journal}
use Rattle.recovery_laws.proofs.Inside.{no_others-live}
use Rattle.recovery_rounds.specs.Rows.{IsHealing, IsAllHealed, spawn_records}
use Rattle.recovery_rounds.proofs.HealedCommits.{healing-begins, commit-legal, commit-returns}
use Rattle.recovery_words.specs.Roomy.{IsRoomy}
use Rattle.recovery_words.proofs.Beginnings.{begins-roomy, commit-holds}
use Rattle.recovery_counts.specs.Counted.{grids_so_far}
use Rattle.recovery_counts.proofs.LineCounts.{few-grids}
use Rattle.block_world.specs.World.{WorldView, setting_in, state_of, is_hurt, noted}
use Rattle.block_world.specs.Did.{IsMade, IsStopped}
use Rattle.world_heal.specs.Ways.{rest_of}
use Rattle.world_heal.specs.Costs.{HoldsWords}
use Rattle.world_heal.specs.Mended.{IsMendable, IsMending, HasMended, IsHitMending}
use Rattle.world_heal.specs.Attempts.{HasTried, HasSpawned, IsStoppedWithin, HasRecovered, attempt_most}
use Rattle.world_heal.proofs.Ways.{mark-rest, state_noted, setting-way, rest_way}
use Rattle.world_heal.proofs.Trying.{holds-then, holds-noted, can-from, may-from, can-noted, can-steady, setting-tried, state-tried, rest-tried, tried-none, tried-one, tried-then, tried-more, tried-mended, steady-mending, stopped-here, stopped-then, stopped-more, stopped-hit}

-- ---- the restore
pub restore-tried : (old new : WorldView) → MayGoOn (setting_in old) old.journal → IsMade old new r.Restore → HasTried 1 old new
restore-tried old new go made = tried-one old new r.Restore refl refl go (hold-restore (setting_in old) (state_of old)) made.noted

lacks_restored : (spares : Option ℕ) (s : Setting) (st : State) (rank : ℕ) → LacksSpareOf spares s (after s st r.Restore) rank → LacksSpareOf spares s st rank
lacks_restored None s st rank lacks = lacks
lacks_restored (Some n) s st rank lacks = lacks

-- a restore leaves which ranks are live, which were lost, the mark, and how many were spawned
pub restore-goes : (old new : WorldView) → MayGoOn (setting_in old) old.journal → IsMade old new r.Restore → MayGoOn (setting_in new) new.journal
restore-goes old new go made =
    let can = can-from (setting_in old) old.journal go in
    may-from (setting_in new) new.journal (can-noted old new r.Restore made.noted (record { within = can.within; spared = λ rank lacks. can.spared rank (lacks_restored (setting_in old).spares (setting_in old) (state_of old) rank lacks) }))

pub stopped-restoring : (old new : WorldView) → IsStopped old new → IsStoppedWithin (attempt_most (setting_in old) (state_of old).mark) old new
stopped-restoring old new stop = stopped-more 0 (attempt_most (setting_in old) (state_of old).mark) old new (stopped-here 0 old old new (tried-none old) stop) (omega arith)

-- ---- the spawns
-- the script stays, and so do the ranks of the run
pub ranks-tried : (most : ℕ) (old new : WorldView) → HasTried most old new → ranks (setting_in new) ≡ ranks (setting_in old)
ranks-tried most old new h = ap ranks (setting-tried most old new h)

pub spawned-tried : (old mid new : WorldView) → HasTried 1 old mid → HasSpawned mid new → HasTried (1 + ranks (setting_in old)) old new
spawned-tried old mid new h k = subst (λ n. HasTried (1 + n) old new) (ranks-tried 1 old mid h) (tried-then 1 (ranks (setting_in mid)) old mid new h k.tried)

pub stopped-spawning : (old mid new : WorldView) → HasTried 1 old mid → IsStoppedWithin (ranks (setting_in mid)) mid new → IsStoppedWithin (attempt_most (setting_in old) (state_of old).mark) old new
stopped-spawning old mid new h k =
    stopped-more (1 + ranks (setting_in mid)) (attempt_most (setting_in old) (state_of old).mark) old new (stopped-then 1 (ranks (setting_in mid)) old mid new h k) (omega (arith, ranks-tried 1 old mid h))

-- spawns leave what was lost, and the mark
within_spawns : (s : Setting) (st : State) (numbers : List ℕ) → IsWithin s st → IsWithin s (replay s st (spawn_records numbers))
within_spawns s st [] h = h
within_spawns s st (n ∷ ns) h = within_spawns s (after s st (r.Spawn n)) ns h

legal_before : (s : Setting) (st : State) (xs ys : List Rec) → IsLegalFrom s st (xs ++ ys) → IsLegalFrom s st xs
legal_before s st [] ys h = tt
legal_before s st (x ∷ xs) ys h = (h.0, legal_before s (after s st x) xs ys h.1)

-- the ranks of the run are live, and no others
all_live : (s : Setting) (journal : List Rec) (rank : ℕ) → IsLegal s journal → ((i : ℕ) → i < ranks s → (state_after s journal).live i ≡ true) → (state_after s journal).live rank ≡ nat_lt rank (ranks s)
all_live s journal rank legal live =
    ⊎_elim
    (λ (e : nat_lt rank (ranks s) ≡ true). live rank (ltb-true rank (ranks s) e) ∙ sym e)
    (λ (e : nat_lt rank (ranks s) ≡ false). no_others-live s journal rank legal e ∙ sym e)
    (cases_Bool (nat_lt rank (ranks s)))

module _ (old mid new : WorldView) (go : MayGoOn (setting_in old) old.journal) (made : IsMade old mid r.Restore) (h : HasSpawned mid new) where
  abbrev s : Setting
  s = setting_in old

  abbrev way : HasTried (1 + ranks (setting_in mid)) old new
  way = tried-then 1 (ranks (setting_in mid)) old mid new (tried-one old mid r.Restore refl refl go (hold-restore (setting_in old) (state_of old)) made.noted) h.tried

  same_setting : setting_in new ≡ s
  same_setting = setting-tried (1 + ranks (setting_in mid)) old new way

  abbrev next : State
  next = replay s (after s (state_of old) r.Restore) (spawn_records h.numbers)

  same_state : state_of new ≡ next
  same_state = state-tried (1 + ranks (setting_in mid)) old new way ∙ ap (replay s (after s (state_of old) r.Restore)) h.spawns

  same_rest : rest_of new ≡ rest_of old
  same_rest = rest-tried (1 + ranks (setting_in mid)) old new way

  there : (rank : ℕ) → rank < ranks s → (state_after s new.journal).live rank ≡ true
  there rank lt =
      let few : rank < ranks (setting_in mid) = subst (λ n. rank < n) (sym (ap (λ (w : WorldView). ranks (setting_in w)) made.noted)) lt in
      subst (λ z. (state_after z new.journal).live rank ≡ true) same_setting (h.live rank few)

  legal_old : IsLegal s new.journal → IsLegal s old.journal
  legal_old legal = legal_before s (opened s) old.journal way.added (subst (λ j. IsLegal s j) way.journal legal)

  healing : IsMendable s → some_lost s (state_of old) ≡ true → 0 < s.capacity → IsLegal s new.journal → IsHealing s (rest_of old) next
  healing mendable lost some legal =
      let known = of-journal s old.journal mendable.sensible (legal_old legal) in
      let now : state_after s new.journal ≡ next = ap (λ z. state_after z new.journal) (sym same_setting) ∙ same_state in
      healing-begins s (rest_of old) (state_of old) h.numbers mendable.sensible known.0 known.1 lost some
      (λ rank. ap (λ (st : State). st.live rank) (sym now) ∙ all_live s new.journal rank legal there)

  -- once every rank is live again the rounds may begin
  pub spawned-mending : IsMendable s → some_lost s (state_of old) ≡ true → 1 ≤ (setting_in new).capacity → IsLegal (setting_in new) new.journal → IsMending new
  spawned-mending mendable lost some legal =
      let begun = healing mendable lost (subst (λ z. 0 < z.capacity) same_setting (omega (arith, some))) (subst (λ z. IsLegal z new.journal) same_setting legal) in
      record {
        mendable = subst IsMendable (sym same_setting) mendable;
        healing = subst (λ z. IsHealing z (rest_of new) (state_of new)) (sym same_setting) (subst (λ last. IsHealing s last (state_of new)) (sym same_rest) (subst (λ st. IsHealing s (rest_of old) st) (sym same_state) begun));
        within = subst (λ z. IsWithin z (state_of new)) (sym same_setting) (subst (λ st. IsWithin s st) (sym same_state) (within_spawns s (after s (state_of old) r.Restore) h.numbers go.within));
      }

  -- and no rank has more than at the last commit
  pub spawned-roomy : IsMendable s → IsLegal (setting_in new) new.journal → IsRoomy (setting_in new) (rest_of new) (state_of new)
  spawned-roomy mendable legal =
      let known = of-journal s old.journal mendable.sensible (legal_old (subst (λ z. IsLegal z new.journal) same_setting legal)) in
      let begun : IsRoomy s (rest_of old) next = begins-roomy s (rest_of old) (state_of old) h.numbers known.1 in
      subst (λ z. IsRoomy z (rest_of new) (state_of new)) (sym same_setting) (subst (λ last. IsRoomy s last (state_of new)) (sym same_rest) (subst (λ st. IsRoomy s (rest_of old) st) (sym same_state) begun))

-- ---- the rounds
mark_tried : (most : ℕ) (old new : WorldView) → HasTried most old new → (rest_of new).mark ≡ (state_of old).mark
mark_tried most old new h = ap (λ (st : State). st.mark) (rest-tried most old new h) ∙ sym (mark-rest old)

few_rounds : (most n : ℕ) (old new : WorldView) → HasTried most old new → grids_so_far (setting_in new) (rest_of new).mark n ≤ recovery_of (setting_in old) (state_of old).mark (setting_in old).jobs
few_rounds most n old new h =
    let e = setting-tried most old new h in
    let m = mark_tried most old new h in
    let same : grids_so_far (setting_in new) (rest_of new).mark n ≡ grids_so_far (setting_in old) (state_of old).mark n = λ i. grids_so_far (e i) (m i) n in
    omega (arith, same, few-grids (setting_in old) (state_of old).mark n)

pub stopped-mending : (n : ℕ) (old mid new : WorldView) → HasTried (1 + ranks (setting_in old)) old mid → IsMending mid → IsRoomy (setting_in mid) (rest_of mid) (state_of mid)
    → IsHitMending (grids_so_far (setting_in mid) (rest_of mid).mark n) mid new
    → IsStoppedWithin (attempt_most (setting_in old) (state_of old).mark) old new
stopped-mending n old mid new h mending roomy hit =
    let most = grids_so_far (setting_in mid) (rest_of mid).mark n in
    stopped-more (1 + ranks (setting_in old) + most) (attempt_most (setting_in old) (state_of old).mark) old new (stopped-then (1 + ranks (setting_in old)) most old mid new h (stopped-hit most mid new mending roomy hit))
    (omega (arith, few_rounds (1 + ranks (setting_in old)) n old mid h))

-- all that is live is healed, and only the commit is left
pub record IsAllMended (old new : WorldView) : Type 0 where
  pub tried : HasTried (attempt_most (setting_in old) (state_of old).mark) old new
  pub mending : IsMending new
  pub healed : IsAllHealed (setting_in new) (rest_of new) (state_of new)

pub all-mended : (n : ℕ) (old mid new : WorldView) → HasTried (1 + ranks (setting_in old)) old mid → IsMending mid → IsRoomy (setting_in mid) (rest_of mid) (state_of mid)
    → HasMended (grids_so_far (setting_in mid) (rest_of mid).mark n) IsAllHealed mid new → IsAllMended old new
all-mended n old mid new h mending roomy k =
    let most = grids_so_far (setting_in mid) (rest_of mid).mark n in
    record {
      tried = tried-more (1 + ranks (setting_in old) + most) (attempt_most (setting_in old) (state_of old).mark) old new (tried-then (1 + ranks (setting_in old)) most old mid new h (tried-mended most IsAllHealed mid new mending roomy k))
          (omega (arith, few_rounds (1 + ranks (setting_in old)) n old mid h));
      mending = k.mending;
      healed = subst (λ s. IsAllHealed s (rest_of new) (state_of new)) (sym (setting-way mid new k.under_way)) (subst (λ last. IsAllHealed (setting_in mid) last (state_of new)) (sym (rest_way mid new k.under_way)) k.healed);
    }

-- ---- the commit
pub recovery-commits : (old new : WorldView) (mark : Mark) → IsAllMended old new → mark ≡ (state_of new).mark → IsCommit (setting_in new) (state_of new) mark (is_hurt new)
recovery-commits old new mark h e =
    let same : (rest_of new).mark ≡ mark = sym (e ∙ mark-rest new) in
    subst (λ b. IsCommit (setting_in new) (state_of new) mark b) (sym h.mending.healing.some)
    (subst (λ m. IsCommit (setting_in new) (state_of new) m true) same (commit-legal (setting_in new) (rest_of new) (state_of new) h.mending.healing h.healed))

pub stopped-committing : (old new fin : WorldView) → IsAllMended old new → IsStopped new fin → IsStoppedWithin (attempt_most (setting_in old) (state_of old).mark) old fin
stopped-committing old new fin h stop = stopped-here (attempt_most (setting_in old) (state_of old).mark) old new fin h.tried stop

module _ (old new fin : WorldView) (h : IsAllMended old new) (made : fin ≡ noted new (r.Commit (state_of old).mark true)) where
  abbrev commit : Rec
  commit = r.Commit (state_of old).mark true

  -- the commit comes where the run may go on
  commit_goes : GoOnFrom (setting_in old) (old.journal ++ h.tried.added) (commit ∷ [])
  commit_goes =
      let there : MayGoOn (setting_in new) new.journal = may-from (setting_in new) new.journal (can-steady (setting_in new) (state_of new) (steady-mending new h.mending)) in
      ((λ _. subst (λ s. MayGoOn s (old.journal ++ h.tried.added)) (setting-tried _ old new h.tried) (subst (λ j. MayGoOn (setting_in new) j) h.tried.journal there)), tt)

  -- and leads back to the state of the last commit
  commit_back : state_of fin ≡ with_spawned (rest_of new) (state_of new).spawned
  commit_back =
      state_noted new fin commit made
      ∙ (ap (λ m. after (setting_in new) (state_of new) (r.Commit m true)) (sym (mark_tried _ old new h.tried))
      ∙ commit-returns (setting_in new) (rest_of new) (state_of new) h.mending.healing h.healed)

  -- after it each rank holds at most what it may
  commit_holds : HoldsWords new fin
  commit_holds = holds-noted new fin commit (commit-holds (setting_in new) (state_of new) (state_of old).mark (mark-rest new ∙ mark_tried _ old new h.tried)) made

  recovered_by : HasRecovered old fin
  recovered_by = record {
    script = ap (λ (w : WorldView). w.script) made ∙ h.tried.script;
    files = ap (λ (w : WorldView). w.files) made ∙ h.tried.files;
    added = h.tried.added;
    journal = ap (λ (w : WorldView). w.journal) made ∙ (ap (λ xs. xs ++ commit ∷ []) h.tried.journal ∙ append_assoc old.journal h.tried.added (commit ∷ []));
    numbered = h.tried.numbered;
    plain = h.tried.plain;
    few = omega (arith, h.tried.few);
    goes = go_append (setting_in old) old.journal h.tried.added (commit ∷ []) h.tried.goes commit_goes;
    same = commit_back ∙ (λ i. with_spawned (rest-tried _ old new h.tried i) (ap (λ (st : State). st.spawned) (sym commit_back) i));
    holds = holds-then old new fin (setting-tried _ old new h.tried) (rest-tried _ old new h.tried) h.tried.holds commit_holds;
  }

pub recovered : (old new fin : WorldView) (mark : Mark) → IsAllMended old new → mark ≡ (state_of new).mark → IsMade new fin (r.Commit mark (is_hurt new)) → HasRecovered old fin
recovered old new fin mark h e made =
    let m : mark ≡ (state_of old).mark = e ∙ (mark-rest new ∙ mark_tried (attempt_most (setting_in old) (state_of old).mark) old new h.tried) in
    let hurt : is_hurt new ≡ true = h.mending.healing.some in
    recovered_by old new fin h (made.noted ∙ (λ i. noted new (r.Commit (m i) (hurt i))))
