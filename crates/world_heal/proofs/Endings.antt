-- How a recovery that losses begin again ends, as worlds.
use Rattle.std.proofs.Common.{◌≡◌, ◌+◌, ◌≤◌, ◌<◌, ℕ, true, List, [], ◌∷◌, ◌++◌, length, sym, ap, subst, ◌∙◌, arith}
use Rattle.std.proofs.lemmas.List.{append_assoc}
use Rattle.std.proofs.lemmas.Bool.{true≢false}
use Rattle.rank_machine.specs.declared.record.Rec.{Rec}
use Rattle.rank_machine.specs.declared.record.Rec.TheVariants as r
use Rattle.rank_machine.specs.Setting.{Setting}
use Rattle.rank_machine.specs.State.{State}
use Rattle.rank_machine.specs.Effect.{state_after}
use Rattle.rank_machine.specs.Legal.{IsLegal, some_lost}
use Rattle.rank_machine.specs.Losses.{falls}
use Rattle.run_laws.specs.Due.{numbered, has_fallen, ahead, is_due_in}
use Rattle.run_laws.specs.LastCommit.{since, rest_after, with_spawned}
use Rattle.run_laws.specs.Cuts.{MayGoOn, LeadsBack, GoOnFrom, GoesRightly}
use Rattle.run_laws.proofs.Inner.{rest-inner}
use Rattle.run_laws.specs.Traces.{AreShort, AllHeal, AlwaysHold, spent, recovery_under}
use Rattle.block_world.specs.World.{WorldView, setting_in, state_of, fallen}
use Rattle.block_world.proofs.HeldOnTheWay.{always-fallen}
use Rattle.world_heal.specs.declared.healing.Drove.{Drove}
use Rattle.world_heal.specs.declared.healing.Drove.TheVariants as d
use Rattle.world_heal.specs.Ways.{IsLater, rest_of}
use Rattle.world_heal.specs.Outcomes.{IsEnding, IsCutAt, IsHealed, IfDrove}
use Rattle.world_heal.specs.Costs.{Heals, KeepsGoing, KeepsShort, HealsInTime, HoldsWords}
use Rattle.world_heal.specs.Attempts.{IsStoppedWithin, HasRecovered, attempt_most}
use Rattle.world_heal.proofs.Ways.{mark-rest}
use Rattle.world_heal.proofs.Later.{later-same, later-then, setting-later}
use Rattle.world_heal.proofs.Trying.{rest-tried, holds-then}
use Rattle.world_heal.proofs.Fallen.{with_losses}
use Rattle.world_heal.proofs.Restarts.{BeginsAgain, begins-first, begins-again, begins-fewer, healed-last, healed-costs, healed-goes, healed-short, healed-in_time, over-in_time}

-- a run that ends may not go on
pub ending-over : (s : Setting) (journal : List Rec) (x : Drove) → IsEnding s (state_after s journal) x → MayGoOn s journal → ⊥
ending-over s journal d.Done h go = h
ending-over s journal (d.Beyond grid row) h go = true≢false (sym h.here ∙ go.within grid row)
ending-over s journal (d.NoSpare rank) h go = go.spared rank h.1

-- so it was not healed
pub if_ending : (P : Type 0) (Q : Drove → Type 0) (s : Setting) (st : State) (x : Drove) → IsEnding s st x → Q x → IfDrove P Q x
if_ending P Q s st d.Done h q = absurd h
if_ending P Q s st (d.Beyond grid row) h q = q
if_ending P Q s st (d.NoSpare rank) h q = q

-- where a recovery begins in a world, for the first time or again
pub record BeginsIn (old now : WorldView) : Type 0 where
  pub later : IsLater old now
  pub begins : BeginsAgain (setting_in old) (recovery_under (setting_in old) (state_of old).mark) old.journal now.journal
  pub holds : HoldsWords old now

pub begins-here : (w : WorldView) → has_fallen w.journal ≡ true → some_lost (setting_in w) (state_of w) ≡ true → BeginsIn w w
begins-here w fell lost = record { later = later-same w; begins = begins-first (setting_in w) (recovery_under (setting_in w) (state_of w).mark) w.journal fell lost; holds = λ measured before. before }

module _ (old now : WorldView) (h : BeginsIn old now) where
  same : setting_in now ≡ setting_in old
  same = setting-later old now h.later

  pub rest_here : rest_of now ≡ rest_of old
  rest_here = ap (λ s. rest_after s now.journal) same ∙ h.begins.rest

  mark_here : (state_of now).mark ≡ (state_of old).mark
  mark_here = mark-rest now ∙ (ap (λ (st : State). st.mark) rest_here ∙ sym (mark-rest old))

  pub lost_here : some_lost (setting_in now) (state_of now) ≡ true
  lost_here = subst (λ s. some_lost s (state_after s now.journal) ≡ true) (sym same) h.begins.lost

  -- ---- the run is cut short
  pub cut_here : (x : Drove) → IsEnding (setting_in now) (state_of now) x → IsCutAt old now x
  cut_here x ending = record { later = h.later; fell = h.begins.fell; rest = ap (λ st. with_spawned st (rest_of now).spawned) rest_here; ending = ending }

  pub cut-costs : Heals old now
  cut-costs = omega (arith, h.begins.paid)

  pub cut-in_time : (x : Drove) → IsEnding (setting_in now) (state_of now) x → HealsInTime old now
  cut-in_time x ending recovery le heals =
      over-in_time recovery (setting_in old) now.journal h.begins.fell (ending-over (setting_in old) now.journal x (subst (λ s. IsEnding s (state_after s now.journal) x) same ending)) (h.begins.in_time recovery le heals)

  -- ---- a loss came, and the losses fell
  module _ (mid f : WorldView) (k : IsStoppedWithin (attempt_most (setting_in now) (state_of now).mark) now mid) (e : f ≡ fallen mid) where
    abbrev most : ℕ
    most = recovery_under (setting_in old) (state_of old).mark

    same_mid : setting_in mid ≡ setting_in old
    same_mid = (λ i. setting_in (record mid { script = k.tried.script i; files = k.tried.files i })) ∙ same

    same_fell : setting_in f ≡ setting_in old
    same_fell = ap (λ (v : WorldView). setting_in v) e ∙ same_mid

    journal_fell : f.journal ≡ with_losses (setting_in old) (now.journal ++ k.tried.added)
    journal_fell = ap (λ (v : WorldView). v.journal) e ∙ (λ i. with_losses (same_mid i) (k.tried.journal i))

    few : length k.tried.added < most
    few =
        let bound : attempt_most (setting_in now) (state_of now).mark ≡ attempt_most (setting_in old) (state_of old).mark = λ i. attempt_most (same i) (mark_here i) in
        omega (arith, k.tried.few, bound)

    due : is_due_in (setting_in old).losses (now.journal ++ k.tried.added) ≡ true
    due = subst (λ j. is_due_in (setting_in old).losses j ≡ true) k.tried.journal (subst (λ s. is_due_in s.losses mid.journal ≡ true) same_mid k.due)

    goes : GoOnFrom (setting_in old) now.journal k.tried.added
    goes = subst (λ s. GoOnFrom s now.journal k.tried.added) same k.tried.goes

    rest_mid : rest_of mid ≡ rest_of old
    rest_mid = rest-tried _ now mid k.tried ∙ rest_here

    -- what falls leaves each rank with no more words
    holds_fell : HoldsWords mid f
    holds_fell measured before = subst (λ (v : WorldView). AlwaysHold (setting_in mid) v.journal) (sym e) (always-fallen mid before)

    pub begins-then : IsLegal (setting_in f) f.journal → BeginsIn old f
    begins-then legal =
        let fell : List Rec = falls (setting_in old).losses (numbered (now.journal ++ k.tried.added)) in
        let there : IsLegal (setting_in old) (with_losses (setting_in old) (now.journal ++ k.tried.added)) = subst (IsLegal (setting_in old)) journal_fell (subst (λ s. IsLegal s f.journal) same_fell legal) in
        record {
          later = later-then old now f h.later
              (record {
                script = ap (λ (v : WorldView). v.script) e ∙ k.tried.script;
                files = ap (λ (v : WorldView). v.files) e ∙ k.tried.files;
                added = k.tried.added ++ fell;
                journal = journal_fell ∙ append_assoc now.journal k.tried.added fell;
              });
          begins = subst (BeginsAgain (setting_in old) most old.journal) (sym journal_fell)
              (begins-again (setting_in old) most old.journal now.journal k.tried.added h.begins k.tried.numbered k.tried.plain few goes due there);
          holds = holds-then old mid f same_mid rest_mid (holds-then old now mid same rest_here h.holds k.tried.holds) holds_fell;
        }

    pub then-fewer : ahead (setting_in old) f.journal < ahead (setting_in old) now.journal
    then-fewer =
        subst (λ j. ahead (setting_in old) j < ahead (setting_in old) now.journal) (sym journal_fell)
        (begins-fewer (setting_in old) most old.journal now.journal k.tried.added h.begins k.tried.numbered k.tried.plain few goes due)

  -- ---- the recovery came to its commit
  module _ (new : WorldView) (k : HasRecovered now new) where
    abbrev bound : ℕ
    bound = recovery_under (setting_in old) (state_of old).mark

    few_records : length k.added < bound
    few_records =
        let under : recovery_under (setting_in now) (state_of now).mark ≡ bound = λ i. recovery_under (same i) (mark_here i) in
        omega (arith, k.few, under)

    pub healed_here : IsHealed old new
    healed_here = record {
      later = later-then old now new h.later (record { script = k.script; files = k.files; added = k.added ++ r.Commit (state_of now).mark true ∷ []; journal = k.journal });
      last = ap since k.journal ∙ healed-last (setting_in old) bound old.journal now.journal k.added h.begins k.numbered k.plain few_records (state_of now).mark;
      same = k.same ∙ ap (λ st. with_spawned st (state_of new).spawned) rest_here;
    }

    pub here-costs : Heals old new
    here-costs =
        subst (λ j. spent bound (setting_in old) j ≤ spent bound (setting_in old) old.journal + bound) (sym k.journal)
        (healed-costs (setting_in old) bound old.journal now.journal k.added h.begins k.numbered k.plain few_records (state_of now).mark)

    -- the commit leads back to what the last one left
    leads_back : LeadsBack (setting_in old) (now.journal ++ k.added) (r.Commit (state_of now).mark true)
    leads_back =
        let s : Setting = setting_in old in
        let same_new : setting_in new ≡ s = setting-later now new (record { script = k.script; files = k.files; added = k.added ++ r.Commit (state_of now).mark true ∷ []; journal = k.journal }) ∙ same in
        let journal : new.journal ≡ (now.journal ++ k.added) ++ r.Commit (state_of now).mark true ∷ [] = k.journal ∙ sym (append_assoc now.journal k.added (r.Commit (state_of now).mark true ∷ [])) in
        let state : state_of new ≡ state_after s ((now.journal ++ k.added) ++ r.Commit (state_of now).mark true ∷ []) = λ i. state_after (same_new i) (journal i) in
        let rest : rest_of now ≡ rest_after s (now.journal ++ k.added) = ap (λ z. rest_after z now.journal) same ∙ sym (rest-inner s now.journal k.added k.plain) in
        subst (λ (st : State). st ≡ with_spawned (rest_after s (now.journal ++ k.added)) st.spawned) state (k.same ∙ ap (λ st. with_spawned st (state_of new).spawned) rest)

    pub here-goes : KeepsGoing old new
    here-goes go =
        subst (GoesRightly (setting_in old)) (sym k.journal)
        (healed-goes (setting_in old) bound old.journal now.journal k.added h.begins k.numbered k.plain few_records (state_of now).mark
        (subst (λ s. GoOnFrom s now.journal (k.added ++ r.Commit (state_of now).mark true ∷ [])) same k.goes) leads_back go)

    pub here-short : (phase : ℕ) → KeepsShort phase old new
    here-short phase short =
        subst (λ j. AreShort phase j) (sym k.journal)
        (healed-short (setting_in old) bound old.journal now.journal k.added h.begins k.numbered k.plain few_records (state_of now).mark phase short)

    pub here-in_time : HealsInTime old new
    here-in_time recovery le heals =
        subst (AllHeal recovery (setting_in old)) (sym k.journal)
        (healed-in_time (setting_in old) bound old.journal now.journal k.added h.begins k.numbered k.plain few_records (state_of now).mark recovery le heals)

    pub here-holds : HoldsWords old new
    here-holds = holds-then old now new same rest_here h.holds k.holds
