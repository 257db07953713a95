-- A phase from the last commit to its own.
use Rattle.std.proofs.Common.{◌≡◌, ◌+◌, ◌-◌, ◌≤◌, ◌<◌, ◌==◌, ℕ, zero, suc, Bool, true, false, List, [], ◌∷◌, ◌++◌, length, refl, sym, ap, subst, ◌∙◌, arith, IsTrue, All}
use Rattle.std.proofs.lemmas.List.{append_assoc}
use Rattle.std.proofs.lemmas.Bool.{and_from, or_from, lt-ltb}
use Rattle.rank_machine.specs.declared.slot.Slot.{Slot}
use Rattle.rank_machine.specs.declared.mark.Mark.{Mark}
use Rattle.rank_machine.specs.declared.record.Rec.{Rec}
use Rattle.rank_machine.specs.declared.record.Rec.TheVariants as r
use Rattle.rank_machine.specs.Setting.{Setting, ranks, all_below, some_below}
use Rattle.rank_machine.specs.State.{State}
use Rattle.rank_machine.specs.Effect.{after, replay, state_after}
use Rattle.rank_machine.specs.CodeLaw.{CodeLaw}
use Rattle.rank_machine.specs.Marks.{follows}
use Rattle.rank_machine.specs.Legal.{IsCommit, IsNext, some_lost}
use Rattle.run_laws.specs.Due.{numbered}
use Rattle.run_laws.specs.LastCommit.{is_inner, since, IsRest, IsScripted}
use Rattle.rank_machine.specs.Losses.{is_numbered}
use Rattle.std.proofs.lemmas.List.Elements.{All-nil, All-cons, All-append, All-weaker}
use Rattle.run_laws.proofs.Journals.{state-rest, since-append, numbered-append}
use Rattle.run_laws.proofs.Inner.{IsSameRun, inner-numbered, none_commits}
use Rattle.run_laws.proofs.Going.{IsCalm, go_append, go_calm}
use Rattle.run_laws.proofs.Shorts.{short_plain, short_phase}
use Rattle.run_laws.specs.Cuts.{GoesRightly}
use Rattle.run_laws.proofs.LeadingBack.{back_append, back_plain, back_commit}
use Rattle.run_laws.specs.Traces.{AreShort, AllHeal}
use Rattle.run_laws.proofs.CodeLaws.{CodeLaw-commit}
use Rattle.block_world.specs.World.{WorldView, setting_in, state_of, noted}
use Rattle.block_world.specs.Did.{IsMade, IsStopped}
use Rattle.phases.specs.Plans.{Plan, Progress, CanStart, saves}
use Rattle.phases.specs.Words.{AddThrough, HasRoom}
use Rattle.phase_words.specs.Resting.{IsMeasured}
use Rattle.world_heal.specs.Ways.{rest_of, IsUnderWay, IsHit}
use Rattle.world_heal.specs.Costs.{KeepsGoing, KeepsShort, KeepsHealing, HoldsWords}
use Rattle.world_heal.proofs.Ways.{setting-way, under_way-then, rest_way, run_way, state_noted, numbered-way}
use Rattle.loss_recovery.specs.Driven.{IsAtRest, HasCome, IsDriven, IsStraight, HoldsAlong, HoldsDriven}
use Rattle.run_laws.proofs.Healing.{heal-calm}
use Rattle.loss_recovery.specs.Steps.{HasBegun, IsRunOut}
use Rattle.loss_recovery.proofs.Holding.{saves_fit_in, home_holds}

-- what the last commit left is the state of a world at rest
pub at_rest : (w : WorldView) → since w.journal ≡ [] → rest_of w ≡ state_of w
at_rest w e = sym (state-rest (setting_in w) w.journal e)

rest_saved : (old mid : WorldView) → IsAtRest old → IsUnderWay old mid → rest_of mid ≡ state_of old
rest_saved old mid h u = rest_way old mid u ∙ at_rest old h.last

pub start_saved : (plan : Plan) (old mid : WorldView) (st : State) (count : ℕ) → IsAtRest old → CanStart plan (setting_in old) (state_of old) → HasCome st count old mid → CanStart plan (setting_in mid) (rest_of mid)
start_saved plan old mid st count h may c =
    subst (λ s. CanStart plan s (rest_of mid)) (sym (setting-way old mid c.under_way)) (subst (λ z. CanStart plan (setting_in old) z) (sym (rest_saved old mid h c.under_way)) may)

pub stands_saved : (Stands : Setting → State → State → Type 0) (old mid : WorldView) (st : State) (count : ℕ) → IsAtRest old → HasCome st count old mid → Stands (setting_in old) (state_of old) st → Stands (setting_in mid) (rest_of mid) (state_of mid)
stands_saved Stands old mid st count h c stands =
    subst (λ s. Stands s (rest_of mid) (state_of mid)) (sym (setting-way old mid c.under_way))
    (subst (λ z. Stands (setting_in old) z (state_of mid)) (sym (rest_saved old mid h c.under_way))
    (subst (λ z. Stands (setting_in old) (state_of old) z) (sym c.state) stands))

saves_links : (s : Setting) (st : State) (xs : List (ℕ × Slot)) → (replay s st (saves xs)).links ≡ st.links
saves_links s st [] = refl
saves_links s st (x ∷ xs) = saves_links s (after s st (r.Save x.0 x.1)) xs

saves_taken : (s : Setting) (st : State) (xs : List (ℕ × Slot)) → (replay s st (saves xs)).taken ≡ st.taken
saves_taken s st [] = refl
saves_taken s st (x ∷ xs) = saves_taken s (after s st (r.Save x.0 x.1)) xs

pub begun_saved : (listed : List (ℕ × Slot)) (old mid : WorldView) (count : ℕ) → IsAtRest old → HasCome (replay (setting_in old) (state_of old) (saves listed)) count old mid → HasBegun mid
begun_saved listed old mid count h c = record {
  links = λ from to. ap (λ (st : State). st.links from to) c.state ∙ (ap (λ (f : _). f from to) (saves_links (setting_in old) (state_of old) listed) ∙ h.rest.links from to);
  taken = ap (λ (st : State). st.taken) c.state ∙ (saves_taken (setting_in old) (state_of old) listed ∙ h.rest.taken);
  mark = (run_way old mid c.under_way).mark ∙ sym (ap (λ (st : State). st.mark) (rest_saved old mid h c.under_way));
}

-- ---- the commit
all_true : (n : ℕ) (f : ℕ → Bool) → ((i : ℕ) → i < n → f i ≡ true) → all_below n f ≡ true
all_true zero f h = refl
all_true (suc n) f h = and_from (all_below n f) (f n) (all_true n f (λ i lt. h i (omega (arith, lt)))) (h n (omega arith))

none_true : (n : ℕ) (f : ℕ → Bool) → ((i : ℕ) → f i ≡ false) → some_below n f ≡ false
none_true zero f h = refl
none_true (suc n) f h = or_from (some_below n f) (f n) (none_true n f h) (h n)

pub none_lost : (s : Setting) (base st : State) → IsRest s base → IsSameRun base st → some_lost s st ≡ false
none_lost s base st h same = none_true (ranks s) st.lost (λ i. ap (λ (f : ℕ → Bool). f i) same.lost ∙ h.lost i)

next_if : (s : Setting) (st : State) (mark : Mark) (b : Bool) → b ≡ false → IsTrue (follows s st.mark mark) → IsNext s st mark b
next_if s st mark b e h = subst (λ c. IsNext s st mark c) (sym e) h

may_commit : (s : Setting) (base st : State) (mark : Mark) → IsRest s base → IsSameRun base st → ((from to : ℕ) → st.links from to ≡ []) → IsTrue (follows s base.mark mark) → CodeLaw s st mark → IsCommit s st mark (some_lost s st)
may_commit s base st mark h same links f law = record {
  live = all_true (ranks s) st.live (λ i lt. ap (λ (g : ℕ → Bool). g i) same.live ∙ (h.live i ∙ lt-ltb i (ranks s) lt));
  empty = all_true (ranks s) _ (λ a la. all_true (ranks s) _ (λ b lb. ap (λ ts. length ts == 0) (links a b)));
  loss = refl;
  next = next_if s st mark (some_lost s st) (none_lost s base st h same) (subst (λ m. IsTrue (follows s m mark)) (sym same.mark) f);
  law = law;
}

both_runs : (old mid new : WorldView) → IsUnderWay old mid → IsUnderWay mid new → IsSameRun (state_of old) (state_of new)
both_runs old mid new u v = run_way old new (under_way-then old mid new u v)

pub commit_fits : (plan : Plan) (progress : Progress) (old mid new : WorldView) (st : State) (count : ℕ) → IsAtRest old → HasCome st count old mid → IsRunOut plan progress mid new → IsTrue (follows (setting_in old) (state_of old).mark plan.mark)
    → IsCommit (setting_in new) (state_of new) plan.mark (some_lost (setting_in new) (state_of new))
commit_fits plan progress old mid new st count h c out f =
    let s : setting_in mid ≡ setting_in old = setting-way old mid c.under_way in
    let t : setting_in new ≡ setting_in old = setting-way mid new out.under_way ∙ s in
    subst (λ z. IsCommit z (state_of new) plan.mark (some_lost z (state_of new))) (sym t)
    (may_commit (setting_in old) (state_of old) (state_of new) plan.mark h.rest (both_runs old mid new c.under_way out.under_way) out.links f (subst (λ z. CodeLaw z (state_of new) plan.mark) s out.law))

-- after it the machine is at rest
rest_committed : (s : Setting) (base st : State) (mark : Mark) → IsRest s base → IsSameRun base st → ((from to : ℕ) → st.links from to ≡ []) → CodeLaw s st mark → IsScripted s → IsRest s (after s st (r.Commit mark false))
rest_committed s base st mark h same links law sc = record {
  live = λ rank. ap (λ (f : ℕ → Bool). f rank) same.live ∙ h.live rank;
  lost = λ rank. refl;
  saved = λ rank slot. refl;
  fresh = λ rank slot. refl;
  links = links;
  taken = refl;
  law = CodeLaw-commit s st mark false sc law;
  nothing_else = λ rank slot h. rw h refl;
}

abbrev driven : (plan : Plan) (progress : Progress) (old mid new fin : WorldView) (st : State) (count : ℕ) → IsAtRest old → HasCome st count old mid → IsRunOut plan progress mid new → IsScripted (setting_in new)
    → IsMade new fin (r.Commit plan.mark (some_lost (setting_in new) (state_of new))) → IsDriven plan progress old fin
driven plan progress old mid new fin st count h c out sc gone =
    let s : setting_in mid ≡ setting_in old = setting-way old mid c.under_way in
    let t : setting_in new ≡ setting_in old = setting-way mid new out.under_way ∙ s in
    let u = under_way-then old mid new c.under_way out.under_way in
    let same = both_runs old mid new c.under_way out.under_way in
    let none : some_lost (setting_in new) (state_of new) ≡ false = subst (λ z. some_lost z (state_of new) ≡ false) (sym t) (none_lost (setting_in old) (state_of old) (state_of new) h.rest same) in
    let now : fin ≡ noted new (r.Commit plan.mark false) = gone.noted ∙ ap (λ b. noted new (r.Commit plan.mark b)) none in
    let journal : fin.journal ≡ new.journal ++ r.Commit plan.mark false ∷ [] = ap (λ (w : WorldView). w.journal) now in
    let sf : setting_in fin ≡ setting_in old = ap (λ (w : WorldView). setting_in w) now ∙ t in
    let state : state_of fin ≡ after (setting_in old) (state_of new) (r.Commit plan.mark false) = state_noted new fin (r.Commit plan.mark false) now ∙ ap (λ z. after z (state_of new) (r.Commit plan.mark false)) t in
    let law : CodeLaw (setting_in old) (state_of new) plan.mark = subst (λ z. CodeLaw z (state_of new) plan.mark) s out.law in
    record {
      later = record {
        script = ap (λ (w : WorldView). w.script) now ∙ u.script;
        files = ap (λ (w : WorldView). w.files) now ∙ u.files;
        added = u.added ++ r.Commit plan.mark false ∷ [];
        journal = journal ∙ (ap (λ xs. xs ++ r.Commit plan.mark false ∷ []) u.journal ∙ append_assoc old.journal u.added (r.Commit plan.mark false ∷ []));
      };
      ended = out.ended;
      before = new.journal;
      commit = journal;
      effect =
          subst (λ z. plan.Effect (setting_in old) (state_of old) progress.takes z) (sym state)
          (subst (λ z. plan.Effect (setting_in old) z progress.takes (after (setting_in old) (state_of new) (r.Commit plan.mark false))) (rest_saved old mid h c.under_way)
          (subst (λ z. plan.Effect z (rest_of mid) progress.takes (after z (state_of new) (r.Commit plan.mark false))) s out.effect));
      committed = ap (λ (z : State). z.committed) state ∙ (λ i. same.committed i ++ out.taken i);
      mark = ap (λ (z : State). z.mark) state;
      rest = record {
        last = ap since journal ∙ since-append new.journal (r.Commit plan.mark false ∷ []);
        rest = subst (λ z. IsRest z (state_of fin)) (sym sf) (subst (λ z. IsRest (setting_in old) z) (sym state) (rest_committed (setting_in old) (state_of old) (state_of new) plan.mark h.rest same out.links law (subst (λ z. IsScripted z) t sc)));
      };
    }

numbered_noted : (w w' : WorldView) (mark : Mark) (b : Bool) → w' ≡ noted w (r.Commit mark b) → numbered w'.journal ≡ numbered w.journal + 1
numbered_noted w w' mark b e = ap (λ (v : WorldView). numbered v.journal) e ∙ numbered-append w.journal (r.Commit mark b ∷ [])

-- how many records there are then, and where a loss is due before
driven_few : (plan : Plan) (progress : Progress) (old mid new fin : WorldView) (st : State) → HasCome st (length plan.listed) old mid → IsRunOut plan progress mid new
    → IsMade new fin (r.Commit plan.mark (some_lost (setting_in new) (state_of new))) → numbered fin.journal ≤ numbered old.journal + plan.most_records
driven_few plan progress old mid new fin st c out gone = omega (arith, numbered_noted new fin plan.mark (some_lost (setting_in new) (state_of new)) gone.noted, out.count, out.few, c.count)

calm_at : (w : WorldView) → IsAtRest w → IsCalm (setting_in w) (state_after (setting_in w) w.journal)
calm_at w h = record { lost = h.rest.lost; live = λ rank lt. h.rest.live rank ∙ lt-ltb rank (ranks (setting_in w)) lt }

inner_numbered : (xs : List Rec) → All (λ x. is_inner x ≡ true) xs → All (λ x. is_numbered x ≡ true) xs
inner_numbered xs h = All-weaker (λ (x : Rec). is_inner x ≡ true) (λ (x : Rec). is_numbered x ≡ true) (λ x e. inner-numbered x e) xs h

-- a phase on its way from a commit
pub going_way : (old mid : WorldView) → IsAtRest old → IsUnderWay old mid → KeepsGoing old mid
going_way old mid h u goes =
    let s : Setting = setting_in old in
    subst (λ j. GoesRightly s j) (sym u.journal)
    (record {
      may = go_append s [] old.journal u.added goes.may (go_calm s old.journal u.added (calm_at old h) (inner_numbered u.added u.inner));
      back = back_append s [] old.journal u.added goes.back (back_plain s old.journal u.added (none_commits u.added u.inner));
    })

pub short_way : (phase : ℕ) (old mid : WorldView) → IsUnderWay old mid → KeepsShort phase old mid
short_way phase old mid u short = subst (λ j. AreShort phase j) (sym u.journal) (short_plain phase old.journal u.added (none_commits u.added u.inner) short)

pub in_time_way : (recovery : ℕ) (old mid : WorldView) → IsUnderWay old mid → KeepsHealing recovery old mid
in_time_way recovery old mid u heals = subst (λ j. AllHeal recovery (setting_in old) j) (sym u.journal) (heal-calm recovery (setting_in old) old.journal u.added (inner_numbered u.added u.inner) heals)

in_time_home : (recovery : ℕ) (old mid fin : WorldView) (mark : Mark) → IsUnderWay old mid → fin.journal ≡ mid.journal ++ r.Commit mark false ∷ [] → KeepsHealing recovery old fin
in_time_home recovery old mid fin mark u e heals =
    let all = All-append (λ (x : Rec). is_numbered x ≡ true) u.added (r.Commit mark false ∷ []) (inner_numbered u.added u.inner) (All-cons (λ (x : Rec). is_numbered x ≡ true) (r.Commit mark false) [] refl (All-nil (λ (x : Rec). is_numbered x ≡ true))) in
    let journal : fin.journal ≡ old.journal ++ (u.added ++ r.Commit mark false ∷ []) = e ∙ (ap (λ xs. xs ++ r.Commit mark false ∷ []) u.journal ∙ append_assoc old.journal u.added (r.Commit mark false ∷ [])) in
    subst (λ j. AllHeal recovery (setting_in old) j) (sym journal) (heal-calm recovery (setting_in old) old.journal (u.added ++ r.Commit mark false ∷ []) all heals)

-- and its commit
going_home : (old mid fin : WorldView) (mark : Mark) → IsAtRest old → IsUnderWay old mid → fin.journal ≡ mid.journal ++ r.Commit mark false ∷ [] → KeepsGoing old fin
going_home old mid fin mark h u e goes =
    let all = All-append (λ (x : Rec). is_numbered x ≡ true) u.added (r.Commit mark false ∷ []) (inner_numbered u.added u.inner) (All-cons (λ (x : Rec). is_numbered x ≡ true) (r.Commit mark false) [] refl (All-nil (λ (x : Rec). is_numbered x ≡ true))) in
    let journal : fin.journal ≡ old.journal ++ (u.added ++ r.Commit mark false ∷ []) = e ∙ (ap (λ xs. xs ++ r.Commit mark false ∷ []) u.journal ∙ append_assoc old.journal u.added (r.Commit mark false ∷ [])) in
    let s : Setting = setting_in old in
    subst (λ j. GoesRightly s j) (sym journal)
    (record {
      may = go_append s [] old.journal (u.added ++ r.Commit mark false ∷ []) goes.may (go_calm s old.journal (u.added ++ r.Commit mark false ∷ []) (calm_at old h) all);
      back = back_append s [] old.journal (u.added ++ r.Commit mark false ∷ []) goes.back
          (back_append s old.journal u.added (r.Commit mark false ∷ []) (back_plain s old.journal u.added (none_commits u.added u.inner)) (back_commit s (old.journal ++ u.added) mark));
    })

short_home : (phase : ℕ) (old mid fin : WorldView) (mark : Mark) → IsAtRest old → (u : IsUnderWay old mid) → fin.journal ≡ mid.journal ++ r.Commit mark false ∷ [] → length u.added + 1 ≤ phase → KeepsShort phase old fin
short_home phase old mid fin mark h u e few short =
    let journal : fin.journal ≡ old.journal ++ (u.added ++ r.Commit mark false ∷ []) = e ∙ (ap (λ xs. xs ++ r.Commit mark false ∷ []) u.journal ∙ append_assoc old.journal u.added (r.Commit mark false ∷ [])) in
    subst (λ j. AreShort phase j) (sym journal) (short_phase phase old.journal u.added mark false h.last u.inner (none_commits u.added u.inner) few short)

pub straight : (plan : Plan) (progress : Progress) (old mid new fin : WorldView) (st : State) → IsAtRest old → HasCome st (length plan.listed) old mid → IsRunOut plan progress mid new → IsScripted (setting_in new)
    → IsMade new fin (r.Commit plan.mark (some_lost (setting_in new) (state_of new))) → IsStraight plan progress old fin
straight plan progress old mid new fin st h c out sc gone =
    let u = under_way-then old mid new c.under_way out.under_way in
    let x = driven plan progress old mid new fin st (length plan.listed) h c out sc gone in
    let few = driven_few plan progress old mid new fin st c out gone in
    record {
      driven = x;
      few = few;
      in_time = λ recovery. in_time_home recovery old new fin plan.mark u x.commit;
      goes = going_home old new fin plan.mark h u x.commit;
      short = λ phase le. short_home phase old new fin plan.mark h u x.commit (omega (arith, few, le, numbered-way old new u, numbered_noted new fin plan.mark (some_lost (setting_in new) (state_of new)) gone.noted));
    }

pub hit_saving : (plan : Plan) (old mid : WorldView) → length plan.listed + 1 ≤ plan.most_records → IsHit (length plan.listed) old mid → IsHit plan.most_records old mid
hit_saving plan old mid enough h = record { under_way = h.under_way; few = omega (arith, h.few, enough); due = h.due }

pub hit_running : (plan : Plan) (old mid new : WorldView) (st : State) → length plan.listed + 1 ≤ plan.most_records → HasCome st (length plan.listed) old mid → IsHit (plan.most_records - length plan.listed) mid new → IsHit plan.most_records old new
hit_running plan old mid new st enough c h = record { under_way = under_way-then old mid new c.under_way h.under_way; few = omega (arith, h.few, c.count, enough); due = h.due }

pub hit_committing : (plan : Plan) (progress : Progress) (old mid new fin : WorldView) (st : State) → HasCome st (length plan.listed) old mid → IsRunOut plan progress mid new → IsStopped new fin → IsHit plan.most_records old fin
hit_committing plan progress old mid new fin st c out stop =
    subst (λ w. IsHit plan.most_records old w) (sym stop.kept)
    (record { under_way = under_way-then old mid new c.under_way out.under_way; few = omega (arith, c.count, out.count, out.few); due = stop.due })

-- ---- words
-- in the states that the saves lead through
pub saved_holds : (plan : Plan) (old mid : WorldView) → IsAtRest old → HasRoom plan.most_words (setting_in old) (state_of old) → AddThrough plan.most_words (setting_in old) (state_of old) (state_of old) (saves plan.listed) → HoldsAlong (saves plan.listed) old mid → HoldsWords old mid
saved_holds plan old mid h room fit along measured = along (saves_fit_in plan (setting_in old) (state_of old) (subst (λ st. IsMeasured (setting_in old) st) (at_rest old h.last) measured) h.rest room fit)

-- and in that of the commit, where they hold in those before
pub commit_holds : (plan : Plan) (progress : Progress) (old mid new fin : WorldView) (st : State) (x : Rec) → HasCome st (length plan.listed) old mid → IsRunOut plan progress mid new → fin ≡ noted new x → IsStraight plan progress old fin → HoldsWords old new → HoldsDriven old fin
commit_holds plan progress old mid new fin st x c out e done h = home_holds old new fin x (under_way-then old mid new c.under_way out.under_way) e done.driven.rest.rest h
