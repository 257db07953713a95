-- A phase driven over losses.
use Rattle.std.proofs.Common.{◌≡◌, ◌+◌, ◌-◌, ◌*◌, ◌≤◌, ◌<◌, ℕ, suc, ◌++◌, refl, sym, ap, subst, ◌∙◌, arith}
use Rattle.rank_machine.specs.State.{State}
use Rattle.run_laws.specs.Due.{numbered, ahead}
use Rattle.run_laws.specs.LastCommit.{IsRest, with_spawned}
use Rattle.run_laws.proofs.CodeLaws.{IsRest-spawned}
use Rattle.run_laws.specs.Traces.{AllHeal, spent, recovery_under}
use Rattle.block_world.specs.World.{WorldView, setting_in, state_of}
use Rattle.world_heal.specs.declared.healing.Drove.{Drove}
use Rattle.world_heal.specs.declared.healing.Drove.TheVariants as d
use Rattle.phases.specs.Plans.{Plan, Progress, IgnoresSpawns}
use Rattle.world_heal.specs.Ways.{rest_of, IsLater, IsHit}
use Rattle.world_heal.specs.Outcomes.{IsCutAt, IfDrove, IsHealed}
use Rattle.world_heal.specs.Costs.{KeepsGoing, KeepsShort, HoldsWords}
use Rattle.phase_words.specs.Resting.{IsMeasured}
use Rattle.world_heal.proofs.Ways.{setting-way, rest_way, run_way, mark-rest}
use Rattle.world_heal.specs.Mended.{IsMendable}
use Rattle.world_heal.proofs.Later.{later-same, later-then, later-way, setting-later, fewer-later}
use Rattle.loss_recovery.specs.Driven.{site_at, IsAtRest, CostsAtMost, Recovers, cost_of, IsDriven, IsStraight, RecoversInTime, HoldsDriven}
use Rattle.run_laws.specs.Cuts.{GoesRightly}
use Rattle.loss_recovery.proofs.Attempting.{at_rest, going_way, short_way, in_time_way}
use Rattle.loss_recovery.proofs.Holding.{holds_then, words_then, measured_spawned}

-- what a phase and its recoveries cost, where it began again so far
abbrev pub IsPaid : Plan → WorldView → WorldView → ℕ → Type 0
IsPaid plan old now extra = (most recovery : ℕ) → plan.most_records ≤ most → recovery_under (setting_in old) (state_of old).mark ≤ recovery → CostsAtMost most recovery old now extra

-- where a phase begins, for the first time or again
pub record IsBegun (plan : Plan) (old now : WorldView) : Type 0 where
  pub later : IsLater old now
  pub rest : IsAtRest now
  pub state : state_of now ≡ with_spawned (state_of old) (state_of now).spawned
  pub paid : IsPaid plan old now 0
  pub goes : KeepsGoing old now
  pub in_time : RecoversInTime old now
  pub short : (phase : ℕ) → plan.most_records ≤ phase → KeepsShort phase old now
  pub holds : HoldsWords old now

pub begun-first : (plan : Plan) (w : WorldView) → IsAtRest w → IsBegun plan w w
begun-first plan w h = record { later = later-same w; rest = h; state = refl; paid = λ most recovery a b. omega arith; goes = λ h. h; in_time = λ recovery le h. h; short = λ phase le h. h; holds = λ measured h. h }

pub may-here : (plan : Plan) (old now : WorldView) → IgnoresSpawns plan → IsBegun plan old now → plan.MayDrive (setting_in old) (state_of old) → plan.MayDrive (setting_in now) (state_of now)
may-here plan old now ignores h may =
    subst (λ s. plan.MayDrive s (state_of now)) (sym (setting-later old now h.later))
    (subst (λ st. plan.MayDrive (setting_in old) st) (sym h.state) (ignores.may (setting_in old) (state_of old) (state_of now).spawned may))

going-then : (plan : Plan) (old now new : WorldView) → IsBegun plan old now → KeepsGoing now new → KeepsGoing old new
going-then plan old now new h g goes =
    let s : setting_in now ≡ setting_in old = setting-later old now h.later in
    subst (λ z. GoesRightly z new.journal) s (g (subst (λ z. GoesRightly z now.journal) (sym s) (h.goes goes)))

pub driven-going : (plan : Plan) (progress : Progress) (old now new : WorldView) → IsBegun plan old now → IsStraight plan progress now new → KeepsGoing old new
driven-going plan progress old now new h g = going-then plan old now new h g.goes

pub driven-short : (plan : Plan) (progress : Progress) (old now new : WorldView) → IsBegun plan old now → IsStraight plan progress now new → (phase : ℕ) → plan.most_records ≤ phase → KeepsShort phase old new
driven-short plan progress old now new h g phase le short = g.short phase le (h.short phase le short)

pub driven-in_time : (plan : Plan) (progress : Progress) (old now new : WorldView) → IsBegun plan old now → IsStraight plan progress now new → RecoversInTime old new
driven-in_time plan progress old now new h g recovery le heals =
    let s : setting_in now ≡ setting_in old = setting-later old now h.later in
    subst (λ z. AllHeal recovery z new.journal) s (g.in_time recovery (subst (λ z. AllHeal recovery z now.journal) (sym s) (h.in_time recovery le heals)))

-- where a loss came in an attempt
pub mendable_hit : (plan : Plan) (old now mid : WorldView) (most : ℕ) → IsBegun plan old now → IsHit most now mid → IsMendable (setting_in old) → IsMendable (setting_in mid)
mendable_hit plan old now mid most h hit mendable = subst IsMendable (sym (setting-way now mid hit.under_way ∙ setting-later old now h.later)) mendable

pub again-in_time : (plan : Plan) (old now mid new : WorldView) → IsBegun plan old now → IsHit plan.most_records now mid → RecoversInTime mid new → RecoversInTime old new
again-in_time plan old now mid new h hit g recovery le heals =
    let s : setting_in now ≡ setting_in old = setting-later old now h.later in
    let t : setting_in mid ≡ setting_in now = setting-way now mid hit.under_way in
    let mark : (state_of mid).mark ≡ (state_of old).mark = (run_way now mid hit.under_way).mark ∙ ap (λ (st : State). st.mark) h.state in
    let rec : recovery_under (setting_in mid) (state_of mid).mark ≡ recovery_under (setting_in old) (state_of old).mark = λ i. recovery_under ((t ∙ s) i) (mark i) in
    let here : AllHeal recovery (setting_in now) mid.journal = in_time_way recovery now mid hit.under_way (subst (λ z. AllHeal recovery z now.journal) (sym s) (h.in_time recovery le heals)) in
    subst (λ z. AllHeal recovery z new.journal) (t ∙ s) (g recovery (omega (arith, rec, le)) (subst (λ z. AllHeal recovery z mid.journal) (sym t) here))

pub again-going : (plan : Plan) (old now mid new : WorldView) → IsBegun plan old now → IsHit plan.most_records now mid → KeepsGoing mid new → KeepsGoing old new
again-going plan old now mid new h hit g =
    let s : setting_in mid ≡ setting_in now = setting-way now mid hit.under_way in
    going-then plan old now new h (λ goes. subst (λ z. GoesRightly z new.journal) s (g (subst (λ z. GoesRightly z mid.journal) (sym s) (going_way now mid h.rest hit.under_way goes))))

pub again-short : (plan : Plan) (old now mid new : WorldView) → IsBegun plan old now → IsHit plan.most_records now mid → ((phase : ℕ) → KeepsShort phase mid new) → (phase : ℕ) → plan.most_records ≤ phase → KeepsShort phase old new
again-short plan old now mid new h hit g phase le short = g phase (short_way phase now mid hit.under_way (h.short phase le short))

-- what is measured at the last commit is so where the phase begins again
measured_here : (plan : Plan) (old now : WorldView) → IsAtRest old → IsBegun plan old now → IsMeasured (setting_in old) (rest_of old) → IsMeasured (setting_in now) (rest_of now)
measured_here plan old now rest h measured =
    let same : rest_of now ≡ with_spawned (rest_of old) (state_of now).spawned = at_rest now h.rest.last ∙ (h.state ∙ ap (λ st. with_spawned st (state_of now).spawned) (sym (at_rest old rest.last))) in
    subst (λ s. IsMeasured s (rest_of now)) (sym (setting-later old now h.later)) (subst (λ st. IsMeasured (setting_in old) st) (sym same) (measured_spawned (setting_in old) (rest_of old) (state_of now).spawned measured))

holds_here : (plan : Plan) (old now new : WorldView) → IsAtRest old → IsBegun plan old now → HoldsWords now new → HoldsWords old new
holds_here plan old now new rest h g measured = holds_then old now new (setting-later old now h.later) (h.holds measured) (g (measured_here plan old now rest h measured))

pub driven_holds : (plan : Plan) (old now new : WorldView) → IsAtRest old → IsBegun plan old now → HoldsDriven now new → HoldsDriven old new
driven_holds plan old now new rest h g there = holds_here plan old now new rest h (g (subst (λ s. IsMeasured s (state_of new)) (sym (setting-later old now h.later)) there))

pub again_holds : (plan : Plan) (old now mid new : WorldView) → IsAtRest old → IsBegun plan old now → IsHit plan.most_records now mid → HoldsWords now mid → HoldsWords mid new → HoldsWords old new
again_holds plan old now mid new rest h hit g k = holds_here plan old now new rest h (words_then now mid new hit.under_way g k)

-- one attempt, where it is the last
pub driven-all : (plan : Plan) (progress : Progress) (old now new : WorldView) → IgnoresSpawns plan → IsBegun plan old now → IsStraight plan progress now new → IsDriven plan progress old new × IsPaid plan old new plan.most_records
driven-all plan progress old now new ignores h g =
    let s : setting_in now ≡ setting_in old = setting-later old now h.later in
    let x = g.driven in (
      record {
        later = later-then old now new h.later x.later;
        ended = x.ended;
        before = x.before;
        commit = x.commit;
        effect = subst (λ z. plan.Effect z (state_of old) progress.takes (state_of new)) s
            (ignores.effect (setting_in now) (state_of old) (state_of new) progress.takes (state_of now).spawned (subst (λ st. plan.Effect (setting_in now) st progress.takes (state_of new)) h.state x.effect));
        committed = x.committed ∙ ap (λ (st : State). st.committed ++ progress.takes) h.state;
        mark = x.mark;
        rest = x.rest;
      },
      λ most recovery a b. straight_pays (numbered old.journal) (ahead (setting_in old) old.journal) (numbered now.journal) (ahead (setting_in old) now.journal) (numbered new.journal) (ahead (setting_in old) new.journal) plan.most_records (most + recovery)
          (h.paid most recovery a b) g.few (fewer-later (setting_in old) now new x.later),
    )
  where
    straight_pays : (n0 a0 n1 a1 n2 a2 m c : ℕ) → n1 + a1 * c ≤ n0 + a0 * c + 0 → n2 ≤ n1 + m → a2 ≤ a1 → n2 + a2 * c ≤ n0 + a0 * c + m
    straight_pays n0 a0 n1 a1 n2 a2 m c paid few less = omega (arith, paid, few, times a2 a1 c less)
      where
        times : (a b c : ℕ) → a ≤ b → a * c ≤ b * c
        times a b c le = let e : b ≡ a + (b - a) = omega (arith, le) in rw e (omega arith)

-- one attempt, where a loss came in it
pays_again : (n0 a0 n1 a1 n2 a2 n3 a3 m r most recovery : ℕ) → n1 + a1 * (most + recovery) ≤ n0 + a0 * (most + recovery) + 0 → n2 ≤ n1 + m → a2 ≤ a1 → n3 + a3 * r ≤ n2 + a2 * r → a3 < a2 → m ≤ most → r ≤ recovery
    → n3 + a3 * (most + recovery) ≤ n0 + a0 * (most + recovery) + 0
pays_again n0 a0 n1 a1 n2 a2 n3 a3 m r most recovery paid few less heals fewer lm lr =
    let e1 : a1 ≡ a3 + 1 + (a2 - suc a3) + (a1 - a2) = omega (arith, less, fewer) in
    let e2 : a2 ≡ a3 + 1 + (a2 - suc a3) = omega (arith, fewer) in
    let e3 : most ≡ m + (most - m) = omega (arith, lm) in
    let e4 : recovery ≡ r + (recovery - r) = omega (arith, lr) in
    core (a2 - suc a3) (a1 - a2) (most - m) (recovery - r) e1 e2 e3 e4
  where
    core : (x y p q : ℕ) → a1 ≡ a3 + 1 + x + y → a2 ≡ a3 + 1 + x → most ≡ m + p → recovery ≡ r + q → n3 + a3 * (most + recovery) ≤ n0 + a0 * (most + recovery) + 0
    core x y p q e1 e2 e3 e4 =
        let k : a1 * (most + recovery) ≡ (a3 + 1 + x + y) * ((m + p) + (r + q)) = λ i. e1 i * (e3 i + e4 i) in
        let j : a3 * (most + recovery) ≡ a3 * ((m + p) + (r + q)) = λ i. a3 * (e3 i + e4 i) in
        let l : a2 * r ≡ (a3 + 1 + x) * r = λ i. e2 i * r in
        omega (arith, paid, few, heals, k, j, l)

again_paid : (plan : Plan) (old now mid new : WorldView) → IsBegun plan old now → IsHit plan.most_records now mid → IsLater mid new → ahead (setting_in mid) new.journal < ahead (setting_in mid) mid.journal → Recovers mid new → IsPaid plan old new 0
again_paid plan old now mid new h hit later fewer heals most recovery a b =
    let s : setting_in now ≡ setting_in old = setting-later old now h.later in
    let t : setting_in mid ≡ setting_in old = setting-way now mid hit.under_way ∙ s in
    let mark : (state_of mid).mark ≡ (state_of old).mark = (run_way now mid hit.under_way).mark ∙ ap (λ (st : State). st.mark) h.state in
    let rec : recovery_under (setting_in mid) (state_of mid).mark ≡ recovery_under (setting_in old) (state_of old).mark = λ i. recovery_under (t i) (mark i) in
    let m = recovery_under (setting_in old) (state_of old).mark in
    let here : spent m (setting_in old) new.journal ≤ spent m (setting_in old) mid.journal =
    subst (λ z. spent m z new.journal ≤ spent m z mid.journal) t (subst (λ k. spent k (setting_in mid) new.journal ≤ spent k (setting_in mid) mid.journal) rec heals) in
    pays_again (numbered old.journal) (ahead (setting_in old) old.journal) (numbered now.journal) (ahead (setting_in old) now.journal) (numbered mid.journal) (ahead (setting_in old) mid.journal) (numbered new.journal) (ahead (setting_in old) new.journal)
    plan.most_records m most recovery (h.paid most recovery a b) hit.few (fewer-later (setting_in old) now mid (later-way now mid hit.under_way)) here (subst (λ z. ahead z new.journal < ahead z mid.journal) t fewer) a b

pub begun-again : (plan : Plan) (old now mid new : WorldView) → IsAtRest old → IsBegun plan old now → IsHit plan.most_records now mid → IsHealed mid new → ahead (setting_in mid) new.journal < ahead (setting_in mid) mid.journal → Recovers mid new → KeepsGoing mid new → ((phase : ℕ) → KeepsShort phase mid new) → RecoversInTime mid new → HoldsWords now mid → HoldsWords mid new → IsBegun plan old new
begun-again plan old now mid new rest h hit healed fewer heals goes short in_time held holds =
    let later = later-then old mid new (later-then old now mid h.later (later-way now mid hit.under_way)) healed.later in
    let state : state_of new ≡ with_spawned (state_of old) (state_of new).spawned = healed.same ∙ ap (λ st. with_spawned st (state_of new).spawned) (rest_way now mid hit.under_way ∙ (at_rest now h.rest.last ∙ h.state)) in
    record {
      later = later;
      rest = record { last = healed.last; rest = subst (λ s. IsRest s (state_of new)) (sym (setting-later old new later)) (subst (λ st. IsRest (setting_in old) st) (sym state) (IsRest-spawned (setting_in old) (state_of old) (state_of new).spawned rest.rest)) };
      state = state;
      paid = again_paid plan old now mid new h hit healed.later fewer heals;
      goes = again-going plan old now mid new h hit goes;
      in_time = again-in_time plan old now mid new h hit in_time;
      short = again-short plan old now mid new h hit short;
      holds = again_holds plan old now mid new rest h hit held holds;
    }

pub cut-all : (plan : Plan) (old now mid new : WorldView) (x : Drove) → IsAtRest old → IsBegun plan old now → IsHit plan.most_records now mid → IsCutAt mid new x → ahead (setting_in mid) new.journal < ahead (setting_in mid) mid.journal → Recovers mid new → IsCutAt old new x × IsPaid plan old new 0
cut-all plan old now mid new x rest h hit cut fewer heals = (
  record {
    later = later-then old mid new (later-then old now mid h.later (later-way now mid hit.under_way)) cut.later;
    fell = cut.fell;
    rest = cut.rest ∙ ap (λ st. with_spawned st (rest_of new).spawned) (rest_way now mid hit.under_way ∙ (at_rest now h.rest.last ∙ (h.state ∙ ap (λ st. with_spawned st (state_of now).spawned) (sym (at_rest old rest.last)))));
    ending = cut.ending;
  },
  again_paid plan old now mid new h hit cut.later fewer heals,
)

-- the losses ahead become fewer
pub fewer-again : (plan : Plan) (old now mid new : WorldView) → IsBegun plan old now → IsHit plan.most_records now mid → ahead (setting_in mid) new.journal < ahead (setting_in mid) mid.journal → ahead (setting_in old) new.journal < ahead (setting_in old) now.journal
fewer-again plan old now mid new h hit fewer =
    let t : setting_in mid ≡ setting_in old = setting-way now mid hit.under_way ∙ setting-later old now h.later in
    omega (arith, subst (λ z. ahead z new.journal < ahead z mid.journal) t fewer, fewer-later (setting_in old) now mid (later-way now mid hit.under_way))

-- where the run was cut short, nothing of the phase is paid
pub cut_costs : (plan : Plan) (old new : WorldView) (x : Drove) → IsPaid plan old new 0 → (x ≡ d.Done → ⊥) → IsPaid plan old new (cost_of plan x)
cut_costs plan old new d.Done paid nope = absurd (nope refl)
cut_costs plan old new (d.Beyond grid row) paid nope = paid
cut_costs plan old new (d.NoSpare rank) paid nope = paid

pub if_cut : (P P' : Type 0) (Q Q' : Drove → Type 0) → ((x : Drove) → Q x → Q' x) → (x : Drove) → (x ≡ d.Done → ⊥) → IfDrove P Q x → IfDrove P' Q' x
if_cut P P' Q Q' f d.Done nope h = absurd (nope refl)
if_cut P P' Q Q' f (d.Beyond grid row) nope h = f (d.Beyond grid row) h
if_cut P P' Q Q' f (d.NoSpare rank) nope h = f (d.NoSpare rank) h

pub cut_so : (P : Type 0) (Q : Drove → Type 0) (x : Drove) → (x ≡ d.Done → ⊥) → Q x → IfDrove P Q x
cut_so P Q d.Done nope h = absurd (nope refl)
cut_so P Q (d.Beyond grid row) nope h = h
cut_so P Q (d.NoSpare rank) nope h = h

pub cut_of : (P : Type 0) (Q : Drove → Type 0) (x : Drove) → (x ≡ d.Done → ⊥) → IfDrove P Q x → Q x
cut_of P Q d.Done nope h = absurd (nope refl)
cut_of P Q (d.Beyond grid row) nope h = h
cut_of P Q (d.NoSpare rank) nope h = h

-- ---- the site
-- where a loss came in an attempt
pub site_hit : (plan : Plan) (old now mid : WorldView) (most : ℕ) → IsBegun plan old now → IsHit most now mid → site_at mid ≡ site_at old
site_hit plan old now mid most h hit =
    let script = hit.under_way.script ∙ h.later.script in
    let mark : (state_of mid).mark ≡ (state_of old).mark = (run_way now mid hit.under_way).mark ∙ ap (λ (st : State). st.mark) h.state in
    λ i. record { script = script i; mark = mark i }

-- where the run was cut short
pub site_cut : (old new : WorldView) (x : Drove) → IsCutAt old new x → site_at new ≡ site_at old
site_cut old new x cut =
    let mark : (state_of new).mark ≡ (state_of old).mark = mark-rest new ∙ (ap (λ (st : State). st.mark) cut.rest ∙ sym (mark-rest old)) in
    λ i. record { script = cut.later.script i; mark = mark i }

-- where the phase has committed
pub site_driven : (plan : Plan) (progress : Progress) (old new : WorldView) → IsDriven plan progress old new → record (site_at old) { mark = plan.mark } ≡ site_at new
site_driven plan progress old new h = λ i. record { script = sym h.later.script i; mark = sym h.mark i }
