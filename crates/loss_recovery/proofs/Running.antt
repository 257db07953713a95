-- The answers of a phase, one after another.
use Rattle.std.proofs.Common.{◌≡◌, ◌+◌, ◌-◌, ◌<◌, ◌==◌, ◌&&◌, nat_lt, is_some, ℕ, true, false, Option, Some, None, [], ◌∷◌, ◌++◌, length, refl, sym, ap, subst, ◌∙◌, arith, IsTrue}
use Rattle.std.proofs.lemmas.List.{append-nil}
use Rattle.std.proofs.lemmas.Bool.{and_parts, eqb-true, true≢false}
use Rattle.rank_machine.specs.declared.slot.Slot.{Slot}
use Rattle.rank_machine.specs.declared.slot.Tile.{Tile}
use Rattle.rank_machine.specs.Setting.{Setting}
use Rattle.rank_machine.specs.State.{State}
use Rattle.rank_machine.specs.Effect.{replay, current}
use Rattle.rank_machine.specs.Marks.{follows}
use Rattle.rank_machine.specs.Legal.{IsLegalFrom}
use Rattle.run_laws.specs.Due.{numbered}
use Rattle.run_laws.specs.LastCommit.{IsRest}
use Rattle.phases.specs.Words.{HasRoom}
use Rattle.block_world.specs.World.{WorldView, setting_in, state_of}
use Rattle.phases.specs.declared.phase.Next.{Next}
use Rattle.phases.specs.declared.phase.Next.TheVariants as n
use Rattle.phases.specs.Plans.{Plan, Progress, at_start, took_with, handed, asked_by, is_end, records_in, steps_in, after_next, Brings, GoesFurther, GoesHome, GoesAs, GoesOn}
use Rattle.world_heal.specs.Ways.{rest_of, IsUnderWay, IsHit}
use Rattle.world_heal.specs.Costs.{HoldsWords}
use Rattle.world_heal.proofs.Ways.{under_way-same, under_way-then, setting-way, round_links, round_taken, run_way}
use Rattle.loss_recovery.specs.Driven.{CanCarry, HasCarried, HoldsAlong}
use Rattle.loss_recovery.specs.Steps.{HasBegun, IsRunOut}
use Rattle.loss_recovery.proofs.Holding.{answer_holds}

-- what is kept between two answers
pub record IsRunning (plan : Plan) (Stands : Setting → State → State → Type 0) (progress : Progress) (tile : Option Tile) (old new : WorldView) : Type 0 where
  pub under_way : IsUnderWay old new
  pub stands : Stands (setting_in old) (rest_of old) (state_of new)
  pub handed_over : tile ≡ handed (state_of new) progress.asked
  pub taken : (state_of new).taken ≡ progress.takes ++ took_with plan.mark.line progress.asked tile
  pub links : (from to : ℕ) → (state_of new).links from to ≡ []
  pub mark : (state_of new).mark ≡ (rest_of old).mark
  pub count : numbered new.journal ≡ numbered old.journal + progress.records
  pub nexts : progress.nexts < plan.most_nexts

pub running-begins : (plan : Plan) (Stands : Setting → State → State → Type 0) (progress : Progress) (w : WorldView) → HasBegun w → progress ≡ at_start → 0 < plan.most_nexts → Stands (setting_in w) (rest_of w) (state_of w) → IsRunning plan Stands progress None w w
running-begins plan Stands progress w h e some stands =
    subst (λ p. IsRunning plan Stands p None w w) (sym e)
    (record { under_way = under_way-same w; stands = stands; handed_over = refl; taken = h.taken; links = h.links; mark = h.mark; count = omega arith; nexts = some })

-- the line of a phase's takes is that of its mark
line_is : (s : Setting) (plan : Plan) (st base : State) → IsTrue (follows s base.mark plan.mark) → st.mark ≡ base.mark → current s st.mark ≡ plan.mark.line
line_is s plan st base h e = ap (current s) e ∙ sym (eqb-true plan.mark.line (current s base.mark) (and_parts (nat_lt 0 plan.mark.line) (plan.mark.line == current s base.mark) (and_parts (nat_lt 0 plan.mark.line && (plan.mark.line == current s base.mark)) _ h).0).1)

took_one : (line rank : ℕ) (slot : Slot) (there tile : Option Tile) (now : ℕ) → now ≡ line → tile ≡ there → is_some there ≡ true → (record { line = now; rank = rank; slot = slot; tile = there } ∷ []) ≡ took_with line (Some (rank, slot)) tile
took_one line rank slot there None now e same some = absurd (true≢false (sym some ∙ ap is_some (sym same)))
took_one line rank slot there (Some t) now e same some = λ i. record { line = e i; rank = rank; slot = slot; tile = sym same i } ∷ []

module _ {K : Type 0} where
  carried_links : (s : Setting) (st : State) (x : Next K) → ((from to : ℕ) → st.links from to ≡ []) → (from to : ℕ) → (replay s st (records_in x)).links from to ≡ []
  carried_links s st (n.Round es) h = round_links s st es h
  carried_links s st (n.Feed rank slot m) h = h
  carried_links s st (n.Take rank slot) h = h
  carried_links s st n.End h = h

  -- the takes grow by the one that was asked for
  carried_taken : (s : Setting) (st : State) (line : ℕ) (x : Next K) (tile : Option Tile) → current s st.mark ≡ line → IsLegalFrom s st (records_in x) → tile ≡ handed (replay s st (records_in x)) (asked_by x)
      → (replay s st (records_in x)).taken ≡ st.taken ++ took_with line (asked_by x) tile
  carried_taken s st line (n.Round es) tile e legal h = round_taken s st es ∙ sym (append-nil st.taken)
  carried_taken s st line (n.Feed rank slot m) tile e legal h = sym (append-nil st.taken)
  carried_taken s st line (n.Take rank slot) tile e legal h = ap (λ ts. st.taken ++ ts) (took_one line rank slot (st.tiles rank slot) tile (current s st.mark) e h legal.0.held)
  carried_taken s st line n.End tile e legal h = sym (append-nil st.taken)

  goes_further : (plan : Plan) (Stands : Setting → State → State → Type 0) (p : Progress) (s : Setting) (base now : State) (x : Next K) → is_end x ≡ false → GoesOn plan Stands p s base now x → GoesFurther plan Stands p s base now x
  goes_further plan Stands p s base now x e h = subst (λ b. GoesAs b plan Stands p s base now x) e h.goes

  goes_home : (plan : Plan) (Stands : Setting → State → State → Type 0) (p : Progress) (s : Setting) (base now : State) (x : Next K) → is_end x ≡ true → GoesOn plan Stands p s base now x → GoesHome plan p s base now
  goes_home plan Stands p s base now x e h = subst (λ b. GoesAs b plan Stands p s base now x) e h.goes

  can_carry_in : (plan : Plan) (Stands : Setting → State → State → Type 0) (p : Progress) (s : Setting) (base now : State) (x : Next K) → GoesOn plan Stands p s base now x → Brings s x × IsLegalFrom s now (records_in x)
  can_carry_in plan Stands p s base now (n.Round es) h = let f = goes_further plan Stands p s base now (n.Round es) refl h in (f.brings, f.legal)
  can_carry_in plan Stands p s base now (n.Feed rank slot m) h = let f = goes_further plan Stands p s base now (n.Feed rank slot m) refl h in (f.brings, f.legal)
  can_carry_in plan Stands p s base now (n.Take rank slot) h = let f = goes_further plan Stands p s base now (n.Take rank slot) refl h in (f.brings, f.legal)
  can_carry_in plan Stands p s base now n.End h = (tt, tt)

  pub can_carry : (plan : Plan) (Stands Stands' : Setting → State → State → Type 0) (p p' : Progress) (tile : Option Tile) (x : Next K) (old mid : WorldView) → IsRunning plan Stands p tile old mid
      → GoesOn plan Stands' p' (setting_in old) (rest_of old) (state_of mid) x → CanCarry mid x
  can_carry plan Stands Stands' p p' tile x old mid h g =
      let may = can_carry_in plan Stands' p' (setting_in old) (rest_of old) (state_of mid) x g in
      let same : setting_in mid ≡ setting_in old = setting-way old mid h.under_way in
      record { brings = subst (λ s. Brings s x) (sym same) may.0; legal = subst (λ s. IsLegalFrom s (state_of mid) (records_in x)) (sym same) may.1; links = h.links }

  pub running_goes_on : (plan : Plan) (Stands Stands' : Setting → State → State → Type 0) (p : Progress) (tile tile' : Option Tile) (x : Next K) (old mid new : WorldView) → IsRunning plan Stands p tile old mid
      → IsTrue (follows (setting_in old) (rest_of old).mark plan.mark)
      → GoesOn plan Stands' (after_next plan.mark.line p tile x) (setting_in old) (rest_of old) (state_of mid) x → HasCarried mid new x tile' → IsRunning plan Stands' (after_next plan.mark.line p tile x) tile' old new
  running_goes_on plan Stands Stands' p tile tile' x old mid new h f g c =
      let s = setting_in old in
      let same : setting_in mid ≡ s = setting-way old mid h.under_way in
      let state : state_of new ≡ replay s (state_of mid) (records_in x) = c.come.state ∙ ap (λ z. replay z (state_of mid) (records_in x)) same in
      let further = goes_further plan Stands' (after_next plan.mark.line p tile x) s (rest_of old) (state_of mid) x c.goes_on g in
      record {
        under_way = under_way-then old mid new h.under_way c.come.under_way;
        stands = subst (λ st. Stands' s (rest_of old) st) (sym state) further.stands;
        handed_over = c.handed_over;
        taken = ap (λ (st : State). st.taken) state
            ∙ (carried_taken s (state_of mid) plan.mark.line x tile' (line_is s plan (state_of mid) (rest_of old) f h.mark) further.legal (c.handed_over ∙ ap (λ st. handed st (asked_by x)) state)
            ∙ ap (λ ts. ts ++ took_with plan.mark.line (asked_by x) tile') h.taken);
        links = λ from to. ap (λ (st : State). st.links from to) state ∙ carried_links s (state_of mid) x h.links from to;
        mark = (run_way mid new c.come.under_way).mark ∙ h.mark;
        count = omega (arith, c.come.count, h.count);
        nexts = further.nexts;
      }

  steps_at_end : (x : Next K) → is_end x ≡ true → steps_in x ≡ 0
  steps_at_end (n.Round es) e = absurd (cc)
  steps_at_end (n.Feed rank slot m) e = absurd (cc)
  steps_at_end (n.Take rank slot) e = absurd (cc)
  steps_at_end n.End e = refl

  pub running_ends : (plan : Plan) (Stands Stands' : Setting → State → State → Type 0) (p : Progress) (tile : Option Tile) (x : Next K) (old mid : WorldView) → IsRunning plan Stands p tile old mid
      → GoesOn plan Stands' (after_next plan.mark.line p tile x) (setting_in old) (rest_of old) (state_of mid) x → is_end x ≡ true → IsRunOut plan (after_next plan.mark.line p tile x) old mid
  running_ends plan Stands Stands' p tile x old mid h g e =
      let home = goes_home plan Stands' (after_next plan.mark.line p tile x) (setting_in old) (rest_of old) (state_of mid) x e g in
      record {
        under_way = h.under_way;
        ended = e;
        law = home.law;
        effect = home.effect;
        taken = h.taken;
        links = h.links;
        count = omega (arith, h.count, steps_at_end x e);
        few = g.few;
      }

  pub running_hits : (plan : Plan) (Stands Stands' : Setting → State → State → Type 0) (p : Progress) (tile : Option Tile) (x : Next K) (old mid new : WorldView) → IsRunning plan Stands p tile old mid
      → GoesOn plan Stands' (after_next plan.mark.line p tile x) (setting_in old) (rest_of old) (state_of mid) x → IsHit (steps_in x) mid new → IsHit (plan.most_records - length plan.listed) old new
  running_hits plan Stands Stands' p tile x old mid new h g hit = record {
    under_way = under_way-then old mid new h.under_way hit.under_way;
    few = omega (arith, hit.few, h.count, g.few);
    due = hit.due;
  }

  -- an answer adds no more words than there is room for, however far it was carried out
  pub running_holds : (plan : Plan) (Stands Stands' : Setting → State → State → Type 0) (p p' : Progress) (tile : Option Tile) (x : Next K) (old mid new : WorldView) → IsRunning plan Stands p tile old mid
      → IsRest (setting_in old) (rest_of old) → HasRoom plan.most_words (setting_in old) (rest_of old) → GoesOn plan Stands' p' (setting_in old) (rest_of old) (state_of mid) x → HoldsAlong (records_in x) mid new → HoldsWords old mid → HoldsWords old new
  running_holds plan Stands Stands' p p' tile x old mid new h rest room g along before = answer_holds plan Stands' p' x old mid new h.under_way h.mark rest room g along before
