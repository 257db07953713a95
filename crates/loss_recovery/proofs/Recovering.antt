-- Losses fall, and the machine is healed.
use Rattle.std.proofs.Common.{◌≡◌, ◌+◌, ◌≤◌, ◌<◌, ℕ, true, List, [], ◌++◌, sym, ap, subst, ◌∙◌, arith}
use Rattle.blacs_grid.specs.declared.Grid.{Grid}
use Rattle.rank_machine.specs.declared.record.Rec.{Rec}
use Rattle.rank_machine.specs.Legal.{IsLegal, some_lost}
use Rattle.rank_machine.specs.Losses.{falls}
use Rattle.script_lines.specs.declared.lines.Line.{Line}
use Rattle.script_lines.specs.Lines.{IsTableOf, AreSound}
use Rattle.run_laws.specs.Due.{numbered, has_fallen, ahead}
use Rattle.run_laws.specs.LastCommit.{with_spawned}
use Rattle.rank_machine.specs.Setting.{Setting}
use Rattle.run_laws.specs.Cuts.{GoesRightly}
use Rattle.run_laws.proofs.LeadingBack.{back_append, back_plain}
use Rattle.run_laws.specs.Traces.{AreShort, AllHeal, AllHealSoFar, AlwaysHold, spent, recovery_under}
use Rattle.run_laws.proofs.Losing.{ahead-later}
use Rattle.run_laws.proofs.Going.{go_append, go_falls}
use Rattle.run_laws.proofs.Shorts.{short_plain}
use Rattle.run_laws.proofs.Healing.{heal-falls}
use Rattle.block_world.specs.World.{WorldView, setting_in, state_of, is_due, fallen}
use Rattle.block_world.proofs.HeldOnTheWay.{always-fallen}
use Rattle.phase_words.specs.Resting.{IsMeasured}
use Rattle.dist_matrix.specs.Site as site
use Rattle.world_heal.specs.declared.healing.Drove.{Drove}
use Rattle.world_heal.specs.Ways.{rest_of, IsLater}
use Rattle.world_heal.specs.Outcomes.{IsCutAt, IsHealed}
use Rattle.world_heal.specs.Costs.{Heals, KeepsGoing, KeepsShort, HealsInTime, HoldsWords}
use Rattle.world_heal.specs.Mended.{IsMendable, IsTable}
use Rattle.world_heal.proofs.Later.{later-then}
use Rattle.world_heal.proofs.Fallen as falling
use Rattle.loss_recovery.specs.Driven.{site_at, Recovers, RecoversInTime}

-- ---- what the site of a world knows of its setting
pub site_table : (w : WorldView) (v : site.SiteView) (table : List Line) → v ≡ site_at w → IsTableOf (site.setting_in v).jobs table → AreSound table → IsTable (setting_in w) table
site_table w v table e lines sound = record { lines = subst (λ z. IsTableOf (site.setting_in z).jobs table) e lines; sound = sound }

pub site_grids : (w : WorldView) (v : site.SiteView) (grids : List Grid) → v ≡ site_at w → grids ≡ (site.setting_in v).grids → grids ≡ (setting_in w).grids
site_grids w v grids e are = are ∙ ap (λ z. (site.setting_in z).grids) e

-- ---- a world whose losses fell
module _ (w f : WorldView) (e : f ≡ fallen w) (due : is_due w ≡ true) where
  abbrev fell : List Rec
  fell = falls (setting_in w).losses (numbered w.journal)

  setting_fell : setting_in f ≡ setting_in w
  setting_fell = ap (λ (v : WorldView). setting_in v) e

  journal_fell : f.journal ≡ w.journal ++ fell
  journal_fell = ap (λ (v : WorldView). v.journal) e

  pub mendable_fell : IsMendable (setting_in w) → IsMendable (setting_in f)
  mendable_fell h = subst IsMendable (sym setting_fell) h

  pub some_fell : IsLegal (setting_in f) f.journal → some_lost (setting_in f) (state_of f) ≡ true
  some_fell so =
      subst (λ (v : WorldView). some_lost (setting_in v) (state_of v) ≡ true) (sym e)
      (falling.some_fell (setting_in w) w.journal due (subst (λ (v : WorldView). IsLegal (setting_in v) v.journal) e so))

  rest_fell : rest_of f ≡ rest_of w
  rest_fell = ap (λ (v : WorldView). rest_of v) e ∙ falling.rest_fell (setting_in w) w.journal

  mark_fell : (state_of f).mark ≡ (state_of w).mark
  mark_fell = ap (λ (v : WorldView). (state_of v).mark) e ∙ falling.mark_fell (setting_in w) w.journal

  pub site_fell : site_at f ≡ site_at w
  site_fell = let script = ap (λ (v : WorldView). v.script) e in λ i. record { script = script i; mark = mark_fell i }

  pub now_fell : has_fallen f.journal ≡ true
  now_fell = ap has_fallen journal_fell ∙ falling.now_fell (setting_in w) w.journal due

  later_from : (new : WorldView) → IsLater f new → IsLater w new
  later_from new h = later-then w f new (record { script = ap (λ (v : WorldView). v.script) e; files = ap (λ (v : WorldView). v.files) e; added = fell; journal = journal_fell }) h

  pub healed_from : (new : WorldView) → IsHealed f new → IsHealed w new
  healed_from new h = record { later = later_from new h.later; last = h.last; same = h.same ∙ ap (λ st. with_spawned st (state_of new).spawned) rest_fell }

  pub cut_from : (new : WorldView) (x : Drove) → IsCutAt f new x → IsCutAt w new x
  cut_from new x h = record { later = later_from new h.later; fell = h.fell; rest = h.rest ∙ ap (λ st. with_spawned st (rest_of new).spawned) rest_fell; ending = h.ending }

  -- a longer run has no more losses ahead
  pub fewer_later : (new : WorldView) → IsLater f new → ahead (setting_in w) new.journal < ahead (setting_in w) w.journal
  fewer_later new h =
      let fewer : ahead (setting_in w) f.journal < ahead (setting_in w) w.journal =
      subst (λ j. ahead (setting_in w) j < ahead (setting_in w) w.journal) (sym journal_fell) (falling.fewer_fell (setting_in w) w.journal due) in
      omega (arith, fewer, ap (λ j. ahead (setting_in w) j) h.journal, ahead-later (setting_in w) f.journal h.added)

  pub recovers_from : (new : WorldView) → Heals f new → Recovers w new
  recovers_from new h =
      let m = recovery_under (setting_in w) (state_of w).mark in
      let same : recovery_under (setting_in f) (state_of f).mark ≡ m = λ i. recovery_under (setting_fell i) (mark_fell i) in
      let here : spent m (setting_in w) new.journal ≤ spent m (setting_in w) f.journal + m =
      subst (λ s. spent m s new.journal ≤ spent m s f.journal + m) setting_fell (subst (λ k. spent k (setting_in f) new.journal ≤ spent k (setting_in f) f.journal + k) same h) in
      let paid : spent m (setting_in w) f.journal + m ≤ spent m (setting_in w) w.journal =
      subst (λ j. spent m (setting_in w) j + m ≤ spent m (setting_in w) w.journal) (sym journal_fell) (falling.spent_fell (setting_in w) w.journal due m) in
      through (spent m (setting_in w) new.journal) (spent m (setting_in w) f.journal) (spent m (setting_in w) w.journal) m here paid
    where
      through : (a b c m : ℕ) → a ≤ b + m → b + m ≤ c → a ≤ c
      through a b c m x y = omega (arith, x, y)

  pub going_from : (new : WorldView) → KeepsGoing f new → KeepsGoing w new
  going_from new h goes =
      let s : Setting = setting_in w in
      let fell_so : GoesRightly s f.journal =
      subst (λ j. GoesRightly s j) (sym journal_fell)
      (record {
        may = go_append s [] w.journal fell goes.may (go_falls s w.journal s.losses (numbered w.journal));
        back = back_append s [] w.journal fell goes.back (back_plain s w.journal fell (falling.falls_plain s.losses (numbered w.journal)));
      }) in
      subst (λ z. GoesRightly z new.journal) setting_fell (h (subst (λ z. GoesRightly z f.journal) (sym setting_fell) fell_so))

  pub short_from : (new : WorldView) → ((phase : ℕ) → KeepsShort phase f new) → (phase : ℕ) → KeepsShort phase w new
  short_from new h phase short = h phase (subst (λ j. AreShort phase j) (sym journal_fell) (short_plain phase w.journal fell (falling.falls_plain (setting_in w).losses (numbered w.journal)) short))

  pub in_time_from : (new : WorldView) → HealsInTime f new → RecoversInTime w new
  in_time_from new h recovery le heals =
      let same : recovery_under (setting_in f) (state_of f).mark ≡ recovery_under (setting_in w) (state_of w).mark = λ i. recovery_under (setting_fell i) (mark_fell i) in
      let so_far : AllHealSoFar recovery (setting_in w) f.journal =
      subst (λ j. AllHealSoFar recovery (setting_in w) j) (sym journal_fell) (heal-falls recovery (setting_in w) w.journal (setting_in w).losses (numbered w.journal) (omega (arith, le)) heals) in
      subst (λ s. AllHeal recovery s new.journal) setting_fell (h recovery (omega (arith, same, le)) (subst (λ s. AllHealSoFar recovery s f.journal) (sym setting_fell) so_far))

  pub holds_from : (new : WorldView) → HoldsWords f new → HoldsWords w new
  holds_from new h measured before =
      let here : IsMeasured (setting_in f) (rest_of f) = subst (λ s. IsMeasured s (rest_of f)) (sym setting_fell) (subst (λ st. IsMeasured (setting_in w) st) (sym rest_fell) measured) in
      let now : AlwaysHold (setting_in f) f.journal = subst (λ (v : WorldView). AlwaysHold (setting_in v) v.journal) (sym e) (always-fallen w before) in
      subst (λ s. AlwaysHold s new.journal) setting_fell (h here now)
