-- Where losses leave time between them, and there are spares for all of them, a run is never cut short.
use Rattle.std.proofs.Common.{◌≡◌, ◌<◌, ◌≤◌, ◌&&◌, ℕ, zero, suc, Bool, true, false, nat_lt, List, [], ◌∷◌, ◌++◌, Option, Some, None, length, refl, sym, ap, ◌∙◌, arith}
use Rattle.std.specs.Prelude.{if◌then◌else◌}
use Rattle.std.proofs.lemmas.List.{append_assoc}
use Rattle.std.proofs.lemmas.Bool.{and_parts, ltb-true, true≢false}
use Rattle.field_core.specs.Sums.{sum_to}
use Rattle.field_core.proofs.Sums.{sum_to-none, sum_to-suc}
use Rattle.blacs_grid.specs.declared.Grid.{Grid}
use Rattle.blacs_grid.specs.Places.{width, rank_at}
use Rattle.rank_machine.specs.declared.record.Rec.{Rec}
use Rattle.rank_machine.specs.declared.record.Loss.{Loss}
use Rattle.rank_machine.specs.Setting.{Setting, grid_numbered}
use Rattle.rank_machine.specs.State.{State}
use Rattle.rank_machine.specs.Effect.{state_after}
use Rattle.rank_machine.specs.Losses.{AreDue, lost_in, holds_live, is_beyond_at, LacksSpareOf}
use Rattle.run_laws.specs.Cuts.{NoneGoesTooFar}
use Rattle.run_laws.specs.Traces.{AllHeal}
use Rattle.run_laws.proofs.Going.{within_none}
use Rattle.loss_bursts.specs.Bursts.{in_time, AreClose, is_hit, hits_in, IsBurst, AreSurvivable, HasSparesOf}
use Rattle.rank_machine.specs.Legal.{IsLegal}
use Rattle.loss_bursts.proofs.Spared.{none-lacks}
use Rattle.loss_bursts.proofs.Sorted.{losses_told, losses_told-sorted}
use Rattle.loss_bursts.proofs.Scanned.{IsScanned, scanned}
use Rattle.loss_bursts.proofs.Bursts.{AreHitBy, in-burst}

sum_most : (n : ℕ) (f g : ℕ → ℕ) → ((k : ℕ) → f k ≤ g k) → sum_to n f ≤ sum_to n g
sum_most zero f g h = rw (sum_to-none f, sum_to-none g) (omega arith)
sum_most (suc n) f g h = rw (sum_to-suc n f, sum_to-suc n g) (omega (arith, sum_most n f g h, h n))

one_most : (a b : Bool) → (a ≡ true → b ≡ true) → (if a then 1 else 0) ≤ (if b then 1 else 0)
one_most true b h = rw (h refl) (omega arith)
one_most false b h = omega arith

-- what counts as lost was hit by a burst
lost_most : (st : State) (g : Grid) (row : ℕ) (burst : List Loss) → ((rank : ℕ) → st.lost rank ≡ true → is_hit burst rank ≡ true) → lost_in st g row ≤ hits_in burst g row
lost_most st g row burst h =
    sum_most (width g) (λ col. if st.lost (rank_at g row col) then 1 else 0) (λ col. if is_hit burst (rank_at g row col) then 1 else 0)
    (λ col. one_most (st.lost (rank_at g row col)) (is_hit burst (rank_at g row col)) (h (rank_at g row col)))

-- where losses are survivable, and healed commits come in time, no row is ever beyond repair
pub never-beyond : (s : Setting) (recovery : ℕ) (cut : Bool) (journal : List Rec) (number row : ℕ) → AreDue s cut journal → NoneGoesTooFar s journal → AllHeal recovery s journal → AreSurvivable s recovery
    → is_beyond_at s (state_after s journal) number row ≡ true → ⊥
never-beyond s recovery cut journal number row due goes heals can here =
    let st : State = state_after s journal in
    let g : Grid = grid_numbered s number in
    let scan : IsScanned s recovery journal (losses_told 0 journal) = scanned s recovery journal goes heals in
    let sorted : (later : List Loss) × (in_time s.losses ≡ losses_told 0 journal ++ later) = losses_told-sorted s.losses cut journal due in
    let whole : in_time s.losses ≡ scan.earlier ++ (scan.part ++ sorted.0) = sorted.1 ∙ (ap (λ ls. ls ++ sorted.0) scan.whole ∙ append_assoc scan.earlier scan.part sorted.0) in
    let parts : ((nat_lt number (length s.grids) && nat_lt row g.p) ≡ true) × ((nat_lt g.f (lost_in st g row) && holds_live s st number) ≡ true) =
    and_parts (nat_lt number (length s.grids) && nat_lt row g.p) (nat_lt g.f (lost_in st g row) && holds_live s st number) here in
    let places : (nat_lt number (length s.grids) ≡ true) × (nat_lt row g.p ≡ true) = and_parts (nat_lt number (length s.grids)) (nat_lt row g.p) parts.0 in
    let many : (nat_lt g.f (lost_in st g row) ≡ true) × (holds_live s st number ≡ true) = and_parts (nat_lt g.f (lost_in st g row)) (holds_live s st number) parts.1 in
    some_part scan.part scan.earlier sorted.0 whole (ltb-true number (length s.grids) places.0) (ltb-true row g.p places.1) (ltb-true g.f (lost_in st g row) many.0) scan.close scan.lost
  where
    some_part : (part earlier later : List Loss) → in_time s.losses ≡ earlier ++ (part ++ later) → number < length s.grids → row < (grid_numbered s number).p
        → (grid_numbered s number).f < lost_in (state_after s journal) (grid_numbered s number) row → AreClose recovery part → ((rank : ℕ) → (state_after s journal).lost rank ≡ is_hit part rank) → ⊥
    some_part [] earlier later whole there place many close lost = true≢false (sym here ∙ within_none s (state_after s journal) lost number row)
    some_part (l ∷ ls) earlier later whole there place many close lost =
        let found : (burst : List Loss) × IsBurst recovery s.losses burst × AreHitBy (l ∷ ls) burst = in-burst recovery s.losses earlier (l ∷ ls) later whole tt close in
        let few : lost_in (state_after s journal) (grid_numbered s number) row ≤ hits_in found.0 (grid_numbered s number) row = lost_most (state_after s journal) (grid_numbered s number) row found.0 (λ rank e. found.2 rank (sym (lost rank) ∙ e)) in
        absurd (omega (arith, few, many, can found.0 number row found.1 there place))

-- where there are spares for all losses no rank lacks one
pub never-lacks : (s : Setting) (cut : Bool) (journal : List Rec) (rank : ℕ) (spares : Option ℕ) → IsLegal s journal → AreDue s cut journal → HasSparesOf spares (length s.losses) → LacksSpareOf spares s (state_after s journal) rank → ⊥
never-lacks s cut journal rank None legal due enough lacks = lacks
never-lacks s cut journal rank (Some n) legal due enough lacks = none-lacks s cut journal n rank legal due enough lacks
