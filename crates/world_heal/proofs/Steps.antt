-- Rounds of a recovery, one after another.
use Rattle.std.proofs.Common.{◌≡◌, ◌+◌, ◌≤◌, ℕ, List, length, map, sym, subst, ◌∙◌, arith}
use Rattle.std.proofs.lemmas.List.{length-map}
use Rattle.rank_run.specs.declared.round.Event.{Event}
use Rattle.rank_run.specs.declared.run.Ran.{Ran}
use Rattle.rank_run.specs.declared.run.Ran.TheVariants as ran
use Rattle.rank_run.specs.Action.{Action}
use Rattle.rank_machine.specs.declared.slot.Tile.{Tile}
use Rattle.rank_machine.specs.declared.slot.Piece.{Piece}
use Rattle.rank_machine.specs.declared.kernel.Kernel.{Kernel}
use Rattle.rank_machine.specs.Setting.{Setting}
use Rattle.rank_machine.specs.State.{State}
use Rattle.rank_machine.specs.Effect.{replay}
use Rattle.rank_machine.specs.Losses.{is_beyond_at}
use Rattle.rank_slots.specs.Rank.{Rank}
use Rattle.rank_slots.specs.Stands.{rec_of, records_of}
use Rattle.run_laws.specs.Cuts.{IsWithin}
use Rattle.run_laws.specs.Traces.{HoldFrom, AlwaysHold}
use Rattle.block_world.specs.World.{WorldView, setting_in, state_of}
use Rattle.block_world.specs.Rounds.{IsRoundOf}
use Rattle.block_world.proofs.HeldOnTheWay.{hold-listed, always-round}
use Rattle.phase_words.specs.Resting.{IsMeasured}
use Rattle.recovery_words.specs.Roomy.{IsRoomy}
use Rattle.recovery_rounds.specs.Rows.{IsHealing}
use Rattle.recovery_counts.proofs.StripCounts.{all-steps}
use Rattle.world_heal.specs.Ways.{IsUnderWay, rest_of}
use Rattle.world_heal.specs.Costs.{KeepsRoomy, HoldsMending}
use Rattle.world_heal.specs.Mended.{IsMendable, IsMending, KeepsHealed, HasMended, IsHitMending}
use Rattle.world_heal.proofs.Ways.{under_way-all, under_way-same, under_way-then, numbered-way, setting-way, run_way, rest_way}

abbrev pub Healed : Type 1
Healed = Setting → State → State → Type 0

-- ---- what is healed stays so
pub keeps-same : (s : Setting) (last now : State) → KeepsHealed s last now now
keeps-same s last now = record { rows = λ line row group live row_in group_in h. h; lists = λ line live h. h }

pub keeps-then : (s : Setting) (last a b c : State) → KeepsHealed s last a b → KeepsHealed s last b c → KeepsHealed s last a c
keeps-then s last a b c h k = record {
  rows = λ line row group live row_in group_in x. k.rows line row group live row_in group_in (h.rows line row group live row_in group_in x);
  lists = λ line live x. k.lists line live (h.lists line live x);
}

-- ---- a process row is beyond repair by the mark and the ranks that were lost
pub within_by : (s : Setting) (now then : State) → then.lost ≡ now.lost → then.mark ≡ now.mark → IsWithin s now → IsWithin s then
within_by s now then lost mark h number row = (λ i. is_beyond_at s (record now { lost = lost i; mark = mark i }) number row) ∙ h number row

pub within-way : (w w' : WorldView) → IsUnderWay w w' → IsWithin (setting_in w) (state_of w) → IsWithin (setting_in w) (state_of w')
within-way w w' u h = let run = run_way w w' u in within_by (setting_in w) (state_of w) (state_of w') run.lost run.mark h

-- the recovery goes on in a world that came from one in which it might
pub mending-way : (w w' : WorldView) → IsUnderWay w w' → IsMending w → IsHealing (setting_in w) (rest_of w) (state_of w') → IsMending w'
mending-way w w' u h healing =
    let e = setting-way w w' u in
    record {
      mendable = subst IsMendable (sym e) h.mendable;
      healing = subst (λ s. IsHealing s (rest_of w') (state_of w')) (sym e) (subst (λ last. IsHealing (setting_in w) last (state_of w')) (sym (rest_way w w' u)) healing);
      within = subst (λ s. IsWithin s (state_of w')) (sym e) (within-way w w' u h.within);
    }

-- what is said of the setting and of the last commit of a world under way is said of those where it began
from_way : (a b : WorldView) (P : Setting → State → Type 0) → IsUnderWay a b → P (setting_in b) (rest_of b) → P (setting_in a) (rest_of a)
from_way a b P u h = subst (λ s. P s (rest_of a)) (setting-way a b u) (subst (λ last. P (setting_in b) last) (rest_way a b u) h)

-- ---- one thing and then another: no rank comes to have more than the room for it, or to hold more than it may
roomy-then : (a b c : WorldView) → IsUnderWay a b → KeepsRoomy a b → KeepsRoomy b c → KeepsRoomy a c
roomy-then a b c u h k r = from_way a b (λ s last. IsRoomy s last (state_of b) → IsRoomy s last (state_of c)) u k (h r)

holds-then : (a b c : WorldView) → IsUnderWay a b → KeepsRoomy a b → HoldsMending a b → HoldsMending b c → HoldsMending a c
holds-then a b c u roomy h k r measured before =
    from_way a b (λ s last. IsRoomy s last (state_of b) → IsMeasured s last → AlwaysHold s b.journal → AlwaysHold s c.journal) u k (roomy r) measured (h r measured before)

-- ---- nothing yet, one thing and then another, and a loss that comes then
pub mended-none : (w : WorldView) (P : Healed) → IsMending w → P (setting_in w) (rest_of w) (state_of w) → HasMended 0 P w w
mended-none w P h p = record { under_way = under_way-same w; few = omega arith; mending = h; keeps = keeps-same (setting_in w) (rest_of w) (state_of w); healed = p; roomy = λ r. r; holds = λ r measured before. before }

pub mended-then : (a b c : WorldView) (m n : ℕ) (P Q R : Healed) → HasMended m P a b → HasMended n Q b c →
    (P (setting_in a) (rest_of a) (state_of b) → KeepsHealed (setting_in a) (rest_of a) (state_of b) (state_of c) → Q (setting_in a) (rest_of a) (state_of c) → R (setting_in a) (rest_of a) (state_of c)) →
    HasMended (m + n) R a c
mended-then a b c m n P Q R h k f =
    let u = h.under_way in
    let keeps : KeepsHealed (setting_in a) (rest_of a) (state_of b) (state_of c) =
    subst (λ s. KeepsHealed s (rest_of a) (state_of b) (state_of c)) (setting-way a b u) (subst (λ last. KeepsHealed (setting_in b) last (state_of b) (state_of c)) (rest_way a b u) k.keeps) in
    let q : Q (setting_in a) (rest_of a) (state_of c) =
    subst (λ s. Q s (rest_of a) (state_of c)) (setting-way a b u) (subst (λ last. Q (setting_in b) last (state_of c)) (rest_way a b u) k.healed) in
    record {
      under_way = under_way-then a b c u k.under_way;
      few = omega (arith, h.few, k.few);
      mending = k.mending;
      keeps = keeps-then (setting_in a) (rest_of a) (state_of a) (state_of b) (state_of c) h.keeps keeps;
      healed = f h.healed keeps q;
      roomy = roomy-then a b c u h.roomy k.roomy;
      holds = holds-then a b c u h.roomy h.holds k.holds;
    }

-- it may be told of more records, and of something else that is healed
pub mended-so : (a b : WorldView) (m n : ℕ) (P Q : Healed) → HasMended m P a b → m ≤ n → (P (setting_in a) (rest_of a) (state_of b) → Q (setting_in a) (rest_of a) (state_of b)) → HasMended n Q a b
mended-so a b m n P Q h le f = record { under_way = h.under_way; few = omega (arith, h.few, le); mending = h.mending; keeps = h.keeps; healed = f h.healed; roomy = h.roomy; holds = h.holds }

pub hit-then : (a b c : WorldView) (m n k : ℕ) (P : Healed) → HasMended m P a b → IsHitMending n b c → m + n ≤ k → IsHitMending k a c
hit-then a b c m n k P h x le =
    let hit = x.hit in
    record {
      hit = record { under_way = under_way-then a b c h.under_way hit.under_way; few = omega (arith, h.few, hit.few, le); due = hit.due };
      holds = holds-then a b c h.under_way h.roomy h.holds x.holds;
    }

pub hit-more : (a b : WorldView) (m n : ℕ) → IsHitMending m a b → m ≤ n → IsHitMending n a b
hit-more a b m n h le = record { hit = record { under_way = h.hit.under_way; few = omega (arith, h.hit.few, le); due = h.hit.due }; holds = h.holds }

-- ---- a round
-- its events leave no rank with more than the room, where none had more before
abbrev pub EndsRoomy : Setting → State → State → List (Event Rank Kernel Piece Tile) → Type 0
EndsRoomy s last now es = IsRoomy s last now → IsRoomy s last (replay s now (records_of es))

-- and in each state that their records lead through, each rank holds at most what it may
abbrev pub HoldsRound : Setting → State → State → List (Event Rank Kernel Piece Tile) → Type 0
HoldsRound s last now es = IsRoomy s last now → IsMeasured s last → HoldFrom s now (records_of es)

module _ (w w' : WorldView) (es : List (Event Rank Kernel Piece Tile)) (order order' : List ℕ) (noted : List (Action Kernel Piece)) (most : ℕ) (few : length (records_of es) ≤ most) where
  abbrev next : State
  next = replay (setting_in w) (state_of w) (records_of es)

  -- so it is in each state of the journal, in whatever order its steps are taken
  holds-round : (ended : Ran) → IsRoundOf w w' es order order' ended noted → IsUnderWay w w' → HoldsRound (setting_in w) (rest_of w) (state_of w) es → HoldsMending w w'
  holds-round ended run u h roomy measured before =
      subst (λ s. AlwaysHold s w'.journal) (setting-way w w' u) (always-round w w' es order order' ended noted run before (hold-listed (setting_in w) (state_of w) es (h roomy measured)))

  pub mended-round : (P : Healed) → IsRoundOf w w' es order order' ran.Whole noted → IsMending w → IsHealing (setting_in w) (rest_of w) next →
      KeepsHealed (setting_in w) (rest_of w) (state_of w) next → P (setting_in w) (rest_of w) next →
      EndsRoomy (setting_in w) (rest_of w) (state_of w) es → HoldsRound (setting_in w) (rest_of w) (state_of w) es → HasMended most P w w'
  mended-round P run h healing keeps p roomy holds =
      let u : IsUnderWay w w' = under_way-all w w' noted run.records in
      let e : next ≡ state_of w' = sym run.end.1 in
      record {
        under_way = u;
        few = omega (arith, numbered-way w w' u, counted, run.end.0, all-steps es, few);
        mending = mending-way w w' u h (subst (IsHealing (setting_in w) (rest_of w)) e healing);
        keeps = subst (KeepsHealed (setting_in w) (rest_of w) (state_of w)) e keeps;
        healed = subst (P (setting_in w) (rest_of w)) e p;
        roomy = λ r. subst (IsRoomy (setting_in w) (rest_of w)) e (roomy r);
        holds = holds-round ran.Whole run u holds;
      }
    where
      counted : length (map rec_of noted) ≡ length noted
      counted = length-map noted rec_of

  pub hit-round : IsRoundOf w w' es order order' ran.Hit noted → HoldsRound (setting_in w) (rest_of w) (state_of w) es → IsHitMending most w w'
  hit-round run holds =
      let u : IsUnderWay w w' = under_way-all w w' noted run.records in
      record {
        hit = record { under_way = u; few = omega (arith, numbered-way w w' u, length-map noted rec_of, run.end.0, all-steps es, few); due = run.end.1 };
        holds = holds-round ran.Hit run u holds;
      }
