-- Things of a setting that are healed one by one, as they are counted from 0.
use Rattle.std.proofs.Common.{◌≡◌, ◌+◌, ◌-◌, ◌≤◌, ◌<◌, ℕ, ap, subst, below_more, arith}
use Rattle.field_core.specs.Sums.{sum_to}
use Rattle.field_core.proofs.Sums.{sum_to-more, sum_to-split}
use Rattle.rank_machine.specs.declared.mark.Mark.{Mark}
use Rattle.rank_machine.specs.Setting.{Setting}
use Rattle.rank_machine.specs.State.{State}
use Rattle.block_world.specs.World.{WorldView, setting_in, state_of}
use Rattle.block_world.specs.declared.world.Did.{Did}
use Rattle.block_world.specs.declared.world.Did.TheVariants as did
use Rattle.world_heal.specs.Ways.{IfDone, IsUnderWay, rest_of}
use Rattle.world_heal.specs.Mended.{IsMending, KeepsHealed, HasMended, IsHitMending}
use Rattle.world_heal.proofs.Ways.{setting-way, rest_way}
use Rattle.world_heal.proofs.Steps.{Healed, mended-none, mended-then, mended-so, hit-then}

-- ---- which of two outcomes came
module _ (most : ℕ) (P : Healed) (w w' : WorldView) where
  pub at_done : (d : Did) → d ≡ did.Done → IfDone (HasMended most P w w') (IsHitMending most w w') d → HasMended most P w w'
  at_done d e h = subst (λ x. IfDone (HasMended most P w w') (IsHitMending most w w') x) e h

  pub at_hit : (d : Did) → d ≡ did.Hit → IfDone (HasMended most P w w') (IsHitMending most w w') d → IsHitMending most w w'
  at_hit d e h = subst (λ x. IfDone (HasMended most P w w') (IsHitMending most w w') x) e h

-- what is said of the setting and the last mark of a world under way is said of those where it began
pub said-before : (a b : WorldView) (P : Setting → Mark → Type 0) → IsUnderWay a b → P (setting_in b) (rest_of b).mark → P (setting_in a) (rest_of a).mark
said-before a b P u h = subst (λ s. P s (rest_of a).mark) (setting-way a b u) (subst (λ (last : State). P (setting_in b) last.mark) (rest_way a b u) h)

-- each of the things before a place is healed
abbrev pub AllBelow : (ℕ → Healed) → ℕ → Setting → State → State → Type 0
AllBelow P n s last now = (i : ℕ) → i < n → P i s last now

sum-grows : (f : ℕ → ℕ) (m n : ℕ) → m ≤ n → sum_to m f ≤ sum_to n f
sum-grows f m n le =
    let long : m + (n - m) ≡ n = omega arith in
    omega (arith, sum_to-split m (n - m) f, ap (λ k. sum_to k f) long)

-- the records of a thing, and what it is to be healed
module _ (most : Setting → Mark → ℕ → ℕ) (P : ℕ → Healed) where
  abbrev pub most_before : WorldView → ℕ → ℕ
  most_before w n = sum_to n (most (setting_in w) (rest_of w).mark)

  pub none-yet : (w : WorldView) → IsMending w → HasMended (most_before w 0) (AllBelow P 0) w w
  none-yet w h = mended-so w w 0 (most_before w 0) (AllBelow P 0) (AllBelow P 0) (mended-none w (AllBelow P 0) h (λ i lt. absurd (omega arith))) (omega arith) (λ x. x)

  same-most : (a b : WorldView) (i : ℕ) → IsUnderWay a b → most (setting_in b) (rest_of b).mark i ≡ most (setting_in a) (rest_of a).mark i
  same-most a b i u = λ j. most (setting-way a b u j) (rest_way a b u j).mark i

  pub one-more : ((i : ℕ) (s : Setting) (last before now : State) → KeepsHealed s last before now → P i s last before → P i s last now) → (a b c : WorldView) (i : ℕ)
      → HasMended (most_before a i) (AllBelow P i) a b → HasMended (most (setting_in b) (rest_of b).mark i) (P i) b c → HasMended (most_before a (i + 1)) (AllBelow P (i + 1)) a c
  one-more stays a b c i h k =
      let here = most (setting_in b) (rest_of b).mark i in
      let all = mended-then a b c (most_before a i) here (AllBelow P i) (P i) (AllBelow P (i + 1)) h k
      (λ before keeps now. below_more (λ j. P j (setting_in a) (rest_of a) (state_of c)) i (λ j lt. stays j (setting_in a) (rest_of a) (state_of b) (state_of c) keeps (before j lt)) now) in
      mended-so a c (most_before a i + here) (most_before a (i + 1)) (AllBelow P (i + 1)) (AllBelow P (i + 1)) all
      (omega (arith, same-most a b i h.under_way, sum_to-more i (most (setting_in a) (rest_of a).mark))) (λ x. x)

  -- a loss comes among the records of a thing
  pub one-hit : (a b c : WorldView) (i n : ℕ) → i < n → HasMended (most_before a i) (AllBelow P i) a b → IsHitMending (most (setting_in b) (rest_of b).mark i) b c → IsHitMending (most_before a n) a c
  one-hit a b c i n lt h hit =
      hit-then a b c (most_before a i) (most (setting_in b) (rest_of b).mark i) (most_before a n) (AllBelow P i) h hit
      (omega (arith, same-most a b i h.under_way, sum_to-more i (most (setting_in a) (rest_of a).mark), sum-grows (most (setting_in a) (rest_of a).mark) (i + 1) n (omega (arith, lt))))
