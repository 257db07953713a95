-- What the answers of the phase make of its progress, and how many calls there are.
use Rattle.std.proofs.Common.{◌≡◌, ◌+◌, ◌-◌, ◌*◌, ◌<◌, ◌≤◌, ◌==◌, ◌^◌, ℕ, Bool, true, false, nat_lt, Option, None, [], sym, ap, subst, ◌∙◌, ⊎_elim, arith}
use Rattle.std.specs.Prelude.{if◌then◌else◌}
use Rattle.std.proofs.lemmas.Bool.{cases_lt, lt-ltb, ltb-true, le-ltb}
use Rattle.std.proofs.lemmas.Nat.{mul-le}
use Rattle.array_desc.proofs.GroupLaws.{groups-reached}
use Rattle.run_data.specs.Matrix.{Matrix}
use Rattle.rank_machine.specs.declared.slot.Tile.{Tile}
use Rattle.rank_machine.specs.declared.layout.Layout.{Layout}
use Rattle.rank_machine.specs.Setting.{group_count}
use Rattle.script_lines.specs.Layouts.{IsLayout}
use Rattle.phases.specs.declared.phase.Next.{Next}
use Rattle.phases.specs.declared.phase.Next.TheVariants as n
use Rattle.phases.specs.Plans.{after_next}
use Rattle.feed_laws.specs.Feeding.{feeds, rounds, records_after, feed_at, code_of, answer_of, feed_progress}
use Rattle.feed_laws.proofs.Numbers.{after_feed, after_round, after_end, records_exact}
use Rattle.feed_laws.proofs.Caps.{encode_steps}

pub feed_progresses : (K : Type 0) (inverse : ℕ → ℕ) (d : Layout) (file : Matrix) (line calls : ℕ) (taken : Option Tile)
    → feed_progress d (calls + 1) ≡ after_next {K = K} line (feed_progress d calls) taken (answer_of inverse d file line calls)
feed_progresses K inverse d file line calls taken =
    let P : Next K → Type 0 = λ next. feed_progress d (calls + 1) ≡ after_next {K = K} line (feed_progress d calls) taken next in
    let coded : Next K = if nat_lt (calls - feeds d) (rounds d) then code_of inverse d line (calls - feeds d) else n.End in
    ⊎_elim
    (λ (lt : calls < feeds d).
    subst P (sym (ap (λ b. if b then feed_at d file line calls else coded) (lt-ltb calls (feeds d) lt)))
    (λ i. record { takes = []; asked = None; nexts = calls + 1; records = after_feed d calls lt i; ended = le-ltb (feeds d + rounds d) (calls + 1) (omega (arith, lt)) i }))
    (λ (le : feeds d ≤ calls).
    subst P (sym (ap (λ b. if b then feed_at d file line calls else coded) (le-ltb calls (feeds d) le)))
    (⊎_elim
    (λ (lt : calls - feeds d < rounds d).
    subst P (sym (ap (λ b. if b then code_of inverse d line (calls - feeds d) else n.End) (lt-ltb (calls - feeds d) (rounds d) lt)))
    (λ i. record { takes = []; asked = None; nexts = calls + 1; records = (after_round d calls le lt ∙ ap (λ m. records_after d calls + m) (sym (encode_steps inverse d line (calls - feeds d)))) i; ended = le-ltb (feeds d + rounds d) (calls + 1) (omega (arith, le, lt)) i }))
    (λ (none : rounds d ≤ calls - feeds d).
    subst P (sym (ap (λ b. if b then code_of inverse d line (calls - feeds d) else n.End) (le-ltb (calls - feeds d) (rounds d) none)))
    (λ i. record { takes = []; asked = None; nexts = calls + 1; records = (after_end d calls le none ∙ (let z : records_after d calls ≡ records_after d calls + 0 = omega arith in z)) i; ended = lt-ltb (feeds d + rounds d) (calls + 1) (omega (arith, le, none)) i }))
    (cases_lt (calls - feeds d) (rounds d))))
    (cases_lt calls (feeds d))

-- ---- few calls
pub groups_few : (d : Layout) → IsLayout d → group_count d ≤ 1024
groups_few d h =
    let some_nb : 0 < d.desc.nb = omega (arith, h.desc.some_block_columns) in
    let some_q : 0 < d.grid.q = omega (arith, h.grid.some_columns) in
    let top : d.desc.n ≤ 1024 = h.desc.columns in
    ⊎_elim
    (λ (lt : 1024 < group_count d).
    let a : 1024 * d.grid.q * d.desc.nb < d.desc.n = (groups-reached d.desc.n d.desc.nb d.grid.q some_nb some_q 1024).0 lt in
    let b = mul-le 1024 1 1024 d.grid.q (omega arith) (omega (arith, some_q)) in
    let c = mul-le (1024 * 1) 1 (1024 * d.grid.q) d.desc.nb b (omega (arith, some_nb)) in
    absurd (omega (arith, a, c, top)))
    (λ (le : group_count d ≤ 1024). le)
    (cases_lt 1024 (group_count d))

pub feeds_few : (d : Layout) → IsLayout d → feeds d + rounds d + 1 < 2 ^ 32
feeds_few d h =
    let g = groups_few d h in
    let p : d.grid.p ≤ 16 = h.grid.rows in
    let q : d.grid.q ≤ 16 = h.grid.columns in
    let a = mul-le (group_count d) d.grid.p 1024 16 g p in
    let b = mul-le (group_count d * d.grid.p) d.grid.q (1024 * 16) 16 a q in
    let r : rounds d ≤ group_count d = less (d.grid.f == 0) (group_count d) in
    omega (arith, b, r, g)
  where
    less : (x : Bool) (m : ℕ) → (if x then 0 else m) ≤ m
    less true m = omega arith
    less false m = omega arith

-- at its end the phase has made, with its commit, exactly so many records
pub records_at_end : (d : Layout) (calls : ℕ) → (feed_progress d calls).ended ≡ true → (feed_progress d calls).records + 1 ≡ d.grid.p * group_count d * (d.grid.q + d.grid.f * (3 * d.grid.q + 1)) + 1
records_at_end d calls e = records_exact d calls (let lt = ltb-true (feeds d + rounds d) calls e in omega (arith, lt))
