-- The numbers of strips, and how many records there are.
use Rattle.std.proofs.Common.{◌≡◌, ◌+◌, ◌-◌, ◌*◌, ◌/◌, ◌%◌, ◌<◌, ◌≤◌, ◌==◌, ℕ, true, false, sym, ap, ◌∙◌, ⊎_elim, arith}
use Rattle.std.specs.Prelude.{if◌then◌else◌, min}
use Rattle.std.proofs.lemmas.Bool.{cases_Bool, eqb-true}
use Rattle.std.proofs.lemmas.Nat.{mul-add-lt, div-mul-add, mod-mul-add, div-add-mod', div_below, mod_below, mul-le}
use Rattle.rank_machine.specs.declared.layout.Layout.{Layout}
use Rattle.rank_machine.specs.Setting.{group_count}
use Rattle.feed_laws.specs.Feeding.{feeds, rounds, strip_number, steps_of_round, records_after, feed_records}

-- ---- places
pub number_below : (d : Layout) (group row col : ℕ) → group < group_count d → row < d.grid.p → col < d.grid.q → strip_number d group row col < feeds d
number_below d group row col hg hr hc =
    let a = mul-add-lt group d.grid.p row (group_count d) hg hr in
    let b = mul-add-lt (group * d.grid.p + row) d.grid.q col (d.grid.p * group_count d) a hc in
    let c : d.grid.q * (d.grid.p * group_count d) ≡ group_count d * d.grid.p * d.grid.q = omega arith in
    omega (arith, b, c)

pub group_at : (d : Layout) (i : ℕ) → 0 < d.grid.p → 0 < d.grid.q → i < feeds d → i / d.grid.q / d.grid.p < group_count d
group_at d i hp hq h = div_below (i / d.grid.q) d.grid.p (group_count d) hp (div_below i d.grid.q (group_count d * d.grid.p) hq h)

pub row_at : (d : Layout) (i : ℕ) → 0 < d.grid.p → i / d.grid.q % d.grid.p < d.grid.p
row_at d i hp = mod_below (i / d.grid.q) d.grid.p hp

pub col_at : (d : Layout) (i : ℕ) → 0 < d.grid.q → i % d.grid.q < d.grid.q
col_at d i hq = mod_below i d.grid.q hq

-- the number of the place of a number
pub number_back : (d : Layout) (i : ℕ) → strip_number d (i / d.grid.q / d.grid.p) (i / d.grid.q % d.grid.p) (i % d.grid.q) ≡ i
number_back d i = ap (λ n. n * d.grid.q + i % d.grid.q) (div-add-mod' (i / d.grid.q) d.grid.p) ∙ div-add-mod' i d.grid.q

-- the place of the number of a place
pub place_back : (d : Layout) (group row col i : ℕ) → row < d.grid.p → col < d.grid.q → strip_number d group row col ≡ i → (i / d.grid.q / d.grid.p ≡ group) × (i / d.grid.q % d.grid.p ≡ row) × (i % d.grid.q ≡ col)
place_back d group row col i hr hc e =
    let a : i / d.grid.q ≡ group * d.grid.p + row = ap (λ n. n / d.grid.q) (sym e) ∙ div-mul-add (group * d.grid.p + row) d.grid.q col hc in (
      ap (λ n. n / d.grid.p) a ∙ div-mul-add group d.grid.p row hr,
      ap (λ n. n % d.grid.p) a ∙ mod-mul-add group d.grid.p row hr,
      ap (λ n. n % d.grid.q) (sym e) ∙ mod-mul-add (group * d.grid.p + row) d.grid.q col hc,
    )

-- ---- records
pub round_steps : (d : Layout) → rounds d * steps_of_round d ≡ group_count d * steps_of_round d
round_steps d =
    ⊎_elim
    (λ (e : (d.grid.f == 0) ≡ true).
    let none : d.grid.f ≡ 0 = eqb-true d.grid.f 0 e in
    let a : rounds d ≡ 0 = ap (λ b. if b then 0 else group_count d) e in
    let b : steps_of_round d ≡ d.grid.p * (0 * (1 + 3 * d.grid.q)) = ap (λ f. d.grid.p * (f * (1 + 3 * d.grid.q))) none in
    let c : rounds d * steps_of_round d ≡ 0 * steps_of_round d = ap (λ n. n * steps_of_round d) a in
    let z : group_count d * steps_of_round d ≡ group_count d * (d.grid.p * (0 * (1 + 3 * d.grid.q))) = ap (λ n. group_count d * n) b in
    c ∙ (let zero_left : 0 * steps_of_round d ≡ group_count d * (d.grid.p * (0 * (1 + 3 * d.grid.q))) = omega arith in zero_left) ∙ sym z)
    (λ (e : (d.grid.f == 0) ≡ false). ap (λ b. (if b then 0 else group_count d) * steps_of_round d) e)
    (cases_Bool (d.grid.f == 0))

pub whole : (d : Layout) → feeds d + group_count d * steps_of_round d + 1 ≡ feed_records d
whole d = omega arith

-- no more than these, and exactly these at the end
pub records_few : (d : Layout) (calls : ℕ) → records_after d calls + 1 ≤ feed_records d
records_few d calls =
    let k = min (calls - feeds d) (rounds d) in
    let low : k ≤ rounds d = omega arith in
    let m : k * steps_of_round d ≤ rounds d * steps_of_round d = mul-le k (steps_of_round d) (rounds d) (steps_of_round d) low (omega arith) in
    let some : min calls (feeds d) ≤ feeds d = omega arith in
    let r = round_steps d in
    let w = whole d in
    omega (arith, m, some, r, w)

pub records_exact : (d : Layout) (calls : ℕ) → feeds d + rounds d ≤ calls → records_after d calls + 1 ≡ feed_records d
records_exact d calls h =
    let all : min calls (feeds d) ≡ feeds d = omega (arith, h) in
    let k : min (calls - feeds d) (rounds d) ≡ rounds d = omega (arith, h) in
    let m : min (calls - feeds d) (rounds d) * steps_of_round d ≡ rounds d * steps_of_round d = ap (λ n. n * steps_of_round d) k in
    let r = round_steps d in
    let w = whole d in
    omega (arith, all, m, r, w)

pub after_feed : (d : Layout) (calls : ℕ) → calls < feeds d → records_after d (calls + 1) ≡ records_after d calls + 1
after_feed d calls h =
    let a : min (calls + 1) (feeds d) ≡ calls + 1 = omega (arith, h) in
    let b : min calls (feeds d) ≡ calls = omega (arith, h) in
    let x : (calls + 1) - feeds d ≡ calls - feeds d = omega (arith, h) in
    let y : min ((calls + 1) - feeds d) (rounds d) * steps_of_round d ≡ min (calls - feeds d) (rounds d) * steps_of_round d = ap (λ n. min n (rounds d) * steps_of_round d) x in
    omega (arith, a, b, y)

pub after_round : (d : Layout) (calls : ℕ) → feeds d ≤ calls → calls - feeds d < rounds d → records_after d (calls + 1) ≡ records_after d calls + steps_of_round d
after_round d calls h lt =
    let a : min (calls + 1) (feeds d) ≡ min calls (feeds d) = omega (arith, h) in
    let x : min ((calls + 1) - feeds d) (rounds d) ≡ min (calls - feeds d) (rounds d) + 1 = omega (arith, h, lt) in
    let y : min ((calls + 1) - feeds d) (rounds d) * steps_of_round d ≡ (min (calls - feeds d) (rounds d) + 1) * steps_of_round d = ap (λ n. n * steps_of_round d) x in
    let z : (min (calls - feeds d) (rounds d) + 1) * steps_of_round d ≡ min (calls - feeds d) (rounds d) * steps_of_round d + steps_of_round d = omega arith in
    omega (arith, a, y, z)

pub after_end : (d : Layout) (calls : ℕ) → feeds d ≤ calls → rounds d ≤ calls - feeds d → records_after d (calls + 1) ≡ records_after d calls
after_end d calls h le =
    let a : min (calls + 1) (feeds d) ≡ min calls (feeds d) = omega (arith, h) in
    let x : min ((calls + 1) - feeds d) (rounds d) ≡ min (calls - feeds d) (rounds d) = omega (arith, h, le) in
    let y : min ((calls + 1) - feeds d) (rounds d) * steps_of_round d ≡ min (calls - feeds d) (rounds d) * steps_of_round d = ap (λ n. n * steps_of_round d) x in
    omega (arith, a, y)
