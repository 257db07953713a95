-- Numbers of records are small.
use Rattle.std.proofs.Common.{ℕ, ◌+◌, ◌*◌, ◌<◌, ◌≤◌, arith, inl, inr}
use Rattle.std.proofs.lemmas.Nat.{mul-le}
use Rattle.std.proofs.lemmas.Bool.{cases_lt}
use Rattle.array_desc.specs.Maps.{groups}
use Rattle.array_desc.proofs.GroupLaws.{groups-reached}
use Rattle.script_bounds.specs.Bounds.{print_records}

pub print_records-few : (p q g : ℕ) → p ≤ 16 → q ≤ 16 → g ≤ 1024 → print_records p q g ≤ 4000000
print_records-few p q g hp hq hg =
    let strips : p * q ≤ 16 * 16 = mul-le p q 16 16 hp hq in
    let all : p * q * g ≤ 16 * 16 * 1024 = mul-le (p * q) g (16 * 16) 1024 strips hg in
    omega (arith, all)

pub matrix_recovery-few : (p g f q : ℕ) → p ≤ 16 → g ≤ 1024 → f ≤ 4 → q ≤ 16 → p * g * f * (9 * q + 9 * f + 3) < 16777216
matrix_recovery-few p g f q hp hg hf hq =
    let strips : p * g ≤ 16 * 1024 = mul-le p g 16 1024 hp hg in
    let code : p * g * f ≤ 16 * 1024 * 4 = mul-le (p * g) f (16 * 1024) 4 strips hf in
    let all : p * g * f * (9 * q + 9 * f + 3) ≤ 16 * 1024 * 4 * 183 = mul-le (p * g * f) (9 * q + 9 * f + 3) (16 * 1024 * 4) 183 code (omega arith) in
    omega (arith, all)

pub ranks-few : (p q f : ℕ) → p ≤ 16 → q ≤ 16 → f ≤ 4 → p * (q + f) ≤ 320
ranks-few p q f hp hq hf = mul-le p (q + f) 16 20 hp (omega arith)

-- there are no more groups than columns
pub groups-few : (n nb q : ℕ) → 0 < nb → 0 < q → groups n nb q ≤ n
groups-few n nb q hb hq = elim (cases_lt n (groups n nb q)) [
  | inl lt ↦
      let far : n * q * nb < n = (groups-reached n nb q hb hq n).0 lt in
      let one : n * 1 ≤ n * q = mul-le n 1 n q (omega arith) hq in
      let two : n * q * 1 ≤ n * q * nb = mul-le (n * q) 1 (n * q) nb (omega arith) hb in
      absurd (omega (arith, far, one, two))
  | inr le ↦ le
]
