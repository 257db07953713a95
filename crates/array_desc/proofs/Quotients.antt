-- Quotients and remainders of the next number and of a place in a row of blocks.
use Rattle.std.proofs.Common.{◌≡◌, ℕ, ◌+◌, ◌*◌, ◌/◌, ◌%◌, ◌<◌, ◌∙◌, arith, ◌⊎◌, inl, inr}
use Rattle.std.proofs.Math.Nat.{div-add-mod, mod-lt, mod-eq_of_lt, add-mod_left}
use Rattle.std.proofs.lemmas.Nat.{div-mul-add, mod-mul-add}
use Rattle.std.proofs.lemmas.Bool.{cases_lt}

-- where the remainder has room, the next number has the same quotient
pub div-next_inside : (n b : ℕ) → n % b + 1 < b → (n + 1) / b ≡ n / b
div-next_inside n b room =
    let split : b * (n / b) + n % b ≡ n = div-add-mod n b in
    let next : n + 1 ≡ n / b * b + (n % b + 1) = omega arith in
    rw next (div-mul-add (n / b) b (n % b + 1) room)

pub mod-next_inside : (n b : ℕ) → n % b + 1 < b → (n + 1) % b ≡ n % b + 1
mod-next_inside n b room =
    let split : b * (n / b) + n % b ≡ n = div-add-mod n b in
    let next : n + 1 ≡ n / b * b + (n % b + 1) = omega arith in
    rw next (mod-mul-add (n / b) b (n % b + 1) room)

-- after the last remainder comes the next quotient with remainder 0
pub div-next_block : (n b : ℕ) → n % b + 1 ≡ b → (n + 1) / b ≡ n / b + 1
div-next_block n b last =
    let split : b * (n / b) + n % b ≡ n = div-add-mod n b in
    let some : 0 < b = omega arith in
    let next : n + 1 ≡ (n / b + 1) * b + 0 = omega arith in
    rw next (div-mul-add (n / b + 1) b 0 some)

pub mod-next_block : (n b : ℕ) → n % b + 1 ≡ b → (n + 1) % b ≡ 0
mod-next_block n b last =
    let split : b * (n / b) + n % b ≡ n = div-add-mod n b in
    let some : 0 < b = omega arith in
    let next : n + 1 ≡ (n / b + 1) * b + 0 = omega arith in
    rw next (mod-mul-add (n / b + 1) b 0 some)

-- one or the other
pub cases_next : (n b : ℕ) → 0 < b → (n % b + 1 < b) ⊎ (n % b + 1 ≡ b)
cases_next n b some =
    let below : n % b < b = mod-lt n some in
    elim (cases_lt (n % b + 1) b) [ inl room ↦ inl room | inr over ↦ inr (omega arith) ]

-- the remainder of a number below twice the divisor
pub mod-once_round : (x b : ℕ) → x < b → (b + x) % b ≡ x
mod-once_round x b below = add-mod_left b x ∙ mod-eq_of_lt below
