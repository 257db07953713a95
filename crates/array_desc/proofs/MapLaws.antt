-- The laws of owner, local and global.
use Rattle.std.proofs.Common.{◌≡◌, ℕ, ◌+◌, ◌-◌, ◌*◌, ◌/◌, ◌%◌, ◌<◌, refl, sym, ◌∙◌, ap, arith, inl, inr}
use Rattle.std.proofs.Math.Nat.{div-add-mod, mod-lt, mod-eq_of_lt, add-mod-mod, div-div-eq-div-mul, add-mul-mod_self_left}
use Rattle.std.proofs.lemmas.Nat.{div-mul-add, mod-mul-add}
use Rattle.std.proofs.lemmas.Bool.{cases_lt}
use Rattle.array_desc.specs.Maps.{owner, local, distance, global}
use Rattle.array_desc.proofs.Quotients.{mod-once_round}

pub distance-lt : (proc src procs : ℕ) → 0 < procs → distance proc src procs < procs
distance-lt proc src procs some = mod-lt (procs + proc - src) some

-- as many processes after the source as its distance lies the process
pub source-distance : (proc src procs : ℕ) → src < procs → proc < procs → (src + distance proc src procs) % procs ≡ proc
source-distance proc src procs src_in proc_in =
    elim (cases_lt proc src) [
      | inl before ↦
          (let short : procs + proc - src < procs = omega arith in
          let e : (procs + proc - src) % procs ≡ procs + proc - src = mod-eq_of_lt short in
          let whole : src + (procs + proc - src) % procs ≡ procs + proc = omega arith in
          rw whole (mod-once_round proc procs proc_in))
      | inr after ↦
          (let rest : procs + proc - src ≡ procs + (proc - src) = omega arith in
          let e : (procs + proc - src) % procs ≡ proc - src = rw rest (mod-once_round (proc - src) procs (omega arith)) in
          let whole : src + (procs + proc - src) % procs ≡ proc = omega arith in
          rw whole (mod-eq_of_lt proc_in))
    ]

-- the owner of a block is at the distance that is the block's remainder
pub distance-owner : (block src procs : ℕ) → src < procs → distance ((src + block) % procs) src procs ≡ block % procs
distance-owner block src procs src_in =
    let some : 0 < procs = omega arith in
    let r = block % procs in
    let below : r < procs = mod-lt block some in
    let same : (src + r) % procs ≡ (src + block) % procs = add-mod-mod src block procs in
    rw (← same)
    (elim (cases_lt (src + r) procs) [
      | inl short ↦
          (let e : (src + r) % procs ≡ src + r = mod-eq_of_lt short in
          let rest : procs + (src + r) % procs - src ≡ procs + r = omega arith in
          rw rest (mod-once_round r procs below))
      | inr over ↦
          (let split : src + r ≡ procs + (src + r - procs) = omega arith in
          let e : (src + r) % procs ≡ src + r - procs = ap (λ n. n % procs) split ∙ mod-once_round (src + r - procs) procs (omega arith) in
          let rest : procs + (src + r) % procs - src ≡ r = omega arith in
          rw rest (mod-eq_of_lt below))
    ])

-- the block of the index at a local place, and its place in the block
pub div-global : (l nb proc src procs : ℕ) → 0 < nb → global l nb proc src procs / nb ≡ procs * (l / nb) + distance proc src procs
div-global l nb proc src procs some =
    let block = procs * (l / nb) + distance proc src procs in
    let turned : global l nb proc src procs ≡ block * nb + l % nb = omega arith in
    rw turned (div-mul-add block nb (l % nb) (mod-lt l some))

pub mod-global : (l nb proc src procs : ℕ) → 0 < nb → global l nb proc src procs % nb ≡ l % nb
mod-global l nb proc src procs some =
    let block = procs * (l / nb) + distance proc src procs in
    let turned : global l nb proc src procs ≡ block * nb + l % nb = omega arith in
    rw turned (mod-mul-add block nb (l % nb) (mod-lt l some))

-- the block of a local place, and the place in the block
pub div-local : (g nb procs : ℕ) → 0 < nb → local g nb procs / nb ≡ g / nb / procs
div-local g nb procs some =
    let turned : local g nb procs ≡ g / (nb * procs) * nb + g % nb = omega arith in
    rw turned (div-mul-add (g / (nb * procs)) nb (g % nb) (mod-lt g some)) ∙ sym (div-div-eq-div-mul g nb procs)

pub mod-local : (g nb procs : ℕ) → 0 < nb → local g nb procs % nb ≡ g % nb
mod-local g nb procs some =
    let turned : local g nb procs ≡ g / (nb * procs) * nb + g % nb = omega arith in
    rw turned (mod-mul-add (g / (nb * procs)) nb (g % nb) (mod-lt g some))

-- every index has an owner among the processes
pub owner-lt : (g nb src procs : ℕ) → 0 < procs → owner g nb src procs < procs
owner-lt g nb src procs some = mod-lt (src + g / nb) some

-- the index at the local place of an index, on its owner, is that index
pub global-local : (g nb src procs : ℕ) → 0 < nb → src < procs → global (local g nb procs) nb (owner g nb src procs) src procs ≡ g
global-local g nb src procs some src_in =
    let place = distance-owner (g / nb) src procs src_in in
    let split : nb * (g / nb) + g % nb ≡ g = div-add-mod g nb in
    let blocks : procs * (g / nb / procs) + g / nb % procs ≡ g / nb = div-add-mod (g / nb) procs in
    let whole : nb * (procs * (local g nb procs / nb) + distance (owner g nb src procs) src procs) + local g nb procs % nb ≡ nb * (procs * (g / nb / procs) + g / nb % procs) + g % nb =
    rw (div-local g nb procs some, mod-local g nb procs some, place) refl in
    whole ∙ ap (λ b. nb * b + g % nb) blocks ∙ split

-- the index at a local place of a process lies on that process
pub owner-global : (l nb proc src procs : ℕ) → 0 < nb → src < procs → proc < procs → owner (global l nb proc src procs) nb src procs ≡ proc
owner-global l nb proc src procs some src_in proc_in =
    let d = distance proc src procs in
    let q = l / nb in
    ap (λ b. (src + b) % procs) (div-global l nb proc src procs some)
    ∙ ap (λ n. n % procs) (let turned : src + (procs * q + d) ≡ src + d + procs * q = omega arith in turned)
    ∙ add-mul-mod_self_left (src + d) procs q
    ∙ source-distance proc src procs src_in proc_in

-- the index at a local place has that local place
pub local-global : (l nb proc src procs : ℕ) → 0 < nb → 0 < procs → local (global l nb proc src procs) nb procs ≡ l
local-global l nb proc src procs some some_process =
    let d = distance proc src procs in
    let q = l / nb in
    let d_in : d < procs = distance-lt proc src procs some_process in
    let turned : procs * q + d ≡ q * procs + d = omega arith in
    let split : nb * (l / nb) + l % nb ≡ l = div-add-mod l nb in
    let round : global l nb proc src procs / (nb * procs) ≡ q =
    sym (div-div-eq-div-mul (global l nb proc src procs) nb procs)
    ∙ ap (λ b. b / procs) (div-global l nb proc src procs some ∙ turned)
    ∙ div-mul-add q procs d d_in in
    ap (λ b. nb * b + global l nb proc src procs % nb) round ∙ ap (λ o. nb * q + o) (mod-global l nb proc src procs some) ∙ split

-- an index lies on one process alone
pub only-owner : (l nb proc src procs g : ℕ) → 0 < nb → src < procs → proc < procs → global l nb proc src procs ≡ g → proc ≡ owner g nb src procs
only-owner l nb proc src procs g some src_in proc_in e =
    sym (owner-global l nb proc src procs some src_in proc_in) ∙ ap (λ i. owner i nb src procs) e

-- two indices on one process at one local place are one index
pub same-local : (i j nb src procs : ℕ) → 0 < nb → src < procs → owner i nb src procs ≡ owner j nb src procs → local i nb procs ≡ local j nb procs → i ≡ j
same-local i j nb src procs some src_in one_owner one_place =
    sym (global-local i nb src procs some src_in)
    ∙ ap (λ proc. global (local i nb procs) nb proc src procs) one_owner
    ∙ ap (λ l. global l nb (owner j nb src procs) src procs) one_place
    ∙ global-local j nb src procs some src_in

-- the columns of a block lie on one process, side by side
pub owner-in_block : (block k nb src procs : ℕ) → k < nb → owner (block * nb + k) nb src procs ≡ (src + block) % procs
owner-in_block block k nb src procs k_in = ap (λ b. (src + b) % procs) (div-mul-add block nb k k_in)

pub local-in_block : (block k nb procs : ℕ) → k < nb → local (block * nb + k) nb procs ≡ nb * (block / procs) + k
local-in_block block k nb procs k_in =
    ap (λ b. nb * b + (block * nb + k) % nb) (sym (div-div-eq-div-mul (block * nb + k) nb procs) ∙ ap (λ b. b / procs) (div-mul-add block nb k k_in))
    ∙ ap (λ o. nb * (block / procs) + o) (mod-mul-add block nb k k_in)

-- the forms in which the code computes them
pub local-by_rounds : (g nb procs : ℕ) → g / nb / procs * nb + g % nb ≡ local g nb procs
local-by_rounds g nb procs =
    let turned : g / nb / procs * nb + g % nb ≡ nb * (g / nb / procs) + g % nb = omega arith in
    turned ∙ ap (λ q. nb * q + g % nb) (div-div-eq-div-mul g nb procs)

pub global-by_rounds : (l nb proc src procs d : ℕ) → d ≡ distance proc src procs → (l / nb * procs + d) * nb + l % nb ≡ global l nb proc src procs
global-by_rounds l nb proc src procs d e =
    let turned : (l / nb * procs + d) * nb + l % nb ≡ nb * (procs * (l / nb) + d) + l % nb = omega arith in
    turned ∙ ap (λ x. nb * (procs * (l / nb) + x) + l % nb) e

-- where there is a process, there is some number of processes
pub some_process : (proc procs : ℕ) → proc < procs → 0 < procs
some_process proc procs proc_in = omega arith
