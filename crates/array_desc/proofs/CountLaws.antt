-- How many indices lie on a process, and that their local places are numbered by it.
use Rattle.std.proofs.Common.{◌≡◌, ℕ, zero, suc, ◌+◌, ◌-◌, ◌*◌, ◌/◌, ◌%◌, ◌<◌, ◌≤◌, ◌==◌, ◌↔◌, nat_lt, Bool, true, false, if◌then◌else◌, sym, ◌∙◌, ap, arith, inl, inr, add-one}
use Rattle.std.proofs.Math.Nat.{mod-lt, mod_self, zero-div, zero-mod, add-mod-mod, div-div-eq-div-mul}
use Rattle.std.proofs.lemmas.Bool.{cases_lt, cases_order, eq-eqb}
use Rattle.std.proofs.lemmas.Bool.Decides.{nat_tests, Decides-like, Decides-eqb, same_from_decides}
use Rattle.array_desc.specs.Maps.{owner, local, distance, global, count_below, numroc, AreNumbered, greatest_below, most_rows}
use Rattle.array_desc.proofs.Quotients.{div-next_inside, mod-next_inside, div-next_block, mod-next_block, cases_next}
use Rattle.array_desc.proofs.MapLaws.{distance-lt, source-distance, distance-owner, owner-lt, owner-global, local-global, same-local}

-- a number counts where it passes
pub count_below-pass : (n : ℕ) (f : ℕ → Bool) → f n ≡ true → count_below (suc n) f ≡ count_below n f + 1
count_below-pass n f passes = ap (λ b. count_below n f + (if b then 1 else 0)) passes

-- fewer numbers have no more that pass
pub count_below-le : (m n : ℕ) (f : ℕ → Bool) → m ≤ n → count_below m f ≤ count_below n f
count_below-le m zero f ordered = (let e : m ≡ 0 = omega arith in rw e (omega arith))
count_below-le m (suc n) f ordered =
    elim (cases_lt n m) [
      | inl last ↦ (let e : m ≡ suc n = omega arith in rw e (omega arith))
      | inr before ↦ (let rest : count_below m f ≤ count_below n f = count_below-le m n f before in omega arith)
    ]

-- a number that passes counts below every greater number
pub count_below-lt : (i n : ℕ) (f : ℕ → Bool) → i < n → f i ≡ true → count_below i f < count_below n f
count_below-lt i n f before passes =
    omega (arith, count_below-pass i f passes, count_below-le (suc i) n f (omega arith))

pub count_below-self : (n : ℕ) (f : ℕ → Bool) → count_below n f ≤ n
count_below-self zero f = omega arith
count_below-self (suc n) f =
    elim (f n) as (λ b. count_below n f + (if b then 1 else 0) ≤ suc n) [
      | true ↦ (let rest = count_below-self n f in omega (arith, rest))
      | false ↦ (let rest = count_below-self n f in omega (arith, rest))
    ]

-- the count by whole rounds of blocks: q rounds are whole, r blocks of the next round are whole, and o indices of the next block are there
abbrev pub counted : ℕ → ℕ → ℕ → ℕ → ℕ → ℕ
counted nb d q r o = nb * q + (if nat_lt d r then nb else if d == r then o else 0)

counted-inside : (nb d q r o : ℕ) → counted nb d q r (o + 1) ≡ counted nb d q r o + (if d == r then 1 else 0)
counted-inside nb d q r o = grind (arith, nat_tests)

counted-block : (nb d q r o : ℕ) → o + 1 ≡ nb → counted nb d q (r + 1) 0 ≡ counted nb d q r o + (if d == r then 1 else 0)
counted-block nb d q r o last = grind (arith, nat_tests)

counted-round : (nb d q r o procs : ℕ) → o + 1 ≡ nb → r + 1 ≡ procs → d < procs → counted nb d (q + 1) 0 0 ≡ counted nb d q r o + (if d == r then 1 else 0)
counted-round nb d q r o procs last last_block d_in =
    let more : nb * (q + 1) ≡ nb * q + nb = omega arith in
    grind (arith, nat_tests)

counted-least : (nb d q r o : ℕ) → o < nb → counted nb d q r o ≤ counted nb 0 q r o
counted-least nb d q r o o_in = grind (arith, nat_tests)

counted-by_cases : (nb d q r o x : ℕ) → (d < r → x ≡ nb) → (d ≡ r → x ≡ o) → (r < d → x ≡ 0) → q * nb + x ≡ counted nb d q r o
counted-by_cases nb d q r o x whole last none = grind (arith, nat_tests)

-- the count at a number
abbrev pub counted_at : ℕ → ℕ → ℕ → ℕ → ℕ
counted_at n nb d procs = counted nb d (n / nb / procs) (n / nb % procs) (n % nb)

counted_at-next : (n nb d procs : ℕ) → 0 < nb → d < procs → counted_at (n + 1) nb d procs ≡ counted_at n nb d procs + (if d == n / nb % procs then 1 else 0)
counted_at-next n nb d procs some d_in =
    elim (cases_next n nb some) [
      | inl inside ↦
          (rw (div-next_inside n nb inside, mod-next_inside n nb inside) (counted-inside nb d (n / nb / procs) (n / nb % procs) (n % nb)))
      | inr last ↦
          (rw (div-next_block n nb last, mod-next_block n nb last)
          (elim (cases_next (n / nb) procs (omega arith)) [
            | inl inside ↦
                (rw (div-next_inside (n / nb) procs inside, mod-next_inside (n / nb) procs inside)
                (counted-block nb d (n / nb / procs) (n / nb % procs) (n % nb) last))
            | inr last_block ↦
                (rw (div-next_block (n / nb) procs last_block, mod-next_block (n / nb) procs last_block)
                (counted-round nb d (n / nb / procs) (n / nb % procs) (n % nb) procs last last_block d_in))
          ]))
    ]

-- an index lies on the process whose distance is the remainder of its block
owner-test : (n nb proc src procs : ℕ) → src < procs → proc < procs → (owner n nb src procs == proc) ≡ (distance proc src procs == n / nb % procs)
owner-test n nb proc src procs src_in proc_in =
    let to_distance : owner n nb src procs ≡ proc → distance proc src procs ≡ n / nb % procs =
    λ e. ap (λ x. distance x src procs) (sym e) ∙ distance-owner (n / nb) src procs src_in in
    let to_owner : distance proc src procs ≡ n / nb % procs → owner n nb src procs ≡ proc =
    λ e. sym (add-mod-mod src (n / nb) procs) ∙ ap (λ d. (src + d) % procs) (sym e) ∙ source-distance proc src procs src_in proc_in in
    same_from_decides (owner n nb src procs == proc) (distance proc src procs == n / nb % procs)
    (Decides-like _ to_distance to_owner (Decides-eqb (owner n nb src procs) proc))
    (Decides-eqb (distance proc src procs) (n / nb % procs))

-- the count of the indices on a process, by whole rounds of blocks
pub numroc-counted : (n nb proc src procs : ℕ) → 0 < nb → src < procs → proc < procs → numroc n nb proc src procs ≡ counted_at n nb (distance proc src procs) procs
numroc-counted zero nb proc src procs some src_in proc_in =
    let d = distance proc src procs in
    let no_block : 0 / nb ≡ 0 = zero-div nb in
    rw (no_block, zero-div procs, zero-mod procs, zero-mod nb) (grind (arith, nat_tests))
numroc-counted (suc n) nb proc src procs some src_in proc_in =
    let d = distance proc src procs in
    let next = counted_at-next n nb d procs some (distance-lt proc src procs (omega arith)) in
    let rest = numroc-counted n nb proc src procs some src_in proc_in in
    ap (λ b. numroc n nb proc src procs + (if b then 1 else 0)) (owner-test n nb proc src procs src_in proc_in)
    ∙ ap (λ c. c + (if d == n / nb % procs then 1 else 0)) rest
    ∙ sym next
    ∙ ap (λ k. counted_at k nb d procs) (add-one n)

-- the form in which the code computes it
pub numroc-by_rounds :
    (n nb proc src procs d x : ℕ) → 0 < nb → src < procs → proc < procs → d ≡ distance proc src procs
    → (d < n / nb % procs → x ≡ nb) → (d ≡ n / nb % procs → x ≡ n % nb) → (n / nb % procs < d → x ≡ 0)
    → n / nb / procs * nb + x ≡ numroc n nb proc src procs
numroc-by_rounds n nb proc src procs d x some src_in proc_in is_distance whole last none =
    let r = n / nb % procs in
    let q = n / nb / procs in
    let turned : q * nb + x ≡ counted nb d q r (n % nb) = counted-by_cases nb d q r (n % nb) x whole last none in
    turned ∙ ap (λ e. counted nb e q r (n % nb)) is_distance ∙ sym (numroc-counted n nb proc src procs some src_in proc_in)

-- as many indices below an index lie on its owner as its local place says
pub numroc-local : (g nb src procs : ℕ) → 0 < nb → src < procs → numroc g nb (owner g nb src procs) src procs ≡ local g nb procs
numroc-local g nb src procs some src_in =
    let d = distance (owner g nb src procs) src procs in
    let same : d ≡ g / nb % procs = distance-owner (g / nb) src procs src_in in
    let at_own : counted nb (g / nb % procs) (g / nb / procs) (g / nb % procs) (g % nb) ≡ nb * (g / nb / procs) + g % nb = grind (arith, nat_tests) in
    numroc-counted g nb (owner g nb src procs) src procs some src_in (owner-lt g nb src procs (omega arith))
    ∙ ap (λ x. counted nb x (g / nb / procs) (g / nb % procs) (g % nb)) same
    ∙ at_own
    ∙ ap (λ q. nb * q + g % nb) (div-div-eq-div-mul g nb procs)

-- the same for an index of which the owner is known
pub numroc-at : (g nb proc src procs : ℕ) → 0 < nb → src < procs → owner g nb src procs ≡ proc → numroc g nb proc src procs ≡ local g nb procs
numroc-at g nb proc src procs some src_in on = ap (λ x. numroc g nb x src procs) (sym on) ∙ numroc-local g nb src procs some src_in

pub numroc-le : (m n nb proc src procs : ℕ) → m ≤ n → numroc m nb proc src procs ≤ numroc n nb proc src procs
numroc-le m n nb proc src procs ordered = count_below-le m n (λ i. owner i nb src procs == proc) ordered

pub numroc-lt : (i n nb proc src procs : ℕ) → i < n → owner i nb src procs ≡ proc → numroc i nb proc src procs < numroc n nb proc src procs
numroc-lt i n nb proc src procs before on =
    count_below-lt i n (λ k. owner k nb src procs == proc) before (eq-eqb (owner i nb src procs) proc on)

pub numroc-self : (n nb proc src procs : ℕ) → numroc n nb proc src procs ≤ n
numroc-self n nb proc src procs = count_below-self n (λ i. owner i nb src procs == proc)

-- an index below n has its local place below the count
pub local-lt : (i n nb proc src procs : ℕ) → 0 < nb → src < procs → i < n → owner i nb src procs ≡ proc → local i nb procs < numroc n nb proc src procs
local-lt i n nb proc src procs some src_in before on =
    omega (arith, numroc-lt i n nb proc src procs before on, numroc-at i nb proc src procs some src_in on)

-- a local place below the count is that of an index below n
pub global-lt : (l n nb proc src procs : ℕ) → 0 < nb → src < procs → proc < procs → l < numroc n nb proc src procs → global l nb proc src procs < n
global-lt l n nb proc src procs some src_in proc_in within =
    let g = global l nb proc src procs in
    let count : numroc g nb proc src procs ≡ l =
    numroc-at g nb proc src procs some src_in (owner-global l nb proc src procs some src_in proc_in)
    ∙ local-global l nb proc src procs some (omega arith) in
    elim (cases_lt g n) [ inl before ↦ before | inr past ↦ absurd (let more = numroc-le n g nb proc src procs past in omega (arith, more, count)) ]

-- and the other way round
pub local-lt_from_global : (l n nb proc src procs : ℕ) → 0 < nb → src < procs → proc < procs → global l nb proc src procs < n → l < numroc n nb proc src procs
local-lt_from_global l n nb proc src procs some src_in proc_in before =
    let place = local-global l nb proc src procs some (omega arith) in
    let below = local-lt (global l nb proc src procs) n nb proc src procs some src_in before (owner-global l nb proc src procs some src_in proc_in) in
    omega (arith, place, below)

-- on one process the order of local places is the order of the indices
pub local-in_order : (i j nb proc src procs : ℕ) → 0 < nb → src < procs → owner i nb src procs ≡ proc → owner j nb src procs ≡ proc → i < j → local i nb procs < local j nb procs
local-in_order i j nb proc src procs some src_in i_on j_on before =
    omega (arith, local-lt i j nb proc src procs some src_in before i_on, numroc-at j nb proc src procs some src_in j_on)

pub order-from_local : (i j nb proc src procs : ℕ) → 0 < nb → src < procs → owner i nb src procs ≡ proc → owner j nb src procs ≡ proc → local i nb procs < local j nb procs → i < j
order-from_local i j nb proc src procs some src_in i_on j_on before =
    elim (cases_order i j) [
      | inl same ↦ absurd (let e = ap (λ k. local k nb procs) same in omega (arith, e))
      | inr (inl less) ↦ less
      | inr (inr more) ↦ absurd (let turned = local-in_order j i nb proc src procs some src_in j_on i_on more in omega (arith, turned))
    ]

pub global-in_order : (k l nb proc src procs : ℕ) → 0 < nb → src < procs → proc < procs → k < l → global k nb proc src procs < global l nb proc src procs
global-in_order k l nb proc src procs some src_in proc_in before =
    let k_place = local-global k nb proc src procs some (omega arith) in
    let l_place = local-global l nb proc src procs some (omega arith) in
    order-from_local (global k nb proc src procs) (global l nb proc src procs) nb proc src procs some src_in
    (owner-global k nb proc src procs some src_in proc_in) (owner-global l nb proc src procs some src_in proc_in)
    (rw (k_place, l_place) before)

-- the local places of a process are the numbers below its count
pub AreNumbered-numroc : (n nb proc src procs : ℕ) → 0 < nb → src < procs → proc < procs → AreNumbered n nb proc src procs (numroc n nb proc src procs)
AreNumbered-numroc n nb proc src procs some src_in proc_in = record {
  below = λ i before on. local-lt i n nb proc src procs some src_in before on;
  once = λ i j i_on j_on one_place. same-local i j nb src procs some src_in (i_on ∙ sym j_on) one_place;
  each = λ l within. (global l nb proc src procs, global-lt l n nb proc src procs some src_in proc_in within, owner-global l nb proc src procs some src_in proc_in, local-global l nb proc src procs some (omega arith));
  in_order = λ i j i_on j_on before. local-in_order i j nb proc src procs some src_in i_on j_on before;
}

-- a local place is below the count exactly where its index is below n
pub numroc-reached : (n nb proc src procs : ℕ) → 0 < nb → src < procs → proc < procs → (l : ℕ) → (l < numroc n nb proc src procs) ↔ (global l nb proc src procs < n)
numroc-reached n nb proc src procs some src_in proc_in l =
    (global-lt l n nb proc src procs some src_in proc_in, local-lt_from_global l n nb proc src procs some src_in proc_in)

-- no process holds more indices than the source
pub numroc-source : (n nb proc src procs : ℕ) → 0 < nb → src < procs → proc < procs → numroc n nb proc src procs ≤ numroc n nb src src procs
numroc-source n nb proc src procs some src_in proc_in =
    let at_source : distance src src procs ≡ 0 =
    (let e : procs + src - src ≡ procs = omega arith in rw e (mod_self procs)) in
    let least : counted_at n nb (distance proc src procs) procs ≤ counted_at n nb 0 procs =
    counted-least nb (distance proc src procs) (n / nb / procs) (n / nb % procs) (n % nb) (mod-lt n some) in
    rw (numroc-counted n nb proc src procs some src_in proc_in, numroc-counted n nb src src procs some src_in src_in, at_source) least

greatest_below-le : (n : ℕ) (f : ℕ → ℕ) (top : ℕ) → ((k : ℕ) → k < n → f k ≤ top) → greatest_below n f ≤ top
greatest_below-le zero f top each = omega arith
greatest_below-le (suc n) f top each =
    let rest = greatest_below-le n f top (λ k k_in. each k (omega arith)) in
    let last = each n (omega arith) in
    omega (arith, rest, last)

le-greatest_below : (n : ℕ) (f : ℕ → ℕ) (k : ℕ) → k < n → f k ≤ greatest_below n f
le-greatest_below zero f k k_in = absurd (omega arith)
le-greatest_below (suc n) f k k_in =
    elim (cases_lt k n) [
      | inl before ↦ (let rest = le-greatest_below n f k before in omega (arith, rest))
      | inr last ↦ (let e : k ≡ n = omega arith in rw e (omega arith))
    ]

-- the process row that holds the first row has the most local rows
pub most_rows-source : (m mb p rsrc : ℕ) → 0 < mb → rsrc < p → most_rows m mb p rsrc ≡ numroc m mb rsrc rsrc p
most_rows-source m mb p rsrc some rsrc_in =
    let rows : ℕ → ℕ = λ row. numroc m mb row rsrc p in
    let above = greatest_below-le p rows (rows rsrc) (λ row row_in. numroc-source m mb row rsrc p some rsrc_in row_in) in
    let reached = le-greatest_below p rows rsrc rsrc_in in
    omega (arith, above, reached)

-- no process row has more local rows
pub numroc-most : (m mb row p rsrc : ℕ) → row < p → numroc m mb row rsrc p ≤ most_rows m mb p rsrc
numroc-most m mb row p rsrc row_in = le-greatest_below p (λ k. numroc m mb k rsrc p) row row_in
