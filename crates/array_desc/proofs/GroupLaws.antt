-- Block columns and their groups.
use Rattle.std.proofs.Common.{◌≡◌, ℕ, ◌+◌, ◌-◌, ◌*◌, ◌/◌, ◌%◌, ◌<◌, ◌≤◌, ◌↔◌, min, refl, sym, ◌∙◌, ap, arith, inl, inr}
use Rattle.std.proofs.Math.Nat.{div-add-mod, mod-lt, add-mul-mod_self_left, mul-div_cancel_left}
use Rattle.std.proofs.lemmas.Nat.{div-mul-add, le-div}
use Rattle.std.proofs.lemmas.Bool.{cases_lt}
use Rattle.array_desc.specs.Maps.{owner, local, distance, global, numroc, ceil_div, groups, group_of, block_in}
use Rattle.array_desc.proofs.MapLaws.{distance-lt, source-distance, distance-owner, owner-in_block, local-in_block, div-global}
use Rattle.array_desc.proofs.CountLaws.{global-lt}

-- a part below the count of parts begins below the whole
pub ceil_div-part : (k a b : ℕ) → 0 < b → k < ceil_div a b → k * b < a
ceil_div-part k a b some within =
    let split = div-add-mod (a + b - 1) b in
    let below = mod-lt (a + b - 1) some in
    let q = ceil_div a b in
    let more : (k + 1) * b ≤ q * b = grind arith in
    omega (arith, split, below)

pub part-ceil_div : (k a b : ℕ) → 0 < b → k * b < a → k < ceil_div a b
part-ceil_div k a b some begins =
    let fits : (k + 1) * b ≤ a + b - 1 = omega arith in
    let counted = le-div (k + 1) (a + b - 1) b some fits in
    omega (arith, counted)

-- a group begins at a column below the count exactly where it is a group
pub groups-reached : (n nb q : ℕ) → 0 < nb → 0 < q → (group : ℕ) → (group < groups n nb q) ↔ (group * q * nb < n)
groups-reached n nb q some some_columns group = (
  λ within. ceil_div-part (group * q) n nb some (ceil_div-part group (ceil_div n nb) q some_columns within),
  λ begins. part-ceil_div group (ceil_div n nb) q some_columns (part-ceil_div (group * q) n nb some begins),
)

-- the form in which the code computes it
pub ceil_div-rounded : (a b : ℕ) → 0 < b → a / b + min 1 (a % b) ≡ ceil_div a b
ceil_div-rounded a b some =
    let split : b * (a / b) + a % b ≡ a = div-add-mod a b in
    let below = mod-lt a some in
    elim (cases_lt 0 (a % b)) [
      | inl part ↦
          (let e : a + b - 1 ≡ (a / b + 1) * b + (a % b - 1) = omega arith in
          let up : min 1 (a % b) ≡ 1 = omega arith in
          rw (e, div-mul-add (a / b + 1) b (a % b - 1) (omega arith), up) refl)
      | inr whole ↦
          (let e : a + b - 1 ≡ a / b * b + (b - 1) = omega arith in
          let down : min 1 (a % b) ≡ 0 = omega arith in
          rw (e, div-mul-add (a / b) b (b - 1) (omega arith), down) (omega arith))
    ]

-- the part of a place below the whole is below the count of parts
pub div-ceil_div : (i a b : ℕ) → 0 < b → i < a → i / b < ceil_div a b
div-ceil_div i a b some before =
    let split = div-add-mod i b in
    part-ceil_div (i / b) a b some (omega (arith, split))

-- the block column of a group on a process column lies on that process column and in that group
pub owner-block_in : (group col src q : ℕ) → src < q → col < q → (src + block_in group col src q) % q ≡ col
owner-block_in group col src q src_in col_in =
    let d = distance col src q in
    ap (λ n. n % q) (let turned : src + (group * q + d) ≡ src + d + q * group = omega arith in turned)
    ∙ add-mul-mod_self_left (src + d) q group
    ∙ source-distance col src q src_in col_in

pub group_of-block_in : (group col src q : ℕ) → 0 < q → group_of (block_in group col src q) q ≡ group
group_of-block_in group col src q some = div-mul-add group q (distance col src q) (distance-lt col src q some)

-- each block column is the one of its group on its process column
pub block_in-group_of : (block src q : ℕ) → src < q → block_in (group_of block q) ((src + block) % q) src q ≡ block
block_in-group_of block src q src_in =
    let at = distance-owner block src q src_in in
    let split = div-add-mod block q in
    omega (arith, at, split)

-- a group has one block column on a process column
pub only-block_in : (group col src q block : ℕ) → src < q → group_of block q ≡ group → (src + block) % q ≡ col → block ≡ block_in group col src q
only-block_in group col src q block src_in in_group on_column =
    sym (block_in-group_of block src q src_in)
    ∙ ap (λ g. block_in g ((src + block) % q) src q) in_group
    ∙ ap (λ c. block_in group c src q) on_column

-- each block column below the count is in a group below the count
pub group_of-lt : (block n nb q : ℕ) → 0 < q → block < ceil_div n nb → group_of block q < groups n nb q
group_of-lt block n nb q some within = div-ceil_div block (ceil_div n nb) q some within

-- and so is each column
pub group_of_column-lt : (j n nb q : ℕ) → 0 < nb → 0 < q → j < n → group_of (j / nb) q < groups n nb q
group_of_column-lt j n nb q some some_columns before = group_of-lt (j / nb) n nb q some_columns (div-ceil_div j n nb some before)

-- a group below the count has a block column below the count
pub group-first_block : (group n nb q : ℕ) → 0 < q → group < groups n nb q → group * q < ceil_div n nb
group-first_block group n nb q some within = ceil_div-part group (ceil_div n nb) q some within

-- the local places of a group's columns on a process column lie side by side
pub local-in_group : (group col src q nb k : ℕ) → 0 < q → k < nb → local (block_in group col src q * nb + k) nb q ≡ nb * group + k
local-in_group group col src q nb k some k_in =
    local-in_block (block_in group col src q) k nb q k_in ∙ ap (λ b. nb * b + k) (group_of-block_in group col src q some)

pub owner-in_group : (group col src q nb k : ℕ) → src < q → col < q → k < nb → owner (block_in group col src q * nb + k) nb src q ≡ col
owner-in_group group col src q nb k src_in col_in k_in =
    owner-in_block (block_in group col src q) k nb src q k_in ∙ owner-block_in group col src q src_in col_in

-- the parts cover the whole
pub le-ceil_div : (a b : ℕ) → 0 < b → a ≤ ceil_div a b * b
le-ceil_div a b some =
    let split = div-add-mod (a + b - 1) b in
    let below = mod-lt (a + b - 1) some in
    omega (arith, split, below)

-- no process column has more local columns than the groups have room for
pub numroc-groups : (n nb col src q : ℕ) → 0 < nb → src < q → col < q → numroc n nb col src q ≤ nb * groups n nb q
numroc-groups n nb col src q some src_in col_in =
    let l = nb * groups n nb q in
    elim (cases_lt l (numroc n nb col src q)) [
      | inr within ↦ within
      | inl over ↦ absurd (
          let begins = global-lt l n nb col src q some src_in col_in over in
          let block = div-ceil_div (global l nb col src q) n nb some begins in
          let is = div-global l nb col src q some in
          let whole : l / nb ≡ groups n nb q = mul-div_cancel_left (groups n nb q) some in
          let rounds = ap (λ x. q * x) whole in
          let cover = le-ceil_div (ceil_div n nb) q (omega arith) in
          omega (arith, block, is, rounds, cover))
    ]
