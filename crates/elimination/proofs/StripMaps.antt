-- Local and global rows: which local rows a range of global rows is, and where the rows of a block lie.
use Rattle.std.proofs.Common.{◌≡◌, ℕ, ◌+◌, ◌-◌, ◌*◌, ◌/◌, ◌%◌, ◌<◌, ◌≤◌, refl, sym, ◌∙◌, ap, arith, inl, inr}
use Rattle.std.proofs.Math.Nat.{div-add-mod}
use Rattle.std.proofs.lemmas.Bool.{cases_lt}
use Rattle.array_desc.proofs.MapLaws.{owner-lt, global-local, owner-global, local-global, owner-in_block, local-in_block}
use Rattle.array_desc.proofs.CountLaws.{numroc-reached, local-lt, global-lt}
use Rattle.elimination.specs.Strips.{RowMap, IsRowMap, IsBlock, rows_below, row_at, row_owner, row_place}

some_rows : (d : RowMap) → IsRowMap d → 0 < d.procs
some_rows d map = omega (arith, map.source)

pub row_owner-lt : (d : RowMap) (i : ℕ) → IsRowMap d → row_owner d i < d.procs
row_owner-lt d i map = owner-lt i d.mb d.src d.procs (some_rows d map)

pub row_at-owner : (d : RowMap) (i : ℕ) → IsRowMap d → row_at d (row_owner d i) (row_place d i) ≡ i
row_at-owner d i map = global-local i d.mb d.src d.procs map.some_block map.source

pub row_owner-at : (d : RowMap) (row l : ℕ) → IsRowMap d → row < d.procs → row_owner d (row_at d row l) ≡ row
row_owner-at d row l map h = owner-global l d.mb row d.src d.procs map.some_block map.source h

pub row_place-at : (d : RowMap) (row l : ℕ) → IsRowMap d → row_place d (row_at d row l) ≡ l
row_place-at d row l map = local-global l d.mb row d.src d.procs map.some_block (some_rows d map)

pub row_place-lt : (d : RowMap) (i : ℕ) → IsRowMap d → i < d.m → row_place d i < rows_below d d.m (row_owner d i)
row_place-lt d i map h = local-lt i d.m d.mb (row_owner d i) d.src d.procs map.some_block map.source h (let e : row_owner d i ≡ row_owner d i = refl in e)

pub row_at-lt : (d : RowMap) (row l : ℕ) → IsRowMap d → row < d.procs → l < rows_below d d.m row → row_at d row l < d.m
row_at-lt d row l map h hl = global-lt l d.m d.mb row d.src d.procs map.some_block map.source h hl

-- a local row is before the rows below g just where its global row is below g
pub place-before : (d : RowMap) (row l g : ℕ) → IsRowMap d → row < d.procs → l < rows_below d g row → row_at d row l < g
place-before d row l g map h = (numroc-reached g d.mb row d.src d.procs map.some_block map.source h l).0

pub place-from : (d : RowMap) (row l g : ℕ) → IsRowMap d → row < d.procs → rows_below d g row ≤ l → g ≤ row_at d row l
place-from d row l g map h from =
    elim (cases_lt (row_at d row l) g) [
      | inl below ↦ (let inside : l < rows_below d g row = (numroc-reached g d.mb row d.src d.procs map.some_block map.source h l).1 below in absurd (omega arith))
      | inr above ↦ above
    ]

-- the rows of a block lie side by side on one process row
block_split : (d : RowMap) (first k : ℕ) → first + k ≡ first / d.mb * d.mb + (first % d.mb + k)
block_split d first k = omega (arith, div-add-mod first d.mb)

pub block_owner : (d : RowMap) (first n k : ℕ) → IsBlock d first n → k < n → row_owner d (first + k) ≡ row_owner d first
block_owner d first n k block h =
    let at : first + k ≡ first / d.mb * d.mb + (first % d.mb + k) = block_split d first k in
    let start : first ≡ first / d.mb * d.mb + first % d.mb = omega (arith, div-add-mod first d.mb) in
    ap (λ i. row_owner d i) at ∙ owner-in_block (first / d.mb) (first % d.mb + k) d.mb d.src d.procs (omega (arith, block.one_block))
    ∙ sym (ap (λ i. row_owner d i) start ∙ owner-in_block (first / d.mb) (first % d.mb) d.mb d.src d.procs (omega (arith, block.one_block)))

pub block_place : (d : RowMap) (first n k : ℕ) → IsBlock d first n → k < n → row_place d (first + k) ≡ row_place d first + k
block_place d first n k block h =
    let at : first + k ≡ first / d.mb * d.mb + (first % d.mb + k) = block_split d first k in
    let start : first ≡ first / d.mb * d.mb + first % d.mb = omega (arith, div-add-mod first d.mb) in
    let one : row_place d (first + k) ≡ d.mb * (first / d.mb / d.procs) + (first % d.mb + k) =
    ap (λ i. row_place d i) at ∙ local-in_block (first / d.mb) (first % d.mb + k) d.mb d.procs (omega (arith, block.one_block)) in
    let other : row_place d first ≡ d.mb * (first / d.mb / d.procs) + first % d.mb =
    ap (λ i. row_place d i) start ∙ local-in_block (first / d.mb) (first % d.mb) d.mb d.procs (omega (arith, block.one_block)) in
    one ∙ (let e : d.mb * (first / d.mb / d.procs) + (first % d.mb + k) ≡ d.mb * (first / d.mb / d.procs) + first % d.mb + k = omega arith in e) ∙ ap (λ i. i + k) (sym other)

-- the global row of a place in the block
pub block_row : (d : RowMap) (first n k : ℕ) → IsRowMap d → IsBlock d first n → k < n → row_at d (row_owner d first) (row_place d first + k) ≡ first + k
block_row d first n k map block h =
    ap (λ r. row_at d r (row_place d first + k)) (sym (block_owner d first n k block h)) ∙ ap (row_at d (row_owner d (first + k))) (sym (block_place d first n k block h)) ∙ row_at-owner d (first + k) map

-- a row of the block is on its process row, at its place
pub in_block : (d : RowMap) (first n row l : ℕ) → IsRowMap d → IsBlock d first n → row < d.procs → first ≤ row_at d row l → row_at d row l < first + n → (row ≡ row_owner d first) × (l ≡ row_place d first + (row_at d row l - first))
in_block d first n row l map block h h1 h2 =
    let g = row_at d row l in
    let k = g - first in
    let is : first + k ≡ g = omega arith in
    let small : k < n = omega arith in (
      sym (row_owner-at d row l map h) ∙ ap (λ i. row_owner d i) (sym is) ∙ block_owner d first n k block small,
      sym (row_place-at d row l map) ∙ ap (λ i. row_place d i) (sym is) ∙ block_place d first n k block small,
    )
