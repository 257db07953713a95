-- The code law of the machine is that of elimination, column by column, and the other way round.
use Rattle.std.proofs.Common.{◌≡◌, ◌≢◌, ℕ, ◌+◌, ◌*◌, ◌/◌, ◌%◌, ◌<◌, ◌≤◌, ◌⊎◌, ◌==◌, ◌&&◌, Bool, true, false, if◌then◌else◌, nat_lt, nat_le, refl, sym, ◌∙◌, ap, subst, arith, inl, inr}
use Rattle.std.proofs.lemmas.Bool.{cases_lt, cases_Bool, and_parts, and_from, eqb-true, eq-eqb, true≢false, both_ways, and_left, and_right}
use Rattle.field_core.specs.Sums.{sum_to}
use Rattle.field_core.proofs.Sums.{sum_to-same, sum_to-zero}
use Rattle.array_desc.specs.Descriptors.{IsDesc}
use Rattle.array_desc.specs.Maps.{owner, group_of}
use Rattle.array_desc.proofs.MapLaws.{owner-in_block}
use Rattle.rank_machine.specs.declared.slot.SlotKind.{SlotKind}
use Rattle.rank_machine.specs.declared.slot.SlotKind.TheVariants.{Data, Code, Low, Open}
use Rattle.rank_machine.specs.declared.mark.Mark.{Mark}
use Rattle.rank_machine.specs.declared.layout.Layout.{Layout}
use Rattle.rank_machine.specs.Setting.{Setting, group_count, strip_rows, block_at, global_col}
use Rattle.rank_machine.specs.State.{State}
use Rattle.rank_machine.specs.Effect.{factoring}
use Rattle.rank_machine.specs.CodeLaw.{slot_at, has_low, has_open, is_open_group, data_word, code_word, symbol, weighted_sum, is_multiplier, is_open_column, MatrixLaw}
use Rattle.elimination.specs.CodeLaw.{IsWeightedSum, low_part, open_part, IsOwn}
use Rattle.elimination.specs.Strips.{IsRowMap, row_at, row_owner, row_place}
use Rattle.elimination.proofs.StripMaps.{row_owner-lt, row_at-owner, row_place-lt}
use Rattle.elimination.proofs.StripColumns.{group-own, group-outside}
use Rattle.elimination.proofs.CodeLaws.{coded-from_whole, coded-whole}
use Rattle.phase_laws.specs.Columns.{rows_of, column_memory, strips_in, data_columns, code_column, low_column, open_column, weights, columns_of, open_width, stages_of, IsGroupCoded, IsGroupSummed, AreStrips, AreCoded}
use Rattle.phase_laws.proofs.Columns.{row_map, row_on_rank, held-past, held-place}
use Rattle.phase_laws.proofs.Terms.{low-term, low-after, open-term, open-outside, low_part-zero, open_part-zero}

if_true : (b : Bool) (x : ℕ) → b ≡ true → (if b then x else 0) ≡ x
if_true true x e = refl
if_true false x e = absurd (true≢false (sym e))

if_not : (b : Bool) (x : ℕ) → b ≡ false → (if b then x else 0) ≡ 0
if_not true x e = absurd (true≢false e)
if_not false x e = refl

if_zero : (b : Bool) (x : ℕ) → x ≡ 0 → (if b then x else 0) ≡ 0
if_zero true x e = e
if_zero false x e = refl

zero_sum : (n : ℕ) (f : ℕ → ℕ) → ((q : ℕ) → q < n → f q ≡ 0) → sum_to n f ≡ 0
zero_sum n f zeros = sum_to-same n f (λ q. 0) zeros ∙ sum_to-zero n

times_zero : (w x : ℕ) → x ≡ 0 → w * x ≡ 0
times_zero w x e = ap (λ y. w * y) e ∙ (let z : w * 0 ≡ 0 = omega arith in z)

-- a sum that holds at each place of the strips holds at each global row
sums_at_rows : (d : Layout) (p n : ℕ) (g : ℕ → ℕ → ℕ) (c : ℕ → ℕ) → IsDesc d.grid.p d.grid.q d.desc → ((row l : ℕ) → row < d.grid.p → l < strip_rows d row → c (row_at (rows_of d) row l) % p ≡ sum_to n (λ q. g q (row_at (rows_of d) row l)) % p) → ((i : ℕ) → d.desc.m ≤ i → c i ≡ 0) → ((q i : ℕ) → q < n → d.desc.m ≤ i → g q i ≡ 0) → (i : ℕ) → c i % p ≡ sum_to n (λ q. g q i) % p
sums_at_rows d p n g c desc places no_code no_data i =
    let map : IsRowMap (rows_of d) = row_map d desc in
    elim (cases_lt i d.desc.m) [
      | inl inside ↦
          subst (λ r. c r % p ≡ sum_to n (λ q. g q r) % p) (row_at-owner (rows_of d) i map)
          (places (row_owner (rows_of d) i) (row_place (rows_of d) i) (row_owner-lt (rows_of d) i map) (row_place-lt (rows_of d) i map inside))
      | inr past ↦ ap (λ y. y % p) (no_code i past ∙ sym (zero_sum n (λ q. g q i) (λ q h. no_data q i h past)))
    ]

-- a word of a code slot, and a data word, as they are held
code_at : (st : State) (kind : SlotKind) (line : ℕ) (d : Layout) (row group c l j : ℕ) → IsDesc d.grid.p d.grid.q d.desc → row < d.grid.p → l < strip_rows d row → code_column st kind line d group c j (row_at (rows_of d) row l) ≡ code_word st kind line d row group c l j
code_at st kind line d row group c l j desc h hl = held-place (rows_of d) (strips_in (column_memory st d (d.grid.q + c)) (slot_at kind line group)) row l j (row_map d desc) h hl

data_at : (st : State) (line : ℕ) (d : Layout) (row group col l j : ℕ) → IsDesc d.grid.p d.grid.q d.desc → row < d.grid.p → l < strip_rows d row → data_columns st line d group j col (row_at (rows_of d) row l) ≡ data_word st line d row group col l j
data_at st line d row group col l j desc h hl = held-place (rows_of d) (strips_in (column_memory st d col) (slot_at Data line group)) row l j (row_map d desc) h hl

code_past : (st : State) (kind : SlotKind) (line : ℕ) (d : Layout) (group c j i : ℕ) → d.desc.m ≤ i → code_column st kind line d group c j i ≡ 0
code_past st kind line d group c j i h = held-past (rows_of d) (strips_in (column_memory st d (d.grid.q + c)) (slot_at kind line group)) i j h

data_past : (st : State) (line : ℕ) (d : Layout) (group col j i : ℕ) → d.desc.m ≤ i → data_columns st line d group j col i ≡ 0
data_past st line d group col j i h = held-past (rows_of d) (strips_in (column_memory st d col) (slot_at Data line group)) i j h

-- Code + Low + Open at a place
symbol_at : (s : Setting) (st : State) (mark : Mark) (line : ℕ) (d : Layout) (row group c l j : ℕ) → IsDesc d.grid.p d.grid.q d.desc → row < d.grid.p → l < strip_rows d row → code_column st Code line d group c j (row_at (rows_of d) row l) + low_column s st mark line d group c j (row_at (rows_of d) row l) + open_column s st mark line d group c j (row_at (rows_of d) row l) ≡ symbol s st mark line d row group c l j
symbol_at s st mark line d row group c l j desc h hl =
    let r = row_at (rows_of d) row l in
    ap (λ y. y + low_column s st mark line d group c j r + open_column s st mark line d group c j r) (code_at st Code line d row group c l j desc h hl)
    ∙ ap (λ y. code_word st Code line d row group c l j + (if has_low s mark line group then y else 0) + open_column s st mark line d group c j r) (code_at st Low line d row group c l j desc h hl)
    ∙ ap (λ y. code_word st Code line d row group c l j + (if has_low s mark line group then code_word st Low line d row group c l j else 0) + (if is_open_group s mark line d group then y else 0)) (code_at st Open line d row 0 c l j desc h hl)

all_sum_at : (s : Setting) (st : State) (line : ℕ) (d : Layout) (row group c l j : ℕ) → IsDesc d.grid.p d.grid.q d.desc → row < d.grid.p → l < strip_rows d row → sum_to d.grid.q (λ q. weights s d c q * data_columns st line d group j q (row_at (rows_of d) row l)) ≡ weighted_sum s st line d row group c l j (λ col. true)
all_sum_at s st line d row group c l j desc h hl =
    sum_to-same d.grid.q (λ q. weights s d c q * data_columns st line d group j q (row_at (rows_of d) row l)) (λ q. weights s d c q * data_word st line d row group q l j)
    (λ q _. ap (λ y. weights s d c q * y) (data_at st line d row group q l j desc h hl))

low_sum_at : (s : Setting) (st : State) (mark : Mark) (line : ℕ) (d : Layout) (row group c l j : ℕ) → IsDesc d.grid.p d.grid.q d.desc → row < d.grid.p → l < strip_rows d row → j < d.desc.nb → weighted_sum s st line d row group c l j (is_multiplier mark d row group l j) ≡ sum_to d.grid.q (λ q. weights s d c q * low_part (stages_of mark d group j q) (columns_of d group j q) (data_columns st line d group j q) (row_at (rows_of d) row l))
low_sum_at s st mark line d row group c l j desc h hl hj =
    let r = row_at (rows_of d) row l in
    sum_to-same d.grid.q (λ q. if is_multiplier mark d row group l j q then weights s d c q * data_word st line d row group q l j else 0)
    (λ q. weights s d c q * low_part (stages_of mark d group j q) (columns_of d group j q) (data_columns st line d group j q) r)
    (λ q hq.
    ap (λ g. if nat_lt (block_at d group q) mark.closed && nat_lt (global_col d (block_at d group q) j) g then weights s d c q * data_word st line d row group q l j else 0) (row_on_rank d row q l (omega arith))
    ∙ low-term mark.closed d.desc.nb (block_at d group q) j (open_width mark d) r (weights s d c q) (data_word st line d row group q l j) (data_columns st line d group j q) hj (data_at st line d row group q l j desc h hl))

-- the open panel's group has one column in it, on the panel's process column
opened_is : (s : Setting) (mark : Mark) (line : ℕ) → has_open s mark line ≡ true → mark.opened ≡ true
opened_is s mark line is = (and_parts (nat_lt 0 line && (factoring s mark == line)) mark.opened is).1

width_open : (mark : Mark) (d : Layout) → mark.opened ≡ true → open_width mark d ≡ d.desc.nb
width_open mark d e = if_true mark.opened d.desc.nb e

width_none : (mark : Mark) (d : Layout) → mark.opened ≡ false → open_width mark d ≡ 0
width_none mark d e = if_not mark.opened d.desc.nb e

owner_is : (mark : Mark) (d : Layout) → IsDesc d.grid.p d.grid.q d.desc → (d.desc.csrc + mark.closed) % d.grid.q ≡ owner (mark.closed * d.desc.nb) d.desc.nb d.desc.csrc d.grid.q
owner_is mark d desc =
    let at : mark.closed * d.desc.nb + 0 ≡ mark.closed * d.desc.nb = omega arith in
    sym (owner-in_block mark.closed 0 d.desc.nb d.desc.csrc d.grid.q (omega (arith, desc.some_block_columns))) ∙ ap (λ k. owner k d.desc.nb d.desc.csrc d.grid.q) at

own_group : (s : Setting) (mark : Mark) (line : ℕ) (d : Layout) (group j : ℕ) → IsDesc d.grid.p d.grid.q d.desc → j < d.desc.nb → is_open_group s mark line d group ≡ true → IsOwn (mark.closed * d.desc.nb) (open_width mark d) d.grid.q (owner (mark.closed * d.desc.nb) d.desc.nb d.desc.csrc d.grid.q) (columns_of d group j)
own_group s mark line d group j desc hj is =
    let parts = and_parts (has_open s mark line) (group == mark.closed / d.grid.q) is in
    let here : group ≡ group_of mark.closed d.grid.q = eqb-true group (mark.closed / d.grid.q) parts.1 in
    let wide : open_width mark d ≡ d.desc.nb = width_open mark d (opened_is s mark line parts.0) in
    let first = mark.closed * d.desc.nb in
    let own : IsOwn first d.desc.nb d.grid.q ((d.desc.csrc + mark.closed) % d.grid.q) (columns_of d (group_of mark.closed d.grid.q) j) = group-own mark.closed d.desc.nb d.desc.csrc d.grid.q j hj desc.column_source in
    subst (λ w. IsOwn first w d.grid.q (owner first d.desc.nb d.desc.csrc d.grid.q) (columns_of d group j)) (sym wide)
    (subst (λ o. IsOwn first d.desc.nb d.grid.q o (columns_of d group j)) (owner_is mark d desc)
    (subst (λ g. IsOwn first d.desc.nb d.grid.q ((d.desc.csrc + mark.closed) % d.grid.q) (columns_of d g j)) (sym here) own))

open_sum_at : (s : Setting) (st : State) (mark : Mark) (line : ℕ) (d : Layout) (row group c l j : ℕ) → IsDesc d.grid.p d.grid.q d.desc → row < d.grid.p → l < strip_rows d row → j < d.desc.nb → is_open_group s mark line d group ≡ true → weighted_sum s st line d row group c l j (is_open_column mark d) ≡ sum_to d.grid.q (λ q. weights s d c q * open_part (stages_of mark d group j q) (columns_of d group j q) (data_columns st line d group j q) (row_at (rows_of d) row l))
open_sum_at s st mark line d row group c l j desc h hl hj is =
    let r = row_at (rows_of d) row l in
    sum_to-same d.grid.q (λ q. if is_open_column mark d q then weights s d c q * data_word st line d row group q l j else 0)
    (λ q. weights s d c q * open_part (stages_of mark d group j q) (columns_of d group j q) (data_columns st line d group j q) r)
    (λ q hq. open-term (mark.closed * d.desc.nb) (open_width mark d) d.grid.q (owner (mark.closed * d.desc.nb) d.desc.nb d.desc.csrc d.grid.q) q r (weights s d c q) (data_word st line d row group q l j) (columns_of d group j) (data_columns st line d group j q) (own_group s mark line d group j desc hj is) hq (data_at st line d row group q l j desc h hl))

-- a group without the open panel has no column in it
not_open : (s : Setting) (mark : Mark) (line : ℕ) (d : Layout) (group j q : ℕ) → IsDesc d.grid.p d.grid.q d.desc → j < d.desc.nb → q < d.grid.q → has_low s mark line group ≡ true → is_open_group s mark line d group ≡ false → (columns_of d group j q < mark.closed * d.desc.nb) ⊎ (mark.closed * d.desc.nb + open_width mark d ≤ columns_of d group j q)
not_open s mark line d group j q desc hj hq low is =
    let first = mark.closed * d.desc.nb in
    let k = columns_of d group j q in
    let factored : (nat_lt 0 line && (factoring s mark == line)) ≡ true = (and_parts (nat_lt 0 line && (factoring s mark == line)) (nat_le mark.merged group) low).0 in
    elim (cases_Bool mark.opened) [
      | inl opened ↦
          (let wide : open_width mark d ≡ d.desc.nb = width_open mark d opened in
          let open_now : has_open s mark line ≡ true = and_from (nat_lt 0 line && (factoring s mark == line)) mark.opened factored opened in
          let other : group ≢ group_of mark.closed d.grid.q =
          λ e. both_ways (is_open_group s mark line d group) is (and_from (has_open s mark line) (group == mark.closed / d.grid.q) open_now (eq-eqb group (mark.closed / d.grid.q) e)) in
          let out = group-outside group d.desc.nb d.desc.csrc d.grid.q j mark.closed (mark.closed + 1) hj desc.column_source
          (λ block h1 h2. (let here : block ≡ mark.closed = omega arith in λ e. other (sym e ∙ ap (λ b. group_of b d.grid.q) here))) in
          elim (out.outside q hq) [
            | inl before ↦ inl before
            | inr past ↦ (let next : (mark.closed + 1) * d.desc.nb ≡ mark.closed * d.desc.nb + d.desc.nb = omega arith in inr (omega arith))
          ])
      | inr none ↦
          (let narrow : open_width mark d ≡ 0 = width_none mark d none in
          elim (cases_lt k first) [ inl before ↦ inl before | inr from ↦ inr (omega arith) ])
    ]

-- Code, Low and Open together are the weighted sum
pub law-whole : (s : Setting) (st : State) (mark : Mark) (line : ℕ) (d : Layout) (group c j : ℕ) → IsDesc d.grid.p d.grid.q d.desc → MatrixLaw s st mark line d → group < group_count d → c < d.grid.f → j < d.desc.nb → IsWeightedSum s.modulus d.grid.q (weights s d c) (data_columns st line d group j) (λ i. code_column st Code line d group c j i + low_column s st mark line d group c j i + open_column s st mark line d group c j i)
law-whole s st mark line d group c j desc law hg hc hj =
    let p = s.modulus in
    record {
      at = sums_at_rows d p d.grid.q (λ q i. weights s d c q * data_columns st line d group j q i) (λ i. code_column st Code line d group c j i + low_column s st mark line d group c j i + open_column s st mark line d group c j i) desc
          (λ row l h hl.
          ap (λ y. y % p) (symbol_at s st mark line d row group c l j desc h hl)
          ∙ law.code row group c l j (record { row_in = h; group_in = hg; i_in = hl; j_in = hj }) hc
          ∙ ap (λ y. y % p) (sym (all_sum_at s st line d row group c l j desc h hl)))
          (λ i past.
          (let a : code_column st Code line d group c j i ≡ 0 = code_past st Code line d group c j i past in
          let b : low_column s st mark line d group c j i ≡ 0 = if_zero (has_low s mark line group) (code_column st Low line d group c j i) (code_past st Low line d group c j i past) in
          let e : open_column s st mark line d group c j i ≡ 0 = if_zero (is_open_group s mark line d group) (code_column st Open line d 0 c j i) (code_past st Open line d 0 c j i past) in
          omega arith))
          (λ q i _ past. times_zero (weights s d c q) (data_columns st line d group j q i) (data_past st line d group q j i past));
    }

-- the law of the machine gives that of elimination, in a group that is being factored
pub law-coded : (s : Setting) (st : State) (mark : Mark) (line : ℕ) (d : Layout) (group c j : ℕ) → 0 < s.modulus → IsDesc d.grid.p d.grid.q d.desc → MatrixLaw s st mark line d → group < group_count d → c < d.grid.f → j < d.desc.nb → has_low s mark line group ≡ true → IsGroupCoded s st mark line d group c j
law-coded s st mark line d group c j pos_p desc law hg hc hj low =
    let p = s.modulus in
    let w = weights s d c in
    let x = data_columns st line d group j in
    let col = columns_of d group j in
    let stages = stages_of mark d group j in
    let zero_part : (part : ℕ → ℕ → ℕ) (q i : ℕ) → part q i ≡ 0 → w q * part q i ≡ 0 = λ part q i e. times_zero (w q) (part q i) e in
    let low_sum : IsWeightedSum p d.grid.q w (λ q. low_part (stages q) (col q) (x q)) (low_column s st mark line d group c j) =
    record {
      at = sums_at_rows d p d.grid.q (λ q i. w q * low_part (stages q) (col q) (x q) i) (low_column s st mark line d group c j) desc
          (λ row l h hl.
          ap (λ y. y % p) (if_true (has_low s mark line group) (code_column st Low line d group c j (row_at (rows_of d) row l)) low ∙ code_at st Low line d row group c l j desc h hl)
          ∙ law.low row group c l j (record { row_in = h; group_in = hg; i_in = hl; j_in = hj }) hc low
          ∙ ap (λ y. y % p) (low_sum_at s st mark line d row group c l j desc h hl hj))
          (λ i past. if_zero (has_low s mark line group) (code_column st Low line d group c j i) (code_past st Low line d group c j i past))
          (λ q i _ past. times_zero (w q) (low_part (stages q) (col q) (x q) i) (low_part-zero (stages q) (col q) (x q) i (data_past st line d group q j i past)));
    } in
    let open_sum : IsWeightedSum p d.grid.q w (λ q. open_part (stages q) (col q) (x q)) (open_column s st mark line d group c j) =
    (elim (cases_Bool (is_open_group s mark line d group)) [
      | inl is ↦
          record {
            at = sums_at_rows d p d.grid.q (λ q i. w q * open_part (stages q) (col q) (x q) i) (open_column s st mark line d group c j) desc
                (λ row l h hl.
                ap (λ y. y % p) (if_true (is_open_group s mark line d group) (code_column st Open line d 0 c j (row_at (rows_of d) row l)) is ∙ code_at st Open line d row 0 c l j desc h hl)
                ∙ law.panel row group c l j (record { row_in = h; group_in = hg; i_in = hl; j_in = hj }) hc is
                ∙ ap (λ y. y % p) (open_sum_at s st mark line d row group c l j desc h hl hj is))
                (λ i past. if_zero (is_open_group s mark line d group) (code_column st Open line d 0 c j i) (code_past st Open line d 0 c j i past))
                (λ q i _ past. times_zero (w q) (open_part (stages q) (col q) (x q) i) (open_part-zero (stages q) (col q) (x q) i (data_past st line d group q j i past)));
          }
      | inr none ↦
          record {
            at = λ i. ap (λ y. y % p) (if_not (is_open_group s mark line d group) (code_column st Open line d 0 c j i) none
                ∙ sym (zero_sum d.grid.q (λ q. w q * open_part (stages q) (col q) (x q) i)
                (λ q hq. times_zero (w q) (open_part (stages q) (col q) (x q) i) (open-outside (mark.closed * d.desc.nb) (open_width mark d) (col q) (col q) (x q) i (not_open s mark line d group j q desc hj hq low none)))));
          }
    ]) in
    coded-from_whole p d.grid.q w stages col x (code_column st Code line d group c j) (low_column s st mark line d group c j) (open_column s st mark line d group c j) pos_p
    (law-whole s st mark line d group c j desc law hg hc hj) low_sum open_sum

-- where neither Low nor Open counts, Code alone is the weighted sum
pub law-summed : (s : Setting) (st : State) (mark : Mark) (line : ℕ) (d : Layout) (group c j : ℕ) → IsDesc d.grid.p d.grid.q d.desc → MatrixLaw s st mark line d → group < group_count d → c < d.grid.f → j < d.desc.nb → has_low s mark line group ≡ false → is_open_group s mark line d group ≡ false → IsGroupSummed s st line d group c j
law-summed s st mark line d group c j desc law hg hc hj low open_none =
    let whole : IsWeightedSum s.modulus d.grid.q (weights s d c) (data_columns st line d group j) (λ i. code_column st Code line d group c j i + low_column s st mark line d group c j i + open_column s st mark line d group c j i) =
    law-whole s st mark line d group c j desc law hg hc hj in
    record {
      at = λ i.
          (let b : low_column s st mark line d group c j i ≡ 0 = if_not (has_low s mark line group) (code_column st Low line d group c j i) low in
          let e : open_column s st mark line d group c j i ≡ 0 = if_not (is_open_group s mark line d group) (code_column st Open line d 0 c j i) open_none in
          let same : code_column st Code line d group c j i ≡ code_column st Code line d group c j i + low_column s st mark line d group c j i + open_column s st mark line d group c j i = omega arith in
          ap (λ y. y % s.modulus) same ∙ whole.at i);
    }

-- and the other way round
pub coded-law : (s : Setting) (st : State) (mark : Mark) (line : ℕ) (d : Layout) → IsDesc d.grid.p d.grid.q d.desc → AreStrips s st mark line d → AreCoded s st mark line d → MatrixLaw s st mark line d
coded-law s st mark line d desc strips are =
    record {
      data_strips = strips.data_strips;
      code_strips = strips.code_strips;
      low_strips = strips.low_strips;
      open_strips = strips.open_strips;
      padding = strips.padding;
      code = λ row group c l j place hc.
          ap (λ y. y % s.modulus) (sym (symbol_at s st mark line d row group c l j desc place.row_in place.i_in))
          ∙ whole group c j place.group_in hc place.j_in (row_at (rows_of d) row l)
          ∙ ap (λ y. y % s.modulus) (all_sum_at s st line d row group c l j desc place.row_in place.i_in);
      low = λ row group c l j place hc low.
          (let coded : IsGroupCoded s st mark line d group c j = are.coded group c j place.group_in hc place.j_in low in
          ap (λ y. y % s.modulus) (sym (if_true (has_low s mark line group) (code_column st Low line d group c j (row_at (rows_of d) row l)) low ∙ code_at st Low line d row group c l j desc place.row_in place.i_in))
          ∙ coded.low_is (row_at (rows_of d) row l)
          ∙ ap (λ y. y % s.modulus) (sym (low_sum_at s st mark line d row group c l j desc place.row_in place.i_in place.j_in)));
      panel = λ row group c l j place hc is.
          (let coded : IsGroupCoded s st mark line d group c j = are.coded group c j place.group_in hc place.j_in (are.opened_unmerged group is) in
          ap (λ y. y % s.modulus) (sym (if_true (is_open_group s mark line d group) (code_column st Open line d 0 c j (row_at (rows_of d) row l)) is ∙ code_at st Open line d row 0 c l j desc place.row_in place.i_in))
          ∙ coded.open_is (row_at (rows_of d) row l)
          ∙ ap (λ y. y % s.modulus) (sym (open_sum_at s st mark line d row group c l j desc place.row_in place.i_in place.j_in is)));
    }
  where
    whole : (group c j : ℕ) → group < group_count d → c < d.grid.f → j < d.desc.nb → (i : ℕ) → (code_column st Code line d group c j i + low_column s st mark line d group c j i + open_column s st mark line d group c j i) % s.modulus ≡ sum_to d.grid.q (λ q. weights s d c q * data_columns st line d group j q i) % s.modulus
    whole group c j hg hc hj i =
        elim (cases_Bool (has_low s mark line group)) [
          | inl low ↦
              (coded-whole s.modulus d.grid.q (weights s d c) (stages_of mark d group j) (columns_of d group j) (data_columns st line d group j) (code_column st Code line d group c j) (low_column s st mark line d group c j) (open_column s st mark line d group c j) (are.coded group c j hg hc hj low)).at i
          | inr none ↦
              (let closed_group : is_open_group s mark line d group ≡ false = (elim (cases_Bool (is_open_group s mark line d group)) [ inl is ↦ absurd (both_ways (has_low s mark line group) none (are.opened_unmerged group is)) | inr e ↦ e ]) in
              let summed : IsGroupSummed s st line d group c j = are.summed group c j hg hc hj none in
              let b : low_column s st mark line d group c j i ≡ 0 = if_not (has_low s mark line group) (code_column st Low line d group c j i) none in
              let e : open_column s st mark line d group c j i ≡ 0 = if_not (is_open_group s mark line d group) (code_column st Open line d 0 c j i) closed_group in
              let same : code_column st Code line d group c j i + low_column s st mark line d group c j i + open_column s st mark line d group c j i ≡ code_column st Code line d group c j i = omega arith in
              ap (λ y. y % s.modulus) same ∙ summed.at i)
        ]

-- the making of a factorization: nothing is closed or open, and Low is zero
pub making-coded : (s : Setting) (st : State) (mark : Mark) (line : ℕ) (d : Layout) (group c j : ℕ) → 0 < s.modulus → mark.closed ≡ 0 → mark.opened ≡ false → IsGroupSummed s st line d group c j → ((i : ℕ) → low_column s st mark line d group c j i ≡ 0) → IsGroupCoded s st mark line d group c j
making-coded s st mark line d group c j pos_p none_closed none_open summed no_low =
    let p = s.modulus in
    let w = weights s d c in
    let x = data_columns st line d group j in
    let col = columns_of d group j in
    let stages = stages_of mark d group j in
    let first : mark.closed * d.desc.nb ≡ 0 = ap (λ k. k * d.desc.nb) none_closed ∙ (let e : 0 * d.desc.nb ≡ 0 = omega arith in e) in
    let narrow : open_width mark d ≡ 0 = width_none mark d none_open in
    let closed_group : is_open_group s mark line d group ≡ false = and_left (has_open s mark line) (group == mark.closed / d.grid.q) (and_right (nat_lt 0 line && (factoring s mark == line)) mark.opened none_open) in
    let no_open : (i : ℕ) → open_column s st mark line d group c j i ≡ 0 = λ i. if_not (is_open_group s mark line d group) (code_column st Open line d 0 c j i) closed_group in
    coded-from_whole p d.grid.q w stages col x (code_column st Code line d group c j) (low_column s st mark line d group c j) (open_column s st mark line d group c j) pos_p
    (record {
      at = λ i.
          (let a = no_low i in
          let b = no_open i in
          let same : code_column st Code line d group c j i + low_column s st mark line d group c j i + open_column s st mark line d group c j i ≡ code_column st Code line d group c j i = omega arith in
          ap (λ y. y % p) same ∙ summed.at i);
    })
    (record {
      at = λ i. ap (λ y. y % p) (no_low i ∙ sym (zero_sum d.grid.q (λ q. w q * low_part (stages q) (col q) (x q) i)
          (λ q hq. times_zero (w q) (low_part (stages q) (col q) (x q) i) (low-after (mark.closed * d.desc.nb) (open_width mark d) (col q) (col q) (x q) i (omega arith)))));
    })
    (record {
      at = λ i. ap (λ y. y % p) (no_open i ∙ sym (zero_sum d.grid.q (λ q. w q * open_part (stages q) (col q) (x q) i)
          (λ q hq. times_zero (w q) (open_part (stages q) (col q) (x q) i) (open-outside (mark.closed * d.desc.nb) (open_width mark d) (col q) (col q) (x q) i (inr (omega arith))))));
    })

-- the merge: with no panel open in the group, Low goes into Code, and Data stays
pub merge-summed : (s : Setting) (st st' : State) (mark : Mark) (line : ℕ) (d : Layout) (group c j : ℕ) → is_open_group s mark line d group ≡ false → IsGroupCoded s st mark line d group c j → ((q i : ℕ) → q < d.grid.q → data_columns st' line d group j q i ≡ data_columns st line d group j q i) → ((i : ℕ) → code_column st' Code line d group c j i % s.modulus ≡ (code_column st Code line d group c j i + low_column s st mark line d group c j i) % s.modulus) → IsGroupSummed s st' line d group c j
merge-summed s st st' mark line d group c j closed_group law same added =
    let p = s.modulus in
    let w = weights s d c in
    let whole : IsWeightedSum p d.grid.q w (data_columns st line d group j) (λ i. code_column st Code line d group c j i + low_column s st mark line d group c j i + open_column s st mark line d group c j i) =
    coded-whole p d.grid.q w (stages_of mark d group j) (columns_of d group j) (data_columns st line d group j) (code_column st Code line d group c j) (low_column s st mark line d group c j) (open_column s st mark line d group c j) law in
    record {
      at = λ i.
          (let none : open_column s st mark line d group c j i ≡ 0 = if_not (is_open_group s mark line d group) (code_column st Open line d 0 c j i) closed_group in
          let all : code_column st Code line d group c j i + low_column s st mark line d group c j i ≡ code_column st Code line d group c j i + low_column s st mark line d group c j i + open_column s st mark line d group c j i = omega arith in
          added i ∙ ap (λ y. y % p) all ∙ whole.at i
          ∙ ap (λ y. y % p) (sum_to-same d.grid.q (λ q. w q * data_columns st line d group j q i) (λ q. w q * data_columns st' line d group j q i) (λ q hq. ap (λ y. w q * y) (sym (same q i hq)))));
    }
