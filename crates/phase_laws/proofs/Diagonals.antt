-- The least number that the ranks find of a zero on the diagonal is INFO.
use Rattle.std.proofs.Common.{◌≡◌, ◌≢◌, ℕ, zero, suc, ◌+◌, ◌*◌, ◌/◌, ◌%◌, ◌<◌, ◌≤◌, ◌==◌, ◌&&◌, min, Bool, true, false, if◌then◌else◌, refl, sym, ◌∙◌, ap, subst, arith, inl, inr}
use Rattle.std.proofs.Math.Nat.{div-add-mod, mod-lt}
use Rattle.std.proofs.lemmas.Nat.{div-mul-add, mod-mul-add, mul-add-lt}
use Rattle.std.proofs.lemmas.Bool.{cases_eq, cases_lt, and_parts, and_from, eqb-true, eq-eqb, ne_eqb}
use Rattle.run_data.specs.Matrix.{entry}
use Rattle.array_desc.specs.Descriptors.{IsDesc}
use Rattle.array_desc.specs.Limits.{size_limit}
use Rattle.array_desc.specs.Maps.{owner, local}
use Rattle.array_desc.proofs.MapLaws.{owner-lt}
use Rattle.array_desc.proofs.GroupLaws.{block_in-group_of, group_of_column-lt}
use Rattle.blacs_grid.specs.Places.{rank_at, row_of, col_of}
use Rattle.blacs_grid.proofs.PlaceLaws.{row_of-rank_at, col_of-rank_at}
use Rattle.rank_machine.specs.declared.slot.SlotKind.TheVariants.{Data}
use Rattle.rank_machine.specs.declared.slot.Slot.{Slot}
use Rattle.rank_machine.specs.declared.slot.Piece.{Piece}
use Rattle.rank_machine.specs.declared.layout.Layout.{Layout}
use Rattle.rank_machine.specs.Setting.{Setting, layout}
use Rattle.rank_machine.specs.Effect.{Memory, none_number, words_of, slot_of, least_of, number_if, is_zero_here}
use Rattle.rank_machine.specs.CodeLaw.{slot_at}
use Rattle.serial_model.specs.Elimination.{least_zero, diagonal}
use Rattle.elimination.specs.Strips.{row_owner, row_place}
use Rattle.elimination.proofs.Info.{least_zero-none, least_zero-first}
use Rattle.elimination.proofs.StripMaps.{row_owner-lt}
use Rattle.elimination.proofs.StripColumns.{held-at}
use Rattle.phase_laws.specs.Columns.{rows_of, strips_in, columns_of}
use Rattle.phase_laws.specs.Search.{IsLeastOf, HoldMatrix, zero_found, info_number}
use Rattle.phase_laws.proofs.Columns.{row_map}
use Rattle.phase_laws.proofs.Searches.{least_of-le, least_of-none, least_of-from}

-- the first zero of some words, or none
data FirstZero (c : ℕ → ℕ) (n : ℕ) : Type 0 where
  no_zero : ((i : ℕ) → i < n → c i ≢ 0) → FirstZero c n
  zero_at : (i : ℕ) → i < n → c i ≡ 0 → ((k : ℕ) → k < i → c k ≢ 0) → FirstZero c n

first_zero : (c : ℕ → ℕ) (n : ℕ) → FirstZero c n
first_zero c zero = no_zero (λ i h. absurd (omega arith))
first_zero c (suc n) =
    elim (first_zero c n) [
      | no_zero none ↦
          (elim (cases_eq (c n) 0) [
            | inl z ↦ zero_at n (omega arith) z none
            | inr other ↦ no_zero (λ i h. elim (cases_eq i n) [ inl here ↦ (λ z. other (sym (ap c here) ∙ z)) | inr before ↦ none i (omega arith) ])
          ])
      | zero_at i h z before ↦ zero_at i (omega arith) z before
    ]

-- the column of the diagonal's word in its strip is that of the whole
diagonal_column : (d : Layout) (i : ℕ) → IsDesc d.grid.p d.grid.q d.desc → columns_of d (i / d.desc.nb / d.grid.q) (i % d.desc.nb) (owner i d.desc.nb d.desc.csrc d.grid.q) ≡ i
diagonal_column d i desc =
    ap (λ b. b * d.desc.nb + i % d.desc.nb) (block_in-group_of (i / d.desc.nb) d.desc.csrc d.grid.q desc.column_source) ∙ (let whole = div-add-mod i d.desc.nb in omega arith)

-- its owner holds it
diagonal_word : (d : Layout) (line : ℕ) (a : ℕ → ℕ → ℕ) (mem : ℕ → ℕ → Memory) (i : ℕ) → IsDesc d.grid.p d.grid.q d.desc → HoldMatrix d line a mem → i < d.desc.m → i < d.desc.n → entry (words_of (mem (owner i d.desc.nb d.desc.csrc d.grid.q) (row_owner (rows_of d) i) (slot_at Data line (i / d.desc.nb / d.grid.q)))) (row_place (rows_of d) i) (i % d.desc.nb) ≡ a i i
diagonal_word d line a mem i desc hold hm hn =
    let col = owner i d.desc.nb d.desc.csrc d.grid.q in
    let group = i / d.desc.nb / d.grid.q in
    let some_nb : 0 < d.desc.nb = omega (arith, desc.some_block_columns) in
    let some_q : 0 < d.grid.q = omega (arith, desc.column_source) in
    held-at (rows_of d) d.desc.nb (λ i c. a i (columns_of d group c col)) (strips_in (mem col) (slot_at Data line group)) i (i % d.desc.nb) (row_map d desc)
    (hold.strips group col (group_of_column-lt i d.desc.n d.desc.nb d.grid.q some_nb some_q hn) (owner-lt i d.desc.nb d.desc.csrc d.grid.q some_q)) hm (mod-lt i some_nb)
    ∙ ap (a i) (diagonal_column d i desc)

-- what a rank tests of a word of the diagonal: that it is its own, and 0
here_true : (s : Setting) (line : ℕ) (a : ℕ → ℕ → ℕ) (mem : ℕ → ℕ → Memory) (row col i : ℕ) → IsDesc (layout s line).grid.p (layout s line).grid.q (layout s line).desc → HoldMatrix (layout s line) line a mem → col < (layout s line).grid.q → i < (layout s line).desc.m → i < (layout s line).desc.n → is_zero_here s (rank_at (layout s line).grid row col) (mem col row) line i ≡ true → a i i ≡ 0
here_true s line a mem row col i desc hold hc hm hn is =
    let d = layout s line in
    let rank = rank_at d.grid row col in
    let row_test : Bool = owner i d.desc.mb d.desc.rsrc d.grid.p == row_of d.grid rank in
    let col_test : Bool = owner i d.desc.nb d.desc.csrc d.grid.q == col_of d.grid rank in
    let m = words_of (mem col row (slot_at Data line (i / d.desc.nb / d.grid.q))) in
    let parts = and_parts (row_test && col_test) (entry m (local i d.desc.mb d.grid.p) (i % d.desc.nb) == 0) is in
    let places = and_parts row_test col_test parts.0 in
    let row_is : row_owner (rows_of d) i ≡ row = eqb-true (owner i d.desc.mb d.desc.rsrc d.grid.p) (row_of d.grid rank) places.0 ∙ row_of-rank_at d.grid row col (omega arith) in
    let col_is : owner i d.desc.nb d.desc.csrc d.grid.q ≡ col = eqb-true (owner i d.desc.nb d.desc.csrc d.grid.q) (col_of d.grid rank) places.1 ∙ col_of-rank_at d.grid row col (omega arith) in
    let zero_word : entry m (local i d.desc.mb d.grid.p) (i % d.desc.nb) ≡ 0 = eqb-true (entry m (local i d.desc.mb d.grid.p) (i % d.desc.nb)) 0 parts.1 in
    sym (diagonal_word d line a mem i desc hold hm hn)
    ∙ ap (λ r. entry (words_of (mem (owner i d.desc.nb d.desc.csrc d.grid.q) r (slot_at Data line (i / d.desc.nb / d.grid.q)))) (row_place (rows_of d) i) (i % d.desc.nb)) row_is
    ∙ ap (λ c. entry (words_of (mem c row (slot_at Data line (i / d.desc.nb / d.grid.q)))) (row_place (rows_of d) i) (i % d.desc.nb)) col_is
    ∙ zero_word

here_at_owner : (s : Setting) (line : ℕ) (a : ℕ → ℕ → ℕ) (mem : ℕ → ℕ → Memory) (i : ℕ) → IsDesc (layout s line).grid.p (layout s line).grid.q (layout s line).desc → HoldMatrix (layout s line) line a mem → i < (layout s line).desc.m → i < (layout s line).desc.n → a i i ≡ 0 → is_zero_here s (rank_at (layout s line).grid (row_owner (rows_of (layout s line)) i) (owner i (layout s line).desc.nb (layout s line).desc.csrc (layout s line).grid.q)) (mem (owner i (layout s line).desc.nb (layout s line).desc.csrc (layout s line).grid.q) (row_owner (rows_of (layout s line)) i)) line i ≡ true
here_at_owner s line a mem i desc hold hm hn z =
    let d = layout s line in
    let row = row_owner (rows_of d) i in
    let col = owner i d.desc.nb d.desc.csrc d.grid.q in
    let rank = rank_at d.grid row col in
    let m = words_of (mem col row (slot_at Data line (i / d.desc.nb / d.grid.q))) in
    let col_in : col < d.grid.q = owner-lt i d.desc.nb d.desc.csrc d.grid.q (omega (arith, desc.column_source)) in
    and_from ((owner i d.desc.mb d.desc.rsrc d.grid.p == row_of d.grid rank) && (owner i d.desc.nb d.desc.csrc d.grid.q == col_of d.grid rank)) (entry m (local i d.desc.mb d.grid.p) (i % d.desc.nb) == 0)
    (and_from (owner i d.desc.mb d.desc.rsrc d.grid.p == row_of d.grid rank) (owner i d.desc.nb d.desc.csrc d.grid.q == col_of d.grid rank)
    (eq-eqb row (row_of d.grid rank) (sym (row_of-rank_at d.grid row col (omega arith)))) (eq-eqb col (col_of d.grid rank) (sym (col_of-rank_at d.grid row col (omega arith)))))
    (eq-eqb (entry m (local i d.desc.mb d.grid.p) (i % d.desc.nb)) 0 (diagonal_word d line a mem i desc hold hm hn ∙ z))

number_least : (b : Bool) (n v : ℕ) → v ≤ none_number → (b ≡ true → v ≤ n) → v ≤ number_if b n
number_least true n v h each = each refl
number_least false n v h each = h

number_true : (b : Bool) (n : ℕ) → b ≡ true → number_if b n ≡ n
number_true b n e = ap (λ c. number_if c n) e

-- what a rank's test of a word of the diagonal gives
abbrev word_number : Setting → ℕ → (ℕ → ℕ → Memory) → ℕ → ℕ → ℕ → ℕ
word_number s line mem row col i = number_if (is_zero_here s (rank_at (layout s line).grid row col) (mem col row) line i) (i + 1)

-- the least of what all data ranks find among the first n words is INFO's number
least-number : (s : Setting) (line : ℕ) (a : ℕ → ℕ → ℕ) (mem : ℕ → ℕ → Memory) (n found : ℕ) → IsDesc (layout s line).grid.p (layout s line).grid.q (layout s line).desc → HoldMatrix (layout s line) line a mem → n ≤ min (layout s line).desc.m (layout s line).desc.n → IsLeastOf ((layout s line).grid.p * (layout s line).grid.q) (λ k. least_of n (word_number s line mem (k / (layout s line).grid.q) (k % (layout s line).grid.q))) found → found ≡ info_number (least_zero (diagonal a) n)
least-number s line a mem n found desc hold hn least = by_zero (first_zero (diagonal a) n)
  where
    some_q : 0 < (layout s line).grid.q
    some_q = omega (arith, desc.column_source)

    each : (v : ℕ) → v ≤ none_number → ((i : ℕ) → i < n → a i i ≡ 0 → v ≤ i + 1) → v ≤ found
    each v small bound =
        (let d = layout s line in
        let x = least.among in
        let row = x.0 / d.grid.q in
        let col = x.0 % d.grid.q in
        let lower : v ≤ least_of n (word_number s line mem row col) =
        least_of-from n (word_number s line mem row col) v small
        (λ i hi. number_least (is_zero_here s (rank_at d.grid row col) (mem col row) line i) (i + 1) v small
        (λ is. bound i hi (here_true s line a mem row col i desc hold (mod-lt x.0 some_q) (omega arith) (omega arith) is))) in
        subst (λ w. v ≤ w) x.2 lower)

    before_or_at : (i j : ℕ) → diagonal a j ≡ 0 → ((k : ℕ) → k < i → diagonal a k ≢ 0) → i + 1 ≤ j + 1
    before_or_at i j zj before = elim (cases_lt j i) [ inl earlier ↦ absurd (before j earlier zj) | inr later ↦ omega arith ]

    by_zero : FirstZero (diagonal a) n → found ≡ info_number (least_zero (diagonal a) n)
    by_zero (no_zero none) =
        (let d = layout s line in
        let lower : none_number ≤ found = each none_number (omega arith) (λ i hi z. absurd (none i hi z)) in
        let x = least.among in
        let upper : found ≤ none_number = subst (λ w. w ≤ none_number) x.2 (least_of-none n (word_number s line mem (x.0 / d.grid.q) (x.0 % d.grid.q))) in
        let same : found ≡ none_number = omega arith in
        same ∙ sym (ap info_number (least_zero-none (diagonal a) n none)))
    by_zero (zero_at i hi z before) =
        (let d = layout s line in
        let big : d.desc.m ≤ size_limit = desc.rows in
        let row = row_owner (rows_of d) i in
        let col = owner i d.desc.nb d.desc.csrc d.grid.q in
        let col_in : col < d.grid.q = owner-lt i d.desc.nb d.desc.csrc d.grid.q some_q in
        let row_in : row < d.grid.p = row_owner-lt (rows_of d) i (row_map d desc) in
        let k = row * d.grid.q + col in
        let k_in : k < d.grid.p * d.grid.q = omega (arith, mul-add-lt row d.grid.q col d.grid.p row_in col_in) in
        let k_row : k / d.grid.q ≡ row = div-mul-add row d.grid.q col col_in in
        let k_col : k % d.grid.q ≡ col = mod-mul-add row d.grid.q col col_in in
        let lower : i + 1 ≤ found = each (i + 1) (omega arith) (λ j hj zj. before_or_at i j zj before) in
        let mine : least_of n (word_number s line mem row col) ≤ i + 1 =
        subst (λ w. least_of n (word_number s line mem row col) ≤ w) (number_true (is_zero_here s (rank_at d.grid row col) (mem col row) line i) (i + 1) (here_at_owner s line a mem i desc hold (omega arith) (omega arith) z))
        (least_of-le n (word_number s line mem row col) i hi) in
        let upper : found ≤ least_of n (word_number s line mem row col) = subst (λ w. found ≤ w) (ap (λ r. least_of n (word_number s line mem r (k % d.grid.q))) k_row ∙ ap (λ c. least_of n (word_number s line mem row c)) k_col) (least.below k k_in) in
        let same : found ≡ i + 1 = omega arith in
        let t : (i + 1 == 0) ≡ false = ne_eqb (i + 1) 0 (omega arith) in
        same ∙ sym (ap info_number (least_zero-first (diagonal a) n i hi z before) ∙ ap (λ b. if b then none_number else i + 1) t))

-- so is the least of what they find by the kernel, which looks at no more words than the diagonal has
pub least-info : (s : Setting) (to : Slot) (from : Piece) (a : ℕ → ℕ → ℕ) (mem : ℕ → ℕ → Memory) (n count found : ℕ) → IsDesc (layout s (slot_of from).id).grid.p (layout s (slot_of from).id).grid.q (layout s (slot_of from).id).desc → HoldMatrix (layout s (slot_of from).id) (slot_of from).id a mem → count ≡ min n (min (layout s (slot_of from).id).desc.m (layout s (slot_of from).id).desc.n) → IsLeastOf ((layout s (slot_of from).id).grid.p * (layout s (slot_of from).id).grid.q) (λ k. zero_found s to from mem n (k / (layout s (slot_of from).id).grid.q) (k % (layout s (slot_of from).id).grid.q)) found → found ≡ info_number (least_zero (diagonal a) count)
least-info s to from a mem n count found desc hold e least =
    let d = layout s (slot_of from).id in
    least-number s (slot_of from).id a mem (min n (min d.desc.m d.desc.n)) found desc hold (omega arith) least ∙ ap (λ k. info_number (least_zero (diagonal a) k)) (sym e)
