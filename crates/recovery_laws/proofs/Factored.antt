-- The factors of a recovery are allowed: coefficients that decode, and weights.
use Rattle.std.specs.Prelude.{slice_index_or}
use Rattle.std.proofs.Common.{◌≡◌, ℕ, zero, suc, ◌+◌, ◌-◌, ◌<◌, ◌≤◌, ◌&&◌, ◌||◌, ◌==◌, Bool, true, false, cond, List, [], ◌∷◌, ◌++◌, map, length, count_by, if◌then◌else◌, nat_lt, refl, sym, ◌∙◌, ap, arith, inl, inr}
use Rattle.std.specs.List.{range_with_len}
use Rattle.std.proofs.lemmas.Bool.{cases_lt, lt-ltb, eq-eqb, and_from, both_ways}
use Rattle.std.proofs.lemmas.List.Elements.{Contains-get_or}
use Rattle.std.proofs.lemmas.List.Sums.{sum_by-append}
use Rattle.std.proofs.lemmas.List.FromFn.{length-map-range_with_len, map-range_with_len_more}
use Rattle.field_core.specs.Sums.{sum_to}
use Rattle.field_core.proofs.Sums.{sum_to-none, sum_to-suc}
use Rattle.cauchy_code.specs.Cauchy.{weight, helpers, IsDecoding}
use Rattle.cauchy_code.proofs.Unique.{length-zero_outside}
use Rattle.blacs_grid.specs.declared.Grid.{Grid}
use Rattle.blacs_grid.specs.Places.{width, row_of, rank_at}
use Rattle.rank_machine.specs.Setting.{Setting, some_below, grid_of_rank, grid_numbered}
use Rattle.rank_machine.specs.State.{State}
use Rattle.rank_machine.specs.Legal.{is_weight, lost_columns, IsDecodingEntry, IsFactor}
use Rattle.rank_machine.specs.Losses.{lost_in, holds_live, is_beyond_at}
use Rattle.recovery_laws.proofs.Decoded.{length-helpers}

-- ---- coefficients
pub coefficient-entry : (s : Setting) (g : Grid) (lost : List Bool) (which : ℕ) (ks : List ℕ) (col : ℕ) → which < g.q → g.q ≤ length lost → slice_index_or lost which false ≡ true → IsDecoding s.modulus s.inverse g.q lost which ks → col < length lost
    → IsDecodingEntry s g lost (slice_index_or ks col 0)
coefficient-entry s g lost which ks col hw hq is_lost decoding hc =
    record {
      which = which;
      list = ks;
      column = lt-ltb which g.q hw;
      is_lost = is_lost;
      decodes = decoding;
      entry = Contains-get_or ks col 0 (omega (arith, length-zero_outside (helpers g.q lost) ks decoding.zeros, length-helpers g.q lost hq));
    }

pub coefficient-factor : (s : Setting) (st : State) (rank which : ℕ) (ks : List ℕ) (col : ℕ) → (let g = grid_of_rank s rank in
    which < g.q → slice_index_or (lost_columns st g (row_of g rank)) which false ≡ true → IsDecoding s.modulus s.inverse g.q (lost_columns st g (row_of g rank)) which ks → col < width g → IsFactor s st rank (slice_index_or ks col 0))
coefficient-factor s st rank which ks col hw is_lost decoding hc =
    let g = grid_of_rank s rank in
    let lost = lost_columns st g (row_of g rank) in
    let len : length lost ≡ width g = length-map-range_with_len (λ col. st.lost (rank_at g (row_of g rank) col)) 0 (width g) in
    inr (coefficient-entry s g lost which ks col hw (omega (arith, len)) is_lost decoding (omega (arith, len)))

-- ---- weights
some-below : (n : ℕ) (f : ℕ → Bool) (i : ℕ) → i < n → f i ≡ true → some_below n f ≡ true
some-below zero f i h e = absurd (omega arith)
some-below (suc n) f i h e =
    elim (cases_lt i n) [
      | inl before ↦ rw (some-below n f i before e) refl
      | inr past ↦ (let last : f n ≡ true = ap f (let z : n ≡ i = omega arith in z) ∙ e in rw last (or_true (some_below n f)))
    ]
  where
    or_true : (b : Bool) → b || true ≡ true
    or_true true = refl
    or_true false = refl

pub weight-factor : (s : Setting) (st : State) (rank c col : ℕ) → (let g = grid_of_rank s rank in c < g.f → col < g.q → IsFactor s st rank (weight s.inverse g.q c col))
weight-factor s st rank c col hc hcol =
    let g = grid_of_rank s rank in
    let a = weight s.inverse g.q c col in
    let one : ((a == weight s.inverse g.q c col) || (a == s.modulus - weight s.inverse g.q c col)) ≡ true = rw (eq-eqb a a refl) refl in
    let is : is_weight s g a ≡ true = some-below g.f _ c hc (some-below g.q _ col hcol one) in
    inl (last_of ((a == 1) || (a == s.modulus - 1)) _ (is_weight s g a) is)
  where
    last_of : (x y z : Bool) → z ≡ true → x || (y || z) ≡ true
    last_of true y z e = refl
    last_of false true z e = refl
    last_of false false z e = e

-- ---- how many are lost
counted : (n : ℕ) (f : ℕ → Bool) → count_by (λ b. b) (map f (range_with_len 0 n)) ≡ sum_to n (λ k. if f k then 1 else 0)
counted zero f = sym (sum_to-none (λ k. if f k then 1 else 0))
counted (suc n) f =
    let more : map f (range_with_len 0 (suc n)) ≡ map f (range_with_len 0 n) ++ f n ∷ [] = (let e : n + 1 ≡ suc n = omega arith in ap (λ m. map f (range_with_len 0 m)) (sym e)) ∙ map-range_with_len_more f 0 n n (omega arith) in
    let split : count_by (λ b. b) (map f (range_with_len 0 n) ++ f n ∷ []) ≡ count_by (λ b. b) (map f (range_with_len 0 n)) + count_by (λ b. b) (f n ∷ []) = sum_by-append (λ b. cond b 1 0) (map f (range_with_len 0 n)) (f n ∷ []) in
    let last : count_by (λ b. b) (f n ∷ []) ≡ (if f n then 1 else 0) = one (f n) in
    ap (count_by (λ b. b)) more ∙ omega (arith, split, last, counted n f, sum_to-suc n (λ k. if f k then 1 else 0))
  where
    one : (b : Bool) → count_by (λ b. b) (b ∷ []) ≡ (if b then 1 else 0)
    one true = refl
    one false = refl

pub count-lost : (st : State) (g : Grid) (row : ℕ) → count_by (λ b. b) (lost_columns st g row) ≡ lost_in st g row
count-lost st g row = counted (width g) (λ col. st.lost (rank_at g row col))

-- where a row is not beyond, its lost ranks are at most its code columns
pub few-lost : (s : Setting) (st : State) (number row : ℕ) → number < length s.grids → row < (grid_numbered s number).p → holds_live s st number ≡ true → is_beyond_at s st number row ≡ false → lost_in st (grid_numbered s number) row ≤ (grid_numbered s number).f
few-lost s st number row hn hr live not_beyond =
    let g = grid_numbered s number in
    elim (cases_lt g.f (lost_in st g row)) [
      | inl many ↦
          absurd (both_ways (is_beyond_at s st number row) not_beyond
          (and_from (nat_lt number (length s.grids) && nat_lt row g.p) (nat_lt g.f (lost_in st g row) && holds_live s st number)
          (and_from (nat_lt number (length s.grids)) (nat_lt row g.p) (lt-ltb number (length s.grids) hn) (lt-ltb row g.p hr))
          (and_from (nat_lt g.f (lost_in st g row)) (holds_live s st number) (lt-ltb g.f (lost_in st g row) many) live)))
      | inr few ↦ few
    ]
