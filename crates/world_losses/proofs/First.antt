-- The first row, grid or rank that passes a test.
use Rattle.std.specs.Prelude.{slice_index_or, nat_lt}
use Rattle.std.proofs.Common.{◌≡◌, ℕ, zero, suc, ◌+◌, ◌<◌, ◌&&◌, ◌==◌, Bool, true, false, not, if◌then◌else◌, Option, Some, None, List, [], ◌∷◌, length, refl, sym, ◌∙◌, ap, subst, arith, inl, inr}
use Rattle.std.proofs.lemmas.Bool.{cases_lt, true≢false, and_parts, and_from, lt-ltb, le-ltb, eqb-true, eq-eqb}
use Rattle.field_core.specs.Sums.{sum_to}
use Rattle.field_core.proofs.Sums.{sum_to-none, sum_to-suc}
use Rattle.blacs_grid.specs.declared.Grid.{Grid}
use Rattle.blacs_grid.specs.Limits.{IsGrid}
use Rattle.script_lines.specs.Layouts.{AreGrids}
use Rattle.rank_machine.specs.Setting.{Setting, ranks, no_grid, grid_numbered}
use Rattle.rank_machine.specs.State.{State}
use Rattle.rank_machine.specs.Losses.{lost_in, lost_now, holds_live, is_beyond_at, IsBeyond, LacksSpare, LacksSpareOf}
use Rattle.world_losses.specs.Judged.{is_over, FirstRow, lacks_of, FirstWithout, FirstLacking}

pub none_before : (f : ℕ → Bool) (i : ℕ) → i < 0 → f i ≡ false
none_before f i lt = absurd (omega arith)

pub none_up_to : (f : ℕ → Bool) (n : ℕ) → ((i : ℕ) → i < n → f i ≡ false) → f n ≡ false → (i : ℕ) → i < n + 1 → f i ≡ false
none_up_to f n before here i lt =
    elim (cases_lt i n) [
      | inl early ↦ before i early
      | inr late ↦ (let same : n ≡ i = omega arith in ap f (sym same) ∙ here)
    ]

-- ---- rows of a grid
turn : (a b : Bool) → a && b ≡ false → b && a ≡ false
turn true b e = and_false b e
  where
    and_false : (b : Bool) → b ≡ false → b && true ≡ false
    and_false true e = absurd (true≢false e)
    and_false false e = refl
turn false true e = refl
turn false false e = refl

none_right : (a : Bool) → a && false ≡ false
none_right true = refl
none_right false = refl

beyond_parts : (a b c : Bool) → b ≡ false → (a && b) && c ≡ false
beyond_parts true b c e = rw e refl
beyond_parts false b c e = refl

beyond_none : (a c : Bool) → c ≡ false → a && c ≡ false
beyond_none a c e = rw e (none_right a)

-- no row of a grid that passes is beyond repair
pub rows_within : (s : Setting) (st : State) (number : ℕ) (live : Bool) → live ≡ holds_live s st number → FirstRow st (grid_numbered s number) live None → (row : ℕ) → is_beyond_at s st number row ≡ false
rows_within s st number live is none row =
    let g = grid_numbered s number in
    elim (cases_lt row g.p) [
      | inl inside ↦
          beyond_none (nat_lt number (length s.grids) && nat_lt row g.p) (nat_lt g.f (lost_in st g row) && holds_live s st number)
          (turn (holds_live s st number) (nat_lt g.f (lost_in st g row)) (ap (λ b. b && nat_lt g.f (lost_in st g row)) (sym is) ∙ none row inside))
      | inr outside ↦ beyond_parts (nat_lt number (length s.grids)) (nat_lt row g.p) (nat_lt g.f (lost_in st g row) && holds_live s st number) (le-ltb row g.p outside)
    ]

pub row_beyond : (s : Setting) (st : State) (number : ℕ) (live : Bool) (row : ℕ) → number < length s.grids → live ≡ holds_live s st number → FirstRow st (grid_numbered s number) live (Some row)
    → ((k other : ℕ) → k < number → is_beyond_at s st k other ≡ false) → IsBeyond s st number row
row_beyond s st number live row there is found before =
    let g = grid_numbered s number in
    let p = and_parts live (nat_lt g.f (lost_in st g row)) found.1 in
    record {
      here = and_from (nat_lt number (length s.grids) && nat_lt row g.p) (nat_lt g.f (lost_in st g row) && holds_live s st number)
          (and_from (nat_lt number (length s.grids)) (nat_lt row g.p) (lt-ltb number (length s.grids) there) (lt-ltb row g.p found.0))
          (and_from (nat_lt g.f (lost_in st g row)) (holds_live s st number) p.1 (sym is ∙ p.0));
      first = λ k other at. elim at [
        | inl early ↦ before k other early
        | inr same ↦
            (let n : k ≡ number = same.0 in
            let not_over : is_over st g live other ≡ false = found.2 other same.1 in
            ap (λ m. is_beyond_at s st m other) n
            ∙ beyond_none (nat_lt number (length s.grids) && nat_lt other g.p) (nat_lt g.f (lost_in st g other) && holds_live s st number)
            (turn (holds_live s st number) (nat_lt g.f (lost_in st g other)) (ap (λ b. b && nat_lt g.f (lost_in st g other)) (sym is) ∙ not_over)))
      ];
    }

pub grids_none : (s : Setting) (st : State) (k other : ℕ) → k < 0 → is_beyond_at s st k other ≡ false
grids_none s st k other lt = absurd (omega arith)

pub grids_up_to : (s : Setting) (st : State) (n : ℕ) → ((k other : ℕ) → k < n → is_beyond_at s st k other ≡ false) → ((other : ℕ) → is_beyond_at s st n other ≡ false) → (k other : ℕ) → k < n + 1 → is_beyond_at s st k other ≡ false
grids_up_to s st n before here k other lt =
    elim (cases_lt k n) [
      | inl early ↦ before k other early
      | inr late ↦ (let same : k ≡ n = omega arith in ap (λ m. is_beyond_at s st m other) same ∙ here other)
    ]

pub all_within : (s : Setting) (st : State) (n : ℕ) → n ≡ length s.grids → ((k other : ℕ) → k < n → is_beyond_at s st k other ≡ false) → (k other : ℕ) → is_beyond_at s st k other ≡ false
all_within s st n e before k other =
    elim (cases_lt k n) [
      | inl early ↦ before k other early
      | inr late ↦
          (let g = grid_numbered s k in
          let past : nat_lt k (length s.grids) ≡ false = le-ltb k (length s.grids) (omega (arith, e, late)) in
          rw past refl)
    ]

-- ---- spares
pub none_now : (st : State) → st.spawned ≡ st.spawned + lost_now st 0
none_now st = (let e : lost_now st 0 ≡ 0 = sum_to-none (λ rank. if st.live rank then 0 else 1) in omega (arith, e))

pub one_more_now : (st : State) (n used : ℕ) → used ≡ st.spawned + lost_now st n → st.live n ≡ false → used + 1 ≡ st.spawned + lost_now st (n + 1)
one_more_now st n used e dead =
    let f : ℕ → ℕ = λ rank. if st.live rank then 0 else 1 in
    let next : n + 1 ≡ suc n = omega arith in
    let all : lost_now st (n + 1) ≡ sum_to n f + f n = ap (λ k. sum_to k f) next ∙ sum_to-suc n f in
    let one : f n ≡ 1 = rw dead refl in
    omega (arith, e, one, all)

pub none_more_now : (st : State) (n used : ℕ) → used ≡ st.spawned + lost_now st n → st.live n ≡ true → used ≡ st.spawned + lost_now st (n + 1)
none_more_now st n used e live =
    let f : ℕ → ℕ = λ rank. if st.live rank then 0 else 1 in
    let next : n + 1 ≡ suc n = omega arith in
    let all : lost_now st (n + 1) ≡ sum_to n f + f n = ap (λ k. sum_to k f) next ∙ sum_to-suc n f in
    let none : f n ≡ 0 = rw live refl in
    omega (arith, e, none, all)

pub live_lacks_none : (st : State) (spares rank : ℕ) → st.live rank ≡ true → lacks_of st spares rank ≡ false
live_lacks_none st spares rank live = rw live refl

pub spare_left : (st : State) (spares rank used : ℕ) → used ≡ st.spawned + lost_now st rank → (used == spares) ≡ false → lacks_of st spares rank ≡ false
spare_left st spares rank used e other =
    let no : ((st.spawned + lost_now st rank) == spares) ≡ false = ap (λ n. n == spares) (sym e) ∙ other in
    beyond_none (not (st.live rank)) ((st.spawned + lost_now st rank) == spares) no

pub lacks_here : (st : State) (spares rank used : ℕ) → used ≡ st.spawned + lost_now st rank → (used == spares) ≡ true → st.live rank ≡ false → lacks_of st spares rank ≡ true
lacks_here st spares rank used e same dead =
    let is : ((st.spawned + lost_now st rank) == spares) ≡ true = ap (λ n. n == spares) (sym e) ∙ same in
    rw dead is

-- what the test says of a state
pub lacking : (s : Setting) (st : State) (spares rank : ℕ) → s.spares ≡ Some spares → rank < ranks s → lacks_of st spares rank ≡ true → LacksSpare s st rank
lacking s st spares rank e there lacks =
    subst (λ o. LacksSpareOf o s st rank) (sym e) (by_live (st.live rank) refl lacks)
  where
    by_live : (b : Bool) → st.live rank ≡ b → not b && ((st.spawned + lost_now st rank) == spares) ≡ true → (rank < ranks s) × (st.live rank ≡ false) × (st.spawned + lost_now st rank ≡ spares)
    by_live true l h = absurd (true≢false (sym h))
    by_live false l h = (there, l, eqb-true (st.spawned + lost_now st rank) spares h)

pub none_lacking : (s : Setting) (st : State) (spares n : ℕ) → s.spares ≡ Some spares → n ≡ ranks s → ((rank : ℕ) → rank < n → lacks_of st spares rank ≡ false) → (rank : ℕ) → LacksSpare s st rank → ⊥
none_lacking s st spares n e all none rank lacks =
    let h : (rank < ranks s) × (st.live rank ≡ false) × (st.spawned + lost_now st rank ≡ spares) = subst (λ o. LacksSpareOf o s st rank) e lacks in
    let is : lacks_of st spares rank ≡ true = (let same : ((st.spawned + lost_now st rank) == spares) ≡ true = eq-eqb (st.spawned + lost_now st rank) spares h.2 in let dead = h.1 in rw dead same) in
    true≢false (sym is ∙ none rank (omega (arith, h.0, all)))

pub no_limit : (s : Setting) (st : State) → s.spares ≡ None → (rank : ℕ) → LacksSpare s st rank → ⊥
no_limit s st e rank lacks = subst (λ o. LacksSpareOf o s st rank) e lacks

pub judged : (s : Setting) (st : State) (spares n : ℕ) (found : Option ℕ) → s.spares ≡ Some spares → n ≡ ranks s → FirstWithout st spares n found → FirstLacking s st found
judged s st spares n (Some rank) e all found = lacking s st spares rank e (omega (arith, found.0, all)) found.1
judged s st spares n None e all found = none_lacking s st spares n e all found

-- ---- grids of a list
pub grid_within : (gs : List Grid) (d : Grid) (i : ℕ) → AreGrids gs → i < length gs → IsGrid (slice_index_or gs i d)
grid_within [] d i are lt = absurd (omega arith)
grid_within (g ∷ gs) d zero are lt = are.0
grid_within (g ∷ gs) d (suc i) are lt = grid_within gs d i are.1 (omega arith)

same_there : (gs : List Grid) (d e : Grid) (i : ℕ) → i < length gs → slice_index_or gs i d ≡ slice_index_or gs i e
same_there [] d e i lt = absurd (omega arith)
same_there (g ∷ gs) d e zero lt = refl
same_there (g ∷ gs) d e (suc i) lt = same_there gs d e i (omega arith)

numbered : (s : Setting) (gs : List Grid) (d : Grid) (n : ℕ) → gs ≡ s.grids → n < length gs → slice_index_or gs n d ≡ grid_numbered s n
numbered s gs d n e lt = same_there gs d no_grid n lt ∙ ap (λ l. slice_index_or l n no_grid) e

pub grid_passed : (s : Setting) (st : State) (gs : List Grid) (d : Grid) (n : ℕ) (live : Bool) (found : Option ℕ) → gs ≡ s.grids → n < length gs → live ≡ holds_live s st n → FirstRow st (slice_index_or gs n d) live found → found ≡ None
    → ((k other : ℕ) → k < n → is_beyond_at s st k other ≡ false) → (k other : ℕ) → k < n + 1 → is_beyond_at s st k other ≡ false
grid_passed s st gs d n live found e lt is first none before =
    grids_up_to s st n before
    (rows_within s st n live is (subst (λ g. FirstRow st g live None) (numbered s gs d n e lt) (subst (λ o. FirstRow st (slice_index_or gs n d) live o) none first)))

pub grid_stopped : (s : Setting) (st : State) (gs : List Grid) (d : Grid) (n : ℕ) (live : Bool) (found : Option ℕ) (row : ℕ) → gs ≡ s.grids → n < length gs → live ≡ holds_live s st n → FirstRow st (slice_index_or gs n d) live found → found ≡ Some row
    → ((k other : ℕ) → k < n → is_beyond_at s st k other ≡ false) → IsBeyond s st n row
grid_stopped s st gs d n live found row e lt is first some before =
    row_beyond s st n live row (subst (λ l. n < length l) e lt) is (subst (λ g. FirstRow st g live (Some row)) (numbered s gs d n e lt) (subst (λ o. FirstRow st (slice_index_or gs n d) live o) some first)) before
