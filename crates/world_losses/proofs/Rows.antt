-- The lost ranks of a process row, column after column.
use Rattle.std.proofs.Common.{◌≡◌, ℕ, suc, ◌+◌, Bool, true, false, if◌then◌else◌, List, [], ◌∷◌, ◌++◌, map, sym, ◌∙◌, ap, arith}
use Rattle.std.specs.List.{range_with_len}
use Rattle.std.proofs.lemmas.List.FromFn.{map-range_with_len_more}
use Rattle.field_core.specs.Sums.{sum_to}
use Rattle.field_core.proofs.Sums.{sum_to-none, sum_to-suc}
use Rattle.blacs_grid.specs.declared.Grid.{Grid}
use Rattle.blacs_grid.specs.Places.{rank_at}
use Rattle.rank_machine.specs.State.{State}

-- how many of the first columns are lost, and which
abbrev pub lost_before : State → Grid → ℕ → ℕ → ℕ
lost_before st g row n = sum_to n (λ col. if st.lost (rank_at g row col) then 1 else 0)

abbrev pub columns_before : State → Grid → ℕ → ℕ → List Bool
columns_before st g row n = map (λ col. st.lost (rank_at g row col)) (range_with_len 0 n)

pub none_lost : (st : State) (g : Grid) (row : ℕ) → 0 ≡ lost_before st g row 0
none_lost st g row = sym (sum_to-none (λ col. if st.lost (rank_at g row col) then 1 else 0))

next_lost : (st : State) (g : Grid) (row n lost : ℕ) (here : Bool) → lost ≡ lost_before st g row n → here ≡ st.lost (rank_at g row n) → lost + (if here then 1 else 0) ≡ lost_before st g row (n + 1)
next_lost st g row n lost here e is =
    let f : ℕ → ℕ = λ col. if st.lost (rank_at g row col) then 1 else 0 in
    let next : n + 1 ≡ suc n = omega arith in
    let one : (if here then 1 else 0) ≡ f n = ap (λ b. if b then 1 else 0) is in
    let all : lost_before st g row (n + 1) ≡ sum_to n f + f n = ap (λ k. sum_to k f) next ∙ sum_to-suc n f in
    omega (arith, e, one, all)

pub one_more_lost : (st : State) (g : Grid) (row n lost : ℕ) (here : Bool) → lost ≡ lost_before st g row n → here ≡ st.lost (rank_at g row n) → here ≡ true → lost + 1 ≡ lost_before st g row (n + 1)
one_more_lost st g row n lost here e is yes_lost = ap (λ b. lost + (if b then 1 else 0)) (sym yes_lost) ∙ next_lost st g row n lost here e is

pub none_more_lost : (st : State) (g : Grid) (row n lost : ℕ) (here : Bool) → lost ≡ lost_before st g row n → here ≡ st.lost (rank_at g row n) → here ≡ false → lost ≡ lost_before st g row (n + 1)
none_more_lost st g row n lost here e is not_lost = (let same : lost ≡ lost + 0 = omega arith in same) ∙ ap (λ b. lost + (if b then 1 else 0)) (sym not_lost) ∙ next_lost st g row n lost here e is

pub one_more_column : (st : State) (g : Grid) (row n : ℕ) (items : List Bool) (here : Bool) → items ≡ columns_before st g row n → here ≡ st.lost (rank_at g row n) → items ++ here ∷ [] ≡ columns_before st g row (n + 1)
one_more_column st g row n items here e is =
    (λ i. e i ++ is i ∷ []) ∙ sym (map-range_with_len_more (λ col. st.lost (rank_at g row col)) 0 n n (omega arith))
