-- The copies of a list in the process rows of a grid reach all ranks that were lost, from ranks that were not.
use Rattle.std.specs.Prelude.{slice_index_or, if◌then◌else◌, count_by}
use Rattle.std.proofs.Common.{◌≡◌, ℕ, zero, suc, ◌+◌, ◌<◌, ◌≤◌, Bool, true, false, cond, List, [], ◌∷◌, ◌++◌, length, refl, sym, ◌∙◌, ap, subst, arith, inl, inr}
use Rattle.std.proofs.lemmas.Bool.{cases_lt, true≢false}
use Rattle.std.proofs.lemmas.List.{append_assoc}
use Rattle.std.proofs.lemmas.List.Sums.{sum_by-cons}
use Rattle.std.proofs.lemmas.List.FromFn.{length-map-range_with_len, get_or-map-range_with_len}
use Rattle.blacs_grid.specs.declared.Grid.{Grid}
use Rattle.blacs_grid.specs.Limits.{IsGrid}
use Rattle.blacs_grid.specs.Places.{width, row_of, col_of, rank_at, is_member}
use Rattle.blacs_grid.proofs.PlaceLaws.{width-pos, row_of-lt, col_of-lt, rank_at-coords, is_member-rank_at}
use Rattle.rank_run.specs.declared.round.Event.TheVariants.{Move}
use Rattle.rank_machine.specs.declared.slot.Slot.{Slot}
use Rattle.rank_machine.specs.declared.slot.Piece.TheVariants as piece
use Rattle.rank_machine.specs.State.{State}
use Rattle.rank_machine.specs.Legal.{lost_columns}
use Rattle.rank_machine.specs.Losses.{lost_in}
use Rattle.round_laws.specs.Turns.{each_below}
use Rattle.recovery_laws.proofs.Factored.{count-lost}
use Rattle.recovery_rounds.specs.Mending.{Events, IsCopiedTo, copy_events}
use Rattle.recovery_rounds.specs.Rows.{GoToLost, ReachAllLost}
use Rattle.recovery_code.specs.Copies.{first_kept, row_copies, grid_copies}

-- ---- the first column that was not lost
kept_first : (lost : List Bool) → first_kept lost < length lost → slice_index_or lost (first_kept lost) false ≡ false
kept_first [] h = absurd (omega arith)
kept_first (true ∷ bs) h = kept_first bs (omega arith)
kept_first (false ∷ bs) h = refl

some_kept : (lost : List Bool) → count_by (λ b. b) lost < length lost → first_kept lost < length lost
some_kept [] h = absurd (omega arith)
some_kept (true ∷ bs) h = (let one : count_by (λ b. b) (true ∷ bs) ≡ 1 + count_by (λ b. b) bs = sum_by-cons (λ b. cond b 1 0) true bs in let rest = some_kept bs (omega arith) in omega (arith, rest))
some_kept (false ∷ bs) h = omega arith

columns : (st : State) (g : Grid) (row : ℕ) → length (lost_columns st g row) ≡ width g
columns st g row = length-map-range_with_len (λ col. st.lost (rank_at g row col)) 0 (width g)

lost_at : (st : State) (g : Grid) (row col : ℕ) → col < width g → slice_index_or (lost_columns st g row) col false ≡ st.lost (rank_at g row col)
lost_at st g row col h = get_or-map-range_with_len (λ col. st.lost (rank_at g row col)) 0 (width g) col col false h (omega arith)

pub row-kept : (st : State) (g : Grid) (row : ℕ) → IsGrid g → lost_in st g row ≤ g.f → first_kept (lost_columns st g row) < width g
row-kept st g row grid few =
    let n = columns st g row in
    let count = count-lost st g row in
    let kept = some_kept (lost_columns st g row) (omega (arith, n, count, few, grid.some_columns)) in
    omega (arith, kept, n)

-- ---- lists of copies
go_append : (now : State) (g : Grid) (xs ys : List (ℕ × ℕ)) → GoToLost now g xs → GoToLost now g ys → GoToLost now g (xs ++ ys)
go_append now g [] ys h k = k
go_append now g (x ∷ xs) ys h k = (h.0, go_append now g xs ys h.1 k)

go_each : (now : State) (g : Grid) (n : ℕ) (f : ℕ → List (ℕ × ℕ)) → ((i : ℕ) → i < n → GoToLost now g (f i)) → GoToLost now g (each_below n f)
go_each now g zero f h = tt
go_each now g (suc n) f h = go_append now g (each_below n f) (f n) (go_each now g n f (λ i lt. h i (omega arith))) (h n (omega arith))

go_one : (now : State) (g : Grid) (wanted : Bool) (from to : ℕ) → (wanted ≡ true → (is_member g from ≡ true) × (now.lost from ≡ false) × (is_member g to ≡ true) × (now.lost to ≡ true)) → GoToLost now g (if wanted then (from, to) ∷ [] else [])
go_one now g true from to h = (h refl, tt)
go_one now g false from to h = tt

reach_left : (r : ℕ) (xs ys : List (ℕ × ℕ)) → IsCopiedTo r xs → IsCopiedTo r (xs ++ ys)
reach_left r [] ys h = absurd h
reach_left r (x ∷ xs) ys (inl e) = inl e
reach_left r (x ∷ xs) ys (inr h) = inr (reach_left r xs ys h)

reach_right : (r : ℕ) (xs ys : List (ℕ × ℕ)) → IsCopiedTo r ys → IsCopiedTo r (xs ++ ys)
reach_right r [] ys h = h
reach_right r (x ∷ xs) ys h = inr (reach_right r xs ys h)

reach_each : (r n : ℕ) (f : ℕ → List (ℕ × ℕ)) (i : ℕ) → i < n → IsCopiedTo r (f i) → IsCopiedTo r (each_below n f)
reach_each r zero f i lt h = absurd (omega arith)
reach_each r (suc n) f i lt h =
    elim (cases_lt i n) [
      | inl early ↦ reach_left r (each_below n f) (f n) (reach_each r n f i early h)
      | inr late ↦ (let same : i ≡ n = omega arith in reach_right r (each_below n f) (f n) (subst (λ k. IsCopiedTo r (f k)) same h))
    ]

reach_one : (wanted : Bool) (from to r : ℕ) → wanted ≡ true → r ≡ to → IsCopiedTo r (if wanted then (from, to) ∷ [] else [])
reach_one true from to r e h = inl h
reach_one false from to r e h = absurd (cc)

pub all-reached : (now : State) (g : Grid) → IsGrid g → ((row : ℕ) → row < g.p → first_kept (lost_columns now g row) < width g) → ReachAllLost now g (grid_copies now g)
all-reached now g grid kept =
    record {
      go = go_each now g g.p (λ row. row_copies g row (lost_columns now g row)) (λ row hr.
          (let lost = lost_columns now g row in
          let first = first_kept lost in
          let first_in : first < width g = kept row hr in
          go_each now g (width g) (λ col. if slice_index_or lost col false then (rank_at g row first, rank_at g row col) ∷ [] else []) (λ col hc.
          go_one now g (slice_index_or lost col false) (rank_at g row first) (rank_at g row col) (λ is_lost. (
            is_member-rank_at g row first hr first_in,
            sym (lost_at now g row first first_in) ∙ kept_first lost (omega (arith, first_in, columns now g row)),
            is_member-rank_at g row col hr hc,
            sym (lost_at now g row col hc) ∙ is_lost,
          )))));
      each = λ r m is_lost.
          (let row = row_of g r in
          let col = col_of g r in
          let lost = lost_columns now g row in
          let hr : row < g.p = row_of-lt g r (width-pos g grid) m in
          let hc : col < width g = col_of-lt g r (width-pos g grid) in
          let at : rank_at g row col ≡ r = rank_at-coords g r m in
          reach_each r g.p (λ k. row_copies g k (lost_columns now g k)) row hr
          (reach_each r (width g) (λ c. if slice_index_or lost c false then (rank_at g row (first_kept lost), rank_at g row c) ∷ [] else []) col hc
          (reach_one (slice_index_or lost col false) (rank_at g row (first_kept lost)) (rank_at g row col) r (lost_at now g row col hc ∙ (ap now.lost at ∙ is_lost)) (sym at))));
    }

-- ---- one column after another
pub copy-apart : (g : Grid) (lost : List Bool) (first col from to : ℕ) → first ≡ first_kept lost → first_kept lost < length lost → col_of g from ≡ first → col_of g to ≡ col → slice_index_or lost col false ≡ true → from ≡ to → ⊥
copy-apart g lost first col from to is inside a b is_lost same =
    let e : first_kept lost ≡ col = sym is ∙ (sym a ∙ (ap (col_of g) same ∙ b)) in
    true≢false (sym is_lost ∙ (ap (λ k. slice_index_or lost k false) (sym e) ∙ kept_first lost inside))

copies_append : (list : Slot) (xs ys : List (ℕ × ℕ)) → copy_events list (xs ++ ys) ≡ copy_events list xs ++ copy_events list ys
copies_append list [] ys = refl
copies_append list (x ∷ xs) ys = ap (λ l. Move x.0 x.1 (piece.Whole list) (piece.Whole list) ∷ l) (copies_append list xs ys)

pub copy-next : (list : Slot) (old before now : Events) (n : ℕ) (f : ℕ → List (ℕ × ℕ)) (here : List (ℕ × ℕ)) → before ≡ old ++ copy_events list (each_below n f) → now ≡ before ++ copy_events list here → here ≡ f n → now ≡ old ++ copy_events list (each_below (n + 1) f)
copy-next list old before now n f here e e' is =
    let next : n + 1 ≡ suc n = omega arith in
    rw next (e' ∙ ((λ i. e i ++ copy_events list (is i)) ∙ (append_assoc old (copy_events list (each_below n f)) (copy_events list (f n)) ∙ ap (λ l. old ++ l) (sym (copies_append list (each_below n f) (f n))))))
