-- The records of the rounds of a matrix and of the copies of a list.
use Rattle.std.specs.Prelude.{slice_index_or, if◌then◌else◌}
use Rattle.std.proofs.Common.{◌≡◌, ℕ, zero, suc, ◌+◌, ◌*◌, ◌<◌, ◌≤◌, Bool, true, false, List, [], ◌∷◌, ◌++◌, length, refl, sym, ◌∙◌, ap, arith}
use Rattle.std.proofs.lemmas.Nat.{mul-le}
use Rattle.std.proofs.lemmas.List.FromFn.{get_or-map-range_with_len}
use Rattle.field_core.specs.Sums.{sum_to}
use Rattle.field_core.proofs.Sums.{sum_to-none, sum_to-suc, sum_to-same}
use Rattle.rank_run.specs.declared.round.Event.TheVariants.{Local, Move}
use Rattle.rank_run.specs.Rounds.{steps}
use Rattle.blacs_grid.specs.declared.Grid.{Grid}
use Rattle.blacs_grid.specs.Places.{width, rank_at}
use Rattle.rank_machine.specs.declared.slot.Slot.{Slot}
use Rattle.rank_machine.specs.declared.layout.Layout.{Layout}
use Rattle.rank_machine.specs.Setting.{Setting, layout, group_count}
use Rattle.rank_machine.specs.State.{State}
use Rattle.rank_machine.specs.Legal.{lost_columns}
use Rattle.rank_machine.specs.Losses.{lost_in}
use Rattle.rank_slots.specs.Stands.{records_of}
use Rattle.round_laws.specs.Turns.{each_below}
use Rattle.recovery_rounds.specs.Mending.{Events, copy_events}
use Rattle.recovery_rounds.specs.Rows.{row_events}
use Rattle.recovery_rounds.proofs.Counts.{count-row}
use Rattle.recovery_code.specs.Copies.{first_kept, row_copies, grid_copies}
use Rattle.run_laws.specs.Traces.{matrix_most, list_most}
use Rattle.recovery_counts.specs.Counted.{round_most, matrix_so_far, list_so_far, FewAreLost}

pub all-steps : (es : Events) → steps es ≡ length (records_of es)
all-steps [] = refl
all-steps (Local a k ∷ es) = omega (arith, all-steps es)
all-steps (Move f t a b ∷ es) = omega (arith, all-steps es)

-- ---- how many columns are lost
lost_at : (st : State) (g : Grid) (row col : ℕ) → col < width g → slice_index_or (lost_columns st g row) col false ≡ st.lost (rank_at g row col)
lost_at st g row col h = get_or-map-range_with_len (λ col. st.lost (rank_at g row col)) 0 (width g) col col false h (omega arith)

lost_sum : (st : State) (g : Grid) (row : ℕ) → sum_to (width g) (λ col. if slice_index_or (lost_columns st g row) col false then 1 else 0) ≡ lost_in st g row
lost_sum st g row =
    sum_to-same (width g) (λ col. if slice_index_or (lost_columns st g row) col false then 1 else 0) (λ col. if st.lost (rank_at g row col) then 1 else 0) (λ col h.
    ap (λ b. if b then 1 else 0) (lost_at st g row col h))

-- ---- the rounds of a matrix
pub few-round : (s : Setting) (last now : State) (line row group : ℕ) (coefficients : ℕ → List ℕ)
    → lost_in now (layout s line).grid row ≤ (layout s line).grid.f → length (records_of (row_events s last now line row group coefficients)) ≤ round_most (layout s line)
few-round s last now line row group coefficients few =
    let d = layout s line in
    let most = 9 * d.grid.q + 9 * d.grid.f + 3 in
    let lost = lost_columns now d.grid row in
    let lost_ones = sum_to (width d.grid) (λ col. if slice_index_or lost col false then 1 else 0) in
    let count : length (records_of (row_events s last now line row group coefficients)) ≤ most * lost_ones = count-row s last.mark line d row group lost coefficients in
    let are_few : lost_ones ≤ d.grid.f = omega (arith, lost_sum now d.grid row, few) in
    let times : most * lost_ones ≤ most * d.grid.f = mul-le most lost_ones most d.grid.f (omega arith) are_few in
    let turned : most * d.grid.f ≡ d.grid.f * ((9 * d.grid.q + 9 * d.grid.f) + 3) = omega arith in
    omega (arith, count, times, turned)

pub more-group : (s : Setting) (last now : State) (line row group : ℕ) (coefficients : ℕ → List ℕ)
    → lost_in now (layout s line).grid row ≤ (layout s line).grid.f → matrix_so_far (layout s line) row group + length (records_of (row_events s last now line row group coefficients)) ≤ matrix_so_far (layout s line) row (group + 1)
more-group s last now line row group coefficients few = one (row * group_count (layout s line)) group (round_most (layout s line)) (length (records_of (row_events s last now line row group coefficients))) (few-round s last now line row group coefficients few)
  where
    one : (before group most n : ℕ) → n ≤ most → (before + group) * most + n ≤ (before + (group + 1)) * most
    one before group most n h = (let more : (before + (group + 1)) * most ≡ (before + group) * most + most = omega arith in omega (arith, more, h))

pub row-ends : (d : Layout) (row : ℕ) → matrix_so_far d row (group_count d) ≡ matrix_so_far d (row + 1) 0
row-ends d row = one row (group_count d) (round_most d)
  where
    one : (row groups most : ℕ) → (row * groups + groups) * most ≡ ((row + 1) * groups + 0) * most
    one row groups most = (let same : row * groups + groups ≡ (row + 1) * groups + 0 = omega arith in ap (λ k. k * most) same)

pub row-passed : (d : Layout) (row : ℕ) → matrix_so_far d row 0 ≤ matrix_so_far d (row + 1) 0
row-passed d row = one row (group_count d) (round_most d)
  where
    one : (row groups most : ℕ) → (row * groups + 0) * most ≤ ((row + 1) * groups + 0) * most
    one row groups most =
        (let more : (row + 1) * groups ≡ row * groups + groups = omega arith in
        mul-le (row * groups + 0) most ((row + 1) * groups + 0) most (omega (arith, more)) (omega arith))

pub matrix-begins : (d : Layout) → matrix_so_far d 0 0 ≡ 0
matrix-begins d = omega arith

pub matrix-ends : (d : Layout) → matrix_so_far d d.grid.p 0 ≡ matrix_most d
matrix-ends d = one d.grid.p (group_count d) d.grid.f ((9 * d.grid.q + 9 * d.grid.f) + 3)
  where
    one : (p groups f most : ℕ) → (p * groups + 0) * (f * most) ≡ ((p * groups) * f) * most
    one p groups f most = omega arith

-- ---- the copies of a list
pub two-each : (list : Slot) (pairs : List (ℕ × ℕ)) → length (records_of (copy_events list pairs)) ≡ 2 * length pairs
two-each list [] = refl
two-each list (x ∷ xs) = omega (arith, two-each list xs)

long_append : (xs ys : List (ℕ × ℕ)) → length (xs ++ ys) ≡ length xs + length ys
long_append [] ys = omega arith
long_append (x ∷ xs) ys = omega (arith, long_append xs ys)

each_one : (n : ℕ) (is : ℕ → Bool) (f : ℕ → ℕ × ℕ) → length (each_below n (λ i. if is i then f i ∷ [] else [])) ≡ sum_to n (λ i. if is i then 1 else 0)
each_one zero is f = sym (sum_to-none (λ i. if is i then 1 else 0))
each_one (suc n) is f =
    omega (arith, long_append (each_below n (λ i. if is i then f i ∷ [] else [])) (if is n then f n ∷ [] else []), each_one n is f, sum_to-suc n (λ i. if is i then 1 else 0), one (is n) (f n))
  where
    one : (b : Bool) (x : ℕ × ℕ) → length (if b then x ∷ [] else []) ≡ (if b then 1 else 0)
    one true x = refl
    one false x = refl

pub copy-each : (now : State) (d : Layout) (row : ℕ) → length (row_copies d.grid row (lost_columns now d.grid row)) ≡ lost_in now d.grid row
copy-each now d row =
    let g = d.grid in
    let lost = lost_columns now g row in
    each_one (width g) (λ col. slice_index_or lost col false) (λ col. (rank_at g row (first_kept lost), rank_at g row col)) ∙ lost_sum now g row

pub more-copies : (now : State) (d : Layout) (list : Slot) (row : ℕ) → lost_in now d.grid row ≤ d.grid.f
    → list_so_far d row + length (records_of (copy_events list (row_copies d.grid row (lost_columns now d.grid row)))) ≤ list_so_far d (row + 1)
more-copies now d list row few =
    let more : list_so_far d (row + 1) ≡ list_so_far d row + 2 * d.grid.f = omega arith in
    let pairs = row_copies d.grid row (lost_columns now d.grid row) in
    omega (arith, more, two-each list pairs, copy-each now d row, few)

rows_long : (n most : ℕ) (f : ℕ → List (ℕ × ℕ)) → ((i : ℕ) → i < n → length (f i) ≤ most) → length (each_below n f) ≤ n * most
rows_long zero most f h = omega arith
rows_long (suc n) most f h =
    let more : suc n * most ≡ n * most + most = omega arith in
    omega (arith, long_append (each_below n f) (f n), rows_long n most f (λ i lt. h i (omega arith)), h n (omega arith), more)

pub few-copies : (now : State) (d : Layout) (list : Slot) → FewAreLost now d → length (records_of (copy_events list (grid_copies now d.grid))) ≤ list_most d
few-copies now d list few =
    let pairs = grid_copies now d.grid in
    let long : length pairs ≤ d.grid.p * d.grid.f = rows_long d.grid.p d.grid.f (λ row. row_copies d.grid row (lost_columns now d.grid row)) (λ row h. omega (arith, copy-each now d row, few row h)) in
    let turned : (2 * d.grid.p) * d.grid.f ≡ 2 * (d.grid.p * d.grid.f) = omega arith in
    omega (arith, two-each list pairs, long, turned)
