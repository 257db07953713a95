-- Which rows a kernel reaches.
use Rattle.std.proofs.Common.{◌≡◌, ◌+◌, ◌-◌, ◌*◌, ◌%◌, ◌<◌, ◌≤◌, ◌==◌, ◌&&◌, ℕ, Bool, true, false, nat_lt, nat_le, sym, ap, subst, ◌∙◌, arith, ⊎_elim}
use Rattle.std.specs.Prelude.{if◌then◌else◌}
use Rattle.std.proofs.lemmas.Nat.{mod_below}
use Rattle.std.proofs.lemmas.Bool.{cases_lt, lt-ltb, le-ltb, lt-leb, le-leb, eq-eqb}
use Rattle.run_data.specs.declared.matrix.Part.{Part}
use Rattle.std.proofs.lemmas.Bool.Decides.{nat_tests}
use Rattle.run_data.specs.Matrix.{Matrix, cols, entry, IsShaped, tabulate, zero_matrix}
use Rattle.run_data.specs.Parts.{IsWithin, part_entry, patched, with_part}
use Rattle.run_data.proofs.Matrices.{tabulate-same, cols-tabulate, entry-tabulate, entry-past, entry-past_columns}
use Rattle.run_data.proofs.Fills.{filled, is_passed_down, with_filled, rows-with_done, cols-with_done}
use Rattle.local_blas.specs.Kernels.{multiplier, with_eliminated}
use Rattle.array_desc.specs.Maps.{global, numroc}
use Rattle.array_desc.proofs.CountLaws.{global-lt, local-lt_from_global}
use Rattle.rank_machine.specs.declared.layout.Layout.{Layout}
use Rattle.rank_machine.specs.Setting.{global_row, global_col}
use Rattle.rank_slots.specs.Shapes.{is_in_triangle}
use Rattle.rank_memory.specs.Places.{column_in}

-- global rows rise with local ones
pub global-rises : (k l nb proc src procs : ℕ) → 0 < nb → src < procs → proc < procs → k ≤ l → global k nb proc src procs ≤ global l nb proc src procs
global-rises k l nb proc src procs b s p h =
    let x : l < numroc (global l nb proc src procs + 1) nb proc src procs = local-lt_from_global l (global l nb proc src procs + 1) nb proc src procs b s p (omega arith) in
    let y : global k nb proc src procs < global l nb proc src procs + 1 = global-lt k (global l nb proc src procs + 1) nb proc src procs b s p (omega (arith, x, h)) in
    omega (arith, y)

-- one row more below a limit
pub one_more_below : (f : ℕ → ℕ) (count limit : ℕ) → ((i : ℕ) → i < count → f i < limit) → f count < limit → (i : ℕ) → i < count + 1 → f i < limit
one_more_below f count limit below here i lt =
    ⊎_elim
    (λ (h : i < count). below i h)
    (λ (h : count ≤ i). let e : i ≡ count = omega arith in subst (λ n. f n < limit) (sym e) here)
    (cases_lt i count)

-- rows before an end, by their global rows
pub before_end : (i e g c : ℕ) → (i < e → g < c + 1) → (e ≤ i → c + 1 ≤ g) → nat_lt i e ≡ nat_le g c
before_end i e g c below above =
    ⊎_elim
    (λ (h : i < e). let k : g ≤ c = omega (arith, below h) in lt-ltb i e h ∙ sym (le-leb g c k))
    (λ (h : e ≤ i). let k : c < g = omega (arith, above h) in le-ltb i e h ∙ sym (lt-leb g c k))
    (cases_lt i e)

-- rows from an end on
pub from_end : (i e g c : ℕ) → (i < e → g < c + 1) → (e ≤ i → c + 1 ≤ g) → nat_le e i ≡ nat_lt c g
from_end i e g c below above =
    ⊎_elim
    (λ (h : i < e). let k : g ≤ c = omega (arith, below h) in lt-leb e i h ∙ sym (le-ltb c g k))
    (λ (h : e ≤ i). let k : c < g = omega (arith, above h) in le-leb e i h ∙ sym (lt-ltb c g k))
    (cases_lt i e)

-- a row of a triangle, by the end of its rows
in_triangle : (d : Layout) (rank : ℕ) (upper : Bool) (block i j e : ℕ) → (i < e → global_row d rank i < global_col d block j + 1) → (e ≤ i → global_col d block j + 1 ≤ global_row d rank i) → (if upper then nat_lt i e else nat_le e i) ≡ is_in_triangle d rank upper block i j
in_triangle d rank true block i j e below above = before_end i e (global_row d rank i) (global_col d block j) below above
in_triangle d rank false block i j e below above = from_end i e (global_row d rank i) (global_col d block j) below above

pub is_reached : (d : Layout) (rank : ℕ) (upper : Bool) (block i j e rows limit r0 c0 : ℕ) → limit ≡ block * d.desc.nb + j + 1 → i < rows → r0 ≤ i → c0 ≤ j
    → ((k : ℕ) → k < e → global_row d rank k < limit) → ((k : ℕ) → e ≤ k → k < rows → limit ≤ global_row d rank k)
    → (if upper then nat_lt i e else nat_le e i) ≡ is_in_triangle d rank upper block (r0 + (i - r0)) (c0 + (j - c0))
is_reached d rank upper block i j e rows limit r0 c0 is lt r c below above =
    let x : i ≡ r0 + (i - r0) = omega arith in
    let y : j ≡ c0 + (j - c0) = omega arith in
    in_triangle d rank upper block i j e (λ h. omega (arith, below i h, is)) (λ h. omega (arith, above i h lt, is))
    ∙ (λ n. is_in_triangle d rank upper block (x n) (y n))

-- a word that gains a multiple of another where a test holds
pub gains_where : (p x x' a y y' new : ℕ) (b b' : Bool) → new ≡ (if b then (x + a * y) % p else x) → b ≡ b' → x ≡ x' → y ≡ y' → new ≡ (if b' then (x' + a * y') % p else x')
gains_where p x x' a y y' new b b' e t u v = e ∙ (λ n. if t n then (u n + a * v n) % p else u n)

pub below_if : (p x y : ℕ) (b : Bool) → x < p → (if b then y % p else x) < p
below_if p x y true h = mod_below y p (omega (arith, h))
below_if p x y false h = h

-- a column of a part lies where the part does
pub column_within : (at : Part) (a : Matrix) (j : ℕ) → IsWithin at a → j < at.c1 → IsWithin (column_in at j) a
column_within at a j within h = record { rows_ordered = within.rows_ordered; rows_end = within.rows_end; columns_ordered = omega arith; columns_end = omega (arith, h, within.columns_end) }

-- a part lies in a matrix that is being filled
pub filled_within : (a : Matrix) (at : Part) (f : ℕ → ℕ → ℕ) (i j : ℕ) → IsWithin at a → IsWithin at (with_filled a at f i j)
filled_within a at f i j within = record {
  rows_ordered = within.rows_ordered;
  rows_end = subst (λ n. at.r1 ≤ n) (sym (rows-with_done a at (is_passed_down i j) f)) within.rows_end;
  columns_ordered = within.columns_ordered;
  columns_end = subst (λ n. at.c1 ≤ n) (sym (cols-with_done a at (is_passed_down i j) f)) within.columns_end;
}

pub column_still_within : (a b : Matrix) (at : Part) (j : ℕ) (f : ℕ → ℕ → ℕ) (i : ℕ) → b ≡ with_filled a (column_in at j) f i j → IsWithin at a → j < at.c1 → IsWithin (column_in at j) b
column_still_within a b at j f i is within h = subst (IsWithin (column_in at j)) (sym is) (filled_within a (column_in at j) f i j (column_within at a j within h))

-- a word of a column that is not filled yet
not_passed : (at : Part) (f h : ℕ → ℕ → ℕ) (r c : ℕ) → at.r0 ≤ r → filled at (is_passed_down at.r0 c) f h r c ≡ h r c
unfolding filled
not_passed at f h r c low = grind (arith, nat_tests)

pub column_left : (a : Matrix) (at : Part) (f : ℕ → ℕ → ℕ) (r c : ℕ) → IsWithin at a → at.r0 ≤ r → r < at.r1 → c < at.c1 → entry (with_filled a at f at.r0 c) r c ≡ entry a r c
column_left a at f r c within low high last =
    entry-tabulate a.rows (cols a) (filled at (is_passed_down at.r0 c) f (entry a)) r c (omega (arith, high, within.rows_end)) (omega (arith, last, within.columns_end)) ∙ not_passed at f (entry a) r c low

-- a word, where one column more is filled
one_column : (at : Part) (f g h k : ℕ → ℕ → ℕ) (j r c : ℕ) → at.c0 ≤ j → j < at.c1 → k r c ≡ filled at (is_passed_down at.r0 j) f h r c → (at.r0 ≤ r → r < at.r1 → c ≡ j → g r c ≡ f r c)
    → patched (column_in at j) g k r c ≡ filled at (is_passed_down at.r0 (j + 1)) f h r c
unfolding patched filled
one_column at f g h k j r c low high e same = grind (arith, nat_tests)

pub column_filled : (a b b' : Matrix) (at : Part) (f g : ℕ → ℕ → ℕ) (j : ℕ) → b ≡ with_filled a at f at.r0 j → b' ≡ with_part b (column_in at j) g → IsWithin at a → at.c0 ≤ j → j < at.c1
    → ((r : ℕ) → at.r0 ≤ r → r < at.r1 → g r j ≡ f r j) → b' ≡ with_filled a at f at.r0 (j + 1)
column_filled a b b' at f g j is e within low high same =
    let w : Matrix = with_filled a at f at.r0 j in
    e
    ∙ ap (λ m. with_part m (column_in at j) g) is
    ∙ ap (λ k. tabulate k (cols w) (patched (column_in at j) g (entry w))) (rows-with_done a at (is_passed_down at.r0 j) f)
    ∙ ap (λ k. tabulate a.rows k (patched (column_in at j) g (entry w))) (cols-with_done a at (is_passed_down at.r0 j) f)
    ∙ tabulate-same a.rows (cols a) (patched (column_in at j) g (entry w)) (filled at (is_passed_down at.r0 (j + 1)) f (entry a))
    (λ r c x y. one_column at f g (entry a) (entry w) j r c low high (entry-tabulate a.rows (cols a) (filled at (is_passed_down at.r0 j) f (entry a)) r c x y)
    (λ u v z. subst (λ n. g r n ≡ f r n) (sym z) (same r u v)))

-- the same rows below, and the same pivot row
pub with_eliminated-same : (p : ℕ) (inverse : ℕ → ℕ) (a : Matrix) (f g : ℕ → Bool) (j : ℕ) (row : Matrix) (rp : Part) (row' : Matrix) (rp' : Part) → j < cols a
    → ((i : ℕ) → i < a.rows → f i ≡ g i) → ((k : ℕ) → k < cols a → part_entry row rp 0 k ≡ part_entry row' rp' 0 k)
    → with_eliminated p inverse a f j row rp ≡ with_eliminated p inverse a g j row' rp'
with_eliminated-same p inverse a f g j row rp row' rp' lt below same =
    tabulate-same a.rows (cols a) _ _
    (λ i k x y. let t = below i x in let u = same j lt in let v = same k y in
    λ n. if t n && nat_le j k then (if k == j then multiplier p inverse a j (u n) i else (entry a i k + (p - 1) * (multiplier p inverse a j (u n) i * v n)) % p) else entry a i k)

-- words that are not there count as zero
pub past_rows : (m : Matrix) (i j : ℕ) → IsShaped m → m.rows ≤ i → true ≡ (entry m i j == 0)
past_rows m i j shaped h = sym (eq-eqb (entry m i j) 0 (entry-past m shaped i j h))

pub past_columns : (m : Matrix) (i j : ℕ) → cols m ≤ j → true ≡ (entry m i j == 0)
past_columns m i j h = sym (eq-eqb (entry m i j) 0 (entry-past_columns m i j h))

pub nothing : (i j : ℕ) → true ≡ (entry (zero_matrix 0 0) i j == 0)
nothing i j = past_columns (zero_matrix 0 0) i j (omega (arith, cols-tabulate 0 0 (λ r c. 0)))
