-- A part that is written column after column, each column at once.
use Rattle.std.proofs.Common.{◌≡◌, ℕ, Bool, ◌+◌, ◌<◌, ◌≤◌, ◌⊎◌, inl, inr, if◌then◌else◌, sym, subst, ◌∙◌, ap, arith}
use Rattle.std.proofs.lemmas.Bool.Decides.{nat_tests}
use Rattle.run_data.specs.declared.matrix.Part.{Part}
use Rattle.run_data.specs.Matrix.{Matrix, cols, entry, IsShaped, AreWords, tabulate}
use Rattle.run_data.specs.Parts.{IsWithin, in_part, patched, with_part}
use Rattle.run_data.proofs.Matrices.{tabulate-same, entry-tabulate}
use Rattle.run_data.proofs.Fills.{filled, is_passed_down, with_done, with_filled, fill_starts, fill_ends, AreWords-with_done, rows-with_done, cols-with_done}

-- column j of a part
abbrev pub column_part : Part → ℕ → Part
column_part at j = record { r0 = at.r0; r1 = at.r1; c0 = j; c1 = j + 1 }

-- the matrix with the words f in the columns of the part before j
abbrev pub with_columns : Matrix → Part → (ℕ → ℕ → ℕ) → ℕ → Matrix
with_columns a at f j = with_filled a at f at.r0 j

-- the columns before j, and then column j
column_more : (at : Part) (j : ℕ) (f g h : ℕ → ℕ → ℕ) (r c : ℕ) → at.c0 ≤ j → j < at.c1 → (at.r0 ≤ r → r < at.r1 → g r j ≡ f r j) → patched (column_part at j) g (filled at (is_passed_down at.r0 j) f h) r c ≡ filled at (is_passed_down at.r0 (j + 1)) f h r c
unfolding filled patched
column_more at j f g h r c h1 h2 same = grind (arith, nat_tests)

patched-over : (at : Part) (g h h' : ℕ → ℕ → ℕ) (r c : ℕ) → h r c ≡ h' r c → patched at g h r c ≡ patched at g h' r c
unfolding patched
patched-over at g h h' r c e = ap (λ v. if in_part at r c then g r c else v) e

column_left : (at : Part) (j : ℕ) (f h : ℕ → ℕ → ℕ) (r : ℕ) → at.r0 ≤ r → filled at (is_passed_down at.r0 j) f h r j ≡ h r j
unfolding filled
column_left at j f h r hr = grind (arith, nat_tests)

-- column j is as it was before its turn
pub columns_left : (a b : Matrix) (at : Part) (f : ℕ → ℕ → ℕ) (j r : ℕ) → b ≡ with_columns a at f j → IsWithin at a → at.r0 ≤ r → r < at.r1 → j < at.c1 → entry b r j ≡ entry a r j
columns_left a b at f j r e within h1 h2 h3 =
    ap (λ m. entry m r j) e
    ∙ entry-tabulate a.rows (cols a) (filled at (is_passed_down at.r0 j) f (entry a)) r j (omega (arith, within.rows_end)) (omega (arith, within.columns_end))
    ∙ column_left at j f (entry a) r h1

row_beside : (at : Part) (j : ℕ) (f h : ℕ → ℕ → ℕ) (r c : ℕ) → (r < at.r0) ⊎ (at.r1 ≤ r) → filled at (is_passed_down at.r0 j) f h r c ≡ h r c
unfolding filled
row_beside at j f h r c (inl above) = grind (arith, nat_tests)
row_beside at j f h r c (inr below) = grind (arith, nat_tests)

-- rows beside the part stay
pub columns_beside : (a b : Matrix) (at : Part) (f : ℕ → ℕ → ℕ) (j r c : ℕ) → b ≡ with_columns a at f j → r < a.rows → c < cols a → (r < at.r0) ⊎ (at.r1 ≤ r) → entry b r c ≡ entry a r c
columns_beside a b at f j r c e hr hc beside =
    ap (λ m. entry m r c) e ∙ entry-tabulate a.rows (cols a) (filled at (is_passed_down at.r0 j) f (entry a)) r c hr hc ∙ row_beside at j f (entry a) r c beside

-- before the first column
pub columns_start : (a : Matrix) (at : Part) (f : ℕ → ℕ → ℕ) → IsShaped a → a ≡ with_columns a at f at.c0
columns_start a at f shaped = fill_starts a at f shaped

-- one column more
pub columns_go_on : (a b b' : Matrix) (at : Part) (f g : ℕ → ℕ → ℕ) (j : ℕ) → b ≡ with_columns a at f j → b' ≡ with_part b (column_part at j) g → IsWithin at a → at.c0 ≤ j → j < at.c1 → ((r : ℕ) → at.r0 ≤ r → r < at.r1 → g r j ≡ f r j) → b' ≡ with_columns a at f (j + 1)
columns_go_on a b b' at f g j e e' within h1 h2 same =
    let done = is_passed_down at.r0 j in
    let h : ℕ → ℕ → ℕ = filled at done f (entry a) in
    let m : Matrix = with_columns a at f j in
    let words : ℕ → ℕ → ℕ = patched (column_part at j) g (entry m) in
    e' ∙ ap (λ n. with_part n (column_part at j) g) e
    ∙ ap (λ k. tabulate k (cols m) words) (rows-with_done a at done f) ∙ ap (λ k. tabulate a.rows k words) (cols-with_done a at done f)
    ∙ tabulate-same a.rows (cols a) words (filled at (is_passed_down at.r0 (j + 1)) f (entry a))
    (λ r c hr hc. patched-over (column_part at j) g (entry m) h r c (entry-tabulate a.rows (cols a) h r c hr hc)
    ∙ column_more at j f g (entry a) r c h1 h2 (same r))

-- after the last column
pub columns_end : (a b : Matrix) (at : Part) (f : ℕ → ℕ → ℕ) (j : ℕ) → b ≡ with_columns a at f j → at.c1 ≤ j → b ≡ with_part a at f
columns_end a b at f j e h = e ∙ fill_ends a at f at.r0 j h

-- words stay words
pub AreWords-columns : (p : ℕ) (a b : Matrix) (at : Part) (f : ℕ → ℕ → ℕ) (j : ℕ) → b ≡ with_columns a at f j → 0 < p → AreWords p a → ((r c : ℕ) → f r c < p) → AreWords p b
AreWords-columns p a b at f j e pos_p words small = subst (AreWords p) (sym e) (AreWords-with_done p a at (is_passed_down at.r0 j) f pos_p words small)

-- ---- parts that a loop reads and writes lie in the matrix

pub placed_within : (a : Matrix) (part : Part) (r0 r1 c0 c1 : ℕ) → part ≡ record { r0 = r0; r1 = r1; c0 = c0; c1 = c1 } → r0 ≤ r1 → r1 ≤ a.rows → c0 ≤ c1 → c1 ≤ cols a → IsWithin part a
placed_within a part r0 r1 c0 c1 e h1 h2 h3 h4 = subst (λ at. IsWithin at a) (sym e) (record { rows_ordered = h1; rows_end = h2; columns_ordered = h3; columns_end = h4 })

pub filled_within : (a b : Matrix) (at : Part) (done : ℕ → ℕ → Bool) (f : ℕ → ℕ → ℕ) (part : Part) → b ≡ with_done a at done f → IsWithin part a → IsWithin part b
filled_within a b at done f part e h = record {
  rows_ordered = h.rows_ordered;
  rows_end = subst (λ n. part.r1 ≤ n) (sym (ap (λ m. m.rows) e ∙ rows-with_done a at done f)) h.rows_end;
  columns_ordered = h.columns_ordered;
  columns_end = subst (λ n. part.c1 ≤ n) (sym (ap cols e ∙ cols-with_done a at done f)) h.columns_end;
}
