-- The loop that eliminates a column: first the multipliers, then the columns right of it.
use Rattle.std.proofs.Common.{◌≡◌, ◌≢◌, ℕ, ◌==◌, ◌&&◌, if◌then◌else◌, nat_le, Bool, true, false, ◌+◌, ◌-◌, ◌*◌, ◌%◌, ◌<◌, ◌≤◌, refl, sym, ◌∙◌, ap, arith, eq-eqb}
use Rattle.std.proofs.Math.Nat.{mod-lt, le_refl}
use Rattle.std.proofs.lemmas.Bool.{ne_eqb}
use Rattle.std.proofs.lemmas.Bool.Decides.{nat_tests}
use Rattle.run_data.specs.declared.matrix.Part.{Part}
use Rattle.run_data.specs.Matrix.{Matrix, cols, entry, IsShaped}
use Rattle.run_data.specs.Parts.{IsWithin, patched, with_part, part_entry, whole_part}
use Rattle.run_data.proofs.Matrices.{tabulate-same}
use Rattle.run_data.proofs.Fills.{fill_reads_before}
use Rattle.local_blas.specs.Kernels.{with_scaled, multiplier, eliminated_word, with_eliminated}
use Rattle.run_data.proofs.Columns.{column_part, with_columns, columns_start, columns_left, columns_go_on}
use Rattle.local_blas.proofs.Steps.{loses_product}

-- the rows from `from` on and the columns from j on
abbrev pub part_below : Matrix → ℕ → ℕ → Part
part_below a from j = record { r0 = from; r1 = a.rows; c0 = j; c1 = cols a }

pub IsWithin-part_below : (a : Matrix) (from j : ℕ) → from ≤ a.rows → j < cols a → IsWithin (part_below a from j) a
IsWithin-part_below a from j h k = record { rows_ordered = h; rows_end = le_refl a.rows; columns_ordered = omega arith; columns_end = le_refl (cols a) }

-- the pivot row as a matrix of one row
pub first_row : (a : Matrix) (k : ℕ) → part_entry a (whole_part a) 0 k ≡ entry a 0 k
first_row a k = ap (entry a 0) (let e : 0 + k ≡ k = omega arith in e)

-- in the pivot's column stands the multiplier
pub eliminated_word-first : (p : ℕ) (inverse : ℕ → ℕ) (a : Matrix) (j : ℕ) (row : ℕ → ℕ) (i : ℕ) → eliminated_word p inverse a j row i j ≡ multiplier p inverse a j (row j) i
eliminated_word-first p inverse a j row i = (let t : (j == j) ≡ true = eq-eqb j j refl in rw t refl)

-- right of it stands what is left
pub eliminated_word-later : (p : ℕ) (inverse : ℕ → ℕ) (a : Matrix) (j : ℕ) (row : ℕ → ℕ) (i k : ℕ) → j < k → eliminated_word p inverse a j row i k ≡ (entry a i k + (p - 1) * (multiplier p inverse a j (row j) i * row k)) % p
eliminated_word-later p inverse a j row i k h = (let other : k ≢ j = omega arith in let t : (k == j) ≡ false = ne_eqb k j other in rw t refl)

pub multiplier-below : (p : ℕ) (inverse : ℕ → ℕ) (a : Matrix) (j pivot i : ℕ) → 0 < p → multiplier p inverse a j pivot i < p
multiplier-below p inverse a j pivot i pos_p = mod-lt (entry a i j * inverse pivot) pos_p

choice-below : (t : Bool) (p x y : ℕ) → x < p → y < p → (if t then x else y) < p
choice-below true p x y hx hy = hx
choice-below false p x y hx hy = hy

pub eliminated_word-below : (p : ℕ) (inverse : ℕ → ℕ) (a : Matrix) (j : ℕ) (row : ℕ → ℕ) (i k : ℕ) → 0 < p → eliminated_word p inverse a j row i k < p
eliminated_word-below p inverse a j row i k pos_p =
    choice-below (k == j) p (multiplier p inverse a j (row j) i) ((entry a i k + (p - 1) * (multiplier p inverse a j (row j) i * row k)) % p)
    (multiplier-below p inverse a j (row j) i pos_p) (mod-lt (entry a i k + (p - 1) * (multiplier p inverse a j (row j) i * row k)) pos_p)

-- the multiplier as it is computed
pub eliminated_first : (p : ℕ) (inverse : ℕ → ℕ) (a : Matrix) (j : ℕ) (row : ℕ → ℕ) (i x d d' y : ℕ) → x ≡ entry a i j → d ≡ row j → d' ≡ inverse d → y ≡ (x * d') % p → y ≡ eliminated_word p inverse a j row i j
eliminated_first p inverse a j row i x d d' y ex ed ed' ey =
    ey ∙ ap (λ n. (n * d') % p) ex ∙ ap (λ n. (entry a i j * n) % p) (ed' ∙ ap inverse ed) ∙ sym (eliminated_word-first p inverse a j row i)

-- what is left, as it is computed
pub eliminated_later : (p : ℕ) (inverse : ℕ → ℕ) (a : Matrix) (j : ℕ) (row : ℕ → ℕ) (i k x m r n y : ℕ) → j < k → r < p → x ≡ entry a i k → m ≡ eliminated_word p inverse a j row i j → r ≡ row k → n ≡ (p - r) % p → y ≡ (x + m * n) % p → y ≡ eliminated_word p inverse a j row i k
eliminated_later p inverse a j row i k x m r n y h word ex em er en ey =
    loses_product p (entry a i k) m r n y word en (ey ∙ ap (λ w. (w + m * n) % p) ex)
    ∙ ap (λ w. (entry a i k + (p - 1) * (w * r)) % p) (em ∙ eliminated_word-first p inverse a j row i)
    ∙ ap (λ w. (entry a i k + (p - 1) * (multiplier p inverse a j (row j) i * w)) % p) er ∙ sym (eliminated_word-later p inverse a j row i k h)

patched-part_below : (a : Matrix) (from j : ℕ) (f g : ℕ → ℕ → ℕ) (r c : ℕ) → r < a.rows → c < cols a → patched (part_below a from j) f g r c ≡ (if nat_le from r && nat_le j c then f r c else g r c)
unfolding patched
patched-part_below a from j f g r c hr hc = grind (arith, nat_tests)

-- the whole part below and right of the pivot is done
pub with_eliminated_is : (p : ℕ) (inverse : ℕ → ℕ) (a : Matrix) (from j : ℕ) (row : Matrix) (rp : Part) → with_part a (part_below a from j) (eliminated_word p inverse a j (part_entry row rp 0)) ≡ with_eliminated p inverse a (nat_le from) j row rp
with_eliminated_is p inverse a from j row rp =
    let f : ℕ → ℕ → ℕ = eliminated_word p inverse a j (part_entry row rp 0) in
    tabulate-same a.rows (cols a) (patched (part_below a from j) f (entry a)) (λ r c. if nat_le from r && nat_le j c then f r c else entry a r c)
    (λ r c hr hc. patched-part_below a from j f (entry a) r c hr hc)

-- after the multipliers
pub eliminate_starts : (p : ℕ) (inverse : ℕ → ℕ) (a b : Matrix) (from j : ℕ) (row : ℕ → ℕ) (d d' : ℕ) → IsShaped a → from ≤ a.rows → j < cols a → d ≡ row j → d' ≡ inverse d → b ≡ with_scaled p a (column_part (part_below a from j) j) d' → b ≡ with_columns a (part_below a from j) (eliminated_word p inverse a j row) (j + 1)
eliminate_starts p inverse a b from j row d d' shaped h k ed ed' e =
    columns_go_on a a b (part_below a from j) (eliminated_word p inverse a j row) (λ r c. (entry a r c * d') % p) j (columns_start a (part_below a from j) (eliminated_word p inverse a j row) shaped) e
    (IsWithin-part_below a from j h k) (le_refl j) k
    (λ r _ _. eliminated_first p inverse a j row r (entry a r j) d d' ((entry a r j * d') % p) refl ed ed' refl)

-- after one column more
pub eliminate_goes_on : (p : ℕ) (inverse : ℕ → ℕ) (a b b' : Matrix) (from j k : ℕ) (row : ℕ → ℕ) (r n : ℕ) → from ≤ a.rows → j < k → k < cols a → r < p → r ≡ row k → n ≡ (p - r) % p → b ≡ with_columns a (part_below a from j) (eliminated_word p inverse a j row) k → b' ≡ with_part b (column_part (part_below a from j) k) (λ i c. (entry b i c + entry b i j * n) % p) → b' ≡ with_columns a (part_below a from j) (eliminated_word p inverse a j row) (k + 1)
eliminate_goes_on p inverse a b b' from j k row r n h1 h2 h3 word er en e e' =
    let at : Part = part_below a from j in
    let f : ℕ → ℕ → ℕ = eliminated_word p inverse a j row in
    let within : IsWithin at a = IsWithin-part_below a from j h1 (omega arith) in
    columns_go_on a b b' at f (λ i c. (entry b i c + entry b i j * n) % p) k e e' within (omega arith) h3
    (λ i h4 h5. eliminated_later p inverse a j row i k (entry b i k) (entry b i j) r n ((entry b i k + entry b i j * n) % p) h2 word
    (columns_left a b at f k i e within h4 h5 h3)
    (fill_reads_before a b at f from k i j (entry b i j) e refl within h4 h5 (le_refl j) h2 (omega arith)) er en refl)
