-- Rows that become columns one after another.
use Rattle.std.proofs.Common.{◌≡◌, ℕ, ◌+◌, ◌-◌, ◌<◌, ◌≤◌, nat_lt, sym, ◌∙◌, ap, arith}
use Rattle.std.specs.Prelude.{if◌then◌else◌}
use Rattle.std.proofs.lemmas.Bool.Decides.{nat_tests}
use Rattle.run_data.specs.declared.matrix.Part.{Part}
use Rattle.run_data.specs.Matrix.{Matrix, cols, entry, tabulate}
use Rattle.run_data.specs.Parts.{patched, part_entry, part_of, with_part}
use Rattle.run_data.proofs.Matrices.{tabulate-same, rows-tabulate, cols-tabulate, entry-tabulate}
use Rattle.rank_machine.specs.Effect.{transposed}
use Rattle.rank_memory.specs.Places.{column}

-- the words f in the columns before n, and zeros
abbrev columns_before : ℕ → (ℕ → ℕ → ℕ) → ℕ → ℕ → ℕ
columns_before n f i j = if nat_lt j n then f i j else 0

abbrev pub with_columns : ℕ → ℕ → (ℕ → ℕ → ℕ) → ℕ → Matrix
with_columns rows columns f n = tabulate rows columns (columns_before n f)

after_last : (f : ℕ → ℕ → ℕ) (n i j : ℕ) → j < n → columns_before n f i j ≡ f i j
after_last f n i j h = grind (arith, nat_tests)

one_more : (f g : ℕ → ℕ → ℕ) (rows n i j : ℕ) → i < rows → g i j ≡ columns_before n f i j → patched (record { r0 = 0; r1 = rows; c0 = n; c1 = n + 1 }) f g i j ≡ columns_before (n + 1) f i j
unfolding patched
one_more f g rows n i j h e = grind (arith, nat_tests)

pub columns_go_on : (rows columns : ℕ) (f : ℕ → ℕ → ℕ) (n : ℕ) (a b : Matrix) → a ≡ with_columns rows columns f n → b ≡ with_part a (column a n) f → b ≡ with_columns rows columns f (n + 1)
columns_go_on rows columns f n a b is e =
    let w : Matrix = with_columns rows columns f n in
    e
    ∙ ap (λ m. with_part m (column m n) f) is
    ∙ ap (λ k. tabulate k (cols w) (patched (record { r0 = 0; r1 = k; c0 = n; c1 = n + 1 }) f (entry w))) (rows-tabulate rows columns (columns_before n f))
    ∙ ap (λ k. tabulate rows k (patched (record { r0 = 0; r1 = rows; c0 = n; c1 = n + 1 }) f (entry w))) (cols-tabulate rows columns (columns_before n f))
    ∙ tabulate-same rows columns (patched (record { r0 = 0; r1 = rows; c0 = n; c1 = n + 1 }) f (entry w)) (columns_before (n + 1) f)
    (λ i j h k. one_more f (entry w) rows n i j h (entry-tabulate rows columns (columns_before n f) i j h k))

-- the columns are those of the transpose
pub columns_end : (m : Matrix) (at : Part) (n : ℕ) → at.r1 - at.r0 ≤ n → with_columns (at.c1 - at.c0) (at.r1 - at.r0) (λ i j. part_entry m at j i) n ≡ transposed (part_of m at)
columns_end m at n h =
    let rows : ℕ = at.r1 - at.r0 in
    let columns : ℕ = at.c1 - at.c0 in
    let p : Matrix = part_of m at in
    tabulate-same columns rows (columns_before n (λ i j. part_entry m at j i)) (λ i j. entry p j i)
    (λ i j x y. after_last (λ i j. part_entry m at j i) n i j (omega (arith, y, h)) ∙ sym (entry-tabulate rows columns (part_entry m at) j i y x))
    ∙ ap (λ k. tabulate k rows (λ i j. entry p j i)) (sym (cols-tabulate rows columns (part_entry m at)))
    ∙ ap (λ k. tabulate (cols p) k (λ i j. entry p j i)) (sym (rows-tabulate rows columns (part_entry m at)))
