-- The loop that exchanges two rows, column after column.
use Rattle.std.proofs.Common.{◌≡◌, ℕ, ◌+◌, ◌*◌, ◌%◌, ◌<◌, ◌≤◌, ◌==◌, ◌&&◌, nat_lt, if◌then◌else◌, refl, ◌∙◌, ap, arith}
use Rattle.std.proofs.lemmas.Bool.Decides.{nat_tests}
use Rattle.field_core.specs.Sums.{sum_to}
use Rattle.run_data.specs.Matrix.{Matrix, cols, entry, IsShaped, tabulate, with_entry}
use Rattle.run_data.proofs.Matrices.{tabulate_is, tabulate-same, rows-tabulate, cols-tabulate, entry-tabulate}
use Rattle.local_blas.specs.Kernels.{swapped, with_rows_swapped}

-- the words after the columns below k were swapped
unfoldable pub swapped_words : Matrix → ℕ → ℕ → ℕ → ℕ → ℕ → ℕ
swapped_words a i j k r c = if nat_lt c k then entry a (swapped i j r) c else entry a r c

abbrev pub with_swapped_columns : Matrix → ℕ → ℕ → ℕ → Matrix
with_swapped_columns a i j k = tabulate a.rows (cols a) (swapped_words a i j k)

pub rows-with_swapped_columns : (a : Matrix) (i j k : ℕ) → (with_swapped_columns a i j k).rows ≡ a.rows
rows-with_swapped_columns a i j k = rows-tabulate a.rows (cols a) (swapped_words a i j k)

pub cols-with_swapped_columns : (a : Matrix) (i j k : ℕ) → cols (with_swapped_columns a i j k) ≡ cols a
cols-with_swapped_columns a i j k = cols-tabulate a.rows (cols a) (swapped_words a i j k)

pub rows-with_entry : (a : Matrix) (i j x : ℕ) → (with_entry a i j x).rows ≡ a.rows
rows-with_entry a i j x = rows-tabulate a.rows (cols a) (λ r c. if (r == i) && (c == j) then x else entry a r c)

pub cols-with_entry : (a : Matrix) (i j x : ℕ) → cols (with_entry a i j x) ≡ cols a
cols-with_entry a i j x = cols-tabulate a.rows (cols a) (λ r c. if (r == i) && (c == j) then x else entry a r c)

pub ruleset swap_shapes = (rows-with_swapped_columns, cols-with_swapped_columns, rows-with_entry, cols-with_entry)

-- a write to a tabulated matrix
pub with_entry-tabulate : (m n : ℕ) (f : ℕ → ℕ → ℕ) (i j x : ℕ) → with_entry (tabulate m n f) i j x ≡ tabulate m n (λ r c. if (r == i) && (c == j) then x else f r c)
with_entry-tabulate m n f i j x =
    let b : Matrix = tabulate m n f in
    let g : ℕ → ℕ → ℕ = λ r c. if (r == i) && (c == j) then x else entry b r c in
    ap (λ k. tabulate k (cols b) g) (rows-tabulate m n f) ∙ ap (λ k. tabulate m k g) (cols-tabulate m n f)
    ∙ tabulate-same m n g (λ r c. if (r == i) && (c == j) then x else f r c) (λ r c hr hc. ap (λ v. if (r == i) && (c == j) then x else v) (entry-tabulate m n f r c hr hc))

swapped_more_at : (a : Matrix) (i j k r c : ℕ) → (if (r == j) && (c == k) then entry a i k else if (r == i) && (c == k) then entry a j k else swapped_words a i j k r c) ≡ swapped_words a i j (k + 1) r c
unfolding swapped_words
swapped_more_at a i j k r c = grind (arith, nat_tests)

swapped_next_at : (a : Matrix) (i j k r : ℕ) → swapped_words a i j k r k ≡ entry a r k
unfolding swapped_words
swapped_next_at a i j k r = grind (arith, nat_tests)

swapped_none_at : (a : Matrix) (i j r c : ℕ) → entry a r c ≡ swapped_words a i j 0 r c
unfolding swapped_words
swapped_none_at a i j r c = grind (arith, nat_tests)

pub swap_starts : (a : Matrix) (i j : ℕ) → IsShaped a → a ≡ with_swapped_columns a i j 0
swap_starts a i j shaped = tabulate_is a a.rows (cols a) (swapped_words a i j 0) shaped refl refl (λ r c _ _. swapped_none_at a i j r c)

-- what is read in the next column
swap_reads : (a b : Matrix) (i j k r x : ℕ) → b ≡ with_swapped_columns a i j k → r < a.rows → k < cols a → x ≡ entry b r k → x ≡ entry a r k
swap_reads a b i j k r x e hr hk ex =
    ex ∙ ap (λ m. entry m r k) e ∙ entry-tabulate a.rows (cols a) (swapped_words a i j k) r k hr hk ∙ swapped_next_at a i j k r

pub swap_goes_on : (a b b' b'' : Matrix) (i j k x y : ℕ) → b ≡ with_swapped_columns a i j k → i < a.rows → j < a.rows → k < cols a → x ≡ entry b i k → y ≡ entry b j k → b' ≡ with_entry b i k y → b'' ≡ with_entry b' j k x → b'' ≡ with_swapped_columns a i j (k + 1)
swap_goes_on a b b' b'' i j k x y e hi hj hk ex ey e' e'' =
    let f = swapped_words a i j k in
    let f' : ℕ → ℕ → ℕ = λ r c. if (r == i) && (c == k) then y else f r c in
    let first : b' ≡ tabulate a.rows (cols a) f' = e' ∙ ap (λ m. with_entry m i k y) e ∙ with_entry-tabulate a.rows (cols a) f i k y in
    e'' ∙ ap (λ m. with_entry m j k x) first ∙ with_entry-tabulate a.rows (cols a) f' j k x
    ∙ tabulate-same a.rows (cols a) (λ r c. if (r == j) && (c == k) then x else f' r c) (swapped_words a i j (k + 1))
    (λ r c _ _. ap (λ v. if (r == j) && (c == k) then v else f' r c) (swap_reads a b i j k i x e hi hk ex)
    ∙ ap (λ v. if (r == j) && (c == k) then entry a i k else if (r == i) && (c == k) then v else f r c) (swap_reads a b i j k j y e hj hk ey)
    ∙ swapped_more_at a i j k r c)

swapped_all_at : (a : Matrix) (i j k r c : ℕ) → c < k → swapped_words a i j k r c ≡ entry a (swapped i j r) c
unfolding swapped_words
swapped_all_at a i j k r c h = grind (arith, nat_tests)

pub swap_ends : (a : Matrix) (i j k : ℕ) → cols a ≤ k → with_swapped_columns a i j k ≡ with_rows_swapped a i j
swap_ends a i j k h = tabulate-same a.rows (cols a) (swapped_words a i j k) (λ r c. entry a (swapped i j r) c) (λ r c hr hc. swapped_all_at a i j k r c (omega arith))

-- an exchange keeps rows in range
pub swapped-below : (i j r m : ℕ) → i < m → j < m → r < m → swapped i j r < m
swapped-below i j r m hi hj hr = grind (arith, nat_tests)

-- an exchange undoes itself
pub swapped-swapped : (i j r : ℕ) → swapped i j (swapped i j r) ≡ r
swapped-swapped i j r = grind (arith, nat_tests)

-- a row exchange keeps weighted sums
pub weighted-swapped : (p n m : ℕ) (w : ℕ → ℕ) (x : ℕ → ℕ → ℕ) (c : ℕ → ℕ) → ((r : ℕ) → r < m → c r % p ≡ sum_to n (λ q. w q * x q r) % p) → (i j r : ℕ) → i < m → j < m → r < m → c (swapped i j r) % p ≡ sum_to n (λ q. w q * x q (swapped i j r)) % p
weighted-swapped p n m w x c same i j r hi hj hr = same (swapped i j r) (swapped-below i j r m hi hj hr)
