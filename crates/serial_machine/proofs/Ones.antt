-- The matrix with ones on the diagonal, written one after another.
use Rattle.std.proofs.Common.{◌≡◌, ℕ, ◌+◌, ◌<◌, ◌==◌, ◌&&◌, nat_lt, if◌then◌else◌, ◌∙◌, ap, arith}
use Rattle.std.proofs.lemmas.Bool.Decides.{nat_tests}
use Rattle.run_data.specs.Matrix.{Matrix, cols, tabulate, zero_matrix, with_entry}
use Rattle.run_data.proofs.Matrices.{rows-tabulate, cols-tabulate, tabulate-same}
use Rattle.local_blas.proofs.Swaps.{with_entry-tabulate}
use Rattle.serial_model.specs.Transposes.{identity_word, identity_matrix}

-- ones in the first k places of the diagonal
abbrev pub ones_word : ℕ → ℕ → ℕ → ℕ
ones_word k r c = if (r == c) && nat_lt r k then 1 else 0

abbrev pub ones_so_far : ℕ → ℕ → Matrix
ones_so_far n k = tabulate n n (ones_word k)

none_at : (r c : ℕ) → 0 ≡ ones_word 0 r c
none_at r c = grind (arith, nat_tests)

one_more_at : (k r c : ℕ) → (if (r == k) && (c == k) then 1 else ones_word k r c) ≡ ones_word (k + 1) r c
one_more_at k r c = grind (arith, nat_tests)

all_at : (n r c : ℕ) → r < n → ones_word n r c ≡ identity_word r c
all_at n r c h = grind (arith, nat_tests)

pub ones_start : (n : ℕ) → zero_matrix n n ≡ ones_so_far n 0
ones_start n = tabulate-same n n (λ i j. 0) (ones_word 0) (λ i j _ _. none_at i j)

pub ones_go_on : (n k : ℕ) (m m' : Matrix) → m ≡ ones_so_far n k → m' ≡ with_entry m k k 1 → m' ≡ ones_so_far n (k + 1)
ones_go_on n k m m' e e' =
    e' ∙ ap (λ (m : Matrix). with_entry m k k 1) e ∙ with_entry-tabulate n n (ones_word k) k k 1
    ∙ tabulate-same n n (λ r c. if (r == k) && (c == k) then 1 else ones_word k r c) (ones_word (k + 1)) (λ i j _ _. one_more_at k i j)

pub ones_end : (n k : ℕ) (m : Matrix) → m ≡ ones_so_far n k → k ≡ n → m ≡ identity_matrix n
ones_end n k m e all =
    e ∙ ap (ones_so_far n) all ∙ tabulate-same n n (ones_word n) identity_word (λ i j hi _. all_at n i j hi)

pub rows_so_far : (n k : ℕ) (m : Matrix) → m ≡ ones_so_far n k → m.rows ≡ n
rows_so_far n k m e = ap (λ (m : Matrix). m.rows) e ∙ rows-tabulate n n (ones_word k)

pub cols_so_far : (n k : ℕ) (m : Matrix) → m ≡ ones_so_far n k → cols m ≡ n
cols_so_far n k m e = ap cols e ∙ cols-tabulate n n (ones_word k)
