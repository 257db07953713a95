-- Rows of an upper triangle taken by themselves, and a product that is added to a column.
use Rattle.std.specs.Prelude.{ℕ, ◌+◌, ◌-◌, ◌*◌, ◌%◌, if◌then◌else◌, nat_lt, Bool}
use Rattle.field_core.specs.Sums.{sum_to}
use Rattle.local_blas.specs.Kernels.{upper_solution}

-- word first + i of the solution of a column x by the n rows from row and column first on of the upper triangle of u
abbrev pub upper_solved : ℕ → (ℕ → ℕ) → Bool → (ℕ → ℕ → ℕ) → ℕ → ℕ → (ℕ → ℕ) → ℕ → ℕ
upper_solved p inverse unit u first n x = upper_solution p inverse unit n (λ i k. u (first + i) (first + k)) (λ i. x (first + i))

-- a column after it was solved by these rows, and the rows above lost the words of u times the solved words
unfoldable pub upper_reduced : ℕ → (ℕ → ℕ) → Bool → (ℕ → ℕ → ℕ) → ℕ → ℕ → (ℕ → ℕ) → ℕ → ℕ
upper_reduced p inverse unit u first n x i =
    if nat_lt i first then (x i + (p - 1) * sum_to n (λ k. u i (first + k) * upper_solved p inverse unit u first n x k)) % p
    else if nat_lt i (first + n) then upper_solved p inverse unit u first n x (i - first)
    else x i

-- a column x that gained a times the product of n columns of l with a column y
abbrev pub gained : ℕ → ℕ → (ℕ → ℕ → ℕ) → ℕ → (ℕ → ℕ) → (ℕ → ℕ) → ℕ → ℕ
gained p a l n x y i = (x i + a * sum_to n (λ k. l i k * y k)) % p
