-- Products whose inner sum comes in pieces, and those whose columns come one by one.
use Rattle.std.proofs.Common.{◌≡◌, ℕ, ◌+◌, ◌-◌, ◌*◌, ◌%◌, sym, ◌∙◌, ap, arith}
use Rattle.field_core.specs.Sums.{sum_to}
use Rattle.field_core.proofs.Modular.{residues}
use Rattle.field_core.proofs.Sums.{sum_to-split}
use Rattle.run_data.specs.declared.matrix.Part.{Part}
use Rattle.run_data.specs.Matrix.{Matrix, entry}
use Rattle.run_data.specs.Parts.{part_entry}
use Rattle.local_blas.specs.Kernels.{product_word}

-- a product in two pieces, reduced in between
pub product-split : (p b a m n : ℕ) (f : ℕ → ℕ) → ((b + a * sum_to m f) % p + a * sum_to n (λ k. f (m + k))) % p ≡ (b + a * sum_to (m + n) f) % p
product-split p b a m n f =
    (let e : ((b + a * sum_to m f) % p + a * sum_to n (λ k. f (m + k))) % p ≡ ((b + a * sum_to m f) + a * sum_to n (λ k. f (m + k))) % p = simp residues in e)
    ∙ ap (λ s. s % p) (let e : (b + a * sum_to m f) + a * sum_to n (λ k. f (m + k)) ≡ b + a * (sum_to m f + sum_to n (λ k. f (m + k))) = omega arith in e ∙ ap (λ s. b + a * s) (sym (sum_to-split m n f)))

-- a word of a product, by the column of the right side
pub product_word-at : (left : Matrix) (lp : Part) (right : Matrix) (rp : Part) (i k n : ℕ) → n ≡ rp.c0 + k → sum_to (lp.c1 - lp.c0) (λ m. part_entry left lp i m * entry right (rp.r0 + m) n) ≡ product_word left lp right rp i k
product_word-at left lp right rp i k n e = ap (λ c. sum_to (lp.c1 - lp.c0) (λ m. part_entry left lp i m * entry right (rp.r0 + m) c)) e
