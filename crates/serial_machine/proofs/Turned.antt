-- The transpose of a matrix, and a sum with it.
use Rattle.std.proofs.Common.{◌≡◌, ℕ, ◌+◌, ◌*◌, ◌%◌, ◌≤◌, sym, subst, ◌∙◌, ap, arith}
use Rattle.field_core.proofs.Modular.{residues}
use Rattle.run_data.specs.Matrix.{Matrix, cols, entry, AreWords, tabulate}
use Rattle.run_data.proofs.Matrices.{rows-tabulate, cols-tabulate}
use Rattle.run_data.proofs.PartLaws.{AreWords-tabulate}
use Rattle.serial_model.specs.Transposes.{transposed}

pub turned_rows : (m n : ℕ) (g : ℕ → ℕ → ℕ) (t : Matrix) → t ≡ tabulate m n g → t.rows ≡ m
turned_rows m n g t e = ap (λ (t : Matrix). t.rows) e ∙ rows-tabulate m n g

pub turned_cols : (m n : ℕ) (g : ℕ → ℕ → ℕ) (t : Matrix) → t ≡ tabulate m n g → cols t ≡ n
turned_cols m n g t e = ap cols e ∙ cols-tabulate m n g

pub turned_words : (p : ℕ) (a t : Matrix) → 32 ≤ p → AreWords p a → t ≡ transposed a → AreWords p t
turned_words p a t large words e =
    subst (AreWords p) (sym e) (AreWords-tabulate p (cols a) a.rows (λ i j. entry a j i) (omega arith) (λ r c _ _. words.below c r))

-- a word of the sum, by two products
pub adds_word : (p a x b y t u new : ℕ) → t ≡ (a * x) % p → u ≡ (b * y) % p → new ≡ (t + u) % p → new ≡ (a * x + b * y) % p
adds_word p a x b y t u new e_t e_u e_new = rw (e_new, e_t, e_u) (let e : ((a * x) % p + (b * y) % p) % p ≡ (a * x + b * y) % p = simp residues in e)
