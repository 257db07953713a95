-- What the inverse of a matrix asks of its factors, and what it is.
use Rattle.std.proofs.Common.{◌≡◌, ℕ, ◌≤◌, min, List, length, sym, subst, ◌∙◌, ap, arith}
use Rattle.run_data.specs.Matrix.{Matrix, cols, entry, IsShaped, AreWords, zero_matrix}
use Rattle.run_data.proofs.Matrices.{rows-tabulate, cols-tabulate}
use Rattle.run_data.proofs.PartLaws.{AreWords-tabulate}
use Rattle.field_core.specs.Residue.{IsPrime, inverse}
use Rattle.serial_model.specs.Elimination.{elimination_of, eliminated_matrix}
use Rattle.serial_model.specs.Solves.{product_of}
use Rattle.elimination.specs.Whole.{AreRows}
use Rattle.elimination.proofs.Numbers.{elimination-count, elimination-rows}
use Rattle.elimination.proofs.Words.{ready-matrix, elimination-ready}
use Rattle.serial_model.specs.Transposes.{identity_word, identity_matrix, inverted}
use Rattle.factor_laws.proofs.Triangles.{inverts}
use Rattle.factor_laws.proofs.Matrices.{inverse-multiplies, identity-words}

-- m is a copy of the square a, and f and v are the matrix and the pivots' rows that its elimination leaves
pub record AreFactorsOf (p : ℕ) (a m f : Matrix) (v : List ℕ) : Type 0 where
  pub copied : m ≡ a
  pub matrix : f ≡ eliminated_matrix p (inverse p) m
  pub rows : v ≡ (elimination_of p (inverse p) m).pivots
  pub shaped : IsShaped a
  pub words : AreWords p a
  pub square : cols a ≡ a.rows

same_factors : (p : ℕ) (a m f : Matrix) (v : List ℕ) → AreFactorsOf p a m f v → f ≡ eliminated_matrix p (inverse p) a
same_factors p a m f v known = known.matrix ∙ ap (eliminated_matrix p (inverse p)) known.copied

same_pivots : (p : ℕ) (a m f : Matrix) (v : List ℕ) → AreFactorsOf p a m f v → v ≡ (elimination_of p (inverse p) a).pivots
same_pivots p a m f v known = known.rows ∙ ap (λ m. (elimination_of p (inverse p) m).pivots) known.copied

pub factor_rows : (p : ℕ) (a m f : Matrix) (v : List ℕ) → AreFactorsOf p a m f v → f.rows ≡ a.rows
factor_rows p a m f v known = ap (λ (f : Matrix). f.rows) (same_factors p a m f v known) ∙ rows-tabulate a.rows (cols a) (elimination_of p (inverse p) a).words

pub factor_square : (p : ℕ) (a m f : Matrix) (v : List ℕ) → AreFactorsOf p a m f v → cols f ≡ f.rows
factor_square p a m f v known =
    ap cols (same_factors p a m f v known) ∙ cols-tabulate a.rows (cols a) (elimination_of p (inverse p) a).words ∙ known.square ∙ sym (factor_rows p a m f v known)

pub factor_count : (p : ℕ) (a m f : Matrix) (v : List ℕ) → AreFactorsOf p a m f v → f.rows ≤ length v
factor_count p a m f v known =
    let square = known.square in
    omega (arith, factor_rows p a m f v known, ap length (same_pivots p a m f v known), elimination-count p (inverse p) a.rows (cols a) (entry a))

pub factor_pivots : (p : ℕ) (a m f : Matrix) (v : List ℕ) → AreFactorsOf p a m f v → AreRows v 0 f.rows f.rows
factor_pivots p a m f v known =
    let square = known.square in
    let all : min a.rows (cols a) ≡ a.rows = omega arith in
    subst (λ r. AreRows v 0 r r) (sym (factor_rows p a m f v known))
    (subst (λ v. AreRows v 0 a.rows a.rows) (sym (same_pivots p a m f v known)) (subst (λ n. AreRows (elimination_of p (inverse p) a).pivots 0 n a.rows) all (elimination-rows p (inverse p) a.rows (cols a) (entry a))))

pub factor_words : (p : ℕ) (a m f : Matrix) (v : List ℕ) → 32 ≤ p → AreFactorsOf p a m f v → AreWords p f
factor_words p a m f v large known =
    subst (AreWords p) (sym (same_factors p a m f v known))
    (AreWords-tabulate p a.rows (cols a) (elimination_of p (inverse p) a).words (omega arith)
    (λ r c _ _. (elimination-ready p (inverse p) a.rows (cols a) (entry a) (ready-matrix p a known.shaped known.words)).below r c))

pub ones_rows : (n k : ℕ) (ones : Matrix) → ones ≡ identity_matrix n → n ≡ k → ones.rows ≡ k
ones_rows n k ones is e = ap (λ (m : Matrix). m.rows) is ∙ rows-tabulate n n identity_word ∙ e

pub ones_words : (p n : ℕ) (ones : Matrix) → 32 ≤ p → ones ≡ identity_matrix n → AreWords p ones
ones_words p n ones large is = subst (AreWords p) (sym is) (identity-words p n (omega arith))

-- what the factors of a copy invert is what the factors of the matrix do
pub is_inverse : (p n : ℕ) (a m f zeros x : Matrix) (v : List ℕ) → AreFactorsOf p a m f v → zeros ≡ zero_matrix n n → n ≡ a.rows → x ≡ (inverted p (inverse p) f v zeros).matrix → x ≡ (inverted p (inverse p) (eliminated_matrix p (inverse p) a) (elimination_of p (inverse p) a).pivots (zero_matrix a.rows a.rows)).matrix
is_inverse p n a m f zeros x v known is en made =
    let g = eliminated_matrix p (inverse p) a in
    let w = (elimination_of p (inverse p) a).pivots in
    made
    ∙ ap (λ h. (inverted p (inverse p) h v zeros).matrix) (same_factors p a m f v known)
    ∙ ap (λ u. (inverted p (inverse p) g u zeros).matrix) (same_pivots p a m f v known)
    ∙ ap (λ b. (inverted p (inverse p) g w b).matrix) (is ∙ ap (λ n. zero_matrix n n) en)

-- and it multiplies to ones
pub inverse_makes_ones : (p n : ℕ) (a m f zeros x : Matrix) (v : List ℕ) → IsPrime p → AreFactorsOf p a m f v → zeros ≡ zero_matrix n n → n ≡ a.rows → (elimination_of p (inverse p) a).info ≡ 0 → x ≡ (inverted p (inverse p) f v zeros).matrix → product_of p 1 a x 0 (zero_matrix a.rows a.rows) ≡ identity_matrix a.rows
inverse_makes_ones p n a m f zeros x v prime known is en none made =
    let empty = zero_matrix a.rows a.rows in
    ap (λ x. product_of p 1 a x 0 empty) (is_inverse p n a m f zeros x v known is en made)
    ∙ inverse-multiplies p (inverse p) a empty empty prime.above_one (inverts p prime) known.shaped known.words known.square none (rows-tabulate a.rows a.rows (λ i j. 0)) (cols-tabulate a.rows a.rows (λ i j. 0))
