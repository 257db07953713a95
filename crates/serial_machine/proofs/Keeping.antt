-- What the serial run keeps: all matrices have their shapes, and words below p.
use Rattle.std.proofs.Common.{◌≡◌, ℕ, ◌*◌, ◌%◌, ◌<◌, ◌==◌, Bool, true, false, List, Option, Some, None, sym, ap, subst}
use Rattle.std.proofs.Math.Nat.{mod-lt}
use Rattle.std.specs.Prelude.{if◌then◌else◌, not}
use Rattle.std.specs.Str.{bytes_eq}
use Rattle.run_data.specs.Matrix.{Matrix, cols, entry, tabulate}
use Rattle.run_data.proofs.Matrices.{IsShaped-tabulate}
use Rattle.run_data.proofs.PartLaws.{AreWords-tabulate, AreWords-with_part}
use Rattle.run_data.specs.declared.command.Command.{Command}
use Rattle.run_data.specs.declared.command.Command.TheVariants as c
use Rattle.rank_machine.specs.Scripts.{Matrices, file_of}
use Rattle.local_blas.proofs.UpperSolutions.{upper_solution-below}
use Rattle.local_blas.specs.Kernels.{solution}
use Rattle.serial_model.specs.Elimination.{elimination_of, eliminated_matrix, exchanged}
use Rattle.serial_model.specs.Solves.{product_of, solved_column, first_zero, solved_unless, solved_with_factors, triangle_solved, factors_solved, window_copied}
use Rattle.serial_model.specs.Transposes.{transposed, identity_matrix, transpose_added, left_solved, side_solved, came_back_from, flipped, transposed_solved, trans_solved, inverted}
use Rattle.serial_model.specs.Serial as model
use Rattle.serial_model.specs.Serial.{Values, with_value, matrix_in, list_in, is_left, is_lower, is_transposed, is_unit, values_under}
use Rattle.elimination.proofs.Words.{ready-matrix, elimination-ready}
use Rattle.serial_machine.specs.Values.{IsMatrix}
use Rattle.serial_machine.specs.Ready as ready
use Rattle.serial_machine.specs.Ready.{IsWhole, AreWhole}
use Rattle.serial_machine.proofs.Whole.{column-below}

-- ---- the matrices that commands make
whole-tabulate : (p m n : ℕ) (f : ℕ → ℕ → ℕ) → 0 < p → ((i j : ℕ) → f i j < p) → IsWhole p (tabulate m n f)
whole-tabulate p m n f pos below = record { shaped = IsShaped-tabulate m n f; words = AreWords-tabulate p m n f pos (λ i j _ _. below i j) }

whole-product : (p alpha : ℕ) (a b : Matrix) (beta : ℕ) (x : Matrix) → 0 < p → IsWhole p (product_of p alpha a b beta x)
whole-product p alpha a b beta x pos = whole-tabulate p x.rows (cols x) _ pos (λ i j. mod-lt _ pos)

whole-eliminated : (p : ℕ) (inverse : ℕ → ℕ) (a : Matrix) → 0 < p → IsWhole p a → IsWhole p (eliminated_matrix p inverse a)
whole-eliminated p inverse a pos w =
    whole-tabulate p a.rows (cols a) (elimination_of p inverse a).words pos (elimination-ready p inverse a.rows (cols a) (entry a) (ready-matrix p a w.shaped w.words)).below

whole-either : (p : ℕ) (b : Bool) (x y : Matrix) → IsWhole p x → IsWhole p y → IsWhole p (if b then x else y)
whole-either p true x y first second = first
whole-either p false x y first second = second

whole-unless : (p info : ℕ) (b : Matrix) (solve : (ℕ → ℕ) → ℕ → ℕ) → 0 < p → ((x : ℕ → ℕ) (i : ℕ) → solve x i < p) → IsWhole p b → IsWhole p (solved_unless info b solve).matrix
whole-unless p info b solve pos below w = whole-either p (info == 0) _ b (whole-tabulate p b.rows (cols b) _ pos (λ i j. below (λ k. entry b k j) i)) w

whole-triangle : (p : ℕ) (inverse : ℕ → ℕ) (lower unit : Bool) (alpha : ℕ) (a b : Matrix) → 0 < p → IsWhole p b → IsWhole p (triangle_solved p inverse lower unit alpha a b).matrix
whole-triangle p inverse lower unit alpha a b pos w =
    whole-unless p (triangle_solved p inverse lower unit alpha a b).info b (λ x. solved_column p inverse lower unit a.rows (entry a) (λ k. (x k * alpha) % p)) pos
    (λ x i. column-below p inverse lower unit a.rows (entry a) (λ k. (x k * alpha) % p) i pos) w

whole-factors : (p : ℕ) (inverse : ℕ → ℕ) (a : Matrix) (v : List ℕ) (b : Matrix) → 0 < p → IsWhole p b → IsWhole p (factors_solved p inverse a v b).matrix
whole-factors p inverse a v b pos w =
    whole-unless p (factors_solved p inverse a v b).info b (solved_with_factors p inverse (entry a) v a.rows) pos
    (λ x i. upper_solution-below p inverse false a.rows (entry a) (solution p inverse true (entry a) (exchanged v 0 a.rows x)) i pos) w

whole-transposed : (p : ℕ) (a : Matrix) → 0 < p → IsWhole p a → IsWhole p (transposed a)
whole-transposed p a pos w = whole-tabulate p (cols a) a.rows _ pos (λ i j. w.words.below j i)

whole-added : (p alpha : ℕ) (a : Matrix) (beta : ℕ) (x : Matrix) → 0 < p → IsWhole p (transpose_added p alpha a beta x)
whole-added p alpha a beta x pos = whole-tabulate p x.rows (cols x) _ pos (λ i j. mod-lt _ pos)

whole-left : (p : ℕ) (inverse : ℕ → ℕ) (trans lower unit : Bool) (alpha : ℕ) (a b : Matrix) → 0 < p → IsWhole p b → IsWhole p (left_solved p inverse trans lower unit alpha a b).matrix
whole-left p inverse true lower unit alpha a b pos w = whole-triangle p inverse (not lower) unit alpha (transposed a) b pos w
whole-left p inverse false lower unit alpha a b pos w = whole-triangle p inverse lower unit alpha a b pos w

whole-side : (p : ℕ) (inverse : ℕ → ℕ) (left trans lower unit : Bool) (alpha : ℕ) (a b : Matrix) → 0 < p → IsWhole p b → IsWhole p (side_solved p inverse left trans lower unit alpha a b).matrix
whole-side p inverse true trans lower unit alpha a b pos w = whole-left p inverse trans lower unit alpha a b pos w
whole-side p inverse false trans lower unit alpha a b pos w =
    whole-transposed p (left_solved p inverse (not trans) lower unit alpha a (transposed b)).matrix pos (whole-left p inverse (not trans) lower unit alpha a (transposed b) pos (whole-transposed p b pos w))

whole-trans : (p : ℕ) (inverse : ℕ → ℕ) (trans : Bool) (a : Matrix) (v : List ℕ) (b : Matrix) → 0 < p → IsWhole p b → IsWhole p (trans_solved p inverse trans a v b).matrix
whole-trans p inverse true a v b pos w =
    whole-unless p (first_zero a) b (transposed_solved p inverse (entry a) v a.rows) pos
    (λ x i. upper_solution-below p inverse true a.rows (flipped (entry a)) (solution p inverse false (flipped (entry a)) x) (came_back_from v 0 a.rows i) pos) w
whole-trans p inverse false a v b pos w = whole-factors p inverse a v b pos w

whole-twice : (p : ℕ) (t : Bool) (x y z : Matrix) → IsWhole p x → IsWhole p z → IsWhole p (if t then (if t then x else y) else z)
whole-twice p true x y z first last = first
whole-twice p false x y z first last = last

whole-inverted : (p : ℕ) (inverse : ℕ → ℕ) (a : Matrix) (v : List ℕ) (b : Matrix) → 0 < p → IsWhole p b → IsWhole p (inverted p inverse a v b).matrix
whole-inverted p inverse a v b pos w =
    let ones : Matrix = identity_matrix a.rows in
    whole-twice p (first_zero a == 0) _ ones b
    (whole-tabulate p ones.rows (cols ones) (λ i j. solved_with_factors p inverse (entry a) v a.rows (λ k. entry ones k j) i) pos
    (λ i j. upper_solution-below p inverse false a.rows (entry a) (solution p inverse true (entry a) (exchanged v 0 a.rows (λ k. entry ones k j))) i pos)) w

whole-copied : (p m n : ℕ) (a : Matrix) (ia ja : ℕ) (b : Matrix) (ib jb : ℕ) → 0 < p → IsWhole p a → IsWhole p b → IsWhole p (window_copied m n a ia ja b ib jb)
whole-copied p m n a ia ja b ib jb pos wa wb = record {
  shaped = IsShaped-tabulate b.rows (cols b) _;
  words = AreWords-with_part p b _ _ pos wb.words (λ r c. wa.words.below _ _);
}

-- ---- the values
picked : (P : Matrix → Type 0) (b : Bool) (x y : Option model.Value) (m : Matrix) → ((m : Matrix) → x ≡ Some (model.whole m) → P m) → ((m : Matrix) → y ≡ Some (model.whole m) → P m) → (if b then x else y) ≡ Some (model.whole m) → P m
picked P true x y m first second e = first m e
picked P false x y m first second e = second m e

pub keeps-value : (p : ℕ) (values : Values) (name : List ℕ) (v : Option model.Value) → ((m : Matrix) → v ≡ Some (model.whole m) → IsWhole p m) → AreWhole p values → AreWhole p (with_value values name v)
keeps-value p values name v good w = record { matrices = λ other m e. picked (IsWhole p) (bytes_eq name other) v (values other) m good (w.matrices other) e }

same_matrix : (a b : Matrix) → Some (model.whole a) ≡ Some (model.whole b) → a ≡ b
same_matrix a b e = ap matrix_in e

no_matrix : (m : Matrix) → None ≡ Some (model.whole m) → ⊥
no_matrix m e = cc

no_rows : (v : List ℕ) (m : Matrix) → Some (model.rows v) ≡ Some (model.whole m) → ⊥
no_rows v m e = cc

pub keeps-matrix : (p : ℕ) (values : Values) (name : List ℕ) (a : Matrix) → IsWhole p a → AreWhole p values → AreWhole p (with_value values name (Some (model.whole a)))
keeps-matrix p values name a good w = keeps-value p values name (Some (model.whole a)) (λ m e. subst (IsWhole p) (same_matrix a m e) good) w

pub whole-in : (p : ℕ) (values : Values) (name : List ℕ) → AreWhole p values → IsMatrix (values name) → IsWhole p (matrix_in (values name))
whole-in p values name w is = subst (IsWhole p) (sym (ap matrix_in is.1)) (w.matrices name is.0 is.1)

-- after a command all matrices are whole again
pub keeps-whole : (p : ℕ) (inverse : ℕ → ℕ) (files : Matrices) (line : ℕ) (command : Command) (values : Values) → 0 < p → AreWhole p values → ready.CanRunLine p files line command values
    → AreWhole p (values_under p inverse (file_of files) line command values)
keeps-whole p inverse files line (c.Matrix name grid m n mb nb rsrc csrc file) values pos w r = keeps-matrix p values name (file_of files line) r.matrix w
keeps-whole p inverse files line (c.Pgemm transa transb m n k alpha a ia ja b ib jb beta x ic jc) values pos w r =
    keeps-matrix p values x _ (whole-product p alpha (matrix_in (values a)) (matrix_in (values b)) beta (matrix_in (values x)) pos) w
keeps-whole p inverse files line (c.Ptrsm side uplo transa diag m n alpha a ia ja b ib jb) values pos w r =
    keeps-matrix p values b _ (whole-side p inverse (is_left side) (is_transposed transa) (is_lower uplo) (is_unit diag) alpha (matrix_in (values a)) (matrix_in (values b)) pos (whole-in p values b w r.system.right_side)) w
keeps-whole p inverse files line (c.Pgetrf m n a ia ja v) values pos w r =
    keeps-value p _ v _ (λ m e. absurd (no_rows _ m e)) (keeps-matrix p values a _ (whole-eliminated p inverse (matrix_in (values a)) pos (whole-in p values a w r.matrix)) w)
keeps-whole p inverse files line (c.Pgetrs trans n nrhs a ia ja v b ib jb) values pos w r =
    keeps-matrix p values b _ (whole-trans p inverse (is_transposed trans) (matrix_in (values a)) (list_in (values v)) (matrix_in (values b)) pos (whole-in p values b w r.system.right_side)) w
keeps-whole p inverse files line (c.Pgemr2d m n a ia ja b ib jb ctxt) values pos w r =
    keeps-matrix p values b _ (whole-copied p m n (matrix_in (values a)) ia ja (matrix_in (values b)) ib jb pos (whole-in p values a w r.source) (whole-in p values b w r.changed)) w
keeps-whole p inverse files line (c.Discard name) values pos w r = keeps-value p values name None (λ m e. absurd (no_matrix m e)) w
keeps-whole p inverse files line (c.Grid name gp q f) values pos w r = w
keeps-whole p inverse files line (c.Print name) values pos w r = w
keeps-whole p inverse files line (c.Pivots name) values pos w r = w
keeps-whole p inverse files line (c.Topology kind) values pos w r = w
keeps-whole p inverse files line (c.Links n) values pos w r = w
keeps-whole p inverse files line (c.Order numbers) values pos w r = w
keeps-whole p inverse files line (c.Lose at rank) values pos w r = w
keeps-whole p inverse files line (c.Spares n) values pos w r = w
keeps-whole p inverse files line (c.Field n) values pos w r = w
keeps-whole p inverse files line (c.Ptran m n alpha a ia ja beta x ic jc) values pos w r =
    keeps-matrix p values x _ (whole-added p alpha (matrix_in (values a)) beta (matrix_in (values x)) pos) w
keeps-whole p inverse files line (c.Pgetri n a ia ja v b ib jb) values pos w r =
    keeps-matrix p values b _ (whole-inverted p inverse (matrix_in (values a)) (list_in (values v)) (matrix_in (values b)) pos (whole-in p values b w r.system.right_side)) w
keeps-whole p inverse files line (c.Flip name i j x) values pos w r = w
keeps-whole p inverse files line (c.Pverify name) values pos w r = w
