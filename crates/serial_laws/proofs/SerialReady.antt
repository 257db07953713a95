-- An accepted script with its files can be run serially.
use Rattle.std.proofs.Common.{◌≡◌, ℕ, ◌+◌, ◌-◌, ◌*◌, ◌%◌, ◌<◌, ◌≤◌, ◌^◌, Bool, true, false, not, List, [], ◌∷◌, length, Option, Some, None, min, refl, sym, ap, subst, ◌∙◌, arith}
use Rattle.std.specs.Prelude.{if◌then◌else◌, ◌==◌}
use Rattle.std.specs.Str.{bytes_eq, IsUtf8}
use Rattle.std.proofs.lemmas.Bool.{false≢true, false_from_ne_true}
use Rattle.std.proofs.lemmas.Slice.Eq.{bytes_eq-Decides}
use Rattle.field_core.specs.Residue.{inverse}
use Rattle.run_data.specs.Matrix.{Matrix, cols, entry, tabulate}
use Rattle.run_data.specs.Parts.{IsWithin}
use Rattle.run_data.proofs.Matrices.{rows-tabulate, cols-tabulate}
use Rattle.run_data.specs.declared.command.Command.{Command}
use Rattle.run_data.specs.declared.command.Command.TheVariants as c
use Rattle.run_data.specs.Script.{Numbered, commands_of, command_at, maker_after, maker, modulus_of}
use Rattle.rank_machine.specs.Scripts.{Matrices, file_of}
use Rattle.elimination.specs.Whole.{AreRows}
use Rattle.elimination.proofs.Numbers.{elimination-count, elimination-rows}
use Rattle.serial_model.specs.Elimination.{eliminated_matrix}
use Rattle.serial_model.specs.Solves.{product_of, solved_column, solved_with_factors, solved_unless, first_zero, triangle_solved, factors_solved, window, window_copied}
use Rattle.serial_model.specs.Transposes.{transposed, identity_matrix, identity_word, left_solved, turned, side_solved, transposed_solved, trans_solved, transpose_added, inverted}
use Rattle.serial_model.specs.Serial as model
use Rattle.serial_model.specs.Serial.{Values, with_value, matrix_in, list_in, is_lower, is_unit, is_left, is_transposed, factored, solved_by_triangle, solved_by_factors, inverted_by_factors, values_under, no_values}
use Rattle.serial_machine.specs.Values.{IsMatrix}
use Rattle.serial_machine.specs.Ready.{IsShort, HasMatrix, CanPrint, AreReady, CanRun}
use Rattle.serial_machine.specs.Ready as ready
use Rattle.script_rules.specs.Rules.{command_on, maker_command, is_matrix_line, is_list_line}
use Rattle.script_recovery.proofs.GridsAt.{LinesRise, commands-rise}
use Rattle.serial_laws.proofs.CommandsLeft.{IsLeft, all_left, next_left, maker-here}
use Rattle.script_run.proofs.EachCommand.{AreThere, there-all, there-first, there-later}
use Rattle.serial_laws.specs.Files.{HasSizedFile}

-- ---- what values fit the lines that made them
-- the rows and the columns of the matrix that a line made, or of the one that it factored
abbrev pub rows_made : Option Command → ℕ
rows_made (Some (c.Matrix name grid m n mb nb rsrc csrc file)) = m
rows_made (Some (c.Pgetrf m n a ia ja v)) = m
rows_made _ = 0

abbrev pub columns_made : Option Command → ℕ
columns_made (Some (c.Matrix name grid m n mb nb rsrc csrc file)) = n
columns_made (Some (c.Pgetrf m n a ia ja v)) = n
columns_made _ = 0

-- a matrix of m rows and n columns
pub record IsMatrixOf (m n : ℕ) (value : Option model.Value) : Type 0 where
  pub matrix : Matrix
  pub is : value ≡ Some (model.whole matrix)
  pub rows : matrix.rows ≡ m
  pub columns : cols matrix ≡ n

-- the pivots of a matrix of m rows and n columns
pub record IsListOf (m n : ℕ) (value : Option model.Value) : Type 0 where
  pub list : List ℕ
  pub is : value ≡ Some (model.rows list)
  pub count : length list ≡ min m n
  pub rows : AreRows list 0 (min m n) m
  pub short : m < 2 ^ 32

-- a value fits the command that made it
abbrev pub Fits : Option Command → Option model.Value → Type 0
Fits (Some (c.Matrix name grid m n mb nb rsrc csrc file)) value = IsMatrixOf m n value
Fits (Some (c.Pgetrf m n a ia ja v)) value = IsListOf m n value
Fits _ value = Unit {0}

-- what names mean fits the lines that made it
abbrev pub AllFit : List Numbered → (List ℕ → Option ℕ) → Values → Type 0
AllFit ns known values = (name : List ℕ) → Fits (command_on ns (known name)) (values name)

-- ---- what the rules of a line give for its command
pub record AsksProduct (ns : List Numbered) (line alpha : ℕ) (a b : List ℕ) (beta : ℕ) (x : List ℕ) : Type 0 where
  pub left : is_matrix_line (maker_command ns line a) ≡ true
  pub right : is_matrix_line (maker_command ns line b) ≡ true
  pub changed : is_matrix_line (maker_command ns line x) ≡ true
  pub not_left : bytes_eq x a ≡ false
  pub not_right : bytes_eq x b ≡ false
  pub alpha_below : alpha < (modulus_of ns)
  pub beta_below : beta < (modulus_of ns)
  pub rows : rows_made (maker_command ns line a) ≡ rows_made (maker_command ns line x)
  pub columns : columns_made (maker_command ns line b) ≡ columns_made (maker_command ns line x)
  pub inner : columns_made (maker_command ns line a) ≡ rows_made (maker_command ns line b)

pub record AsksSystem (ns : List Numbered) (line : ℕ) (a b : List ℕ) : Type 0 where
  pub matrix : is_matrix_line (maker_command ns line a) ≡ true
  pub right_side : is_matrix_line (maker_command ns line b) ≡ true
  pub other : bytes_eq b a ≡ false
  pub square : columns_made (maker_command ns line a) ≡ rows_made (maker_command ns line a)

pub record AsksTriangle (ns : List Numbered) (line : ℕ) (left : Bool) (alpha : ℕ) (a b : List ℕ) : Type 0 where
  pub system : AsksSystem ns line a b
  pub size : (if left then rows_made (maker_command ns line b) else columns_made (maker_command ns line b)) ≡ rows_made (maker_command ns line a)
  pub alpha_below : alpha < (modulus_of ns)
  pub named : IsUtf8 b

pub record AsksFactor (ns : List Numbered) (line m n : ℕ) (a : List ℕ) : Type 0 where
  pub matrix : is_matrix_line (maker_command ns line a) ≡ true
  pub rows : m ≡ rows_made (maker_command ns line a)
  pub columns : n ≡ columns_made (maker_command ns line a)
  pub few : m < 2 ^ 32
  pub named : IsUtf8 a

pub record AsksSolve (ns : List Numbered) (line : ℕ) (a v b : List ℕ) : Type 0 where
  pub system : AsksSystem ns line a b
  pub size : rows_made (maker_command ns line b) ≡ rows_made (maker_command ns line a)
  pub list : is_list_line (maker_command ns line v) ≡ true
  pub list_rows : rows_made (maker_command ns line v) ≡ rows_made (maker_command ns line a)
  pub list_columns : columns_made (maker_command ns line v) ≡ rows_made (maker_command ns line a)
  pub named : IsUtf8 b

-- B is square too
pub record AsksInverse (ns : List Numbered) (line : ℕ) (a v b : List ℕ) : Type 0 where
  pub solve : AsksSolve ns line a v b
  pub columns : columns_made (maker_command ns line b) ≡ rows_made (maker_command ns line a)

pub record AsksTranspose (ns : List Numbered) (line alpha : ℕ) (a : List ℕ) (beta : ℕ) (x : List ℕ) : Type 0 where
  pub source : is_matrix_line (maker_command ns line a) ≡ true
  pub changed : is_matrix_line (maker_command ns line x) ≡ true
  pub other : bytes_eq x a ≡ false
  pub alpha_below : alpha < (modulus_of ns)
  pub beta_below : beta < (modulus_of ns)
  pub rows : rows_made (maker_command ns line a) ≡ columns_made (maker_command ns line x)
  pub columns : columns_made (maker_command ns line a) ≡ rows_made (maker_command ns line x)

pub record AsksCopy (ns : List Numbered) (line m n : ℕ) (a : List ℕ) (ia ja : ℕ) (b : List ℕ) (ib jb : ℕ) : Type 0 where
  pub source : is_matrix_line (maker_command ns line a) ≡ true
  pub changed : is_matrix_line (maker_command ns line b) ≡ true
  pub other : bytes_eq b a ≡ false
  pub from_row : 0 < ia
  pub from_column : 0 < ja
  pub to_row : 0 < ib
  pub to_column : 0 < jb
  pub rows_in_a : ia - 1 + m ≤ rows_made (maker_command ns line a)
  pub columns_in_a : ja - 1 + n ≤ columns_made (maker_command ns line a)
  pub rows_in_b : ib - 1 + m ≤ rows_made (maker_command ns line b)
  pub columns_in_b : jb - 1 + n ≤ columns_made (maker_command ns line b)

pub record AsksPrint (ns : List Numbered) (line : ℕ) (name : List ℕ) : Type 0 where
  pub matrix : is_matrix_line (maker_command ns line name) ≡ true
  pub named : IsUtf8 name

pub record AsksPivots (ns : List Numbered) (line : ℕ) (name : List ℕ) : Type 0 where
  pub list : is_list_line (maker_command ns line name) ≡ true
  pub named : IsUtf8 name

abbrev pub Asks : List Numbered → Matrices → ℕ → Command → Type 0
Asks ns files line (c.Matrix name grid m n mb nb rsrc csrc file) = HasSizedFile (modulus_of ns) m n files line
Asks ns files line (c.Pgemm transa transb m n k alpha a ia ja b ib jb beta x ic jc) = AsksProduct ns line alpha a b beta x
Asks ns files line (c.Ptrsm side uplo transa diag m n alpha a ia ja b ib jb) = AsksTriangle ns line (is_left side) alpha a b
Asks ns files line (c.Pgetrf m n a ia ja v) = AsksFactor ns line m n a
Asks ns files line (c.Pgetrs trans n nrhs a ia ja v b ib jb) = AsksSolve ns line a v b
Asks ns files line (c.Pgemr2d m n a ia ja b ib jb ctxt) = AsksCopy ns line m n a ia ja b ib jb
Asks ns files line (c.Print name) = AsksPrint ns line name
Asks ns files line (c.Pivots name) = AsksPivots ns line name
Asks ns files line (c.Ptran m n alpha a ia ja beta x ic jc) = AsksTranspose ns line alpha a beta x
Asks ns files line (c.Pgetri n a ia ja v b ib jb) = AsksInverse ns line a v b
Asks ns files line (c.Pverify name) = AsksPrint ns line name
Asks ns files line _ = Unit {0}

-- ---- the value of a name
matrix_of : (o : Option Command) (value : Option model.Value) → is_matrix_line o ≡ true → Fits o value → IsMatrixOf (rows_made o) (columns_made o) value
matrix_of (Some (c.Matrix name grid m n mb nb rsrc csrc file)) value made fits = fits
matrix_of None value made fits = absurd (false≢true made)
matrix_of (Some command) value made fits = absurd (false≢true made)

list_of : (o : Option Command) (value : Option model.Value) → is_list_line o ≡ true → Fits o value → IsListOf (rows_made o) (columns_made o) value
list_of (Some (c.Pgetrf m n a ia ja v)) value made fits = fits
list_of None value made fits = absurd (false≢true made)
list_of (Some command) value made fits = absurd (false≢true made)

is_matrix : {m n : ℕ} {value : Option model.Value} → IsMatrixOf m n value → IsMatrix value
is_matrix h = (h.matrix, h.is)

rows_in : {m n : ℕ} {value : Option model.Value} → IsMatrixOf m n value → (matrix_in value).rows ≡ m
rows_in h = ap (λ v. (matrix_in v).rows) h.is ∙ h.rows

columns_in : {m n : ℕ} {value : Option model.Value} → IsMatrixOf m n value → cols (matrix_in value) ≡ n
columns_in h = ap (λ v. cols (matrix_in v)) h.is ∙ h.columns

not_both : (o : Option Command) → is_matrix_line o ≡ true → is_list_line o ≡ true → ⊥
not_both (Some (c.Matrix name grid m n mb nb rsrc csrc file)) made list = false≢true list
not_both None made list = false≢true made
not_both (Some command) made list = false≢true made

-- ---- what may run as the next line
-- what names mean as seen from a line fits
module _ (ns : List Numbered) (files : Matrices) (line : ℕ) (values : Values) (fits : AllFit ns (maker ns line) values) where
  matrix_named : (name : List ℕ) → is_matrix_line (maker_command ns line name) ≡ true → IsMatrixOf (rows_made (maker_command ns line name)) (columns_made (maker_command ns line name)) (values name)
  matrix_named name made = matrix_of (maker_command ns line name) (values name) made (fits name)

  list_named : (name : List ℕ) → is_list_line (maker_command ns line name) ≡ true → IsListOf (rows_made (maker_command ns line name)) (columns_made (maker_command ns line name)) (values name)
  list_named name made = list_of (maker_command ns line name) (values name) made (fits name)

  system : (a b : List ℕ) → AsksSystem ns line a b → ready.AreSystem values a b
  system a b asks =
      let m = matrix_named a asks.matrix in
      let r = matrix_named b asks.right_side in
      record {
        matrix = is_matrix m;
        right_side = is_matrix r;
        other = asks.other;
        square = columns_in m ∙ asks.square ∙ sym (rows_in m);
      }

  product : (alpha : ℕ) (a b : List ℕ) (beta : ℕ) (x : List ℕ) → AsksProduct ns line alpha a b beta x → ready.CanMultiply (modulus_of ns) values alpha a b beta x
  product alpha a b beta x asks =
      let l = matrix_named a asks.left in
      let r = matrix_named b asks.right in
      let changed = matrix_named x asks.changed in
      record {
        left = is_matrix l;
        right = is_matrix r;
        changed = is_matrix changed;
        not_left = asks.not_left;
        not_right = asks.not_right;
        alpha_below = asks.alpha_below;
        beta_below = asks.beta_below;
        rows = rows_in l ∙ asks.rows ∙ sym (rows_in changed);
        columns = columns_in r ∙ asks.columns ∙ sym (columns_in changed);
        inner = columns_in l ∙ asks.inner ∙ sym (rows_in r);
      }

  transpose : (alpha : ℕ) (a : List ℕ) (beta : ℕ) (x : List ℕ) → AsksTranspose ns line alpha a beta x → ready.CanTranspose (modulus_of ns) values alpha a beta x
  transpose alpha a beta x asks =
      let source = matrix_named a asks.source in
      let changed = matrix_named x asks.changed in
      record {
        source = is_matrix source;
        changed = is_matrix changed;
        other = asks.other;
        alpha_below = asks.alpha_below;
        beta_below = asks.beta_below;
        rows = rows_in source ∙ asks.rows ∙ sym (columns_in changed);
        columns = columns_in source ∙ asks.columns ∙ sym (rows_in changed);
      }

  triangle : (left : Bool) (alpha : ℕ) (a b : List ℕ) → AsksTriangle ns line left alpha a b → ready.CanSolveTriangle (modulus_of ns) values left alpha a b
  triangle left alpha a b asks =
      record { system = system a b asks.system; size = by_side left asks.size ∙ sym (rows_in (matrix_named a asks.system.matrix)); alpha_below = asks.alpha_below; named = asks.named }
    where
      by_side : (l : Bool) → (if l then rows_made (maker_command ns line b) else columns_made (maker_command ns line b)) ≡ rows_made (maker_command ns line a)
          → (if l then (matrix_in (values b)).rows else cols (matrix_in (values b))) ≡ rows_made (maker_command ns line a)
      by_side true e = rows_in (matrix_named b asks.system.right_side) ∙ e
      by_side false e = columns_in (matrix_named b asks.system.right_side) ∙ e

  factor : (m n : ℕ) (a : List ℕ) → AsksFactor ns line m n a → ready.CanFactor values a
  factor m n a asks = record { matrix = is_matrix (matrix_named a asks.matrix); named = asks.named }

  other_list : (v b : List ℕ) → is_list_line (maker_command ns line v) ≡ true → is_matrix_line (maker_command ns line b) ≡ true → bytes_eq b v ≡ false
  other_list v b list made =
      false_from_ne_true (bytes_eq b v) (λ t. not_both (maker_command ns line v) (ap (λ (x : List ℕ). is_matrix_line (maker_command ns line x)) (sym ((bytes_eq-Decides b v).0 t)) ∙ made) list)

  rows_of_list : (k m n : ℕ) (value : Option model.Value) → IsListOf m n value → m ≡ k → n ≡ k → (k ≤ length (list_in value)) × AreRows (list_in value) 0 k k
  rows_of_list k m n value h em en =
      let is : list_in value ≡ h.list = ap list_in h.is in
      let count = h.count in (
        subst (λ (v : List ℕ). k ≤ length v) (sym is) (omega (arith, count, em, en)),
        subst (λ (v : List ℕ). AreRows v 0 k k) (sym is) (record {
          from = λ i lo hi. h.rows.from i lo (omega (arith, hi, em, en));
          to = λ i lo hi. (let below = h.rows.to i lo (omega (arith, hi, em, en)) in omega (arith, below, em));
        }),
      )

  solve : (a v b : List ℕ) → AsksSolve ns line a v b → ready.CanSolve values a v b
  solve a v b asks =
      let l = list_named v asks.list in
      let m = matrix_named a asks.system.matrix in
      let size : (matrix_in (values a)).rows ≡ rows_made (maker_command ns line a) = rows_in m in
      let rows = rows_of_list (matrix_in (values a)).rows (rows_made (maker_command ns line v)) (columns_made (maker_command ns line v)) (values v) l (asks.list_rows ∙ sym size) (asks.list_columns ∙ sym size) in
      record {
        system = system a b asks.system;
        size = rows_in (matrix_named b asks.system.right_side) ∙ asks.size ∙ sym size;
        list = (l.list, l.is);
        other = other_list v b asks.list asks.system.right_side;
        enough = rows.0;
        rows = rows.1;
        named = asks.named;
      }

  within : (m n i j : ℕ) (name : List ℕ) → is_matrix_line (maker_command ns line name) ≡ true → i - 1 + m ≤ rows_made (maker_command ns line name) → j - 1 + n ≤ columns_made (maker_command ns line name)
      → IsWithin (window m n i j) (matrix_in (values name))
  within m n i j name made rows columns =
      let h = matrix_named name made in
      let er = rows_in h in
      let ec = columns_in h in
      record { rows_ordered = omega arith; rows_end = omega (arith, er, rows); columns_ordered = omega arith; columns_end = omega (arith, ec, columns) }

  copy : (m n : ℕ) (a : List ℕ) (ia ja : ℕ) (b : List ℕ) (ib jb : ℕ) → AsksCopy ns line m n a ia ja b ib jb → ready.CanCopy values m n a ia ja b ib jb
  copy m n a ia ja b ib jb asks = record {
    source = is_matrix (matrix_named a asks.source);
    changed = is_matrix (matrix_named b asks.changed);
    other = asks.other;
    from_row = asks.from_row;
    from_column = asks.from_column;
    to_row = asks.to_row;
    to_column = asks.to_column;
    in_a = within m n ia ja a asks.source asks.rows_in_a asks.columns_in_a;
    in_b = within m n ib jb b asks.changed asks.rows_in_b asks.columns_in_b;
  }

  print : (name : List ℕ) → AsksPrint ns line name → CanPrint values name
  print name asks = (let h = matrix_named name asks.matrix in record { value = (model.whole h.matrix, h.is, tt); named = asks.named })

  pivots : (name : List ℕ) → AsksPivots ns line name → CanPrint values name
  pivots name asks =
      let h = list_named name asks.list in
      let count = h.count in
      let short = h.short in
      let few : length h.list < 2 ^ 32 = omega (arith, count, short) in
      record { value = (model.rows h.list, h.is, few); named = asks.named }

  verify : (name : List ℕ) → AsksPrint ns line name → ready.CanVerify values name
  verify name asks = record { matrix = is_matrix (matrix_named name asks.matrix); named = asks.named }

  file : (m n : ℕ) → HasSizedFile (modulus_of ns) m n files line → HasMatrix (modulus_of ns) files line
  file m n h = record { there = h.there; matrix = record { shaped = h.residues.shaped; words = h.residues.words } }

  pub may_run : (command : Command) → Asks ns files line command → ready.CanRunLine (modulus_of ns) files line command values
  may_run (c.Matrix name grid m n mb nb rsrc csrc name_of_file) asks = file m n asks
  may_run (c.Pgemm transa transb m n k alpha a ia ja b ib jb beta x ic jc) asks = product alpha a b beta x asks
  may_run (c.Ptrsm side uplo transa diag m n alpha a ia ja b ib jb) asks = triangle (is_left side) alpha a b asks
  may_run (c.Pgetrf m n a ia ja v) asks = factor m n a asks
  may_run (c.Pgetrs trans n nrhs a ia ja v b ib jb) asks = solve a v b asks
  may_run (c.Pgemr2d m n a ia ja b ib jb ctxt) asks = copy m n a ia ja b ib jb asks
  may_run (c.Print name) asks = print name asks
  may_run (c.Pivots name) asks = pivots name asks
  may_run (c.Grid name p q f) asks = tt
  may_run (c.Discard name) asks = tt
  may_run (c.Topology kind) asks = tt
  may_run (c.Links n) asks = tt
  may_run (c.Order numbers) asks = tt
  may_run (c.Lose at rank) asks = tt
  may_run (c.Spares n) asks = tt
  may_run (c.Field n) asks = tt
  may_run (c.Ptran m n alpha a ia ja beta x ic jc) asks = transpose alpha a beta x asks
  may_run (c.Pgetri n a ia ja v b ib jb) asks = solve a v b asks.solve
  may_run (c.Flip name i j x) asks = tt
  may_run (c.Pverify name) asks = verify name asks

-- ---- what names mean after the line
rows-either : (t : Bool) (x y : Matrix) (m : ℕ) → x.rows ≡ m → y.rows ≡ m → (if t then x else y).rows ≡ m
rows-either true x y m ex ey = ex
rows-either false x y m ex ey = ey

columns-either : (t : Bool) (x y : Matrix) (n : ℕ) → cols x ≡ n → cols y ≡ n → cols (if t then x else y) ≡ n
columns-either true x y n ex ey = ex
columns-either false x y n ex ey = ey

-- another matrix of the same shape
record SameShape (a b : Matrix) : Type 0 where
  rows : a.rows ≡ b.rows
  columns : cols a ≡ cols b

shape-tabulate : (b : Matrix) (f : ℕ → ℕ → ℕ) → SameShape (tabulate b.rows (cols b) f) b
shape-tabulate b f = record { rows = rows-tabulate b.rows (cols b) f; columns = cols-tabulate b.rows (cols b) f }

shape-unless : (info : ℕ) (b : Matrix) (solve : (ℕ → ℕ) → ℕ → ℕ) → SameShape (solved_unless info b solve).matrix b
shape-unless info b solve = record {
  rows = rows-either (info == 0) _ b b.rows (rows-tabulate b.rows (cols b) _) refl;
  columns = columns-either (info == 0) _ b (cols b) (cols-tabulate b.rows (cols b) _) refl;
}

shape-triangle : (p : ℕ) (inverse : ℕ → ℕ) (lower unit : Bool) (alpha : ℕ) (a b : Matrix) → SameShape (triangle_solved p inverse lower unit alpha a b).matrix b
shape-triangle p inverse lower unit alpha a b = shape-unless (if unit then 0 else first_zero a) b (λ x. solved_column p inverse lower unit a.rows (entry a) (λ k. (x k * alpha) % p))

shape-left : (p : ℕ) (inverse : ℕ → ℕ) (trans lower unit : Bool) (alpha : ℕ) (a b : Matrix) → SameShape (left_solved p inverse trans lower unit alpha a b).matrix b
shape-left p inverse true lower unit alpha a b = shape-triangle p inverse (not lower) unit alpha (transposed a) b
shape-left p inverse false lower unit alpha a b = shape-triangle p inverse lower unit alpha a b

-- what is turned back has the shape that was turned
shape-turned : (m b : Matrix) → SameShape m (transposed b) → SameShape (transposed m) b
shape-turned m b same = record {
  rows = rows-tabulate (cols m) m.rows (λ i j. entry m j i) ∙ same.columns ∙ cols-tabulate (cols b) b.rows (λ i j. entry b j i);
  columns = cols-tabulate (cols m) m.rows (λ i j. entry m j i) ∙ same.rows ∙ rows-tabulate (cols b) b.rows (λ i j. entry b j i);
}

shape-side : (p : ℕ) (inverse : ℕ → ℕ) (left trans lower unit : Bool) (alpha : ℕ) (a b : Matrix) → SameShape (side_solved p inverse left trans lower unit alpha a b).matrix b
shape-side p inverse true trans lower unit alpha a b = shape-left p inverse trans lower unit alpha a b
shape-side p inverse false trans lower unit alpha a b =
    shape-turned (left_solved p inverse (not trans) lower unit alpha a (transposed b)).matrix b (shape-left p inverse (not trans) lower unit alpha a (transposed b))

shape-factors : (p : ℕ) (inverse : ℕ → ℕ) (trans : Bool) (a : Matrix) (v : List ℕ) (b : Matrix) → SameShape (trans_solved p inverse trans a v b).matrix b
shape-factors p inverse trans a v b =
    shape-unless (first_zero a) b (if trans then transposed_solved p inverse (entry a) v a.rows else solved_with_factors p inverse (entry a) v a.rows)

shape-inverse : (p : ℕ) (inverse : ℕ → ℕ) (f : Matrix) (v : List ℕ) (b : Matrix) → f.rows ≡ b.rows → f.rows ≡ cols b → SameShape (inverted p inverse f v b).matrix b
shape-inverse p inverse f v b er ec =
    let solved = shape-unless (first_zero f) (identity_matrix f.rows) (solved_with_factors p inverse (entry f) v f.rows) in
    let x = (factors_solved p inverse f v (identity_matrix f.rows)).matrix in
    record {
      rows = rows-either (first_zero f == 0) x b b.rows (solved.rows ∙ rows-tabulate f.rows f.rows identity_word ∙ er) refl;
      columns = columns-either (first_zero f == 0) x b (cols b) (solved.columns ∙ cols-tabulate f.rows f.rows identity_word ∙ ec) refl;
    }

changed_fits : (o : Option Command) (old : Option model.Value) (new : Matrix) → is_matrix_line o ≡ true → SameShape new (matrix_in old) → Fits o old → Fits o (Some (model.whole new))
changed_fits (Some (c.Matrix name grid m n mb nb rsrc csrc file)) old new made same fits =
    record { matrix = new; is = refl; rows = same.rows ∙ rows_in fits; columns = same.columns ∙ columns_in fits }
changed_fits None old new made same fits = absurd (false≢true made)
changed_fits (Some command) old new made same fits = absurd (false≢true made)

module _ (ns : List Numbered) (known : List ℕ → Option ℕ) (values : Values) (fits : AllFit ns known values) where
  -- the matrix of one name becomes another of its shape
  with_changed : (x : List ℕ) (new : Matrix) → is_matrix_line (command_on ns (known x)) ≡ true → SameShape new (matrix_in (values x)) → AllFit ns known (with_value values x (Some (model.whole new)))
  with_changed x new made same name = by_test (bytes_eq x name) refl
    where
      by_test : (b : Bool) → bytes_eq x name ≡ b → Fits (command_on ns (known name)) (if b then Some (model.whole new) else values name)
      by_test true e =
          subst (λ (y : List ℕ). Fits (command_on ns (known y)) (Some (model.whole new))) ((bytes_eq-Decides x name).0 e)
          (changed_fits (command_on ns (known x)) (values x) new made same (fits x))
      by_test false e = fits name

  -- a name is made by a line
  with_made : (made : List ℕ) (line : ℕ) (new : Option model.Value) (others : Values) → AllFit ns known others → Fits (command_at ns line) new → (name : List ℕ)
      → Fits (command_on ns (if bytes_eq made name then Some line else known name)) (with_value others made new name)
  with_made made line new others before here name = by_test (bytes_eq made name)
    where
      by_test : (b : Bool) → Fits (command_on ns (if b then Some line else known name)) (if b then new else others name)
      by_test true = here
      by_test false = before name

  -- a name is dropped
  with_dropped : (dropped name : List ℕ) → Fits (command_on ns (if bytes_eq dropped name then None else known name)) (with_value values dropped None name)
  with_dropped dropped name = by_test (bytes_eq dropped name)
    where
      by_test : (b : Bool) → Fits (command_on ns (if b then None else known name)) (if b then None else values name)
      by_test true = tt
      by_test false = fits name

  -- a name is made that has no value
  with_grid : (made : List ℕ) (line : ℕ) (name grid : List ℕ) (p q f : ℕ) → command_at ns line ≡ Some (c.Grid grid p q f) → Fits (command_on ns (if bytes_eq made name then Some line else known name)) (values name)
  with_grid made line name grid p q f e = by_test (bytes_eq made name)
    where
      by_test : (b : Bool) → Fits (command_on ns (if b then Some line else known name)) (values name)
      by_test true = subst (λ o. Fits o (values name)) (sym e) tt
      by_test false = fits name

module _ (ns : List Numbered) (files : Matrices) (line : ℕ) (values : Values) (fits : AllFit ns (maker ns line) values) where
  factored_fits : (m n : ℕ) (a : List ℕ) → AsksFactor ns line m n a → IsListOf m n (Some (model.rows (factored (modulus_of ns) (inverse (modulus_of ns)) values a).pivots))
  factored_fits m n a asks =
      let x = matrix_in (values a) in
      let h = matrix_named ns files line values fits a asks.matrix in
      let er : x.rows ≡ m = rows_in h ∙ sym asks.rows in
      let ec : cols x ≡ n = columns_in h ∙ sym asks.columns in
      let list = (factored (modulus_of ns) (inverse (modulus_of ns)) values a).pivots in
      let count = elimination-count (modulus_of ns) (inverse (modulus_of ns)) x.rows (cols x) (entry x) in
      let rows = elimination-rows (modulus_of ns) (inverse (modulus_of ns)) x.rows (cols x) (entry x) in
      record {
        list = list;
        is = refl;
        count = omega (arith, count, er, ec);
        rows = subst (λ (k : ℕ). AreRows list 0 (min k n) k) er (subst (λ (k : ℕ). AreRows list 0 (min x.rows k) x.rows) ec rows);
        short = asks.few;
      }

  pub next_fits : (command : Command) → command_at ns line ≡ Some command → Asks ns files line command
      → AllFit ns (λ name. maker_after (record { line = line; command = command }) name (maker ns line name)) (values_under (modulus_of ns) (inverse (modulus_of ns)) (file_of files) line command values)
  next_fits (c.Matrix made grid m n mb nb rsrc csrc file) e asks =
      with_made ns (maker ns line) values fits made line (Some (model.whole (file_of files line))) values fits
      (subst (λ o. Fits o (Some (model.whole (file_of files line)))) (sym e) (record { matrix = file_of files line; is = refl; rows = asks.residues.rows; columns = asks.residues.columns }))
  next_fits (c.Pgemm transa transb m n k alpha a ia ja b ib jb beta x ic jc) e asks =
      with_changed ns (maker ns line) values fits x (product_of (modulus_of ns) alpha (matrix_in (values a)) (matrix_in (values b)) beta (matrix_in (values x))) asks.changed (shape-tabulate (matrix_in (values x)) _)
  next_fits (c.Ptrsm side uplo transa diag m n alpha a ia ja b ib jb) e asks =
      with_changed ns (maker ns line) values fits b (solved_by_triangle (modulus_of ns) (inverse (modulus_of ns)) values side uplo transa diag alpha a b).matrix asks.system.right_side
      (shape-side (modulus_of ns) (inverse (modulus_of ns)) (is_left side) (is_transposed transa) (is_lower uplo) (is_unit diag) alpha (matrix_in (values a)) (matrix_in (values b)))
  next_fits (c.Pgetrf m n a ia ja v) e asks =
      with_made ns (maker ns line) values fits v line (Some (model.rows (factored (modulus_of ns) (inverse (modulus_of ns)) values a).pivots)) (with_value values a (Some (model.whole (eliminated_matrix (modulus_of ns) (inverse (modulus_of ns)) (matrix_in (values a))))))
      (with_changed ns (maker ns line) values fits a (eliminated_matrix (modulus_of ns) (inverse (modulus_of ns)) (matrix_in (values a))) asks.matrix (shape-tabulate (matrix_in (values a)) _))
      (subst (λ o. Fits o (Some (model.rows (factored (modulus_of ns) (inverse (modulus_of ns)) values a).pivots))) (sym e) (factored_fits m n a asks))
  next_fits (c.Pgetrs trans n nrhs a ia ja v b ib jb) e asks =
      with_changed ns (maker ns line) values fits b (solved_by_factors (modulus_of ns) (inverse (modulus_of ns)) values trans a v b).matrix asks.system.right_side
      (shape-factors (modulus_of ns) (inverse (modulus_of ns)) (is_transposed trans) (matrix_in (values a)) (list_in (values v)) (matrix_in (values b)))
  next_fits (c.Pgemr2d m n a ia ja b ib jb ctxt) e asks =
      with_changed ns (maker ns line) values fits b (window_copied m n (matrix_in (values a)) ia ja (matrix_in (values b)) ib jb) asks.changed (shape-tabulate (matrix_in (values b)) _)
  next_fits (c.Discard name) e asks = with_dropped ns (maker ns line) values fits name
  next_fits (c.Grid made p q f) e asks = λ name. with_grid ns (maker ns line) values fits made line name made p q f e
  next_fits (c.Print name) e asks = fits
  next_fits (c.Pivots name) e asks = fits
  next_fits (c.Topology kind) e asks = fits
  next_fits (c.Links n) e asks = fits
  next_fits (c.Order numbers) e asks = fits
  next_fits (c.Lose at rank) e asks = fits
  next_fits (c.Spares n) e asks = fits
  next_fits (c.Field n) e asks = fits
  next_fits (c.Ptran m n alpha a ia ja beta x ic jc) e asks =
      with_changed ns (maker ns line) values fits x (transpose_added (modulus_of ns) alpha (matrix_in (values a)) beta (matrix_in (values x))) asks.changed (shape-tabulate (matrix_in (values x)) _)
  next_fits (c.Pgetri n a ia ja v b ib jb) e asks =
      let source = matrix_named ns files line values fits a asks.solve.system.matrix in
      let changed = matrix_named ns files line values fits b asks.solve.system.right_side in
      with_changed ns (maker ns line) values fits b (inverted_by_factors (modulus_of ns) (inverse (modulus_of ns)) values a v b).matrix asks.solve.system.right_side
      (shape-inverse (modulus_of ns) (inverse (modulus_of ns)) (matrix_in (values a)) (list_in (values v)) (matrix_in (values b))
      (rows_in source ∙ sym asks.solve.size ∙ sym (rows_in changed)) (rows_in source ∙ sym asks.columns ∙ sym (columns_in changed)))
  next_fits (c.Flip name i j x) e asks = fits
  next_fits (c.Pverify name) e asks = fits

-- ---- all lines
module _ (script : List (Option Command)) (files : Matrices) (asked : (line : ℕ) (command : Command) → command_at (commands_of script) line ≡ Some command → Asks (commands_of script) files line command) where
  ready_from : (more : List Numbered) (bound : ℕ) (known : List ℕ → Option ℕ) (values : Values) → LinesRise bound more → IsLeft (commands_of script) more bound known → AreThere (commands_of script) more
      → AllFit (commands_of script) known values → AreReady (modulus_of (commands_of script)) (inverse (modulus_of (commands_of script))) files more values
  ready_from [] bound known values rise left there fits = tt
  ready_from (n ∷ more) bound known values rise left there fits =
      let ns : List Numbered = commands_of script in
      let same : (name : List ℕ) → maker ns n.line name ≡ known name = λ name. maker-here ns more n bound known name rise left in
      let here : AllFit ns (maker ns n.line) values = λ name. subst (λ o. Fits (command_on ns o) (values name)) (sym (same name)) (fits name) in
      let is : command_at ns n.line ≡ Some n.command = there-first ns more n there in
      let asks : Asks ns files n.line n.command = asked n.line n.command is in
      let later : Values = values_under (modulus_of (commands_of script)) (inverse (modulus_of (commands_of script))) (file_of files) n.line n.command values in (
        may_run ns files n.line values here n.command asks,
        ready_from more n.line (λ name. maker_after n name (known name)) later rise.1 (next_left ns more n bound known rise left) (there-later ns more n there)
            (λ name. subst (λ o. Fits (command_on ns (maker_after n name o)) (later name)) (same name) (next_fits ns files n.line values here n.command is asks name)),
      )

  pub ready_all : AreReady (modulus_of (commands_of script)) (inverse (modulus_of (commands_of script))) files (commands_of script) no_values
  ready_all = ready_from (commands_of script) 0 (λ name. None) no_values (commands-rise script) (all_left (commands_of script)) (there-all script) (λ name. tt)
