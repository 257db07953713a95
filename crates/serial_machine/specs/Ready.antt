-- What the serial run asks of a script and of its files: at each command its operands are there, of shapes that agree.
use Rattle.std.specs.Prelude.{◌≡◌, ℕ, ◌<◌, ◌≤◌, ◌^◌, if◌then◌else◌, Bool, true, false, List, [], ◌∷◌, length, Option, Some}
use Rattle.std.specs.FinMap as map
use Rattle.std.specs.Str.{bytes_eq, IsUtf8}
use Rattle.field_core.specs.Residue.{inverse}
use Rattle.run_data.specs.Matrix.{Matrix, cols, AreWords, IsShaped}
use Rattle.run_data.specs.Parts.{IsWithin}
use Rattle.run_data.specs.Script.{Numbered, commands_of, modulus_of}
use Rattle.run_data.specs.declared.command.Command.{Command}
use Rattle.run_data.specs.declared.command.Command.TheVariants as c
use Rattle.rank_machine.specs.Scripts.{Matrices, file_of}
use Rattle.elimination.specs.Whole.{AreRows}
use Rattle.serial_model.specs.Serial as model
use Rattle.serial_model.specs.Serial.{Values, matrix_in, list_in, is_left, values_under, no_values}
use Rattle.serial_model.specs.Solves.{window}
use Rattle.serial_machine.specs.Values.{IsMatrix, IsList}

-- a list that a program can hold as one of numbers
abbrev pub IsShort : model.Value → Type 0
IsShort (model.whole m) = Unit {0}
IsShort (model.rows v) = length v < 2 ^ 32

-- a name means something that can be printed
abbrev pub IsValue : Option model.Value → Type 0
IsValue value = (x : model.Value) × (value ≡ Some x) × IsShort x

-- a matrix of its shape, with words below p
pub record IsWhole (p : ℕ) (m : Matrix) : Type 0 where
  pub shaped : IsShaped m
  pub words : AreWords p m

-- all matrices are so
pub record AreWhole (p : ℕ) (values : Values) : Type 0 where
  pub matrices : (name : List ℕ) (m : Matrix) → values name ≡ Some (model.whole m) → IsWhole p m

-- C becomes alpha A B + beta C
pub record CanMultiply (p : ℕ) (values : Values) (alpha : ℕ) (a b : List ℕ) (beta : ℕ) (x : List ℕ) : Type 0 where
  pub left : IsMatrix (values a)
  pub right : IsMatrix (values b)
  pub changed : IsMatrix (values x)
  pub not_left : bytes_eq x a ≡ false
  pub not_right : bytes_eq x b ≡ false
  pub alpha_below : alpha < p
  pub beta_below : beta < p
  pub rows : (matrix_in (values a)).rows ≡ (matrix_in (values x)).rows
  pub columns : cols (matrix_in (values b)) ≡ cols (matrix_in (values x))
  pub inner : cols (matrix_in (values a)) ≡ (matrix_in (values b)).rows

-- C becomes alpha times the transpose of A, plus beta C
pub record CanTranspose (p : ℕ) (values : Values) (alpha : ℕ) (a : List ℕ) (beta : ℕ) (x : List ℕ) : Type 0 where
  pub source : IsMatrix (values a)
  pub changed : IsMatrix (values x)
  pub other : bytes_eq x a ≡ false
  pub alpha_below : alpha < p
  pub beta_below : beta < p
  pub rows : (matrix_in (values a)).rows ≡ cols (matrix_in (values x))
  pub columns : cols (matrix_in (values a)) ≡ (matrix_in (values x)).rows

-- a square A and another matrix B
pub record AreSystem (values : Values) (a b : List ℕ) : Type 0 where
  pub matrix : IsMatrix (values a)
  pub right_side : IsMatrix (values b)
  pub other : bytes_eq b a ≡ false
  pub square : cols (matrix_in (values a)) ≡ (matrix_in (values a)).rows

-- B has as many rows as A, or from the right as many columns
pub record CanSolveTriangle (p : ℕ) (values : Values) (left : Bool) (alpha : ℕ) (a b : List ℕ) : Type 0 where
  pub system : AreSystem values a b
  pub size : (if left then (matrix_in (values b)).rows else cols (matrix_in (values b))) ≡ (matrix_in (values a)).rows
  pub alpha_below : alpha < p
  pub named : IsUtf8 b

pub record CanFactor (values : Values) (a : List ℕ) : Type 0 where
  pub matrix : IsMatrix (values a)
  pub named : IsUtf8 a

-- B has as many rows as A, and the list has a row of A for each of them
pub record CanSolve (values : Values) (a v b : List ℕ) : Type 0 where
  pub system : AreSystem values a b
  pub size : (matrix_in (values b)).rows ≡ (matrix_in (values a)).rows
  pub list : IsList (values v)
  pub other : bytes_eq b v ≡ false
  pub enough : (matrix_in (values a)).rows ≤ length (list_in (values v))
  pub rows : AreRows (list_in (values v)) 0 (matrix_in (values a)).rows (matrix_in (values a)).rows
  pub named : IsUtf8 b

-- both windows lie in their matrices; their rows and columns count from 1
pub record CanCopy (values : Values) (m n : ℕ) (a : List ℕ) (ia ja : ℕ) (b : List ℕ) (ib jb : ℕ) : Type 0 where
  pub source : IsMatrix (values a)
  pub changed : IsMatrix (values b)
  pub other : bytes_eq b a ≡ false
  pub from_row : 0 < ia
  pub from_column : 0 < ja
  pub to_row : 0 < ib
  pub to_column : 0 < jb
  pub in_a : IsWithin (window m n ia ja) (matrix_in (values a))
  pub in_b : IsWithin (window m n ib jb) (matrix_in (values b))

-- a matrix line has its file
pub record HasMatrix (p : ℕ) (files : Matrices) (line : ℕ) : Type 0 where
  pub there : map.get files line ≡ Some (file_of files line)
  pub matrix : IsWhole p (file_of files line)

pub record CanPrint (values : Values) (name : List ℕ) : Type 0 where
  pub value : IsValue (values name)
  pub named : IsUtf8 name

pub record CanVerify (values : Values) (name : List ℕ) : Type 0 where
  pub matrix : IsMatrix (values name)
  pub named : IsUtf8 name

-- a command may run on a line
abbrev pub CanRunLine : ℕ → Matrices → ℕ → Command → Values → Type 0
CanRunLine p files line (c.Grid name down across f) values = Unit {0}
CanRunLine p files line (c.Matrix name grid m n mb nb rsrc csrc file) values = HasMatrix p files line
CanRunLine p files line (c.Pgemm transa transb m n k alpha a ia ja b ib jb beta x ic jc) values = CanMultiply p values alpha a b beta x
CanRunLine p files line (c.Ptrsm side uplo transa diag m n alpha a ia ja b ib jb) values = CanSolveTriangle p values (is_left side) alpha a b
CanRunLine p files line (c.Pgetrf m n a ia ja v) values = CanFactor values a
CanRunLine p files line (c.Pgetrs trans n nrhs a ia ja v b ib jb) values = CanSolve values a v b
CanRunLine p files line (c.Pgemr2d m n a ia ja b ib jb ctxt) values = CanCopy values m n a ia ja b ib jb
CanRunLine p files line (c.Print name) values = CanPrint values name
CanRunLine p files line (c.Pivots name) values = CanPrint values name
CanRunLine p files line (c.Discard name) values = Unit {0}
CanRunLine p files line (c.Topology kind) values = Unit {0}
CanRunLine p files line (c.Links n) values = Unit {0}
CanRunLine p files line (c.Order numbers) values = Unit {0}
CanRunLine p files line (c.Lose at rank) values = Unit {0}
CanRunLine p files line (c.Spares n) values = Unit {0}
CanRunLine p files line (c.Field n) values = Unit {0}
CanRunLine p files line (c.Ptran m n alpha a ia ja beta x ic jc) values = CanTranspose p values alpha a beta x
CanRunLine p files line (c.Pgetri n a ia ja v b ib jb) values = CanSolve values a v b
CanRunLine p files line (c.Flip name i j x) values = Unit {0}
CanRunLine p files line (c.Pverify name) values = CanVerify values name

-- a command that prints
abbrev pub prints_text : Command → Bool
prints_text (c.Grid name down across f) = false
prints_text (c.Matrix name grid m n mb nb rsrc csrc file) = false
prints_text (c.Pgemm transa transb m n k alpha a ia ja b ib jb beta x ic jc) = false
prints_text (c.Ptrsm side uplo transa diag m n alpha a ia ja b ib jb) = true
prints_text (c.Pgetrf m n a ia ja v) = true
prints_text (c.Pgetrs trans n nrhs a ia ja v b ib jb) = true
prints_text (c.Pgemr2d m n a ia ja b ib jb ctxt) = false
prints_text (c.Print name) = true
prints_text (c.Pivots name) = true
prints_text (c.Discard name) = false
prints_text (c.Topology kind) = false
prints_text (c.Links n) = false
prints_text (c.Order numbers) = false
prints_text (c.Lose at rank) = false
prints_text (c.Spares n) = false
prints_text (c.Field n) = false
prints_text (c.Ptran m n alpha a ia ja beta x ic jc) = false
prints_text (c.Pgetri n a ia ja v b ib jb) = true
prints_text (c.Flip name i j x) = false
prints_text (c.Pverify name) = true

-- these commands may run, one after another
abbrev pub AreReady : ℕ → (ℕ → ℕ) → Matrices → List Numbered → Values → Type 0
AreReady p inverses files [] values = Unit {0}
AreReady p inverses files (n ∷ ns) values =
    CanRunLine p files n.line n.command values × AreReady p inverses files ns (values_under p inverses (file_of files) n.line n.command values)

-- a script can run with these files, over its field
pub record CanRun (script : List (Option Command)) (files : Matrices) : Type 0 where
  pub ready : AreReady (modulus_of (commands_of script)) (inverse (modulus_of (commands_of script))) files (commands_of script) no_values
