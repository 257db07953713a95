-- The lines of a script as commands.
use Rattle.std.specs.Prelude.{ℕ, List, [], ◌∷◌, drop, slice_get, unwrap_or, Option, Some, None}
use Rattle.run_data.specs.declared.command.Command.{Command}
use Rattle.run_data.specs.declared.command.Command.TheVariants as c
use Rattle.script_words.specs.declared.kinds.CommandWord.{CommandWord}
use Rattle.script_words.specs.declared.kinds.CommandWord.TheVariants as w
use Rattle.script_words.specs.Kinds.{command_word}
use Rattle.script_words.specs.Numbers.{number_of}

-- the first value that is missing makes the whole missing
infixl 10 ◌>>=◌
abbrev pub ◌>>=◌ : {A B : Type 0} → Option A → (A → Option B) → Option B
None >>= f = None
(Some x) >>= f = f x

-- a word of a line; the command's own word is word 0
abbrev pub word_at : List (List ℕ) → ℕ → List ℕ
word_at words i = unwrap_or (slice_get words i) []

abbrev pub number_at : List (List ℕ) → ℕ → Option ℕ
number_at words i = number_of (word_at words i)

-- `grid G P Q F`
unfoldable pub grid_of : List (List ℕ) → Option Command
grid_of words = do
  p ← number_at words 2
  q ← number_at words 3
  f ← number_at words 4
  Some (c.Grid (word_at words 1) p q f)

-- `matrix A G M N MB NB RSRC CSRC FILE`
unfoldable pub matrix_of : List (List ℕ) → Option Command
matrix_of words = do
  m ← number_at words 3
  n ← number_at words 4
  mb ← number_at words 5
  nb ← number_at words 6
  rsrc ← number_at words 7
  csrc ← number_at words 8
  Some (c.Matrix (word_at words 1) (word_at words 2) m n mb nb rsrc csrc (word_at words 9))

-- `pgemm TRANSA TRANSB M N K ALPHA A IA JA B IB JB BETA C IC JC`
unfoldable pub pgemm_of : List (List ℕ) → Option Command
pgemm_of words = do
  m ← number_at words 3
  n ← number_at words 4
  k ← number_at words 5
  alpha ← number_at words 6
  ia ← number_at words 8
  ja ← number_at words 9
  ib ← number_at words 11
  jb ← number_at words 12
  beta ← number_at words 13
  ic ← number_at words 15
  jc ← number_at words 16
  Some (c.Pgemm (word_at words 1) (word_at words 2) m n k alpha (word_at words 7) ia ja (word_at words 10) ib jb beta (word_at words 14) ic jc)

-- `ptrsm SIDE UPLO TRANSA DIAG M N ALPHA A IA JA B IB JB`
unfoldable pub ptrsm_of : List (List ℕ) → Option Command
ptrsm_of words = do
  m ← number_at words 5
  n ← number_at words 6
  alpha ← number_at words 7
  ia ← number_at words 9
  ja ← number_at words 10
  ib ← number_at words 12
  jb ← number_at words 13
  Some (c.Ptrsm (word_at words 1) (word_at words 2) (word_at words 3) (word_at words 4) m n alpha (word_at words 8) ia ja (word_at words 11) ib jb)

-- `pgetrf M N A IA JA V`
unfoldable pub pgetrf_of : List (List ℕ) → Option Command
pgetrf_of words = do
  m ← number_at words 1
  n ← number_at words 2
  ia ← number_at words 4
  ja ← number_at words 5
  Some (c.Pgetrf m n (word_at words 3) ia ja (word_at words 6))

-- `pgetrs TRANS N NRHS A IA JA V B IB JB`
unfoldable pub pgetrs_of : List (List ℕ) → Option Command
pgetrs_of words = do
  n ← number_at words 2
  nrhs ← number_at words 3
  ia ← number_at words 5
  ja ← number_at words 6
  ib ← number_at words 9
  jb ← number_at words 10
  Some (c.Pgetrs (word_at words 1) n nrhs (word_at words 4) ia ja (word_at words 7) (word_at words 8) ib jb)

-- `pgemr2d M N A IA JA B IB JB CTXT`
unfoldable pub pgemr2d_of : List (List ℕ) → Option Command
pgemr2d_of words = do
  m ← number_at words 1
  n ← number_at words 2
  ia ← number_at words 4
  ja ← number_at words 5
  ib ← number_at words 7
  jb ← number_at words 8
  Some (c.Pgemr2d m n (word_at words 3) ia ja (word_at words 6) ib jb (word_at words 9))

-- `links n`
unfoldable pub links_of : List (List ℕ) → Option Command
links_of words = do
  n ← number_at words 1
  Some (c.Links n)

-- the numbers that words are, if all of them are numbers
unfoldable pub numbers_of : List (List ℕ) → Option (List ℕ)
numbers_of [] = Some []
numbers_of (word ∷ words) = do
  n ← number_of word
  ns ← numbers_of words
  Some (n ∷ ns)

-- `order` and its numbers
unfoldable pub order_of : List (List ℕ) → Option Command
order_of words = do
  numbers ← numbers_of (drop 1 words)
  Some (c.Order numbers)

-- `lose T R`
unfoldable pub lose_of : List (List ℕ) → Option Command
lose_of words = do
  at ← number_at words 1
  rank ← number_at words 2
  Some (c.Lose at rank)

-- `spares n`
unfoldable pub spares_line_of : List (List ℕ) → Option Command
spares_line_of words = do
  n ← number_at words 1
  Some (c.Spares n)

-- `field n`
unfoldable pub field_of : List (List ℕ) → Option Command
field_of words = do
  n ← number_at words 1
  Some (c.Field n)

-- `ptran M N ALPHA A IA JA BETA C IC JC`
unfoldable pub ptran_of : List (List ℕ) → Option Command
ptran_of words = do
  m ← number_at words 1
  n ← number_at words 2
  alpha ← number_at words 3
  ia ← number_at words 5
  ja ← number_at words 6
  beta ← number_at words 7
  ic ← number_at words 9
  jc ← number_at words 10
  Some (c.Ptran m n alpha (word_at words 4) ia ja beta (word_at words 8) ic jc)

-- `pgetri N A IA JA V B IB JB`
unfoldable pub pgetri_of : List (List ℕ) → Option Command
pgetri_of words = do
  n ← number_at words 1
  ia ← number_at words 3
  ja ← number_at words 4
  ib ← number_at words 7
  jb ← number_at words 8
  Some (c.Pgetri n (word_at words 2) ia ja (word_at words 5) (word_at words 6) ib jb)

-- `flip A I J X`
unfoldable pub flip_of : List (List ℕ) → Option Command
flip_of words = do
  i ← number_at words 2
  j ← number_at words 3
  x ← number_at words 4
  Some (c.Flip (word_at words 1) i j x)

-- the command of a line, by its first word
unfoldable pub command_as : Option CommandWord → List (List ℕ) → Option Command
command_as (Some w.Grid) words = grid_of words
command_as (Some w.Matrix) words = matrix_of words
command_as (Some w.Pgemm) words = pgemm_of words
command_as (Some w.Ptrsm) words = ptrsm_of words
command_as (Some w.Pgetrf) words = pgetrf_of words
command_as (Some w.Pgetrs) words = pgetrs_of words
command_as (Some w.Pgemr2d) words = pgemr2d_of words
command_as (Some w.Print) words = Some (c.Print (word_at words 1))
command_as (Some w.Pivots) words = Some (c.Pivots (word_at words 1))
command_as (Some w.Discard) words = Some (c.Discard (word_at words 1))
command_as (Some w.Topology) words = Some (c.Topology (word_at words 1))
command_as (Some w.Links) words = links_of words
command_as (Some w.Order) words = order_of words
command_as (Some w.Lose) words = lose_of words
command_as (Some w.Spares) words = spares_line_of words
command_as (Some w.Field) words = field_of words
command_as (Some w.Ptran) words = ptran_of words
command_as (Some w.Pgetri) words = pgetri_of words
command_as (Some w.Flip) words = flip_of words
command_as (Some w.Pverify) words = Some (c.Pverify (word_at words 1))
command_as None words = None

-- the command that a line spells; a line without words has none
unfoldable pub command_of : List (List ℕ) → Option Command
command_of [] = None
command_of (first ∷ others) = command_as (command_word first) (first ∷ others)
