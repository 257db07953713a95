-- Elimination by panels, and what a panel does to the other columns. A column is a function from rows to words.
use Rattle.std.specs.Prelude.{◌≡◌, ℕ, zero, suc, ◌+◌, ◌-◌, ◌*◌, ◌%◌, ◌<◌, ◌≤◌, if◌then◌else◌, nat_lt, Bool, true, List, length, min}
use Rattle.field_core.specs.Sums.{sum_to}
use Rattle.local_blas.specs.Kernels.{solution}
use Rattle.serial_model.specs.Elimination.{Eliminated, eliminate_columns, pivot_row, exchanged}

-- words below p, zeros from row m on, and j pivots
pub record IsReady (p m j : ℕ) (s : Eliminated) : Type 0 where
  pub below : (i k : ℕ) → s.words i k < p
  pub past : (i k : ℕ) → m ≤ i → s.words i k ≡ 0
  pub count : length s.pivots ≡ j

-- two states with the same columns from lo to hi - 1, and the same pivots
pub record AgreesOn (lo hi : ℕ) (s t : Eliminated) : Type 0 where
  pub words : (i k : ℕ) → lo ≤ k → k < hi → s.words i k ≡ t.words i k
  pub pivots : s.pivots ≡ t.pivots

-- l has the words of the n columns from `first` on, and v the numbers of their pivots
pub record IsPanel (first n : ℕ) (s : Eliminated) (l : ℕ → ℕ → ℕ) (v : List ℕ) : Type 0 where
  pub words : (i k : ℕ) → first ≤ k → k < first + n → l i k ≡ s.words i k
  pub pivots : (k : ℕ) → first ≤ k → k < first + n → pivot_row v k ≡ pivot_row s.pivots k

-- each exchange is with a row further down
pub record IsForward (v : List ℕ) (first count : ℕ) : Type 0 where
  pub down : (k : ℕ) → first ≤ k → k < first + count → k ≤ pivot_row v k

-- word first + i of the solution of a column x by the lower triangle of l that begins at row and column first, with a diagonal of ones where `unit`
abbrev pub solved : ℕ → (ℕ → ℕ) → Bool → (ℕ → ℕ → ℕ) → ℕ → (ℕ → ℕ) → ℕ → ℕ
solved p inverse unit l first x = solution p inverse unit (λ i k. l (first + i) (first + k)) (λ i. x (first + i))

-- a column after it was solved by n rows of that triangle, and the rows below lost the words of l times the solved words
unfoldable pub reduced : ℕ → (ℕ → ℕ) → Bool → (ℕ → ℕ → ℕ) → ℕ → ℕ → (ℕ → ℕ) → ℕ → ℕ
reduced p inverse unit l first n x i =
    if nat_lt i first then x i
    else if nat_lt i (first + n) then solved p inverse unit l first x (i - first)
    else (x i + (p - 1) * sum_to n (λ k. l i (first + k) * solved p inverse unit l first x k)) % p

-- what a panel of n columns does to a column right of it
abbrev pub carried : ℕ → (ℕ → ℕ) → (ℕ → ℕ → ℕ) → List ℕ → ℕ → ℕ → (ℕ → ℕ) → ℕ → ℕ
carried p inverse l v first n x = reduced p inverse true l first n (exchanged v first n x)

-- the words of the columns first, .., first + width - 1, and 0 elsewhere
unfoldable pub panel_words : ℕ → ℕ → (ℕ → ℕ → ℕ) → ℕ → ℕ → ℕ
panel_words first width a i k = if nat_lt k first then 0 else if nat_lt k (first + width) then a i k else 0

-- the panel alone, with what was found before
abbrev pub panel_of : ℕ → ℕ → Eliminated → Eliminated
panel_of first width s = record { words = panel_words first width s.words; pivots = s.pivots; info = s.info }

-- the whole after n columns of the panel were eliminated to t: the columns left of it have their rows exchanged, and those right of it are carried
unfoldable pub with_panel : ℕ → (ℕ → ℕ) → ℕ → ℕ → ℕ → Eliminated → Eliminated → Eliminated
with_panel p inverse first width n s t =
    record {
      words = λ i k. if nat_lt k first then exchanged t.pivots first n (λ r. s.words r k) i
          else if nat_lt k (first + width) then t.words i k
          else carried p inverse t.words t.pivots first n (λ r. s.words r k) i;
      pivots = t.pivots;
      info = t.info;
    }

-- one panel of `width` columns, of which the first n are eliminated
abbrev pub eliminate_panel : ℕ → (ℕ → ℕ) → ℕ → ℕ → ℕ → ℕ → Eliminated → Eliminated
eliminate_panel p inverse m first width n s = with_panel p inverse first width n s (eliminate_columns p inverse m first n (panel_of first width s))

-- the first t panels of nb columns, where n columns in all are eliminated: the last panel may have more columns than that
unfoldable pub eliminate_panels : ℕ → (ℕ → ℕ) → ℕ → ℕ → ℕ → ℕ → Eliminated → Eliminated
eliminate_panels p inverse m n nb zero s = s
eliminate_panels p inverse m n nb (suc t) s = eliminate_panel p inverse m (t * nb) nb (min nb (n - t * nb)) (eliminate_panels p inverse m n nb t s)
