-- The law of the code columns of a group, at each place: which sums of the columns' words stand in Code, in Low and in Open.
use Rattle.std.specs.Prelude.{◌≡◌, ◌≢◌, ◌⊎◌, ℕ, ◌+◌, ◌*◌, ◌%◌, ◌<◌, ◌≤◌, if◌then◌else◌, nat_lt, List}
use Rattle.field_core.specs.Sums.{sum_to}
use Rattle.serial_model.specs.Elimination.{exchanged}
use Rattle.elimination.specs.Panels.{carried}

-- c is, at each place, the sum of the columns x 0, .., x (n - 1) by the weights w
pub record IsWeightedSum (p n : ℕ) (w : ℕ → ℕ) (x : ℕ → ℕ → ℕ) (c : ℕ → ℕ) : Type 0 where
  pub at : (i : ℕ) → c i % p ≡ sum_to n (λ q. w q * x q i) % p

-- where a column of a matrix stands in the elimination: its panel comes later, or is eliminated and not closed, or is closed
pub data Stage : Type 0 where
  Ahead : Stage
  Open : Stage
  Closed : Stage

-- a column's words at and above row d, and 0 below
abbrev pub upper : ℕ → (ℕ → ℕ) → ℕ → ℕ
upper d x i = if nat_lt d i then 0 else x i

-- a column's words below row d, and 0 above
abbrev pub lower : ℕ → (ℕ → ℕ) → ℕ → ℕ
lower d x i = if nat_lt d i then x i else 0

-- what Code holds of a column: all of it before its panel, nothing while the panel is open, and then what is at and above the diagonal
unfoldable pub code_part : Stage → ℕ → (ℕ → ℕ) → ℕ → ℕ
code_part Ahead d x i = x i
code_part Open d x i = 0
code_part Closed d x i = upper d x i

-- what Low holds of it: what is below the diagonal, once the panel is closed
unfoldable pub low_part : Stage → ℕ → (ℕ → ℕ) → ℕ → ℕ
low_part Ahead d x i = 0
low_part Open d x i = 0
low_part Closed d x i = lower d x i

-- what Open holds of it
unfoldable pub open_part : Stage → ℕ → (ℕ → ℕ) → ℕ → ℕ
open_part Ahead d x i = 0
open_part Open d x i = x i
open_part Closed d x i = 0

-- the law of the code columns of one group: column q of n stands in stage q, its diagonal is at row d q, and its words are x q
pub record IsCoded (p n : ℕ) (w : ℕ → ℕ) (stage : ℕ → Stage) (d : ℕ → ℕ) (x : ℕ → ℕ → ℕ) (code low open_words : ℕ → ℕ) : Type 0 where
  pub code_is : (i : ℕ) → code i % p ≡ sum_to n (λ q. w q * code_part (stage q) (d q) (x q) i) % p
  pub low_is : (i : ℕ) → low i % p ≡ sum_to n (λ q. w q * low_part (stage q) (d q) (x q) i) % p
  pub open_is : (i : ℕ) → open_words i % p ≡ sum_to n (λ q. w q * open_part (stage q) (d q) (x q) i) % p

-- what a panel of n columns from first on does to a column: it is carried where its own panel comes later, its rows are exchanged where that is closed, and it stays where it is the panel itself
unfoldable pub after_panel : ℕ → (ℕ → ℕ) → (ℕ → ℕ → ℕ) → List ℕ → ℕ → ℕ → Stage → (ℕ → ℕ) → ℕ → ℕ
after_panel p inverse l v first n Ahead x = carried p inverse l v first n x
after_panel p inverse l v first n Open x = x
after_panel p inverse l v first n Closed x = exchanged v first n x

-- the stage of column k where the columns before `first` are closed, and the next `width` are open
unfoldable pub stage_at : ℕ → ℕ → ℕ → Stage
stage_at first width k = if nat_lt k first then Closed else if nat_lt k (first + width) then Open else Ahead

-- column k in the midst of a panel's work: the panel's own columns are those of t already, and the others those of s
unfoldable pub between : ℕ → ℕ → (ℕ → ℕ → ℕ) → (ℕ → ℕ → ℕ) → ℕ → ℕ → ℕ
between first width s t k i = if nat_lt k first then s i k else if nat_lt k (first + width) then t i k else s i k

-- the columns of a group but for `at` are outside the panel
pub record IsOwn (first width columns at : ℕ) (col : ℕ → ℕ) : Type 0 where
  pub is_column : at < columns
  pub from : first ≤ col at
  pub before : col at < first + width
  pub others : (q : ℕ) → q < columns → q ≢ at → (col q < first) ⊎ (first + width ≤ col q)

-- no column of the group is among those from `first` to `end`
pub record IsOutside (first end columns : ℕ) (col : ℕ → ℕ) : Type 0 where
  pub outside : (q : ℕ) → q < columns → (col q < first) ⊎ (end ≤ col q)
