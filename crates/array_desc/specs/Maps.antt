-- The block-cyclic map of one dimension (ScaLAPACK Users' Guide, section 4.3; TOOLS routines NUMROC, INDXG2P, INDXG2L, INDXL2G).
-- Indices, local places and processes count from 0. `nb` is the block size, `src` the process that holds the first block,
-- `procs` how many processes there are.
use Rattle.std.specs.Prelude.{◌≡◌, ℕ, zero, suc, ◌+◌, ◌-◌, ◌*◌, ◌/◌, ◌%◌, ◌<◌, ◌==◌, Bool, if◌then◌else◌, max}

-- the process that holds index g
abbrev pub owner : ℕ → ℕ → ℕ → ℕ → ℕ
owner g nb src procs = (src + g / nb) % procs

-- the local place of index g on its owner
abbrev pub local : ℕ → ℕ → ℕ → ℕ
local g nb procs = nb * (g / (nb * procs)) + g % nb

-- how many processes after the source a process comes, going round
abbrev pub distance : ℕ → ℕ → ℕ → ℕ
distance proc src procs = (procs + proc - src) % procs

-- the index at local place l of process proc
abbrev pub global : ℕ → ℕ → ℕ → ℕ → ℕ → ℕ
global l nb proc src procs = nb * (procs * (l / nb) + distance proc src procs) + l % nb

-- how many numbers below n pass a test
abbrev pub count_below : ℕ → (ℕ → Bool) → ℕ
count_below zero f = 0
count_below (suc n) f = count_below n f + (if f n then 1 else 0)

-- how many of the indices below n lie on process proc
abbrev pub numroc : ℕ → ℕ → ℕ → ℕ → ℕ → ℕ
numroc n nb proc src procs = count_below n (λ i. owner i nb src procs == proc)

-- the indices below n that lie on proc have the local places 0 to count - 1, each place once, in the order of the indices
pub record AreNumbered (n nb proc src procs count : ℕ) : Type 0 where
  pub below : (i : ℕ) → i < n → owner i nb src procs ≡ proc → local i nb procs < count
  pub once : (i j : ℕ) → owner i nb src procs ≡ proc → owner j nb src procs ≡ proc → local i nb procs ≡ local j nb procs → i ≡ j
  pub each : (l : ℕ) → l < count → (i : ℕ) × (i < n) × (owner i nb src procs ≡ proc) × (local i nb procs ≡ l)
  pub in_order : (i j : ℕ) → owner i nb src procs ≡ proc → owner j nb src procs ≡ proc → i < j → local i nb procs < local j nb procs

-- a / b, rounded up
abbrev pub ceil_div : ℕ → ℕ → ℕ
ceil_div a b = (a + b - 1) / b

-- how many groups n columns make: a group is q block columns side by side, the last group may have fewer
abbrev pub groups : ℕ → ℕ → ℕ → ℕ
groups n nb q = ceil_div (ceil_div n nb) q

-- the group of a block column
abbrev pub group_of : ℕ → ℕ → ℕ
group_of block q = block / q

-- the block column of a group that lies on process column col
abbrev pub block_in : ℕ → ℕ → ℕ → ℕ → ℕ
block_in group col src q = group * q + distance col src q

-- the greatest of f 0, .., f (n - 1), and 0 where n is 0
abbrev pub greatest_below : ℕ → (ℕ → ℕ) → ℕ
greatest_below zero f = 0
greatest_below (suc n) f = max (greatest_below n f) (f n)

-- the greatest number of local rows that a process row has
abbrev pub most_rows : ℕ → ℕ → ℕ → ℕ → ℕ
most_rows m mb p rsrc = greatest_below p (λ row. numroc m mb row rsrc p)
