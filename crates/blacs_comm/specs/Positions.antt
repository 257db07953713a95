-- Positions among the members of a scope, which count from the root, and the position from which each gets its message.
use Rattle.std.specs.Prelude.{◌≢◌, ℕ, ◌+◌, ◌-◌, ◌/◌, ◌%◌, ◌<◌}
use Rattle.blacs_comm.specs.declared.topology.Topology.{Topology}
use Rattle.blacs_comm.specs.declared.topology.Topology.TheVariants.{I, D, T}

-- the number of the member at a position, which counts from the root
abbrev pub place_of : Topology → ℕ → ℕ → ℕ → ℕ
place_of I n root i = (root + i) % n
place_of D n root i = (root + (n - i)) % n
place_of T n root i = (root + i) % n

-- the position from which a position gets its message
abbrev pub sender_of : Topology → ℕ → ℕ
sender_of I i = i - 1
sender_of D i = i - 1
sender_of T i = (i - 1) / 2

-- the rank at a position, of `count` members
abbrev pub rank_at : (ℕ → ℕ) → ℕ → Topology → ℕ → ℕ → ℕ
rank_at member count topology root i = member (place_of topology count root i)

-- no rank is a member twice
abbrev pub AreDistinct : (ℕ → ℕ) → ℕ → Type 0
AreDistinct member count = (i j : ℕ) → i < j → j < count → member i ≢ member j
