-- The limits of a script, each a number: what is more is refused.
use Rattle.std.specs.Prelude.{ℕ}

-- the lines of a script
abbrev pub line_limit : ℕ
line_limit = 4096

-- the live matrices, and the live pivot lists, at each line
abbrev pub live_limit : ℕ
live_limit = 16

-- the `matrix` lines of a script
abbrev pub matrix_limit : ℕ
matrix_limit = 256

-- the words of the matrices that `print` lines name, together
abbrev pub printed_limit : ℕ
printed_limit = 268435456

-- the messages that a link holds
abbrev pub capacity_limit : ℕ
capacity_limit = 64

-- a number of an `order` line
abbrev pub order_limit : ℕ
order_limit = 4095

-- the numbers of all `order` lines together
abbrev pub orders_limit : ℕ
orders_limit = 65536

-- the number of a `spares` line
abbrev pub spares_limit : ℕ
spares_limit = 4096

-- the bound on the records of a script
abbrev pub record_limit : ℕ
record_limit = 4194304
