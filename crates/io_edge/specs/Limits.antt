-- The limit of a file.
use Rattle.std.specs.Prelude.{ℕ}

-- the greatest number of bytes of a file that is read
abbrev pub file_limit : ℕ
file_limit = 16777216
