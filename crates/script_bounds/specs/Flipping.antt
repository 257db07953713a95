-- How many flips of a name are pending, command by command.
use Rattle.std.specs.Prelude.{ℕ, ◌+◌, if◌then◌else◌, nat_lt, List, [], ◌∷◌}
use Rattle.std.specs.Str.{bytes_eq}
use Rattle.run_data.specs.declared.command.Command.{Command}
use Rattle.run_data.specs.declared.command.Command.TheVariants as c
use Rattle.run_data.specs.Script.{Numbered}

-- after one more command, where so many are pending before it
abbrev pub count_after : Command → List ℕ → ℕ → ℕ
count_after (c.Flip flipped i j x) name before = if bytes_eq flipped name then before + 1 else before
count_after (c.Pverify verified) name before = if bytes_eq verified name then 0 else before
count_after (c.Discard dropped) name before = if bytes_eq dropped name then 0 else before
count_after (c.Grid made p q f) name before = before
count_after (c.Matrix made grid m n mb nb rsrc csrc file) name before = before
count_after (c.Pgemm transa transb m n k alpha a ia ja b ib jb beta x ic jc) name before = before
count_after (c.Ptrsm side uplo transa diag m n alpha a ia ja b ib jb) name before = before
count_after (c.Pgetrf m n a ia ja v) name before = before
count_after (c.Pgetrs trans n nrhs a ia ja v b ib jb) name before = before
count_after (c.Pgemr2d m n a ia ja b ib jb ctxt) name before = before
count_after (c.Print printed) name before = before
count_after (c.Pivots list) name before = before
count_after (c.Topology kind) name before = before
count_after (c.Links n) name before = before
count_after (c.Order numbers) name before = before
count_after (c.Lose at rank) name before = before
count_after (c.Spares n) name before = before
count_after (c.Field n) name before = before
count_after (c.Ptran m n alpha a ia ja beta x ic jc) name before = before
count_after (c.Pgetri n a ia ja v b ib jb) name before = before

-- after those of these commands that stand before a line
abbrev pub count_from : List Numbered → ℕ → List ℕ → ℕ → ℕ
count_from [] line name before = before
count_from (n ∷ ns) line name before = count_from ns line name (if nat_lt n.line line then count_after n.command name before else before)
