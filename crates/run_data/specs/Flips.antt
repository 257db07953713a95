-- The flips of a matrix that are pending: those since its last pverify line, as seen from a line.
use Rattle.std.specs.Prelude.{ℕ, if◌then◌else◌, nat_lt, List, [], ◌∷◌, ◌++◌}
use Rattle.std.specs.Str.{bytes_eq}
use Rattle.run_data.specs.declared.command.Command.{Command}
use Rattle.run_data.specs.declared.command.Command.TheVariants as c
use Rattle.run_data.specs.declared.flips.Flip.{Flip}
use Rattle.run_data.specs.Script.{Numbered}

-- the pending flips of a name, after one more command on a line
abbrev pub pending_after : ℕ → Command → List ℕ → List Flip → List Flip
pending_after line (c.Grid made p q f) name before = before
pending_after line (c.Matrix made grid m n mb nb rsrc csrc file) name before = before
pending_after line (c.Pgemm transa transb m n k alpha a ia ja b ib jb beta x ic jc) name before = before
pending_after line (c.Ptrsm side uplo transa diag m n alpha a ia ja b ib jb) name before = before
pending_after line (c.Pgetrf m n a ia ja v) name before = before
pending_after line (c.Pgetrs trans n nrhs a ia ja v b ib jb) name before = before
pending_after line (c.Pgemr2d m n a ia ja b ib jb ctxt) name before = before
pending_after line (c.Print printed) name before = before
pending_after line (c.Pivots list) name before = before
pending_after line (c.Topology kind) name before = before
pending_after line (c.Links n) name before = before
pending_after line (c.Order numbers) name before = before
pending_after line (c.Lose at rank) name before = before
pending_after line (c.Spares n) name before = before
pending_after line (c.Field n) name before = before
pending_after line (c.Ptran m n alpha a ia ja beta x ic jc) name before = before
pending_after line (c.Pgetri n a ia ja v b ib jb) name before = before
pending_after line (c.Flip flipped i j x) name before = if bytes_eq flipped name then before ++ record { line = line; row = i; column = j; error = x } ∷ [] else before
pending_after line (c.Pverify verified) name before = if bytes_eq verified name then [] else before
pending_after line (c.Discard dropped) name before = if bytes_eq dropped name then [] else before

-- the same after those of these commands that stand before a line
abbrev pub pending_from : List Numbered → ℕ → List ℕ → List Flip → List Flip
pending_from [] line name before = before
pending_from (n ∷ ns) line name before = pending_from ns line name (if nat_lt n.line line then pending_after n.line n.command name before else before)

-- the pending flips of a name as seen from a line: those of earlier lines with no pverify line of it, and no drop, between
abbrev pub pending : List Numbered → ℕ → List ℕ → List Flip
pending ns line name = pending_from ns line name []
