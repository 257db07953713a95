-- Whether all pending flips of a name pass a test, command by command.
use Rattle.std.specs.Prelude.{ℕ, if◌then◌else◌, Bool, true, ◌&&◌, nat_lt, List, [], ◌∷◌}
use Rattle.std.specs.Str.{bytes_eq}
use Rattle.run_data.specs.declared.command.Command.{Command}
use Rattle.run_data.specs.declared.command.Command.TheVariants as c
use Rattle.run_data.specs.declared.flips.Flip.{Flip}
use Rattle.run_data.specs.Script.{Numbered}

-- whether they do after a command on a line, where `before` says so of those before it
abbrev pub all_after : ℕ → Command → List ℕ → (Flip → Bool) → Bool → Bool
all_after line (c.Flip flipped i j x) name test before = if bytes_eq flipped name then before && test (record { line = line; row = i; column = j; error = x }) else before
all_after line (c.Pverify verified) name test before = if bytes_eq verified name then true else before
all_after line (c.Discard dropped) name test before = if bytes_eq dropped name then true else before
all_after line (c.Grid made p q f) name test before = before
all_after line (c.Matrix made grid m n mb nb rsrc csrc file) name test before = before
all_after line (c.Pgemm transa transb m n k alpha a ia ja b ib jb beta x ic jc) name test before = before
all_after line (c.Ptrsm side uplo transa diag m n alpha a ia ja b ib jb) name test before = before
all_after line (c.Pgetrf m n a ia ja v) name test before = before
all_after line (c.Pgetrs trans n nrhs a ia ja v b ib jb) name test before = before
all_after line (c.Pgemr2d m n a ia ja b ib jb ctxt) name test before = before
all_after line (c.Print printed) name test before = before
all_after line (c.Pivots list) name test before = before
all_after line (c.Topology kind) name test before = before
all_after line (c.Links n) name test before = before
all_after line (c.Order numbers) name test before = before
all_after line (c.Lose at rank) name test before = before
all_after line (c.Spares n) name test before = before
all_after line (c.Field n) name test before = before
all_after line (c.Ptran m n alpha a ia ja beta x ic jc) name test before = before
all_after line (c.Pgetri n a ia ja v b ib jb) name test before = before

-- the same after those of these commands that stand before a line
abbrev pub all_from : List Numbered → ℕ → List ℕ → (Flip → Bool) → Bool → Bool
all_from [] line name test before = before
all_from (n ∷ ns) line name test before = all_from ns line name test (if nat_lt n.line line then all_after n.line n.command name test before else before)
