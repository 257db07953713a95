-- The lines that the ranks can run so far.
use Rattle.std.specs.Prelude.{ℕ, if◌then◌else◌, Bool, true, false, List, [], ◌∷◌, Option, Some, None}
use Rattle.run_data.specs.declared.command.Command.{Command}
use Rattle.run_data.specs.declared.command.Command.TheVariants as c
use Rattle.run_data.specs.Script.{Numbered}

-- the commands that the ranks can run
abbrev pub can_run : Command → Bool
can_run (c.Grid name p q f) = true
can_run (c.Matrix name grid m n mb nb rsrc csrc file) = true
can_run (c.Print name) = true
can_run (c.Discard name) = true
can_run (c.Links n) = true
can_run (c.Order numbers) = true
can_run (c.Spares n) = true
can_run (c.Field n) = true
can_run (c.Pgemm transa transb m n k alpha a ia ja b ib jb beta x ic jc) = false
can_run (c.Ptrsm side uplo transa diag m n alpha a ia ja b ib jb) = false
can_run (c.Pgetrf m n a ia ja v) = false
can_run (c.Pgetrs trans n nrhs a ia ja v b ib jb) = false
can_run (c.Pgemr2d m n a ia ja b ib jb ctxt) = false
can_run (c.Ptran m n alpha a ia ja beta x ic jc) = false
can_run (c.Pgetri n a ia ja v b ib jb) = false
can_run (c.Flip name i j x) = false
can_run (c.Pverify name) = false
can_run (c.Pivots name) = false
can_run (c.Topology kind) = true
can_run (c.Lose at rank) = true

-- the first line that they can't run
abbrev pub first_unrunnable : List Numbered → Option ℕ
first_unrunnable [] = None
first_unrunnable (n ∷ ns) = if can_run n.command then first_unrunnable ns else Some n.line
