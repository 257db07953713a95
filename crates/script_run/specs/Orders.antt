-- The numbers by which the rank of each step is picked.
use Rattle.std.specs.Prelude.{ℕ, List, [], ◌∷◌, ◌++◌}
use Rattle.run_data.specs.declared.command.Command.{Command}
use Rattle.run_data.specs.declared.command.Command.TheVariants as c
use Rattle.run_data.specs.Script.{Numbered}

-- those of an `order` line
abbrev pub numbers_made : Command → List ℕ
numbers_made (c.Order numbers) = numbers
numbers_made (c.Grid name p q f) = []
numbers_made (c.Matrix name grid m n mb nb rsrc csrc file) = []
numbers_made (c.Pgemm transa transb m n k alpha a ia ja b ib jb beta x ic jc) = []
numbers_made (c.Ptrsm side uplo transa diag m n alpha a ia ja b ib jb) = []
numbers_made (c.Pgetrf m n a ia ja v) = []
numbers_made (c.Pgetrs trans n nrhs a ia ja v b ib jb) = []
numbers_made (c.Pgemr2d m n a ia ja b ib jb ctxt) = []
numbers_made (c.Print name) = []
numbers_made (c.Pivots name) = []
numbers_made (c.Discard name) = []
numbers_made (c.Topology kind) = []
numbers_made (c.Links n) = []
numbers_made (c.Lose at rank) = []
numbers_made (c.Spares n) = []
numbers_made (c.Field n) = []
numbers_made (c.Ptran m n alpha a ia ja beta x ic jc) = []
numbers_made (c.Pgetri n a ia ja v b ib jb) = []
numbers_made (c.Flip name i j x) = []
numbers_made (c.Pverify name) = []

-- several such lines are joined
abbrev pub numbers_in : List Numbered → List ℕ
numbers_in [] = []
numbers_in (n ∷ ns) = numbers_made n.command ++ numbers_in ns
