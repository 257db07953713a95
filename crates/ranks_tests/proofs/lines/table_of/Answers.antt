use Rattle.ranks_tests.proofs.Factored.{grids-within, laid-out}
use Rattle.ranks_tests.proofs.lines.table_of.Goals as goal

pub lines_of-requires : goal.lines_of-requires
lines_of-requires g c =
    let s = c.script_of-script.result in
    let e = c.script_of-script.ensures in
    record { grids = grids-within s e; laid_out = laid-out s e }
