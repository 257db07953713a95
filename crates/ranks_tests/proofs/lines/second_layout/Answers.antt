use Rattle.std.proofs.Common.{◌∙◌}
use Rattle.ranks_tests.proofs.Factored.{makes-six, laid-out}
use Rattle.ranks_tests.proofs.lines.second_layout.Goals as goal

pub layout_in-requires : goal.layout_in-requires
layout_in-requires g c =
    let s = c.script_of-script.result in
    let e = c.script_of-script.ensures in
    record { grids = c.as_slice.ensures.value ∙ c.grids-grids.ensures; makes = makes-six s e; laid_out = laid-out s e 6 (makes-six s e) }
