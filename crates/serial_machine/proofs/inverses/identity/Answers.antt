use Rattle.std.proofs.Common.{◌∙◌, arith}
use Rattle.serial_machine.proofs.Ones.{ones_start, ones_go_on, ones_end, rows_so_far, cols_so_far}
use Rattle.serial_machine.proofs.inverses.identity.Goals as goal

pub set-requires-clause-row : goal.set-requires-clause-row
set-requires-clause-row c = omega (arith, rows_so_far _ _ _ c.loop-i.invariant, c.loop-i-test.true)

pub set-requires-clause-column : goal.set-requires-clause-column
set-requires-clause-column c = omega (arith, cols_so_far _ _ _ c.loop-i.invariant, c.loop-i-test.true)

pub loop-i-init : goal.loop-i-init
loop-i-init c = c.in_ok-ones.ensures ∙ ones_start c.args.n

pub loop-i-preserved : goal.loop-i-preserved
loop-i-preserved c = ones_go_on _ _ _ _ c.loop-i.invariant c.set.ensures

pub returns : goal.returns
returns c =
    let end = c.loop-i-test.false in
    ones_end _ _ _ c.loop-i.invariant (omega arith)
