use Rattle.std.proofs.Common.{arith}
use Rattle.script_bounds.proofs.Sizes.{matrix_recovery-few}
use Rattle.script_bounds.proofs.steps.matrix_recovery.Goals as goal

pub returns-clause-few : goal.returns-clause-few
returns-clause-few c =
    matrix_recovery-few c.from.result c.groups_in.result c.from-code.result c.from-2.result (omega (arith, c.requires.rows, c.from.ensures)) c.groups_in.ensures.few
    (omega (arith, c.requires.code_columns, c.from-code.ensures)) (omega (arith, c.requires.columns, c.from-2.ensures))
