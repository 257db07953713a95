use Rattle.std.proofs.Common.{◌+◌, ◌%◌, ◌∙◌, arith}
use Rattle.serial_machine.proofs.Errors.{with_error-inside, with_error-outside}
use Rattle.serial_machine.proofs.wrong.add_error.Goals as goal
use Rattle.serial_machine.proofs.wrong.add_error.Goals.{else-flip-gt0-via-then-flip-gt0+then-flip-rows+then-flip-gt0-2+else-flip-cols, else-flip-gt0-via-then-flip-gt0+then-flip-rows+else-flip-gt0-2, else-flip-gt0-via-then-flip-gt0+else-flip-rows, else-flip-gt0-via-else-flip-gt0}

pub returns-then-flip-cols : goal.returns-then-flip-cols
returns-then-flip-cols g c =
    with_error-inside _ _ _ c.args.flip _ _ _ c.requires (omega arith) (omega arith) (c.add-word.ensures ∙ (λ t. (c.get.ensures t + c.args.flip.error % c.MODULUS.ensures t) % g.K.Field.MODULUS)) c.set.ensures

pub returns-else-flip-gt0 : goal.returns-else-flip-gt0
returns-else-flip-gt0 g c =
    with_error-outside _ _ c.args.flip c.rows-rows.ensures.shaped c.requires
    (λ h1 h2 h3 h4. elim c.else-flip-gt0.branch [
      | else-flip-gt0-via-then-flip-gt0+then-flip-rows+then-flip-gt0-2+else-flip-cols w ↦ omega (arith, c.cols-cols.ensures)
      | else-flip-gt0-via-then-flip-gt0+then-flip-rows+else-flip-gt0-2 w ↦ omega arith
      | else-flip-gt0-via-then-flip-gt0+else-flip-rows w ↦ omega (arith, c.rows-rows.ensures.value)
      | else-flip-gt0-via-else-flip-gt0 w ↦ omega arith
    ])
