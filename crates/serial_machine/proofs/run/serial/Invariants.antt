use Rattle.std.proofs.Common.{suc, drop}
use Rattle.field_core.specs.Residue.{inverse}
use Rattle.run_data.specs.Script.{commands_of, commands_from}
use Rattle.rank_machine.specs.Scripts.{file_of}
use Rattle.serial_model.specs.Serial.{texts_under, no_values}
use Rattle.serial_machine.specs.Values.{values_of}
use Rattle.serial_machine.proofs.Running.{InRun}
use Rattle.serial_machine.proofs.run.serial.Given as goal

abbrev pub invariant-loop-i : goal.invariant-loop-i
invariant-loop-i g l =
    let p = g.K.Field.MODULUS in
    let script = commands_of l.script in
    InRun p (inverse p) script l.files (texts_under p (inverse p) script (file_of l.files) script no_values) (commands_from (suc l.i) (drop l.i l.lines)) (values_of l.values.entries.items) l.out.items
