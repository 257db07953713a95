use Rattle.std.proofs.Common.{sym, subst}
use Rattle.rank_machine.specs.Scripts.{setting_of}
use Rattle.script_lines.specs.Sound.{IsSound}
use Rattle.script_run.proofs.AcceptedSound.{accepted-sound}
use Rattle.script_run.proofs.opening.open_world.Goals as goal

pub open-requires-clause-sound : goal.open-requires-clause-sound
open-requires-clause-sound g c =
    subst (λ p. IsSound p (setting_of c.args.script.now c.args.files.now)) (sym c.requires.field) (accepted-sound c.args.script.now c.args.files.now c.requires.runnable)
