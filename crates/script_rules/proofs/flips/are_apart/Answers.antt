use Rattle.std.proofs.Common.{[], sym}
use Rattle.run_data.specs.Script.{commands_of}
use Rattle.script_rules.specs.Rules.{is_apart}
use Rattle.script_rules.proofs.Flipping.{all-from}
use Rattle.script_rules.proofs.flips.are_apart.Goals as goal

pub loop-at-init : goal.loop-at-init
loop-at-init c = sym (all-from (commands_of c.args.script.now) c.args.line c.args.name.now (is_apart c.args.a c.args.i c.args.j) [])
