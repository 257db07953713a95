use Rattle.script_run.proofs.Driving.{world-mendable, line-driven}
use Rattle.script_run.proofs.lines.drive_line.Goals as goal

pub drive-requires-clause-mendable : goal.drive-requires-clause-mendable
drive-requires-clause-mendable g c = world-mendable c.args.script.now c.args.world.now.files c.args.done c.args.world.now c.args._out.now c.requires.runnable c.requires.before

pub returns-clause-driven : goal.returns-clause-driven
returns-clause-driven g c =
    let ended = c.drive.ensures in
    line-driven c.args.script.now c.args.world.now.files c.args.done (g.H.Phase.plan (g.H.Phase.task c.args.phase.now)) (g.H.Phase.progress c.drive.new.phase) c.args.world.now c.drive.new.world c.args._out.now
    c.requires.runnable c.requires.before c.requires.line (record { legal = c.journal-running.ensures.legal; in_place = c.journal-running.ensures.in_place })
    c.drive.result ended.driven ended.costs ended.in_time ended.goes ended.short ended.holds
